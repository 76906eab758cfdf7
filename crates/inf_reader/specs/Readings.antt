-- How the texts of keys and values are read.
pub use Rattle.inf_values.specs.Readings.{Reads, Readings, ReadsAll, value_of}
