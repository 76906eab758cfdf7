-- There is one way to read keys, versions, ranges and filters.
pub use Rattle.inf_values.proofs.ReadingLemmas.{readings, readings_all, readings_once}
