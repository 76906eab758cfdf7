-- There is one way to read keys, versions, ranges and filters.
use Rattle.std.proofs.Common.{◌≡◌}
use Rattle.inf_keys.specs.KeyReading.{key_reading}
use Rattle.inf_keys.proofs.KeyLaws.{means, one_meaning}
use Rattle.inf_values.specs.Readings.{Readings, ReadsAll}
use Rattle.inf_values.proofs.VersionReadings.{version_read, version_once}
use Rattle.inf_values.proofs.RangeReadings.{range_read, range_once}
use Rattle.inf_values.proofs.FilterReadings.{filter_read, filter_once}

abbrev pub readings : Readings
readings = record { key = key_reading; version = λ text. (version_read text).0; range = λ text. (range_read text).0; filter = λ text. (filter_read text).0 }

pub readings_all : ReadsAll readings
readings_all = record { key = means; version = λ text. (version_read text).1; range = λ text. (range_read text).1; filter = λ text. (filter_read text).1 }

pub readings_once : (a b : Readings) → ReadsAll a → ReadsAll b → a ≡ b
readings_once a b one other = λ i. record {
  key = λ text. one_meaning text (a.key text) (b.key text) (one.key text) (other.key text) i;
  version = λ text. version_once text (a.version text) (b.version text) (one.version text) (other.version text) i;
  range = λ text. range_once text (a.range text) (b.range text) (one.range text) (other.range text) i;
  filter = λ text. filter_once text (a.filter text) (b.filter text) (one.filter text) (other.filter text) i;
}

-- Keys are read as what they mean.
pub keys_once : (read : Readings) → ReadsAll read → key_reading ≡ read.key
keys_once read reads = λ i text. one_meaning text (key_reading text) (read.key text) (means text) (reads.key text) i
