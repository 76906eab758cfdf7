-- The hashes by which units are looked up.
use Rattle.std.specs.Prelude.{ℕ, List}
use Rattle.std.specs.Hash.{le_bytes}
use Rattle.std.specs.Hash.FoldHasher.{initial, write, finish}
use Rattle.unit_model.specs.declared.name.UnitName.{UnitName}

abbrev pub text_key : List ℕ → ℕ
text_key text = finish (write initial text)

abbrev pub pair_key : List ℕ → List ℕ → ℕ
pair_key namespace name = finish (write (write initial namespace) name)

abbrev pub name_key : UnitName → ℕ
name_key name =
    let id = write initial name.id in
    let numbers = write (write (write id (le_bytes 4 name.version.major)) (le_bytes 4 name.version.minor)) (le_bytes 4 name.version.micro) in
    finish (write numbers name.version.qualifier)
