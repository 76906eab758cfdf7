-- What was read of some folders, as the code keeps it. Clauses of private functions alone cite this.
use Rattle.std.specs.Prelude.{◌≤◌, All, length}
use Rattle.inf_reader.specs.InForm.{IsUnitInForm}
use Rattle.director_source.specs.declared.gathering.Gathering.{Gathering}
use Rattle.director_source.specs.Source.{Gathered}

abbrev pub gathered_in : Gathering → Gathered
gathered_in g = record { bytes = g.bytes; units = g.catalog }

-- The units are in form, and neither they nor the bytes of the descriptions are more than they may be.
pub record IsGathering (g : Gathering) : Type 0 where
  pub in_form : All IsUnitInForm g.catalog
  pub few : length g.catalog ≤ 65536
  pub within : g.bytes ≤ 67108864
