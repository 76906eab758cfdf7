-- What a reader of a filter's text stands for. Clauses of private functions alone cite this.
use Rattle.std.specs.Prelude.{◌≡◌, ℕ, Option, Some, None, List, ◌∷◌, reverse, take}
use Rattle.ldap_filter.specs.FilterSteps.{Part, State, at_part, beginning, run}
use Rattle.ldap_filter.specs.FilterScan.{part_in, IsScanAt}
use Rattle.ldap_filter.specs.declared.frame.Frame.{Frame}
use Rattle.ldap_filter.specs.declared.scan.Scan.{Scan}
use Rattle.ldap_filter.specs.declared.scan.Stage.{Stage}
use Rattle.ldap_filter.specs.declared.reading.Reader.{Reader}

-- innermost first
abbrev pub frames_in : Reader → List Frame
frames_in r = r.inner ∷ reverse r.outer.items

abbrev pub seen : List ℕ → ℕ → Reader → State
seen text at r = at_part (frames_in r) (part_in text at r.scan)

-- The reader has read the text before the place `at`.
pub record IsReadTo (text : List ℕ) (at : ℕ) (r : Reader) : Type 0 where
  pub scanned : IsScanAt at r.scan
  pub read : run (take at text) beginning ≡ Some (seen text at r)

-- The next reader is at this stage of the scan, with the frames of this state; or there is neither.
abbrev pub IsNext : Scan → Stage → Part → Option State → Option Reader → Type 0
IsNext scan st part state None = state ≡ None
IsNext scan st part state (Some r) = (state ≡ Some (at_part (frames_in r) part)) × (r.scan ≡ record scan { stage = st })
