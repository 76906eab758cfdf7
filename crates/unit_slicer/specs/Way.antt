-- Where a search goes.
use Rattle.std.specs.Prelude.{ℕ, ⊤, Option, Some, None, Contains}
use denote.Ref.{Bor}
use Rattle.unit_model.specs.Slice.{IsGreedy, IsAny}
use Rattle.unit_model.specs.declared.required.Required.{Required}
use Rattle.unit_slicer.specs.Found.{Numbers}
use Rattle.unit_slicer.specs.declared.way.Links.{Links}
use Rattle.unit_slicer.specs.declared.way.Links.TheVariants as links

-- The requirement is of the kind that leads on.
abbrev pub MayLead : Links → Required → Type 0
MayLead links.Greedy r = IsGreedy r
MayLead links.All r = IsAny r

-- The number is one of those that were given, or none were.
abbrev pub IsAmong : Option (Bor Numbers) → ℕ → Type 0
IsAmong None n = ⊤
IsAmong (Some given) n = Contains given.now.found n
