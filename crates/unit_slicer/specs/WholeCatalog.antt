-- When a slice is enough to choose from: a choice from the whole catalog has its part in the slice.
use Rattle.std.specs.Prelude.{◌≡◌, ◌⊎◌, IsTrue, List, [], ◌∷◌, All, Contains}
use Rattle.ldap_filter.specs.EnvPairs.{EnvPair}
use Rattle.unit_model.specs.Applies.{filter_true}
use Rattle.unit_model.specs.Slice.{IsInSlice}
use Rattle.unit_model.specs.Valid.{IsValid}
use Rattle.unit_model.specs.declared.name.UnitName.{UnitName}
use Rattle.unit_model.specs.declared.unit.Unit.{Unit as Package}

-- Those of the elements that have the property, in their order.
abbrev pub IsPart : {X : Type 0} → (X → Type 0) → List X → List X → Type 0
IsPart P [] part = part ≡ []
IsPart {X} P (x ∷ xs) part = (P x × (rest : List X) × (part ≡ x ∷ rest) × IsPart P xs rest) ⊎ (¬ (P x) × IsPart P xs part)

-- Any units of the catalog have a part in the slice.
abbrev pub HasParts : List Package → List UnitName → List EnvPair → Type 0
HasParts units roots env =
    (chosen : List Package) → All (Contains units) chosen → (part : List Package) × IsPart (IsInSlice units roots env) chosen part

-- Each requirement of a unit in the slice is greedy or has a least number of 0, where its filter is true.
abbrev pub NeedsGreedily : List Package → List UnitName → List EnvPair → Type 0
NeedsGreedily units roots env =
    (u : Package) → IsInSlice units roots env u → All (λ r. IsTrue (filter_true env r.filter) → IsTrue r.greedy ⊎ (r.min ≡ 0)) u.required

-- Of any units of the catalog that are valid for some of the roots, those in the slice are valid for these roots.
abbrev pub KeepsValid : List Package → List UnitName → List EnvPair → Type 0
KeepsValid units roots env =
    (some : List UnitName) (chosen part : List Package) → All (Contains roots) some → All (Contains units) chosen → IsValid chosen some env → IsPart (IsInSlice units roots env) chosen part → IsValid part some env
