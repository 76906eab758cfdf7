-- Facts on the names of units.
pub use Rattle.inf_values.proofs.NameLemmas.{same_name-is}
use Rattle.std.proofs.Common.{◌≡◌, ◌||◌, List, [], ◌∷◌, ◌++◌, sym, ◌∙◌}
use Rattle.std.proofs.lemmas.List.Folds.{list_any-append}
use Rattle.unit_model.specs.declared.name.UnitName.{UnitName}
use Rattle.unit_model.specs.declared.unit.Unit.{Unit}
use Rattle.inf_values.specs.NameKeys.{is_among}
use Rattle.inf_values.proofs.NameLemmas.{or_false}
use Rattle.inf_reader.specs.UnitsOf.{same_name, has_name}

-- The names of the units are these, and no other.
abbrev pub HasNames : List UnitName → List Unit → Type 0
HasNames names units = (name : UnitName) → is_among names name ≡ has_name units name

-- one unit more
pub HasNames-more : (old new : List UnitName) (unit : Unit) (units : List Unit) → HasNames old units
    → ((other : UnitName) → is_among new other ≡ (is_among old other || same_name unit.name other)) → HasNames new (units ++ unit ∷ [])
HasNames-more old new unit units before added name =
    added name ∙ ((λ i. before name i || sym (or_false (same_name unit.name name)) i) ∙ sym (list_any-append (λ u. same_name u.name name) units (unit ∷ [])))
