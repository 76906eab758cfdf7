-- Facts on the order of keys.
use Rattle.std.proofs.Common.{◌≡◌, ◌≢◌, ◌⊎◌, ℕ, ◌<◌, ◌≤◌, [], ◌∷◌, Option, Some, None, option_map, option_and_then, inl, inr, arith, refl, sym, ap, ◌∙◌}
use Rattle.std.specs.Cmp.{nat_cmp_is}
use Rattle.std.specs.List.{slice_get}
use Rattle.std.specs.Ordering.{nat_cmp, ordering_then}
use Rattle.std.specs.declared.cmp.Ordering.{Ordering}
use Rattle.std.specs.declared.cmp.Ordering.TheVariants.{Less, Equal, Greater}
use Rattle.std.proofs.lemmas.Bool.{cases_order}
use Rattle.std.proofs.lemmas.Option.{same_Some}
use Rattle.inf_keys.specs.declared.fields.Single.TheVariants as single
use Rattle.inf_keys.specs.declared.fields.PropertyField.TheVariants as property
use Rattle.inf_keys.specs.declared.fields.ProvidedField.TheVariants as provided
use Rattle.inf_keys.specs.declared.fields.RequiredField.TheVariants as required
use Rattle.inf_keys.specs.declared.fields.ArtifactField.TheVariants as artifact
use Rattle.inf_keys.specs.declared.fields.Phase.{Phase}
use Rattle.inf_keys.specs.declared.fields.Phase.TheVariants as phase
use Rattle.inf_keys.specs.declared.fields.PhaseField.{PhaseField}
use Rattle.inf_keys.specs.declared.fields.PhaseField.TheVariants as phase_field
use Rattle.inf_keys.specs.declared.key.Owner.{Owner}
use Rattle.inf_keys.specs.declared.key.Owner.TheVariants.{Host, Unit}
use Rattle.inf_keys.specs.declared.key.Part.{Part}
use Rattle.inf_keys.specs.declared.key.Part.TheVariants as part
use Rattle.inf_keys.specs.declared.key.Key.{Key}
use Rattle.inf_keys.specs.NameTables.{every_single, every_property_field, every_provided_field, every_required_field, every_artifact_field, every_phase}
use Rattle.inf_keys.specs.Order.{owner_place, kind_place, row_place, field_place, key_cmp, InOneRow, IsUpTo}

-- a phase's part, by the places of the phase and of its field
abbrev instruction_at : Option Phase → Option PhaseField → Option Part
instruction_at None field = None
instruction_at (Some p) field = option_map (part.Instruction p) field

-- the part by its places
abbrev part_at : ℕ → ℕ → ℕ → Option Part
part_at kind row field =
    option_and_then (λ found. found) (slice_get
    (option_map part.Single (slice_get every_single field)
    ∷ option_map (part.Property row) (slice_get every_property_field field)
    ∷ option_map (part.Provided row) (slice_get every_provided_field field)
    ∷ option_map (part.Required row) (slice_get every_required_field field)
    ∷ option_map (part.Artifact row) (slice_get every_artifact_field field)
    ∷ instruction_at (slice_get every_phase row) (slice_get (phase_field.Text ∷ phase_field.Import ∷ []) field)
    ∷ []) kind)

part_again : (p : Part) → part_at (kind_place p) (row_place p) (field_place p) ≡ Some p
part_again (part.Single single.Id) = refl
part_again (part.Single single.Version) = refl
part_again (part.Single single.Singleton) = refl
part_again (part.Single single.Filter) = refl
part_again (part.Single single.UpdateId) = refl
part_again (part.Single single.UpdateRange) = refl
part_again (part.Single single.UpdateSeverity) = refl
part_again (part.Single single.UpdateDescription) = refl
part_again (part.Single single.TouchpointId) = refl
part_again (part.Single single.TouchpointVersion) = refl
part_again (part.Property n property.Name) = refl
part_again (part.Property n property.Value) = refl
part_again (part.Provided n provided.Namespace) = refl
part_again (part.Provided n provided.Name) = refl
part_again (part.Provided n provided.Version) = refl
part_again (part.Required n required.Namespace) = refl
part_again (part.Required n required.Name) = refl
part_again (part.Required n required.Range) = refl
part_again (part.Required n required.Greedy) = refl
part_again (part.Required n required.Optional) = refl
part_again (part.Required n required.Multiple) = refl
part_again (part.Required n required.Filter) = refl
part_again (part.Required n required.Min) = refl
part_again (part.Required n required.Max) = refl
part_again (part.Artifact n artifact.Classifier) = refl
part_again (part.Artifact n artifact.Id) = refl
part_again (part.Artifact n artifact.Version) = refl
part_again (part.Instruction phase.Collect phase_field.Text) = refl
part_again (part.Instruction phase.Collect phase_field.Import) = refl
part_again (part.Instruction phase.Unconfigure phase_field.Text) = refl
part_again (part.Instruction phase.Unconfigure phase_field.Import) = refl
part_again (part.Instruction phase.Uninstall phase_field.Text) = refl
part_again (part.Instruction phase.Uninstall phase_field.Import) = refl
part_again (part.Instruction phase.Install phase_field.Text) = refl
part_again (part.Instruction phase.Install phase_field.Import) = refl
part_again (part.Instruction phase.Configure phase_field.Text) = refl
part_again (part.Instruction phase.Configure phase_field.Import) = refl

same_part : (p q : Part) → kind_place p ≡ kind_place q → row_place p ≡ row_place q → field_place p ≡ field_place q → p ≡ q
same_part p q kind row field = same_Some p q (sym (part_again p) ∙ (λ i. part_at (kind i) (row i) (field i)) ∙ part_again q)

same_owner : (o p : Owner) → owner_place o ≡ owner_place p → o ≡ p
same_owner Host Host h = refl
same_owner Host (Unit n) h = absurd (omega (arith, h))
same_owner (Unit n) Host h = absurd (omega (arith, h))
same_owner (Unit n) (Unit m) h = let same : n ≡ m = omega (arith, h) in ap Unit same

less : (x y : ℕ) → x < y → nat_cmp x y ≡ Less
less x y h = sym (nat_cmp_is x y Less h)

equal : (x y : ℕ) → x ≡ y → nat_cmp x y ≡ Equal
equal x y h = sym (nat_cmp_is x y Equal h)

greater : (x y : ℕ) → y < x → nat_cmp x y ≡ Greater
greater x y h = sym (nat_cmp_is x y Greater h)

-- numbers, and then what comes behind them, are tied
tied : (x y : ℕ) (o : Ordering) → ordering_then (nat_cmp x y) o ≡ Equal → (x ≡ y) × (o ≡ Equal)
tied x y o h = by (cases_order x y)
  where
    by : (x ≡ y) ⊎ ((x < y) ⊎ (y < x)) → (x ≡ y) × (o ≡ Equal)
    by (inl e) = (e, ap (λ c. ordering_then c o) (sym (equal x y e)) ∙ h)
    by (inr (inl l)) = let e = ap (λ c. ordering_then c o) (sym (less x y l)) ∙ h in absurd (cc)
    by (inr (inr g)) = let e = ap (λ c. ordering_then c o) (sym (greater x y g)) ∙ h in absurd (cc)

-- numbers, and then what comes behind them, aren't greater
up_to : (x y : ℕ) (o : Ordering) → ordering_then (nat_cmp x y) o ≢ Greater → (x ≤ y) × (x ≡ y → o ≢ Greater)
up_to x y o h = by (cases_order x y)
  where
    by : (x ≡ y) ⊎ ((x < y) ⊎ (y < x)) → (x ≤ y) × (x ≡ y → o ≢ Greater)
    by (inl e) = (omega (arith, e), λ same is. h (ap (λ c. ordering_then c o) (equal x y e) ∙ is))
    by (inr (inl l)) = (omega (arith, l), λ same. absurd (omega (arith, l, same)))
    by (inr (inr g)) = absurd (h (ap (λ c. ordering_then c o) (greater x y g)))

pub exact : (a b : Key) → key_cmp a b ≡ Equal → a ≡ b
exact a b h =
    let owner = tied (owner_place a.owner) (owner_place b.owner) _ h in
    let kind = tied (kind_place a.part) (kind_place b.part) _ owner.1 in
    let row = tied (row_place a.part) (row_place b.part) _ kind.1 in
    let field : field_place a.part ≡ field_place b.part = by (cases_order (field_place a.part) (field_place b.part)) row.1 in
    let owners = same_owner a.owner b.owner owner.0 in
    let parts = same_part a.part b.part kind.0 row.0 field in
    λ i. record { owner = owners i; part = parts i }
  where
    by : (field_place a.part ≡ field_place b.part) ⊎ ((field_place a.part < field_place b.part) ⊎ (field_place b.part < field_place a.part))
        → nat_cmp (field_place a.part) (field_place b.part) ≡ Equal → field_place a.part ≡ field_place b.part
    by (inl e) is = e
    by (inr (inl l)) is = let e = sym (less _ _ l) ∙ is in absurd (cc)
    by (inr (inr g)) is = let e = sym (greater _ _ g) ∙ is in absurd (cc)

pub owner_together : (a b c : Key) → IsUpTo a b → IsUpTo b c → a.owner ≡ c.owner → b.owner ≡ a.owner
owner_together a b c first second same =
    let ab = up_to (owner_place a.owner) (owner_place b.owner) _ first in
    let bc = up_to (owner_place b.owner) (owner_place c.owner) _ second in
    let ends = ap owner_place same in
    same_owner b.owner a.owner (omega (arith, ab.0, bc.0, ends))

pub row_together : (a b c : Key) → IsUpTo a b → IsUpTo b c → InOneRow a c → InOneRow a b
row_together a b c first second same =
    let owner = owner_together a b c first second same.0 in
    let ab = up_to (owner_place a.owner) (owner_place b.owner) _ first in
    let bc = up_to (owner_place b.owner) (owner_place c.owner) _ second in
    let ab_kind = up_to (kind_place a.part) (kind_place b.part) _ (ab.1 (ap owner_place (sym owner))) in
    let bc_kind = up_to (kind_place b.part) (kind_place c.part) _ (bc.1 (ap owner_place (owner ∙ same.0))) in
    let kinds = same.1 in
    let kind : kind_place a.part ≡ kind_place b.part = omega (arith, ab_kind.0, bc_kind.0, kinds) in
    let ab_row = up_to (row_place a.part) (row_place b.part) _ (ab_kind.1 kind) in
    let bc_row = up_to (row_place b.part) (row_place c.part) _ (bc_kind.1 (sym kind ∙ kinds)) in
    let rows = same.2 in
    let row : row_place a.part ≡ row_place b.part = omega (arith, ab_row.0, bc_row.0, rows) in
    (sym owner, kind, row)
