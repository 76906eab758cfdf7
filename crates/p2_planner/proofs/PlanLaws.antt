-- What a slice, an attempt and the settled roots mean for a plan.
use Rattle.std.proofs.Common.{◌≡◌, ℕ, inr, List, ◌++◌, get_or, sym, ap, ◌∙◌, subst}
use Rattle.std.specs.Prelude.{All, Contains, IsTrue, Result, Ok, Err, IfOk}
use Rattle.std.proofs.lemmas.List.{get_or-map, length-map}
use Rattle.std.proofs.lemmas.List.Elements.{All-contains, All-contains_itself, All-map, All-weaker, Contains-append_left, Contains-append_right, Contains-get_or}
use Rattle.std.proofs.lemmas.Option.{same_Some}
use Rattle.ldap_filter.specs.EnvPairs.{EnvPair}
use Rattle.unit_model.specs.Applies.{filter_true}
use Rattle.unit_model.specs.Slice.{HasChain, Begins, GoesOn, IsGreedy, IsInSlice}
use Rattle.unit_model.specs.Valid.{names, IsValid}
use Rattle.unit_model.specs.declared.name.UnitName.{UnitName}
use Rattle.unit_model.specs.declared.unit.Unit.{Unit as Package}
use Rattle.unit_catalog.specs.At.{HasAt}
use Rattle.unit_catalog.specs.Order.{AreMembers, units_at}
use Rattle.unit_slicer.specs.Members.{AreOfSlice}
use Rattle.unit_slicer.specs.RootedPart.{IsRootedPart, IsRootedIn}
use Rattle.unit_slicer.specs.WholeCatalog.{IsPart}
use Rattle.unit_slicer.proofs.RootedLaws.{number_of_unit}
use Rattle.unit_slicer.proofs.WholeCatalogLaws.{part_all}
use Rattle.pb_rows.specs.Members.{selected}
use Rattle.p2_planner.specs.Attempting.{IsFitting, IsSelectionOf, IsSettledPlan, IsPlannedBeside, IsPlannedFor}
use Rattle.p2_planner.specs.Planning.{IsSelection, IsPlanOf}
use Rattle.p2_planner.specs.Preferring.{ArePreferred}
use Rattle.p2_planner.specs.Selecting.{AllApply, SomeIsValid}
use Rattle.p2_planner.specs.declared.ask.Ask.{Ask}
use Rattle.p2_planner.specs.declared.planned.LeftOut.{LeftOut}
use Rattle.p2_planner.specs.declared.planned.Planned.{Planned}
use Rattle.p2_planner.specs.declared.planned.Planned.TheVariants as planned
use Rattle.p2_planner.proofs.PickLaws.{pick_units}
use Rattle.p2_planner.proofs.PreferLaws.{held_picked}
use Rattle.p2_planner.proofs.SettleLaws.{valid_for, settled_more, settled_all, left_is_out}

pub if_ok_weaker : {X E : Type 0} (P Q : X → Type 0) → ((x : X) → P x → Q x) → (r : Result X E) → IfOk r P → IfOk r Q
if_ok_weaker P Q to (Ok x) p = to x p
if_ok_weaker P Q to (Err e) p = tt

pub if_ok_three : {X E : Type 0} (P Q R S : X → Type 0) → ((x : X) → P x → Q x → R x → S x) → (r : Result X E) → IfOk r P → IfOk r Q → IfOk r R → IfOk r S
if_ok_three P Q R S to (Ok x) p q r = to x p q r
if_ok_three P Q R S to (Err e) p q r = tt

chain_applies : (units : List Package) (roots : List UnitName) (env : List EnvPair) (v : Package) → HasChain units IsGreedy roots env v → IsTrue (filter_true env v.filter)
chain_applies units roots env v (Begins u inside applies root) = applies
chain_applies units roots env v (GoesOn u w chain inside applies leads) = applies

-- the units of a slice apply
pub slice_applies : (units : List Package) (roots : List UnitName) (env : List EnvPair) (slice : List ℕ) → AreMembers units slice → AreOfSlice units roots env slice → AllApply env (units_at units slice)
slice_applies units roots env slice are all k d inside =
    let u : Package = get_or (units_at units slice) k d in
    let n = number_of_unit units slice are.there u (Contains-get_or (units_at units slice) k d inside) in
    let at = All-contains (HasAt units (IsInSlice units roots env)) slice n.0 all.each n.2 in
    chain_applies units roots env u (subst (IsInSlice units roots env) (same_Some at.unit u (sym at.here ∙ n.1)) at.has)

-- ---- names

member_named : (units : List Package) (u : Package) → Contains units u → Contains (names units) u.name
member_named units u has =
    let f : Package → UnitName = λ v. v.name in
    (has.0, rw (length-map units f) has.1, get_or-map f units has.0 u u.name has.1 ∙ ap f has.2)

names_among : (units part : List Package) → All (Contains units) part → All (Contains (names units)) (names part)
names_among units part among =
    All-map (Contains (names units)) (λ (u : Package). u.name) part
    (All-weaker (Contains units) (λ (u : Package). Contains (names units) u.name) (λ u has. member_named units u has) part among)

-- ---- what fits

module _ (ask : Ask) where
  abbrev Slice : List Package
  Slice = units_at ask.catalog.now ask.slice.now

  selected_units : (roots : List UnitName) (chosen : List ℕ) (fits : IsFitting ask roots chosen) → units_at ask.catalog.now chosen ≡ selected fits.full Slice
  selected_units roots chosen fits = ap (units_at ask.catalog.now) fits.picked_by ∙ pick_units ask.catalog.now 1 fits.full ask.slice.now ask.members.there

  selected_valid : (roots : List UnitName) (chosen : List ℕ) (fits : IsFitting ask roots chosen) → IsValid (selected fits.full Slice) roots ask.env.now
  selected_valid roots chosen fits = subst (λ (us : List Package). IsValid us roots ask.env.now) (selected_units roots chosen fits) fits.valid

  pub some_fits : (roots : List UnitName) (chosen : List ℕ) → IsFitting ask roots chosen → SomeIsValid Slice roots ask.env.now
  some_fits roots chosen fits = (fits.full, selected_valid roots chosen fits)

  -- the part of what fits that the wanted roots ask for
  pub selection_of : (kept wanted : List UnitName) (chosen part : List ℕ) → IsFitting ask kept chosen → AreMembers ask.catalog.now part
      → IsPart (HasAt ask.catalog.now (IsRootedIn (units_at ask.catalog.now chosen) wanted ask.env.now)) chosen part
      → IsRootedPart (units_at ask.catalog.now chosen) wanted ask.env.now (units_at ask.catalog.now part) → IsSelectionOf ask kept wanted part
  selection_of kept wanted chosen part fits members is rooted = record {
    chosen = chosen;
    fits = fits;
    members = members;
    among = part_all (HasAt ask.catalog.now (IsRootedIn (units_at ask.catalog.now chosen) wanted ask.env.now)) (Contains ask.slice.now) chosen part is fits.among;
    part = rooted;
  }

  module _ (strict optional : List UnitName) (installed : List ℕ) (preferred : ArePreferred ask.slice.now installed ask.preferred.now) where
    is_selection : (selection : List ℕ) (left : List LeftOut) → IsSettledPlan ask strict optional (strict ++ optional) selection left
        → IsSelection ask.catalog.now ask.slice.now installed strict optional ask.env.now ask.budget selection left
    is_selection selection left is = record {
      members = is.selected.members;
      among = is.selected.among;
      valid_strict = part.valid strict strict_wanted (valid_for (units_at ask.catalog.now chosen) is.kept strict ask.env.now strict_there fits.valid);
      roots = is.kept;
      settled = is.settled;
      valid = part.valid is.kept kept_wanted fits.valid;
      left_out = All-weaker (λ out. ¬ (Contains (names (selected fits.full Slice)) out.root)) (λ out. ¬ (Contains (names (units_at ask.catalog.now selection)) out.root))
          (λ out none has. none (in_chosen out.root has)) left
          (left_is_out Slice ask.env.now ask.budget fits.full strict optional is.kept left is.settled (selected_valid is.kept chosen fits));
      rooted = part.rooted;
      largest = λ held is_part valid.
          let same = held_picked ask.slice.now installed ask.preferred.now held preferred is_part in
          let all : chosen ≡ held = fits.preferred (subst (λ (ns : List ℕ). IsValid (units_at ask.catalog.now ns) is.kept ask.env.now) same valid) ∙ sym same in
          subst (λ (ns : List ℕ). IsRootedPart (units_at ask.catalog.now ns) (strict ++ optional) ask.env.now (units_at ask.catalog.now selection)) all part;
    }
      where
        chosen : List ℕ
        chosen = is.selected.chosen

        fits : IsFitting ask is.kept chosen
        fits = is.selected.fits

        part : IsRootedPart (units_at ask.catalog.now chosen) (strict ++ optional) ask.env.now (units_at ask.catalog.now selection)
        part = is.selected.part

        strict_wanted : All (Contains (strict ++ optional)) strict
        strict_wanted = All-weaker (Contains strict) (Contains (strict ++ optional)) (λ n has. Contains-append_left strict optional n has) strict (All-contains_itself strict)

        optional_wanted : All (Contains (strict ++ optional)) optional
        optional_wanted = All-weaker (Contains optional) (Contains (strict ++ optional)) (λ n has. Contains-append_right strict optional n has) optional (All-contains_itself optional)

        kept_wanted : All (Contains (strict ++ optional)) is.kept
        kept_wanted = settled_all Slice ask.env.now ask.budget (Contains (strict ++ optional)) strict optional is.kept left is.settled strict_wanted optional_wanted

        strict_there : All (Contains (names (units_at ask.catalog.now chosen))) strict
        strict_there = All-weaker (Contains is.kept) (Contains (names (units_at ask.catalog.now chosen)))
            (λ n has. All-contains (Contains (names (units_at ask.catalog.now chosen))) is.kept n fits.valid.roots has) strict
            (All-weaker (Contains strict) (Contains is.kept) (λ n has. settled_more Slice ask.env.now ask.budget strict optional is.kept left is.settled n has) strict (All-contains_itself strict))

        in_chosen : (n : UnitName) → Contains (names (units_at ask.catalog.now selection)) n → Contains (names (selected fits.full Slice)) n
        in_chosen n has =
            let among : All (Contains (units_at ask.catalog.now chosen)) (units_at ask.catalog.now selection) =
            part_all (IsRootedIn (units_at ask.catalog.now chosen) (strict ++ optional) ask.env.now) (Contains (units_at ask.catalog.now chosen)) (units_at ask.catalog.now chosen) (units_at ask.catalog.now selection) part.exact
            (All-contains_itself (units_at ask.catalog.now chosen)) in
            subst (λ (us : List Package). Contains (names us) n) (selected_units is.kept chosen fits)
            (All-contains (Contains (names (units_at ask.catalog.now chosen))) (names (units_at ask.catalog.now selection)) n (names_among (units_at ask.catalog.now chosen) (units_at ask.catalog.now selection) among) has)

    pub plan_of : (plan : Planned) → IsPlannedFor ask strict optional (strict ++ optional) plan → IsPlanOf ask.catalog.now ask.slice.now installed strict optional ask.env.now ask.budget plan
    plan_of (planned.Selection members left) is = is_selection members left is
    plan_of (planned.NoSelection evidence) is = is
    plan_of (planned.Spent evidence) is = is

  -- what is planned beside the strict roots, where these are settled
  pub planned_for : (strict optional wanted : List UnitName) (chosen : List ℕ) → IsFitting ask strict chosen → (plan : Planned) → IsPlannedBeside ask strict optional wanted plan → IsPlannedFor ask strict optional wanted plan
  planned_for strict optional wanted chosen fits (planned.Selection members left) is = is
  planned_for strict optional wanted chosen fits (planned.NoSelection evidence) is = absurd is
  planned_for strict optional wanted chosen fits (planned.Spent evidence) is = inr (some_fits strict chosen fits, is)
