-- One optional root after the other.
use Rattle.std.proofs.Common.{◌≡◌, ℕ, suc, ◌+◌, ◌<◌, inl, inr, None, List, [], ◌∷◌, ◌++◌, length, get_or, take, drop, sym, subst}
use Rattle.std.proofs.Math.Seq.{split_at}
use Rattle.std.proofs.lemmas.List.{take_more}
use Rattle.unit_model.specs.declared.name.UnitName.{UnitName}
use Rattle.unit_model.specs.declared.unit.Unit.{Unit as Package}
use Rattle.unit_catalog.specs.Order.{units_at}
use Rattle.p2_planner.specs.Attempting.{IsFitting, IsTooLargeFor, IsStep}
use Rattle.p2_planner.specs.Roots.{with_name}
use Rattle.p2_planner.specs.Settling.{AreSettled, ComesTo}
use Rattle.p2_planner.specs.declared.ask.Ask.{Ask}
use Rattle.p2_planner.specs.declared.settling.Settled.{Settled}
use Rattle.p2_planner.proofs.PlanLaws.{some_fits}
use Rattle.p2_planner.proofs.SettleLaws.{settled_kept, settled_left}

module _ (ask : Ask) (before optional : List UnitName) (i : ℕ) (root : UnitName) (inside : i < length optional) (item : root ≡ get_or optional i root) where
  abbrev Slice : List Package
  Slice = units_at ask.catalog.now ask.slice.now

  one_more : take (i + 1) optional ≡ take i optional ++ root ∷ []
  one_more = subst (λ (r : UnitName). take (i + 1) optional ≡ take i optional ++ r ∷ []) (sym item) (take_more optional i root inside)

  pub step_fits : (old new : Settled) → IsFitting ask old.roots old.chosen → IsStep ask (with_name root old.roots) root old new None → IsFitting ask new.roots new.chosen
  step_fits old new fits (inl kept) = subst (λ (rs : List UnitName). IsFitting ask rs new.chosen) (sym kept.roots) kept.fits
  step_fits old new fits (inr left) =
      subst (λ (rs : List UnitName). IsFitting ask rs new.chosen) (sym left.roots) (subst (IsFitting ask old.roots) (sym left.chosen) fits)

  pub step_settled : (old new : Settled) → AreSettled Slice ask.env.now ask.budget before (take i optional) old.roots old.left → ¬ (IsTooLargeFor ask (with_name root old.roots))
      → IsStep ask (with_name root old.roots) root old new None → AreSettled Slice ask.env.now ask.budget before (take (i + 1) optional) new.roots new.left
  step_settled old new settled few (inl kept) =
      let tried = with_name root old.roots in
      let more = settled_kept Slice ask.env.now ask.budget before (take i optional) old.roots old.left root settled few (some_fits ask tried new.chosen kept.fits) in
      subst (λ (os : List UnitName). AreSettled Slice ask.env.now ask.budget before os new.roots new.left) (sym one_more)
      (subst (λ (rs : List UnitName). AreSettled Slice ask.env.now ask.budget before (take i optional ++ root ∷ []) rs new.left) (sym kept.roots)
      (subst (AreSettled Slice ask.env.now ask.budget before (take i optional ++ root ∷ []) tried) (sym kept.left) more))
  step_settled old new settled few (inr left) =
      let more = settled_left Slice ask.env.now ask.budget before (take i optional) old.roots old.left root left.out settled few left.is in
      subst (λ (os : List UnitName). AreSettled Slice ask.env.now ask.budget before os new.roots new.left) (sym one_more)
      (subst (λ (rs : List UnitName). AreSettled Slice ask.env.now ask.budget before (take i optional ++ root ∷ []) rs new.left) (sym left.roots)
      (subst (AreSettled Slice ask.env.now ask.budget before (take i optional ++ root ∷ []) old.roots) (sym left.left) more))

  -- the roots with this one are come to
  pub comes_to : (P : List UnitName → Type 0) (old : Settled) → AreSettled Slice ask.env.now ask.budget before (take i optional) old.roots old.left → P (with_name root old.roots)
      → ComesTo P Slice ask.env.now ask.budget before optional
  comes_to P old settled has = record {
    first = take i optional;
    root = root;
    later = drop (suc i) optional;
    split = subst (λ (r : UnitName). optional ≡ take i optional ++ r ∷ drop (suc i) optional) (sym item) (split_at optional i root inside);
    before = old.roots;
    left = old.left;
    settled = settled;
    has = has;
  }
