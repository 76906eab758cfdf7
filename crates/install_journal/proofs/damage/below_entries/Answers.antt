use Rattle.std.proofs.Common.{◌≡◌, ℕ, List, [], ◌∷◌, ◌++◌, None, Option, get_or, arith, sym, ◌∙◌, subst, below_more}
use Rattle.folder_core.specs.Folder.{Map, IsKid}
use Rattle.folder_core.specs.Name.{AreRising, AreThose}
use Rattle.folder_core.specs.Step.{OnTold}
use Rattle.install_journal.specs.Preparing.{IsChild}
use Rattle.install_journal.proofs.Damages.{found_none, looks_then, looks_back, name_at, below_none, below_told}
use Rattle.install_journal.proofs.Opens.{looks_of}
use Rattle.install_journal.proofs.damage.below_entries.Goals as goal

pub loop-name-init : goal.loop-name-init
loop-name-init g c =
    let cause = c.kids.ensures.cause in
    record {
      looks = looks_of g.F.Folder.told g.F.Folder.left_since c.args.folder.now c.kids.new.self c.kids.ensures.stays c.kids.ensures.unsynced c.kids.ensures.untouched c.kids.ensures.time;
      later = cause.later;
      kids = subst (λ (l : List (List ℕ)). OnTold (g.F.Folder.told c.args.folder.now) (λ s. AreThose (IsKid s.now c.args.entries.now) l)) (sym c.items-names.ensures) c.in_ok-names.ensures.kids;
      none = λ place below. absurd (omega arith);
    }

pub loop-name-preserved : goal.loop-name-preserved
loop-name-preserved g c =
    let inv = c.loop-name.invariant in
    let cause = c.first_child-in-loop-name.ensures.cause in
    let name : c.name-item.result ≡ get_or c.items-names.result.now c.loop-name.name-index [] = name_at c.items-names.result.now c.loop-name.name-index c.name-item.result c.loop-name-test.true c.name-item.is in
    let none : c.in_ok-found.found ≡ None = found_none c.in_ok-found.found c.is_some.result c.is_some.ensures c.if-is_some.false in
    record {
      looks = looks_then g.F.Folder.told g.F.Folder.left_since c.args.folder.now c.loop-name.folder c.first_child-in-loop-name.new.folder inv.looks c.first_child-in-loop-name.ensures.looks;
      later = omega (arith, inv.later, cause.later);
      kids = inv.kids;
      none = below_more _ _ inv.none
          (looks_back g.F.Folder.told g.F.Folder.left_since c.args.folder.now c.loop-name.folder (λ (m : Map). IsChild m (c.args.entries.now ++ get_or c.items-names.result.now c.loop-name.name-index [] ∷ []) None) inv.looks
          (subst (λ (n : List ℕ). OnTold (g.F.Folder.told c.loop-name.folder) (λ s. IsChild s.now (c.args.entries.now ++ n ∷ []) None)) name
          (subst (λ (o : Option (List (List ℕ))). OnTold (g.F.Folder.told c.loop-name.folder) (λ s. IsChild s.now (c.args.entries.now ++ c.name-item.result ∷ []) o)) none
          (subst (λ (p : List (List ℕ)). OnTold (g.F.Folder.told c.loop-name.folder) (λ s. IsChild s.now p c.in_ok-found.found)) c.in_ok-child.ensures c.in_ok-found.ensures.found))));
    }

pub returns-in_err-found-clause-looks : goal.returns-in_err-found-clause-looks
returns-in_err-found-clause-looks g c =
    looks_then g.F.Folder.told g.F.Folder.left_since c.args.folder.now c.loop-name.folder c.first_child-in-loop-name.new.folder c.loop-name.invariant.looks c.first_child-in-loop-name.ensures.looks

pub returns-then-is_some-clause-looks : goal.returns-then-is_some-clause-looks
returns-then-is_some-clause-looks g c =
    looks_then g.F.Folder.told g.F.Folder.left_since c.args.folder.now c.loop-name.folder c.first_child-in-loop-name.new.folder c.loop-name.invariant.looks c.first_child-in-loop-name.ensures.looks

pub returns-clause-found : goal.returns-clause-found
returns-clause-found g c =
    below_none (g.F.Folder.told c.args.folder.now) c.args.entries.now c.items-names.result.now c.loop-name.name-index c.requires (g.met.F.Folder.image_now c.args.folder.now) c.loop-name.invariant.kids c.loop-name.invariant.none c.loop-name-test.false

pub returns-then-is_some-clause-found : goal.returns-then-is_some-clause-found
returns-then-is_some-clause-found g c =
    let inv = c.loop-name.invariant in
    let name : c.name-item.result ≡ get_or c.items-names.result.now c.loop-name.name-index [] = name_at c.items-names.result.now c.loop-name.name-index c.name-item.result c.loop-name-test.true c.name-item.is in
    below_told (g.F.Folder.told c.args.folder.now) c.args.entries.now c.in_ok-found.found c.items-names.result.now c.loop-name.name-index (sym c.is_some.ensures ∙ c.if-is_some.true) c.requires (g.met.F.Folder.image_now c.args.folder.now)
    (subst AreRising (sym c.items-names.ensures) c.in_ok-names.ensures.rising) inv.kids inv.none c.loop-name-test.true
    (looks_back g.F.Folder.told g.F.Folder.left_since c.args.folder.now c.loop-name.folder (λ (m : Map). IsChild m (c.args.entries.now ++ get_or c.items-names.result.now c.loop-name.name-index [] ∷ []) c.in_ok-found.found) inv.looks
    (subst (λ (n : List ℕ). OnTold (g.F.Folder.told c.loop-name.folder) (λ s. IsChild s.now (c.args.entries.now ++ n ∷ []) c.in_ok-found.found)) name
    (subst (λ (p : List (List ℕ)). OnTold (g.F.Folder.told c.loop-name.folder) (λ s. IsChild s.now p c.in_ok-found.found)) c.in_ok-child.ensures c.in_ok-found.ensures.found)))
