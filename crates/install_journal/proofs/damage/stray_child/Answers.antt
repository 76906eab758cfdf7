use Rattle.std.proofs.Common.{◌≡◌, ◌⊎◌, ℕ, List, [], ◌∷◌, ◌++◌, get_or, codes, sym, subst, below_more}
use Rattle.folder_core.specs.Folder.{IsKid}
use Rattle.folder_core.specs.Name.{AreRising, AreThose}
use Rattle.folder_core.specs.Step.{OnTold}
use Rattle.install_journal.proofs.Damages.{name_at, stray_none, stray_some}
use Rattle.install_journal.proofs.damage.stray_child.Goals as goal

pub loop-name-preserved : goal.loop-name-preserved
loop-name-preserved g c =
    let name : c.name-item.result ≡ get_or c.items-names.result.now c.loop-name.name-index [] = name_at c.items-names.result.now c.loop-name.name-index c.name-item.result c.loop-name-test.true c.name-item.is in
    below_more _ _ c.loop-name.invariant
    (subst (λ (n : List ℕ). (n ≡ codes "undo") ⊎ (n ≡ codes "e")) name (c.is_own.ensures.0 c.if-not-is_own.false))

pub returns-clause-found : goal.returns-clause-found
returns-clause-found g c =
    stray_none (g.F.Folder.told c.args.folder.now) c.args.journal.now c.items-names.result.now c.loop-name.name-index c.requires (g.met.F.Folder.image_now c.args.folder.now)
    (subst (λ (l : List (List ℕ)). OnTold (g.F.Folder.told c.args.folder.now) (λ s. AreThose (IsKid s.now c.args.journal.now) l)) (sym c.items-names.ensures) c.in_ok-names.ensures.kids)
    c.loop-name.invariant c.loop-name-test.false

pub returns-then-not-is_own-clause-found : goal.returns-then-not-is_own-clause-found
returns-then-not-is_own-clause-found g c =
    let name : c.name-item.result ≡ get_or c.items-names.result.now c.loop-name.name-index [] = name_at c.items-names.result.now c.loop-name.name-index c.name-item.result c.loop-name-test.true c.name-item.is in
    stray_some (g.F.Folder.told c.args.folder.now) c.args.journal.now c.in_ok-child.field-0 c.items-names.result.now c.loop-name.name-index c.requires (g.met.F.Folder.image_now c.args.folder.now)
    (subst AreRising (sym c.items-names.ensures) c.in_ok-names.ensures.rising)
    (subst (λ (l : List (List ℕ)). OnTold (g.F.Folder.told c.args.folder.now) (λ s. AreThose (IsKid s.now c.args.journal.now) l)) (sym c.items-names.ensures) c.in_ok-names.ensures.kids)
    c.loop-name.invariant c.loop-name-test.true
    (λ own. let is = c.is_own.ensures.1 (subst (λ (n : List ℕ). (n ≡ codes "undo") ⊎ (n ≡ codes "e")) (sym name) own) in let not_own = c.if-not-is_own.true in let no : ⊥ = cc in no)
    (subst (λ (n : List ℕ). c.in_ok-child.field-0 ≡ c.args.journal.now ++ n ∷ []) name c.in_ok-child.ensures)
