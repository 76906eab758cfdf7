use Rattle.std.proofs.Common.{◌≡◌, List, ℕ, [], ◌∷◌, ◌++◌, get_or, sym, ◌∙◌, subst, below_more}
use Rattle.folder_core.specs.Folder.{IsKid}
use Rattle.folder_core.specs.Name.{AreThose, AreRising}
use Rattle.folder_core.specs.Step.{OnTold}
use Rattle.install_journal.specs.Fitting.{AreInOrder, IsBareChild}
use Rattle.install_journal.proofs.Damages.{found_none, name_at}
use Rattle.install_journal.proofs.FittingsFirst.{covered_told, none_told, some_told}
use Rattle.install_journal.proofs.fitting.uncovered_child.Goals as goal

pub loop-name-preserved : goal.loop-name-preserved
loop-name-preserved g c =
    let name : c.name-item.result ≡ get_or c.items-names.result.now c.loop-name.name-index [] = name_at c.items-names.result.now c.loop-name.name-index c.name-item.result c.loop-name-test.true c.name-item.is in
    below_more _ _ c.loop-name.invariant
    (subst (λ (n : List ℕ). OnTold (g.F.Folder.told c.args.folder.now) (λ s. AreInOrder c.args.oldest.now → ¬ (IsBareChild c.args.oldest.now s.now c.args.above.now (c.args.above.now ++ n ∷ [])))) name
    (covered_told (g.F.Folder.told c.args.folder.now) c.args.oldest.now c.args.above.now (g.met.F.Folder.image_now c.args.folder.now) c.name-item.result c.in_ok-child.child
    (found_none c.in_ok-child.child c.is_some.result c.is_some.ensures c.if-is_some.false) c.in_ok-child.ensures))

pub returns-then-is_some-clause-found : goal.returns-then-is_some-clause-found
returns-then-is_some-clause-found g c =
    some_told (g.F.Folder.told c.args.folder.now) c.args.oldest.now c.args.above.now c.items-names.result.now c.loop-name.name-index (g.met.F.Folder.image_now c.args.folder.now)
    (subst (λ (l : List (List ℕ)). OnTold (g.F.Folder.told c.args.folder.now) (λ s. AreThose (IsKid s.now c.args.above.now) l)) (sym c.items-names.ensures) c.in_ok-names.ensures.kids)
    c.loop-name.invariant
    (subst AreRising (sym c.items-names.ensures) c.in_ok-names.ensures.rising) c.loop-name-test.true c.name-item.result c.in_ok-child.child
    (name_at c.items-names.result.now c.loop-name.name-index c.name-item.result c.loop-name-test.true c.name-item.is)
    (sym c.is_some.ensures ∙ c.if-is_some.true) c.in_ok-child.ensures

pub returns-clause-found : goal.returns-clause-found
returns-clause-found g c =
    none_told (g.F.Folder.told c.args.folder.now) c.args.oldest.now c.args.above.now c.items-names.result.now c.loop-name.name-index (g.met.F.Folder.image_now c.args.folder.now)
    (subst (λ (l : List (List ℕ)). OnTold (g.F.Folder.told c.args.folder.now) (λ s. AreThose (IsKid s.now c.args.above.now) l)) (sym c.items-names.ensures) c.in_ok-names.ensures.kids)
    c.loop-name.invariant c.loop-name-test.false
