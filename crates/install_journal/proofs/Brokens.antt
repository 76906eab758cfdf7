-- A map that restores to an installation has no damage.
use Rattle.std.proofs.Common.{◌≡◌, ℕ, ◌+◌, ◌-◌, ◌<◌, List, length, Option, Some, None, ⊎_elim, sym, ◌∙◌, subst, arith}
use Rattle.std.specs.Prelude.{IsSome}
use Rattle.std.proofs.lemmas.Bool.{cases_lt, false≢true}
use Rattle.folder_core.specs.Folder.{Map}
use Rattle.folder_core.specs.declared.node.Node.{Node}
use Rattle.backup_store.specs.Held.{HoldsEntry}
use Rattle.backup_store.specs.declared.entry.Entry.{Entry}
use Rattle.install_journal.specs.Broken.{IsFirstUnsound, AreSound, IsUncovered, IsLoose, ShowsUnfit, IsBroken}
use Rattle.install_journal.specs.Overlay.{entry_at, overlay, Covers}
use Rattle.install_journal.specs.Restored.{AreCounted, CanOverlay, IsRestored}
use Rattle.install_journal.proofs.Counting.{counted_one}
use Rattle.install_journal.proofs.Undoings.{covers_at}

some_stands : (stands : Option Node) → IsSome stands → (node : Node) × (stands ≡ Some node)
some_stands None some = absurd (false≢true some)
some_stands (Some node) some = (node, let same : Some node ≡ Some node = λ i. Some node in same)

module _ (m : Map) (entries : List Entry) (counted : AreCounted m entries) (can : CanOverlay entries m) where
  never_unsound : (number : ℕ) → ¬ (IsFirstUnsound m number)
  never_unsound number first = ⊎_elim
      (λ later. counted.last (omega (arith, later, first.reached.most)) (first.reached.counts (length entries + 1) (omega arith) (omega (arith, later))))
      (λ within.
      let place : number - 1 < length entries = omega (arith, within, first.reached.from_one) in
      let same : number - 1 + 1 ≡ number = omega (arith, first.reached.from_one) in
      let entry = entry_at entries (number - 1) in
      let covers = covers_at entries (number - 1) place in
      let holds : HoldsEntry m number entry.path entry.before = subst (λ (n : ℕ). HoldsEntry m n entry.path entry.before) same (counted.holds (number - 1) place) in
      first.unsound entry.path entry.before (record {
        restores = record { holds = holds; outside = can.outside entry.path covers };
        not_root = λ root. can.not_root (subst (Covers entries) root covers);
      }))
      (cases_lt (length entries) number)

  never_uncovered : (path : List (List ℕ)) → ¬ (IsUncovered entries m path)
  never_uncovered path is =
      let node = some_stands (m path) is.stands in
      let none : m path ≡ None = can.none_below is.above path is.covered is.below is.uncovered in
      let same : None ≡ Some node.0 = sym none ∙ node.1 in
      let no : ⊥ = cc in no

  never_loose : (path : List (List ℕ)) → ¬ (IsLoose entries m path)
  never_loose path is =
      let node = some_stands (overlay entries m path) is.stands in
      is.parent (can.formed.parents path node.0 is.not_root node.1)

  never_names : (path : List (List ℕ)) (others : List Entry) → AreSound m others → ¬ (ShowsUnfit others m path)
  never_names path others sound shows =
      let same = counted_one m others entries sound.counted counted in
      ⊎_elim (λ first. never_uncovered path first.has) (λ both. never_loose path both.1.has)
      (subst (λ (l : List Entry). ShowsUnfit l m path) same shows)

pub never_broken : (m : Map) (path : List (List ℕ)) (restored : Map) → IsBroken m path → ¬ (IsRestored m restored)
never_broken m path restored broken is =
    let back = is.opened broken.opened in
    ⊎_elim
    (λ unsound. never_unsound m back.entries back.counted back.can_overlay unsound.0 unsound.1.0)
    (λ unfit. never_names m back.entries back.counted back.can_overlay path unfit.0 unfit.1.0 unfit.1.1)
    broken.names
