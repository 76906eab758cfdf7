-- What an overlay makes of maps that differ where it covers them, and at the gate.
use Rattle.std.proofs.Common.{◌≡◌, ◌≢◌, ℕ, ◌+◌, List, [], ◌∷◌, Option, inl, inr, ⊎_elim, refl, sym, ◌∙◌, subst}
use Rattle.folder_core.specs.Folder.{Map, IsFormed}
use Rattle.folder_core.specs.Path.{IsBelow}
use Rattle.folder_core.specs.declared.node.Node.{Node}
use Rattle.folder_core.proofs.Maps.{same_path, changed_here, changed_other}
use Rattle.backup_store.specs.Held.{HoldsEntry, gate_text, IsOpen as OpensGate}
use Rattle.backup_store.specs.Places.{IsOutside, gate_path, entry_path, mark_path}
use Rattle.backup_store.specs.declared.entry.Entry.{Entry}
use Rattle.install_journal.specs.Closing.{IsButGate}
use Rattle.install_journal.specs.Overlay.{overlay, Covers}
use Rattle.install_journal.specs.Restored.{AreCounted, CanOverlay, IsRestored}
use Rattle.install_journal.proofs.Counting.{closed_restores, is_file_or_not}
use Rattle.install_journal.proofs.Overlays.{covers_or_not, overlay_uncovered, outside_below}

-- maps that have the same everywhere are the same
pub same_map : (a b : Map) → ((path : List (List ℕ)) → a path ≡ b path) → a ≡ b
same_map a b same = λ i path. same path i

-- what stands at a path of an entry is the entry's, whatever the map has
pub overlay_covered : (entries : List Entry) (a b : Map) (path : List (List ℕ)) → Covers entries path → overlay entries a path ≡ overlay entries b path
overlay_covered [] a b path none = absurd none
overlay_covered (entry ∷ entries) a b path covers = elim (same_path path entry.path) [
  | inl here ↦ changed_here (overlay entries a) entry.path entry.before path here ∙ sym (changed_here (overlay entries b) entry.path entry.before path here)
  | inr apart ↦
      changed_other (overlay entries a) entry.path entry.before path apart
      ∙ overlay_covered entries a b path (⊎_elim (λ here. absurd (apart here)) (λ there. there) covers)
      ∙ sym (changed_other (overlay entries b) entry.path entry.before path apart)
]

-- The map has what the other has, but at the paths of the entries and at the gate.
abbrev pub IsButEntries : List Entry → Map → Map → Type 0
IsButEntries entries a m = (path : List (List ℕ)) → ¬ (Covers entries path) → path ≢ gate_path → m path ≡ a path

module _ (entries : List Entry) (a : Map) (counted : AreCounted a entries) (can : CanOverlay entries a) where
  pub mark_uncovered : (number : ℕ) → ¬ (Covers entries (mark_path number))
  mark_uncovered number covers = can.outside (mark_path number) covers _ refl

  pub entry_uncovered : (number : ℕ) → ¬ (Covers entries (entry_path number))
  entry_uncovered number covers = can.outside (entry_path number) covers _ refl

  pub gate_uncovered : ¬ (Covers entries gate_path)
  gate_uncovered covers = can.outside gate_path covers _ refl

  -- what lies below a path of an entry is outside
  pub below_outside : (path place : List (List ℕ)) → Covers entries path → IsBelow path place → IsOutside place
  below_outside path place covers below = outside_below path place (λ root. can.not_root (subst (Covers entries) root covers)) (can.outside path covers) below

  below_apart : (path place : List (List ℕ)) → Covers entries path → IsBelow path place → place ≢ gate_path
  below_apart path place covers below at = below_outside path place covers below _ at

  module _ (m : Map) (but : IsButEntries entries a m) where
    mark_same : (number : ℕ) → m (mark_path number) ≡ a (mark_path number)
    mark_same number = but (mark_path number) (mark_uncovered number) (λ e. cc)

    pub entry_same : (number : ℕ) → m (entry_path number) ≡ a (entry_path number)
    entry_same number = but (entry_path number) (entry_uncovered number) (λ e. cc)

    pub holds_over : (number : ℕ) (path : List (List ℕ)) (before : Option Node) → HoldsEntry a number path before → HoldsEntry m number path before
    holds_over number path before holds = record { entry = holds.entry; file = (holds.file.0, entry_same number ∙ holds.file.1) }

    pub counted_over : AreCounted m entries
    counted_over = record {
      most = counted.most;
      counts = λ place below. let file = counted.counts place below in (file.0, mark_same (place + 1) ∙ file.1);
      holds = λ place below. holds_over (place + 1) _ _ (counted.holds place below);
      last = λ below counts. counted.last below (counts.0, sym (mark_same _) ∙ counts.1);
    }

    pub overlay_over : (path : List (List ℕ)) → path ≢ gate_path → overlay entries m path ≡ overlay entries a path
    overlay_over path apart = elim (covers_or_not entries path) [
      | inl covers ↦ overlay_covered entries m a path covers
      | inr none ↦ overlay_uncovered entries m path none ∙ but path none apart ∙ sym (overlay_uncovered entries a path none)
    ]

    -- with an open gate it restores to the same
    pub restores_over : OpensGate m → IsFormed (overlay entries m) → IsRestored m (overlay entries a)
    restores_over opens formed = record {
      closed = λ no. absurd (no opens);
      opened = λ _. record {
        entries = entries;
        counted = counted_over;
        can_overlay = record {
          not_root = can.not_root;
          outside = can.outside;
          none_below = λ path place covers below none.
              but place none (below_apart path place covers below) ∙ can.none_below path place covers below none;
          formed = formed;
        };
        same = λ path outside. sym (overlay_over path (λ at. outside _ at));
      };
    }

  -- a map that has what the other has but at the paths of the entries
  pub same_restores_to : OpensGate a → (m : Map) → ((path : List (List ℕ)) → ¬ (Covers entries path) → m path ≡ a path) → IsRestored m (overlay entries a)
  same_restores_to opened m but =
      let gate : m gate_path ≡ a gate_path = but gate_path gate_uncovered in
      let all : overlay entries m ≡ overlay entries a = same_map (overlay entries m) (overlay entries a) (λ path. elim (covers_or_not entries path) [
        | inl covers ↦ overlay_covered entries m a path covers
        | inr none ↦ overlay_uncovered entries m path none ∙ but path none ∙ sym (overlay_uncovered entries a path none)
      ]) in
      restores_over m (λ path none apart. but path none) (opened.0, gate ∙ opened.1) (subst IsFormed (sym all) can.formed)

  -- a map in which all is put back, and that has any gate or none
  pub closing_restores_to : (m : Map) → IsButGate (overlay entries a) m → IsRestored m (overlay entries a)
  closing_restores_to m but = elim (is_file_or_not gate_text (m gate_path)) [
    | inl opens ↦ restores_over m (λ path none apart. but.elsewhere path apart ∙ overlay_uncovered entries a path none) opens
        (subst IsFormed (sym (same_map (overlay entries m) m here)) but.formed)
    | inr closed ↦ closed_restores m (overlay entries a) closed (λ path outside. sym (but.elsewhere path (λ at. outside _ at)))
  ]
    where
      here : (path : List (List ℕ)) → overlay entries m path ≡ m path
      here path = elim (covers_or_not entries path) [
        | inl covers ↦ overlay_covered entries m a path covers ∙ sym (but.elsewhere path (λ at. gate_uncovered (subst (Covers entries) at covers)))
        | inr none ↦ overlay_uncovered entries m path none
      ]
