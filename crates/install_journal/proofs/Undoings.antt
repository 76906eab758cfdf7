-- Entries are put back, from the last to the first.
use Rattle.std.proofs.Common.{◌≡◌, ◌≢◌, ℕ, zero, suc, ◌+◌, ◌<◌, ◌≤◌, List, [], ◌∷◌, ◌++◌, length, Option, inl, inr, ⊎_elim, refl, sym, ◌∙◌, ap, subst, arith, length-append}
use Rattle.folder_core.specs.Folder.{Map, Told, CanSet, SameBut, set_at}
use Rattle.folder_core.specs.Crash.{IsImage}
use Rattle.folder_core.specs.declared.node.Node.{Node}
use Rattle.folder_core.specs.Path.{parent}
use Rattle.folder_core.proofs.Maps.{same_path, changed_here, changed_other, parent_apart}
use Rattle.backup_store.specs.Held.{CanRestore, IsDamaged}
use Rattle.backup_store.specs.PuttingBack.{HasRoomBack, PutsBack, IsEntryPath, SameButRestored, TouchesRestored}
use Rattle.backup_store.specs.Places.{IsOutside}
use Rattle.backup_store.specs.declared.entry.Entry.{Entry}
use Rattle.install_journal.specs.Fixed.{IsFixed}
use Rattle.install_journal.specs.Overlay.{entry_at, Covers, SameOutside}
use Rattle.install_journal.specs.Kept.{AreKept, Undoes, entry_of}
use Rattle.install_journal.proofs.Keeps.{kept_shows, at_front, at_end}
use Rattle.install_journal.proofs.Overlays.{outside_parent, outside_below}
use Rattle.install_journal.proofs.Unique.{holds_one_path, holds_one_node}

pub covers_at : (entries : List Entry) (place : ℕ) → place < length entries → Covers entries (entry_at entries place).path
covers_at [] place below = absurd (omega arith)
covers_at (entry ∷ entries) zero below = inl refl
covers_at (entry ∷ entries) (suc place) below = inr (covers_at entries place (omega arith))

pub can_same : (a b : Map) (path : List (List ℕ)) → IsOutside path → SameOutside b a → CanSet a path → CanSet b path
can_same a b path outside same can = record {
  not_root = can.not_root;
  parent = same (parent path) (outside_parent path can.not_root outside) ∙ can.parent;
  nothing_below = λ name rest. same _ (outside_below path _ can.not_root outside (name, rest, refl)) ∙ can.nothing_below name rest;
}

pub set_same : (a b : Map) (path : List (List ℕ)) (stands : Option Node) → SameOutside b a → SameOutside (set_at b path stands) (set_at a path stands)
set_same a b path stands same place outside = elim (same_path place path) [
  | inl here ↦ changed_here b path stands place here ∙ sym (changed_here a path stands place here)
  | inr apart ↦ changed_other b path stands place apart ∙ same place outside ∙ sym (changed_other a path stands place apart)
]

pub can_but : (a b : Map) (path : List (List ℕ)) → SameBut path a b → CanSet a path → CanSet b path
can_but a b path same can = record {
  not_root = can.not_root;
  parent = same (parent path) (parent_apart path can.not_root) ∙ can.parent;
  nothing_below = λ name rest. same _ (longer path name rest) ∙ can.nothing_below name rest;
}
  where
    longer : (path : List (List ℕ)) (name : List ℕ) (rest : List (List ℕ)) → path ++ name ∷ rest ≢ path
    longer [] name rest e = cc
    longer (x ∷ path) name rest e = longer path name rest cc

module _ (entries : List Entry) (outside : (path : List (List ℕ)) → Covers entries path → IsOutside path) where
  pub undoes_same : (n : ℕ) (a b old : Map) → n ≤ length entries → SameOutside b a → Undoes entries n a old → Undoes entries n b old
  undoes_same zero a b old most same undoes = λ path out. same path out ∙ undoes path out
  undoes_same (suc n) a b old most same undoes =
      let entry = entry_at entries n in (
        can_same a b entry.path (outside entry.path (covers_at entries n (omega arith))) same undoes.0,
        undoes_same n (set_at a entry.path entry.before) (set_at b entry.path entry.before) old (omega arith) (set_same a b entry.path entry.before same) undoes.1,
      )

  -- the path of the entry to be put back has any node or none
  pub undoes_but : (n : ℕ) (a b old : Map) → n < length entries → SameBut (entry_at entries n).path a b → Undoes entries (suc n) a old → Undoes entries (suc n) b old
  undoes_but n a b old below same undoes =
      let entry = entry_at entries n in (
        can_but a b entry.path same undoes.0,
        undoes_same n (set_at a entry.path entry.before) (set_at b entry.path entry.before) old (omega arith)
            (λ place out. elim (same_path place entry.path) [
              | inl here ↦ changed_here b entry.path entry.before place here ∙ sym (changed_here a entry.path entry.before place here)
              | inr apart ↦ changed_other b entry.path entry.before place apart ∙ same place apart ∙ sym (changed_other a entry.path entry.before place apart)
            ])
            undoes.1,
      )

pub undoes_front : (entries : List Entry) (entry : Entry) (n : ℕ) (m old : Map) → n ≤ length entries → Undoes entries n m old → Undoes (entries ++ entry ∷ []) n m old
undoes_front entries entry zero m old most undoes = undoes
undoes_front entries entry (suc n) m old most undoes =
    let at = at_front entries entry n (omega arith) in
    subst (λ (e : Entry). CanSet m e.path × Undoes (entries ++ entry ∷ []) n (set_at m e.path e.before) old) (sym at)
    (undoes.0, undoes_front entries entry n _ old (omega arith) undoes.1)

-- an entry is kept of what stands at a path, and then the path has any node or none
pub undoes_push : (entries : List Entry) (before after later old : Map) (path : List (List ℕ))
    → ((place : List (List ℕ)) → Covers (entries ++ entry_of before path ∷ []) place → IsOutside place) → IsOutside path
    → CanSet before path → SameOutside after before → SameBut path after later
    → Undoes entries (length entries) before old
    → Undoes (entries ++ entry_of before path ∷ []) (suc (length entries)) later old
undoes_push entries before after later old path all_outside outside can same but undoes =
    let pushed = entries ++ entry_of before path ∷ [] in
    let back : SameOutside (set_at later path (before path)) before = λ place out. elim (same_path place path) [
      | inl here ↦ changed_here later path (before path) place here ∙ ap before (sym here)
      | inr apart ↦ changed_other later path (before path) place apart ∙ but place apart ∙ same place out
    ] in
    subst (λ (e : Entry). CanSet later e.path × Undoes pushed (length entries) (set_at later e.path e.before) old) (sym (at_end entries (entry_of before path))) (
      can_but after later path but (can_same before after path outside same can),
      undoes_same pushed all_outside (length entries) before (set_at later path (before path)) old (omega (arith, length-append entries (entry_of before path ∷ [])))
          back (undoes_front entries (entry_of before path) (length entries) before old (omega arith) undoes),
    )

-- Of entries that are kept, the last one that isn't put back.
module _ (entries : List Entry) (behind : ℕ) (old : Map) (s : Told) (n : ℕ) (kept : AreKept entries behind old s) (image : IsImage s s.now) (below : n < length entries) where
  abbrev entry : Entry
  entry = entry_at entries n

  can_restore : CanRestore s.now (n + 1) entry.path entry.before
  can_restore = record {
    holds = (kept_shows entries behind old s s.now kept image).texts n below;
    outside = kept.serves.outside entry.path (covers_at entries n below);
  }

  same_path_of : (path : List (List ℕ)) (before : Option Node) → CanRestore s.now (n + 1) path before → path ≡ entry.path
  same_path_of path before can = holds_one_path s.now (n + 1) path entry.path before entry.before can.holds can_restore.holds

  same_node_of : (path : List (List ℕ)) (before : Option Node) → CanRestore s.now (n + 1) path before → before ≡ entry.before
  same_node_of path before can = holds_one_node s.now (n + 1) path entry.path before entry.before can.holds can_restore.holds

  pub never_damaged : ¬ (IsDamaged s.now (n + 1))
  never_damaged damaged = damaged entry.path entry.before can_restore

  pub room_back : CanSet s.now entry.path → HasRoomBack s.now (n + 1)
  room_back can path before restore = subst (CanSet s.now) (sym (same_path_of path before restore)) can

  back_covered : (path : List (List ℕ)) → IsEntryPath s.now (n + 1) path → Covers entries path
  back_covered path (before, can) = subst (Covers entries) (sym (same_path_of path before can)) (covers_at entries n below)

  pub back_fixed : (t : Told) (path : List (List ℕ)) (stands : Option Node) → TouchesRestored (n + 1) s t → ¬ (Covers entries path) → IsFixed s path stands → IsFixed t path stands
  back_fixed t path stands touches none fixed = record {
    untouched = λ is. ⊎_elim fixed.untouched (λ at. none (back_covered path at)) (touches.touched path is);
    synced = ap (λ (m : Map). m path) touches.synced ∙ fixed.synced;
  }

  pub back_puts : (m : Map) → PutsBack (n + 1) s.now m → Undoes entries (suc n) s.now old → Undoes entries n m old
  back_puts m puts undoes =
      let path = same_path_of puts.path puts.before puts.entry in
      let before = same_node_of puts.path puts.before puts.entry in
      let is : m ≡ set_at s.now entry.path entry.before = puts.puts ∙ ap (λ (p : List (List ℕ)). set_at s.now p puts.before) path ∙ ap (λ (b : Option Node). set_at s.now entry.path b) before in
      subst (λ (x : Map). Undoes entries n x old) (sym is) undoes.1

  pub back_fails : (m : Map) → SameButRestored (n + 1) s.now m → Undoes entries (suc n) s.now old → Undoes entries (suc n) m old
  back_fails m same undoes = undoes_but entries kept.serves.outside n s.now m old below
      (λ place apart. same place (λ at. apart (same_path_of place at.0 at.1))) undoes
