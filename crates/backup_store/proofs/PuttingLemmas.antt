-- An entry is found, and its path set to the old node.
use Rattle.std.proofs.Common.{◌≡◌, ◌≢◌, inl, inr, ⊎_elim, ℕ, ◌≤◌, Bool, eqb, List, [], ◌∷◌, length, get_or, Option, Some, None, Contains, sym, ◌∙◌, ap, subst, arith}
use Rattle.std.specs.Prelude.{codes, not, IfSome, MatchOption}
use Rattle.std.specs.Bool.{IsTrue}
use Rattle.std.specs.Cmp.Lexicographic.{pointwise}
use Rattle.std.proofs.lemmas.Bool.{both_ways, cases_Bool}
use Rattle.std.proofs.lemmas.Slice.Eq.{bytes_eq-Decides}
use Rattle.folder_core.specs.Folder.{Map, Told, CanSet, SameBut}
use Rattle.folder_core.specs.Crash.{IsImage, Touches, Elapses}
use Rattle.folder_core.specs.Node.{IsNode, IsSmallAt}
use Rattle.folder_core.specs.Step.{OnTold, Step}
use Rattle.folder_core.specs.declared.node.Node.{Node}
use Rattle.folder_core.specs.declared.node.Node.TheVariants.{File, Dir, Link}
use Rattle.backup_store.specs.Entry.{IsOldNode}
use Rattle.backup_store.specs.Held.{CanRestore, IsDamaged}
use Rattle.backup_store.specs.Places.{entry_path, IsOutside}
use Rattle.backup_store.specs.PuttingBack.{HasRoomBack, SameButRestored, TouchesRestored, IsRestorable, IsNoRestorable}
use Rattle.backup_store.specs.Looking.{IsStill}
use Rattle.backup_store.specs.declared.entry.Entry.{Entry}
use Rattle.backup_store.proofs.Bools.{not_true, is_true}
use Rattle.backup_store.proofs.Moments.{on_two, on_both, on_told, Elapses-then}

-- a path whose first name is known
pub outside_by_first : (path : List (List ℕ)) (first : List ℕ) → 1 ≤ length path → first ≡ get_or path 0 first → first ≢ codes ".p2" → IsOutside path
outside_by_first [] first long at other = absurd (omega arith)
outside_by_first (x ∷ path) first long at other = λ rest is. other (at ∙ ap (λ (p : List (List ℕ)). get_or p 0 first) is)

pub inside_by_first : (path : List (List ℕ)) (first : List ℕ) → 1 ≤ length path → first ≡ get_or path 0 first → first ≡ codes ".p2" → ¬ (IsOutside path)
inside_by_first [] first long at same = absurd (omega arith)
inside_by_first (x ∷ path) first long at same = λ outside. outside path (ap (λ (name : List ℕ). name ∷ path) (sym at ∙ same))

-- what the test of the first name says
pub outside_tested : (path : List (List ℕ)) (first : List ℕ) (test : Bool) → 1 ≤ length path → first ≡ get_or path 0 first → test ≡ not (pointwise eqb first (codes ".p2"))
    → (IsTrue test → IsOutside path) × (IsOutside path → IsTrue test)
outside_tested path first test long at tested = ⊎_elim
    (λ same.
    let is = (bytes_eq-Decides first (codes ".p2")).0 same in
    (λ yes_is. absurd (not_true test (tested ∙ ap not same) yes_is), λ outside. absurd (inside_by_first path first long at is outside)))
    (λ other.
    (λ yes_is. outside_by_first path first long at (λ is. both_ways _ other ((bytes_eq-Decides first (codes ".p2")).1 is)), λ outside. is_true test (tested ∙ ap not other)))
    (cases_Bool (pointwise eqb first (codes ".p2")))

restores : (m : Map) (k : ℕ) (node : Option Node) (path : List (List ℕ)) (before : Option Node) → m (entry_path k) ≡ node → IsRestorable node path before → CanRestore m k path before
restores m k node path before stands is = record {
  holds = record { entry = is.entry; file = (is.file.0, stands ∙ is.file.1) };
  outside = is.outside;
}

restorable : (m : Map) (k : ℕ) (node : Option Node) (path : List (List ℕ)) (before : Option Node) → m (entry_path k) ≡ node → CanRestore m k path before → IsRestorable node path before
restorable m k node path before stands can = record {
  entry = can.holds.entry;
  file = (can.holds.file.0, sym stands ∙ can.holds.file.1);
  outside = can.outside;
}

pub entry_at : (told : Option Told) (k : ℕ) (place : List (List ℕ)) (node : Option Node) (found : Option Entry)
    → place ≡ entry_path k → OnTold told (λ s. s.now place ≡ node) → MatchOption found (IsNoRestorable node) (λ e. IsRestorable node e.path e.before)
    → OnTold told (λ s. MatchOption found (IsDamaged s.now k) (λ e. CanRestore s.now k e.path e.before))
entry_at None k place node found at stands is = tt
entry_at (Some s) k place node None at stands is = λ path before can. is path before (restorable s.now k node path before (ap s.now (sym at) ∙ stands) can)
entry_at (Some s) k place node (Some e) at stands is = restores s.now k node e.path e.before (ap s.now (sym at) ∙ stands) is

-- what an entry may hold is a node, and small enough for any place
pub old_is_node : (node : Option Node) → IfSome node IsOldNode → IfSome node IsNode
old_is_node None old = tt
old_is_node (Some (File mode blob)) old = old.0
old_is_node (Some Dir) old = tt
old_is_node (Some (Link target)) old = old.0

pub old_is_small : (path : List (List ℕ)) (node : Option Node) → IfSome node IsOldNode → IfSome node (IsSmallAt path)
old_is_small path None old = tt
old_is_small path (Some (File mode blob)) old = λ outside. old.1
old_is_small path (Some Dir) old = tt
old_is_small path (Some (Link target)) old = tt

pub found_some : (told : Option Told) (k : ℕ) (found : Option Entry) (e : Entry) → found ≡ Some e → OnTold told (λ s. MatchOption found (IsDamaged s.now k) (λ e. CanRestore s.now k e.path e.before))
    → OnTold told (λ s. CanRestore s.now k e.path e.before)
found_some None k found e is holds = tt
found_some (Some s) k found e is holds = subst (λ o. MatchOption o (IsDamaged s.now k) (λ e. CanRestore s.now k e.path e.before)) is holds

pub room_back : (k : ℕ) (path : List (List ℕ)) (before : Option Node) (old new : Option Told) → OnTold old (λ s. HasRoomBack s.now k) → OnTold old (λ s. CanRestore s.now k path before) → Step old new IsStill → OnTold new (λ s. CanSet s.now path)
room_back k path before None None room can still = tt
room_back k path before None (Some t) room can still = absurd still
room_back k path before (Some s) None room can still = tt
room_back k path before (Some s) (Some t) room can still = subst (λ m. CanSet m path) (sym still.now) (room path before can)

-- the entry as it was found, and time alone went on
abbrev pub IsFound : ℕ → Entry → Told → Told → Type 0
IsFound k e s t = CanRestore s.now k e.path e.before × IsStill s t

pub is_found : (k : ℕ) (e : Entry) (old new : Option Told) → OnTold old (λ s. CanRestore s.now k e.path e.before) → Step old new IsStill → Step old new (IsFound k e)
is_found k e old new can still = on_told old new (λ s. CanRestore s.now k e.path e.before) IsStill (IsFound k e) (λ s t a b. (a, b)) can still

pub same_but_restored : (k : ℕ) (e : Entry) (s t u : Told) → IsFound k e s t → SameBut e.path t.now u.now → SameButRestored k s.now u.now
same_but_restored k e s t u (can, still) same place apart =
    same place (λ is. apart (e.before, subst (λ p. CanRestore s.now k p e.before) (sym is) can)) ∙ ap (λ (m : Map). m place) still.now

pub touches_restored : (k : ℕ) (e : Entry) (s t u : Told) → IsFound k e s t → Touches e.path t u → TouchesRestored k s u
touches_restored k e s t u (can, still) touches = record {
  synced = touches.synced ∙ still.synced;
  touched = λ place has. ⊎_elim
      (λ old. inl (subst (λ l. Contains l place) still.touched old))
      (λ is. inr (e.before, subst (λ p. CanRestore s.now k p e.before) (sym is) can))
      (touches.touched place has);
  kept = λ place has. touches.kept place (subst (λ l. Contains l place) (sym still.touched) has);
}

still_image : (s t : Told) (m : Map) → IsStill s t → IsImage t m → IsImage s m
still_image s t m still image = record {
  formed = image.formed;
  untouched = λ place apart. image.untouched place (λ has. apart (subst (λ l. Contains l place) still.touched has)) ∙ ap (λ (f : Map). f place) still.synced;
}

-- time over a call that changes nothing and a call more
pub time_then : (old mid new : Option Told) (past between since : ℕ → Map → Type 0)
    → OnTold old (λ s. (moment : ℕ) (m : Map) → moment ≤ s.moment → IsImage s m → past moment m)
    → Step old mid IsStill
    → Step old mid (λ s t. Elapses s.moment t.moment past between (IsImage t))
    → Step mid new (λ s t. Elapses s.moment t.moment between since (IsImage t))
    → Step old new (λ s t. Elapses s.moment t.moment past since (IsImage t))
time_then old mid new past between since counts still first second =
    on_two old mid new Before (λ s t. Elapses s.moment t.moment between since (IsImage t)) (λ s t. Elapses s.moment t.moment past since (IsImage t))
    (λ s t u before time. Elapses-then (λ moment m earlier image. inl (before.0 moment m earlier (still_image s t m before.1 image))) before.2 time)
    (on_told old mid (λ s. (moment : ℕ) (m : Map) → moment ≤ s.moment → IsImage s m → past moment m) (λ s t. IsStill s t × Elapses s.moment t.moment past between (IsImage t)) Before
    (λ s t counts both. (counts, both.0, both.1)) counts
    (on_both old mid IsStill (λ s t. Elapses s.moment t.moment past between (IsImage t)) (λ s t. IsStill s t × Elapses s.moment t.moment past between (IsImage t)) (λ s t a b. (a, b)) still first))
    second
  where
    Before : Told → Told → Type 0
    Before s t = ((moment : ℕ) (m : Map) → moment ≤ s.moment → IsImage s m → past moment m) × IsStill s t × Elapses s.moment t.moment past between (IsImage t)
