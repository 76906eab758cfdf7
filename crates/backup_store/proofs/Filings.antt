-- Files of entries and marks are put one after the other: where they may be put, and what stands then.
use Rattle.std.proofs.Common.{◌≡◌, ◌≢◌, inl, ⊎_elim, ℕ, ◌+◌, ◌^◌, ◌<◌, ◌≤◌, List, [], ◌∷◌, ◌++◌, length, get_or, take, Option, Some, None, Result, Ok, Err, IsErrAnd, IsErrOf, refl, sym, ◌∙◌, ap, subst, arith}
use Rattle.std.proofs.Math.Nat.{eq-or-lt_of_le}
use Rattle.folder_core.specs.Crash.{IsImage, Touches, Elapses, EachLeft, Narrows}
use Rattle.folder_core.specs.Folder.{Map, Told, CanSet, SameBut, set_at}
use Rattle.folder_core.specs.Node.{entries_path}
use Rattle.folder_core.specs.Step.{OnTold, Step}
use Rattle.folder_core.specs.declared.node.Node.{Node}
use Rattle.folder_core.specs.declared.node.Touch.{Touch}
use Rattle.folder_core.proofs.Maps.{changed_here, changed_other}
use Rattle.backup_store.specs.Entry.{IsEntry}
use Rattle.backup_store.specs.KeepingAll.{IsAmong, IsFileAmong, IsMarkAmong, HasRoom, TouchesOnly, IsImageBut}
use Rattle.backup_store.specs.Looking.{IsStill}
use Rattle.backup_store.specs.Places.{entry_path, mark_path}
use Rattle.backup_store.specs.Filing.{entry_file, mark_file, AreFiled, AreMarked, AreEntered, AreCompleted, HasRoomForMarks, IsSync}
use Rattle.backup_store.specs.Settling.{entry_touch}
use Rattle.backup_store.specs.Turns.{AreTouches, entries_in_turn, entry_at, set_in_turn}
use Rattle.backup_store.specs.declared.entry.Entry.{Entry}
use Rattle.backup_store.proofs.InTurn.{entry_in_turn, turn_same_at, touch_here}
use Rattle.backup_store.proofs.Moments.{on_two, on_step, on_both, on_told, on_told_one, on_new, leaves_next}
use Rattle.backup_store.proofs.Names.{entries_apart, marks_apart}
use Rattle.backup_store.proofs.Touched.{touches_one, touches_still, touches_then, touches_image, touches_wider, still_touches}

-- ---- one call

pub still_only : (P : List (List ℕ) → Type 0) (old new : Option Told) → Step old new IsStill → Step old new (TouchesOnly P)
still_only P old new still = on_step old new IsStill (TouchesOnly P) (still_touches P) still

pub set_only : (at path : List (List ℕ)) (old new : Option Told) → at ≡ path
    → Step old new (Touches at) → Step old new (λ s t. SameBut at s.now t.now) → Step old new (TouchesOnly (λ place. place ≡ path))
set_only at path old new is touches same = subst (λ (p : List (List ℕ)). Step old new (TouchesOnly (λ place. place ≡ p))) is
    (on_both old new (Touches at) (λ s t. SameBut at s.now t.now) (TouchesOnly (λ place. place ≡ at)) (touches_one at) touches same)

-- a look, and then a node is set
pub then_only : (at path : List (List ℕ)) (old mid new : Option Told) → at ≡ path → Step old mid IsStill
    → Step mid new (TouchesOnly (λ place. place ≡ at)) → Step old new (TouchesOnly (λ place. place ≡ path))
then_only at path old mid new is still only =
    on_two old mid new IsStill (TouchesOnly (λ place. place ≡ at)) (TouchesOnly (λ place. place ≡ path))
    (λ s t u first second. touches_then (λ place. place ≡ path) (λ place. place ≡ at) s t u (λ place here. here ∙ is) (still_touches (λ place. place ≡ path) s t first) second)
    still only

pub touch_node : (k : ℕ) (path : List (List ℕ)) (touch : Touch) (earlier : List Touch) (old : Option Told)
    → OnTold old (λ s. touch ≡ entry_touch k path (set_in_turn earlier s.now path)) → OnTold old (λ s. touch.node ≡ entry_file path (set_in_turn earlier s.now path))
touch_node k path touch earlier old is = on_told_one old (λ s. touch ≡ entry_touch k path (set_in_turn earlier s.now path)) (λ s. touch.node ≡ entry_file path (set_in_turn earlier s.now path)) (λ s same. ap (λ (x : Touch). x.node) same) is

pub looked_sets : (path at : List (List ℕ)) (node : Option Node) (file : Map → Option Node) (old mid new : Option Told) → at ≡ path
    → OnTold old (λ s. node ≡ file s.now) → Step old mid IsStill → Step mid new (λ s t. t.now ≡ set_at s.now at node)
    → Step old new (λ s t. t.now ≡ set_at s.now path (file s.now))
looked_sets path at node file old mid new is same still sets =
    on_two old mid new (λ s t. (node ≡ file s.now) × IsStill s t) (λ s t. t.now ≡ set_at s.now at node) (λ s t. t.now ≡ set_at s.now path (file s.now))
    (λ s t u first set. set ∙ ap (λ (m : Map). set_at m at node) first.1.now ∙ ap (λ (p : List (List ℕ)). set_at s.now p node) is ∙ ap (set_at s.now path) first.0)
    (on_told old mid (λ s. node ≡ file s.now) IsStill (λ s t. (node ≡ file s.now) × IsStill s t) (λ s t a b. (a, b)) same still) sets

-- ---- the files of entries, one after the other

longer_apart : (a b name : List ℕ) (rest : List (List ℕ)) → (entries_path ++ a ∷ []) ++ name ∷ rest ≢ entries_path ++ b ∷ []
longer_apart a b name rest is = let same = ap length is in absurd (omega arith)

directory_apart : (name : List ℕ) → entries_path ≢ entries_path ++ name ∷ []
directory_apart name is = let same = ap length is in absurd (omega arith)

pub can_file : (first count k : ℕ) (s t : Told) → IsAmong first count k → HasRoom s first count → TouchesOnly (IsFileAmong first count) s t → CanSet t.now (entry_path k)
can_file first count k s t among room touches = record {
  not_root = λ e. cc;
  parent = touches.elsewhere entries_path (λ is. directory_apart _ is.1.1) ∙ room.directory;
  nothing_below = λ name rest. touches.elsewhere (entry_path k ++ name ∷ rest) (λ is. longer_apart _ _ name rest is.1.1) ∙ room.nothing_below k among name rest;
}

pub can_mark : (first count k : ℕ) (s t : Told) → IsAmong first count k → HasRoomForMarks s first count → TouchesOnly (IsMarkAmong first count) s t → CanSet t.now (mark_path k)
can_mark first count k s t among room touches = record {
  not_root = λ e. cc;
  parent = touches.elsewhere entries_path (λ is. directory_apart _ is.1.1) ∙ room.directory;
  nothing_below = λ name rest. touches.elsewhere (mark_path k ++ name ∷ rest) (λ is. longer_apart _ _ name rest is.1.1) ∙ room.nothing_below k among name rest;
}

pub below_more : (P : ℕ → Type 0) (n : ℕ) → ((k : ℕ) → k < n → P k) → P n → (k : ℕ) → k < n + 1 → P k
below_more P n each one k below = ⊎_elim (λ last. subst P (sym last) one) (λ before. each k before) (eq-or-lt_of_le (let near : k ≤ n = omega arith in near))

pub among_here : (first count place : ℕ) → place < count → IsAmong first count (first + place)
among_here first count place below = record { from = omega arith; below = omega arith }

-- The touch at a place and the file of its entry.
module _ (first : ℕ) (touches : List Touch) (place : ℕ) (touch : Touch) (below : place < length touches) (range : first + length touches ≤ 2 ^ 32) (are : AreTouches touches) where
  abbrev path : List (List ℕ)
  path = (get_or touches place touch).path

  -- what stands at its path when its turn comes isn't changed by the files before
  before_same : (s t : Told) → TouchesOnly (IsFileAmong first (length touches)) s t → set_in_turn (take place touches) t.now path ≡ set_in_turn (take place touches) s.now path
  before_same s t only = turn_same_at (take place touches) t.now s.now path
      (only.elsewhere path (λ is. (touch_here touches place touch below are).outside _ is.1.1))

  entry_is : (s t : Told) → TouchesOnly (IsFileAmong first (length touches)) s t → entry_at (entries_in_turn touches s.now) place ≡ record { path = path; before = set_in_turn (take place touches) t.now path }
  entry_is s t only = entry_in_turn touches s.now place touch below ∙ ap (λ (b : Option Node). record { path = path; before = b }) (sym (before_same s t only))

  abbrev FiledAt : Told → Told → ℕ → Type 0
  FiledAt s u k = IsEntry (entry_at (entries_in_turn touches s.now) k).path (entry_at (entries_in_turn touches s.now) k).before
      × (u.now (entry_path (first + k)) ≡ entry_file (entry_at (entries_in_turn touches s.now) k).path (entry_at (entries_in_turn touches s.now) k).before)

  abbrev FiledOf : Told → Entry → Type 0
  FiledOf u e = IsEntry e.path e.before × (u.now (entry_path (first + place)) ≡ entry_file e.path e.before)

  pub filed_more : (s t u : Told) → TouchesOnly (IsFileAmong first (length touches)) s t → AreFiled first place (entries_in_turn touches s.now) t.now
      → IsEntry path (set_in_turn (take place touches) t.now path)
      → u.now ≡ set_at t.now (entry_path (first + place)) (entry_file path (set_in_turn (take place touches) t.now path))
      → AreFiled first (place + 1) (entries_in_turn touches s.now) u.now
  filed_more s t u only filed entry sets = below_more (FiledAt s u) place
      (λ k before. ((filed k before).0, ap (λ (m : Map). m (entry_path (first + k))) sets ∙ changed_other t.now (entry_path (first + place)) _ (entry_path (first + k)) (entries_apart (first + k) (first + place) (omega arith) (omega arith) (λ e. absurd (omega arith))) ∙ (filed k before).1))
      (subst (FiledOf u) (sym (entry_is s t only)) (entry, ap (λ (m : Map). m (entry_path (first + place))) sets ∙ changed_here t.now (entry_path (first + place)) _ (entry_path (first + place)) refl))

-- what one file does of all
pub file_among : (first count k : ℕ) → IsAmong first count k → (place : List (List ℕ)) → place ≡ entry_path k → IsFileAmong first count place
file_among first count k among place is = (k, (among, is))

pub mark_among : (first count k : ℕ) → IsAmong first count k → (place : List (List ℕ)) → place ≡ mark_path k → IsMarkAmong first count place
mark_among first count k among place is = (k, (among, is))

pub fewer_marks : (first few count : ℕ) → few ≤ count → (place : List (List ℕ)) → IsMarkAmong first few place → IsMarkAmong first count place
fewer_marks first few count less place is = (is.0, (record { from = is.1.0.from; below = let b = is.1.0.below in omega arith }, is.1.1))

pub marked_more : (first place : ℕ) (t u : Told) → first + place < 2 ^ 32 → AreMarked first place t.now → u.now ≡ set_at t.now (mark_path (first + place)) mark_file → AreMarked first (place + 1) u.now
marked_more first place t u range marked sets k among = ⊎_elim
    (λ last. ap (λ (m : Map). m (mark_path k)) sets ∙ changed_here t.now (mark_path (first + place)) mark_file (mark_path k) (ap mark_path last))
    (λ before. ap (λ (m : Map). m (mark_path k)) sets
    ∙ changed_other t.now (mark_path (first + place)) mark_file (mark_path k) (marks_apart k (first + place) (omega arith) (omega arith) (λ e. absurd (omega arith)))
    ∙ marked k (record { from = among.from; below = before }))
    (eq-or-lt_of_le (let b = among.below in let near : k ≤ first + place = omega arith in near))

-- ---- over runs of calls

pub leaves_start : (told : Option Told) (since : ℕ → Map → Type 0) (P : Told → Map → Type 0)
    → OnTold told (λ s. (m : Map) → since s.moment m → IsImage s m) → ((s : Told) (m : Map) → IsImage s m → P s m)
    → OnTold told (λ s. Step told told (λ before t. EachLeft before.moment t.moment since since (P s)))
leaves_start None since P only has = tt
leaves_start (Some s) since P only has = record {
  later = omega arith;
  each = λ m left. has s m (only m left);
  nothing_else = λ moment m earlier left. inl left;
}

pub only_start : (P : List (List ℕ) → Type 0) (told : Option Told) → Step told told (TouchesOnly P)
only_start P None = tt
only_start P (Some s) = still_touches P s s (record { now = refl; synced = refl; touched = refl })

module _ (P Q : List (List ℕ) → Type 0) (among : (place : List (List ℕ)) → Q place → P place) where
  pub only_next : (old mid new : Option Told) → Step old mid (TouchesOnly P) → Step mid new (TouchesOnly Q) → Step old new (TouchesOnly P)
  only_next old mid new first second = on_two old mid new (TouchesOnly P) (TouchesOnly Q) (TouchesOnly P) (λ s t u a b. touches_then P Q s t u among a b) first second

  pub leaves_only : (old mid new : Option Told) (past between since : ℕ → Map → Type 0) → Step old mid (TouchesOnly P) → Step mid new (TouchesOnly Q)
      → Step mid new (λ s t. Elapses s.moment t.moment between since (IsImage t))
      → OnTold old (λ s. Step old mid (λ before t. EachLeft before.moment t.moment past between (IsImageBut P s)))
      → OnTold old (λ s. Step old new (λ before t. EachLeft before.moment t.moment past since (IsImageBut P s)))
  leaves_only old mid new past between since first second time so_far =
      leaves_next old mid new past between since (λ s m. IsImageBut P s m) (λ s t m. IsImage t m) (TouchesOnly P) (TouchesOnly Q)
      (λ s t u a b m image. touches_image P s u m (touches_then P Q s t u among a b) image) first second time so_far

-- a sync, whatever came of it
pub leaves_narrow : (P : List (List ℕ) → Type 0) (old mid new : Option Told) (past between since : ℕ → Map → Type 0) → Step old mid (TouchesOnly P) → Step mid new Narrows
    → Step mid new (λ s t. Elapses s.moment t.moment between since (IsImage t))
    → OnTold old (λ s. Step old mid (λ before t. EachLeft before.moment t.moment past between (IsImageBut P s)))
    → OnTold old (λ s. Step old new (λ before t. EachLeft before.moment t.moment past since (IsImageBut P s)))
leaves_narrow P old mid new past between since first narrows time so_far =
    leaves_next old mid new past between since (λ s m. IsImageBut P s m) (λ s t m. IsImage t m) (TouchesOnly P) Narrows
    (λ s t u a b m image. touches_image P s t m a (b m image)) first narrows time so_far

-- a sync that failed
pub only_unsynced : (P : List (List ℕ) → Type 0) (old mid new : Option Told) → Step old mid (TouchesOnly P) → Step mid new IsStill → Step old new (TouchesOnly P)
only_unsynced P old mid new first still = on_two old mid new (TouchesOnly P) IsStill (TouchesOnly P) (touches_still P) first still

-- ---- the loops' steps

pub can_file_told : (first count place : ℕ) (old cur : Option Told) → place < count → OnTold old (λ s. HasRoom s first count) → Step old cur (TouchesOnly (IsFileAmong first count))
    → OnTold cur (λ t. CanSet t.now (entry_path (first + place)))
can_file_told first count place old cur below room only =
    on_new old cur (λ s t. CanSet t.now (entry_path (first + place))) (λ t. CanSet t.now (entry_path (first + place))) (λ s t can. can)
    (on_told old cur (λ s. HasRoom s first count) (TouchesOnly (IsFileAmong first count)) (λ s t. CanSet t.now (entry_path (first + place)))
    (λ s t has touches. can_file first count (first + place) s t (among_here first count place below) has touches) room only)

pub can_mark_told : (first count place : ℕ) (old cur : Option Told) → place < count → OnTold old (λ s. HasRoomForMarks s first count) → Step old cur (TouchesOnly (IsMarkAmong first count))
    → OnTold cur (λ t. CanSet t.now (mark_path (first + place)))
can_mark_told first count place old cur below room only =
    on_new old cur (λ s t. CanSet t.now (mark_path (first + place))) (λ t. CanSet t.now (mark_path (first + place))) (λ s t can. can)
    (on_told old cur (λ s. HasRoomForMarks s first count) (TouchesOnly (IsMarkAmong first count)) (λ s t. CanSet t.now (mark_path (first + place)))
    (λ s t has touches. can_mark first count (first + place) s t (among_here first count place below) has touches) room only)

pub wider_marks : (first few count : ℕ) (old new : Option Told) → few ≤ count → Step old new (TouchesOnly (IsMarkAmong first few)) → Step old new (TouchesOnly (IsMarkAmong first count))
wider_marks first few count old new less only = on_step old new (TouchesOnly (IsMarkAmong first few)) (TouchesOnly (IsMarkAmong first count))
    (λ s t touches. touches_wider (IsMarkAmong first count) (IsMarkAmong first few) s t (fewer_marks first few count less) touches) only

pub filed_next : (first : ℕ) (touches : List Touch) (place : ℕ) (touch : Touch) (old mid new : Option Told) → place < length touches → first + length touches ≤ 2 ^ 32 → AreTouches touches
    → Step old mid (TouchesOnly (IsFileAmong first (length touches)))
    → Step old mid (λ s t. AreFiled first place (entries_in_turn touches s.now) t.now)
    → OnTold mid (λ t. IsEntry (get_or touches place touch).path (set_in_turn (take place touches) t.now (get_or touches place touch).path))
    → Step mid new (λ t u. u.now ≡ set_at t.now (entry_path (first + place)) (entry_file (get_or touches place touch).path (set_in_turn (take place touches) t.now (get_or touches place touch).path)))
    → Step old new (λ s u. AreFiled first (place + 1) (entries_in_turn touches s.now) u.now)
filed_next first touches place touch old mid new below range are only filed entry sets =
    on_two old mid new (λ s t. TouchesOnly (IsFileAmong first (length touches)) s t × AreFiled first place (entries_in_turn touches s.now) t.now) Sets (λ s u. AreFiled first (place + 1) (entries_in_turn touches s.now) u.now)
    (λ s t u had set. filed_more first touches place touch below range are s t u had.0 had.1 set.0 set.1)
    (on_both old mid (TouchesOnly (IsFileAmong first (length touches))) (λ s t. AreFiled first place (entries_in_turn touches s.now) t.now) (λ s t. TouchesOnly (IsFileAmong first (length touches)) s t × AreFiled first place (entries_in_turn touches s.now) t.now) (λ s t a b. (a, b)) only filed)
    (on_told mid new Entry Set Sets (λ t u a b. (a, b)) entry sets)
  where
    Entry : Told → Type 0
    Entry t = IsEntry (get_or touches place touch).path (set_in_turn (take place touches) t.now (get_or touches place touch).path)

    Set : Told → Told → Type 0
    Set t u = u.now ≡ set_at t.now (entry_path (first + place)) (entry_file (get_or touches place touch).path (set_in_turn (take place touches) t.now (get_or touches place touch).path))

    Sets : Told → Told → Type 0
    Sets t u = Entry t × Set t u

pub marked_next : (first place : ℕ) (old mid new : Option Told) → first + place < 2 ^ 32
    → Step old mid (λ s t. AreMarked first place t.now) → Step mid new (λ t u. u.now ≡ set_at t.now (mark_path (first + place)) mark_file)
    → Step old new (λ s u. AreMarked first (place + 1) u.now)
marked_next first place old mid new range marked sets =
    on_two old mid new (λ s t. AreMarked first place t.now) (λ t u. u.now ≡ set_at t.now (mark_path (first + place)) mark_file) (λ s u. AreMarked first (place + 1) u.now)
    (λ s t u had set. marked_more first place t u range had set) marked sets

-- ---- a sync behind them

pub entered_told : (first : ℕ) (touches : List Touch) (old mid new : Option Told)
    → Step old mid (λ s t. AreFiled first (length touches) (entries_in_turn touches s.now) t.now) → Step old mid (TouchesOnly (IsFileAmong first (length touches)))
    → Step mid new IsSync → Step old new (λ s u. AreEntered s first touches u)
entered_told first touches old mid new files only sync =
    on_two old mid new (λ s t. AreFiled first (length touches) (entries_in_turn touches s.now) t.now × TouchesOnly (IsFileAmong first (length touches)) s t) IsSync (λ s u. AreEntered s first touches u)
    (λ s t u had synced. record {
      files = λ place below. ((had.0 place below).0, ap (λ (m : Map). m (entry_path (first + place))) synced.now ∙ (had.0 place below).1);
      elsewhere = λ place apart. ap (λ (m : Map). m place) synced.now ∙ had.1.elsewhere place apart;
      all_synced = record { synced = synced.synced ∙ sym synced.now; touched = synced.touched };
    })
    (on_both old mid (λ s t. AreFiled first (length touches) (entries_in_turn touches s.now) t.now) (TouchesOnly (IsFileAmong first (length touches))) (λ s t. AreFiled first (length touches) (entries_in_turn touches s.now) t.now × TouchesOnly (IsFileAmong first (length touches)) s t) (λ s t a b. (a, b)) files only)
    sync

pub completed_told : (first count : ℕ) (old mid new : Option Told)
    → Step old mid (λ s t. AreMarked first count t.now) → Step old mid (TouchesOnly (IsMarkAmong first count))
    → Step mid new IsSync → Step old new (λ s u. AreCompleted s first count u)
completed_told first count old mid new marks only sync =
    on_two old mid new (λ s t. AreMarked first count t.now × TouchesOnly (IsMarkAmong first count) s t) IsSync (λ s u. AreCompleted s first count u)
    (λ s t u had synced. record {
      marks = λ k among. ap (λ (m : Map). m (mark_path k)) synced.now ∙ had.0 k among;
      elsewhere = λ place apart. ap (λ (m : Map). m place) synced.now ∙ had.1.elsewhere place apart;
      all_synced = record { synced = synced.synced ∙ sym synced.now; touched = synced.touched };
    })
    (on_both old mid (λ s t. AreMarked first count t.now) (TouchesOnly (IsMarkAmong first count)) (λ s t. AreMarked first count t.now × TouchesOnly (IsMarkAmong first count) s t) (λ s t a b. (a, b)) marks only)
    sync

-- what a `?` handed on
pub err_is : {X Y E : Type 0} (result : Result X E) (fault e : E) → IsErrAnd result (λ x. x ≡ fault) → IsErrOf result e → IsErrOf {T = Y} (Err fault) e
err_is (Ok x) fault e is of = absurd (let no : ⊥ = cc in no)
err_is (Err x) fault e is of = let inner : x ≡ e = cc in ap Err (sym is ∙ inner)

pub still_marks : (first few count : ℕ) (old mid new : Option Told) → few ≤ count → Step old mid (TouchesOnly (IsMarkAmong first few)) → Step mid new IsStill → Step old new (TouchesOnly (IsMarkAmong first count))
still_marks first few count old mid new less only still =
    on_two old mid new (TouchesOnly (IsMarkAmong first count)) IsStill (TouchesOnly (IsMarkAmong first count)) (touches_still (IsMarkAmong first count)) (wider_marks first few count old mid less only) still
