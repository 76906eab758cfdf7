-- How far the keeping of entries came, and what a crash leaves of them.
use Rattle.std.proofs.Common.{◌≡◌, ◌⊎◌, inl, inr, ⊎_elim, ℕ, ◌+◌, ◌-◌, ◌^◌, ◌<◌, ◌≤◌, List, length, Option, Some, None, refl, sym, ◌∙◌, ap, subst, arith}
use Rattle.folder_core.specs.Crash.{IsImage, AllImages, EachLeft}
use Rattle.folder_core.specs.Folder.{Map, Told, IsFormed}
use Rattle.folder_core.specs.Node.{entries_path}
use Rattle.folder_core.specs.Step.{OnTold, Step}
use Rattle.folder_core.specs.declared.node.Touch.{Touch}
use Rattle.backup_store.specs.Filing.{AreEntered, AreCompleted, HasRoomForMarks}
use Rattle.backup_store.specs.KeepingAll.{IsAmong, IsFileAmong, IsMarkAmong, HasNoMark, HaveNoMarks, HasRoom, TouchesOnly, IsImageBut, AreUnmarked, AreWritten, AreSynced, HaveCome, AreAllKept, AllCount}
use Rattle.backup_store.specs.Places.{entry_path, mark_path}
use Rattle.backup_store.specs.Turns.{entries_in_turn}
use Rattle.backup_store.proofs.InTurn.{length-entries}
use Rattle.backup_store.proofs.KeepingLemmas.{IsClear, clear_mark}
use Rattle.backup_store.proofs.Moments.{on_two, on_told, on_told_new, on_new, images_then}
use Rattle.backup_store.proofs.Names.{entry_no_mark, marks_apart}
use Rattle.backup_store.proofs.Touched.{nothing_in, nothing_below, touches_image}

-- No image has a mark.
abbrev pub AreClear : ℕ → ℕ → Told → Type 0
AreClear first count s = (k : ℕ) → IsAmong first count k → IsClear k s

clear_all : (first count : ℕ) (s : Told) → first + count ≤ 2 ^ 32 → IsImage s s.now → HasRoom s first count → ((m : Map) → IsImage s m → HaveNoMarks first count m) → AreClear first count s
clear_all first count s range image room none k among =
    let below = among.below in
    clear_mark k s (omega arith) image (record { directory = room.directory; nothing_below = room.nothing_below k among }) (λ m left. none m left k among)

pub clear_told : (first count : ℕ) (told : Option Told) → first + count ≤ 2 ^ 32 → OnTold told (λ s. IsImage s s.now) → OnTold told (λ s. HasRoom s first count) → AllImages (HaveNoMarks first count) told
    → OnTold told (AreClear first count)
clear_told first count None range image room none = tt
clear_told first count (Some s) range image room none = clear_all first count s range image room none

module _ (first : ℕ) (touches : List Touch) (range : first + length touches ≤ 2 ^ 32) where
  abbrev count : ℕ
  count = length touches

  no_file : (k : ℕ) → ¬ (IsFileAmong first count (mark_path k))
  no_file k is = let below = is.1.0.below in entry_no_mark is.0 k (omega arith) (sym is.1.1)

  no_mark : (k : ℕ) → k < first + count → ¬ (IsMarkAmong first count (entry_path k))
  no_mark k below is = entry_no_mark k is.0 (omega arith) is.1.1

  pub unmarked_all : (s : Told) (m : Map) → AreClear first count s → IsImageBut (IsFileAmong first count) s m → AreUnmarked s first count m
  unmarked_all s m clear image = record {
    no_marks = λ k among. image.untouched (mark_path k) (clear k among).untouched (no_file k) ∙ (clear k among).unsynced;
    image = image;
  }

  module _ (s t : Told) (entered : AreEntered s first touches t) where
    -- The files stand, and but for the marks the map is as it was then.
    written_all : (m : Map) → IsFormed m → ((place : List (List ℕ)) → ¬ (IsMarkAmong first count place) → m place ≡ t.now place) → AreWritten s first touches m
    written_all m formed same = record {
      formed = formed;
      elsewhere = λ place file mark. same place mark ∙ entered.elsewhere place file;
      holds = λ place below.
          let near : place < count = omega (arith, below, length-entries touches s.now) in
          let file = entered.files place near in
          record { entry = file.0; file = (420, same (entry_path (first + place)) (no_mark (first + place) (omega arith)) ∙ file.1) };
    }

    pub room_for_marks : IsFormed t.now → HasRoom s first count → AreClear first count s → HasRoomForMarks t first count
    room_for_marks formed room clear = record {
      directory = entered.elsewhere entries_path (λ is. let same = ap length is.1.1 in absurd (omega arith)) ∙ room.directory;
      nothing_below = λ k among. nothing_below t.now (mark_path k) formed (entered.elsewhere (mark_path k) (no_file k) ∙ (clear k among).now);
    }

    -- a crash while the marks are set
    pub marked_image : (m : Map) → IsImageBut (IsMarkAmong first count) t m → AreWritten s first touches m
    marked_image m image = written_all m image.formed
        (λ place mark. image.untouched place (nothing_in place t.touched entered.all_synced.touched) mark ∙ ap (λ (f : Map). f place) entered.all_synced.synced)

    pub come_marked : (u : Told) → IsFormed t.now → TouchesOnly (IsMarkAmong first count) t u → AreSynced s first touches u
    come_marked u formed touches_marks = record {
      written = subst (λ (f : Map). AreWritten s first touches f) (sym (touches_marks.synced ∙ entered.all_synced.synced))
          (written_all t.now formed (λ place mark. refl));
      touched = λ place has. ⊎_elim (λ had. absurd (nothing_in place t.touched entered.all_synced.touched had)) (λ is. is) (touches_marks.touched place has);
      elsewhere = λ place file mark. touches_marks.elsewhere place mark ∙ entered.elsewhere place file;
    }

    module _ (u : Told) (completed : AreCompleted t first count u) where
      pub come_completed : IsFormed u.now → AreSynced s first touches u
      come_completed formed = record {
        written = subst (λ (f : Map). AreWritten s first touches f) (sym completed.all_synced.synced) (written_all u.now formed completed.elsewhere);
        touched = λ place has. absurd (nothing_in place u.touched completed.all_synced.touched has);
        elsewhere = λ place file mark. completed.elsewhere place mark ∙ entered.elsewhere place file;
      }

      pub kept_all : AreAllKept s first touches u
      kept_all = record {
        elsewhere = λ place file mark. completed.elsewhere place mark ∙ entered.elsewhere place file;
        entries = λ place below. completed.elsewhere (entry_path (first + place)) (no_mark (first + place) (omega arith)) ∙ (entered.files place below).1;
        marks = completed.marks;
        synced = completed.all_synced.synced;
        settled = completed.all_synced.touched;
      }

      pub count_all : (m : Map) → IsImage u m → AllCount m first (entries_in_turn touches s.now)
      count_all m image = record {
        counts = λ k among.
            let below = among.below in
            (420, same (mark_path k) ∙ completed.marks k (record { from = among.from; below = omega (arith, below, length-entries touches s.now) }));
        holds = λ place below.
            let near : place < count = omega (arith, below, length-entries touches s.now) in
            record { entry = (entered.files place near).0; file = (420, same (entry_path (first + place)) ∙ kept_all.entries place near) };
      }
        where
          same : (place : List (List ℕ)) → m place ≡ u.now place
          same place = image.untouched place (nothing_in place u.touched completed.all_synced.touched) ∙ ap (λ (f : Map). f place) completed.all_synced.synced

-- one run after another, by what was told before the first
pub leaves_then : (old mid new : Option Told) (past between since : ℕ → Map → Type 0) (F : Told → Type 0) (R : Told → Told → Type 0) (A B P : Told → Map → Type 0)
    → ((s : Told) (m : Map) → F s → A s m → P s m) → ((s t : Told) (m : Map) → R s t → B t m → P s m)
    → OnTold old F → Step old mid R
    → OnTold old (λ s. Step old mid (λ before t. EachLeft before.moment t.moment past between (A s)))
    → OnTold mid (λ s. Step mid new (λ before t. EachLeft before.moment t.moment between since (B s)))
    → OnTold old (λ s. Step old new (λ before t. EachLeft before.moment t.moment past since (P s)))
leaves_then None mid new past between since F R A B P f g fact step first second = tt
leaves_then (Some s) None new past between since F R A B P f g fact step first second = absurd step
leaves_then (Some s) (Some t) None past between since F R A B P f g fact step first second = absurd second
leaves_then (Some s) (Some t) (Some u) past between since F R A B P f g fact step first second = record {
  later = omega (arith, first.later, second.later);
  each = λ m left. ⊎_elim (λ had. f s m fact (first.each m had)) (λ has. g s t m step has) (second.nothing_else s.moment m first.later left);
  nothing_else = λ moment m earlier left. ⊎_elim
      (λ had. ⊎_elim (λ was. inl was) (λ is. inr (f s m fact is)) (first.nothing_else moment m earlier had))
      (λ has. inr (g s t m step has))
      (second.nothing_else moment m (omega (arith, earlier, first.later)) left);
}

-- the first of them alone
pub leaves_as : (old new : Option Told) (past since : ℕ → Map → Type 0) (F : Told → Type 0) (A P : Told → Map → Type 0)
    → ((s : Told) (m : Map) → F s → A s m → P s m) → OnTold old F
    → OnTold old (λ s. Step old new (λ before t. EachLeft before.moment t.moment past since (A s)))
    → OnTold old (λ s. Step old new (λ before t. EachLeft before.moment t.moment past since (P s)))
leaves_as None new past since F A P f fact first = tt
leaves_as (Some s) None past since F A P f fact first = absurd first
leaves_as (Some s) (Some t) past since F A P f fact first = record {
  later = first.later;
  each = λ m left. f s m fact (first.each m left);
  nothing_else = λ moment m earlier left. ⊎_elim (λ was. inl was) (λ is. inr (f s m fact is)) (first.nothing_else moment m earlier left);
}

-- ---- over the calls

module _ (first : ℕ) (touches : List Touch) (range : first + length touches ≤ 2 ^ 32) (old mid : Option Told) where
  -- the files stand, and no image had a mark before
  record IsOnTheWay (s t : Told) : Type 0 where
    pub clear : AreClear first (length touches) s
    pub entered : AreEntered s first touches t
    pub formed : IsFormed t.now

  on_the_way : OnTold old (AreClear first (length touches)) → Step old mid (λ s t. AreEntered s first touches t) → OnTold mid (λ t. IsFormed t.now) → Step old mid IsOnTheWay
  on_the_way clear entered formed =
      on_told_new old mid (λ t. IsFormed t.now) (λ s t. AreClear first (length touches) s × AreEntered s first touches t) IsOnTheWay (λ s t f both. record { clear = both.0; entered = both.1; formed = f }) formed
      (on_told old mid (AreClear first (length touches)) (λ s t. AreEntered s first touches t) (λ s t. AreClear first (length touches) s × AreEntered s first touches t) (λ s t a b. (a, b)) clear entered)

  pub room_for_marks_told : OnTold old (AreClear first (length touches)) → OnTold old (λ s. HasRoom s first (length touches)) → Step old mid (λ s t. AreEntered s first touches t) → OnTold mid (λ t. IsFormed t.now)
      → OnTold mid (λ t. HasRoomForMarks t first (length touches))
  room_for_marks_told clear room entered formed =
      on_new old mid (λ s t. HasRoomForMarks t first (length touches)) (λ t. HasRoomForMarks t first (length touches)) (λ s t has. has)
      (on_told old mid (λ s. HasRoom s first (length touches)) IsOnTheWay (λ s t. HasRoomForMarks t first (length touches))
      (λ s t has way. room_for_marks first touches range s t way.entered way.formed has way.clear) room (on_the_way clear entered formed))

  module _ (new : Option Told) (entered : Step old mid (λ s t. AreEntered s first touches t)) (formed : OnTold mid (λ t. IsFormed t.now)) where
    pub come_told : OnTold new (λ u. IsFormed u.now) → Step mid new (λ t u. AreCompleted t first (length touches) u ⊎ TouchesOnly (IsMarkAmong first (length touches)) t u)
        → Step old new (λ s u. HaveCome s first touches u)
    come_told formed_new either =
        on_two old mid new (λ s t. AreEntered s first touches t × IsFormed t.now) Marks (λ s u. HaveCome s first touches u)
        (λ s t u had marks. inr (⊎_elim
        (λ completed. come_completed first touches range s t had.0 u completed marks.1)
        (λ only. come_marked first touches range s t had.0 u had.1 only) marks.0))
        (on_told_new old mid (λ t. IsFormed t.now) (λ s t. AreEntered s first touches t) (λ s t. AreEntered s first touches t × IsFormed t.now) (λ s t a b. (b, a)) formed entered)
        (on_told_new mid new (λ u. IsFormed u.now) (λ t u. AreCompleted t first (length touches) u ⊎ TouchesOnly (IsMarkAmong first (length touches)) t u) Marks (λ s t a b. (b, a)) formed_new either)
      where
        Marks : Told → Told → Type 0
        Marks t u = (AreCompleted t first (length touches) u ⊎ TouchesOnly (IsMarkAmong first (length touches)) t u) × IsFormed u.now

    -- the last mark isn't among the fewer
    pub last_unmarked : OnTold old (AreClear first (length touches)) → Step mid new (TouchesOnly (IsMarkAmong first (length touches - 1))) → (k : ℕ) → first ≤ k → k + 1 ≡ first + length touches
        → AllImages (HasNoMark k) new
    last_unmarked clear only k from last =
        images_then old mid new (HasNoMark k) IsOnTheWay (TouchesOnly (IsMarkAmong first (length touches - 1)))
        (λ s t u way touches_few m image.
        image.untouched (mark_path k) (λ has. ⊎_elim (nothing_in (mark_path k) t.touched way.entered.all_synced.touched) no_fewer (touches_few.touched (mark_path k) has))
        ∙ ap (λ (f : Map). f (mark_path k)) (touches_few.synced ∙ way.entered.all_synced.synced)
        ∙ way.entered.elsewhere (mark_path k) (no_file first touches range k)
        ∙ (way.clear k (record { from = from; below = omega (arith, last) })).now)
        (on_the_way clear entered formed) only
      where
        no_fewer : ¬ (IsMarkAmong first (length touches - 1) (mark_path k))
        no_fewer is = let below = is.1.0.below in
            marks_apart k is.0 (omega (arith, last)) (omega arith) (λ e. absurd (omega (arith, last))) is.1.1

-- while no mark is touched
pub none_unmarked : (first : ℕ) (touches : List Touch) (old new : Option Told) → first + length touches ≤ 2 ^ 32 → OnTold old (AreClear first (length touches)) → Step old new (TouchesOnly (IsFileAmong first (length touches)))
    → (k : ℕ) → first ≤ k → k + 1 ≡ first + length touches → AllImages (HasNoMark k) new
none_unmarked first touches None None range clear only k from last = λ m none. absurd none
none_unmarked first touches None (Some t) range clear only k from last = absurd only
none_unmarked first touches (Some s) None range clear only k from last = absurd only
none_unmarked first touches (Some s) (Some t) range clear only k from last = λ m image.
    (unmarked_all first touches range s m clear (touches_image (IsFileAmong first (length touches)) s t m only image)).no_marks k (record { from = from; below = omega (arith, last) })

pub images_each : (told : Option Told) (P : ℕ → Map → Type 0) (Q : ℕ → Type 0) (R : ℕ → Type 0) → ((k : ℕ) → Q k → R k → AllImages (P k) told) → AllImages (λ m. (k : ℕ) → Q k → R k → P k m) told
images_each None P Q R each = λ m none. absurd none
images_each (Some s) P Q R each = λ m image k q r. each k q r m image
