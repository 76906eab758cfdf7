-- The entries of touches are kept through a change.
use Rattle.std.proofs.Common.{◌≡◌, ℕ, zero, suc, ◌+◌, ◌-◌, ◌<◌, ◌≤◌, List, ◌++◌, length, Option, Some, None, true, false, sym, ◌∙◌, ap, subst, arith, length-append}
use Rattle.std.proofs.lemmas.List.{get_or_append_left}
use Rattle.std.proofs.Math.Seq.{get_or-append_right}
use Rattle.folder_core.specs.Folder.{Map, Told, CanSet, set_at}
use Rattle.folder_core.specs.Crash.{IsImage, AllImages, LeavesOnly}
use Rattle.folder_core.specs.Node.{entries_path}
use Rattle.folder_core.specs.Step.{OnTold, Step}
use Rattle.folder_core.specs.declared.node.Node.TheVariants.{Dir}
use Rattle.folder_core.specs.declared.node.Touch.{Touch}
use Rattle.backup_store.specs.KeepingAll.{IsAmong, HasRoom, HaveNoMarks, HoldEntries, HaveCome, LeavesEntries, AreAllKept, AllCount}
use Rattle.backup_store.specs.Places.{entry_path, mark_path}
use Rattle.backup_store.specs.Turns.{AreTouches, CanSetInTurn, entries_in_turn}
use Rattle.backup_store.specs.declared.entry.Entry.{Entry}
use Rattle.backup_store.proofs.InTurn.{length-entries}
use Rattle.install_journal.specs.Ahead.{IsAhead}
use Rattle.install_journal.specs.Kept.{AreKept, Undoes}
use Rattle.install_journal.specs.Open.{IsOpen}
use Rattle.install_journal.specs.Overlay.{no_entry, entry_at, SameOutside}
use Rattle.install_journal.specs.Restored.{RestoresLike, RestoresSame}
use Rattle.install_journal.specs.Touching.{kept_more}
use Rattle.install_journal.specs.declared.change.Change.{Change}
use Rattle.install_journal.proofs.Closings.{nothing_below_other}
use Rattle.install_journal.proofs.Counting.{restores_alike}
use Rattle.install_journal.proofs.Fixing.{fixed_image}
use Rattle.install_journal.proofs.Keeps.{kept_restores, kept_tidy}
use Rattle.install_journal.proofs.KeepingsAll.{come_outside, kept_outside, all_serve, all_fail, all_leave, all_tidy, all_push}
use Rattle.install_journal.proofs.Opens.{open_restores}
use Rattle.install_journal.proofs.Runs.{on_told, on_each, on_both, at_told, step_on, step_each, images_on, start_at, more}
use Rattle.install_journal.proofs.Touchings.{counted_now, none_no_dir}
use Rattle.install_journal.proofs.TurnsServe.{can_in_turn_same, entries_same}
use Rattle.install_journal.proofs.Undoings.{undoes_same}

undoes_append : (entries others : List Entry) (n : ℕ) (m old : Map) → n ≤ length entries → Undoes entries n m old → Undoes (entries ++ others) n m old
undoes_append entries others zero m old most undoes = undoes
undoes_append entries others (suc n) m old most undoes =
    subst (λ (e : Entry). CanSet m e.path × Undoes (entries ++ others) n (set_at m e.path e.before) old) (sym (get_or_append_left entries others no_entry n (omega arith)))
    (undoes.0, undoes_append entries others n _ old (omega arith) undoes.1)

-- A change that is ready for touches.
pub record IsTouchableAll (change : Change) (touches : List Touch) (s : Told) : Type 0 where
  pub began : IsOpen change s
  pub image : IsImage s s.now
  pub can : CanSetInTurn touches s.now

module _ (change : Change) (touches : List Touch) (ready : change.ready ≡ true) (are : AreTouches touches) (few : change.kept + length touches ≤ 1000000) where
  module _ (s : Told) (is : IsTouchableAll change touches s) where
    abbrev k : ℕ
    k = change.kept + 1

    abbrev strays : List Entry
    strays = entries_in_turn touches s.now

    free : AreKept is.began.entries zero is.began.old s
    free = subst (λ (n : ℕ). AreKept is.began.entries n is.began.old s) (is.began.free ready) is.began.kept

    count : length is.began.entries + 1 ≡ k
    count = ap (λ (n : ℕ). n + 1) is.began.count

    room : length is.began.entries + length touches ≤ 1000000
    room = omega (arith, is.began.count)

    later : (number : ℕ) → IsAmong k (length touches) number → (length is.began.entries + zero < number) × (number ≤ 1000001)
    later number among = let from = among.from in let below = among.below in (omega (arith, is.began.count), omega arith)

    pub has_room : HasRoom s k (length touches)
    has_room = record {
      directory = fixed_image s s.now entries_path (Some Dir) is.began.kept.directory is.image;
      nothing_below = λ number among name rest.
          let none = fixed_image s s.now (entry_path number) None (free.no_later_texts number (later number among).0 (later number among).1) is.image in
          nothing_below_other s.now rest (entry_path number) name is.image.formed (none_no_dir (s.now (entry_path number)) none);
    }

    pub have_no_marks : (m : Map) → IsImage s m → HaveNoMarks k (length touches) m
    have_no_marks m image number among = fixed_image s m (mark_path number) None (free.no_later_marks number (later number among).0 (later number among).1) image

    first_leaves : (m : Map) → LeavesEntries s k touches m → LeavesEntries s (length is.began.entries + 1) touches m
    first_leaves m leaves = subst (λ (n : ℕ). LeavesEntries s n touches m) (sym count) leaves

    pub keeps_like : (m : Map) → LeavesEntries s k touches m → RestoresLike s.now m
    keeps_like m leaves = restores_alike s.now m is.began.old (kept_restores is.began.entries is.began.behind is.began.old s s.now is.began.kept is.image)
        (all_leave is.began.entries is.began.old s touches free room is.image are is.can m (first_leaves m leaves))
        (λ place foreign. all_tidy is.began.entries is.began.old s touches free room is.image are is.can m (first_leaves m leaves) place foreign
        ∙ sym (kept_tidy is.began.entries is.began.behind is.began.old s s.now is.began.kept is.image place foreign))

    -- where the entries weren't kept, the change is as before but for its readiness
    pub not_kept : (t : Told) → HaveCome s k touches t → IsOpen (record change { ready = false; failed = true }) t
    not_kept t come = record {
      entries = is.began.entries;
      behind = length touches;
      old = is.began.old;
      count = is.began.count;
      left = is.began.left;
      kept = all_fail is.began.entries is.began.old s touches free room is.image are is.can t (subst (λ (n : ℕ). HaveCome s n touches t) (sym count) come);
      undoes = undoes_same is.began.entries is.began.kept.serves.outside change.left s.now t.now is.began.old (omega (arith, is.began.count, is.began.left)) (come_outside s t k touches come) is.began.undoes;
      all_left = λ no. absurd (let f : ⊥ = cc in f);
      free = λ no. absurd (let f : ⊥ = cc in f);
    }

    -- where they were kept, the touches can be done
    pub now_kept : (t : Told) → AreAllKept s k touches t → HoldEntries t.now k strays → IsAhead (kept_more (length touches) change) touches t
    now_kept t all holds =
        let all_left = is.began.all_left ready in
        let long = length-append is.began.entries strays in
        let many = length-entries touches s.now in
        let same = kept_outside s t k touches all in
        let serves = all_serve is.began.entries is.began.old s touches free room is.image are is.can in
        record {
          entries = is.began.entries ++ strays;
          old = is.began.old;
          count = omega (arith, long, many, is.began.count);
          left = omega (arith, all_left);
          kept = all_push is.began.entries is.began.old s touches free room is.image are is.can t
              (subst (λ (n : ℕ). AreAllKept s n touches t) (sym count) all) (subst (λ (n : ℕ). HoldEntries t.now n strays) (sym count) holds);
          undoes = undoes_same (is.began.entries ++ strays) serves.outside change.left s.now t.now is.began.old (omega (arith, long, is.began.count, is.began.left)) same
              (undoes_append is.began.entries strays change.left s.now is.began.old (omega (arith, is.began.count, is.began.left)) is.began.undoes);
          ahead = λ place near.
              let back : change.left + place - length is.began.entries ≡ place = omega (arith, is.began.count, all_left) in
              get_or-append_right is.began.entries strays (change.left + place) no_entry (omega (arith, is.began.count, all_left))
              ∙ ap (entry_at strays) back
              ∙ ap (λ (l : List Entry). entry_at l place) (sym (entries_same touches s.now t.now are same));
          can_set = can_in_turn_same touches s.now t.now are same is.can;
        }

module _ {D : Type 0} (told : D → Option Told) (left_since : D → ℕ → Map → Type 0) (change : Change) (touches : List Touch) (ready : change.ready ≡ true) (are : AreTouches touches)
    (few : change.kept + length touches ≤ 1000000) (old : D)
    (began : OnTold (told old) (IsOpen change))
    (can : OnTold (told old) (λ s. CanSetInTurn touches s.now))
    (image : OnTold (told old) (λ s. IsImage s s.now))
    (only : OnTold (told old) (λ s. (m : Map) → left_since old s.moment m → IsImage s m)) where
  touchable : OnTold (told old) (IsTouchableAll change touches)
  touchable = on_each (told old) (λ s. (IsOpen change s × IsImage s s.now) × CanSetInTurn touches s.now) (IsTouchableAll change touches)
      (λ s all. record { began = all.0.0; image = all.0.1; can = all.1 })
      (on_both (told old) (λ s. IsOpen change s × IsImage s s.now) (λ s. CanSetInTurn touches s.now) (on_both (told old) (IsOpen change) (λ s. IsImage s s.now) began image) can)

  pub all_room : OnTold (told old) (λ s. HasRoom s (change.kept + 1) (length touches))
  all_room = on_each (told old) (IsTouchableAll change touches) (λ s. HasRoom s (change.kept + 1) (length touches)) (λ s is. has_room change touches ready are few s is) touchable

  pub all_no_marks : AllImages (HaveNoMarks (change.kept + 1) (length touches)) (told old)
  all_no_marks = images_on (told old) (IsTouchableAll change touches) (HaveNoMarks (change.kept + 1) (length touches)) touchable (λ s m is img. have_no_marks change touches ready are few s is m img)

  module _ (mid : D)
      (come : Step (told old) (told mid) (λ s t. HaveCome s (change.kept + 1) touches t))
      (leaves : OnTold (told old) (λ s. LeavesOnly told left_since old mid (LeavesEntries s (change.kept + 1) touches))) where
    pub all_failed : OnTold (told mid) (IsOpen (record change { ready = false; failed = true }))
    all_failed = step_on (told old) (told mid) (IsTouchableAll change touches) (IsOpen (record change { ready = false; failed = true })) (λ s t. HaveCome s (change.kept + 1) touches t) touchable come
        (λ s t is call. not_kept change touches ready are few s is t call)

    pub all_same : Step (told old) (told mid) (λ s t. SameOutside t.now s.now)
    all_same = step_each (told old) (told mid) (λ s t. HaveCome s (change.kept + 1) touches t) (λ s t. SameOutside t.now s.now) (λ s t call. come_outside s t (change.kept + 1) touches call) come

    pub all_restores : RestoresSame told left_since old mid
    all_restores = on_told (told old) _ (λ s e.
        let is : IsTouchableAll change touches s = at_told (told old) s (IsTouchableAll change touches) e touchable in
        (more told left_since old old mid (λ t. t ≡ s) (λ t. Unit {0}) (RestoresLike s.now) (λ t u. HaveCome t (change.kept + 1) touches u) (λ t. LeavesEntries t (change.kept + 1) touches)
        (start_at told left_since old s (RestoresLike s.now) only e (λ m. open_restores change s m is.began is.image))
        come leaves
        (λ t u same did. tt)
        (λ t m same left. keeps_like change touches ready are few s is m (subst (λ (x : Told). LeavesEntries x (change.kept + 1) touches m) same left))).leaves)

    module _ (kept : Step (told old) (told mid) (λ s t. AreAllKept s (change.kept + 1) touches t))
        (counted : OnTold (told old) (λ s. AllImages (λ m. AllCount m (change.kept + 1) (entries_in_turn touches s.now)) (told mid)))
        (mid_image : OnTold (told mid) (λ t. IsImage t t.now)) where
      abbrev Kept : Told → Told → Type 0
      Kept s t = AreAllKept s (change.kept + 1) touches t × AllCount t.now (change.kept + 1) (entries_in_turn touches s.now)

      was_kept : Step (told old) (told mid) Kept
      was_kept = counted_now (told old) (told mid) (λ s m. AllCount m (change.kept + 1) (entries_in_turn touches s.now)) (λ s t. AreAllKept s (change.kept + 1) touches t) counted mid_image kept

      pub all_ahead : OnTold (told mid) (IsAhead (kept_more (length touches) change) touches)
      all_ahead = step_on (told old) (told mid) (IsTouchableAll change touches) (IsAhead (kept_more (length touches) change) touches) Kept touchable was_kept
          (λ s t is call. now_kept change touches ready are few s is t call.0 call.1.holds)

      pub all_hold : Step (told old) (told mid) (λ s t. HoldEntries t.now (change.kept + 1) (entries_in_turn touches s.now))
      all_hold = step_each (told old) (told mid) Kept (λ s t. HoldEntries t.now (change.kept + 1) (entries_in_turn touches s.now)) (λ s t call. call.1.holds) was_kept
