-- A path is touched through a change.
use Rattle.std.proofs.Common.{◌≡◌, ℕ, zero, suc, ◌+◌, ◌<◌, ◌≤◌, List, [], ◌∷◌, ◌++◌, length, Option, Some, None, Bool, true, false, inl, refl, sym, ◌∙◌, ap, subst, arith}
use Rattle.folder_core.specs.Folder.{Map, Told, CanSet, SameBut}
use Rattle.folder_core.specs.Crash.{IsImage, AllImages, Touches, Elapses, LeavesOnly}
use Rattle.folder_core.specs.Node.{entries_path}
use Rattle.folder_core.specs.Step.{OnTold, Step}
use Rattle.folder_core.specs.declared.node.Node.{Node}
use Rattle.folder_core.specs.declared.node.Node.TheVariants.{Dir}
use Rattle.backup_store.specs.Entry.{IsEntry}
use Rattle.backup_store.specs.Held.{HoldsEntry}
use Rattle.backup_store.specs.Keeping.{HasRoom, HasNoMark, SameButEntry, HasCome, LeavesEntry, IsKept, IsCounted}
use Rattle.backup_store.specs.Places.{IsOutside, entry_path, mark_path}
use Rattle.backup_store.specs.declared.entry.Entry.{Entry}
use Rattle.install_journal.specs.Fixed.{IsFixed}
use Rattle.install_journal.specs.Kept.{AreKept, Undoes, entry_of}
use Rattle.install_journal.specs.Open.{IsOpen}
use Rattle.install_journal.specs.Overlay.{Covers, SameOutside}
use Rattle.install_journal.specs.Restored.{IsRestored, RestoresLike, RestoresSame}
use Rattle.install_journal.specs.Touching.{SameOutsideBut}
use Rattle.install_journal.specs.declared.change.Change.{Change}
use Rattle.install_journal.proofs.Closings.{nothing_below_other}
use Rattle.install_journal.proofs.Counting.{restores_alike}
use Rattle.install_journal.proofs.Fixing.{fixed_image, fixed_touches}
use Rattle.install_journal.proofs.Keepings.{keep_fails, keep_leaves, keep_tidy, keep_pushes}
use Rattle.install_journal.proofs.Keeps.{kept_restores, kept_tidy, kept_alike, kept_goes_on, length_push}
use Rattle.install_journal.proofs.Opens.{open_restores}
use Rattle.install_journal.proofs.Overlays.{covers_back}
use Rattle.install_journal.proofs.Runs.{on_told, on_each, on_both, at_told, step_on, step_both, step_each, step_then, images_on, Ran, start_at, one, more}
use Rattle.install_journal.proofs.Undoings.{can_same, undoes_push, undoes_same}

same_outside_entry : (k : ℕ) (a b : Map) → SameButEntry k a b → SameOutside b a
same_outside_entry k a b same path outside = same path (λ e. outside _ e) (λ e. outside _ e)

pub none_no_dir : (stands : Option Node) → stands ≡ None → ¬ (stands ≡ Some Dir)
none_no_dir stands none is = let no : ⊥ = cc in no

-- A change that is ready for a touch of a path.
pub record IsTouchable (change : Change) (path : List (List ℕ)) (s : Told) : Type 0 where
  pub began : IsOpen change s
  pub image : IsImage s s.now
  pub can : CanSet s.now path

module _ (change : Change) (path : List (List ℕ)) (ready : change.ready ≡ true) (outside : IsOutside path) where
  module _ (s : Told) (is : IsTouchable change path s) where
    abbrev k : ℕ
    k = change.kept + 1

    began_free : AreKept is.began.entries zero is.began.old s
    began_free = subst (λ (n : ℕ). AreKept is.began.entries n is.began.old s) (is.began.free ready) is.began.kept

    less_entries : change.kept < 1000000 → length is.began.entries < 1000000
    less_entries less = omega (arith, is.began.count)

    count : length is.began.entries + 1 ≡ k
    count = ap (λ (n : ℕ). n + 1) is.began.count

    next_small : change.kept < 1000000 → length is.began.entries + 1 ≤ 1000001
    next_small less = omega (arith, is.began.count)

    pub has_room : change.kept < 1000000 → HasRoom s k
    has_room less =
        let free = began_free.no_later_texts (length is.began.entries + 1) (omega arith) (next_small less) in
        let none : s.now (entry_path k) ≡ None = subst (λ (n : ℕ). s.now (entry_path n) ≡ None) count (fixed_image s s.now (entry_path (length is.began.entries + 1)) None free is.image) in
        record {
          directory = fixed_image s s.now entries_path (Some Dir) is.began.kept.directory is.image;
          nothing_below = λ name rest. nothing_below_other s.now rest (entry_path k) name is.image.formed (none_no_dir (s.now (entry_path k)) none);
        }

    pub has_no_mark : change.kept < 1000000 → (m : Map) → IsImage s m → HasNoMark k m
    has_no_mark less m image = subst (λ (n : ℕ). m (mark_path n) ≡ None) count
        (fixed_image s m (mark_path (length is.began.entries + 1)) None (began_free.no_later_marks (length is.began.entries + 1) (omega arith) (next_small less)) image)

    module _ (less : change.kept < 1000000) where
      -- a crash while the entry is kept leaves the old installation
      keeps_old : (m : Map) → LeavesEntry s k path m → IsRestored m is.began.old
      keeps_old m leaves = keep_leaves is.began.entries is.began.old s path began_free (less_entries less) is.image outside is.can m
          (subst (λ (n : ℕ). LeavesEntry s n path m) (sym count) leaves)

      pub keeps_like : (m : Map) → LeavesEntry s k path m → RestoresLike s.now m
      keeps_like m leaves = restores_alike s.now m is.began.old (kept_restores is.began.entries is.began.behind is.began.old s s.now is.began.kept is.image) (keeps_old m leaves)
          (λ place foreign. keep_tidy is.began.entries is.began.old s path began_free (less_entries less) is.image outside is.can m
          (subst (λ (n : ℕ). LeavesEntry s n path m) (sym count) leaves) place foreign
          ∙ sym (kept_tidy is.began.entries is.began.behind is.began.old s s.now is.began.kept is.image place foreign))

      -- where the entry wasn't kept, the change is as before but for its readiness
      pub not_kept : (t : Told) → SameButEntry k s.now t.now → HasCome s k path t → IsOpen (record change { ready = false; failed = true }) t
      not_kept t same come = record {
        entries = is.began.entries;
        behind = 1;
        old = is.began.old;
        count = is.began.count;
        left = is.began.left;
        kept = keep_fails is.began.entries is.began.old s path began_free (less_entries less) is.image outside is.can t (subst (λ (n : ℕ). HasCome s n path t) (sym count) come);
        undoes = undoes_same is.began.entries is.began.kept.serves.outside change.left s.now t.now is.began.old (omega (arith, is.began.count, is.began.left)) (same_outside_entry k s.now t.now same) is.began.undoes;
        all_left = λ no. absurd (let f : ⊥ = cc in f);
        free = λ no. absurd (let f : ⊥ = cc in f);
      }

      -- where it was kept, and then the path was touched or left
      module _ (t : Told) (is_kept : IsKept s k path t) (is_entry : IsEntry path (s.now path)) where
        abbrev pushed : List Entry
        pushed = is.began.entries ++ entry_of s.now path ∷ []

        now_kept : IsKept s (length is.began.entries + 1) path t
        now_kept = subst (λ (n : ℕ). IsKept s n path t) (sym count) is_kept

        pub one_kept : AreKept pushed zero is.began.old t
        one_kept = keep_pushes is.began.entries is.began.old s path began_free (less_entries less) is.image outside is.can t now_kept is_entry

        module _ (u : Told) (touches : Touches path t u) (but : SameBut path t.now u.now) where
          goes : (place : List (List ℕ)) (stands : Option Node) → ¬ (Covers pushed place) → IsFixed t place stands → IsFixed u place stands
          goes place stands none fixed = fixed_touches t u path place stands touches (λ e. none (covers_back is.began.entries (entry_of s.now path ∷ []) place (inl e))) fixed

          pub then_kept : AreKept pushed zero is.began.old u
          then_kept = kept_goes_on pushed zero is.began.old t u one_kept goes

          then_undoes : Undoes pushed (change.left + 1) u.now is.began.old
          then_undoes =
              let all = is.began.all_left ready in
              let n : suc (length is.began.entries) ≡ change.left + 1 = omega (arith, is.began.count, all) in
              let had : Undoes is.began.entries (length is.began.entries) s.now is.began.old = subst (λ (i : ℕ). Undoes is.began.entries i s.now is.began.old) (all ∙ sym is.began.count) is.began.undoes in
              subst (λ (i : ℕ). Undoes pushed i u.now is.began.old) n
              (undoes_push is.began.entries s.now t.now u.now is.began.old path one_kept.serves.outside outside is.can (same_outside_entry k s.now t.now is_kept.elsewhere) but had)

          pub then_open : (ready_now failed : Bool) → IsOpen (record { kept = change.kept + 1; left = change.left + 1; ready = ready_now; failed = failed }) u
          then_open ready_now failed =
              let all = is.began.all_left ready in
              record {
                entries = pushed;
                behind = zero;
                old = is.began.old;
                count = length_push is.began.entries (entry_of s.now path) ∙ count;
                left = omega (arith, all);
                kept = then_kept;
                undoes = then_undoes;
                all_left = λ _. ap (λ (n : ℕ). n + 1) all;
                free = λ _. refl;
              }

pub counted_now : (a b : Option Told) (R : Told → Map → Type 0) (C : Told → Told → Type 0) → OnTold a (λ s. AllImages (R s) b) → OnTold b (λ t. IsImage t t.now) → Step a b C → Step a b (λ s t. C s t × R s t.now)
counted_now None None R C each image call = tt
counted_now None (Some t) R C each image call = absurd call
counted_now (Some s) None R C each image call = absurd call
counted_now (Some s) (Some t) R C each image call = (call, each t.now image)

holds_still : (k : ℕ) (path at : List (List ℕ)) (before : Option Node) (m n : Map) → IsOutside path → SameBut path m n → HoldsEntry m k at before → HoldsEntry n k at before
holds_still k path at before m n outside but holds = record {
  entry = holds.entry;
  file = (holds.file.0, but (entry_path k) (λ e. outside _ (sym e)) ∙ holds.file.1);
}

module _ {D : Type 0} (told : D → Option Told) (left_since : D → ℕ → Map → Type 0) (change : Change) (path : List (List ℕ)) (ready : change.ready ≡ true) (outside : IsOutside path) (old : D)
    (began : OnTold (told old) (IsOpen change))
    (can : OnTold (told old) (λ s. CanSet s.now path))
    (less : change.kept < 1000000)
    (image : OnTold (told old) (λ s. IsImage s s.now))
    (only : OnTold (told old) (λ s. (m : Map) → left_since old s.moment m → IsImage s m)) where
  pub touchable : OnTold (told old) (IsTouchable change path)
  touchable = on_each (told old) (λ s. (IsOpen change s × IsImage s s.now) × CanSet s.now path) (IsTouchable change path)
      (λ s all. record { began = all.0.0; image = all.0.1; can = all.1 })
      (on_both (told old) (λ s. IsOpen change s × IsImage s s.now) (λ s. CanSet s.now path) (on_both (told old) (IsOpen change) (λ s. IsImage s s.now) began image) can)

  pub room : OnTold (told old) (λ s. HasRoom s (change.kept + 1))
  room = on_each (told old) (IsTouchable change path) (λ s. HasRoom s (change.kept + 1)) (λ s is. has_room change path ready outside s is less) touchable

  pub no_mark : AllImages (HasNoMark (change.kept + 1)) (told old)
  no_mark = images_on (told old) (IsTouchable change path) (HasNoMark (change.kept + 1)) touchable (λ s m is img. has_no_mark change path ready outside s is less m img)

  module _ (mid : D)
      (elsewhere : Step (told old) (told mid) (λ s t. SameButEntry (change.kept + 1) s.now t.now))
      (come : Step (told old) (told mid) (λ s t. HasCome s (change.kept + 1) path t))
      (leaves : OnTold (told old) (λ s. LeavesOnly told left_since old mid (LeavesEntry s (change.kept + 1) path))) where
    pub failed_open : OnTold (told mid) (IsOpen (record change { ready = false; failed = true }))
    failed_open = step_on (told old) (told mid) (IsTouchable change path) (IsOpen (record change { ready = false; failed = true }))
        (λ s t. SameButEntry (change.kept + 1) s.now t.now × HasCome s (change.kept + 1) path t) touchable
        (step_both (told old) (told mid) (λ s t. SameButEntry (change.kept + 1) s.now t.now) (λ s t. HasCome s (change.kept + 1) path t) elsewhere come)
        (λ s t is call. not_kept change path ready outside s is less t call.0 call.1)

    pub outside_same : Step (told old) (told mid) (λ s t. SameOutside t.now s.now)
    outside_same = step_each (told old) (told mid) (λ s t. SameButEntry (change.kept + 1) s.now t.now) (λ s t. SameOutside t.now s.now)
        (λ s t same. same_outside_entry (change.kept + 1) s.now t.now same) elsewhere

    pub elsewhere_same : Step (told old) (told mid) (λ s t. SameOutsideBut path s.now t.now)
    elsewhere_same = step_each (told old) (told mid) (λ s t. SameButEntry (change.kept + 1) s.now t.now) (λ s t. SameOutsideBut path s.now t.now)
        (λ s t same place out apart. same_outside_entry (change.kept + 1) s.now t.now same place out) elsewhere

    kept_ran : (s : Told) → told old ≡ Some s → (is : IsTouchable change path s) → (C : Told → Told → Type 0) (N : Told → Type 0)
        → Step (told old) (told mid) C → ((t : Told) → C s t → N t) → Ran told left_since old mid N (RestoresLike s.now)
    kept_ran s e is C N call f =
        more told left_since old old mid (λ t. t ≡ s) N (RestoresLike s.now) C (λ t. LeavesEntry t (change.kept + 1) path)
        (start_at told left_since old s (RestoresLike s.now) only e (λ m. open_restores change s m is.began is.image))
        call leaves
        (λ t u same did. f u (subst (λ (x : Told). C x u) same did))
        (λ t m same left. keeps_like change path ready outside s is less m (subst (λ (x : Told). LeavesEntry x (change.kept + 1) path m) same left))

    pub failed_restores : RestoresSame told left_since old mid
    failed_restores = on_told (told old) _ (λ s e.
        (kept_ran s e (at_told (told old) s (IsTouchable change path) e touchable) (λ t u. SameButEntry (change.kept + 1) t.now u.now) (λ t. Unit {0}) elsewhere (λ t did. tt)).leaves)

    pub can_still : OnTold (told mid) (λ t. CanSet t.now path)
    can_still = step_on (told old) (told mid) (λ s. CanSet s.now path) (λ t. CanSet t.now path) (λ s t. SameButEntry (change.kept + 1) s.now t.now) can elsewhere
        (λ s t may same. can_same s.now t.now path outside (same_outside_entry (change.kept + 1) s.now t.now same) may)

    module _ (kept : Step (told old) (told mid) (λ s t. IsKept s (change.kept + 1) path t))
        (counted : OnTold (told old) (λ s. AllImages (IsCounted s (change.kept + 1) path) (told mid)))
        (mid_image : OnTold (told mid) (λ t. IsImage t t.now))
        (new : D)
        (touches : Step (told mid) (told new) (Touches path))
        (but : Step (told mid) (told new) (λ s t. SameBut path s.now t.now))
        (time : Step (told mid) (told new) (λ s t. Elapses s.moment t.moment (left_since mid) (left_since new) (IsImage t))) where
      abbrev Kept : Told → Told → Type 0
      Kept s t = IsKept s (change.kept + 1) path t × IsCounted s (change.kept + 1) path t.now

      abbrev Set : Told → Told → Type 0
      Set t u = Touches path t u × SameBut path t.now u.now

      was_kept : Step (told old) (told mid) Kept
      was_kept = counted_now (told old) (told mid) (λ s. IsCounted s (change.kept + 1) path) (λ s t. IsKept s (change.kept + 1) path t) counted mid_image kept

      was_set : Step (told mid) (told new) Set
      was_set = step_both (told mid) (told new) (Touches path) (λ s t. SameBut path s.now t.now) touches but

      pub set_open : (ready_now failed : Bool) → OnTold (told new) (IsOpen (record { kept = change.kept + 1; left = change.left + 1; ready = ready_now; failed = failed }))
      set_open ready_now failed = step_on (told old) (told new) (IsTouchable change path) (IsOpen (record { kept = change.kept + 1; left = change.left + 1; ready = ready_now; failed = failed }))
          (λ s u. (t : Told) × (Kept s t × Set t u)) touchable
          (step_then (told old) (told mid) (told new) Kept Set (λ s u. (t : Told) × (Kept s t × Set t u)) was_kept was_set (λ s t u p q. (t, (p, q))))
          (λ s u is run. then_open change path ready outside s is less run.0 run.1.0.0 run.1.0.1.holds.entry u run.1.1.0 run.1.1.1 ready_now failed)

      pub set_restores : RestoresSame told left_since old new
      set_restores = on_told (told old) _ (λ s e.
          let is : IsTouchable change path s = at_told (told old) s (IsTouchable change path) e touchable in
          (one told left_since old mid new (λ t. Kept s t) (λ u. AreKept (is.began.entries ++ entry_of s.now path ∷ []) zero is.began.old u) (RestoresLike s.now) Set
          (kept_ran s e is Kept (λ t. Kept s t) was_kept (λ t did. did))
          was_set time
          (λ t u did set. then_kept change path ready outside s is less t did.0 did.1.holds.entry u set.0 set.1)
          (λ u m held img. kept_alike is.began.entries is.began.behind (is.began.entries ++ entry_of s.now path ∷ []) zero is.began.old s u s.now m is.began.kept is.image held img)).leaves)

      pub set_holds : Step (told old) (told new) (λ s u. HoldsEntry u.now (change.kept + 1) path (s.now path))
      set_holds = step_then (told old) (told mid) (told new) Kept Set (λ s u. HoldsEntry u.now (change.kept + 1) path (s.now path)) was_kept was_set
          (λ s t u did set. holds_still (change.kept + 1) path path (s.now path) t.now u.now outside set.1 did.1.holds)
