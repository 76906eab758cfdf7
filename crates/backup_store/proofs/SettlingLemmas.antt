-- A `set` and a `sync`, one after the other.
use Rattle.std.proofs.Common.{◌≡◌, ◌⊎◌, inl, inr, ⊎_elim, ℕ, List, [], ◌∷◌, Option, Result, Ok, Err, OnErr, Contains, sym, ◌∙◌, ap, subst, arith}
use Rattle.std.proofs.lemmas.List.Elements.{Contains-append_right}
use Rattle.folder_core.specs.Folder.{Map, Told, SameBut}
use Rattle.folder_core.specs.Crash.{IsImage, Touches, Elapses}
use Rattle.folder_core.specs.Step.{Step}
use Rattle.folder_core.specs.declared.node.Touch.{Touch}
use Rattle.backup_store.specs.Looking.{IsStill}
use Rattle.backup_store.specs.Settling.{IsTouchedImage, IsUnsettled}
use Rattle.backup_store.proofs.Moments.{on_two, on_both}

pub on_err : {V E : Type 0} {P : Type 0} (result : Result V E) → P → OnErr result P
on_err (Ok v) holds = tt
on_err (Err e) holds = holds

pub unsettled_then : (touch : Touch) (s t u : Told) → SameBut touch.path s.now t.now → Touches touch.path s t → IsStill t u → IsUnsettled touch s u
unsettled_then touch s t u same touches still = record {
  elsewhere = λ place apart. ap (λ (m : Map). m place) still.now ∙ same place apart;
  touches = record {
    synced = still.synced ∙ touches.synced;
    touched = λ place has. touches.touched place (subst (λ l. Contains l place) still.touched has);
    kept = λ place has. subst (λ l. Contains l place) (sym still.touched) (touches.kept place has);
  };
}

pub unsettled : (touch : Touch) (old mid new : Option Told)
    → Step old mid (λ s t. SameBut touch.path s.now t.now) → Step old mid (Touches touch.path)
    → Step mid new (λ s t. t.now ≡ s.now) → Step mid new (λ s t. t.synced ≡ s.synced) → Step mid new (λ s t. t.touched ≡ s.touched)
    → Step old new (IsUnsettled touch)
unsettled touch old mid new same touches stays synced touched =
    let set = on_both old mid (λ s t. SameBut touch.path s.now t.now) (Touches touch.path) (λ s t. SameBut touch.path s.now t.now × Touches touch.path s t) (λ s t first second. (first, second)) same touches in
    let still = on_both mid new (λ s t. t.now ≡ s.now) (λ s t. (t.synced ≡ s.synced) × (t.touched ≡ s.touched)) IsStill
    (λ s t first second. record { now = first; synced = second.0; touched = second.1 })
    stays (on_both mid new (λ s t. t.synced ≡ s.synced) (λ s t. t.touched ≡ s.touched) (λ s t. (t.synced ≡ s.synced) × (t.touched ≡ s.touched)) (λ s t first second. (first, second)) synced touched) in
    on_two old mid new (λ s t. SameBut touch.path s.now t.now × Touches touch.path s t) IsStill (IsUnsettled touch)
    (λ s t u first second. unsettled_then touch s t u first.0 first.1 second) set still

contains_first : (path : List (List ℕ)) (rest : List (List (List ℕ))) (place : List (List ℕ)) → path ≡ place → Contains (path ∷ rest) place
contains_first path rest place is = (0, omega arith, is)

-- Where one path has been touched, a crash leaves what it may leave then.
pub touched_image : (path : List (List ℕ)) (s t : Told) (m : Map) → Touches path s t → IsImage t m → IsTouchedImage path s m
touched_image path s t m touches image = record {
  formed = image.formed;
  untouched = λ place apart.
      image.untouched place (λ has. ⊎_elim
      (λ old. apart (Contains-append_right (path ∷ []) s.touched place old))
      (λ is. apart (contains_first path s.touched place (sym is)))
      (touches.touched place has))
      ∙ ap (λ (f : Map). f place) touches.synced;
}

Elapses-more : {before between now : ℕ} {past mid since : ℕ → Map → Type 0} {P Q R : Map → Type 0}
    → ((m : Map) → P m → R m) → ((m : Map) → Q m → R m)
    → Elapses before between past mid P → Elapses between now mid since Q → Elapses before now past since R
Elapses-more first_is second_is first second = record {
  later = omega (arith, first.later, second.later);
  nothing_else = λ moment m earlier left.
      ⊎_elim
      (λ so_far. ⊎_elim (λ was. inl was) (λ is. inr (first_is m is)) (first.nothing_else moment m earlier so_far))
      (λ is. inr (second_is m is))
      (second.nothing_else moment m (omega (arith, earlier, first.later)) left);
  keeps = λ moment m earlier left. second.keeps moment m (omega (arith, earlier, first.later)) (first.keeps moment m earlier left);
}

pub settling_time : (path : List (List ℕ)) (old mid new : Option Told) (past between since : ℕ → Map → Type 0)
    → Step old mid (Touches path)
    → Step old mid (λ s t. Elapses s.moment t.moment past between (IsImage t))
    → Step mid new (λ s t. Elapses s.moment t.moment between since (IsImage t))
    → Step old new (λ s t. Elapses s.moment t.moment past since (λ m. IsTouchedImage path s m ⊎ IsImage t m))
settling_time path old mid new past between since touches first second =
    on_two old mid new (λ s t. Touches path s t × Elapses s.moment t.moment past between (IsImage t)) (λ s t. Elapses s.moment t.moment between since (IsImage t))
    (λ s t. Elapses s.moment t.moment past since (λ m. IsTouchedImage path s m ⊎ IsImage t m))
    (λ s t u both time. Elapses-more (λ m image. inl (touched_image path s t m both.0 image)) (λ m image. inr image) both.1 time)
    (on_both old mid (Touches path) (λ s t. Elapses s.moment t.moment past between (IsImage t)) (λ s t. Touches path s t × Elapses s.moment t.moment past between (IsImage t)) (λ s t a b. (a, b)) touches first)
    second
