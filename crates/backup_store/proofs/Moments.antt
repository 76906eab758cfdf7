-- How what crashes leave goes on over calls of any kind.
use Rattle.std.proofs.Common.{inl, inr, ◌⊎◌, ⊎_elim, ℕ, ◌≤◌, Option, Some, None, Result, Ok, Err, OnOk, OnErr, arith}
use Rattle.folder_core.specs.Folder.{Map, Told}
use Rattle.folder_core.specs.Crash.{IsImage, AllImages, Elapses, EachLeft}
use Rattle.folder_core.specs.Step.{OnTold, Step}

-- two steps, one after the other
pub on_two : (old mid new : Option Told) (R T U : Told → Told → Type 0) → ((s t u : Told) → R s t → T t u → U s u) → Step old mid R → Step mid new T → Step old new U
on_two None None None R T U f first second = tt
on_two None None (Some u) R T U f first second = absurd second
on_two None (Some t) new R T U f first second = absurd first
on_two (Some s) None new R T U f first second = absurd first
on_two (Some s) (Some t) None R T U f first second = absurd second
on_two (Some s) (Some t) (Some u) R T U f first second = f s t u first second

-- one step, read in another way
pub on_step : (old new : Option Told) (R T : Told → Told → Type 0) → ((s t : Told) → R s t → T s t) → Step old new R → Step old new T
on_step None None R T f step = tt
on_step None (Some t) R T f step = absurd step
on_step (Some s) None R T f step = absurd step
on_step (Some s) (Some t) R T f step = f s t step

-- two facts of one step
pub on_both : (old new : Option Told) (R T U : Told → Told → Type 0) → ((s t : Told) → R s t → T s t → U s t) → Step old new R → Step old new T → Step old new U
on_both None None R T U f first second = tt
on_both None (Some t) R T U f first second = absurd first
on_both (Some s) None R T U f first second = absurd first
on_both (Some s) (Some t) R T U f first second = f s t first second

-- a fact of what was told, and a step
pub on_told : (old new : Option Told) (P : Told → Type 0) (R T : Told → Told → Type 0) → ((s t : Told) → P s → R s t → T s t) → OnTold old P → Step old new R → Step old new T
on_told None None P R T f fact step = tt
on_told None (Some t) P R T f fact step = absurd step
on_told (Some s) None P R T f fact step = absurd step
on_told (Some s) (Some t) P R T f fact step = f s t fact step

pub on_new : (old new : Option Told) (R : Told → Told → Type 0) (P : Told → Type 0) → ((s t : Told) → R s t → P t) → Step old new R → OnTold new P
on_new None None R P f step = tt
on_new None (Some t) R P f step = absurd step
on_new (Some s) None R P f step = tt
on_new (Some s) (Some t) R P f step = f s t step

-- time over two calls, of which the first leaves no image that wasn't one before
pub Elapses-then : {before between now : ℕ} {past mid since : ℕ → Map → Type 0} {P Q : Map → Type 0}
    → ((moment : ℕ) (m : Map) → moment ≤ before → P m → past moment m ⊎ Q m)
    → Elapses before between past mid P → Elapses between now mid since Q → Elapses before now past since Q
Elapses-then had first second = record {
  later = omega (arith, first.later, second.later);
  nothing_else = λ moment m earlier left.
      ⊎_elim
      (λ so_far. ⊎_elim (λ was. inl was) (λ has. had moment m earlier has) (first.nothing_else moment m earlier so_far))
      (λ has. inr has)
      (second.nothing_else moment m (omega (arith, earlier, first.later)) left);
  keeps = λ moment m earlier left. second.keeps moment m (omega (arith, earlier, first.later)) (first.keeps moment m earlier left);
}

-- the first call of a run
pub EachLeft-first : {before now : ℕ} {past since : ℕ → Map → Type 0} {P Q : Map → Type 0}
    → ((m : Map) → past before m → P m) → ((m : Map) → Q m → P m)
    → Elapses before now past since Q → EachLeft before now past since P
EachLeft-first {before = before} had has time = record {
  later = time.later;
  each = λ m left. ⊎_elim (had m) (has m) (time.nothing_else before m (omega arith) left);
  nothing_else = λ moment m earlier left. ⊎_elim (λ was. inl was) (λ is. inr (has m is)) (time.nothing_else moment m earlier left);
}

-- one call more
pub EachLeft-next : {before between now : ℕ} {past mid since : ℕ → Map → Type 0} {P Q : Map → Type 0}
    → ((m : Map) → Q m → P m)
    → EachLeft before between past mid P → Elapses between now mid since Q → EachLeft before now past since P
EachLeft-next {before = before} has so_far time = record {
  later = omega (arith, so_far.later, time.later);
  each = λ m left. ⊎_elim (so_far.each m) (has m) (time.nothing_else before m so_far.later left);
  nothing_else = λ moment m earlier left.
      ⊎_elim
      (λ was. so_far.nothing_else moment m earlier was)
      (λ is. inr (has m is))
      (time.nothing_else moment m (omega (arith, earlier, so_far.later)) left);
}

pub each_image : (told : Option Told) (P : Map → Type 0) → AllImages P told → OnTold told (λ s. (m : Map) → IsImage s m → P m)
each_image None P each = tt
each_image (Some s) P each = λ m image. each m image

-- the first call of a run
pub leaves_first : (old new : Option Told) (past since : ℕ → Map → Type 0) (P : Told → Map → Type 0) (Q : Told → Told → Map → Type 0) (R : Told → Told → Type 0)
    → OnTold old (λ s. (m : Map) → past s.moment m → IsImage s m) → OnTold old (λ s. (m : Map) → IsImage s m → P s m)
    → ((s t : Told) → R s t → (m : Map) → Q s t m → P s m)
    → Step old new R → Step old new (λ s t. Elapses s.moment t.moment past since (Q s t))
    → OnTold old (λ s. Step old new (λ before t. EachLeft before.moment t.moment past since (P s)))
leaves_first None new past since P Q R only had has step time = tt
leaves_first (Some s) None past since P Q R only had has step time = absurd step
leaves_first (Some s) (Some t) past since P Q R only had has step time = EachLeft-first (λ m left. had m (only m left)) (has s t step) time

-- one call more
pub leaves_next : (old mid new : Option Told) (past between since : ℕ → Map → Type 0) (P : Told → Map → Type 0) (Q : Told → Told → Map → Type 0) (R T : Told → Told → Type 0)
    → ((s t u : Told) → R s t → T t u → (m : Map) → Q t u m → P s m)
    → Step old mid R → Step mid new T → Step mid new (λ s t. Elapses s.moment t.moment between since (Q s t))
    → OnTold old (λ s. Step old mid (λ before t. EachLeft before.moment t.moment past between (P s)))
    → OnTold old (λ s. Step old new (λ before t. EachLeft before.moment t.moment past since (P s)))
leaves_next None mid new past between since P Q R T has first second time so_far = tt
leaves_next (Some s) None new past between since P Q R T has first second time so_far = absurd first
leaves_next (Some s) (Some t) None past between since P Q R T has first second time so_far = absurd second
leaves_next (Some s) (Some t) (Some u) past between since P Q R T has first second time so_far = EachLeft-next (has s t u first second) so_far time

-- what two calls leave of each image
pub images_then : (old mid new : Option Told) (P : Map → Type 0) (R T : Told → Told → Type 0)
    → ((s t u : Told) → R s t → T t u → (m : Map) → IsImage u m → P m) → Step old mid R → Step mid new T → AllImages P new
images_then None None None P R T has first second = λ m none. absurd none
images_then None None (Some u) P R T has first second = absurd second
images_then None (Some t) new P R T has first second = absurd first
images_then (Some s) None new P R T has first second = absurd first
images_then (Some s) (Some t) None P R T has first second = absurd second
images_then (Some s) (Some t) (Some u) P R T has first second = has s t u first second

-- the images after a step, by what was told before it
pub images_told : (old mid new : Option Told) (P : Told → Map → Type 0) (R T : Told → Told → Type 0)
    → ((s t u : Told) → R s t → T t u → (m : Map) → IsImage u m → P s m) → Step old mid R → Step mid new T → OnTold old (λ s. AllImages (P s) new)
images_told None mid new P R T has first second = tt
images_told (Some s) None new P R T has first second = absurd first
images_told (Some s) (Some t) None P R T has first second = absurd second
images_told (Some s) (Some t) (Some u) P R T has first second = has s t u first second

pub on_both_told : (told : Option Told) (P Q R : Told → Type 0) → ((s : Told) → P s → Q s → R s) → OnTold told P → OnTold told Q → OnTold told R
on_both_told None P Q R f first second = tt
on_both_told (Some s) P Q R f first second = f s first second

-- a step, and a fact of what is told after it
pub on_told_new : (old new : Option Told) (P : Told → Type 0) (R T : Told → Told → Type 0) → ((s t : Told) → P t → R s t → T s t) → OnTold new P → Step old new R → Step old new T
on_told_new None None P R T f fact step = tt
on_told_new None (Some t) P R T f fact step = absurd step
on_told_new (Some s) None P R T f fact step = absurd step
on_told_new (Some s) (Some t) P R T f fact step = f s t fact step

pub either_way : {V E P Q : Type 0} (result : Result V E) → OnOk result P → OnErr result Q → P ⊎ Q
either_way (Ok v) ok err = inl ok
either_way (Err e) ok err = inr err

pub step_either : (old new : Option Told) (R T : Told → Told → Type 0) → Step old new R ⊎ Step old new T → Step old new (λ s t. R s t ⊎ T s t)
step_either old new R T (inl step) = on_step old new R (λ s t. R s t ⊎ T s t) (λ s t holds. inl holds) step
step_either old new R T (inr step) = on_step old new T (λ s t. R s t ⊎ T s t) (λ s t holds. inr holds) step

pub ok_map : {V E P Q : Type 0} (result : Result V E) → (P → Q) → OnOk result P → OnOk result Q
ok_map (Ok v) f holds = f holds
ok_map (Err e) f holds = tt

pub err_map : {V E P Q : Type 0} (result : Result V E) → (P → Q) → OnErr result P → OnErr result Q
err_map (Ok v) f holds = tt
err_map (Err e) f holds = f holds

pub on_told_one : (told : Option Told) (P Q : Told → Type 0) → ((s : Told) → P s → Q s) → OnTold told P → OnTold told Q
on_told_one None P Q f holds = tt
on_told_one (Some s) P Q f holds = f s holds
