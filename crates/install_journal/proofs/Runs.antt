-- How a run of calls on a folder goes on: what holds of what is told, and what crashes leave.
use Rattle.std.proofs.Common.{◌≡◌, inl, inr, ⊎_elim, ℕ, Option, Some, None, arith, refl, sym, subst}
use Rattle.std.specs.Bool.{⊤}
use Rattle.folder_core.specs.Folder.{Map, Told}
use Rattle.folder_core.specs.Crash.{IsImage, AllImages, Elapses, EachLeft, LeavesOnly}
use Rattle.folder_core.specs.Step.{OnTold, Step}

pub on_told : (told : Option Told) (P : Told → Type 0) → ((s : Told) → told ≡ Some s → P s) → OnTold told P
on_told None P f = tt
on_told (Some s) P f = f s refl

pub at_told : (told : Option Told) (s : Told) (P : Told → Type 0) → told ≡ Some s → OnTold told P → P s
at_told None s P is holds = absurd (let no : ⊥ = cc in no)
at_told (Some t) s P is holds = subst P (let same : t ≡ s = cc in same) holds

pub on_each : (told : Option Told) (P Q : Told → Type 0) → ((s : Told) → P s → Q s) → OnTold told P → OnTold told Q
on_each None P Q f holds = tt
on_each (Some s) P Q f holds = f s holds

pub on_both : (told : Option Told) (P Q : Told → Type 0) → OnTold told P → OnTold told Q → OnTold told (λ s. P s × Q s)
on_both None P Q p q = tt
on_both (Some s) P Q p q = (p, q)

pub step_both : (a b : Option Told) (P Q : Told → Told → Type 0) → Step a b P → Step a b Q → Step a b (λ s t. P s t × Q s t)
step_both None None P Q p q = tt
step_both None (Some t) P Q p q = absurd p
step_both (Some s) None P Q p q = absurd p
step_both (Some s) (Some t) P Q p q = (p, q)

pub step_each : (a b : Option Told) (P Q : Told → Told → Type 0) → ((s t : Told) → P s t → Q s t) → Step a b P → Step a b Q
step_each None None P Q f p = tt
step_each None (Some t) P Q f p = absurd p
step_each (Some s) None P Q f p = absurd p
step_each (Some s) (Some t) P Q f p = f s t p

pub step_on : (a b : Option Told) (P Q : Told → Type 0) (R : Told → Told → Type 0) → OnTold a P → Step a b R → ((s t : Told) → P s → R s t → Q t) → OnTold b Q
step_on None None P Q R p r f = tt
step_on None (Some t) P Q R p r f = absurd r
step_on (Some s) None P Q R p r f = tt
step_on (Some s) (Some t) P Q R p r f = f s t p r

-- what is known of a call and of what was told before it
pub step_from : (a b : Option Told) (P : Told → Type 0) (R Q : Told → Told → Type 0) → OnTold a P → Step a b R → ((s t : Told) → P s → R s t → Q s t) → Step a b Q
step_from None None P R Q p r f = tt
step_from None (Some t) P R Q p r f = absurd r
step_from (Some s) None P R Q p r f = absurd r
step_from (Some s) (Some t) P R Q p r f = f s t p r

pub step_then : (a b d : Option Told) (P Q R : Told → Told → Type 0) → Step a b P → Step b d Q → ((s t u : Told) → P s t → Q t u → R s u) → Step a d R
step_then None None None P Q R p q f = tt
step_then None None (Some u) P Q R p q f = absurd q
step_then None (Some t) d P Q R p q f = absurd p
step_then (Some s) None d P Q R p q f = absurd p
step_then (Some s) (Some t) None P Q R p q f = absurd q
step_then (Some s) (Some t) (Some u) P Q R p q f = f s t u p q

pub step_same : (a : Option Told) (R : Told → Told → Type 0) → ((s : Told) → R s s) → Step a a R
step_same None R f = tt
step_same (Some s) R f = f s

pub images_on : (told : Option Told) (Q : Told → Type 0) (P : Map → Type 0) → OnTold told Q → ((s : Told) (m : Map) → Q s → IsImage s m → P m) → AllImages P told
images_on None Q P holds f = λ m none. absurd none
images_on (Some s) Q P holds f = λ m image. f s m holds image

-- A run has come to something that holds of what is told, and each image meanwhile had P.
pub record Ran {D : Type 0} (told : D → Option Told) (left_since : D → ℕ → Map → Type 0) (old new : D) (Q : Told → Type 0) (P : Map → Type 0) : Type 0 where
  pub holds : OnTold (told new) Q
  pub leaves : LeavesOnly told left_since old new P

only_one : (old mid new : Option Told) (past between since : ℕ → Map → Type 0) (P : Map → Type 0) (Q : Told → Type 0) (R : Told → Map → Type 0)
    → Step old mid (λ s t. EachLeft s.moment t.moment past between P)
    → OnTold mid Q
    → OnTold mid (λ t. Step mid new (λ u v. EachLeft u.moment v.moment between since (R t)))
    → ((t : Told) (m : Map) → Q t → R t m → P m)
    → Step mid new (λ t u. ⊤)
    → Step old new (λ s t. EachLeft s.moment t.moment past since P)
only_one None None None past between since P Q R first holds second f tells = tt
only_one None None (Some u) past between since P Q R first holds second f tells = absurd tells
only_one None (Some t) new past between since P Q R first holds second f tells = absurd first
only_one (Some s) None new past between since P Q R first holds second f tells = absurd first
only_one (Some s) (Some t) None past between since P Q R first holds second f tells = absurd tells
only_one (Some s) (Some t) (Some u) past between since P Q R first holds second f tells = record {
  later = omega (arith, first.later, second.later);
  each = λ m left. ⊎_elim (first.each m) (λ has. f t m holds has) (second.nothing_else s.moment m first.later left);
  nothing_else = λ moment m earlier left.
      ⊎_elim (first.nothing_else moment m earlier) (λ has. inr (f t m holds has)) (second.nothing_else moment m (omega (arith, earlier, first.later)) left);
}

one_call : (old mid new : Option Told) (past between since : ℕ → Map → Type 0) (P : Map → Type 0) (Q : Told → Type 0)
    → Step old mid (λ s t. EachLeft s.moment t.moment past between P)
    → Step mid new (λ s t. Elapses s.moment t.moment between since (IsImage t))
    → OnTold new Q
    → ((t : Told) (m : Map) → Q t → IsImage t m → P m)
    → Step old new (λ s t. EachLeft s.moment t.moment past since P)
one_call None None None past between since P Q so_far time holds f = tt
one_call None None (Some u) past between since P Q so_far time holds f = absurd time
one_call None (Some t) new past between since P Q so_far time holds f = absurd so_far
one_call (Some s) None new past between since P Q so_far time holds f = absurd so_far
one_call (Some s) (Some t) None past between since P Q so_far time holds f = absurd time
one_call (Some s) (Some t) (Some u) past between since P Q so_far time holds f = record {
  later = omega (arith, so_far.later, time.later);
  each = λ m left. ⊎_elim (so_far.each m) (f u m holds) (time.nothing_else s.moment m so_far.later left);
  nothing_else = λ moment m earlier left.
      ⊎_elim (so_far.nothing_else moment m earlier) (λ now. inr (f u m holds now)) (time.nothing_else moment m (omega (arith, earlier, so_far.later)) left);
}

begin_at : (told : Option Told) (since : ℕ → Map → Type 0) (Q : Told → Type 0) (P : Map → Type 0)
    → OnTold told (λ s. (m : Map) → since s.moment m → IsImage s m)
    → OnTold told Q
    → ((s : Told) (m : Map) → Q s → IsImage s m → P m)
    → Step told told (λ s t. EachLeft s.moment t.moment since since P)
begin_at None since Q P only holds f = tt
begin_at (Some s) since Q P only holds f = record {
  later = omega arith;
  each = λ m left. f s m holds (only m left);
  nothing_else = λ moment m earlier left. inl left;
}

weaken_at : (old new : Option Told) (past since : ℕ → Map → Type 0) (P Q : Map → Type 0)
    → ((m : Map) → P m → Q m)
    → Step old new (λ s t. EachLeft s.moment t.moment past since P)
    → Step old new (λ s t. EachLeft s.moment t.moment past since Q)
weaken_at None None past since P Q f so_far = tt
weaken_at None (Some t) past since P Q f so_far = absurd so_far
weaken_at (Some s) None past since P Q f so_far = absurd so_far
weaken_at (Some s) (Some t) past since P Q f so_far = record {
  later = so_far.later;
  each = λ m left. f m (so_far.each m left);
  nothing_else = λ moment m earlier left. ⊎_elim (λ had. inl had) (λ has. inr (f m has)) (so_far.nothing_else moment m earlier left);
}

module _ {D : Type 0} (told : D → Option Told) (left_since : D → ℕ → Map → Type 0) where
  -- before the first call
  pub start : (old : D) (Q : Told → Type 0) (P : Map → Type 0)
      → OnTold (told old) (λ s. (m : Map) → left_since old s.moment m → IsImage s m)
      → OnTold (told old) Q
      → ((s : Told) (m : Map) → Q s → IsImage s m → P m)
      → Ran told left_since old old Q P
  start old Q P only holds f = record { holds = holds; leaves = begin_at (told old) (left_since old) Q P only holds f }

  -- one call of the folder more
  pub one : (old mid new : D) (Q N : Told → Type 0) (P : Map → Type 0) (R : Told → Told → Type 0)
      → Ran told left_since old mid Q P
      → Step (told mid) (told new) R
      → Step (told mid) (told new) (λ s t. Elapses s.moment t.moment (left_since mid) (left_since new) (IsImage t))
      → ((s t : Told) → Q s → R s t → N t)
      → ((t : Told) (m : Map) → N t → IsImage t m → P m)
      → Ran told left_since old new N P
  one old mid new Q N P R ran call time f g =
      let holds : OnTold (told new) N = step_on (told mid) (told new) Q N R ran.holds call f in
      record { holds = holds; leaves = one_call (told old) (told mid) (told new) (left_since old) (left_since mid) (left_since new) P N ran.leaves time holds g }

  -- before the first call, where this is told
  pub start_at : (old : D) (s : Told) (P : Map → Type 0)
      → OnTold (told old) (λ t. (m : Map) → left_since old t.moment m → IsImage t m)
      → told old ≡ Some s
      → ((m : Map) → IsImage s m → P m)
      → Ran told left_since old old (λ t. t ≡ s) P
  start_at old s P only is f = start old (λ t. t ≡ s) P only
      (subst (λ (o : Option Told). OnTold o (λ t. t ≡ s)) (sym is) refl)
      (λ t m same image. f m (subst (λ (x : Told). IsImage x m) same image))

  -- a run more, of which each image had R
  pub more : (old mid new : D) (Q N : Told → Type 0) (P : Map → Type 0) (C : Told → Told → Type 0) (R : Told → Map → Type 0)
      → Ran told left_since old mid Q P
      → Step (told mid) (told new) C
      → OnTold (told mid) (λ t. Step (told mid) (told new) (λ u v. EachLeft u.moment v.moment (left_since mid) (left_since new) (R t)))
      → ((s t : Told) → Q s → C s t → N t)
      → ((t : Told) (m : Map) → Q t → R t m → P m)
      → Ran told left_since old new N P
  more old mid new Q N P C R ran call leaves f g = record {
    holds = step_on (told mid) (told new) Q N C ran.holds call f;
    leaves = only_one (told old) (told mid) (told new) (left_since old) (left_since mid) (left_since new) P Q R ran.leaves ran.holds leaves g
        (step_each (told mid) (told new) C (λ s t. ⊤) (λ s t is. tt) call);
  }

  pub weaken : (old new : D) (Q N : Told → Type 0) (P R : Map → Type 0)
      → ((s : Told) → Q s → N s) → ((m : Map) → P m → R m)
      → Ran told left_since old new Q P → Ran told left_since old new N R
  weaken old new Q N P R f g ran = record {
    holds = on_each (told new) Q N f ran.holds;
    leaves = weaken_at (told old) (told new) (left_since old) (left_since new) P R g ran.leaves;
  }
