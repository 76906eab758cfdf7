-- How what crashes leave goes on over a run of calls.
use Rattle.std.proofs.Common.{inl, inr, ⊎_elim, ℕ, ◌≤◌, Option, Some, None, arith}
use Rattle.folder_core.specs.Folder.{Map, Told, IsFormed}
use Rattle.folder_core.specs.Crash.{IsImage, AllImages, Elapses, EachLeft, LeavesOnly}
use Rattle.folder_core.specs.Step.{OnTold, Step}

-- what stands now is well formed
pub formed_now : (told : Option Told) → OnTold told (λ s. IsImage s s.now) → OnTold told (λ s. IsFormed s.now)
formed_now None image = tt
formed_now (Some s) image = image.formed

-- what holds of each image holds of what stands now
pub holds_now : (told : Option Told) (P : Map → Type 0) → OnTold told (λ s. IsImage s s.now) → AllImages P told → OnTold told (λ s. P s.now)
holds_now None P image each = tt
holds_now (Some s) P image each = each s.now image

begins_at : (told : Option Told) (since : ℕ → Map → Type 0) (P : Map → Type 0)
    → OnTold told (λ s. (m : Map) → since s.moment m → IsImage s m)
    → AllImages P told
    → Step told told (λ s t. EachLeft s.moment t.moment since since P)
begins_at None since P only each = tt
begins_at (Some s) since P only each = record {
  later = omega arith;
  each = λ m left. each m (only m left);
  nothing_else = λ moment m earlier left. inl left;
}

one_more_at : (old mid new : Option Told) (past between since : ℕ → Map → Type 0) (P : Map → Type 0)
    → Step old mid (λ s t. EachLeft s.moment t.moment past between P)
    → Step mid new (λ s t. Elapses s.moment t.moment between since (IsImage t))
    → AllImages P new
    → Step old new (λ s t. EachLeft s.moment t.moment past since P)
one_more_at None None None past between since P so_far time each = tt
one_more_at None None (Some u) past between since P so_far time each = absurd time
one_more_at None (Some t) new past between since P so_far time each = absurd so_far
one_more_at (Some s) None new past between since P so_far time each = absurd so_far
one_more_at (Some s) (Some t) None past between since P so_far time each = absurd time
one_more_at (Some s) (Some t) (Some u) past between since P so_far time each = record {
  later = omega (arith, so_far.later, time.later);
  each = λ m left. ⊎_elim (so_far.each m) (each m) (time.nothing_else s.moment m so_far.later left);
  nothing_else = λ moment m earlier left.
      ⊎_elim (so_far.nothing_else moment m earlier) (λ now. inr (each m now)) (time.nothing_else moment m (omega (arith, earlier, so_far.later)) left);
}

and_then_at : (old mid new : Option Told) (past between since : ℕ → Map → Type 0) (P : Map → Type 0)
    → Step old mid (λ s t. EachLeft s.moment t.moment past between P)
    → Step mid new (λ s t. EachLeft s.moment t.moment between since P)
    → Step old new (λ s t. EachLeft s.moment t.moment past since P)
and_then_at None None None past between since P first second = tt
and_then_at None None (Some u) past between since P first second = absurd second
and_then_at None (Some t) new past between since P first second = absurd first
and_then_at (Some s) None new past between since P first second = absurd first
and_then_at (Some s) (Some t) None past between since P first second = absurd second
and_then_at (Some s) (Some t) (Some u) past between since P first second = record {
  later = omega (arith, first.later, second.later);
  each = λ m left. ⊎_elim (first.each m) (λ has. has) (second.nothing_else s.moment m first.later left);
  nothing_else = λ moment m earlier left.
      ⊎_elim (first.nothing_else moment m earlier) (λ has. inr has) (second.nothing_else moment m (omega (arith, earlier, first.later)) left);
}

images_at : (old new : Option Told) (past since : ℕ → Map → Type 0) (P : Map → Type 0)
    → OnTold new (λ t. (moment : ℕ) (m : Map) → moment ≤ t.moment → IsImage t m → since moment m)
    → Step old new (λ s t. EachLeft s.moment t.moment past since P)
    → AllImages P new
images_at old None past since P counts so_far = λ m none. absurd none
images_at None (Some t) past since P counts so_far = absurd so_far
images_at (Some s) (Some t) past since P counts so_far = λ m image. so_far.each m (counts s.moment m so_far.later image)

weaker_at : (old new : Option Told) (past since : ℕ → Map → Type 0) (P Q : Map → Type 0)
    → ((m : Map) → P m → Q m)
    → Step old new (λ s t. EachLeft s.moment t.moment past since P)
    → Step old new (λ s t. EachLeft s.moment t.moment past since Q)
weaker_at None None past since P Q f so_far = tt
weaker_at None (Some t) past since P Q f so_far = absurd so_far
weaker_at (Some s) None past since P Q f so_far = absurd so_far
weaker_at (Some s) (Some t) past since P Q f so_far = record {
  later = so_far.later;
  each = λ m left. f m (so_far.each m left);
  nothing_else = λ moment m earlier left. ⊎_elim (λ had. inl had) (λ has. inr (f m has)) (so_far.nothing_else moment m earlier left);
}

module _ {D : Type 0} (told : D → Option Told) (left_since : D → ℕ → Map → Type 0) where
  -- before the first call
  pub begins : (old : D) (P : Map → Type 0)
      → OnTold (told old) (λ s. (m : Map) → left_since old s.moment m → IsImage s m)
      → AllImages P (told old)
      → LeavesOnly told left_since old old P
  begins old P only each = begins_at (told old) (left_since old) P only each

  -- one call more, after which each image has P
  pub one_more : (old mid new : D) (P : Map → Type 0)
      → LeavesOnly told left_since old mid P
      → Step (told mid) (told new) (λ s t. Elapses s.moment t.moment (left_since mid) (left_since new) (IsImage t))
      → AllImages P (told new)
      → LeavesOnly told left_since old new P
  one_more old mid new P so_far time each = one_more_at (told old) (told mid) (told new) (left_since old) (left_since mid) (left_since new) P so_far time each

  -- one run after another
  pub and_then : (old mid new : D) (P : Map → Type 0)
      → LeavesOnly told left_since old mid P
      → LeavesOnly told left_since mid new P
      → LeavesOnly told left_since old new P
  and_then old mid new P first second = and_then_at (told old) (told mid) (told new) (left_since old) (left_since mid) (left_since new) P first second

  -- the images at the end of a run are among them
  pub images_now : (old new : D) (P : Map → Type 0)
      → OnTold (told new) (λ t. (moment : ℕ) (m : Map) → moment ≤ t.moment → IsImage t m → left_since new moment m)
      → LeavesOnly told left_since old new P
      → AllImages P (told new)
  images_now old new P counts so_far = images_at (told old) (told new) (left_since old) (left_since new) P counts so_far

  pub weaker : (old new : D) (P Q : Map → Type 0)
      → ((m : Map) → P m → Q m)
      → LeavesOnly told left_since old new P
      → LeavesOnly told left_since old new Q
  weaker old new P Q f so_far = weaker_at (told old) (told new) (left_since old) (left_since new) P Q f so_far
