-- Marks, and what marking changes.
use Rattle.std.proofs.Common.{◌≡◌, ℕ, zero, suc, ◌+◌, ◌<◌, ◌≤◌, ◌⊎◌, inl, inr, Bool, true, false, set, subst, List, [], ◌∷◌, ◌++◌, length, get_or, refl, ap, sym, ◌∙◌, append_assoc, length-append, arith}
use Rattle.std.specs.Prelude.{Some, IsTrue, slice_get}
use Rattle.std.proofs.lemmas.Bool.{cases_eq, cases_Bool}
use Rattle.std.proofs.lemmas.List.{append-nil, get_or_append_left, get_or-set_same, get_or-set_other, length-set}
use Rattle.std.proofs.lemmas.List.Elements.{Contains-append_left, Contains-push, Contains-push_cases}
use Rattle.std.proofs.lemmas.Option.{slice_get-get_or, get_or_from_slice_get}
use Rattle.unit_judge.specs.Reaching.{IsMarked, unmarked, Marks, HasMarked}
use Rattle.unit_judge.specs.declared.reaching.Reached.{Reached}

-- One mark more.

marked_more : (marks : List Bool) (at n : ℕ) → at < length marks → IsMarked marks n → IsMarked (set marks at true) n
marked_more marks at n within marked = elim (cases_eq n at) [
  | inl same ↦ subst (λ (m : ℕ). IsMarked (set marks at true) m) (sym same) (get_or-set_same marks at true false within)
  | inr other ↦ get_or-set_other marks at n true false other ∙ marked
]

marked_only : (marks : List Bool) (at n : ℕ) → IsMarked (set marks at true) n → IsMarked marks n ⊎ (n ≡ at)
marked_only marks at n marked = elim (cases_eq n at) [
  | inl same ↦ inr same
  | inr other ↦ inl (sym (get_or-set_other marks at n true false other) ∙ marked)
]

fewer : (marks : List Bool) (at : ℕ) → at < length marks → (IsMarked marks at → ⊥) → unmarked (set marks at true) + 1 ≡ unmarked marks
fewer [] at within clear = absurd (omega arith)
fewer (true ∷ marks) zero within clear = absurd (clear refl)
fewer (false ∷ marks) zero within clear = omega arith
fewer (true ∷ marks) (suc at) within clear = fewer marks at (omega arith) clear
fewer (false ∷ marks) (suc at) within clear = let ih : unmarked (set marks at true) + 1 ≡ unmarked marks = fewer marks at (omega arith) clear in omega arith

-- A number is marked, and put behind the order.
pub marks_one : (old new : Reached) (at : ℕ) → at < length old.marks.items → (IsMarked old.marks.items at → ⊥) → new.marks.items ≡ set old.marks.items at true → new.order.items ≡ old.order.items ++ at ∷ []
    → Marks (λ n. n ≡ at) old new
marks_one old new at within clear marks order = record {
  size = rw marks (length-set old.marks.items at true);
  kept = λ n marked. rw marks (marked_more old.marks.items at n within marked);
  only = λ n marked. marked_only old.marks.items at n (rw marks at marked);
  grown = (at ∷ [], order);
  listed = λ listed. λ n. (
    λ marked. elim (marked_only old.marks.items at n (rw marks at marked)) [
      | inl before ↦ rw order (Contains-append_left old.order.items (at ∷ []) n ((listed n).0 before))
      | inr here ↦ rw (order, here) (Contains-push old.order.items at)
    ],
    λ has. rw marks (elim (Contains-push_cases old.order.items at n (rw order at has)) [
      | inl before ↦ marked_more old.marks.items at n within ((listed n).1 before)
      | inr here ↦ subst (λ (m : ℕ). IsMarked (set old.marks.items at true) m) here (get_or-set_same old.marks.items at true false within)
    ]),
  );
  level =
      let less = fewer old.marks.items at within clear in
      let long = length-append old.order.items (at ∷ []) in
      rw (marks, order) (omega arith);
}

-- Nothing changes.
pub marks_none : (Kind : ℕ → Type 0) (reached : Reached) → Marks Kind reached reached
marks_none Kind reached = record {
  size = refl;
  kept = λ n marked. marked;
  only = λ n marked. inl marked;
  grown = ([], sym (append-nil reached.order.items));
  listed = λ listed. listed;
  level = refl;
}

pub marks_then : (Kind : ℕ → Type 0) (a b c : Reached) → Marks Kind a b → Marks Kind b c → Marks Kind a c
marks_then Kind a b c first second = record {
  size = second.size ∙ first.size;
  kept = λ n marked. second.kept n (first.kept n marked);
  only = λ n marked. elim (second.only n marked) [ inl before ↦ first.only n before | inr kind ↦ inr kind ];
  grown = (first.grown.0 ++ second.grown.0, second.grown.1 ∙ (ap (λ l. l ++ second.grown.0) first.grown.1 ∙ append_assoc a.order.items first.grown.0 second.grown.0));
  listed = λ listed. second.listed (first.listed listed);
  level = second.level ∙ first.level;
}

pub marks_wider : (Kind Wider : ℕ → Type 0) (old new : Reached) → ((n : ℕ) → Kind n → Wider n) → Marks Kind old new → Marks Wider old new
marks_wider Kind Wider old new wider marks = record {
  size = marks.size;
  kept = marks.kept;
  only = λ n marked. elim (marks.only n marked) [ inl before ↦ inl before | inr kind ↦ inr (wider n kind) ];
  grown = marks.grown;
  listed = marks.listed;
  level = marks.level;
}

-- What was marked stays so.
pub still_marked : (Kind Other : ℕ → Type 0) (old new : Reached) → Marks Other old new → HasMarked Kind old → HasMarked Kind new
still_marked Kind Other old new marks has = λ n within kind. let size = marks.size in marks.kept n (has n (omega arith) kind)

-- A number that isn't open has its mark, where it has one.
pub not_open : (reached : Reached) (at : ℕ) (b : Bool) → b ≡ false → ((at < length reached.marks.items) × (IsMarked reached.marks.items at → ⊥) → IsTrue b) → HasMarked (λ n. n ≡ at) reached
not_open reached at b closed opens n within same =
    let marks = reached.marks.items in
    let inside : at < length marks = omega arith in
    let here : IsMarked marks at = elim (cases_Bool (get_or marks at false)) [
      | inl marked ↦ marked
      | inr clear ↦ absurd (let t : b ≡ true = opens (inside, λ m. absurd (cc)) in cc)
    ] in
    subst (λ (m : ℕ). IsMarked marks m) (sym same) here

-- The order keeps its front.
pub same_front : (Kind : ℕ → Type 0) (old new : Reached) → Marks Kind old new → (i n : ℕ) → i < length old.order.items → slice_get new.order.items i ≡ Some n → slice_get old.order.items i ≡ Some n
same_front Kind old new marks i n within here =
    let behind = marks.grown.0 in
    let whole : new.order.items ≡ old.order.items ++ behind = marks.grown.1 in
    let read : get_or (old.order.items ++ behind) i n ≡ n = rw whole at (get_or_from_slice_get new.order.items i n n here) in
    let same : get_or (old.order.items ++ behind) i n ≡ get_or old.order.items i n = get_or_append_left old.order.items behind n i within in
    slice_get-get_or old.order.items i n within ∙ ap Some (sym same ∙ read)

pub longer : (Kind : ℕ → Type 0) (old new : Reached) → Marks Kind old new → length old.order.items ≤ length new.order.items
longer Kind old new marks =
    let long = ap length marks.grown.1 ∙ length-append old.order.items marks.grown.0 in
    omega arith
