-- Parameters, and paths that names lengthen.
use Rattle.std.proofs.Common.{◌≡◌, ℕ, ◌+◌, ◌<◌, ◌≤◌, Bool, true, false, cond, List, ◌∷◌, ◌++◌, length, get_or, take, drop, Some, None, sym, ◌∙◌, ap, arith, add-one, length-append, append_assoc, take-append-drop, inl, inr}
use Rattle.std.specs.Prelude.{nat_lt, ◌==◌}
use Rattle.std.proofs.Math.Seq.{drop-cons}
use Rattle.std.proofs.lemmas.List.{length-drop, take_at, take-append-le}
use Rattle.std.proofs.lemmas.Bool.{cases_lt}
use Rattle.folder_core.specs.Path.{Pushes}
use Rattle.std.proofs.lemmas.Bool.Decides.{nat_tests}
use Rattle.instr_parser.specs.declared.call.Param.{Param}
use Rattle.action_core.specs.Places.{value_in}
use Rattle.action_core.specs.Tests.{too_deep}
use Rattle.action_core.specs.declared.fault.ActionFault.{ActionFault}
use Rattle.action_core.specs.declared.fault.ActionFault.TheVariants.{TooDeep}

module _ (params : List Param) (k : ℕ) (d : Param) (code : ℕ) (below : k < length params) where
  at_param : value_in (drop k params) code ≡ cond ((get_or params k d).code == code) (Some (get_or params k d).value) (value_in (drop (k + 1) params) code)
  at_param = ap (λ (l : List Param). value_in l code) (drop-cons params k d below ∙ ap (λ (n : ℕ). get_or params k d ∷ drop n params) (sym (add-one k)))

  pub value_here : ((get_or params k d).code == code) ≡ true → value_in (drop k params) code ≡ Some (get_or params k d).value
  value_here is = at_param ∙ ap (λ (b : Bool). cond b (Some (get_or params k d).value) (value_in (drop (k + 1) params) code)) is

  pub value_next : ((get_or params k d).code == code) ≡ false → value_in (drop (k + 1) params) code ≡ value_in (drop k params) code
  value_next other = sym (at_param ∙ ap (λ (b : Bool). cond b (Some (get_or params k d).value) (value_in (drop (k + 1) params) code)) other)

over_64 : (n : ℕ) → 64 < n → nat_lt 64 n ≡ true
over_64 n over = grind (arith, nat_tests)

up_to_64 : (n : ℕ) → n ≤ 64 → nat_lt 64 n ≡ false
up_to_64 n up_to = grind (arith, nat_tests)

-- A path that has 64 names, with more behind them, is too deep.
pub deep_front : (front rest : List (List ℕ)) → length front ≡ 64 → 0 < length rest → too_deep (front ++ rest) ≡ Some (TooDeep front)
unfolding too_deep
deep_front front rest full some =
    ap (λ (b : Bool). cond b (Some (TooDeep (take 64 (front ++ rest)))) None) (over_64 (length (front ++ rest)) (omega (arith, length-append front rest)))
    ∙ ap (λ (l : List (List ℕ)). Some (TooDeep l)) (take_at front rest 64 (omega (arith, full)))

-- What is behind a path that is too deep changes nothing.
pub deep_longer : (path rest : List (List ℕ)) (fault : ActionFault) → too_deep path ≡ Some fault → too_deep (path ++ rest) ≡ Some fault
unfolding too_deep
deep_longer path rest fault is = elim (cases_lt 64 (length path)) [
  | inl over ↦
      ap (λ (b : Bool). cond b (Some (TooDeep (take 64 (path ++ rest)))) None) (over_64 (length (path ++ rest)) (omega (arith, length-append path rest)))
      ∙ ap (λ (l : List (List ℕ)). Some (TooDeep l)) (take-append-le 64 path rest (omega (arith, over)))
      ∙ sym (ap (λ (b : Bool). cond b (Some (TooDeep (take 64 path))) None) (over_64 (length path) over))
      ∙ is
  | inr short ↦
      let none : None ≡ Some fault = sym (ap (λ (b : Bool). cond b (Some (TooDeep (take 64 path))) None) (up_to_64 (length path) short)) ∙ is in
      absurd (let no : ⊥ = cc in no)
]

-- a path of at most 64 names isn't
pub not_deep : (path : List (List ℕ)) → length path ≤ 64 → too_deep path ≡ None
unfolding too_deep
not_deep path short = ap (λ (b : Bool). cond b (Some (TooDeep (take 64 path))) None) (up_to_64 (length path) short)

pub same_code : (a b : ℕ) → a ≡ b → (a == b) ≡ true
same_code a b is = grind (arith, nat_tests)

pub other_code : (a b : ℕ) → (a ≡ b → ⊥) → (a == b) ≡ false
other_code a b other = grind (arith, nat_tests)

-- where no name more finds room
pub full_deep : (path names : List (List ℕ)) (k : ℕ) (longer : List (List ℕ)) (name : List ℕ) (new : List (List ℕ)) (pushed : Bool)
    → Pushes pushed longer name new → pushed ≡ false → longer ≡ path ++ take k names → k < length names → too_deep (path ++ names) ≡ Some (TooDeep new)
full_deep path names k longer name new true pushes refused is below = absurd (let no : ⊥ = cc in no)
full_deep path names k longer name new false pushes refused is below =
    let all : path ++ names ≡ longer ++ drop k names =
    ap (λ (l : List (List ℕ)). path ++ l) (sym (take-append-drop k names)) ∙ sym (append_assoc path (take k names) (drop k names)) ∙ ap (λ (l : List (List ℕ)). l ++ drop k names) (sym is) in
    ap too_deep all ∙ deep_front longer (drop k names) pushes.0 (omega (arith, length-drop k names)) ∙ ap (λ (l : List (List ℕ)). Some (TooDeep l)) (sym pushes.1)
