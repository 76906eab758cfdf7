-- A word that is cut at its first `:`.
use Rattle.std.proofs.Common.{◌≡◌, ◌≢◌, ℕ, ◌<◌, ◌≤◌, ◌^◌, arith, Bool, true, false, List, [], ◌∷◌, ◌++◌, Option, Some, None, option_map, IfSome, IfOk, Result, Ok, Err, refl, sym, ap, subst, ◌∙◌, All}
use Rattle.std.specs.Fmt.{decimal}
use Rattle.std.proofs.lemmas.Bool.Decides.{nat_tests}
use Rattle.std.proofs.lemmas.List.Elements.{All-head, All-tail, All-weaker}
use Rattle.pb_core.specs.declared.literal.Lit.{Lit}
use Rattle.deriv_check.specs.Colon.{is_no_colon, NoColon}
use Rattle.deriv_check.specs.EvidenceForm.{IsHint, IsLiteral}
use Rattle.deriv_check.specs.EvidenceText.{lit_word}
use Rattle.deriv_check.specs.Reading.{Reading}
use Rattle.deriv_check.proofs.WordLaws.{decimal_digits}

abbrev IsNone : ℕ → Type 0
IsNone b = is_no_colon b ≡ true

colon : IsNone 58 → ⊥
colon h = cc

-- the part before the first colon is given by the whole
pub cut_same : (a b x y : List ℕ) → NoColon a → NoColon b → a ++ 58 ∷ x ≡ b ++ 58 ∷ y → (a ≡ b) × (x ≡ y)
cut_same [] [] x y p q e = (refl, cc)
cut_same [] (d ∷ b) x y p q e = let same : d ≡ 58 = cc in absurd (colon (subst IsNone same (All-head IsNone d b q)))
cut_same (d ∷ a) [] x y p q e = let same : d ≡ 58 = cc in absurd (colon (subst IsNone same (All-head IsNone d a p)))
cut_same (d ∷ a) (f ∷ b) x y p q e =
    let rest : a ++ 58 ∷ x ≡ b ++ 58 ∷ y = cc in
    let same = cut_same a b x y (All-tail IsNone d a p) (All-tail IsNone f b q) rest in
    (cc, same.1)

pub no_colon_within : (a b y : List ℕ) → NoColon a → a ≡ b ++ 58 ∷ y → ⊥
no_colon_within [] [] y p e = cc
no_colon_within [] (d ∷ b) y p e = cc
no_colon_within (d ∷ a) [] y p e = let same : d ≡ 58 = cc in colon (subst IsNone same (All-head IsNone d a p))
no_colon_within (d ∷ a) (f ∷ b) y p e = no_colon_within a b y (All-tail IsNone d a p) cc

pub no_colon_number : (n : ℕ) → n < 2 ^ 64 → NoColon (decimal n)
no_colon_number n h = All-weaker (λ b. (48 ≤ b) × (b ≤ 57)) IsNone (λ b d. grind (arith, nat_tests)) (decimal n) (decimal_digits n h)

-- Two parts with a colon between them, each with its reader.
pub colon_uncut : {A B X : Type 0} (VA : A → Type 0) (sa : A → List ℕ) (VB : B → Type 0) (sb : B → List ℕ) (first : X → A) (second : X → B) (word : List ℕ)
    → NoColon word → Reading (λ x. VA (first x) × VB (second x)) (λ x. sa (first x) ++ 58 ∷ sb (second x)) word None
colon_uncut VA sa VB sb first second word p = λ x valid e. no_colon_within word (sa (first x)) (sb (second x)) p e

pub colon_first : {A B X : Type 0} (VA : A → Type 0) (sa : A → List ℕ) (VB : B → Type 0) (sb : B → List ℕ) (first : X → A) (second : X → B) (word before behind : List ℕ)
    → ((a : A) → VA a → NoColon (sa a)) → NoColon before → word ≡ before ++ 58 ∷ behind
    → Reading VA sa before None → Reading (λ x. VA (first x) × VB (second x)) (λ x. sa (first x) ++ 58 ∷ sb (second x)) word None
colon_first VA sa VB sb first second word before behind plain p is r = λ x valid e.
    let same = cut_same before (sa (first x)) behind (sb (second x)) p (plain (first x) valid.0) (sym is ∙ e) in
    r (first x) valid.0 same.0

pub colon_second : {A B X : Type 0} (VA : A → Type 0) (sa : A → List ℕ) (VB : B → Type 0) (sb : B → List ℕ) (first : X → A) (second : X → B) (word before behind : List ℕ)
    → ((a : A) → VA a → NoColon (sa a)) → NoColon before → word ≡ before ++ 58 ∷ behind
    → Reading VB sb behind None → Reading (λ x. VA (first x) × VB (second x)) (λ x. sa (first x) ++ 58 ∷ sb (second x)) word None
colon_second VA sa VB sb first second word before behind plain p is r = λ x valid e.
    let same = cut_same before (sa (first x)) behind (sb (second x)) p (plain (first x) valid.0) (sym is ∙ e) in
    r (second x) valid.1 same.1

pub colon_both : {A B X : Type 0} (VA : A → Type 0) (sa : A → List ℕ) (VB : B → Type 0) (sb : B → List ℕ) (first : X → A) (second : X → B) (word before behind : List ℕ)
    → ((a : A) → VA a → NoColon (sa a)) → NoColon before → word ≡ before ++ 58 ∷ behind
    → (x : X) → ((y : X) → first y ≡ first x → second y ≡ second x → y ≡ x) → Reading VA sa before (Some (first x)) → Reading VB sb behind (Some (second x))
    → Reading (λ z. VA (first z) × VB (second z)) (λ z. sa (first z) ++ 58 ∷ sb (second z)) word (Some x)
colon_both VA sa VB sb first second word before behind plain p is x whole r s = (
  (r.0, s.0),
  is ∙ (λ i. r.1 i ++ 58 ∷ s.1 i),
  λ y valid e.
      let same = cut_same before (sa (first y)) behind (sb (second y)) p (plain (first y) valid.0) (sym is ∙ e) in
      whole y (r.2 (first y) valid.0 same.0) (s.2 (second y) valid.1 same.1),
)

-- a literal's word
no_minus : (n : ℕ) (digits : List ℕ) → n < 2 ^ 32 → 45 ∷ digits ≡ decimal n → ⊥
no_minus n digits h e =
    let all = decimal_digits n (omega arith) in
    let first : (48 ≤ 45) × (45 ≤ 57) = All-head (λ b. (48 ≤ b) × (b ≤ 57)) 45 digits (subst (All (λ b. (48 ≤ b) × (b ≤ 57))) (sym e) all) in
    omega (arith, first.0)

minus_word : (x : Lit) (t : Bool) → x.positive ≡ t → IsLiteral x → (digits : List ℕ) → 45 ∷ digits ≡ lit_word x → (t ≡ false) × (digits ≡ decimal x.variable)
minus_word x true p h digits e = let word : 45 ∷ digits ≡ decimal x.variable = rw p at e in absurd (no_minus x.variable digits h word)
minus_word x false p h digits e = let word : 45 ∷ digits ≡ 45 ∷ decimal x.variable = rw p at e in (refl, cc)

pub lit_minus : (word digits : List ℕ) (found : Option Lit) → word ≡ 45 ∷ digits → Reading IsHint decimal digits (option_map (λ (l : Lit). l.variable) found)
    → IfSome found (λ (l : Lit). l.positive ≡ false) → Reading IsLiteral lit_word word found
lit_minus word digits None is r s = λ x valid e.
    let parts = minus_word x x.positive refl valid digits (sym is ∙ e) in r x.variable valid parts.1
lit_minus word digits (Some y) is r s = (
  r.0,
  rw s (is ∙ ap (λ ds. 45 ∷ ds) r.1),
  λ x valid e.
      let parts = minus_word x x.positive refl valid digits (sym is ∙ e) in
      let same = r.2 x.variable valid parts.1 in
      let sign : x.positive ≡ y.positive = parts.0 ∙ sym s in
      λ i. record { variable = same i; positive = sign i },
)

plain_word : (x : Lit) (t : Bool) → x.positive ≡ t → (word : List ℕ) → ((rest : List ℕ) → word ≢ 45 ∷ rest) → word ≡ lit_word x → (t ≡ true) × (word ≡ decimal x.variable)
plain_word x true p word none e = let is : word ≡ decimal x.variable = rw p at e in (refl, is)
plain_word x false p word none e = let is : word ≡ 45 ∷ decimal x.variable = rw p at e in absurd (none (decimal x.variable) is)

pub lit_plain : (word : List ℕ) (found : Option Lit) → ((rest : List ℕ) → word ≢ 45 ∷ rest) → Reading IsHint decimal word (option_map (λ (l : Lit). l.variable) found)
    → IfSome found (λ (l : Lit). l.positive ≡ true) → Reading IsLiteral lit_word word found
lit_plain word None none r s = λ x valid e.
    let parts = plain_word x x.positive refl word none e in r x.variable valid parts.1
lit_plain word (Some y) none r s = (
  r.0,
  rw s r.1,
  λ x valid e.
      let parts = plain_word x x.positive refl word none e in
      let same = r.2 x.variable valid parts.1 in
      let sign : x.positive ≡ y.positive = parts.0 ∙ sym s in
      λ i. record { variable = same i; positive = sign i },
)

-- the same of what was answered
pub lit_minus_read : {E : Type 0} (word digits : List ℕ) (read : Result (Option Lit) E) → word ≡ 45 ∷ digits
    → IfOk read (λ found. Reading IsHint decimal digits (option_map (λ (l : Lit). l.variable) found))
    → IfOk read (λ found. IfSome found (λ (l : Lit). l.positive ≡ false)) → IfOk read (Reading IsLiteral lit_word word)
lit_minus_read word digits (Ok found) is r s = lit_minus word digits found is r s
lit_minus_read word digits (Err e) is r s = tt

pub lit_plain_read : {E : Type 0} (word : List ℕ) (read : Result (Option Lit) E) → ((rest : List ℕ) → word ≢ 45 ∷ rest)
    → IfOk read (λ found. Reading IsHint decimal word (option_map (λ (l : Lit). l.variable) found))
    → IfOk read (λ found. IfSome found (λ (l : Lit). l.positive ≡ true)) → IfOk read (Reading IsLiteral lit_word word)
lit_plain_read word (Ok found) none r s = lit_plain word found none r s
lit_plain_read word (Err e) none r s = tt
