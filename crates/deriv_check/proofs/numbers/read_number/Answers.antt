use Rattle.std.proofs.Common.{◌≡◌, ℕ, ◌<◌, ◌^◌, true, false, List, Result, Ok, arith, subst, sym, ap, ◌∙◌}
use Rattle.std.specs.Fmt.{decimal}
use Rattle.std.specs.Str.{bytes_eq, IsUtf8}
use Rattle.std.specs.Str.Parse.{ParsesUnsigned}
use Rattle.std.proofs.lemmas.Fmt.{parse-decimal, IsAscii-decimal}
use Rattle.std.proofs.lemmas.Str.{IsUtf8-from_ascii}
use Rattle.std.proofs.lemmas.Slice.Eq.{bytes_eq-Decides}
use Rattle.deriv_check.proofs.numbers.read_number.Goals as goal

same_ok : {E : Type 0} (r : Result ℕ E) (n m : ℕ) → r ≡ Ok n → r ≡ Ok m → n ≡ m
same_ok r n m e f = cc

pub returns-in_default : goal.returns-in_default
returns-in_default c = λ x h e. c.in_default.ensures.cases.0 (subst IsUtf8 (sym e) (IsUtf8-from_ascii (decimal x) (IsAscii-decimal x h)))

pub returns-in_default-parse : goal.returns-in_default-parse
returns-in_default-parse c = λ x h e.
    let text : c.in-Ok.text.now ≡ decimal x = c.in-Ok.ensures.cases.0 ∙ e in
    let read : c.parse.result ≡ Ok x = parse-decimal 64 x c.in-Ok.text.now c.parse.result h h text c.parse.ensures.value.0 in
    cc

only : {E : Type 0} (text word : List ℕ) (r : Result ℕ E) (n : ℕ) → text ≡ word → r ≡ Ok n → ParsesUnsigned 64 10 text r → (x : ℕ) → x < 2 ^ 64 → word ≡ decimal x → x ≡ n
only text word r n same is parses x h e = same_ok r x n (parse-decimal 64 x text r h h (same ∙ e) parses) is

spelled : (digits word : List ℕ) (n : ℕ) → digits ≡ decimal n → bytes_eq digits word ≡ true → word ≡ decimal n
spelled digits word n is same = sym ((bytes_eq-Decides digits word).0 same) ∙ is

other : (digits word : List ℕ) (n x : ℕ) → digits ≡ decimal n → bytes_eq digits word ≡ false → x ≡ n → word ≡ decimal x → ⊥
other digits word n x is differs same e =
    let equal : bytes_eq digits word ≡ true = (bytes_eq-Decides digits word).1 (is ∙ ap decimal (sym same) ∙ sym e) in
    cc

pub returns-then-eq : goal.returns-then-eq
returns-then-eq c =
    let digits : c.as_bytes.result.now ≡ decimal c.in-Ok-parse.number = c.as_bytes.ensures.value ∙ c.in_ok-digits.ensures.ok in (
      omega arith,
      spelled c.as_bytes.result.now c.args.word.now c.in-Ok-parse.number digits (sym c.eq.ensures ∙ c.if-eq.true),
      only c.in-Ok.text.now c.args.word.now c.parse.result c.in-Ok-parse.number c.in-Ok.ensures.cases.0 c.in-Ok-parse.is c.parse.ensures.value.0,
    )

pub returns : goal.returns
returns c = λ x h e.
    let digits : c.as_bytes.result.now ≡ decimal c.in-Ok-parse.number = c.as_bytes.ensures.value ∙ c.in_ok-digits.ensures.ok in
    let same = only c.in-Ok.text.now c.args.word.now c.parse.result c.in-Ok-parse.number c.in-Ok.ensures.cases.0 c.in-Ok-parse.is c.parse.ensures.value.0 x h e in
    other c.as_bytes.result.now c.args.word.now c.in-Ok-parse.number x digits (sym c.eq.ensures ∙ c.if-eq.false) same e
