-- The places of the journal are apart from each other, and inside `.p2`.
use Rattle.std.proofs.Common.{◌≡◌, ◌≢◌, ℕ, ◌<◌, ◌≤◌, List, ◌++◌, length, get_or, ◌∙◌, ap, arith, codes, length-append}
use Rattle.std.specs.Fmt.{decimal}
use Rattle.std.proofs.lemmas.Fmt.{decimal_injective, decimal_is_IsNumeral}
use Rattle.std.proofs.lemmas.Str.Parse.{digit_at}
use Rattle.std.proofs.lemmas.List.{append_cancel_right}
use Rattle.std.proofs.Math.Seq.{get_or-append_seam}
use Rattle.backup_store.specs.Places.{entry_path, mark_path}

abbrev IsSmallNumber : ℕ → Type 0
IsSmallNumber number = number ≤ 1000001

pub entry_apart : (a b : ℕ) → a ≤ 1000001 → b ≤ 1000001 → a ≢ b → entry_path a ≢ entry_path b
entry_apart a b small_a small_b apart same = apart (decimal_injective a b (omega arith) (omega arith) cc)

no_mark_name : (a b : ℕ) → a ≤ 1000001 → decimal a ≢ decimal b ++ codes ".ok"
no_mark_name a b small same =
    let numeral = decimal_is_IsNumeral a (omega arith) in
    let long : length (decimal b) < length (decimal a) = omega (arith, ap length same, length-append (decimal b) (codes ".ok")) in
    let dot : get_or (decimal a) (length (decimal b)) 0 ≡ 46 = ap (λ (l : List ℕ). get_or l (length (decimal b)) 0) same ∙ get_or-append_seam (decimal b) 46 (codes "ok") 0 in
    let range = digit_at (decimal a) (length (decimal b)) numeral.0.1 long in
    absurd (omega (arith, dot, range))

pub entry_mark_apart : (a b : ℕ) → a ≤ 1000001 → entry_path a ≢ mark_path b
entry_mark_apart a b small same = no_mark_name a b small cc

pub mark_apart : (a b : ℕ) → a ≤ 1000001 → b ≤ 1000001 → a ≢ b → mark_path a ≢ mark_path b
mark_apart a b small_a small_b apart same = apart (decimal_injective a b (omega arith) (omega arith) (append_cancel_right (decimal a) (decimal b) (codes ".ok") cc))
