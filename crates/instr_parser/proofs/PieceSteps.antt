-- The walk over the pieces of a text.
use Rattle.std.proofs.Common.{◌≡◌, ℕ, ◌+◌, ◌<◌, ◌≤◌, List, ◌++◌, length, drop, get_or, Option, option_to_list, Result, Ok, Err, Bor, refl, sym, ap, ◌∙◌, append-nil}
use Rattle.std.proofs.lemmas.List.{drop_more, drop_all}
use Rattle.instr_text.specs.declared.fault.InstrRefusal.{InstrRefusal}
use Rattle.instr_text.specs.Cut.{seen, sizes}
use Rattle.instr_text.specs.Gives.{◌>>=◌}
use Rattle.instr_text.proofs.Steps.{with_items, with_items-more}
use Rattle.instr_parser.specs.declared.call.Call.{Call}
use Rattle.instr_parser.specs.Calls.{piece_call, calls_from}

module _ (plain : List ℕ) (at : ℕ) (found : List Call) (pieces : List (Bor (List ℕ))) (i : ℕ) (d : Bor (List ℕ)) where
  abbrev piece : List ℕ
  piece = (get_or pieces i d).now

  abbrev later : Result (List Call) InstrRefusal
  later = calls_from plain (at + (length piece + 1)) (seen (drop (i + 1) pieces))

  step : i < length pieces → calls_from plain at (seen (drop i pieces)) ≡ (piece_call plain at piece >>= λ call. later >>= λ calls. Ok (option_to_list call ++ calls))
  unfolding calls_from
  step inside = rw (drop_more pieces i d inside) refl

  call_read : (call : Option Call) → i < length pieces → piece_call plain at piece ≡ Ok call
      → with_items (found ++ option_to_list call) later ≡ with_items found (calls_from plain at (seen (drop i pieces)))
  call_read call inside read =
      sym (with_items-more found (option_to_list call) later)
      ∙ ap (with_items found) (sym (step inside ∙ ap (λ r. r >>= λ call'. later >>= λ calls. Ok (option_to_list call' ++ calls)) read))

  pub call_put : (call : Option Call) (new : List Call) → i < length pieces → piece_call plain at piece ≡ Ok call → new ≡ found ++ option_to_list call
      → with_items new later ≡ with_items found (calls_from plain at (seen (drop i pieces)))
  call_put call new inside read put = ap (λ calls. with_items calls later) put ∙ call_read call inside read

  pub call_refused : (refusal : InstrRefusal) → i < length pieces → piece_call plain at piece ≡ Err refusal
      → with_items found (calls_from plain at (seen (drop i pieces))) ≡ Err refusal
  call_refused refusal inside refused =
      ap (with_items found) (step inside ∙ ap (λ r. r >>= λ call'. later >>= λ calls. Ok (option_to_list call' ++ calls)) refused)

  pub sizes-more : i < length pieces → sizes (seen (drop i pieces)) ≡ length piece + 1 + sizes (seen (drop (i + 1) pieces))
  sizes-more inside = ap (λ ps. sizes (seen ps)) (drop_more pieces i d inside)

pub calls_from-none : (plain : List ℕ) (at : ℕ) (found : List Call) (pieces : List (Bor (List ℕ))) (i : ℕ) → length pieces ≤ i
    → with_items found (calls_from plain at (seen (drop i pieces))) ≡ Ok found
unfolding calls_from
calls_from-none plain at found pieces i past = rw (drop_all i pieces past) (ap Ok (append-nil found))
