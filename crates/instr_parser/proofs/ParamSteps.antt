-- Parameters in their order, and the walk over the parts of a piece.
use Rattle.std.proofs.Common.{◌≡◌, ℕ, suc, ◌+◌, ◌<◌, ◌≤◌, nat_lt, Bool, true, false, cond, List, [], ◌∷◌, length, drop, get_or, Result, Ok, Err, refl, sym, ap, ◌∙◌, arith}
use Rattle.std.specs.List.{insert, prefix_len}
use Rattle.std.proofs.lemmas.List.{drop_more, drop_all}
use Rattle.instr_text.specs.declared.fault.InstrRefusal.{InstrRefusal}
use Rattle.instr_text.specs.declared.piece.Part.{Part as Read}
use Rattle.instr_text.specs.Gives.{◌>>=◌}
use Rattle.instr_text.specs.Piece.{part_seen, parts_seen}
use Rattle.instr_parser.specs.declared.call.Param.{Param}
use Rattle.instr_parser.specs.Params.{inserted, param_at, params_from}

abbrev before : Param → Param → Bool
before param p = nat_lt p.code param.code

pub inserted-at : (param : Param) (given : List Param) → inserted param given ≡ insert given (prefix_len (λ p. nat_lt p.code param.code) given) param
inserted-at param [] = refl
inserted-at param (first ∷ given) = by (nat_lt first.code param.code) refl (inserted-at param given)
  where
    n : ℕ
    n = prefix_len (λ p. nat_lt p.code param.code) given

    by : (b : Bool) → nat_lt first.code param.code ≡ b → inserted param given ≡ insert given n param
        → cond b (first ∷ inserted param given) (param ∷ first ∷ given) ≡ insert (first ∷ given) (cond b (1 + n) 0) param
    by true e rest = let more : suc n ≡ 1 + n = omega arith in ap (λ ps. first ∷ ps) rest ∙ ap (λ k. insert (first ∷ given) k param) more
    by false e rest = refl

module _ (kind : ℕ) (given : List Param) (parts : List Read) (i : ℕ) (d : Read) where
  abbrev behind : Param → Result (List Param) InstrRefusal
  behind param = params_from kind (inserted param given) (parts_seen (drop (i + 1) parts))

  step : i < length parts → params_from kind given (parts_seen (drop i parts)) ≡ (param_at kind given (part_seen (get_or parts i d)) >>= behind)
  unfolding params_from
  step inside = rw (drop_more parts i d inside) refl

  pub param_read : (seen : List Param) (param : Param) (new : List Param) → i < length parts → seen ≡ given → param_at kind seen (part_seen (get_or parts i d)) ≡ Ok param
      → new ≡ inserted param given → params_from kind new (parts_seen (drop (i + 1) parts)) ≡ params_from kind given (parts_seen (drop i parts))
  param_read seen param new inside same read put =
      let read_here = ap (λ ps. param_at kind ps (part_seen (get_or parts i d))) (sym same) ∙ read in
      ap (λ ps. params_from kind ps (parts_seen (drop (i + 1) parts))) put ∙ sym (step inside ∙ ap (λ r. r >>= behind) read_here)

  pub param_refused : (seen : List Param) (refusal : InstrRefusal) → i < length parts → seen ≡ given → param_at kind seen (part_seen (get_or parts i d)) ≡ Err refusal
      → params_from kind given (parts_seen (drop i parts)) ≡ Err refusal
  param_refused seen refusal inside same refused =
      let refused_here = ap (λ ps. param_at kind ps (part_seen (get_or parts i d))) (sym same) ∙ refused in
      step inside ∙ ap (λ r. r >>= behind) refused_here

pub params_from-none : (kind : ℕ) (given : List Param) (parts : List Read) (i : ℕ) → length parts ≤ i → params_from kind given (parts_seen (drop i parts)) ≡ Ok given
unfolding params_from
params_from-none kind given parts i past = rw (drop_all i parts past) refl
