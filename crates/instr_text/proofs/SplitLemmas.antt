-- How long the parts of a text are.
use Rattle.std.proofs.Common.{◌≡◌, ℕ, ◌+◌, Bool, true, false, cond, List, [], ◌∷◌, length, refl, arith}
use Rattle.std.specs.List.{slice_split, onto_first}
use Rattle.instr_text.specs.Cut.{sizes}

sizes-onto : (b : ℕ) (parts : List (List ℕ)) (n : ℕ) → sizes parts ≡ n + 1 → sizes (onto_first b parts) ≡ n + 2
sizes-onto b [] n h = omega arith
sizes-onto b (part ∷ parts) n h = omega arith

-- Parts have one byte more than the text: its marks and one behind the last.
pub sizes-split : (p : ℕ → Bool) (text : List ℕ) → sizes (slice_split p text) ≡ length text + 1
sizes-split p [] = refl
sizes-split p (b ∷ text) = by (p b) (sizes-split p text)
  where
    by : (t : Bool) → sizes (slice_split p text) ≡ length text + 1 → sizes (cond t ([] ∷ slice_split p text) (onto_first b (slice_split p text))) ≡ length (b ∷ text) + 1
    by true h = omega arith
    by false h = let more = sizes-onto b (slice_split p text) (length text) h in omega arith
