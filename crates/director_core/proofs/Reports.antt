-- The line of a fault, written or cut short.
use Rattle.std.proofs.Common.{◌≡◌, ℕ, List, ◌++◌, Option, Result, Ok, Err, refl, subst, inl, inr}
use Rattle.std.specs.Prelude.{OnOk, IsErr}
use Rattle.folder_core.specs.Step.{Step}
use Rattle.folder_core.specs.declared.fault.Failed.{Failed}
use Rattle.director_words.specs.Status.{short_line_of}
use Rattle.director_words.specs.declared.status.Status.{Status}
use Rattle.director_core.specs.Performs.{Adds}
use Rattle.director_core.specs.Printed.{IsFaultPrinted}
use Rattle.director_core.specs.Writes.{WritesFront}
use Rattle.director_source.proofs.Steps.{step_weaker}

pub reported : (K : Type 0) (s : Status) (line : List ℕ) (a b : Option (List ℕ)) (result : Result (Unit {0}) Failed) → line ≡ short_line_of s
    → OnOk result (Step a b (λ x y. y ≡ x ++ line))
    → Step a b (λ x y. WritesFront x line y)
    → (IsErr result → K)
    → Step a b (Adds (IsFaultPrinted K s))
reported K s line a b (Ok done) same ok front cause =
    step_weaker a b (λ x y. y ≡ x ++ line) (Adds (IsFaultPrinted K s)) ok (λ x y e. (line, inl same, e))
reported K s line a b (Err failed) same ok front cause =
    let P : List ℕ → Type 0 = λ whole. Step a b (λ x y. WritesFront x whole y) in
    step_weaker a b (λ x y. WritesFront x (short_line_of s) y) (Adds (IsFaultPrinted K s)) (subst P same front) (λ x y w. (w.0, inr (cause refl, w.1), w.2))
