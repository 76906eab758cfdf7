-- The text of a first state, line by line.
use Rattle.std.proofs.Common.{◌≡◌, ℕ, List, [], ◌∷◌, ◌++◌, refl, ap, sym, ◌∙◌, append_assoc}
use Rattle.std.proofs.lemmas.List.{append-nil}
use Rattle.std.specs.Prelude.{codes}
use Rattle.std.specs.Fmt.{digits, decimal}
use Rattle.unit_model.specs.declared.unit.Unit.{Unit}
use Rattle.director_core.specs.Answer.{first_text}
use Rattle.director_core.specs.FirstInstall.{first_state}
use Rattle.director_core.specs.StateText.{line, root_line, unit_text, head_text, state_text}

decimal_one : decimal 1 ≡ 49 ∷ []
unfolding digits
decimal_one = refl

pub number_line : line (codes "number") (codes "1" ∷ []) ≡ line (codes "number") (decimal 1 ∷ [])
number_line = ap (λ (one : List ℕ). line (codes "number") (one ∷ [])) (sym decimal_one)

-- texts that grow at their ends
pub grown_by_three : (t t1 t2 t3 a b c : List ℕ) → t1 ≡ t ++ a → t2 ≡ t1 ++ b → t3 ≡ t2 ++ c → t3 ≡ t ++ (a ++ (b ++ c))
grown_by_three t t1 t2 t3 a b c e f g =
    g ∙ ap (λ (x : List ℕ). x ++ c) (f ∙ ap (λ (x : List ℕ). x ++ b) e) ∙ simp append_assoc

pub grown_by_four : (t t1 t2 t3 t4 a b c d : List ℕ) → t1 ≡ t ++ a → t2 ≡ t1 ++ b → t3 ≡ t2 ++ c → t4 ≡ t3 ++ d → t4 ≡ t ++ (a ++ (b ++ (c ++ d)))
grown_by_four t t1 t2 t3 t4 a b c d e f g h =
    h ∙ ap (λ (x : List ℕ). x ++ d) (g ∙ ap (λ (x : List ℕ). x ++ c) (f ∙ ap (λ (x : List ℕ). x ++ b) e)) ∙ simp append_assoc

pub grown_from : (t u x : List ℕ) → t ≡ [] → u ≡ t ++ x → u ≡ x
grown_from t u x e f = f ∙ ap (λ (y : List ℕ). y ++ x) e

-- the parts of the text of a first state
pub first_lines : (profile : List ℕ) (unit : Unit)
    → head_text profile 1 ++ (root_line unit.name ++ (unit_text unit ++ line (codes "end") (codes "state" ∷ []))) ≡ first_text profile unit
unfolding state_text first_state
first_lines profile unit = simp append-nil
