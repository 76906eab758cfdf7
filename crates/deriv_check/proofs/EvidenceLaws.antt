-- The lines of an evidence, as they are read.
use Rattle.std.proofs.Common.{◌≡◌, ℕ, ◌+◌, ◌<◌, ◌≤◌, arith, List, [], ◌∷◌, ◌++◌, length, map, take, drop, replicate, get_or, Some, None, Err, refl, sym, ap, subst, Bor}
use Rattle.std.specs.Str.{IsUtf8}
use Rattle.std.proofs.lemmas.Str.{IsUtf8-nil}
use Rattle.std.proofs.lemmas.List.{length-replicate, length-map, length-append, length-take, take-map, drop-map}
use Rattle.std.proofs.lemmas.List.Elements.{All-nil, All-replicate}
use Rattle.pb_core.specs.declared.constraint.Constraint.{Constraint}
use Rattle.pb_core.specs.declared.constraint.Origin.TheVariants as origin
use Rattle.pb_core.specs.declared.constraint.Problem.{Problem}
use Rattle.deriv_check.specs.declared.derivation.Derivation.{Derivation}
use Rattle.deriv_check.specs.declared.derivation.Evidence.{Evidence}
use Rattle.deriv_check.specs.declared.derivation.Line.{Line}
use Rattle.deriv_check.specs.declared.stop.Stop.{Stop}
use Rattle.deriv_check.specs.declared.stop.Stop.TheVariants as stop
use Rattle.deriv_check.specs.EvidenceForm.{IsCount, IsConstraintOver, IsLine, IsProblem, IsDerivation, IsEvidence}
use Rattle.deriv_check.specs.EvidenceText.{label_line, constraint_line, derived_line, problem_line, derivation_line, problem_lines, derivation_lines, evidence_lines}
use Rattle.deriv_check.specs.Reading.{Reading, IsFront, Begun, Stops, Parses, IsListOf, IsPairOf, pair_lines, AreCounts, AreVariables, variable_lines, stop_behind, StopsWithin, seen}
use Rattle.deriv_check.proofs.ReadingLaws.{no_word}
use Rattle.deriv_check.proofs.FormLaws.{begun-one, stops-one, stops-empty, begun-list, stops-list, begun-pair, stops-pair_first, stops-pair_second, IsSameForm, begun-along, stops-along}

-- lists that are cut off
pub front_up_to : {X : Type 0} (Valid : X → Type 0) (line : X → List ℕ) (lines : List (Bor (List ℕ))) (count : ℕ) (found : List X)
    → IsFront Valid line (seen (take count lines)) found → IsFront Valid line (take count (seen lines)) found
front_up_to {X} Valid line lines count found front =
    subst (λ (l : List (List ℕ)). IsFront Valid line l found) (sym (take-map (λ (s : Bor (List ℕ)). s.now) count lines)) front

pub seen-drop : (lines : List (Bor (List ℕ))) (k : ℕ) → seen (drop k lines) ≡ drop k (seen lines)
seen-drop lines k = sym (drop-map (λ (s : Bor (List ℕ)). s.now) k lines)

pub list_found : {X : Type 0} (Valid : X → Type 0) (line : X → List ℕ) (lines : List (Bor (List ℕ))) (count : ℕ) (found : List X)
    → IsFront Valid line (seen (take count lines)) found → count ≤ length found → Begun (IsListOf Valid count) (map line) (seen lines) found
list_found Valid line lines count found front h =
    let cut = front_up_to Valid line lines count found front in
    begun-list Valid line (seen lines) count found cut (omega (arith, h, cut.within, length-take count (seen lines)))

pub list_stops : {X : Type 0} (Valid : X → Type 0) (line : X → List ℕ) (lines : List (Bor (List ℕ))) (count : ℕ) (found : List X) (filler : X) → Valid filler
    → IsFront Valid line (seen (take count lines)) found → length found < count → Stops (IsListOf Valid count) (map line) (seen lines) (length found)
list_stops Valid line lines count found filler valid front h = stops-list Valid line (seen lines) count found filler valid (front_up_to Valid line lines count found front) h

-- what stands for a constraint that isn't read yet
pub no_constraint : Constraint
no_constraint = record { terms = []; degree = 1; origin = origin.Root [] }

pub no_constraint_over : (labels : List (List ℕ)) → IsConstraintOver labels (record { terms = []; degree = 1; origin = origin.Root [] })
no_constraint_over labels = record {
  normal = record {
    normal = record {
      rising = λ k h. absurd (omega arith);
      coefs = All-nil _;
      some_degree = omega arith;
      small_degree = omega arith;
      small_sum = omega arith;
    };
    among = All-nil _;
  };
  origin = (tt, IsUtf8-nil);
}

abbrev pub spare_constraint : Constraint
spare_constraint = record { terms = []; degree = 1; origin = origin.Root [] }

abbrev pub spare_line : Line
spare_line = record { clause = []; hints = [] }

pub spare_line_is : IsLine (record { clause = []; hints = [] })
spare_line_is = record { clause = All-nil _; hints = All-nil _ }

-- in pairs
pub pair_first : {X Y : Type 0} (Valid : X → Type 0) (Behind : X → Y → Type 0) (spell : X → List (List ℕ)) (behind : Y → List (List ℕ)) (written : List (List ℕ)) (s : Stop)
    → (filler : X → Y) → ((x : X) → Valid x → Behind x (filler x))
    → Parses Valid spell written (Err s) → Parses (IsPairOf Valid Behind) (pair_lines spell behind) written (Err s)
pair_first Valid Behind spell behind written (stop.At at) filler fills h = stops-pair_first Valid Behind spell behind written at filler fills h
pair_first Valid Behind spell behind written stop.NoMemory filler fills h = tt

pub pair_second : {X Y : Type 0} (Valid : X → Type 0) (Behind : X → Y → Type 0) (spell : X → List (List ℕ)) (behind : Y → List (List ℕ)) (written : List (List ℕ)) (x : X) (s : Stop)
    → Begun Valid spell written x → Parses (Behind x) behind (drop (length (spell x)) written) (Err s)
    → Parses (IsPairOf Valid Behind) (pair_lines spell behind) written (Err (stop_behind (length (spell x)) s))
pair_second Valid Behind spell behind written x (stop.At at) first h = stops-pair_second Valid Behind spell behind written x at first h
pair_second Valid Behind spell behind written x stop.NoMemory first h = tt

pub stops_within : {X : Type 0} (Valid : X → Type 0) (spell : X → List (List ℕ)) (written : List (List ℕ)) (s : Stop) (most : ℕ) → length written ≤ most
    → Parses Valid spell written (Err s) → StopsWithin most s
stops_within Valid spell written (stop.At at) most h p = omega (arith, h, p.within)
stops_within Valid spell written stop.NoMemory most h p = tt

pub stops_same : {A B : Type 0} (ValidA : A → Type 0) (spell_a : A → List (List ℕ)) (ValidB : B → Type 0) (spell_b : B → List (List ℕ)) (to : A → B) (from : B → A)
    → IsSameForm ValidA spell_a ValidB spell_b to from → (written : List (List ℕ)) (s : Stop) → Parses ValidA spell_a written (Err s) → Parses ValidB spell_b written (Err s)
stops_same ValidA spell_a ValidB spell_b to from same written (stop.At at) h = stops-along ValidA spell_a ValidB spell_b to from same written at h
stops_same ValidA spell_a ValidB spell_b to from same written stop.NoMemory h = tt

-- a problem
abbrev pub CountedVariables : Type 0
CountedVariables = (ℕ × ℕ) × (List (List ℕ) × List Constraint)

abbrev pub IsCounted : (ℕ × ℕ) × (List (List ℕ) × List Constraint) → Type 0
IsCounted = IsPairOf AreCounts AreVariables

abbrev pub counted_lines : (ℕ × ℕ) × (List (List ℕ) × List Constraint) → List (List ℕ)
counted_lines = pair_lines (λ counts. problem_line counts ∷ []) variable_lines

abbrev pub problem_of : (ℕ × ℕ) × (List (List ℕ) × List Constraint) → Problem
problem_of p = record { labels = p.1.0; constraints = p.1.1 }

abbrev pub counted : Problem → (ℕ × ℕ) × (List (List ℕ) × List Constraint)
counted p = ((length p.labels, length p.constraints), (p.labels, p.constraints))

pub same_problem : IsSameForm IsCounted counted_lines IsProblem problem_lines problem_of counted
same_problem = record {
  valid_to = λ a h. record {
    few_labels = omega (arith, h.0.0, h.1.0.0);
    few_constraints = omega (arith, h.0.1, h.1.1.0);
    labels = h.1.0.1;
    constraints = h.1.1.1;
  };
  valid_from = λ b h. ((h.few_labels, h.few_constraints), ((refl, h.labels), (refl, h.constraints)));
  spell_to = λ a h. ap (λ (counts : ℕ × ℕ). problem_line counts ∷ (map label_line a.1.0 ++ map constraint_line a.1.1)) (λ i. (h.1.0.0 i, h.1.1.0 i));
  spell_from = λ b h. refl;
  back = λ b. refl;
}

-- a derivation
abbrev pub IsCountedLines : ℕ × List Line → Type 0
IsCountedLines = IsPairOf IsCount (λ count. IsListOf IsLine count)

abbrev pub counted_derivation : ℕ × List Line → List (List ℕ)
counted_derivation = pair_lines (λ count. derivation_line count ∷ []) (map derived_line)

abbrev pub derivation_of : ℕ × List Line → Derivation
derivation_of p = record { lines = p.1 }

abbrev pub counted_of : Derivation → ℕ × List Line
counted_of d = (length d.lines, d.lines)

pub same_derivation : IsSameForm IsCountedLines counted_derivation IsDerivation derivation_lines derivation_of counted_of
same_derivation = record {
  valid_to = λ a h. record { few_lines = omega (arith, h.0, h.1.0); lines = h.1.1 };
  valid_from = λ b h. (h.few_lines, (refl, h.lines));
  spell_to = λ a h. ap (λ count. derivation_line count ∷ map derived_line a.1) h.1.0;
  spell_from = λ b h. refl;
  back = λ b. refl;
}

-- an evidence
abbrev pub IsBoth : Problem × Derivation → Type 0
IsBoth = IsPairOf IsProblem (λ p. IsDerivation)

abbrev pub both_lines : Problem × Derivation → List (List ℕ)
both_lines = pair_lines problem_lines derivation_lines

abbrev pub evidence_of : Problem × Derivation → Evidence
evidence_of p = record { problem = p.0; derivation = p.1 }

abbrev pub both_of : Evidence → Problem × Derivation
both_of e = (e.problem, e.derivation)

pub same_evidence : IsSameForm IsBoth both_lines IsEvidence evidence_lines evidence_of both_of
same_evidence = record {
  valid_to = λ a h. record { problem = h.0; derivation = h.1 };
  valid_from = λ b h. (h.problem, h.derivation);
  spell_to = λ a h. refl;
  spell_from = λ b h. refl;
  back = λ b. refl;
}

pub length-problem_lines : (p : Problem) → length (problem_lines p) ≡ 1 + length p.labels + length p.constraints
length-problem_lines p =
    omega (arith, length-append (map label_line p.labels) (map constraint_line p.constraints), length-map p.labels label_line, length-map p.constraints constraint_line)

-- what stands for a derivation that isn't read yet
pub spare_derivation_is : IsDerivation (record { lines = [] })
spare_derivation_is = record { few_lines = omega arith; lines = All-nil _ }

pub spare_variables_are : (counts : ℕ × ℕ) → AreVariables counts (replicate counts.0 [], replicate counts.1 (record { terms = []; degree = 1; origin = origin.Root [] }))
spare_variables_are counts = (
  (length-replicate counts.0 [], All-replicate IsUtf8 counts.0 [] IsUtf8-nil),
  (length-replicate counts.1 spare_constraint, All-replicate (IsConstraintOver (replicate counts.0 [])) counts.1 spare_constraint (no_constraint_over (replicate counts.0 []))),
)

-- a first line, and what stands behind it
pub head_empty : {H R P : Type 0} (ValidH : H → Type 0) (line : H → List ℕ) (ValidR : H → R → Type 0) (spell_r : R → List (List ℕ)) (ValidP : P → Type 0) (spell_p : P → List (List ℕ)) (to : H × R → P) (from : P → H × R)
    → IsSameForm (IsPairOf ValidH ValidR) (pair_lines (λ h. line h ∷ []) spell_r) ValidP spell_p to from
    → (spare : H) → ValidH spare → (filler : H → R) → ((h : H) → ValidH h → ValidR h (filler h))
    → (lines : List (Bor (List ℕ))) → length lines ≡ 0 → Stops ValidP spell_p (seen lines) 0
head_empty ValidH line ValidR spell_r ValidP spell_p to from same spare valid filler fills [] n =
    stops-along (IsPairOf ValidH ValidR) (pair_lines (λ h. line h ∷ []) spell_r) ValidP spell_p to from same [] 0
    (stops-pair_first ValidH ValidR (λ h. line h ∷ []) spell_r [] 0 filler fills (stops-empty ValidH line spare valid))
head_empty ValidH line ValidR spell_r ValidP spell_p to from same spare valid filler fills (w ∷ lines) n = absurd (omega arith)

pub head_refused : {H R P : Type 0} (ValidH : H → Type 0) (line : H → List ℕ) (ValidR : H → R → Type 0) (spell_r : R → List (List ℕ)) (ValidP : P → Type 0) (spell_p : P → List (List ℕ)) (to : H × R → P) (from : P → H × R)
    → IsSameForm (IsPairOf ValidH ValidR) (pair_lines (λ h. line h ∷ []) spell_r) ValidP spell_p to from
    → (spare : H) → ValidH spare → (filler : H → R) → ((h : H) → ValidH h → ValidR h (filler h))
    → (lines : List (Bor (List ℕ))) → 1 ≤ length lines → Reading ValidH line (get_or lines 0 no_word).now None → Stops ValidP spell_p (seen lines) 0
head_refused ValidH line ValidR spell_r ValidP spell_p to from same spare valid filler fills [] n r = absurd (omega arith)
head_refused ValidH line ValidR spell_r ValidP spell_p to from same spare valid filler fills (w ∷ lines) n r =
    stops-along (IsPairOf ValidH ValidR) (pair_lines (λ h. line h ∷ []) spell_r) ValidP spell_p to from same (seen (w ∷ lines)) 0
    (stops-pair_first ValidH ValidR (λ h. line h ∷ []) spell_r (seen (w ∷ lines)) 0 filler fills (stops-one ValidH line w.now (seen lines) spare valid r))

pub head_found : {H R P : Type 0} (ValidH : H → Type 0) (line : H → List ℕ) (ValidR : H → R → Type 0) (spell_r : R → List (List ℕ)) (ValidP : P → Type 0) (spell_p : P → List (List ℕ)) (to : H × R → P) (from : P → H × R)
    → IsSameForm (IsPairOf ValidH ValidR) (pair_lines (λ h. line h ∷ []) spell_r) ValidP spell_p to from
    → (lines : List (Bor (List ℕ))) (h : H) (r : R) → 1 ≤ length lines → Reading ValidH line (get_or lines 0 no_word).now (Some h)
    → Begun (ValidR h) spell_r (seen (drop 1 lines)) r → Begun ValidP spell_p (seen lines) (to (h, r))
head_found ValidH line ValidR spell_r ValidP spell_p to from same [] h r n first rest = absurd (omega arith)
head_found ValidH line ValidR spell_r ValidP spell_p to from same (w ∷ lines) h r n first rest =
    begun-along (IsPairOf ValidH ValidR) (pair_lines (λ g. line g ∷ []) spell_r) ValidP spell_p to from same (seen (w ∷ lines)) (h, r)
    (begun-pair ValidH ValidR (λ g. line g ∷ []) spell_r (seen (w ∷ lines)) h r (begun-one ValidH line w.now (seen lines) h first) rest)

pub head_stops : {H R P : Type 0} (ValidH : H → Type 0) (line : H → List ℕ) (ValidR : H → R → Type 0) (spell_r : R → List (List ℕ)) (ValidP : P → Type 0) (spell_p : P → List (List ℕ)) (to : H × R → P) (from : P → H × R)
    → IsSameForm (IsPairOf ValidH ValidR) (pair_lines (λ h. line h ∷ []) spell_r) ValidP spell_p to from
    → (lines : List (Bor (List ℕ))) (h : H) (s : Stop) → 1 ≤ length lines → Reading ValidH line (get_or lines 0 no_word).now (Some h)
    → Parses (ValidR h) spell_r (seen (drop 1 lines)) (Err s) → Parses ValidP spell_p (seen lines) (Err (stop_behind 1 s))
head_stops ValidH line ValidR spell_r ValidP spell_p to from same [] h s n first rest = absurd (omega arith)
head_stops ValidH line ValidR spell_r ValidP spell_p to from same (w ∷ lines) h s n first rest =
    stops_same (IsPairOf ValidH ValidR) (pair_lines (λ g. line g ∷ []) spell_r) ValidP spell_p to from same (seen (w ∷ lines)) (stop_behind 1 s)
    (pair_second ValidH ValidR (λ g. line g ∷ []) spell_r (seen (w ∷ lines)) h s (begun-one ValidH line w.now (seen lines) h first) rest)
