-- Facts on what is written.
use Rattle.std.proofs.Common.{◌≡◌, ℕ, ◌+◌, ◌<◌, ◌≤◌, nat_lt, Bool, true, false, arith, List, [], ◌∷◌, ◌++◌, length, map, take, get_or, refl, sym, ap, subst, ◌∙◌, append_assoc, All, codes}
use Rattle.std.specs.List.{flat_map}
use Rattle.std.specs.Fmt.{decimal}
use Rattle.std.specs.Str.{IsAscii, IsUtf8}
use Rattle.std.proofs.lemmas.List.{append-nil, take_more, flat_map_more, get_or_past}
use Rattle.std.proofs.lemmas.Bool.Decides.{nat_tests}
use Rattle.std.proofs.lemmas.List.Concat.{flat_map-append}
use Rattle.std.proofs.lemmas.List.Elements.{All-append, All-cons, All-map, All-weaker}
use Rattle.osgi_version.specs.Field.{field}
use Rattle.pb_core.specs.AtLeast.{at_least}
use Rattle.pb_core.specs.Normal.{IsNormalOver}
use Rattle.pb_core.specs.declared.constraint.Constraint.{Constraint}
use Rattle.pb_core.specs.declared.constraint.Problem.{Problem}
use Rattle.deriv_check.specs.declared.derivation.Evidence.{Evidence}
use Rattle.deriv_check.specs.declared.derivation.Line.{Line}
use Rattle.deriv_check.specs.EvidenceForm.{IsCount, IsLine, IsOrigin, IsNamed, IsConstraintOver, IsProblem, IsEvidence, DenotesEvidence, whole_lines}
use Rattle.deriv_check.specs.EvidenceText.{lit_word, term_word, origin_word, label_words, constraint_words, derived_words, problem_words, derivation_words, label_line, constraint_line, derived_line, problem_line, derivation_line, problem_lines, derivation_lines, evidence_lines, evidence_text, ended}
use Rattle.deriv_check.proofs.ConstraintLaws.{constraint_are_words}
use Rattle.deriv_check.proofs.LineWords.{label_are_words, derived_are_words, problem_are_words, derivation_are_words}
use Rattle.deriv_check.proofs.WordLaws.{IsOneLine, spaced_line, whole_lines-ended, ended_ascii}

-- one more word of a list
pub push_more : {X : Type 0} (f : X → List ℕ) (start line mid last : List ℕ) (xs : List X) (i : ℕ) (d : X) → i < length xs
    → line ≡ start ++ flat_map (λ x. 32 ∷ f x) (take i xs) → mid ≡ line ++ 32 ∷ [] → last ≡ mid ++ f (get_or xs i d)
    → last ≡ start ++ flat_map (λ x. 32 ∷ f x) (take (i + 1) xs)
push_more {X} f start line mid last xs i d h e m l =
    l ∙ ap (λ (b : List ℕ). b ++ f (get_or xs i d)) (m ∙ ap (λ (b : List ℕ). b ++ 32 ∷ []) e)
    ∙ append_assoc (start ++ flat_map (λ x. 32 ∷ f x) (take i xs)) (32 ∷ []) (f (get_or xs i d))
    ∙ flat_map_more (λ x. 32 ∷ f x) start (take i xs) (get_or xs i d)
    ∙ ap (λ (ys : List X). start ++ flat_map (λ x. 32 ∷ f x) ys) (sym (take_more xs i d h))

flat_words : {X : Type 0} (f : X → List ℕ) (xs : List X) → flat_map (λ w. 32 ∷ w) (map f xs) ≡ flat_map (λ x. 32 ∷ f x) xs
flat_words f [] = refl
flat_words f (x ∷ xs) = ap (λ (r : List ℕ). (32 ∷ f x) ++ r) (flat_words f xs)

-- the lines, byte by byte
pub label_spelled : (label : List ℕ) → label_line label ≡ codes "v " ++ field label
unfolding label_line
label_spelled label = ap (λ (r : List ℕ). codes "v " ++ r) (append-nil (field label))

pub constraint_spelled : (c : Constraint) → constraint_line c ≡ codes "c " ++ (origin_word c.terms c.origin ++ 32 ∷ (decimal c.degree ++ flat_map (λ t. 32 ∷ term_word t) c.terms))
unfolding constraint_line
constraint_spelled c =
    ap (λ (r : List ℕ). codes "c " ++ (origin_word c.terms c.origin ++ 32 ∷ (decimal c.degree ++ r))) (flat_words term_word c.terms)

pub derived_spelled : (line : Line) → derived_line line ≡ codes "l" ++ (flat_map (λ l. 32 ∷ lit_word l) line.clause ++ (codes " ;" ++ flat_map (λ h. 32 ∷ decimal h) line.hints))
unfolding derived_line
derived_spelled line =
    ap (λ (r : List ℕ). codes "l" ++ r)
    (flat_map-append (λ w. 32 ∷ w) (map lit_word line.clause) (codes ";" ∷ map decimal line.hints)
    ∙ (λ i. flat_words lit_word line.clause i ++ (codes " ;" ++ flat_words decimal line.hints i)))

pub problem_spelled : (counts : ℕ × ℕ) → problem_line counts ≡ codes "problem " ++ (decimal counts.0 ++ 32 ∷ decimal counts.1)
unfolding problem_line
problem_spelled counts = ap (λ (r : List ℕ). codes "problem " ++ (decimal counts.0 ++ 32 ∷ r)) (append-nil (decimal counts.1))

pub derivation_spelled : (count : ℕ) → derivation_line count ≡ codes "derivation " ++ decimal count
unfolding derivation_line
derivation_spelled count = ap (λ (r : List ℕ). codes "derivation " ++ r) (append-nil (decimal count))

-- each line of an evidence is one line
one_label : (label : List ℕ) → IsUtf8 label → IsOneLine (label_line label)
unfolding label_line
one_label label h = spaced_line (label_words label) (label_are_words label h)

one_constraint : (labels : List (List ℕ)) → IsCount (length labels) → (c : Constraint) → IsConstraintOver labels c → IsOneLine (constraint_line c)
unfolding constraint_line
one_constraint labels few c h = spaced_line (constraint_words c) (constraint_are_words labels few c h)

one_derived : (line : Line) → IsLine line → IsOneLine (derived_line line)
unfolding derived_line
one_derived line h = spaced_line (derived_words line) (derived_are_words line h)

one_problem : (counts : ℕ × ℕ) → IsCount counts.0 → IsCount counts.1 → IsOneLine (problem_line counts)
unfolding problem_line
one_problem counts h k = spaced_line (problem_words counts) (problem_are_words counts (h, k))

one_derivation : (count : ℕ) → IsCount count → IsOneLine (derivation_line count)
unfolding derivation_line
one_derivation count h = spaced_line (derivation_words count) (derivation_are_words count h)

evidence_one_line : (e : Evidence) → IsEvidence e → All IsOneLine (evidence_lines e)
evidence_one_line e h =
    let p = e.problem in
    All-append IsOneLine (problem_lines p) (derivation_lines e.derivation)
    (All-cons IsOneLine (problem_line (length p.labels, length p.constraints)) (map label_line p.labels ++ map constraint_line p.constraints)
    (one_problem (length p.labels, length p.constraints) h.problem.few_labels h.problem.few_constraints)
    (All-append IsOneLine (map label_line p.labels) (map constraint_line p.constraints)
    (All-map IsOneLine label_line p.labels (All-weaker IsUtf8 (λ l. IsOneLine (label_line l)) one_label p.labels h.problem.labels))
    (All-map IsOneLine constraint_line p.constraints
    (All-weaker (IsConstraintOver p.labels) (λ c. IsOneLine (constraint_line c)) (one_constraint p.labels h.problem.few_labels) p.constraints h.problem.constraints))))
    (All-cons IsOneLine (derivation_line (length e.derivation.lines)) (map derived_line e.derivation.lines)
    (one_derivation (length e.derivation.lines) h.derivation.few_lines)
    (All-map IsOneLine derived_line e.derivation.lines (All-weaker IsLine (λ l. IsOneLine (derived_line l)) one_derived e.derivation.lines h.derivation.lines)))

pub evidence_denotes : (e : Evidence) (text : List ℕ) → IsEvidence e → text ≡ evidence_text e → DenotesEvidence (whole_lines text) e
evidence_denotes e text h is = record {
  skipped = [];
  behind = [];
  spelling = ap whole_lines is ∙ whole_lines-ended (evidence_lines e) (evidence_one_line e h) ∙ sym (append-nil (evidence_lines e));
  skips = tt;
  form = h;
}

all_ascii : (bytes : List ℕ) → All (λ b. b < 128) bytes → IsAscii bytes
all_ascii bytes all i = by (nat_lt i (length bytes)) refl
  where
    by : (t : Bool) → nat_lt i (length bytes) ≡ t → get_or bytes i 0 < 128
    by true e = all i 0 (grind (arith, nat_tests))
    by false e = let past : length bytes ≤ i = grind (arith, nat_tests) in rw (get_or_past bytes i 0 past) (omega arith)

pub evidence_ascii : (e : Evidence) (text : List ℕ) → IsEvidence e → text ≡ evidence_text e → IsAscii text
evidence_ascii e text h is = subst IsAscii (sym is) (all_ascii (evidence_text e) (ended_ascii (evidence_lines e) (evidence_one_line e h)))

-- what was seen while the text was written
pub problem_form : (p : Problem) → IsCount (length p.labels) → IsCount (length p.constraints) → All (λ c. IsNormalOver (length p.labels) (at_least c)) p.constraints
    → All (λ c. IsNamed p.labels c.terms c.origin) p.constraints → All IsUtf8 p.labels → All (λ c. IsOrigin c.origin) p.constraints → IsProblem p
problem_form p few many normal named utf8 origins = record {
  few_labels = few;
  few_constraints = many;
  labels = utf8;
  constraints = λ k d h. record { normal = normal k d h; origin = (named k d h, origins k d h) };
}

-- what two pushes add
pub join_two : (o p q a b : List ℕ) → a ≡ o ++ p → b ≡ a ++ q → b ≡ o ++ (p ++ q)
join_two o p q a b e f = f ∙ ap (λ (l : List ℕ). l ++ q) e ∙ append_assoc o p q

pub regroup_three : (p a b : List ℕ) → ((p ++ a) ++ 32 ∷ []) ++ b ≡ p ++ (a ++ 32 ∷ b)
regroup_three p a b = simp append_assoc

pub regroup_four : (p a b d : List ℕ) → (((p ++ a) ++ 32 ∷ []) ++ b) ++ d ≡ p ++ (a ++ 32 ∷ (b ++ d))
regroup_four p a b d = simp append_assoc

pub regroup_hints : (p a m b : List ℕ) → ((p ++ a) ++ m) ++ b ≡ p ++ (a ++ (m ++ b))
regroup_hints p a m b = simp append_assoc

-- one more line
pub lines_more : {X : Type 0} (f : X → List ℕ) (start text last : List ℕ) (xs : List X) (i : ℕ) (x : X) → i < length xs → x ≡ get_or xs i x
    → text ≡ start ++ flat_map (λ y. f y ++ 10 ∷ []) (take i xs) → last ≡ text ++ (f x ++ 10 ∷ [])
    → last ≡ start ++ flat_map (λ y. f y ++ 10 ∷ []) (take (i + 1) xs)
lines_more {X} f start text last xs i x h is e l =
    l ∙ ap (λ (b : List ℕ). b ++ (f x ++ 10 ∷ [])) e
    ∙ flat_map_more (λ y. f y ++ 10 ∷ []) start (take i xs) x
    ∙ ap (λ (y : X). start ++ flat_map (λ z. f z ++ 10 ∷ []) (take i xs ++ y ∷ [])) is
    ∙ ap (λ (ys : List X). start ++ flat_map (λ z. f z ++ 10 ∷ []) ys) (sym (take_more xs i x h))

flat_ended : {X : Type 0} (f : X → List ℕ) (xs : List X) → flat_map (λ x. f x ++ 10 ∷ []) xs ≡ ended (map f xs)
flat_ended f [] = refl
flat_ended f (x ∷ xs) = ap (λ (r : List ℕ). (f x ++ 10 ∷ []) ++ r) (flat_ended f xs)

regroup_five : (p l c d k : List ℕ) → (((p ++ l) ++ c) ++ d) ++ k ≡ (p ++ (l ++ c)) ++ (d ++ k)
regroup_five p l c d k = simp append_assoc

pub evidence_written : (e : Evidence) (t0 t1 t2 t3 t4 t5 : List ℕ) → t0 ≡ []
    → t1 ≡ t0 ++ (problem_line (length e.problem.labels, length e.problem.constraints) ++ 10 ∷ [])
    → t2 ≡ t1 ++ flat_map (λ l. label_line l ++ 10 ∷ []) e.problem.labels
    → t3 ≡ t2 ++ flat_map (λ c. constraint_line c ++ 10 ∷ []) e.problem.constraints
    → t4 ≡ t3 ++ (derivation_line (length e.derivation.lines) ++ 10 ∷ [])
    → t5 ≡ t4 ++ flat_map (λ l. derived_line l ++ 10 ∷ []) e.derivation.lines
    → t5 ≡ evidence_text e
evidence_written e t0 t1 t2 t3 t4 t5 e0 e1 e2 e3 e4 e5 =
    let p = problem_line (length e.problem.labels, length e.problem.constraints) ++ 10 ∷ [] in
    let l = ended (map label_line e.problem.labels) in
    let c = ended (map constraint_line e.problem.constraints) in
    let d = derivation_line (length e.derivation.lines) ++ 10 ∷ [] in
    let k = ended (map derived_line e.derivation.lines) in
    let f1 : t1 ≡ p = e1 ∙ ap (λ (t : List ℕ). t ++ p) e0 in
    let f2 : t2 ≡ p ++ l = e2 ∙ (λ i. f1 i ++ flat_ended label_line e.problem.labels i) in
    let f3 : t3 ≡ (p ++ l) ++ c = e3 ∙ (λ i. f2 i ++ flat_ended constraint_line e.problem.constraints i) in
    let f4 : t4 ≡ ((p ++ l) ++ c) ++ d = e4 ∙ ap (λ (t : List ℕ). t ++ d) f3 in
    let f5 : t5 ≡ (((p ++ l) ++ c) ++ d) ++ k = e5 ∙ (λ i. f4 i ++ flat_ended derived_line e.derivation.lines i) in
    let inner : ended (map label_line e.problem.labels ++ map constraint_line e.problem.constraints) ≡ l ++ c =
    flat_map-append (λ line. line ++ 10 ∷ []) (map label_line e.problem.labels) (map constraint_line e.problem.constraints) in
    let whole : evidence_text e ≡ ended (problem_lines e.problem) ++ ended (derivation_lines e.derivation) =
    flat_map-append (λ line. line ++ 10 ∷ []) (problem_lines e.problem) (derivation_lines e.derivation) in
    f5 ∙ regroup_five p l c d k ∙ ap (λ (r : List ℕ). (p ++ r) ++ (d ++ k)) (sym inner) ∙ sym whole
