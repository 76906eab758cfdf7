-- A search that goes on.
use Rattle.std.proofs.Common.{◌≡◌, ℕ, ◌-◌, ◌<◌, ◌≤◌, List, [], ◌∷◌, ◌++◌, length, get_or, take, map, Option, Some, Result, Ok, Err, refl, sym, ap, subst, ◌∙◌, ⊎_elim, arith}
use Rattle.std.specs.Result.{OnErr}
use Rattle.std.proofs.lemmas.Bool.{cases_lt}
use Rattle.std.proofs.lemmas.List.{append-nil, append_assoc, take-append-le, take_all, get_or_push, get_or_append_left, length_push, map_push}
use Rattle.pb_core.specs.AtLeast.{AtLeast, clause}
use Rattle.pb_core.specs.Fresh.{Fresh}
use Rattle.pb_core.specs.Satisfied.{SatisfiesAll}
use Rattle.pb_core.specs.Values.{Completes}
use Rattle.deriv_check.specs.Database.{line_seen}
use Rattle.deriv_check.specs.LineRule.{Checks}
use Rattle.deriv_check.specs.declared.derivation.Line.{Line}
use Rattle.pb_trail.specs.Growth.{Extends}
use Rattle.pb_trail.specs.Rest.{IsSettled}
use Rattle.pb_solver.specs.Levels.{LevelsHold}
use Rattle.pb_solver.specs.Lines.{AreLearned, before_line}
use Rattle.pb_solver.specs.SearchHolds.{SearchHolds, IsSameSearch, variables_of, problem_of, wish_of}
use Rattle.pb_solver.specs.declared.agenda.Agenda.{Agenda}
use Rattle.pb_solver.specs.declared.levels.Levels.{Levels}
use Rattle.pb_solver.specs.declared.search.Search.{Search}
use Rattle.pb_solver.proofs.WishLaws.{violated_unwanted}

-- the search with other levels, and another conflict and agenda
abbrev pub moved : Search → Levels → Option ℕ → Agenda → Search
moved before levels found agenda = record before { levels = levels; found = found; agenda = agenda }

pub same_grown : (before : Search) (levels : Levels) (found : Option ℕ) (agenda : Agenda) → Extends before.levels.trail levels.trail → IsSameSearch before (moved before levels found agenda)
same_grown before levels found agenda extends = record {
  problem = ap (λ (cs : List AtLeast). take (length cs - length before.lines) cs) extends.constraints;
  variables = extends.variables;
  wanted = refl;
  budget = refl;
}

-- ---- lines

AreLearned-same : (n n' : ℕ) (cs cs' : List AtLeast) (lines : List Line) → n ≡ n' → cs ≡ cs' → AreLearned n cs lines → AreLearned n' cs' lines
AreLearned-same n n' cs cs' lines p q learned =
    subst (λ (x : List AtLeast). AreLearned n' x lines) q (subst (λ (x : ℕ). AreLearned x cs lines) p learned)

AreLearned-push : (n : ℕ) (cs : List AtLeast) (lines : List Line) (line : Line) → AreLearned n cs lines → Checks n (cs ++ map line_seen lines) line → Fresh line.clause (cs ++ map line_seen lines) → AreLearned n cs (lines ++ line ∷ [])
AreLearned-push n cs lines line learned checks fresh = record {
  check = λ k d h. by (λ db l. Checks n db l) k d h (learned.check k d) checks;
  fresh = λ k d h. by (λ db l. Fresh l.clause db) k d h (learned.fresh k d) fresh;
}
  where
    by : (P : List AtLeast → Line → Type 0) (k : ℕ) (d : Line) → k < length (lines ++ line ∷ []) → (k < length lines → P (before_line cs lines k) (get_or lines k d)) → P (cs ++ map line_seen lines) line → P (before_line cs (lines ++ line ∷ []) k) (get_or (lines ++ line ∷ []) k d)
    by P k d h old new = ⊎_elim earlier last (cases_lt k (length lines))
      where
        earlier : k < length lines → P (before_line cs (lines ++ line ∷ []) k) (get_or (lines ++ line ∷ []) k d)
        earlier lt =
            subst (λ (l : Line). P (before_line cs (lines ++ line ∷ []) k) l) (sym (get_or_append_left lines (line ∷ []) d k lt))
            (subst (λ (ls : List Line). P (cs ++ map line_seen ls) (get_or lines k d)) (sym (take-append-le k lines (line ∷ []) (omega arith))) (old lt))

        last : length lines ≤ k → P (before_line cs (lines ++ line ∷ []) k) (get_or (lines ++ line ∷ []) k d)
        last ge =
            let here : length lines ≡ k = omega (arith, length_push lines line, h) in
            subst (λ (l : Line). P (before_line cs (lines ++ line ∷ []) k) l) (sym (get_or_push lines line d k here))
            (subst (λ (ls : List Line). P (cs ++ map line_seen ls) line) (sym (take-append-le k lines (line ∷ []) (omega arith) ∙ take_all k lines (omega arith))) new)

-- ---- growth

pub SearchHolds-grown : (before : Search) (levels : Levels) (found : Option ℕ) (agenda : Agenda) → SearchHolds before → LevelsHold levels → Extends before.levels.trail levels.trail → (SatisfiesAll (wish_of before) (problem_of before) → Completes (wish_of before) levels.trail.kept.values) → SearchHolds (moved before levels found agenda)
SearchHolds-grown before levels found agenda holds good extends agrees = record {
  levels = good;
  all = extends.constraints ∙ (holds.all ∙ ap (λ (cs : List AtLeast). cs ++ map line_seen before.lines) (sym same.problem));
  few = omega (arith, ap length same.problem, holds.few);
  budget = holds.budget;
  most = holds.most;
  learned = AreLearned-same (variables_of before) (length levels.trail.kept.values) (problem_of before) (problem_of (moved before levels found agenda)) before.lines (sym same.variables) (sym same.problem) holds.learned;
  wishes = omega (arith, holds.wishes, same.variables);
  wish = λ sat. let sat' = subst (λ (cs : List AtLeast). SatisfiesAll (wish_of before) cs) same.problem sat in record { no_line = (holds.wish sat').no_line; agrees = agrees sat' };
}
  where
    same : IsSameSearch before (moved before levels found agenda)
    same = same_grown before levels found agenda extends

-- where nothing was learned the constraints are those of the problem
problem_alone : (search : Search) → SearchHolds search → search.lines ≡ [] → SatisfiesAll (wish_of search) (problem_of search) → SatisfiesAll (wish_of search) search.levels.trail.kept.constraints
problem_alone search holds none sat =
    subst (λ (cs : List AtLeast). SatisfiesAll (wish_of search) cs) (sym (holds.all ∙ (ap (λ (ls : List Line). problem_of search ++ map line_seen ls) none ∙ append-nil (problem_of search)))) sat

pub wish_alone : (search : Search) → SearchHolds search → SatisfiesAll (wish_of search) (problem_of search) → SatisfiesAll (wish_of search) search.levels.trail.kept.constraints
wish_alone search holds sat = problem_alone search holds (holds.wish sat).no_line sat

pub conflict_unwanted : (search : Search) (conflict : ℕ) → SearchHolds search → IsSettled search.levels.trail (Some conflict) → SatisfiesAll (wish_of search) (problem_of search) → ⊥
conflict_unwanted search conflict holds found sat =
    violated_unwanted (wish_of search) search.levels.trail conflict found (wish_alone search holds sat) (holds.wish sat).agrees

-- ---- one more line

abbrev pub longer : Search → Levels → Agenda → Line → Search
longer before levels agenda line = record before { levels = levels; agenda = agenda; lines = before.lines ++ line ∷ [] }

pub same_longer : (before : Search) (levels : Levels) (agenda : Agenda) (line : Line) → SearchHolds before → levels.trail.kept.constraints ≡ before.levels.trail.kept.constraints ++ clause line.clause ∷ [] → length levels.trail.kept.values ≡ length before.levels.trail.kept.values → IsSameSearch before (longer before levels agenda line)
same_longer before levels agenda line holds constraints variables = record {
  problem = problem;
  variables = variables;
  wanted = refl;
  budget = refl;
}
  where
    cs : List AtLeast
    cs = before.levels.trail.kept.constraints

    problem : problem_of (longer before levels agenda line) ≡ problem_of before
    problem =
        let size : length levels.trail.kept.constraints - length (before.lines ++ line ∷ []) ≡ length before.levels.trail.kept.constraints - length before.lines = omega (arith, ap length constraints, length_push before.levels.trail.kept.constraints (clause line.clause), length_push before.lines line) in
        ap (λ (n : ℕ). take n levels.trail.kept.constraints) size ∙ (ap (take (length before.levels.trail.kept.constraints - length before.lines)) constraints
        ∙ take-append-le (length before.levels.trail.kept.constraints - length before.lines) before.levels.trail.kept.constraints (clause line.clause ∷ []) (omega arith))

pub SearchHolds-longer : (before : Search) (levels : Levels) (agenda : Agenda) (line : Line) → SearchHolds before → LevelsHold levels → levels.trail.kept.constraints ≡ before.levels.trail.kept.constraints ++ clause line.clause ∷ [] → length levels.trail.kept.values ≡ length before.levels.trail.kept.values → length before.lines < before.budget → Checks (variables_of before) before.levels.trail.kept.constraints line → Fresh line.clause before.levels.trail.kept.constraints → (SatisfiesAll (wish_of before) (problem_of before) → ⊥) → SearchHolds (longer before levels agenda line)
SearchHolds-longer before levels agenda line holds good constraints variables room checks fresh unwanted = record {
  levels = good;
  all = constraints ∙ (ap (λ (cs : List AtLeast). cs ++ clause line.clause ∷ []) holds.all ∙ (append_assoc (problem_of before) (map line_seen before.lines) (clause line.clause ∷ []) ∙ (ap (λ (ls : List AtLeast). problem_of before ++ ls) (sym (map_push line_seen before.lines line)) ∙ ap (λ (cs : List AtLeast). cs ++ map line_seen (before.lines ++ line ∷ [])) (sym same.problem))));
  few = omega (arith, ap length same.problem, holds.few);
  budget = holds.budget;
  most = omega (arith, length_push before.lines line, room);
  learned = AreLearned-same (variables_of before) (length levels.trail.kept.values) (problem_of before) (problem_of (longer before levels agenda line)) (before.lines ++ line ∷ []) (sym variables) (sym same.problem)
      (AreLearned-push (variables_of before) (problem_of before) before.lines line holds.learned (subst (λ (cs : List AtLeast). Checks (variables_of before) cs line) holds.all checks) (subst (λ (cs : List AtLeast). Fresh line.clause cs) holds.all fresh));
  wishes = omega (arith, holds.wishes, variables);
  wish = λ sat. absurd (unwanted (subst (λ (cs : List AtLeast). SatisfiesAll (wish_of before) cs) same.problem sat));
}
  where
    same : IsSameSearch before (longer before levels agenda line)
    same = same_longer before levels agenda line holds constraints variables

-- what holds anyway holds after an error
pub on_err : {T E P : Type 0} (r : Result T E) → P → OnErr r P
on_err (Ok x) p = tt
on_err (Err e) p = p

pub same_itself : (search : Search) → IsSameSearch search search
same_itself search = record { problem = refl; variables = refl; wanted = refl; budget = refl }
