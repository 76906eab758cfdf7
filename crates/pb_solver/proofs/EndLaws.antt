-- What the end of a search shows.
use Rattle.std.proofs.Common.{◌≡◌, ◌-◌, ◌<◌, ◌≤◌, List, [], ◌∷◌, ◌++◌, length, get_or, take, map, replicate, None, refl, sym, ap, subst, ◌∙◌, ⊎_elim, arith}
use Rattle.std.proofs.lemmas.Bool.{cases_lt}
use Rattle.std.proofs.lemmas.List.{take-append-le, take_all, get_or_push, get_or_append_left, length_push}
use Rattle.pb_core.specs.AtLeast.{AtLeast, at_least}
use Rattle.pb_core.specs.Fresh.{Fresh}
use Rattle.pb_core.specs.Propagates.{ReachesViolation}
use Rattle.pb_core.specs.Satisfied.{IsSatisfied, SatisfiesAll}
use Rattle.pb_core.specs.declared.constraint.Constraint.{Constraint}
use Rattle.deriv_check.specs.Database.{database, line_seen}
use Rattle.deriv_check.specs.LineRule.{Checks}
use Rattle.deriv_check.specs.Verdict.{CheckUpTo}
use Rattle.deriv_check.specs.declared.derivation.Line.{Line}
use Rattle.pb_solver.specs.Answers.{IsModel, IsRefutation, IsSpent}
use Rattle.pb_solver.specs.Ending.{EndsInModel, EndsSpent}
use Rattle.pb_solver.specs.Lines.{before_line}
use Rattle.pb_solver.specs.SearchHolds.{SearchHolds, variables_of, problem_of}
use Rattle.pb_solver.specs.Values.{truths}
use Rattle.pb_solver.specs.declared.search.Search.{Search}
use Rattle.pb_solver.proofs.ModelLaws.{rest_satisfies, All-first}
use Rattle.pb_solver.proofs.WishLaws.{decided_quiet}

pub ends_in_model : (search : Search) (constraints : List Constraint) → SearchHolds search → EndsInModel search → problem_of search ≡ map at_least constraints → IsModel (variables_of search) constraints search.levels.trail.kept.values
ends_in_model search constraints holds ends is = record {
  size = refl;
  assigned = ends.assigned;
  satisfies = subst (λ (cs : List AtLeast). SatisfiesAll (truths search.levels.trail.kept.values) cs) is first;
}
  where
    all : SatisfiesAll (truths search.levels.trail.kept.values) search.levels.trail.kept.constraints
    all = rest_satisfies search.levels.trail.kept.values search.levels.trail.kept.constraints ends.rest holds.levels.good.keepable ends.assigned

    first : SatisfiesAll (truths search.levels.trail.kept.values) (problem_of search)
    first = All-first (λ (c : AtLeast). IsSatisfied (truths search.levels.trail.kept.values) c) (problem_of search) (map line_seen search.lines) (subst (λ (cs : List AtLeast). SatisfiesAll (truths search.levels.trail.kept.values) cs) holds.all all)

check_over : (search : Search) (constraints : List Constraint) → SearchHolds search → problem_of search ≡ map at_least constraints → CheckUpTo (variables_of search) constraints search.lines (length search.lines)
check_over search constraints holds is k d h =
    subst (λ (cs : List AtLeast). Checks (variables_of search) (before_line cs search.lines k) (get_or search.lines k d)) is (holds.learned.check k d h)

pub ends_spent : (search : Search) (constraints : List Constraint) → SearchHolds search → EndsSpent search → problem_of search ≡ map at_least constraints → IsSpent (variables_of search) constraints search.budget search.lines
ends_spent search constraints holds ends is = record {
  all = ends.all;
  check = check_over search constraints holds is;
  fresh = λ k d h. subst (λ (cs : List AtLeast). Fresh (get_or search.lines k d).clause (before_line cs search.lines k)) is (holds.learned.fresh k d h);
  quiet = λ reaches. decided_quiet search.levels.trail search.levels.starts.items holds.levels ends.decided (subst (λ (cs : List AtLeast). ReachesViolation cs (replicate (variables_of search) None)) (sym same) reaches);
}
  where
    same : search.levels.trail.kept.constraints ≡ database constraints search.lines
    same = holds.all ∙ ap (λ (cs : List AtLeast). cs ++ map line_seen search.lines) is

-- the empty clause behind the lines
pub ends_in_refutation : (search : Search) (constraints : List Constraint) (line : Line) → SearchHolds search → problem_of search ≡ map at_least constraints → Checks (variables_of search) search.levels.trail.kept.constraints line → line.clause ≡ [] → IsRefutation (variables_of search) constraints search.budget (search.lines ++ line ∷ [])
ends_in_refutation search constraints line holds is checks empty = record {
  refutes = (check, (omega (arith, length_push search.lines line), last));
  few = omega (arith, length_push search.lines line, holds.most);
}
  where
    now : Checks (variables_of search) (database constraints search.lines) line
    now = subst (λ (cs : List AtLeast). Checks (variables_of search) cs line) (holds.all ∙ ap (λ (cs : List AtLeast). cs ++ map line_seen search.lines) is) checks

    check : CheckUpTo (variables_of search) constraints (search.lines ++ line ∷ []) (length (search.lines ++ line ∷ []))
    check k d h = ⊎_elim earlier behind (cases_lt k (length search.lines))
      where
        earlier : k < length search.lines → Checks (variables_of search) (database constraints (take k (search.lines ++ line ∷ []))) (get_or (search.lines ++ line ∷ []) k d)
        earlier lt =
            subst (λ (l : Line). Checks (variables_of search) (database constraints (take k (search.lines ++ line ∷ []))) l) (sym (get_or_append_left search.lines (line ∷ []) d k lt))
            (subst (λ (ls : List Line). Checks (variables_of search) (database constraints ls) (get_or search.lines k d)) (sym (take-append-le k search.lines (line ∷ []) (omega arith))) (check_over search constraints holds is k d lt))

        behind : length search.lines ≤ k → Checks (variables_of search) (database constraints (take k (search.lines ++ line ∷ []))) (get_or (search.lines ++ line ∷ []) k d)
        behind ge =
            let here : length search.lines ≡ k = omega (arith, length_push search.lines line, h) in
            subst (λ (l : Line). Checks (variables_of search) (database constraints (take k (search.lines ++ line ∷ []))) l) (sym (get_or_push search.lines line d k here))
            (subst (λ (ls : List Line). Checks (variables_of search) (database constraints ls) line) (sym (take-append-le k search.lines (line ∷ []) (omega arith) ∙ take_all k search.lines (omega arith))) now)

    last : (d : Line) → (get_or (search.lines ++ line ∷ []) (length (search.lines ++ line ∷ []) - 1) d).clause ≡ []
    last d =
        let at : length search.lines ≡ length (search.lines ++ line ∷ []) - 1 = omega (arith, length_push search.lines line) in
        ap (λ (l : Line). l.clause) (get_or_push search.lines line d (length (search.lines ++ line ∷ []) - 1) at) ∙ empty
