use Rattle.std.proofs.Common.{◌≡◌, ◌≤◌, false, get_or, pos, ◌∙◌, refl, arith}
use Rattle.std.proofs.lemmas.List.{get_or_default}
use Rattle.std.proofs.lemmas.List.Elements.{All-push}
use Rattle.pb_core.specs.Joined.{size}
use Rattle.pb_core.specs.declared.literal.SignedTerm.{SignedTerm}
use Rattle.pb_core.specs.declared.normal_form.Joined.{Joined}
use Rattle.pb_core.proofs.JoinedLaws.{same_variable, next_variable, join_step, rising_push}
use Rattle.pb_core.proofs.normal_form.join_terms.Goals as goal
use Rattle.pb_core.proofs.normal_form.join_terms.Goals.{then-term-current+in_ok-push, else-term-current}

pub loop-term-preserved : goal.loop-term-preserved
loop-term-preserved c =
    let d : SignedTerm = record { coef = pos 0; lit = record { variable = 0; positive = false } } in
    let terms = c.args.terms.now in
    let i = c.loop-term.term-index in
    join_step terms i (get_or terms i d) c.loop-term.joined.items c.if-term-current.joined.items c.loop-term.current c.if-term-current.current c.with-current.result (omega arith) (get_or_default terms i d (get_or terms i d) (omega arith)) c.requires.rising c.loop-term.invariant
    (elim c.if-term-current.branch [ then-term-current+in_ok-push w ↦ next_variable (rw w.joined-is w.in_ok-push.ensures.items) (w.current-is ∙ w.none-current-then-term-current.ensures) w.if-term-current.true | else-term-current w ↦ same_variable (rw w.joined-is refl) w.current-is w.if-term-current.false ])
    c.with-current.ensures.variable c.with-current.ensures.share c.with-current.ensures.size

pub returns-clause-rising : goal.returns-clause-rising
returns-clause-rising c = rw c.in_ok-push-2.ensures.items (rising_push (λ (j : Joined). j.variable) c.loop-term.joined.items c.loop-term.current c.loop-term.invariant.rising c.loop-term.invariant.below)

pub returns-clause-among : goal.returns-clause-among
returns-clause-among c =
    λ variables all. rw c.in_ok-push-2.ensures.items (All-push (λ (j : Joined). (j.variable ≤ variables) × (j.variable ≡ 0 → size j ≡ 0)) c.loop-term.joined.items c.loop-term.current (c.loop-term.invariant.among variables all).0 ((c.loop-term.invariant.among variables all).1, (c.loop-term.invariant.among variables all).2))
