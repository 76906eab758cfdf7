use Rattle.std.proofs.Common.{◌≡◌, ◌+◌, ◌++◌, ◌∷◌, ap, Vec, Global, ◌&&◌, not, false, List, ℕ, [], sym, ◌∙◌, refl, arith, get_or, map}
use Rattle.std.proofs.lemmas.List.{append-nil, map-append}
use Rattle.props_reader.specs.declared.logical.Placed.{Placed}
use Rattle.props_reader.specs.LogicalLines.{is_skipped, placed}
use Rattle.props_reader.proofs.JoinLemmas.{from_index-skipped, from_index-continued, from_index-ended, from_index-none}
use Rattle.props_reader.proofs.logical.logical_lines.Goals as goal
use Rattle.props_reader.proofs.logical.logical_lines.Goals.{else-not-goes_on-via-then-not-goes_on+else-is_skipped, else-not-goes_on-via-else-not-goes_on, then-not-goes_on-2+in_ok-push, else-not-goes_on-2, then-goes_on+in_ok-push-2, else-goes_on}

pub loop-index-preserved-then-is_skipped : goal.loop-index-preserved-then-is_skipped
loop-index-preserved-then-is_skipped c =
    let skipped = from_index-skipped (map (λ line. line.items) c.loop-index.found.items) c.loop-index.joined.items c.loop-index.index c.args.lines.now (record { ref_ptr = (0, 0); now = [] }) c.loop-index.goes_on c.loop-index-test.true c.if-not-goes_on.true (sym c.is_skipped.ensures ∙ c.if-is_skipped.true) in
    (c.loop-index.invariant.0, sym skipped ∙ c.loop-index.invariant.1)

pub loop-index-preserved : goal.loop-index-preserved
loop-index-preserved c =
    let line : List ℕ = (get_or c.args.lines.now c.loop-index.index (record { ref_ptr = (0, 0); now = [] })).now in
    let kept : (not c.loop-index.goes_on && is_skipped line) ≡ false =
    elim c.else-not-goes_on.branch [
      | else-not-goes_on-via-then-not-goes_on+else-is_skipped w ↦ rw (← w.is_skipped.ensures, w.if-is_skipped.false, w.if-not-goes_on.true) refl
      | else-not-goes_on-via-else-not-goes_on w ↦ rw w.if-not-goes_on.false refl
    ] in
    let continued = from_index-continued (map (λ line. line.items) c.loop-index.found.items) c.loop-index.joined.items c.loop-index.index c.args.lines.now (record { ref_ptr = (0, 0); now = [] }) c.loop-index.goes_on c.loop-index-test.true c.loop-index.invariant.0 kept in
    let ended = from_index-ended (map (λ line. line.items) c.loop-index.found.items) c.loop-index.joined.items c.loop-index.index c.args.lines.now (record { ref_ptr = (0, 0); now = [] }) c.loop-index.goes_on c.loop-index-test.true c.loop-index.invariant.0 kept in
    let found = map (λ (line : Vec Placed Global). line.items) in
    elim c.if-not-goes_on-2.branch [
      | then-not-goes_on-2+in_ok-push w ↦
          let step = ended (sym c.is_continued-goes_on.ensures ∙ w.if-not-goes_on-2.true) in
          let rest : c.if-not-goes_on-2.joined.items ≡ [] = rw w.joined-is (rw w.replace.ensures.after w.new.ensures.items) in
          let line_is : w.replace.result.items ≡ c.loop-index.joined.items ++ placed (c.loop-index.index + 1) line = rw w.replace.ensures.value c.in_ok-join.ensures in
          let more : found c.if-not-goes_on-2.found.items ≡ found c.loop-index.found.items ++ (c.loop-index.joined.items ++ placed (c.loop-index.index + 1) line) ∷ [] =
          rw w.found-is (ap found w.in_ok-push.ensures.items ∙ rw map-append (rw line_is refl)) in
          (λ _. rest, rw (more, w.if-not-goes_on-2.true) (sym (step []) ∙ c.loop-index.invariant.1))
      | else-not-goes_on-2 w ↦
          let step = continued (sym c.is_continued-goes_on.ensures ∙ w.if-not-goes_on-2.false) in
          let joined : c.if-not-goes_on-2.joined.items ≡ c.loop-index.joined.items ++ placed (c.loop-index.index + 1) line = rw w.joined-is c.in_ok-join.ensures in
          (λ e. grind arith, rw (w.found-is, w.if-not-goes_on-2.false, joined) (sym step ∙ c.loop-index.invariant.1))
    ]

pub returns : goal.returns
returns c =
    let found = map (λ (line : Vec Placed Global). line.items) in
    let none = from_index-none (found c.loop-index.found.items) c.loop-index.joined.items c.loop-index.index c.args.lines.now c.loop-index.goes_on c.loop-index-test.false in
    elim c.if-goes_on.branch [
      | then-goes_on+in_ok-push-2 w ↦
          let more : found c.if-goes_on.found.items ≡ found c.loop-index.found.items ++ c.loop-index.joined.items ∷ [] =
          rw w.found-is (ap found w.in_ok-push-2.ensures.items ∙ map-append (λ (line : Vec Placed Global). line.items) c.loop-index.found.items (c.loop-index.joined ∷ [])) in
          let all = sym none ∙ c.loop-index.invariant.1 in
          more ∙ (rw w.if-goes_on.true at all)
      | else-goes_on w ↦
          let all = sym none ∙ c.loop-index.invariant.1 in
          rw w.found-is (sym (append-nil (found c.loop-index.found.items)) ∙ (rw w.if-goes_on.false at all))
    ]
