use Rattle.std.proofs.Common.{◌≡◌, ℕ, ◌+◌, ◌<◌, List, [], ◌∷◌, ◌++◌, length, map, drop, get_or, filter, sym, ap, ◌∙◌}
use Rattle.instr_text.specs.Cut.{seen}
use Rattle.instr_parser.specs.Naming.{is_plain_in}
use Rattle.instr_parser.specs.Tables.{actions}
use Rattle.instr_parser.proofs.Walks.{kept_one, passed_one}
use Rattle.instr_parser.proofs.naming.plain_among.Goals as goal
use Rattle.instr_parser.proofs.naming.plain_among.Goals.{then-is_plain+in_ok-push, else-is_plain}

abbrev kinds : List ℕ
kinds = map (λ row. row.1) actions

pub loop-kind-preserved : goal.loop-kind-preserved
loop-kind-preserved c =
    let i : ℕ = c.loop-kind.kind-index in
    let inside : i < length kinds = c.loop-kind-test.true in
    elim c.if-is_plain.branch [
      | then-is_plain+in_ok-push w ↦
          let put : c.if-is_plain.kinds.items ≡ c.loop-kind.kinds.items ++ get_or kinds i 0 ∷ [] = ap (λ v. v.items) w.kinds-is ∙ w.in_ok-push.ensures.items in
          ap (λ ks. ks ++ filter (is_plain_in c.args.is_native (seen c.args.imports.now)) (drop (i + 1) kinds)) put
          ∙ (kept_one (is_plain_in c.args.is_native (seen c.args.imports.now)) c.loop-kind.kinds.items kinds i 0 inside (sym c.is_plain.ensures ∙ w.if-is_plain.true) ∙ c.loop-kind.invariant)
      | else-is_plain w ↦
          ap (λ v. v.items ++ filter (is_plain_in c.args.is_native (seen c.args.imports.now)) (drop (i + 1) kinds)) w.kinds-is
          ∙ (passed_one (is_plain_in c.args.is_native (seen c.args.imports.now)) c.loop-kind.kinds.items kinds i 0 inside (sym c.is_plain.ensures ∙ w.if-is_plain.false) ∙ c.loop-kind.invariant)
    ]
