use Rattle.std.proofs.Common.{◌≡◌, ◌<◌, ◌∙◌, sym, length, drop, arith}
use Rattle.case_table.specs.Rows.{names_of}
use Rattle.case_table.specs.CaseTable.{rows}
use Rattle.case_table.proofs.NameLemmas.{names_left, rows_left, rows_left-none}
use Rattle.case_table.proofs.RowLemmas.{IsOneByName-code_of, All-other_name}
use Rattle.case_table.proofs.table.CaseTable.find.Goals as goal

pub returns-then-eq-clause-value : goal.returns-then-eq-clause-value
returns-then-eq-clause-value g c =
    let inside : c.loop-code.code-index < length c.args.self.now.codes = grind arith in
    let some : 0 < length (names_of c.loop-code.rest.now) = omega (arith, c.loop-code.invariant.0) in
    let names = names_left c.loop-code.rest.now c.split_at.result.0.now c.split_at.result.1.now c.args.self.now.codes c.loop-code.code-index c.name_length.result some c.name_length.ensures.value c.split_at.ensures.front c.split_at.ensures.back in
    let left = rows_left c.loop-code.rest.now c.split_at.result.0.now c.split_at.result.1.now c.args.self.now.codes c.loop-code.code-index c.name_length.result names inside in
    let whole = rw left at c.loop-code.invariant.1 in
    let test = sym c.eq.ensures ∙ c.if-eq.true in
    rw test at whole

pub returns-then-eq-clause-one : goal.returns-then-eq-clause-one
returns-then-eq-clause-one g c = IsOneByName-code_of c.args.self.now.names.now c.args.self.now.codes c.args.self.now.is_table c.args.name.now _ (returns-then-eq-clause-value g c)

pub loop-code-preserved : goal.loop-code-preserved
loop-code-preserved g c =
    let inside : c.loop-code.code-index < length c.args.self.now.codes = grind arith in
    let some : 0 < length (names_of c.loop-code.rest.now) = omega (arith, c.loop-code.invariant.0) in
    let names = names_left c.loop-code.rest.now c.split_at.result.0.now c.split_at.result.1.now c.args.self.now.codes c.loop-code.code-index c.name_length.result some c.name_length.ensures.value c.split_at.ensures.front c.split_at.ensures.back in
    let left = rows_left c.loop-code.rest.now c.split_at.result.0.now c.split_at.result.1.now c.args.self.now.codes c.loop-code.code-index c.name_length.result names inside in
    let whole = rw left at c.loop-code.invariant.1 in
    let test = sym c.eq.ensures ∙ c.if-eq.false in
    let count = rw names at c.loop-code.invariant.0 in
    rw c.behind_end-rest.ensures (omega arith, rw test at whole)

pub returns-clause-none : goal.returns-clause-none
returns-clause-none g c =
    let none : length (names_of c.loop-code.rest.now) ≡ 0 = omega (arith, c.loop-code.invariant.0) in
    let whole = rw (rows_left-none c.loop-code.rest.now (drop c.loop-code.code-index c.args.self.now.codes) none) at c.loop-code.invariant.1 in
    All-other_name (rows c.args.self.now) c.args.name.now whole
