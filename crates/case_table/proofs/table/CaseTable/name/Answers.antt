use Rattle.std.proofs.Common.{◌≡◌, true, false, nat_eq, ◌<◌, length, slice_index_or, drop, arith}
use Rattle.std.proofs.lemmas.Bool.Decides.{nat_tests}
use Rattle.case_table.specs.Rows.{names_of}
use Rattle.case_table.specs.CaseTable.{rows}
use Rattle.case_table.proofs.NameLemmas.{names_left, rows_left, rows_left-none}
use Rattle.case_table.proofs.RowLemmas.{IsOneByCode-name_of, All-other_code}
use Rattle.case_table.proofs.table.CaseTable.name.Goals as goal

pub returns-then-code-other-clause-value : goal.returns-then-code-other-clause-value
returns-then-code-other-clause-value g c =
    let inside : c.loop-other.other-index < length c.args.self.now.codes = grind arith in
    let some : 0 < length (names_of c.loop-other.rest.now) = omega (arith, c.loop-other.invariant.0) in
    let names = names_left c.loop-other.rest.now c.split_at.result.0.now c.split_at.result.1.now c.args.self.now.codes c.loop-other.other-index c.name_length.result some c.name_length.ensures.value c.split_at.ensures.front c.split_at.ensures.back in
    let left = rows_left c.loop-other.rest.now c.split_at.result.0.now c.split_at.result.1.now c.args.self.now.codes c.loop-other.other-index c.name_length.result names inside in
    let whole = rw left at c.loop-other.invariant.1 in
    let test : nat_eq c.args.code (slice_index_or c.args.self.now.codes c.loop-other.other-index 0) ≡ true = grind (arith, nat_tests) in
    rw test at whole

pub returns-then-code-other-clause-one : goal.returns-then-code-other-clause-one
returns-then-code-other-clause-one g c = IsOneByCode-name_of c.args.self.now.names.now c.args.self.now.codes c.args.self.now.is_table c.args.code _ (returns-then-code-other-clause-value g c)

pub loop-other-preserved : goal.loop-other-preserved
loop-other-preserved g c =
    let inside : c.loop-other.other-index < length c.args.self.now.codes = grind arith in
    let some : 0 < length (names_of c.loop-other.rest.now) = omega (arith, c.loop-other.invariant.0) in
    let names = names_left c.loop-other.rest.now c.split_at.result.0.now c.split_at.result.1.now c.args.self.now.codes c.loop-other.other-index c.name_length.result some c.name_length.ensures.value c.split_at.ensures.front c.split_at.ensures.back in
    let left = rows_left c.loop-other.rest.now c.split_at.result.0.now c.split_at.result.1.now c.args.self.now.codes c.loop-other.other-index c.name_length.result names inside in
    let whole = rw left at c.loop-other.invariant.1 in
    let test : nat_eq c.args.code (slice_index_or c.args.self.now.codes c.loop-other.other-index 0) ≡ false = grind (arith, nat_tests) in
    let count = rw names at c.loop-other.invariant.0 in
    rw c.behind_end-rest.ensures (omega arith, rw test at whole)

pub returns-clause-none : goal.returns-clause-none
returns-clause-none g c =
    let none : length (names_of c.loop-other.rest.now) ≡ 0 = omega (arith, c.loop-other.invariant.0) in
    let whole = rw (rows_left-none c.loop-other.rest.now (drop c.loop-other.other-index c.args.self.now.codes) none) at c.loop-other.invariant.1 in
    All-other_code (rows c.args.self.now) c.args.code whole
