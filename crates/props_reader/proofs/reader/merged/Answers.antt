use Rattle.std.proofs.Common.{◌+◌, ◌∙◌, Vec, Global, drop, map, sym, ap, refl}
use Rattle.std.proofs.lemmas.List.{drop_all}
use Rattle.std.proofs.lemmas.Result.{err_from_is_err_and}
use Rattle.props_reader.specs.declared.logical.Placed.{Placed}
use Rattle.props_reader.specs.Entries.{entries_seen}
use Rattle.props_reader.specs.PairsOf.{merged}
use Rattle.props_reader.proofs.CharacterLemmas.{Refuses-along}
use Rattle.props_reader.proofs.PairLemmas.{collected-none, collected-more, collected-refused, entries_seen-insert_entry, lines-drop}
use Rattle.props_reader.proofs.reader.merged.Goals as goal

pub returns-in_err-key : goal.returns-in_err-key
returns-in_err-key c =
    let p = err_from_is_err_and c.from_residual.result c.from_residual.ensures.1 in
    let items = map (λ (line : Vec Placed Global). line.items) in
    let lines = c.args.lines.now in
    let before = rw (lines-drop lines c.loop-line.line-index c.line-item.result c.loop-line-test.true c.line-item.is) at c.loop-line.invariant in
    let refuses = rw c.deref.ensures.value at c.in_err-key.ensures in
    rw (p.1, p.2) (Refuses-along c.in_err-key.field-0.0 _ (merged (items lines)) refuses
    (λ line h. sym before ∙ collected-refused (entries_seen c.loop-line.found.entries) c.line-item.result.items (items (drop (c.loop-line.line-index + 1) lines)) line h))

pub loop-line-preserved : goal.loop-line-preserved
loop-line-preserved c =
    let items = map (λ (line : Vec Placed Global). line.items) in
    let lines = c.args.lines.now in
    let before = rw (lines-drop lines c.loop-line.line-index c.line-item.result c.loop-line-test.true c.line-item.is) at c.loop-line.invariant in
    let pair = rw c.deref.ensures.value at c.in_ok-key.ensures in
    let more = collected-more (entries_seen c.loop-line.found.entries) c.line-item.result.items (items (drop (c.loop-line.line-index + 1) lines)) (c.in_ok-key.key, c.in_ok-key.value) pair in
    let puts = ap entries_seen c.in_ok-insert.ensures.entries ∙ entries_seen-insert_entry _ (λ a b. refl) c.loop-line.found.entries (record { text = c.in_ok-key.key }) c.in_ok-key.value in
    rw puts (sym more ∙ before)

pub returns : goal.returns
returns c =
    let items = map (λ (line : Vec Placed Global). line.items) in
    let lines = c.args.lines.now in
    let none = drop_all c.loop-line.line-index lines c.loop-line-test.false in
    let all = rw none at c.loop-line.invariant in
    sym all ∙ collected-none (entries_seen c.loop-line.found.entries)
