use Rattle.std.proofs.Common.{◌≢◌, [], length, lit<, ◌∙◌, ap, arith, subst}
use Rattle.std.proofs.lemmas.List.{length-map}
use Rattle.std.proofs.lemmas.Iterator.Splits.{YieldsList-from_str_split}
use Rattle.std.proofs.lemmas.Iterator.Consumers.{YieldsList-at, YieldsList-turn, YieldsList-end}
use Rattle.folder_core.proofs.Paths.{no_path_at, no_path_so_long, IsPathOf-split, some_bytes, no_name, is_full}
use Rattle.folder_core.proofs.path.Path.read.Goals as goal

pub returns-in_default : goal.returns-in_default
returns-in_default c =
    let pieces = YieldsList-at c.into_iter-piece-iterator.ensures.into_iter_gives (YieldsList-from_str_split 47 c.args.text.now (lit< tt) (c.split-piece-items.ensures.text ∙ c.as_str-2.ensures) c.split-piece-items.ensures.has_more c.split-piece-items.ensures.pattern) in
    let turn = YieldsList-turn pieces c.loop-piece.yielded _ c.loop-piece.yielded_by _ _ c.in-Some.piece c.in-Some.is c.next.ensures.steps in
    let some : c.args.text.now ≢ [] = subst (λ bytes. bytes ≢ []) c.as_str.ensures (some_bytes c.as_str.result.now c.if-is_empty.ensures) in
    no_path_at c.args.text.now (length c.loop-piece.yielded) c.in-Some.piece.now some turn.0 turn.1 (no_name c.in_ok-name.field-0 c.in_ok-piece.piece c.in-Some.piece.now c.in_ok-name.ensures c.in_default.is c.in_ok-piece.ensures)

pub returns-then-not-branch : goal.returns-then-not-branch
returns-then-not-branch c =
    let pieces = YieldsList-at c.into_iter-piece-iterator.ensures.into_iter_gives (YieldsList-from_str_split 47 c.args.text.now (lit< tt) (c.split-piece-items.ensures.text ∙ c.as_str-2.ensures) c.split-piece-items.ensures.has_more c.split-piece-items.ensures.pattern) in
    let turn = YieldsList-turn pieces c.loop-piece.yielded _ c.loop-piece.yielded_by _ _ c.in-Some.piece c.in-Some.is c.next.ensures.steps in
    let some : c.args.text.now ≢ [] = subst (λ bytes. bytes ≢ []) c.as_str.ensures (some_bytes c.as_str.result.now c.if-is_empty.ensures) in
    let full = is_full c.in_ok-push.field-0 c.loop-piece.path c.in-Some-2.name c.push.new.self c.in_ok-push.ensures.ok c.if-not-branch.true in
    no_path_so_long c.args.text.now some (omega (arith, turn.0, full, ap length c.loop-piece.invariant.3, length-map c.loop-piece.yielded (λ x. x.now)))

pub returns : goal.returns
returns c =
    let pieces = YieldsList-at c.into_iter-piece-iterator.ensures.into_iter_gives (YieldsList-from_str_split 47 c.args.text.now (lit< tt) (c.split-piece-items.ensures.text ∙ c.as_str-2.ensures) c.split-piece-items.ensures.has_more c.split-piece-items.ensures.pattern) in
    let end = YieldsList-end pieces c.loop-piece.yielded _ c.loop-piece.yielded_by _ _ c.in-None.is c.next.ensures.steps in
    let some : c.args.text.now ≢ [] = subst (λ bytes. bytes ≢ []) c.as_str.ensures (some_bytes c.as_str.result.now c.if-is_empty.ensures) in
    IsPathOf-split c.args.text.now c.loop-piece.path some (c.loop-piece.invariant.3 ∙ end.0) c.loop-piece.invariant.2
