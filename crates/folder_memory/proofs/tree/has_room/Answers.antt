use Rattle.std.proofs.Common.{◌≢◌, [], sym, ◌∙◌}
use Rattle.std.proofs.lemmas.Bool.{false≢true}
use Rattle.folder_memory.proofs.Files.{not_false, room_tells}
use Rattle.folder_memory.proofs.tree.has_room.Goals as goal
use Rattle.folder_memory.proofs.tree.has_room.Goals.{then-not-is_empty, else-not-is_empty}

pub returns-then-not-has_file_above : goal.returns-then-not-has_file_above
returns-then-not-has_file_above c = elim c.if-not-is_empty.branch [
  | then-not-is_empty w ↦
      let some : c.args.path.now ≢ [] = λ none. false≢true (sym w.if-not-is_empty.true ∙ c.is_empty.ensures.1 (c.names.ensures.value ∙ none)) in
      room_tells c.args.files.now c.args.path.now some w.has_file_above.result c.has_below.result w.has_file_above.ensures c.has_below.ensures
      (not_false w.has_file_above.result (sym w.value-is ∙ c.if-not-has_file_above.true))
  | else-not-is_empty w ↦ absurd (false≢true (sym (not_false c.is_empty.result (sym w.value-is ∙ c.if-not-has_file_above.true)) ∙ w.if-not-is_empty.false))
]
