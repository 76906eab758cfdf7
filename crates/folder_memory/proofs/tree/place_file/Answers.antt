use Rattle.folder_memory.proofs.Files.{put_done}
use Rattle.folder_memory.proofs.tree.place_file.Goals as goal

pub returns-clause-ok : goal.returns-clause-ok
returns-clause-ok c =
    put_done c.args.files.now c.insert.new.self c.args.path.now c.in_ok-copied_path.field-0 c.args.blob.now c.in_ok-copy.field-0
    c.in_ok-copied_path.ensures.copy c.in_ok-copy.ensures c.in_ok-insert.ensures.updates.0
