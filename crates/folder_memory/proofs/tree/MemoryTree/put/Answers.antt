use Rattle.std.proofs.Common.{refl}
use Rattle.std.proofs.lemmas.Grind.{merely}
use Rattle.folder_core.specs.Formed.{AreFiles-had}
use Rattle.folder_core.proofs.Maps.{pushed_or_not}
use Rattle.folder_memory.specs.Files.{files_of}
use Rattle.folder_memory.proofs.Files.{files_after}
use Rattle.folder_memory.proofs.tree.MemoryTree.put.Goals as goal

pub invariant_of-self : goal.invariant_of-self
invariant_of-self c =
    let files = c.args.self.now.files in
    record {
      formed = merely (files_after (files_of files) (files_of c.place_file.new.files) c.args.path.now c.args.blob.now (pushed_or_not c.place_file.result c.place_file.ensures.ok c.place_file.ensures.err)
          (AreFiles-had (files_of files) c.args.self.now.formed) (c.if-not-has_room.ensures.0 refl) c.place_file.ensures.path);
    }

pub has_room-requires : goal.has_room-requires
has_room-requires c = AreFiles-had (files_of c.args.self.now.files) c.args.self.now.formed
