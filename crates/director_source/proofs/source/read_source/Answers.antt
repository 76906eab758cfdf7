use Rattle.std.proofs.Common.{◌∙◌, arith}
use Rattle.std.proofs.lemmas.Result.{err_from_is_err_and}
use Rattle.director_source.specs.Gathering.{gathered_in}
use Rattle.director_source.proofs.GatherSteps.{folders_known, source_stops, folder_read, source_read}
use Rattle.director_source.proofs.source.read_source.Goals as goal

pub returns-in_err-read_folder-clause-refused : goal.returns-in_err-read_folder-clause-refused
returns-in_err-read_folder-clause-refused g c =
    let p = err_from_is_err_and c.from_residual-in_err-read_folder.result c.from_residual-in_err-read_folder.ensures.1 in
    let told = g.T.Tree.told c.args.source.now in
    let folders = c.items-folder-items.result.now in
    let known = folders_known told c.root.result c.in-Ok.folders folders c.root.ensures c.items-folder-items.ensures c.in-Ok.ensures.rising c.in-Ok.ensures.kids in
    rw (p.1, p.2) (source_stops told (g.T.Tree.told c.loop-folder.source) folders (gathered_in c.loop-folder.so_far) c.loop-folder.folder-index c.folder-item.result
    (g.T.Tree.faults c.args.source.now) (g.T.Tree.faults c.loop-folder.source) (g.T.Tree.faults c.read_folder.new.source) c.in_err-read_folder.field-0.0
    c.loop-folder-test.true c.folder-item.is c.loop-folder.invariant.stays c.loop-folder.invariant.later known c.loop-folder.invariant.gives c.in_err-read_folder.ensures.refused)

pub loop-folder-preserved : goal.loop-folder-preserved
loop-folder-preserved g c = record {
  gathering = c.in_ok-read_folder.ensures.is;
  stays = c.in_ok-read_folder.ensures.stays ∙ c.loop-folder.invariant.stays;
  later = omega (arith, c.loop-folder.invariant.later, c.in_ok-read_folder.ensures.later);
  gives = folder_read (g.T.Tree.told c.args.source.now) (g.T.Tree.told c.loop-folder.source) c.items-folder-items.result.now (gathered_in c.loop-folder.so_far) (gathered_in c.read_folder.new.so_far) c.loop-folder.folder-index c.folder-item.result
      c.loop-folder-test.true c.folder-item.is c.loop-folder.invariant.stays c.loop-folder.invariant.gives c.in_ok-read_folder.ensures.found;
}

pub returns-clause-found : goal.returns-clause-found
returns-clause-found g c =
    let told = g.T.Tree.told c.args.source.now in
    let folders = c.items-folder-items.result.now in
    let known = folders_known told c.root.result c.in-Ok.folders folders c.root.ensures c.items-folder-items.ensures c.in-Ok.ensures.rising c.in-Ok.ensures.kids in
    source_read told folders (gathered_in c.loop-folder.so_far) c.loop-folder.folder-index c.loop-folder-test.false known c.loop-folder.invariant.gives
