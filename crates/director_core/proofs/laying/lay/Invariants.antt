use Rattle.std.proofs.Common.{◌≡◌, ◌≤◌, drop, take}
use Rattle.folder_core.specs.Step.{Step}
use Rattle.director_core.specs.Laid.{CanLay, AreNodes, SameElsewhere, laid}
use Rattle.director_core.proofs.laying.lay.Given as goal

-- what is put leads to the map now, and what is left from there to the map that all of it leads to
abbrev pub invariant-loop-touch : goal.invariant-loop-touch
invariant-loop-touch g l = record {
  rest : Step (g.F.Folder.told l.fn.folder) (g.F.Folder.told l.folder) (λ s t. CanLay (drop l.touch-index l.touches) t.now × (laid (drop l.touch-index l.touches) t.now ≡ laid l.touches s.now));
  front : Step (g.F.Folder.told l.fn.folder) (g.F.Folder.told l.folder) (λ s t. t.now ≡ laid (take l.touch-index l.touches) s.now);
  elsewhere : Step (g.F.Folder.told l.fn.folder) (g.F.Folder.told l.folder) (λ s t. SameElsewhere l.touches s.now t.now);
  nodes : AreNodes (drop l.touch-index l.touches);
  later : g.F.Folder.faults l.fn.folder ≤ g.F.Folder.faults l.folder;
}
