use Rattle.std.proofs.Common.{refl, sym, ◌∙◌}
use Rattle.std.proofs.lemmas.Bool.{false≢true}
use Rattle.folder_core.proofs.Moments.{formed_now}
use Rattle.director_core.proofs.Roots.{bare_root, child_of_root}
use Rattle.director_core.proofs.decision.check_bare.Goals as goal

pub returns-then-is_empty-clause-bare : goal.returns-then-is_empty-clause-bare
returns-then-is_empty-clause-bare g c =
    bare_root (g.F.Folder.told c.args.folder.now) c.root.result c.in-Ok.names (formed_now (g.F.Folder.told c.args.folder.now) (g.met.F.Folder.image_now c.args.folder.now)) c.root.ensures c.in-Ok.ensures.kids (c.is_empty.ensures.0 c.if-is_empty.true)

pub returns-clause-refused : goal.returns-clause-refused
returns-clause-refused g c = (
  refl,
  child_of_root (g.F.Folder.told c.args.folder.now) c.root.result c.in-Ok.names c.root.ensures c.in-Ok.ensures.kids
      (λ e. false≢true (sym c.if-is_empty.false ∙ c.is_empty.ensures.1 e)),
)
