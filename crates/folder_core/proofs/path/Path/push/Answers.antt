use Rattle.std.proofs.Common.{sym, subst, arith}
use Rattle.folder_core.specs.Name.{IsName}
use Rattle.folder_core.specs.Path.{IsPath}
use Rattle.folder_core.proofs.Paths.{IsPath-push}
use Rattle.folder_core.proofs.path.Path.push.Goals as goal

pub invariant_of-self-2 : goal.invariant_of-self-2
invariant_of-self-2 c =
    subst IsPath (sym c.in_ok-push.ensures.ok) (IsPath-push c.self.inside.names c.args.name (omega (arith, c.self.invariant.short)) c.self.invariant (subst IsName c.name.view_is c.name.invariant))
