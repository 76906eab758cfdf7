use Rattle.std.proofs.Common.{Err, ap, ◌∙◌}
use Rattle.std.proofs.lemmas.Bool.{false≢true}
use Rattle.osgi_version.specs.declared.version.VersionFault.TheVariants as fault
use Rattle.artifact_pool.proofs.Canonical.{refused, compared}
use Rattle.artifact_pool.proofs.artifact_path.is_canonical.Goals as goal

pub returns-in-Err-Raw : goal.returns-in-Err-Raw
returns-in-Err-Raw c = (
  λ e. absurd (false≢true e),
  λ is. absurd (refused c.args.text.now c.parse.result c.parse.ensures.only fault.Raw (c.in-Err-Raw.is ∙ ap Err c.in-Err-Raw.field-0-is) (λ e. cc) is),
)

pub returns-in-Err-Bad : goal.returns-in-Err-Bad
returns-in-Err-Bad c = (
  λ e. absurd (false≢true e),
  λ is. absurd (refused c.args.text.now c.parse.result c.parse.ensures.only (fault.Bad c.in-Err-Bad.field-0-0) (c.in-Err-Bad.is ∙ ap Err c.in-Err-Bad.field-0-is) (λ e. cc) is),
)

pub returns : goal.returns
returns c = compared c.args.text.now c.parse.result c.parse.ensures.only c.bytes.result.now c.eq.result c.in-Ok.version c.eq.ensures c.in-Ok.is c.in-Ok.ensures.found (c.bytes.ensures.value ∙ c.in_ok-canonical.ensures.canonical)
