use Rattle.std.proofs.Common.{◌∙◌, sym, subst}
use Rattle.artifact_pool.specs.ArtifactPath.{IsArtifactPath, HasNoArtifactPath}
use Rattle.artifact_pool.proofs.Reading.{no_text, no_path, other_path, not_from}
use Rattle.artifact_pool.proofs.artifact_path.read_artifact_path.Goals as goal

pub returns-in-Err-NotUtf8 : goal.returns-in-Err-NotUtf8
returns-in-Err-NotUtf8 c = no_text c.args.text.now c.in-Err-NotUtf8.field-0 c.in-Err-NotUtf8.field-0-0 c.in-Err-NotUtf8.field-0-is c.in-Err-NotUtf8.ensures.refused

pub returns-in_default : goal.returns-in_default
returns-in_default c = subst HasNoArtifactPath c.in-Ok.ensures.ok (no_path c.in-Ok.text (rw c.in_default.is at c.in_ok-path.ensures))

pub returns : goal.returns
returns c = subst HasNoArtifactPath c.in-Ok.ensures.ok (other_path c.in-Ok.text c.in-Some.path (rw c.in-Some.is at c.in_ok-path.ensures)
    (λ is. not_from c.in_ok-is_artifact_path.field-0 c.in_ok-is_artifact_path.ensures c.if-branch.false (subst IsArtifactPath (sym (c.items.ensures ∙ c.names.ensures.value)) is)))
