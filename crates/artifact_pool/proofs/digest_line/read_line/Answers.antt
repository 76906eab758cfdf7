use Rattle.std.proofs.Common.{◌∙◌, sym, subst}
use Rattle.artifact_pool.specs.DigestLine.{IsMarked}
use Rattle.artifact_pool.proofs.Reading.{no_mark, no_digest, no_artifact, split_parts}
use Rattle.artifact_pool.proofs.digest_line.read_line.Goals as goal

pub returns-in_default-behind_mark : goal.returns-in_default-behind_mark
returns-in_default-behind_mark c = no_mark c.args.line.now c.in-Some.digits.now c.in-Some.rest.now c.in-Some.ensures.cases (rw c.in_default-behind_mark.is at c.behind_mark.ensures)

pub returns-in_default-from_hex : goal.returns-in_default-from_hex
returns-in_default-from_hex c = no_digest c.args.line.now c.in-Some.digits.now c.in-Some.rest.now c.in-Some.ensures.cases (λ d e. c.in_default-from_hex.not-Ok d (c.from_hex.ensures ∙ e))

pub returns-in_default-2 : goal.returns-in_default-2
returns-in_default-2 c = no_artifact c.args.line.now c.in-Some.digits.now c.in-Some.rest.now c.in-Some-behind_mark.text.now c.in-Some.ensures.cases c.in-Some-behind_mark.ensures (rw c.in_default-2.is at c.in_ok-path.ensures)

pub returns : goal.returns
returns c =
    let spelled = rw c.in-Some-2.is at c.in_ok-path.ensures in
    record {
      digits = c.in-Some.digits.now;
      rest = c.in-Some.rest.now;
      spelled = split_parts c.args.line.now c.in-Some.digits.now c.in-Some.rest.now c.in-Some.ensures.cases;
      digest = sym c.from_hex.ensures ∙ c.in-Ok.is;
      marked = subst (IsMarked c.in-Some.rest.now) (sym spelled.spelled) c.in-Some-behind_mark.ensures;
      path = spelled.is_path;
    }
