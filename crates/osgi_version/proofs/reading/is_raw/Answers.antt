use Rattle.std.proofs.Common.{◌∙◌, sym}
use Rattle.osgi_version.proofs.VersionViews.{IsRaw-from_test, test-from_IsRaw}
use Rattle.osgi_version.proofs.reading.is_raw.Goals as goal

pub returns : goal.returns
returns c =
    let text = c.args.text.now in
    let rest = c.trim_ascii_start.result.now in (
      λ begins. IsRaw-from_test text rest c.trim_ascii_start.ensures.value (sym c.starts_with.ensures.value ∙ begins),
      λ raw. c.starts_with.ensures.value ∙ test-from_IsRaw text rest c.trim_ascii_start.ensures.value raw,
    )
