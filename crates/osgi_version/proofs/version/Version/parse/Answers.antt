use Rattle.std.proofs.Common.{◌≡◌, ◌∙◌, ap, inl, Ok}
use Rattle.osgi_version.specs.VersionReading.{version_in}
use Rattle.osgi_version.proofs.VersionPlaces.{DenotesVersion-unique, raw_refused}
use Rattle.osgi_version.proofs.version.Version.parse.Goals as goal

pub returns-then-is_raw-clause-only : goal.returns-then-is_raw-clause-only
returns-then-is_raw-clause-only c = λ v denotes. absurd (raw_refused c.args.text.now v (c.is_raw.ensures.0 c.if-is_raw.true) denotes)

pub returns-in_ok-version-in-Ok-clause-only : goal.returns-in_ok-version-in-Ok-clause-only
returns-in_ok-version-in-Ok-clause-only c = λ v denotes.
    let text = c.args.text.now in
    let read : c.in_ok-version-in-Ok.field-0 ≡ version_in text c.in-Ok.reading = c.in_ok-version-in-Ok.ensures in
    inl (ap Ok (read ∙ DenotesVersion-unique text _ v c.in-Ok.ensures.found denotes))
