use Rattle.osgi_version.proofs.VersionViews.{qualifier_utf8}
use Rattle.osgi_version.proofs.reading.Reading.version.Goals as goal

-- a qualifier's bytes are ASCII
pub unreachable-requires : goal.unreachable-requires
unreachable-requires c =
    let refused = rw c.in-Err-NotUtf8.field-0-is at c.in-Err-NotUtf8.ensures.refused in
    refused.0 (qualifier_utf8 _ c.requires.bytes)
