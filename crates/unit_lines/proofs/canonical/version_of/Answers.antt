use Rattle.std.proofs.Common.{◌≡◌, Err, ap, sym, ◌∙◌}
use Rattle.osgi_version.specs.declared.version.VersionFault.TheVariants as fault
use Rattle.osgi_version.specs.VersionText.{DenotesVersion, IsVersion, version_text}
use Rattle.unit_lines.proofs.Readings.{refused, other_text}
use Rattle.unit_lines.proofs.Spellings.{version_spelled}
use Rattle.unit_lines.proofs.WordLemmas.{differ}
use Rattle.unit_lines.proofs.canonical.version_of.Goals as goal

pub returns-else-eq : goal.returns-else-eq
returns-else-eq c = λ v form same.
    let text = c.bytes.result.now in
    let canonical : c.in_ok-again.again ≡ version_text c.in-Ok.version = c.in_ok-again.ensures.canonical in
    let first = c.bytes.ensures.value in
    let second = c.bytes-2.ensures.value in
    let third = c.bytes-3.ensures.value in
    other_text DenotesVersion IsVersion version_text version_spelled fault.NoMemory text c.parse.result c.parse.ensures.only c.in-Ok.version c.in-Ok.is
    (λ e. differ c.bytes-2.result.now c.bytes-3.result.now c.if-eq.ensures (cc)) v form (same ∙ sym first)

pub returns-in-Err-Bad : goal.returns-in-Err-Bad
returns-in-Err-Bad c = λ v form same.
    refused DenotesVersion IsVersion version_text version_spelled fault.NoMemory c.bytes.result.now c.parse.result c.parse.ensures.only (fault.Bad c.in-Err-Bad.field-0-0)
    (c.in-Err-Bad.is ∙ ap Err c.in-Err-Bad.field-0-is) (λ e. cc) v form (same ∙ sym c.bytes.ensures.value)

pub returns-in-Err-Raw : goal.returns-in-Err-Raw
returns-in-Err-Raw c = λ v form same.
    refused DenotesVersion IsVersion version_text version_spelled fault.NoMemory c.bytes.result.now c.parse.result c.parse.ensures.only fault.Raw
    (c.in-Err-Raw.is ∙ ap Err c.in-Err-Raw.field-0-is) (λ e. cc) v form (same ∙ sym c.bytes.ensures.value)
