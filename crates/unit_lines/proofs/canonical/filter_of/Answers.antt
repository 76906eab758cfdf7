use Rattle.std.proofs.Common.{◌≡◌, Err, ap, sym, ◌∙◌}
use Rattle.ldap_filter.specs.declared.filter_fault.FilterFault.TheVariants as fault
use Rattle.ldap_filter.specs.FilterText.{DenotesFilter, IsFilter, filter_text}
use Rattle.unit_lines.proofs.Readings.{refused, other_text}
use Rattle.unit_lines.proofs.Spellings.{filter_spelled}
use Rattle.unit_lines.proofs.WordLemmas.{differ}
use Rattle.unit_lines.proofs.canonical.filter_of.Goals as goal

pub returns-else-eq : goal.returns-else-eq
returns-else-eq c = λ v form same.
    let text = c.bytes.result.now in
    let canonical : c.in_ok-again.again ≡ filter_text c.in-Ok.filter = c.in_ok-again.ensures.canonical in
    let first = c.bytes.ensures.value in
    let second = c.bytes-2.ensures.value in
    let third = c.bytes-3.ensures.value in
    other_text DenotesFilter IsFilter filter_text filter_spelled fault.NoMemory text c.parse.result c.parse.ensures.only c.in-Ok.filter c.in-Ok.is
    (λ e. differ c.bytes-2.result.now c.bytes-3.result.now c.if-eq.ensures (cc)) v form (same ∙ sym first)

pub returns-in-Err-Bad : goal.returns-in-Err-Bad
returns-in-Err-Bad c = λ v form same.
    refused DenotesFilter IsFilter filter_text filter_spelled fault.NoMemory c.bytes.result.now c.parse.result c.parse.ensures.only (fault.Bad c.in-Err-Bad.field-0-0)
    (c.in-Err-Bad.is ∙ ap Err c.in-Err-Bad.field-0-is) (λ e. cc) v form (same ∙ sym c.bytes.ensures.value)
