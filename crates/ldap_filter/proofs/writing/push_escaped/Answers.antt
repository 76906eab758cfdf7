use Rattle.std.proofs.Common.{string_bytes}
use Rattle.ldap_filter.specs.FilterText.{escaped}
use Rattle.ldap_filter.proofs.TextLemmas.{escaped-step}
use Rattle.ldap_filter.proofs.writing.push_escaped.Goals as goal

pub loop-character-preserved : goal.loop-character-preserved
loop-character-preserved c =
    escaped-step (string_bytes c.loop-character.text) (string_bytes c.args.text.now) (string_bytes c.push_character.new.text) c.loop-character.character-iterator.rest.now (escaped c.args.value.now) c.next.new.self.rest.now c.in-Some.character
    c.loop-character.invariant c.in-Some.ensures.steps.0 c.in_ok-push_character.ensures
