use Rattle.std.proofs.Common.{ap, ◌∙◌}
use Rattle.ldap_filter.specs.FilterScan.{turn_in}
use Rattle.ldap_filter.specs.declared.scan.Scan.{Scan}
use Rattle.ldap_filter.specs.declared.scan.Move.TheVariants as move
use Rattle.ldap_filter.proofs.FilterScans.{turn-attribute, turn-value, turn-escape}
use Rattle.ldap_filter.proofs.scan.Scan.turn.Goals as goal

pub returns-in-InAttribute-clause-turns : goal.returns-in-InAttribute-clause-turns
returns-in-InAttribute-clause-turns c =
    ap (turn_in c.args.text.now c.args.at c.args.self) c.in_attribute.ensures ∙ turn-attribute c.args.text.now c.args.at c.args.self _ c.requires.scan c.requires.inside c.in-InAttribute.is

pub returns-in-InValue-clause-turns : goal.returns-in-InValue-clause-turns
returns-in-InValue-clause-turns c =
    ap (turn_in c.args.text.now c.args.at c.args.self) c.in_value.ensures ∙ turn-value c.args.text.now c.args.at c.args.self _ c.requires.scan c.requires.inside c.in-InValue.is

pub returns-in-InEscape-clause-turns : goal.returns-in-InEscape-clause-turns
returns-in-InEscape-clause-turns c =
    ap (λ (next : Scan). turn_in c.args.text.now c.args.at c.args.self (move.Go next)) c.at_stage.ensures ∙ turn-escape c.args.text.now c.args.at c.args.self _ c.requires.scan c.requires.inside c.in-InEscape.is
