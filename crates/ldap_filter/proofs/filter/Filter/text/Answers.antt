use Rattle.std.proofs.Common.{◌≡◌, ◌++◌, ap, ◌∙◌}
use Rattle.ldap_filter.specs.FilterText.{filter_text}
use Rattle.ldap_filter.proofs.ReadsBack.{reads_back}
use Rattle.ldap_filter.proofs.filter.Filter.text.Goals as goal

pub returns-clause-reads_back : goal.returns-clause-reads_back
returns-clause-reads_back c =
    let written : c.as_str.result.now ≡ filter_text c.args.self.now = c.as_str.ensures.value ∙ (c.in_ok-push_text.ensures ∙ ap (λ bytes. bytes ++ filter_text c.args.self.now) c.new-text.ensures.bytes) in
    reads_back c.args.self.now c.from_str.result c.as_str.result.now c.requires written c.from_str.ensures
