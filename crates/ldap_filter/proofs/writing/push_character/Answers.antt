use Rattle.std.proofs.Common.{◌≡◌, ◌++◌, ◌∷◌, [], encode_utf8, string_bytes, ap, sym, ◌∙◌, append_assoc, lit<}
use Rattle.std.proofs.lemmas.Str.{encode_ascii}
use Rattle.ldap_filter.proofs.TextLemmas.{escaped-special, escaped-plain}
use Rattle.ldap_filter.proofs.writing.push_character.Goals as goal

pub returns-then-not-is_escaped : goal.returns-then-not-is_escaped
returns-then-not-is_escaped c =
    rw (escaped-plain c.args.character (sym c.is_escaped.ensures ∙ c.if-not-is_escaped.true)) c.in_ok-push.ensures.bytes

pub returns : goal.returns
returns c =
    let old = string_bytes c.args.text.now in
    let marked : string_bytes c.push-2.new.self ≡ old ++ 92 ∷ [] = c.in_ok-push-2.ensures.bytes ∙ ap (λ bytes. old ++ bytes) (encode_ascii 92 (lit< tt)) in
    rw (escaped-special c.args.character (sym c.is_escaped.ensures ∙ c.if-not-is_escaped.false))
    (c.in_ok-push-3.ensures.bytes ∙ (ap (λ bytes. bytes ++ encode_utf8 c.args.character) marked ∙ append_assoc old (92 ∷ []) (encode_utf8 c.args.character)))
