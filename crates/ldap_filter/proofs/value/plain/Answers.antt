use Rattle.std.proofs.Common.{◌≡◌, ℕ, ◌≤◌, Bool, List, ◌++◌, length, drop, sym, ap, ◌∙◌, append-nil}
use Rattle.std.proofs.lemmas.List.{drop_all}
use Rattle.ldap_filter.specs.FilterValue.{plain_from, plain}
use Rattle.ldap_filter.proofs.FilterValues.{plain_utf8}
use Rattle.ldap_filter.proofs.value.plain.Goals as goal

whole_plain : (written bytes : List ℕ) (e : Bool) (at : ℕ) → length written ≤ at → bytes ++ plain_from e (drop at written) ≡ plain written → bytes ≡ plain written
whole_plain written bytes e at all so_far =
    sym (append-nil bytes) ∙ (ap (λ r. bytes ++ plain_from e r) (sym (drop_all at written all)) ∙ so_far)

pub text_of-requires : goal.text_of-requires
text_of-requires c =
    plain_utf8 c.args.written.now c.as_slice.result.now c.requires.utf8 c.requires.whole
    (c.as_slice.ensures.value ∙ whole_plain c.args.written.now c.loop-byte.bytes.items c.loop-byte.escaped c.loop-byte.byte-index c.loop-byte-test.false c.loop-byte.invariant)
