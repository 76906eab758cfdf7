use Rattle.std.proofs.Common.{◌≡◌, [], ◌++◌, sym, subst, ap, ◌∙◌}
use Rattle.std.specs.Str.{IsAscii}
use Rattle.std.proofs.lemmas.Str.{IsAscii-append}
use Rattle.inf_keys.specs.KeyText.{owner_text, part_text}
use Rattle.inf_keys.proofs.write.write_key.Goals as goal

pub from_ascii-requires : goal.from_ascii-requires
from_ascii-requires c =
    let owner : c.push_owner.new.text.items ≡ owner_text c.args.key.now.owner [] =
    c.in_ok-push_owner.ensures.ok ∙ ap (λ t. t ++ owner_text c.args.key.now.owner []) c.new-text.ensures.items in
    let whole : c.as_slice.result.now ≡ owner_text c.args.key.now.owner [] ++ part_text c.args.key.now.part =
    c.as_slice.ensures.value ∙ c.in_ok-push_part.ensures.ok ∙ ap (λ t. t ++ part_text c.args.key.now.part) owner in
    subst IsAscii (sym whole) (IsAscii-append (owner_text c.args.key.now.owner []) (part_text c.args.key.now.part) c.push_owner.ensures.ascii c.push_part.ensures.ascii)
