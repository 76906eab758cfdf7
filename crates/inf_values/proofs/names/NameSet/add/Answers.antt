use Rattle.std.proofs.Common.{ap, map, not, ◌∙◌, ◌||◌}
use Rattle.inf_values.specs.NameKeys.{name_in, is_among}
use Rattle.inf_values.specs.SameName.{same_name}
use Rattle.inf_values.proofs.NameLemmas.{found_name, inserted_name}
use Rattle.inf_values.proofs.names.NameSet.add.Goals as goal

pub returns : goal.returns
returns c =
    let key = c.in_ok-key.key in
    let keys = c.self.inside.keys.keys in
    record {
      err = tt;
      new = c.in_ok-new.ensures.added ∙ ap not (found_name key keys ∙ (λ i. is_among (c.self.view_is i) (c.in_ok-key.ensures i)));
      added = λ other.
          ap (λ ks. is_among (map name_in ks) other) c.in_ok-new.ensures.keys
          ∙ (inserted_name key keys other ∙ (λ i. is_among (c.self.view_is i) other || same_name (c.in_ok-key.ensures i) other));
    }
