use Rattle.std.proofs.Common.{◌≡◌, ◌∙◌, map, codes, [], option_map, unwrap_or, ap, refl}
use Rattle.clap.proofs.WalkLemmas.{first_value-rows, raw_values-rows}
use Rattle.clap.specs.Words.{all_of, first_of, found_of, rows_of}
use Rattle.director_words.proofs.Taken.{values_or_none}
use Rattle.director_words.proofs.values.values_of.Goals as goal

pub returns : goal.returns
returns c =
    let found = found_of c.args.matches.now in
    let profile : c.in_ok-copied.field-0 ≡ first_of (codes "profile") (rows_of found) =
    c.in_ok-copied.ensures ∙ c.get_str.ensures ∙ first_value-rows found (codes "profile") in
    let budget : c.in_ok-copied-2.field-0 ≡ first_of (codes "budget") (rows_of found) =
    c.in_ok-copied-2.ensures ∙ c.get_str-2.ensures ∙ first_value-rows found (codes "budget") in
    let raw : option_map (λ s. map (λ v. v.now) s.now) c.get_strs.result ≡ all_of (codes "value") (rows_of found) =
    c.get_strs.ensures ∙ raw_values-rows found (codes "value") in
    let operands : c.in_ok-all_copied.field-0 ≡ unwrap_or (all_of (codes "value") (rows_of found)) [] =
    c.in_ok-all_copied.ensures ∙ values_or_none c.get_strs.result c.unwrap_or.result _ c.unwrap_or.ensures refl ∙ ap (λ o. unwrap_or o []) raw in
    cc
