use Rattle.std.proofs.Common.{◌≡◌, [], ◌∷◌, sym, ap, ◌∙◌, get_or, codes}
use Rattle.std.specs.Str.{IsUtf8}
use Rattle.osgi_version.specs.Field.{field}
use Rattle.deriv_check.specs.Reading.{seen}
use Rattle.deriv_check.proofs.ReadingLaws.{no_word, seen_two, one_word_read, same_bytes}
use Rattle.deriv_check.proofs.line_reader.read_label_words.Goals as goal

pub returns : goal.returns
returns c =
    let words = c.args.words.now in
    let mark : (get_or words 0 no_word).now ≡ codes "v" = same_bytes (get_or words 0 no_word).now c.as_slice.result.now (sym c.ne.ensures ∙ c.if-ne.false) ∙ c.as_slice.ensures in
    let whole = seen_two words c.if-words-ne2.false ∙ ap (λ w. w ∷ (get_or words 1 no_word).now ∷ []) mark in
    one_word_read IsUtf8 field (codes "v") (get_or words 1 no_word).now (seen words) c.read_field.result whole c.read_field.ensures
