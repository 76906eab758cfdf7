use Rattle.std.proofs.Common.{◌≡◌, ◌++◌, ◌∷◌, ◌∙◌, sym, ap, append_assoc}
use Rattle.pb_rows.proofs.LabelLaws.{numbers_text, version_text-empty, version_text-qualified}
use Rattle.pb_rows.specs.Rows.{label}
use Rattle.pb_rows.proofs.label.label_of.Goals as goal

-- what is written where the qualifier is empty
numbers : (c : goal.After-drop-numbers) → c.as_str-then-is_empty.result.now ≡ label c.args.name.now
numbers c =
    let long = rw c.bytes.ensures.value at (sym c.if-is_empty.ensures) in
    let written = rw c.as_str.ensures at c.in_ok-numbers.ensures.ok in
    c.as_str-then-is_empty.ensures.value ∙ (written ∙ ap (λ t. c.args.name.now.id ++ 47 ∷ t) (version_text-empty c.args.name.now.version long))

-- what is written with a qualifier
qualified : (c : goal.After-drop-numbers-2) → c.as_str-3.result.now ≡ label c.args.name.now
qualified c =
    let long = rw c.bytes.ensures.value at (sym c.if-is_empty.ensures) in
    let whole = rw (c.in_ok-numbers.ensures.ok, c.as_str.ensures, c.as_str-2.ensures) at c.in_ok-text.ensures.ok in
    c.as_str-3.ensures.value ∙ (whole ∙ (append_assoc c.args.name.now.id (47 ∷ numbers_text c.args.name.now.version) (46 ∷ c.args.name.now.version.qualifier) ∙ ap (λ t. c.args.name.now.id ++ 47 ∷ t) (version_text-qualified c.args.name.now.version long)))

pub returns-then-is_empty : goal.returns-then-is_empty
returns-then-is_empty c = rw (numbers c) at c.from_str.ensures

pub returns : goal.returns
returns c = rw (qualified c) at c.from_str-2.ensures
