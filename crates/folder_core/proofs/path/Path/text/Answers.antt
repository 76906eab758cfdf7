use Rattle.std.proofs.Common.{List, ℕ, ◌++◌, lit<, ◌∙◌, ap}
use Rattle.std.specs.String.{string_bytes}
use Rattle.std.proofs.lemmas.Str.{encode_ascii}
use Rattle.folder_core.proofs.Paths.{text_first, text_next}
use Rattle.folder_core.proofs.path.Path.text.Goals as goal
use Rattle.folder_core.proofs.path.Path.text.Goals.{then-place-gt0+in_ok-push, else-place-gt0}

pub loop-place-preserved : goal.loop-place-preserved
loop-place-preserved c =
    let names = c.items-name-items.result.now in
    let place = c.loop-place.place in
    let name = c.name-item.result in
    let now = c.in_ok-push_str.ensures.bytes ∙ ap (λ (l : List ℕ). string_bytes c.if-place-gt0.text ++ l) (c.as_str.ensures ∙ c.text.ensures.value) in
    elim c.if-place-gt0.branch [
      | then-place-gt0+in_ok-push w ↦ text_next names place name _ _ _ c.loop-place-test.true c.name-item.is w.if-place-gt0.true c.loop-place.invariant (ap string_bytes w.text-is ∙ w.in_ok-push.ensures.bytes ∙ ap (λ (l : List ℕ). string_bytes c.loop-place.text ++ l) (encode_ascii 47 (lit< tt))) now
      | else-place-gt0 w ↦ text_first names place name _ _ c.loop-place-test.true c.name-item.is w.if-place-gt0.false c.loop-place.invariant (now ∙ ap (λ (l : List ℕ). l ++ name) (ap string_bytes w.text-is))
    ]
