use Rattle.std.proofs.Common.{◌≡◌, ◌∙◌, ◌∷◌, ◌++◌, ap, arith, string_bytes}
use Rattle.host_adapters.proofs.PlaceText.{place_text-drop_more, place_text-drop_all}
use Rattle.host_adapters.proofs.host_place.find.Goals as goal

pub loop-name-preserved : goal.loop-name-preserved
loop-name-preserved g c =
    let joined : string_bytes c.in_ok-text.text ≡ string_bytes c.loop-name.place.text ++ 47 ∷ c.name-item.result = c.in_ok-text.ensures ∙ ap (λ t. t ++ 47 ∷ c.name-item.result) c.as_str.ensures.value in
    place_text-drop_more c.args.root.now (string_bytes c.loop-name.place.text) (string_bytes c.in_ok-text.text) c.name-item.result c.args.names.now c.loop-name.name-index (omega arith) c.name-item.is joined c.loop-name.invariant

pub returns : goal.returns
returns g c =
    place_text-drop_all c.args.root.now (string_bytes c.loop-name.place.text) c.args.names.now c.loop-name.name-index c.loop-name-test.false c.loop-name.invariant
