use Rattle.std.proofs.Common.{◌≡◌, drop, string_bytes}
use Rattle.host_adapters.specs.PlaceText.{place_text}
use Rattle.host_adapters.proofs.host_place.find.Given as goal

abbrev pub invariant-loop-name : goal.invariant-loop-name
invariant-loop-name g l = place_text (string_bytes l.place.text) (drop l.name-index l.names) ≡ place_text l.root l.names
