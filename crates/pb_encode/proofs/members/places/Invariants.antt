use Rattle.std.proofs.Common.{◌≡◌, take, vec_len}
use Rattle.pb_encode.specs.Places.{HasPlaces}
use Rattle.pb_encode.proofs.members.places.Given as goal

-- the places of the numbers so far
abbrev pub invariant-loop-place : goal.invariant-loop-place
invariant-loop-place l = record { sized : vec_len l.places ≡ l.units; placed : HasPlaces (take l.place l.numbers) l.places.items }
