use Rattle.std.proofs.Common.{◌≡◌, drop, option_map}
use Rattle.inf_keys.specs.KeyReading.{key_reading}
use Rattle.inf_reader.specs.Entries.{entries_of}
use Rattle.inf_reader.proofs.Steps.{with_front}
use Rattle.inf_reader.proofs.entries.entries_of.Given as goal

-- the entries so far, and those of the pairs that are left
abbrev pub invariant-loop-place : goal.invariant-loop-place
invariant-loop-place l =
    with_front l.entries.items (entries_of key_reading (option_map (λ h. h.now) l.host) (drop l.place l.pairs)) ≡ entries_of key_reading (option_map (λ h. h.now) l.host) l.pairs
