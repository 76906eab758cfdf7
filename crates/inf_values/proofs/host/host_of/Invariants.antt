use Rattle.std.proofs.Common.{◌≡◌, take, drop}
use Rattle.inf_values.specs.Readings.{Readings, ReadsAll}
use Rattle.inf_values.specs.Host.{host_from, host_of}
use Rattle.inf_values.proofs.host.host_of.Given as goal

-- no host is found so far
abbrev pub invariant-loop-at : goal.invariant-loop-at
invariant-loop-at l = (read : Readings) → ReadsAll read → host_from read (take l.at l.folder) (drop l.at l.folder) ≡ host_of read l.folder
