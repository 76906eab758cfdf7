use Rattle.std.proofs.Common.{◌≡◌, Some, take}
use Rattle.osgi_version.specs.VersionSteps.{beginning}
use Rattle.osgi_version.specs.VersionReading.{progress_in, IsReadingAt}
use Rattle.osgi_version.proofs.VersionRuns.{run}
use Rattle.osgi_version.proofs.reading.read_front.Given as goal

-- the front is read
abbrev pub invariant-loop-at : goal.invariant-loop-at
invariant-loop-at l =
    (run (take l.at l.text) beginning ≡ Some (progress_in l.text l.reading)) × IsReadingAt l.at l.reading
