-- What a reading of a version's text stands for. Clauses of private functions alone cite this.
use Rattle.std.specs.Prelude.{◌≡◌, ℕ, ◌≤◌, List, slice_range}
use Rattle.osgi_version.specs.VersionText.{version}
use Rattle.osgi_version.specs.VersionSteps.{Progress, at_stage}
use Rattle.osgi_version.specs.declared.version.Version.{Version}
use Rattle.osgi_version.specs.declared.reading.Reading.{Reading}
use Rattle.osgi_version.specs.declared.reading.Stage.TheVariants.{InQualifier}

abbrev pub version_in : List ℕ → Reading → Version
version_in text r = version r.major r.minor r.micro (slice_range text r.start r.end)

abbrev pub progress_in : List ℕ → Reading → Progress
progress_in text r = at_stage r.stage (version_in text r)

-- The qualifier ends before the place, or at it while it may go on.
pub record IsReadingAt (at : ℕ) (r : Reading) : Type 0 where
  pub ordered : r.start ≤ r.end
  pub within : r.end ≤ at
  pub goes_on : r.stage ≡ InQualifier → r.end ≡ at
