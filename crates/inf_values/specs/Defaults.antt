-- What stands for ranges that are missing.
use Rattle.std.specs.Prelude.{true, false, [], Some, None}
use Rattle.osgi_version.specs.declared.version.Version.{Version}
use Rattle.osgi_version.specs.declared.range.Range.{Range}
use Rattle.osgi_version.specs.VersionText.{version}

-- `[0.0.0,version)`
abbrev pub below_version : Version → Range
below_version v = record { floor = version 0 0 0 []; floor_included = true; ceiling = Some (record { version = v; included = false }) }

-- `0.0.0`, for every version
abbrev pub any_version : Range
any_version = record { floor = version 0 0 0 []; floor_included = true; ceiling = None }
