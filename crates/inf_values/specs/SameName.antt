-- When the names of units are one.
use Rattle.std.specs.Prelude.{◌==◌, ◌&&◌, Bool}
use Rattle.std.specs.Str.{bytes_eq}
use Rattle.osgi_version.specs.declared.version.Version.{Version}
use Rattle.unit_model.specs.declared.name.UnitName.{UnitName}

abbrev pub same_version : Version → Version → Bool
same_version a b = (a.major == b.major) && ((a.minor == b.minor) && ((a.micro == b.micro) && bytes_eq a.qualifier b.qualifier))

abbrev pub same_name : UnitName → UnitName → Bool
same_name a b = bytes_eq a.id b.id && same_version a.version b.version
