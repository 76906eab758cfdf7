use Rattle.std.specs.Ordering.{nat_cmp, ordering_then}
use Rattle.std.specs.declared.cmp.Ordering.{Ordering}
use Rattle.std.specs.Cmp.Lexicographic.{slice_cmp}
use Rattle.osgi_version.specs.declared.version.Version.{Version}

-- Versions are compared by major, minor and micro, and then by the bytes of the qualifier (OSGi Core, "Version").
abbrev pub version_cmp : Version → Version → Ordering
version_cmp a b =
    ordering_then (ordering_then (ordering_then (nat_cmp a.major b.major) (nat_cmp a.minor b.minor)) (nat_cmp a.micro b.micro)) (slice_cmp nat_cmp a.qualifier b.qualifier)
