use Rattle.std.specs.Prelude.{List, ℕ, ⊤}
use Rattle.std.specs.Str.{IsUtf8, IsValidUpTo}
use Rattle.osgi_version.specs.declared.text.TextFault.{TextFault}
use Rattle.osgi_version.specs.declared.text.TextFault.TheVariants.{NotUtf8, NoMemory}

-- Bytes that aren't UTF-8, whose longest front that is UTF-8 has `at` bytes. Want of memory has no cause.
abbrev pub IsTextFault : List ℕ → TextFault → Type 0
IsTextFault bytes (NotUtf8 at) = ¬ (IsUtf8 bytes) × IsValidUpTo bytes at
IsTextFault bytes NoMemory = ⊤
