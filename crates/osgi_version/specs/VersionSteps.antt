-- How a version's text is read byte by byte. Clauses of private functions alone cite this.
use Rattle.std.specs.Prelude.{ℕ, ◌+◌, ◌-◌, ◌*◌, ◌==◌, ◌&&◌, Bool, true, false, nat_le, nat_lt, if◌then◌else◌, Option, Some, None, option_map, List, [], ◌∷◌, ◌++◌, length}
use Rattle.std.specs.Char.{is_ascii_digit}
use Rattle.osgi_version.specs.VersionText.{is_white, is_qualifier_byte}
use Rattle.osgi_version.specs.declared.version.Version.{Version}
use Rattle.osgi_version.specs.declared.reading.Stage.{Stage}
use Rattle.osgi_version.specs.declared.reading.Stage.TheVariants.{Before, InMajor, ToMinor, InMinor, ToMicro, InMicro, ToQualifier, InQualifier, After}

-- The stage, and the version that the text denotes so far.
pub record Progress : Type 0 where
  pub stage : Stage
  pub version : Version

abbrev pub at_stage : Stage → Version → Progress
at_stage s v = record { stage = s; version = v }

-- before the first byte
abbrev pub beginning : Progress
beginning = at_stage Before (record { major = 0; minor = 0; micro = 0; qualifier = [] })

-- the number with one more digit
abbrev pub with_digit : ℕ → ℕ → Option ℕ
with_digit n b = if is_ascii_digit b && nat_le (10 * n + (b - 48)) 2147483647 then Some (10 * n + (b - 48)) else None

-- the qualifier with one more byte
abbrev pub with_byte : List ℕ → ℕ → Option (List ℕ)
with_byte q b = if is_qualifier_byte b && nat_lt (length q) 80 then Some (q ++ b ∷ []) else None

abbrev pub major_step : Version → ℕ → Option Progress
major_step v b = option_map (λ n. at_stage InMajor (record v { major = n })) (with_digit v.major b)

abbrev pub minor_step : Version → ℕ → Option Progress
minor_step v b = option_map (λ n. at_stage InMinor (record v { minor = n })) (with_digit v.minor b)

abbrev pub micro_step : Version → ℕ → Option Progress
micro_step v b = option_map (λ n. at_stage InMicro (record v { micro = n })) (with_digit v.micro b)

abbrev pub qualifier_step : Version → List ℕ → ℕ → Option Progress
qualifier_step v bytes b = option_map (λ q. at_stage InQualifier (record v { qualifier = q })) (with_byte bytes b)

-- white space, a dot, or what else may follow a number
abbrev pub number_step : Version → Stage → Option Progress → ℕ → Option Progress
number_step v dotted other b =
    if is_white b then Some (at_stage After v) else (if b == 46 then Some (at_stage dotted v) else other)

-- the progress after one more byte
abbrev pub step_from : Stage → Version → ℕ → Option Progress
step_from Before v b = if is_white b then Some (at_stage Before v) else major_step v b
step_from InMajor v b = number_step v ToMinor (major_step v b) b
step_from ToMinor v b = minor_step v b
step_from InMinor v b = number_step v ToMicro (minor_step v b) b
step_from ToMicro v b = micro_step v b
step_from InMicro v b = number_step v ToQualifier (micro_step v b) b
step_from ToQualifier v b = qualifier_step v [] b
step_from InQualifier v b = if is_white b then Some (at_stage After v) else qualifier_step v v.qualifier b
step_from After v b = if is_white b then Some (at_stage After v) else None

abbrev pub step : Progress → ℕ → Option Progress
step p b = step_from p.stage p.version b

-- the text may end here
abbrev pub is_whole : Stage → Bool
is_whole ToMinor = false
is_whole ToMicro = false
is_whole ToQualifier = false
is_whole _ = true
