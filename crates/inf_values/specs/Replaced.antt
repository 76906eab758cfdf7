-- The variables in values.
use Rattle.std.specs.Prelude.{ℕ, zero, suc, nat_eq, List, [], ◌∷◌, ◌++◌, Option, Some, option_map, option_and_then, codes, if◌then◌else◌}
use Rattle.std.specs.List.{starts_with}
use Rattle.osgi_version.specs.VersionText.{version_text}
use Rattle.unit_model.specs.declared.name.UnitName.{UnitName}

-- what a variable stands for, with what is read behind it
abbrev pub with_front : List ℕ → Option (List ℕ) → Option (List ℕ)
with_front front behind = option_map (λ rest. front ++ rest) behind

-- The value with what its variables stand for, where the first `taken` bytes belong to a variable before: for
-- `$version$` the canonical text of the host's version, and for `$qualifier$` its qualifier. It is read once, from
-- the left. Nothing where it has a variable and there is no host.
unfoldable pub replaced_from : Option UnitName → ℕ → List ℕ → Option (List ℕ)
replaced_from host taken [] = Some []
replaced_from host (suc taken) (b ∷ text) = replaced_from host taken text
replaced_from host zero (b ∷ text) =
    if starts_with nat_eq (b ∷ text) (codes "$version$") then
    option_and_then (λ h. with_front (version_text h.version) (replaced_from host 8 text)) host
    else (if starts_with nat_eq (b ∷ text) (codes "$qualifier$") then
    option_and_then (λ h. with_front h.version.qualifier (replaced_from host 10 text)) host
    else with_front (b ∷ []) (replaced_from host 0 text))

abbrev pub replaced : Option UnitName → List ℕ → Option (List ℕ)
replaced host text = replaced_from host 0 text
