use Rattle.std.specs.Prelude.{◌≡◌, ◌≢◌, ℕ, List, [], ◌∷◌, ◌++◌, MatchOption}
use Rattle.osgi_version.specs.VersionText.{DenotesVersion}
use Rattle.unit_model.specs.UnitId.{IsUnitId}
use Rattle.director_words.specs.declared.root.Root.{Root}

-- The word is the id alone, or the id, `/` and a text of the version.
abbrev pub DenotesRoot : List ℕ → Root → Type 0
DenotesRoot word root =
    IsUnitId root.id
    × MatchOption root.version (word ≡ root.id) (λ v. (text : List ℕ) × (text ≢ []) × (word ≡ root.id ++ 47 ∷ text) × DenotesVersion text v)

abbrev pub IsRootWord : List ℕ → Type 0
IsRootWord word = (root : Root) × DenotesRoot word root
