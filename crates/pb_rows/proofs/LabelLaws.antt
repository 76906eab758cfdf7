-- How the text of any version is written.
use Rattle.std.proofs.Common.{◌≡◌, ℕ, ◌==◌, true, false, List, [], ◌∷◌, ◌++◌, length, refl, arith, append_assoc}
use Rattle.std.specs.Fmt.{decimal}
use Rattle.std.proofs.lemmas.Bool.Decides.{nat_tests}
use Rattle.std.proofs.lemmas.List.{append-nil}
use Rattle.osgi_version.specs.VersionText.{qualifier_text, version_text}
use Rattle.osgi_version.specs.declared.version.Version.{Version}

-- the numbers with their dots
abbrev pub numbers_text : Version → List ℕ
numbers_text v = decimal v.major ++ 46 ∷ (decimal v.minor ++ 46 ∷ decimal v.micro)

empty_text : (q : List ℕ) → (length q == 0) ≡ true → qualifier_text q ≡ []
empty_text [] e = refl
empty_text (x ∷ q) e = absurd (grind (arith, nat_tests))

dotted_text : (q : List ℕ) → (length q == 0) ≡ false → qualifier_text q ≡ 46 ∷ q
dotted_text [] e = absurd (grind (arith, nat_tests))
dotted_text (x ∷ q) e = refl

pub version_text-empty : (v : Version) → (length v.qualifier == 0) ≡ true → numbers_text v ≡ version_text v
version_text-empty v e = rw (empty_text v.qualifier e) (simp append-nil)

pub version_text-qualified : (v : Version) → (length v.qualifier == 0) ≡ false → numbers_text v ++ 46 ∷ v.qualifier ≡ version_text v
version_text-qualified v e = rw (dotted_text v.qualifier e) (simp append_assoc)
