-- What is read of a canonical text.
use Rattle.std.proofs.Common.{◌≡◌, ◌≢◌, ◌⊎◌, inl, inr, ℕ, Bool, true, false, List, Result, Ok, Err, IsTrue, refl, sym, ap, ◌∙◌}
use Rattle.std.specs.Prelude.{◌↔◌}
use Rattle.std.specs.Str.{bytes_eq}
use Rattle.std.proofs.lemmas.Bool.{false≢true}
use Rattle.std.proofs.lemmas.Slice.Eq.{bytes_eq-Decides}
use Rattle.osgi_version.specs.VersionText.{DenotesVersion, version_text}
use Rattle.osgi_version.specs.declared.version.Version.{Version}
use Rattle.osgi_version.specs.declared.version.VersionFault.{VersionFault}
use Rattle.osgi_version.specs.declared.version.VersionFault.TheVariants as fault
use Rattle.artifact_pool.specs.ArtifactPath.{IsCanonical}

module _ (text : List ℕ) (r : Result Version VersionFault) (only : (v : Version) → DenotesVersion text v → (r ≡ Ok v) ⊎ (r ≡ Err fault.NoMemory)) where
  -- A text that is refused is no version's.
  pub refused : (why : VersionFault) → r ≡ Err why → why ≢ fault.NoMemory → ¬ (IsCanonical text)
  refused why is other c = elim (only c.version c.denotes) [
    | inl ok ↦ absurd (cc)
    | inr err ↦ other (cc)
  ]

  -- Nor is one whose version has another text.
  pub other_text : (v : Version) → r ≡ Ok v → version_text v ≢ text → ¬ (IsCanonical text)
  other_text v is differs c = elim (only c.version c.denotes) [
    | inl ok ↦ let equal : v ≡ c.version = cc in differs (ap version_text equal ∙ c.spelled)
    | inr err ↦ absurd (cc)
  ]

  -- So the comparison of the texts tells.
  pub compared : (again : List ℕ) (b : Bool) (v : Version) → b ≡ bytes_eq again text → r ≡ Ok v → DenotesVersion text v → again ≡ version_text v → IsTrue b ↔ IsCanonical text
  compared again true v test is found spelled = (λ _. record { version = v; denotes = found; spelled = sym spelled ∙ (bytes_eq-Decides again text).0 (sym test) }, λ _. refl)
  compared again false v test is found spelled = (
    λ e. absurd (false≢true e),
    λ c. absurd (other_text v is (λ same. false≢true (test ∙ (bytes_eq-Decides again text).1 (spelled ∙ same))) c),
  )
