-- A word names one unit of a source at most.
use Rattle.std.proofs.Common.{◌≡◌, ◌≢◌, ℕ, List, [], ◌∷◌, ◌++◌, Contains, Option, Some, None, MatchOption, refl, sym, ap, ◌∙◌, subst}
use Rattle.std.specs.Ordering.{ordering_reverse}
use Rattle.std.specs.declared.cmp.Ordering.{Ordering}
use Rattle.std.specs.declared.cmp.Ordering.TheVariants.{Less, Equal, Greater}
use Rattle.osgi_version.specs.VersionOrder.{version_cmp}
use Rattle.osgi_version.specs.VersionText.{DenotesVersion}
use Rattle.osgi_version.specs.declared.version.Version.{Version}
use Rattle.osgi_version.proofs.VersionOrderLaws.{version_cmp-total, version_cmp-equal}
use Rattle.osgi_version.proofs.VersionPlaces.{DenotesVersion-unique}
use Rattle.unit_model.specs.declared.unit.Unit.{Unit}
use Rattle.director_words.specs.declared.root.Root.{Root}
use Rattle.director_words.specs.Root.{DenotesRoot}
use Rattle.director_words.proofs.Cuts.{cut_same, no_separator_within, no_slash_in_id}
use Rattle.director_core.specs.Found.{IsGreatest, IsOfRoot, Finds}
use Rattle.director_source.proofs.Apart.{AreApart}

-- ---- roots

roots_as : (word : List ℕ) (r s : Root) (x y : Option Version) → r.version ≡ x → s.version ≡ y → DenotesRoot word r → DenotesRoot word s
    → MatchOption x (word ≡ r.id) (λ v. (text : List ℕ) × (text ≢ []) × (word ≡ r.id ++ 47 ∷ text) × DenotesVersion text v)
    → MatchOption y (word ≡ s.id) (λ v. (text : List ℕ) × (text ≢ []) × (word ≡ s.id ++ 47 ∷ text) × DenotesVersion text v) → r ≡ s
roots_as word r s None None e f d c a b =
    let ids = sym a ∙ b in let versions = e ∙ sym f in λ i. record { id = ids i; version = versions i }
roots_as word r s None (Some w) e f d c a b = absurd (no_separator_within 47 r.id s.id b.0 (no_slash_in_id r.id d.0) (sym a ∙ b.2))
roots_as word r s (Some v) None e f d c a b = absurd (no_separator_within 47 s.id r.id a.0 (no_slash_in_id s.id c.0) (sym b ∙ a.2))
roots_as word r s (Some v) (Some w) e f d c a b =
    let same = cut_same 47 r.id s.id a.0 b.0 (no_slash_in_id r.id d.0) (no_slash_in_id s.id c.0) (sym a.2 ∙ b.2) in
    let Denotes : List ℕ → Type 0 = λ text. DenotesVersion text v in
    let one : v ≡ w = DenotesVersion-unique b.0 v w (subst Denotes same.1 a.3) b.3 in
    let ids = same.0 in
    let versions = e ∙ (ap Some one ∙ sym f) in
    λ i. record { id = ids i; version = versions i }

-- a word denotes one root at most
pub root_once : (word : List ℕ) (r s : Root) → DenotesRoot word r → DenotesRoot word s → r ≡ s
root_once word r s d c = roots_as word r s r.version s.version refl refl d c d.1 c.1

-- ---- what is found

cmp_cases : (o : Ordering) → (o ≡ Greater → ⊥) → (ordering_reverse o ≡ Greater → ⊥) → o ≡ Equal
cmp_cases Less f g = absurd (g refl)
cmp_cases Equal f g = refl
cmp_cases Greater f g = absurd (f refl)

versions_same : (a b : Version) → (version_cmp a b ≡ Greater → ⊥) → (version_cmp b a ≡ Greater → ⊥) → a ≡ b
versions_same a b f g = version_cmp-equal a b (cmp_cases (version_cmp a b) f (λ e. g (version_cmp-total.antisymm b a ∙ e)))

names_as : (units : List Unit) (u v : Unit) → u.name.id ≡ v.name.id → Contains units u → Contains units v → (x : Option Version)
    → MatchOption x (IsGreatest units u) (λ version. version ≡ u.name.version) → MatchOption x (IsGreatest units v) (λ version. version ≡ v.name.version) → u.name ≡ v.name
names_as units u v ids in_u in_v None a b =
    let versions = versions_same u.name.version v.name.version (λ e. b.greatest u in_u ids a.applies e) (λ e. a.greatest v in_v (sym ids) b.applies e) in
    λ i. record { id = ids i; version = versions i }
names_as units u v ids in_u in_v (Some version) a b =
    let versions = sym a ∙ b in λ i. record { id = ids i; version = versions i }

of_root_once : (units : List Unit) (root : Root) (u v : Unit) → AreApart units → IsOfRoot root units u → IsOfRoot root units v → u ≡ v
of_root_once units root u v apart a b =
    apart u v a.there b.there (names_as units u v (sym a.id ∙ b.id) a.there b.there root.version a.version b.version)

pub found_once : (units : List Unit) (word : List ℕ) (u v : Unit) → AreApart units → Finds word units u → Finds word units v → u ≡ v
found_once units word u v apart a b =
    let P : Root → Type 0 = λ root. IsOfRoot root units v in
    of_root_once units a.0 u v apart a.2 (subst P (root_once word b.0 a.0 b.1 a.1) b.2)
