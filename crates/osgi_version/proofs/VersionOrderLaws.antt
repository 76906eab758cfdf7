-- The order of versions is total, and versions that compare alike are one.
use Rattle.std.proofs.Common.{◌≡◌, ℕ, ◌⊎◌, inl, inr, Bool, false, IsTrue, ◌↔◌, List, [], ◌∷◌, refl}
use Rattle.std.specs.Ordering.{nat_cmp, ordering_then, ordering_reverse}
use Rattle.std.specs.Cmp.{IsTotalOrder}
use Rattle.std.specs.Cmp.Lexicographic.{slice_cmp}
use Rattle.std.specs.declared.cmp.Ordering.{Ordering}
use Rattle.std.specs.declared.cmp.Ordering.TheVariants.{Less, Equal, Greater}
use Rattle.std.proofs.lemmas.Cmp.{nat_cmp_total, lists_total, then_total, on_total}
use Rattle.std.proofs.lemmas.Map.Lookups.{exact_unsigned}
use Rattle.osgi_version.specs.VersionOrder.{version_cmp}
use Rattle.osgi_version.specs.declared.version.Version.{Version}

pub version_cmp-total : IsTotalOrder version_cmp
version_cmp-total =
    then_total (then_total (then_total (on_total (λ (v : Version). v.major) nat_cmp_total) (on_total (λ (v : Version). v.minor) nat_cmp_total)) (on_total (λ (v : Version). v.micro) nat_cmp_total))
    (on_total (λ (v : Version). v.qualifier) (lists_total nat_cmp_total))

both_equal : (a b : Ordering) → ordering_then a b ≡ Equal → (a ≡ Equal) × (b ≡ Equal)
both_equal Less b e = absurd (cc)
both_equal Equal b e = (refl, e)
both_equal Greater b e = absurd (cc)

pub bytes_equal : (xs ys : List ℕ) → slice_cmp nat_cmp xs ys ≡ Equal → xs ≡ ys
bytes_equal [] [] e = refl
bytes_equal [] (y ∷ ys) e = absurd (cc)
bytes_equal (x ∷ xs) [] e = absurd (cc)
bytes_equal (x ∷ xs) (y ∷ ys) e =
    let both = both_equal (nat_cmp x y) (slice_cmp nat_cmp xs ys) e in
    let first : x ≡ y = exact_unsigned x y both.0 in
    let rest : xs ≡ ys = bytes_equal xs ys both.1 in
    cc

pub version_cmp-equal : (a b : Version) → version_cmp a b ≡ Equal → a ≡ b
version_cmp-equal a b e =
    let last = both_equal _ (slice_cmp nat_cmp a.qualifier b.qualifier) e in
    let third = both_equal _ (nat_cmp a.micro b.micro) last.0 in
    let second = both_equal (nat_cmp a.major b.major) (nat_cmp a.minor b.minor) third.0 in
    let major : a.major ≡ b.major = exact_unsigned _ _ second.0 in
    let minor : a.minor ≡ b.minor = exact_unsigned _ _ second.1 in
    let micro : a.micro ≡ b.micro = exact_unsigned _ _ third.1 in
    let qualifier : a.qualifier ≡ b.qualifier = bytes_equal _ _ last.1 in
    λ i. record { major = major i; minor = minor i; micro = micro i; qualifier = qualifier i }

its_reverse : (o : Ordering) → o ≡ ordering_reverse o → o ≡ Equal
its_reverse Less e = absurd (cc)
its_reverse Equal e = refl
its_reverse Greater e = absurd (cc)

pub version_cmp-same : (v : Version) → version_cmp v v ≡ Equal
version_cmp-same v = its_reverse (version_cmp v v) (version_cmp-total.antisymm v v)

-- the bound counts where it is the version and is included
pub equal_bound : (a b : Version) (included : Bool) → version_cmp a b ≡ Equal → IsTrue included ↔ ((version_cmp a b ≡ Less) ⊎ ((a ≡ b) × IsTrue included))
equal_bound a b included e = (λ yes. inr (version_cmp-equal a b e, yes), λ holds. elim holds [ inl less ↦ absurd (cc) | inr both ↦ both.1 ])

pub greater_bound : (a b : Version) (included : Bool) → version_cmp a b ≡ Greater → IsTrue false ↔ ((version_cmp a b ≡ Less) ⊎ ((a ≡ b) × IsTrue included))
greater_bound a b included e = (
  λ no. cc,
  λ holds. elim holds [
    | inl less ↦ absurd (cc)
    | inr both ↦ absurd (let same : a ≡ b = both.0 in let equal : version_cmp a b ≡ Equal = rw same (version_cmp-same b) in cc)
  ],
)
