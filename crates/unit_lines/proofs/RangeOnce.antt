-- A canonical text is that of one version, and that of one range.
use Rattle.std.proofs.Common.{◌≡◌, ◌≢◌, ℕ, ◌==◌, Bool, true, false, List, [], ◌∷◌, ◌++◌, All, Option, Some, None, MatchOption, refl, sym, ap, ◌∙◌, subst, arith}
use Rattle.std.specs.List.{slice_split, join_with_byte, AllPass}
use Rattle.std.proofs.lemmas.Bool.Decides.{nat_tests}
use Rattle.std.proofs.lemmas.List.Elements.{All-head, All-weaker}
use Rattle.std.proofs.lemmas.List.Splits.{slice_split_at, join_with_byte-slice_split}
use Rattle.osgi_version.specs.VersionText.{DenotesVersion, IsVersion, version_text}
use Rattle.osgi_version.specs.RangeText.{opening, closing, IsRange, range_text, text_up_to}
use Rattle.osgi_version.specs.declared.version.Version.{Version}
use Rattle.osgi_version.specs.declared.range.Ceiling.{Ceiling}
use Rattle.osgi_version.specs.declared.range.Range.{Range}
use Rattle.osgi_version.proofs.VersionPlaces.{DenotesVersion-unique}
use Rattle.osgi_version.proofs.RangePlaces.{is_version_byte, version_bytes}
use Rattle.unit_lines.proofs.Spellings.{version_spelled}

pub nothing_before : (before rest : List ℕ) (b : ℕ) → before ++ b ∷ rest ≢ []
nothing_before [] rest b e = cc
nothing_before (x ∷ before) rest b e = cc

pub version_once : (v w : Version) → IsVersion v → IsVersion w → version_text v ≡ version_text w → v ≡ w
version_once v w fv fw e = DenotesVersion-unique (version_text w) v w (subst (λ t. DenotesVersion t v) e (version_spelled v fv)) (version_spelled w fw)

-- Texts without a byte, with this byte behind each, are cut in one way.
cut_once : (c : ℕ) (xs ys s t : List ℕ) → All (λ b. (b == c) ≡ false) xs → All (λ b. (b == c) ≡ false) ys → (c == c) ≡ true → xs ++ c ∷ s ≡ ys ++ c ∷ t → (xs ≡ ys) × (s ≡ t)
cut_once c xs ys s t nx ny test e =
    let cut : xs ∷ slice_split (λ b. b == c) s ≡ ys ∷ slice_split (λ b. b == c) t =
    sym (slice_split_at (λ b. b == c) xs c s nx test) ∙ (ap (slice_split (λ b. b == c)) e ∙ slice_split_at (λ b. b == c) ys c t ny test) in
    let rest : slice_split (λ b. b == c) s ≡ slice_split (λ b. b == c) t = cc in
    (cc, sym (join_with_byte-slice_split c s) ∙ (ap (join_with_byte c) rest ∙ join_with_byte-slice_split c t))

-- Lists with one more item at their ends.
last_once : (xs ys : List ℕ) (a b : ℕ) → xs ++ a ∷ [] ≡ ys ++ b ∷ [] → (xs ≡ ys) × (a ≡ b)
last_once [] [] a b e = (refl, cc)
last_once [] (y ∷ ys) a b e = let rest : [] ≡ ys ++ b ∷ [] = cc in absurd (nothing_before ys [] b (sym rest))
last_once (x ∷ xs) [] a b e = let rest : xs ++ a ∷ [] ≡ [] = cc in absurd (nothing_before xs [] a rest)
last_once (x ∷ xs) (y ∷ ys) a b e =
    let rest : xs ++ a ∷ [] ≡ ys ++ b ∷ [] = cc in
    let head : x ≡ y = cc in
    let more = last_once xs ys a b rest in
    let tail : xs ≡ ys = more.0 in
    (cc, more.1)

no_comma : (b : ℕ) → is_version_byte b ≡ true → (b == 44) ≡ false
no_comma b is = grind (arith, nat_tests)

without_comma : (v : Version) → IsVersion v → All (λ b. (b == 44) ≡ false) (version_text v)
without_comma v form = All-weaker (λ b. is_version_byte b ≡ true) (λ b. (b == 44) ≡ false) no_comma (version_text v) (version_bytes (version_text v) (v, version_spelled v form))

opening_other : (included : Bool) → is_version_byte (opening included) ≡ false
opening_other true = refl
opening_other false = refl

opening_one : (a b : Bool) → opening a ≡ opening b → a ≡ b
opening_one true true e = refl
opening_one true false e = absurd (omega (arith, e))
opening_one false true e = absurd (omega (arith, e))
opening_one false false e = refl

closing_one : (a b : Bool) → closing a ≡ closing b → a ≡ b
closing_one true true e = refl
closing_one true false e = absurd (omega (arith, e))
closing_one false true e = absurd (omega (arith, e))
closing_one false false e = refl

-- no version's text begins with a bracket
no_bracket : (v : Version) → IsVersion v → (included : Bool) (rest : List ℕ) → version_text v ≢ opening included ∷ rest
no_bracket v form included rest e =
    let bytes : AllPass is_version_byte (opening included ∷ rest) = subst (AllPass is_version_byte) e (version_bytes (version_text v) (v, version_spelled v form)) in
    let passes : is_version_byte (opening included) ≡ true = All-head (λ b. is_version_byte b ≡ true) (opening included) rest bytes in
    let fails = opening_other included in
    absurd (cc)

same_range : (r s : Range) → r.floor ≡ s.floor → r.floor_included ≡ s.floor_included → r.ceiling ≡ s.ceiling → r ≡ s
same_range r s floors included ceilings = λ i. record { floor = floors i; floor_included = included i; ceiling = ceilings i }

same_ceiling : (c d : Ceiling) → c.version ≡ d.version → c.included ≡ d.included → c ≡ d
same_ceiling c d versions included = λ i. record { version = versions i; included = included i }

once_up_to : (r s : Range) (x y : Option Ceiling) → r.ceiling ≡ x → s.ceiling ≡ y → IsVersion r.floor → IsVersion s.floor
    → MatchOption x (r.floor_included ≡ true) (λ c. IsVersion c.version) → MatchOption y (s.floor_included ≡ true) (λ c. IsVersion c.version)
    → text_up_to r x ≡ text_up_to s y → r ≡ s
once_up_to r s None None rx sy fr fs ir is e = same_range r s (version_once r.floor s.floor fr fs e) (ir ∙ sym is) (rx ∙ sym sy)
once_up_to r s None (Some d) rx sy fr fs ir is e = absurd (no_bracket r.floor fr s.floor_included _ e)
once_up_to r s (Some c) None rx sy fr fs ir is e = absurd (no_bracket s.floor fs r.floor_included _ (sym e))
once_up_to r s (Some c) (Some d) rx sy fr fs ir is e =
    let opens : opening r.floor_included ≡ opening s.floor_included = cc in
    let inner : version_text r.floor ++ 44 ∷ (version_text c.version ++ closing c.included ∷ []) ≡ version_text s.floor ++ 44 ∷ (version_text d.version ++ closing d.included ∷ []) = cc in
    let cut = cut_once 44 (version_text r.floor) (version_text s.floor) _ _ (without_comma r.floor fr) (without_comma s.floor fs) refl inner in
    let ends = last_once (version_text c.version) (version_text d.version) (closing c.included) (closing d.included) cut.1 in
    let ceilings = same_ceiling c d (version_once c.version d.version ir is ends.0) (closing_one c.included d.included ends.1) in
    same_range r s (version_once r.floor s.floor fr fs cut.0) (opening_one r.floor_included s.floor_included opens) (rx ∙ (ap Some ceilings ∙ sym sy))

pub range_once : (r s : Range) → IsRange r → IsRange s → range_text r ≡ range_text s → r ≡ s
range_once r s fr fs e = once_up_to r s r.ceiling s.ceiling refl refl fr.floor fs.floor fr.ceiling fs.ceiling e
