-- Canonical texts denote what they are the texts of, so each value has one of its own.
use Rattle.std.proofs.Common.{◌≡◌, ℕ, true, List, [], ◌∷◌, Option, Some, None, MatchOption, refl, append_assoc, append-nil, Ok, decimal}
use Rattle.std.proofs.lemmas.List.Elements.{All-nil}
use Rattle.osgi_version.specs.VersionText.{digits_value, Micro, Qualified, version, version_text, DenotesVersion, IsVersion}
use Rattle.osgi_version.specs.RangeText.{IsFloorText, IsInterval, DenotesRange, IsRange, range_text, text_up_to}
use Rattle.osgi_version.specs.declared.version.Version.{Version}
use Rattle.osgi_version.specs.declared.range.Ceiling.{Ceiling}
use Rattle.osgi_version.specs.declared.range.Range.{Range}
use Rattle.ldap_filter.specs.FilterText.{IsFilter, DenotesFilter, filter_text}
use Rattle.ldap_filter.specs.declared.filter.Filter.{Filter}
use Rattle.ldap_filter.proofs.ReadsBack.{reads_back}
use Rattle.unit_lines.proofs.Numerals.{IsNumber-decimal, decimal_value}

-- a version's numbers with their digits' values in place of them
value-decimal : (a b c : ℕ) (q : List ℕ) → IsVersion (version a b c q) → version a b c q ≡ version (digits_value (decimal a)) (digits_value (decimal b)) (digits_value (decimal c)) q
value-decimal a b c q is =
    let first = decimal_value a is.major in
    let second = decimal_value b is.minor in
    let third = decimal_value c is.micro in
    cc

denotes : (a b c : ℕ) (q : List ℕ) → IsVersion (version a b c q) → DenotesVersion (version_text (version a b c q)) (version a b c q)
denotes a b c [] is = record {
  before = [];
  parts = Micro (decimal a) (decimal b) (decimal c);
  after = [];
  spelling = simp (append_assoc, append-nil);
  white_before = All-nil _;
  white_after = All-nil _;
  are_parts = (IsNumber-decimal a is.major, IsNumber-decimal b is.minor, IsNumber-decimal c is.micro);
  value = value-decimal a b c [] is;
}
denotes a b c (x ∷ q) is = record {
  before = [];
  parts = Qualified (decimal a) (decimal b) (decimal c) (x ∷ q);
  after = [];
  spelling = simp (append_assoc, append-nil);
  white_before = All-nil _;
  white_after = All-nil _;
  are_parts = (
    IsNumber-decimal a is.major,
    IsNumber-decimal b is.minor,
    IsNumber-decimal c is.micro,
    record { some = λ e. cc; each = is.qualifier; short = is.short },
  );
  value = value-decimal a b c (x ∷ q) is;
}

pub version_spelled : (v : Version) → IsVersion v → DenotesVersion (version_text v) v
version_spelled v is = denotes v.major v.minor v.micro v.qualifier is

range_denotes : (r : Range) (x : Option Ceiling) → IsVersion r.floor → MatchOption x (r.floor_included ≡ true) (λ c. IsVersion c.version)
    → MatchOption x (IsFloorText (text_up_to r x) r) (IsInterval (text_up_to r x) r)
range_denotes r None floor included = record { denotes = version_spelled r.floor floor; included = included }
range_denotes r (Some c) floor ceiling = record {
  before = [];
  floor = version_text r.floor;
  ceiling = version_text c.version;
  after = [];
  spelling = refl;
  white_before = All-nil _;
  white_after = All-nil _;
  floor_denotes = version_spelled r.floor floor;
  ceiling_denotes = version_spelled c.version ceiling;
}

pub range_spelled : (r : Range) → IsRange r → DenotesRange (range_text r) r
range_spelled r is = range_denotes r r.ceiling is.floor is.ceiling

pub filter_spelled : (f : Filter) → IsFilter f → DenotesFilter (filter_text f) f
filter_spelled f is = reads_back {E = ℕ} f (Ok (filter_text f)) (filter_text f) is refl refl
