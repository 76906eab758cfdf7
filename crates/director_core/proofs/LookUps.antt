-- What is found in a catalog for a root.
use Rattle.std.proofs.Common.{◌≡◌, ℕ, List, [], All, Contains, Option, Some, None, MatchOption, IfSome, refl, sym, ap, ◌∙◌, subst}
use Rattle.std.specs.Prelude.{slice_get}
use Rattle.std.specs.declared.cmp.Ordering.TheVariants.{Greater}
use Rattle.std.proofs.lemmas.List.Elements.{All-contains}
use Rattle.std.proofs.lemmas.Option.{slice_get_within, get_or_from_slice_get, same_Some}
use Rattle.osgi_version.specs.VersionOrder.{version_cmp}
use Rattle.osgi_version.specs.declared.version.Version.{Version}
use Rattle.unit_model.specs.declared.name.UnitName.{UnitName}
use Rattle.unit_model.specs.declared.unit.Unit.{Unit}
use Rattle.unit_catalog.specs.Greatest as catalog
use Rattle.inf_reader.specs.InForm.{IsUnitInForm}
use Rattle.director_words.specs.declared.root.Root.{Root}
use Rattle.director_words.specs.Root.{DenotesRoot}
use Rattle.director_core.specs.Found.{IsGreatest, IsOfRoot, Finds, FindsNone}
use Rattle.director_core.specs.LookUp.{IsNumberOfRoot, IsOfNoRoot, IsOfNumber}
use Rattle.director_core.proofs.Distinct.{root_once}

at_number : (units : List Unit) (n : ℕ) (u : Unit) → slice_get units n ≡ Some u → Contains units u
at_number units n u here = (n, slice_get_within units n u here, get_or_from_slice_get units n u u here)

-- a version that is greater makes the name greater
not_greater : (a b : UnitName) → catalog.IsUpTo a b → version_cmp a.version b.version ≡ Greater → ⊥
not_greater a b low above = cc

-- ---- what is found

found_is : (root : Root) (units : List Unit) (unit : Unit) (version : Option Version) (n : ℕ) → root.version ≡ version → IsNumberOfRoot root.id version units (Some n) → slice_get units n ≡ Some unit → IsOfRoot root units unit
found_is root units unit None n e f here =
    let same : f.unit ≡ unit = same_Some f.unit unit (sym f.here ∙ here) in
    let P : Option Version → Type 0 = λ x. MatchOption x (IsGreatest units unit) (λ v. v ≡ unit.name.version) in
    let wanted : catalog.IsOfId root.id [] unit = subst (catalog.IsOfId root.id []) same f.wanted in
    record {
      there = at_number units n unit here;
      id = sym wanted.same;
      version = subst P (sym e) (record {
        applies = wanted.applies;
        greatest = λ other has ids applies.
            let low : catalog.IsUpTo other.name f.unit.name = All-contains (λ (v : Unit). catalog.IsOfId root.id [] v → catalog.IsUpTo v.name f.unit.name) units other f.most has (record { same = ids ∙ wanted.same; applies = applies }) in
            not_greater other.name unit.name (subst (λ (v : Unit). catalog.IsUpTo other.name v.name) same low);
      });
    }
found_is root units unit (Some version) n e f here =
    let same : f.unit ≡ unit = same_Some f.unit unit (sym f.here ∙ here) in
    let named : unit.name ≡ record { id = root.id; version = version } = subst (λ (v : Unit). v.name ≡ record { id = root.id; version = version }) same f.has in
    let P : Option Version → Type 0 = λ x. MatchOption x (IsGreatest units unit) (λ v. v ≡ unit.name.version) in
    record {
      there = at_number units n unit here;
      id = sym (ap (λ (name : UnitName). name.id) named);
      version = subst P (sym e) (sym (ap (λ (name : UnitName). name.version) named));
    }

none_is : (root : Root) (units : List Unit) (version : Option Version) → root.version ≡ version → IsNumberOfRoot root.id version units None → (unit : Unit) → IsOfRoot root units unit → ⊥
none_is root units None e f unit is =
    let P : Option Version → Type 0 = λ x. MatchOption x (IsGreatest units unit) (λ v. v ≡ unit.name.version) in
    let greatest = subst P e is.version in
    All-contains (λ (u : Unit). catalog.IsOfId root.id [] u → ⊥) units unit f is.there (record { same = sym is.id; applies = greatest.applies })
none_is root units (Some version) e f unit is =
    let P : Option Version → Type 0 = λ x. MatchOption x (IsGreatest units unit) (λ v. v ≡ unit.name.version) in
    let ids = sym is.id in
    let versions = sym (subst P e is.version) in
    All-contains (λ (u : Unit). u.name ≡ record { id = root.id; version = version } → ⊥) units unit f is.there (λ i. record { id = ids i; version = versions i })

pub finds : (word : List ℕ) (root : Root) (units : List Unit) (unit : Unit) → DenotesRoot word root → IsOfNumber root units unit → Finds word units unit
finds word root units unit denotes of = (root, denotes, found_is root units unit root.version of.number refl of.found of.here)

pub found_in_form : (root : Root) (units : List Unit) (unit : Unit) → All IsUnitInForm units → IsOfNumber root units unit → IsUnitInForm unit
found_in_form root units unit all of = All-contains IsUnitInForm units unit all (at_number units of.number unit of.here)

pub finds_none : (word : List ℕ) (root : Root) (units : List Unit) → DenotesRoot word root → IsOfNoRoot root units → FindsNone word units
finds_none word root units denotes none unit other =
    let P : Root → Type 0 = λ r. IsOfRoot r units unit in
    none_is root units root.version refl none unit (subst P (root_once word other.0 root other.1 denotes) other.2)

-- what was read of the word's bytes
pub denoted : (word bytes : List ℕ) (read : Option Root) (root : Root) → bytes ≡ word → read ≡ Some root → IfSome read (DenotesRoot bytes) → DenotesRoot word root
denoted word bytes read root same is h =
    let P : List ℕ → Type 0 = λ b. DenotesRoot b root in
    let Q : Option Root → Type 0 = λ r. IfSome r (DenotesRoot bytes) in
    subst P same (subst Q is h)
