-- The units of a source have distinct names.
use Rattle.std.proofs.Common.{◌≡◌, ⊎_elim, ℕ, ◌==◌, ◌||◌, nat_le, Bool, true, false, List, [], ◌∷◌, ◌++◌, length, Contains, Option, Some, None, Result, Ok, Err, IfOk, if◌then◌else◌, refl, sym, ap, ◌∙◌, subst, eq-eqb}
use Rattle.std.specs.Prelude.{⊤}
use Rattle.std.specs.List.{list_any}
use Rattle.std.specs.Str.{bytes_eq}
use Rattle.std.proofs.lemmas.List.Elements.{Contains-append_cases}
use Rattle.std.proofs.lemmas.Slice.Eq.{bytes_eq-Decides}
use Rattle.unit_model.specs.declared.name.UnitName.{UnitName}
use Rattle.unit_model.specs.declared.unit.Unit.{Unit}
use Rattle.folder_core.specs.Tree.{Files}
use Rattle.inf_reader.specs.Readings.{Readings}
use Rattle.inf_reader.specs.UnitsOf.{same_name, has_name}
use Rattle.director_words.specs.declared.status.Status.{Status}
use Rattle.director_words.specs.declared.limit.LimitName.TheVariants.{Units}
use Rattle.director_words.specs.declared.status.Status.TheVariants.{Limit}
use Rattle.director_source.specs.Source.{◌>>=◌, Gathered, counted, described, added, with_description, with_found, gathered, nothing_gathered, description_of, SourceGives}
use Rattle.director_source.proofs.Folders.{there_cases, none_there}

-- No two units have one name.
abbrev pub AreApart : List Unit → Type 0
AreApart units = (u v : Unit) → Contains units u → Contains units v → u.name ≡ v.name → u ≡ v

text_same : (a : List ℕ) → bytes_eq a a ≡ true
text_same a = (bytes_eq-Decides a a).1 refl

name_same : (name : UnitName) → same_name name name ≡ true
name_same name =
    let id = text_same name.id in
    let major : (name.version.major == name.version.major) ≡ true = eq-eqb _ _ refl in
    let minor : (name.version.minor == name.version.minor) ≡ true = eq-eqb _ _ refl in
    let micro : (name.version.micro == name.version.micro) ≡ true = eq-eqb _ _ refl in
    let qualifier = text_same name.version.qualifier in
    rw (id, major, minor, micro, qualifier) refl

either_true : (a b : Bool) → b ≡ true → (a || b) ≡ true
either_true true b e = refl
either_true false b e = e

any_there : (test : Unit → Bool) (units : List Unit) (u : Unit) → Contains units u → test u ≡ true → list_any test units ≡ true
any_there test [] u has e = absurd (none_there u has)
any_there test (v ∷ units) u has e =
    ⊎_elim (λ is. ap (λ b. b || list_any test units) (ap test is ∙ e)) (λ later. either_true (test v) _ (any_there test units u later e)) (there_cases v units u has)

pub named_there : (units : List Unit) (u : Unit) (name : UnitName) → Contains units u → u.name ≡ name → has_name units name ≡ true
named_there units u name has is = any_there (λ v. same_name v.name name) units u has (ap (λ n. same_name n name) is ∙ name_same name)

one_there : (u v : Unit) → Contains (u ∷ []) v → u ≡ v
one_there u v has = ⊎_elim (λ e. e) (λ later. absurd (none_there v later)) (there_cases u [] v has)

apart_more : (units : List Unit) (u : Unit) → AreApart units → has_name units u.name ≡ false → AreApart (units ++ u ∷ [])
apart_more units u apart new a b in_a in_b same =
    ⊎_elim
    (λ old_a. ⊎_elim
    (λ old_b. apart a b old_a old_b same)
    (λ new_b. let there = named_there units a u.name old_a (same ∙ ap (λ (x : Unit). x.name) (sym (one_there u b new_b))) in absurd (cc))
    (Contains-append_cases units (u ∷ []) b in_b))
    (λ new_a. ⊎_elim
    (λ old_b. let there = named_there units b u.name old_b (sym same ∙ ap (λ (x : Unit). x.name) (sym (one_there u a new_a))) in absurd (cc))
    (λ new_b. sym (one_there u a new_a) ∙ one_there u b new_b)
    (Contains-append_cases units (u ∷ []) b in_b))
    (Contains-append_cases units (u ∷ []) a in_a)

apart_none : AreApart []
apart_none u v in_u in_v same = absurd (none_there u in_u)

apart_added : (more units : List Unit) → AreApart units → IfOk (added units more) AreApart
unfolding added
apart_added [] units apart = apart
apart_added (u ∷ more) units apart = by (has_name units u.name) refl (nat_le 65536 (length units)) (apart_added more units apart) (λ new. apart_added more (units ++ u ∷ []) (apart_more units u apart new))
  where
    by : (there : Bool) → has_name units u.name ≡ there → (full : Bool) → IfOk (added units more) AreApart → (has_name units u.name ≡ false → IfOk (added (units ++ u ∷ []) more) AreApart)
        → IfOk (if there then added units more else (if full then Err (Limit Units 65536) else added (units ++ u ∷ []) more)) AreApart
    by true e full old new = old
    by false e true old new = tt
    by false e false old new = new e

abbrev GathersApart : Gathered → Type 0
GathersApart g = AreApart g.units

bind : {X Y : Type 0} (P : X → Type 0) (Q : Y → Type 0) (m : Result X Status) (f : X → Result Y Status) → IfOk m P → ((x : X) → P x → IfOk (f x) Q) → IfOk (m >>= f) Q
bind P Q (Ok x) f h k = k x h
bind P Q (Err s) f h k = tt

abbrev Any : {X : Type 0} → X → Type 0
Any x = ⊤

always : {X : Type 0} (m : Result X Status) → IfOk m Any
always (Ok x) = tt
always (Err s) = tt

apart_described : (read : Readings) (folder : List ℕ) (g : Gathered) (bytes : List ℕ) → GathersApart g → IfOk (with_description read folder g bytes) GathersApart
unfolding with_description
apart_described read folder g bytes apart =
    bind Any GathersApart (counted g.bytes bytes) _ (always _) (λ total any.
    bind Any GathersApart (described read folder bytes) _ (always _) (λ more any.
    bind AreApart GathersApart (added g.units more) _ (apart_added more g.units apart) (λ units apart. apart)))

apart_found : (read : Readings) (folder : List ℕ) (g : Gathered) (found : Option (List ℕ)) → GathersApart g → IfOk (with_found read folder g found) GathersApart
apart_found read folder g None apart = apart
apart_found read folder g (Some bytes) apart = apart_described read folder g bytes apart

apart_gathered : (read : Readings) (files : Files) (folders : List (List ℕ)) (g : Gathered) → GathersApart g → IfOk (gathered read files g folders) GathersApart
unfolding gathered
apart_gathered read files [] g apart = apart
apart_gathered read files (folder ∷ folders) g apart =
    bind GathersApart GathersApart (with_found read folder g (description_of files folder)) _ (apart_found read folder g (description_of files folder) apart) (λ now apart. apart_gathered read files folders now apart)

ok_is : (m : Result Gathered Status) (units : List Unit) → IfOk m GathersApart → (m >>= λ all. Ok all.units) ≡ Ok units → AreApart units
ok_is (Ok g) units apart e = let same : g.units ≡ units = cc in subst AreApart same apart
ok_is (Err s) units apart e = absurd (cc)

-- what a source gives has distinct names
pub given_apart : (files : Files) (units : List Unit) → SourceGives files (Ok units) → AreApart units
given_apart files units gives =
    ok_is (gathered gives.read files nothing_gathered gives.folders) units (apart_gathered gives.read files gives.folders nothing_gathered apart_none) gives.gives
