-- What a call has that fills the slots of its kind.
use Rattle.std.proofs.Common.{◌≡◌, ℕ, ◌≤◌, true, false, List, [], ◌∷◌, ◌++◌, length, inl, inr, refl, sym, ◌∙◌, ap, subst, arith, append_assoc}
use Rattle.std.specs.List.{Contains, flat_map}
use Rattle.instr_parser.specs.declared.call.Base.{Base}
use Rattle.instr_parser.specs.declared.call.Base.TheVariants.{Install, Artifact}
use Rattle.instr_parser.specs.declared.call.Call.{Call}
use Rattle.instr_parser.specs.declared.call.Param.{Param}
use Rattle.instr_parser.specs.declared.call.Value.{Value}
use Rattle.instr_parser.specs.declared.call.Value.TheVariants.{Place, Names, Plain, Flag, Mode}
use Rattle.instr_parser.specs.Given.{Form, APlace, ASource, SomeNames, AText, AMode, HasForm, Slot, needed, Fill, IsPlace, IsSource, IsPlain, AreNames, IsMode}
use Rattle.action_core.specs.Places.{Site, base_path, value_in, value_of, place_or_root, names_or_none, mode_or_zero, text_or_none, place_at, names_at, mode_at, text_at, first_place, place_list, places_of}

abbrev pub param : ℕ → Value → Param
param code value = record { code = code; value = value }

same_param : (p : Param) (code : ℕ) (value : Value) → p.code ≡ code → p.value ≡ value → p ≡ param code value
same_param p code value is holds = λ i. record { code = is i; value = holds i }

pub place_names : (value : Value) → IsPlace value → (names : List (List ℕ)) × (value ≡ Place Install names) × (length names ≤ 60)
place_names (Place Install names) is = (names, refl, is)
place_names (Place Artifact names) is = absurd is
place_names (Names names) is = absurd is
place_names (Plain text) is = absurd is
place_names (Flag flag) is = absurd is
place_names (Mode mode) is = absurd is

pub names_value : (value : Value) → AreNames value → (names : List (List ℕ)) × (value ≡ Names names)
names_value (Place base names) is = absurd is
names_value (Names names) is = (names, refl)
names_value (Plain text) is = absurd is
names_value (Flag flag) is = absurd is
names_value (Mode mode) is = absurd is

pub text_value : (value : Value) → IsPlain value → (text : List ℕ) × (value ≡ Plain text) × (length text ≤ 4096)
text_value (Place base names) is = absurd is
text_value (Names names) is = absurd is
text_value (Plain text) is = (text, refl, is)
text_value (Flag flag) is = absurd is
text_value (Mode mode) is = absurd is

pub mode_value : (value : Value) → IsMode value → (mode : ℕ) × (value ≡ Mode mode) × (mode ≤ 511)
mode_value (Place base names) is = absurd is
mode_value (Names names) is = absurd is
mode_value (Plain text) is = absurd is
mode_value (Flag flag) is = absurd is
mode_value (Mode mode) is = (mode, refl, is)

no_truth : {P : Type 0} → (false ≡ true) → P
no_truth false_true = absurd (let never : ⊥ = cc in never)

no_param : (params : List Param) → Fill [] params → params ≡ []
no_param [] fills = refl
no_param (p ∷ params) fills = absurd fills

-- the first of the parameters, where it is needed
first_param : (code : ℕ) (form : Form) (slots : List Slot) (params : List Param) → Fill (needed code form ∷ slots) params
    → (p : Param) × (rest : List Param) × (params ≡ p ∷ rest) × (p.code ≡ code) × HasForm form p.value × Fill slots rest
first_param code form slots [] fills = no_truth fills.0
first_param code form slots (p ∷ params) (inl fills) = (p, params, refl, fills.0, fills.1, fills.2)
first_param code form slots (p ∷ params) (inr fills) = no_truth fills.0

-- Its one place is in the folder of the profile.
pub record OnePlace (site : Site) (call : Call) : Type 0 where
  pub names : List (List ℕ)
  pub is : place_at site call 0 ≡ site.install ++ names
  pub has : Contains (places_of site call) (place_at site call 0)

pub one_place : (site : Site) (call : Call) → Fill (needed 0 APlace ∷ []) call.params → OnePlace site call
unfolding value_of
one_place site call fills =
    let one = first_param 0 APlace [] call.params fills in
    let names = place_names one.0.value one.4 in
    let all : call.params ≡ param 0 (Place Install names.0) ∷ [] =
    one.2 ∙ ap (λ (l : List Param). one.0 ∷ l) (no_param one.1 one.5) ∙ ap (λ (p : Param). p ∷ []) (same_param one.0 0 (Place Install names.0) one.3 names.1) in
    let is : place_at site call 0 ≡ site.install ++ names.0 = ap (λ (l : List Param). place_or_root site (value_in l 0)) all in
    let places : places_of site call ≡ (site.install ++ names.0) ∷ [] =
    ap (λ (l : List Param). flat_map (λ (p : Param). place_list site (first_place site l) p.value) l) all in
    record {
      names = names.0;
      is = is;
      has = subst (λ (l : List (List (List ℕ))). Contains l (place_at site call 0)) (sym places) (0, omega arith, sym is);
    }

-- The names behind its first place lead to a place in the folder of the profile.
pub record FilePlace (site : Site) (call : Call) : Type 0 where
  pub names : List (List ℕ)
  pub is : place_at site call 4 ++ names_at call 5 ≡ site.install ++ names
  pub has : Contains (places_of site call) (place_at site call 4 ++ names_at call 5)
  pub mode : mode_at call 6 ≤ 511

pub file_place : (site : Site) (call : Call) → Fill (needed 4 APlace ∷ needed 5 SomeNames ∷ needed 6 AMode ∷ []) call.params → FilePlace site call
unfolding value_of
file_place site call fills =
    let one = first_param 4 APlace (needed 5 SomeNames ∷ needed 6 AMode ∷ []) call.params fills in
    let two = first_param 5 SomeNames (needed 6 AMode ∷ []) one.1 one.5 in
    let three = first_param 6 AMode [] two.1 two.5 in
    let front = place_names one.0.value one.4 in
    let back = names_value two.0.value two.4 in
    let mode = mode_value three.0.value three.4 in
    let third : two.1 ≡ param 6 (Mode mode.0) ∷ [] =
    three.2 ∙ ap (λ (l : List Param). three.0 ∷ l) (no_param three.1 three.5) ∙ ap (λ (p : Param). p ∷ []) (same_param three.0 6 (Mode mode.0) three.3 mode.1) in
    let second : one.1 ≡ param 5 (Names back.0) ∷ param 6 (Mode mode.0) ∷ [] =
    two.2 ∙ ap (λ (l : List Param). two.0 ∷ l) third ∙ ap (λ (p : Param). p ∷ param 6 (Mode mode.0) ∷ []) (same_param two.0 5 (Names back.0) two.3 back.1) in
    let all : call.params ≡ param 4 (Place Install front.0) ∷ param 5 (Names back.0) ∷ param 6 (Mode mode.0) ∷ [] =
    one.2 ∙ ap (λ (l : List Param). one.0 ∷ l) second ∙ ap (λ (p : Param). p ∷ param 5 (Names back.0) ∷ param 6 (Mode mode.0) ∷ []) (same_param one.0 4 (Place Install front.0) one.3 front.1) in
    let at : place_at site call 4 ++ names_at call 5 ≡ (site.install ++ front.0) ++ back.0 = ap (λ (l : List Param). place_or_root site (value_in l 4) ++ names_or_none (value_in l 5)) all in
    let places : places_of site call ≡ (site.install ++ front.0) ∷ ((site.install ++ front.0) ++ back.0) ∷ [] =
    ap (λ (l : List Param). flat_map (λ (p : Param). place_list site (first_place site l) p.value) l) all in
    record {
      names = front.0 ++ back.0;
      is = at ∙ append_assoc site.install front.0 back.0;
      has = subst (λ (l : List (List (List ℕ))). Contains l (place_at site call 4 ++ names_at call 5)) (sym places) (1, omega arith, sym at);
      mode = subst (λ (n : ℕ). n ≤ 511) (sym (ap (λ (l : List Param). mode_or_zero (value_in l 6)) all)) mode.2;
    }

-- The same for a link.
pub record LinkPlace (site : Site) (call : Call) : Type 0 where
  pub names : List (List ℕ)
  pub is : place_at site call 4 ++ names_at call 8 ≡ site.install ++ names
  pub has : Contains (places_of site call) (place_at site call 4 ++ names_at call 8)
  pub target : length (text_at call 7) ≤ 4096

pub link_place : (site : Site) (call : Call) → Fill (needed 4 APlace ∷ needed 7 AText ∷ needed 8 SomeNames ∷ []) call.params → LinkPlace site call
unfolding value_of
link_place site call fills =
    let one = first_param 4 APlace (needed 7 AText ∷ needed 8 SomeNames ∷ []) call.params fills in
    let two = first_param 7 AText (needed 8 SomeNames ∷ []) one.1 one.5 in
    let three = first_param 8 SomeNames [] two.1 two.5 in
    let front = place_names one.0.value one.4 in
    let target = text_value two.0.value two.4 in
    let back = names_value three.0.value three.4 in
    let third : two.1 ≡ param 8 (Names back.0) ∷ [] =
    three.2 ∙ ap (λ (l : List Param). three.0 ∷ l) (no_param three.1 three.5) ∙ ap (λ (p : Param). p ∷ []) (same_param three.0 8 (Names back.0) three.3 back.1) in
    let second : one.1 ≡ param 7 (Plain target.0) ∷ param 8 (Names back.0) ∷ [] =
    two.2 ∙ ap (λ (l : List Param). two.0 ∷ l) third ∙ ap (λ (p : Param). p ∷ param 8 (Names back.0) ∷ []) (same_param two.0 7 (Plain target.0) two.3 target.1) in
    let all : call.params ≡ param 4 (Place Install front.0) ∷ param 7 (Plain target.0) ∷ param 8 (Names back.0) ∷ [] =
    one.2 ∙ ap (λ (l : List Param). one.0 ∷ l) second ∙ ap (λ (p : Param). p ∷ param 7 (Plain target.0) ∷ param 8 (Names back.0) ∷ []) (same_param one.0 4 (Place Install front.0) one.3 front.1) in
    let at : place_at site call 4 ++ names_at call 8 ≡ (site.install ++ front.0) ++ back.0 = ap (λ (l : List Param). place_or_root site (value_in l 4) ++ names_or_none (value_in l 8)) all in
    let places : places_of site call ≡ (site.install ++ front.0) ∷ ((site.install ++ front.0) ++ back.0) ∷ [] =
    ap (λ (l : List Param). flat_map (λ (p : Param). place_list site (first_place site l) p.value) l) all in
    record {
      names = front.0 ++ back.0;
      is = at ∙ append_assoc site.install front.0 back.0;
      has = subst (λ (l : List (List (List ℕ))). Contains l (place_at site call 4 ++ names_at call 8)) (sym places) (1, omega arith, sym at);
      target = subst (λ (n : ℕ). n ≤ 4096) (sym (ap (λ (l : List Param). length (text_or_none (value_in l 7))) all)) target.2;
    }

pub source_value : (value : Value) → IsSource value → (base : Base) × (names : List (List ℕ)) × (value ≡ Place base names)
source_value (Place base names) is = (base, names, refl)
source_value (Names names) is = absurd is
source_value (Plain text) is = absurd is
source_value (Flag flag) is = absurd is
source_value (Mode mode) is = absurd is

-- Its source, and its target in the folder of the profile.
pub record TwoPlaces (site : Site) (call : Call) : Type 0 where
  pub base : Base
  pub source : List (List ℕ)
  pub form : IsSource (Place base source)
  pub source_is : place_at site call 1 ≡ base_path site base ++ source
  pub has_source : Contains (places_of site call) (place_at site call 1)
  pub target : List (List ℕ)
  pub short : length target ≤ 60
  pub target_is : place_at site call 2 ≡ site.install ++ target
  pub has_target : Contains (places_of site call) (place_at site call 2)

pub two_places : (slots : List Slot) (site : Site) (call : Call) → Fill (needed 1 ASource ∷ needed 2 APlace ∷ slots) call.params → TwoPlaces site call
unfolding value_of
two_places slots site call fills =
    let one = first_param 1 ASource (needed 2 APlace ∷ slots) call.params fills in
    let two = first_param 2 APlace slots one.1 one.5 in
    let from = source_value one.0.value one.4 in
    let to = place_names two.0.value two.4 in
    let second : one.1 ≡ param 2 (Place Install to.0) ∷ two.1 =
    two.2 ∙ ap (λ (p : Param). p ∷ two.1) (same_param two.0 2 (Place Install to.0) two.3 to.1) in
    let all : call.params ≡ param 1 (Place from.0 from.1) ∷ param 2 (Place Install to.0) ∷ two.1 =
    one.2 ∙ ap (λ (l : List Param). one.0 ∷ l) second ∙ ap (λ (p : Param). p ∷ param 2 (Place Install to.0) ∷ two.1) (same_param one.0 1 (Place from.0 from.1) one.3 from.2) in
    let source : place_at site call 1 ≡ base_path site from.0 ++ from.1 = ap (λ (l : List Param). place_or_root site (value_in l 1)) all in
    let target : place_at site call 2 ≡ site.install ++ to.0 = ap (λ (l : List Param). place_or_root site (value_in l 2)) all in
    let more = flat_map (λ (p : Param). place_list site (base_path site from.0 ++ from.1) p.value) two.1 in
    let places : places_of site call ≡ (base_path site from.0 ++ from.1) ∷ (site.install ++ to.0) ∷ more =
    ap (λ (l : List Param). flat_map (λ (p : Param). place_list site (first_place site l) p.value) l) all in
    record {
      base = from.0;
      source = from.1;
      form = subst IsSource from.2 one.4;
      source_is = source;
      has_source = subst (λ (l : List (List (List ℕ))). Contains l (place_at site call 1)) (sym places) (0, omega arith, sym source);
      target = to.0;
      short = to.2;
      target_is = target;
      has_target = subst (λ (l : List (List (List ℕ))). Contains l (place_at site call 2)) (sym places) (1, omega arith, sym target);
    }
