-- Reading a text that denotes a filter goes through to the end.
use Rattle.std.proofs.Common.{◌≡◌, ◌≢◌, ℕ, suc, ◌+◌, ◌<◌, ◌≤◌, ◌==◌, ◌||◌, nat_eq, nat_lt, Bool, true, false, cond, Option, Some, None, option_and_then, List, [], ◌∷◌, ◌++◌, length, map, refl, ap, sym, subst, ◌∙◌, arith, append_assoc, append-nil}
use Rattle.std.specs.List.{AllPass}
use Rattle.std.specs.Cmp.Lexicographic.{pointwise, same_text}
use Rattle.std.proofs.lemmas.Bool.Decides.{nat_tests}
use Rattle.std.proofs.lemmas.List.Elements.{All-head, All-tail, All-nil, All-push}
use Rattle.osgi_version.specs.VersionText.{is_white}
use Rattle.ldap_filter.specs.EnvPairs.{lowered}
use Rattle.ldap_filter.specs.FilterText.{IsWhite, is_attribute_byte, IsAttribute, IsTest, Denotes, DenoteEach, AllOf, AnyOf, NoneOf, Single, Last, More, greatest, level_nesting, nesting, DenotesFilter}
use Rattle.ldap_filter.specs.FilterValue.{scan, pieces}
use Rattle.ldap_filter.specs.FilterSteps.{Part, Outside, Opened, Attribute, Valued, Escaping, State, at_part, beginning, begun, takes, received, test_of, step, sign_of, run}
use Rattle.ldap_filter.specs.declared.test.Test.{Test}
use Rattle.ldap_filter.specs.declared.test.Test.TheVariants as test
use Rattle.ldap_filter.specs.declared.filter.Filter.{Filter}
use Rattle.ldap_filter.specs.declared.filter.Filter.TheVariants as filter
use Rattle.ldap_filter.specs.declared.frame.Sign.{Sign}
use Rattle.ldap_filter.specs.declared.frame.Sign.TheVariants as sign
use Rattle.ldap_filter.specs.declared.frame.Frame.{Frame}
use Rattle.ldap_filter.specs.declared.frame.Frame.TheVariants as frame
use Rattle.ldap_filter.specs.declared.scan.Operator.{Operator}
use Rattle.ldap_filter.specs.declared.scan.Operator.TheVariants as operator
use Rattle.ldap_filter.proofs.Folds.{fold-And, fold-Or, fold-Not, fold-Item}
use Rattle.ldap_filter.proofs.FilterValues.{IsValue-scan, ArePieces-scan}
use Rattle.ldap_filter.proofs.FilterTests.{operator_bytes}

pub run-append : (xs ys : List ℕ) (s : State) → run (xs ++ ys) s ≡ option_and_then (run ys) (run xs s)
run-append [] ys s = refl
run-append (b ∷ xs) ys s =
    elim (step s b) as (λ o. option_and_then (run (xs ++ ys)) o ≡ option_and_then (run ys) (option_and_then (run xs) o)) [
      | None ↦ refl
      | Some q ↦ run-append xs ys q
    ]

pub run_then : (xs ys : List ℕ) (s t : State) (r : Option State) → run xs s ≡ Some t → run ys t ≡ r → run (xs ++ ys) s ≡ r
run_then xs ys s t r first second = run-append xs ys s ∙ (ap (option_and_then (run ys)) first ∙ second)

run_byte : (b : ℕ) (ys : List ℕ) (s t : State) (r : Option State) → step s b ≡ Some t → run ys t ≡ r → run (b ∷ ys) s ≡ r
run_byte b ys s t r first second = ap (option_and_then (run ys)) first ∙ second

-- white space that changes nothing

white_no_parenthesis : (b : ℕ) → is_white b ≡ true → ((b == 40) ≡ false) × ((b == 41) ≡ false)
white_no_parenthesis b h = (grind (arith, nat_tests), grind (arith, nat_tests))

pub run-white_outside : (ws : List ℕ) (frames : List Frame) → IsWhite ws → run ws (at_part frames Outside) ≡ Some (at_part frames Outside)
run-white_outside [] frames white = refl
run-white_outside (w ∷ ws) frames white =
    let first = All-head (λ x. is_white x ≡ true) w ws white in
    let tests = white_no_parenthesis w first in
    run_byte w ws (at_part frames Outside) (at_part frames Outside) _ (simp (tests.0, tests.1, first)) (run-white_outside ws frames (All-tail (λ x. is_white x ≡ true) w ws white))

run-white_opened : (ws : List ℕ) (frames : List Frame) → IsWhite ws → run ws (at_part frames Opened) ≡ Some (at_part frames Opened)
run-white_opened [] frames white = refl
run-white_opened (w ∷ ws) frames white =
    let first = All-head (λ x. is_white x ≡ true) w ws white in
    run_byte w ws (at_part frames Opened) (at_part frames Opened) _ (simp first) (run-white_opened ws frames (All-tail (λ x. is_white x ≡ true) w ws white))

run-white_attribute : (ws : List ℕ) (frames : List Frame) (group : Option Sign) (core after : List ℕ) → IsWhite ws
    → run ws (at_part frames (Attribute group core after)) ≡ Some (at_part frames (Attribute group core (after ++ ws)))
run-white_attribute [] frames group core after white = ap (λ a. Some (at_part frames (Attribute group core a))) (sym (append-nil after))
run-white_attribute (w ∷ ws) frames group core after white =
    let first = All-head (λ x. is_white x ≡ true) w ws white in
    run_byte w ws (at_part frames (Attribute group core after)) (at_part frames (Attribute group core (after ++ w ∷ []))) _ (simp first)
    (run-white_attribute ws frames group core (after ++ w ∷ []) (All-tail (λ x. is_white x ≡ true) w ws white)
    ∙ ap (λ a. Some (at_part frames (Attribute group core a))) (append_assoc after (w ∷ []) ws))

-- an attribute

-- What is read of an attribute: no white space but at the end.
record Named (frames : List Frame) (bytes : List ℕ) (result : Option State) : Type 0 where
  group : Option Sign
  core : List ℕ
  after : List ℕ
  white : IsWhite after
  together : core ++ after ≡ bytes
  gives : result ≡ Some (at_part frames (Attribute group core after))

run-attribute : (xs : List ℕ) (frames : List Frame) (group : Option Sign) (core after : List ℕ) → IsWhite after → AllPass is_attribute_byte xs
    → Named frames ((core ++ after) ++ xs) (run xs (at_part frames (Attribute group core after)))
run-attribute [] frames group core after white each =
    record { group = group; core = core; after = after; white = white; together = sym (append-nil (core ++ after)); gives = refl }
run-attribute (x ∷ xs) frames group core after white each =
    by_test (is_white x) refl (All-head (λ b. is_attribute_byte b ≡ true) x xs each) (All-tail (λ b. is_attribute_byte b ≡ true) x xs each)
    (λ a w l. run-attribute xs frames group core a w l) (λ c l. run-attribute xs frames None c [] (All-nil _) l)
  where
    by_test : (t : Bool) → is_white x ≡ t → is_attribute_byte x ≡ true → AllPass is_attribute_byte xs
        → ((a : List ℕ) → IsWhite a → AllPass is_attribute_byte xs → Named frames ((core ++ a) ++ xs) (run xs (at_part frames (Attribute group core a))))
        → ((c : List ℕ) → AllPass is_attribute_byte xs → Named frames ((c ++ []) ++ xs) (run xs (at_part frames (Attribute None c []))))
        → Named frames ((core ++ after) ++ x ∷ xs) (run (x ∷ xs) (at_part frames (Attribute group core after)))
    by_test true h passes later stays moves =
        let more = stays (after ++ x ∷ []) (All-push (λ b. is_white b ≡ true) after x white h) later in
        record {
          group = more.group;
          core = more.core;
          after = more.after;
          white = more.white;
          together = more.together ∙ simp append_assoc;
          gives = run_byte x xs (at_part frames (Attribute group core after)) (at_part frames (Attribute group core (after ++ x ∷ []))) _ (simp h) more.gives;
        }
    by_test false h passes later stays moves =
        let more = moves (core ++ (after ++ x ∷ [])) later in
        record {
          group = more.group;
          core = more.core;
          after = more.after;
          white = more.white;
          together = more.together ∙ simp (append_assoc, append-nil);
          gives = run_byte x xs (at_part frames (Attribute group core after)) (at_part frames (Attribute None (core ++ (after ++ x ∷ [])) [])) _ (simp (h, passes)) more.gives;
        }

-- white space at the end of what ends without it is none

last_white : (front : List ℕ) (b : ℕ) → IsWhite (front ++ b ∷ []) → is_white b ≡ true
last_white [] b white = All-head (λ x. is_white x ≡ true) b [] white
last_white (x ∷ front) b white = last_white front b (All-tail (λ x. is_white x ≡ true) x (front ++ b ∷ []) white)

nothing_left : (xs ys : List ℕ) → xs ++ ys ≡ [] → ys ≡ []
nothing_left [] ys e = e
nothing_left (x ∷ xs) ys e = absurd (cc)

no_white_end : (core after front : List ℕ) (b : ℕ) → IsWhite after → is_white b ≡ false → core ++ after ≡ front ++ b ∷ [] → after ≡ []
no_white_end [] after front b white last same =
    let other : is_white b ≡ true = last_white front b (subst IsWhite same white) in absurd (cc)
no_white_end (c ∷ core) after [] b white last same = let rest : core ++ after ≡ [] = cc in nothing_left core after rest
no_white_end (c ∷ core) after (f ∷ front) b white last same =
    let rest : core ++ after ≡ front ++ b ∷ [] = cc in no_white_end core after front b white last rest

run-core : (core : List ℕ) (frames : List Frame) → AllPass is_attribute_byte core → (b : ℕ) (rest : List ℕ) → core ≡ b ∷ rest → is_white b ≡ false
    → (front : List ℕ) (l : ℕ) → core ≡ front ++ l ∷ [] → is_white l ≡ false
    → (group : Option Sign) × (run core (at_part frames Opened) ≡ Some (at_part frames (Attribute group core [])))
run-core core frames each b rest first nonwhite front l last end =
    let each' : AllPass is_attribute_byte (b ∷ rest) = subst (AllPass is_attribute_byte) first each in
    let named = run-attribute rest frames (sign_of b) (b ∷ []) [] (All-nil _) (All-tail (λ x. is_attribute_byte x ≡ true) b rest each') in
    let together : named.core ++ named.after ≡ core = named.together ∙ sym first in
    let none : named.after ≡ [] = no_white_end named.core named.after front l named.white end (together ∙ last) in
    let whole : named.core ≡ core = sym (append-nil named.core) ∙ (ap (λ a. named.core ++ a) (sym none) ∙ together) in
    let passes = All-head (λ x. is_attribute_byte x ≡ true) b rest each' in (
      named.group,
      ap (λ xs. run xs (at_part frames Opened)) first
          ∙ (run_byte b rest (at_part frames Opened) (at_part frames (Attribute (sign_of b) (b ∷ []) [])) _ (simp (nonwhite, passes)) named.gives
          ∙ (ap (λ c. Some (at_part frames (Attribute named.group c named.after))) whole ∙ ap (λ a. Some (at_part frames (Attribute named.group core a))) none)),
    )

-- an operator and a value

run-operator : (o : Operator) (frames : List Frame) (group : Option Sign) (core after : List ℕ)
    → run (operator_bytes o) (at_part frames (Attribute group core after)) ≡ Some (at_part frames (Valued o core []))
run-operator operator.Equal frames group core after = refl
run-operator operator.Near frames group core after = refl
run-operator operator.AtLeast frames group core after = refl
run-operator operator.AtMost frames group core after = refl

abbrev value_part : Bool → Operator → List ℕ → List ℕ → Part
value_part true = Escaping
value_part false = Valued

parentheses : (b : ℕ) → (b == 40 || b == 41) ≡ false → ((b == 40) ≡ false) × ((b == 41) ≡ false)
parentheses b h = (grind (arith, nat_tests), grind (arith, nat_tests))

backslash : (b : ℕ) → (b == 92) ≡ true → ((b == 40) ≡ false) × ((b == 41) ≡ false)
backslash b h = (grind (arith, nat_tests), grind (arith, nat_tests))

run-value : (v : List ℕ) (e : Bool) (frames : List Frame) (o : Operator) (core read : List ℕ) → scan e v ≡ Some false
    → run v (at_part frames (value_part e o core read)) ≡ Some (at_part frames (Valued o core (read ++ v)))
run-value [] false frames o core read h = ap (λ r. Some (at_part frames (Valued o core r))) (sym (append-nil read))
run-value [] true frames o core read h = absurd (cc)
run-value (b ∷ bs) true frames o core read h =
    run_byte b bs (at_part frames (Escaping o core read)) (at_part frames (Valued o core (read ++ b ∷ []))) _ refl
    (run-value bs false frames o core (read ++ b ∷ []) h ∙ ap (λ r. Some (at_part frames (Valued o core r))) (append_assoc read (b ∷ []) bs))
run-value (b ∷ bs) false frames o core read h =
    by_test (b == 92) (b == 40 || b == 41) refl refl h
    (λ k. run-value bs true frames o core (read ++ b ∷ []) k) (λ k. run-value bs false frames o core (read ++ b ∷ []) k)
  where
    by_test : (t u : Bool) → (b == 92) ≡ t → (b == 40 || b == 41) ≡ u → cond t (scan true bs) (cond u None (scan false bs)) ≡ Some false
        → (scan true bs ≡ Some false → run bs (at_part frames (Escaping o core (read ++ b ∷ []))) ≡ Some (at_part frames (Valued o core ((read ++ b ∷ []) ++ bs))))
        → (scan false bs ≡ Some false → run bs (at_part frames (Valued o core (read ++ b ∷ []))) ≡ Some (at_part frames (Valued o core ((read ++ b ∷ []) ++ bs))))
        → run (b ∷ bs) (at_part frames (Valued o core read)) ≡ Some (at_part frames (Valued o core (read ++ b ∷ bs)))
    by_test true u k m h more rest =
        let tests = backslash b k in
        run_byte b bs (at_part frames (Valued o core read)) (at_part frames (Escaping o core (read ++ b ∷ []))) _ (simp (tests.0, tests.1, k))
        (more h ∙ ap (λ r. Some (at_part frames (Valued o core r))) (append_assoc read (b ∷ []) bs))
    by_test false true k m h more rest = absurd (cc)
    by_test false false k m h more rest =
        let tests = parentheses b m in
        run_byte b bs (at_part frames (Valued o core read)) (at_part frames (Valued o core (read ++ b ∷ []))) _ (simp (tests.0, tests.1, k))
        (rest h ∙ ap (λ r. Some (at_part frames (Valued o core r))) (append_assoc read (b ∷ []) bs))

record Tested (tested : List ℕ) (t : Test) : Type 0 where
  by : Operator
  value : List ℕ
  spelling : tested ≡ operator_bytes by ++ value
  whole : scan false value ≡ Some false
  says : test_of by value ≡ t

not_star : (value : List ℕ) (t : Bool) → pointwise nat_eq value (42 ∷ []) ≡ t → value ≢ 42 ∷ [] → t ≡ false
not_star value true e other = absurd (other (same_text value (42 ∷ []) (sym e)))
not_star value false e other = refl

IsTest-Tested : (tested : List ℕ) (t : Test) → IsTest tested t → Tested tested t
IsTest-Tested tested (test.Equal ps) is =
    let read = ArePieces-scan is.0 ps is.3 in
    let other = not_star is.0 (pointwise nat_eq is.0 (42 ∷ [])) refl is.2 in
    record { by = operator.Equal; value = is.0; spelling = is.1; whole = read.0; says = ap (λ u. cond u test.Present (test.Equal (pieces is.0))) other ∙ ap test.Equal read.1 }
IsTest-Tested tested (test.Near p) is =
    let read = IsValue-scan is.0 p is.2 in
    record { by = operator.Near; value = is.0; spelling = is.1; whole = read.0; says = ap test.Near read.1 }
IsTest-Tested tested (test.AtLeast p) is =
    let read = IsValue-scan is.0 p is.2 in
    record { by = operator.AtLeast; value = is.0; spelling = is.1; whole = read.0; says = ap test.AtLeast read.1 }
IsTest-Tested tested (test.AtMost p) is =
    let read = IsValue-scan is.0 p is.2 in
    record { by = operator.AtMost; value = is.0; spelling = is.1; whole = read.0; says = ap test.AtMost read.1 }
IsTest-Tested tested test.Present is =
    record { by = operator.Equal; value = 42 ∷ []; spelling = is; whole = refl; says = refl }

-- filters

-- The text is read behind its `(`, wherever its nesting leaves room for it.
record Reads (text : List ℕ) (f : Filter) : Type 0 where
  before : List ℕ
  rest : List ℕ
  spelling : text ≡ before ++ 40 ∷ rest
  white : IsWhite before
  deep : 1 ≤ nesting f
  gives : (fr : Frame) (frames : List Frame) → nesting f + length (fr ∷ frames) ≤ 65 → run rest (at_part (fr ∷ frames) Opened) ≡ Some (at_part (received f fr ∷ frames) Outside)

lt_test : (m n : ℕ) → m < n → nat_lt m n ≡ true
lt_test m n h = grind (arith, nat_tests)

read_outside : (text : List ℕ) (f : Filter) → Reads text f → (fr : Frame) (frames : List Frame) → takes fr ≡ true → nesting f + length (fr ∷ frames) ≤ 65
    → run text (at_part (fr ∷ frames) Outside) ≡ Some (at_part (received f fr ∷ frames) Outside)
read_outside text f r fr frames takes' fits =
    ap (λ t. run t (at_part (fr ∷ frames) Outside)) r.spelling
    ∙ run_then r.before (40 ∷ r.rest) (at_part (fr ∷ frames) Outside) (at_part (fr ∷ frames) Outside) _ (run-white_outside r.before (fr ∷ frames) r.white)
    (run_byte 40 r.rest (at_part (fr ∷ frames) Outside) (at_part (fr ∷ frames) Opened) _ (ap (λ t. cond t (Some (at_part (fr ∷ frames) Opened)) None) takes') (r.gives fr frames fits))

read_group : (text : List ℕ) (f : Filter) → Reads text f → (s : Sign) (core : List ℕ) (frames : List Frame) → nesting f + suc (length frames) ≤ 65
    → run text (at_part frames (Attribute (Some s) core [])) ≡ Some (at_part (received f (begun s) ∷ frames) Outside)
read_group text f r s core frames fits =
    let deep = r.deep in
    let room : nat_lt (length frames) 64 ≡ true = lt_test (length frames) 64 (omega arith) in
    ap (λ t. run t (at_part frames (Attribute (Some s) core []))) r.spelling
    ∙ run_then r.before (40 ∷ r.rest) (at_part frames (Attribute (Some s) core [])) (at_part frames (Attribute (Some s) core r.before)) _ (run-white_attribute r.before frames (Some s) core [] r.white)
    (run_byte 40 r.rest (at_part frames (Attribute (Some s) core r.before)) (at_part (begun s ∷ frames) Opened) _ (ap (λ t. cond t (Some (at_part (begun s ∷ frames) Opened)) None) room) (r.gives (begun s) frames fits))

-- the frame of `&` or of `|`, with these filters
abbrev listed : Bool → List Filter → Frame
listed true fs = frame.And fs
listed false fs = frame.Or fs

abbrev group_of : Bool → Sign
group_of true = sign.And
group_of false = sign.Or

listed-begun : (all : Bool) → begun (group_of all) ≡ listed all []
listed-begun true = refl
listed-begun false = refl

listed-received : (all : Bool) (f : Filter) (fs : List Filter) → received f (listed all fs) ≡ listed all (fs ++ f ∷ [])
listed-received true f fs = refl
listed-received false f fs = refl

listed-takes : (all : Bool) (fs : List Filter) → takes (listed all fs) ≡ true
listed-takes true fs = refl
listed-takes false fs = refl

record ReadsEach (texts : List ℕ) (fs : List Filter) : Type 0 where
  deep : 1 ≤ greatest (map nesting fs)
  later : (all : Bool) (gs : List Filter) (frames : List Frame) → greatest (map nesting fs) + suc (length frames) ≤ 65
      → run texts (at_part (listed all gs ∷ frames) Outside) ≡ Some (at_part (listed all (gs ++ fs) ∷ frames) Outside)
  first : (all : Bool) (core : List ℕ) (frames : List Frame) → greatest (map nesting fs) + suc (length frames) ≤ 65
      → run texts (at_part frames (Attribute (Some (group_of all)) core [])) ≡ Some (at_part (listed all fs ∷ frames) Outside)

one_later : (text : List ℕ) (f : Filter) → Reads text f → (all : Bool) (gs : List Filter) (frames : List Frame) → nesting f + suc (length frames) ≤ 65
    → run text (at_part (listed all gs ∷ frames) Outside) ≡ Some (at_part (listed all (gs ++ f ∷ []) ∷ frames) Outside)
one_later text f r all gs frames fits =
    read_outside text f r (listed all gs) frames (listed-takes all gs) fits ∙ ap (λ fr. Some (at_part (fr ∷ frames) Outside)) (listed-received all f gs)

one_first : (text : List ℕ) (f : Filter) → Reads text f → (all : Bool) (core : List ℕ) (frames : List Frame) → nesting f + suc (length frames) ≤ 65
    → run text (at_part frames (Attribute (Some (group_of all)) core [])) ≡ Some (at_part (listed all (f ∷ []) ∷ frames) Outside)
one_first text f r all core frames fits =
    read_group text f r (group_of all) core frames fits
    ∙ ap (λ fr. Some (at_part (fr ∷ frames) Outside)) (ap (received f) (listed-begun all) ∙ listed-received all f [])

ReadsEach-one : (text : List ℕ) (f : Filter) → Reads text f → ReadsEach text (f ∷ [])
ReadsEach-one text f r = record {
  deep = let deep = r.deep in omega arith;
  later = λ all gs frames fits. one_later text f r all gs frames (omega arith);
  first = λ all core frames fits. one_first text f r all core frames (omega arith);
}

ReadsEach-more : (text texts : List ℕ) (f : Filter) (fs : List Filter) → Reads text f → ReadsEach texts fs → ReadsEach (text ++ texts) (f ∷ fs)
ReadsEach-more text texts f fs r each = record {
  deep = let deep = r.deep in omega arith;
  later = λ all gs frames fits.
      run_then text texts (at_part (listed all gs ∷ frames) Outside) (at_part (listed all (gs ++ f ∷ []) ∷ frames) Outside) _
      (one_later text f r all gs frames (omega arith))
      (each.later all (gs ++ f ∷ []) frames (omega arith) ∙ ap (λ hs. Some (at_part (listed all hs ∷ frames) Outside)) (append_assoc gs (f ∷ []) fs));
  first = λ all core frames fits.
      run_then text texts (at_part frames (Attribute (Some (group_of all)) core [])) (at_part (listed all (f ∷ []) ∷ frames) Outside) _
      (one_first text f r all core frames (omega arith))
      (each.later all (f ∷ []) frames (omega arith));
}

pub nesting-And : (fs : List Filter) → nesting (filter.And fs) ≡ suc (greatest (map nesting fs))
nesting-And fs = fold-And ℕ level_nesting fs

pub nesting-Or : (fs : List Filter) → nesting (filter.Or fs) ≡ suc (greatest (map nesting fs))
nesting-Or fs = fold-Or ℕ level_nesting fs

pub nesting-Not : (f : Filter) → nesting (filter.Not f) ≡ suc (nesting f)
nesting-Not f = fold-Not ℕ level_nesting f

pub nesting-Item : (attr : List ℕ) (t : Test) → nesting (filter.Item attr t) ≡ 1
nesting-Item attr t = fold-Item ℕ level_nesting attr t

Reads-And : (before gap texts after : List ℕ) (fs : List Filter) → IsWhite before → IsWhite gap → IsWhite after → ReadsEach texts fs
    → Reads (before ++ 40 ∷ (gap ++ 38 ∷ (texts ++ 41 ∷ after))) (filter.And fs)
Reads-And before gap texts after fs wb wg wa each = record {
  before = before;
  rest = gap ++ 38 ∷ (texts ++ 41 ∷ after);
  spelling = refl;
  white = wb;
  deep = omega (arith, nesting-And fs);
  gives = λ fr frames fits.
      run_then gap (38 ∷ (texts ++ 41 ∷ after)) (at_part (fr ∷ frames) Opened) (at_part (fr ∷ frames) Opened) _ (run-white_opened gap (fr ∷ frames) wg)
      (run_then texts (41 ∷ after) (at_part (fr ∷ frames) (Attribute (Some sign.And) (38 ∷ []) [])) (at_part (frame.And fs ∷ fr ∷ frames) Outside) _
      (each.first true (38 ∷ []) (fr ∷ frames) (omega (arith, nesting-And fs)))
      (run-white_outside after (received (filter.And fs) fr ∷ frames) wa));
}

Reads-Or : (before gap texts after : List ℕ) (fs : List Filter) → IsWhite before → IsWhite gap → IsWhite after → ReadsEach texts fs
    → Reads (before ++ 40 ∷ (gap ++ 124 ∷ (texts ++ 41 ∷ after))) (filter.Or fs)
Reads-Or before gap texts after fs wb wg wa each = record {
  before = before;
  rest = gap ++ 124 ∷ (texts ++ 41 ∷ after);
  spelling = refl;
  white = wb;
  deep = omega (arith, nesting-Or fs);
  gives = λ fr frames fits.
      run_then gap (124 ∷ (texts ++ 41 ∷ after)) (at_part (fr ∷ frames) Opened) (at_part (fr ∷ frames) Opened) _ (run-white_opened gap (fr ∷ frames) wg)
      (run_then texts (41 ∷ after) (at_part (fr ∷ frames) (Attribute (Some sign.Or) (124 ∷ []) [])) (at_part (frame.Or fs ∷ fr ∷ frames) Outside) _
      (each.first false (124 ∷ []) (fr ∷ frames) (omega (arith, nesting-Or fs)))
      (run-white_outside after (received (filter.Or fs) fr ∷ frames) wa));
}

Reads-Not : (before gap text after : List ℕ) (f : Filter) → IsWhite before → IsWhite gap → IsWhite after → Reads text f
    → Reads (before ++ 40 ∷ (gap ++ 33 ∷ (text ++ 41 ∷ after))) (filter.Not f)
Reads-Not before gap text after f wb wg wa r = record {
  before = before;
  rest = gap ++ 33 ∷ (text ++ 41 ∷ after);
  spelling = refl;
  white = wb;
  deep = omega (arith, nesting-Not f);
  gives = λ fr frames fits.
      run_then gap (33 ∷ (text ++ 41 ∷ after)) (at_part (fr ∷ frames) Opened) (at_part (fr ∷ frames) Opened) _ (run-white_opened gap (fr ∷ frames) wg)
      (run_then text (41 ∷ after) (at_part (fr ∷ frames) (Attribute (Some sign.Not) (33 ∷ []) [])) (at_part (frame.Not (Some f) ∷ fr ∷ frames) Outside) _
      (read_group text f r sign.Not (33 ∷ []) (fr ∷ frames) (omega (arith, nesting-Not f)))
      (run-white_outside after (received (filter.Not f) fr ∷ frames) wa));
}

run-item : (written tested after attr : List ℕ) (t : Test) (fr : Frame) (frames : List Frame) → IsWhite after → IsAttribute written attr → Tested tested t
    → run (written ++ (tested ++ 41 ∷ after)) (at_part (fr ∷ frames) Opened) ≡ Some (at_part (received (filter.Item attr t) fr ∷ frames) Outside)
run-item written tested after attr t fr frames wa is said =
    let core = is.core in
    let fs = fr ∷ frames in
    let named = run-core core fs is.each is.first.0 is.first.1 is.first.2 is.first.3 is.last.0 is.last.1 is.last.2 is.last.3 in
    let group = named.0 in
    let attribute : run (is.before ++ (core ++ is.after)) (at_part fs Opened) ≡ Some (at_part fs (Attribute group core is.after)) =
    run_then is.before (core ++ is.after) (at_part fs Opened) (at_part fs Opened) _ (run-white_opened is.before fs is.white_before)
    (run_then core is.after (at_part fs Opened) (at_part fs (Attribute group core [])) _ named.1 (run-white_attribute is.after fs group core [] is.white_after)) in
    let value : run (operator_bytes said.by ++ said.value) (at_part fs (Attribute group core is.after)) ≡ Some (at_part fs (Valued said.by core said.value)) =
    run_then (operator_bytes said.by) said.value (at_part fs (Attribute group core is.after)) (at_part fs (Valued said.by core [])) _ (run-operator said.by fs group core is.after)
    (run-value said.value false fs said.by core [] said.whole) in
    let same : filter.Item (lowered core) (test_of said.by said.value) ≡ filter.Item attr t = ap (λ a. filter.Item a (test_of said.by said.value)) (sym is.value) ∙ ap (filter.Item attr) said.says in
    run_then written (tested ++ 41 ∷ after) (at_part fs Opened) (at_part fs (Attribute group core is.after)) _ (ap (λ w. run w (at_part fs Opened)) is.spelling ∙ attribute)
    (run_then tested (41 ∷ after) (at_part fs (Attribute group core is.after)) (at_part fs (Valued said.by core said.value)) _ (ap (λ w. run w (at_part fs (Attribute group core is.after))) said.spelling ∙ value)
    (run-white_outside after (received (filter.Item (lowered core) (test_of said.by said.value)) fr ∷ frames) wa
    ∙ ap (λ f. Some (at_part (received f fr ∷ frames) Outside)) same))

mutual
  Denotes-Reads : (text : List ℕ) (f : Filter) → Denotes text f → Reads text f
  Denotes-Reads text f (AllOf before gap texts after fs wb wg wa each) = Reads-And before gap texts after fs wb wg wa (Each-Reads texts fs each)
  Denotes-Reads text f (AnyOf before gap texts after fs wb wg wa each) = Reads-Or before gap texts after fs wb wg wa (Each-Reads texts fs each)
  Denotes-Reads text f (NoneOf before gap inner after g wb wg wa denotes) = Reads-Not before gap inner after g wb wg wa (Denotes-Reads inner g denotes)
  Denotes-Reads text f (Single before written tested after attr t wb wa attribute is) = record {
    before = before;
    rest = written ++ (tested ++ 41 ∷ after);
    spelling = refl;
    white = wb;
    deep = omega (arith, nesting-Item attr t);
    gives = λ fr frames fits. run-item written tested after attr t fr frames wa attribute (IsTest-Tested tested t is);
  }

  Each-Reads : (texts : List ℕ) (fs : List Filter) → DenoteEach texts fs → ReadsEach texts fs
  Each-Reads texts fs (Last text f denotes) = ReadsEach-one text f (Denotes-Reads text f denotes)
  Each-Reads texts fs (More text rest f others denotes each) = ReadsEach-more text rest f others (Denotes-Reads text f denotes) (Each-Reads rest others each)

-- A text of the grammar is read, as the filter that it denotes.
pub run-denoted : (text : List ℕ) (f : Filter) → DenotesFilter text f → run text beginning ≡ Some (at_part (frame.Whole (Some f) ∷ []) Outside)
run-denoted text f d =
    let shallow = d.shallow in
    read_outside text f (Denotes-Reads text f d.denotes) (frame.Whole None) [] refl (omega arith)
