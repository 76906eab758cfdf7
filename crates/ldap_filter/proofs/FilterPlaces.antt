-- Where a text stops being the front of a filter's text, and what a whole one denotes.
use Rattle.std.proofs.Common.{◌≡◌, ◌≢◌, ◌==◌, ℕ, suc, Bool, false, cond, drop-cons, ◌+◌, ◌<◌, true, Option, Some, None, option_and_then, List, [], ◌∷◌, ◌++◌, length, get_or, take, drop, refl, ap, sym, subst, ◌∙◌, arith, append_assoc, append-nil, le_refl, take_all, take-take, take-append-drop, lit<}
use Rattle.std.specs.Str.{IsUtf8}
use Rattle.std.proofs.lemmas.List.{take_more}
use Rattle.std.proofs.lemmas.List.Elements.{All-head, All-tail}
use Rattle.std.proofs.lemmas.Bool.Decides.{nat_tests}
use Rattle.osgi_version.specs.VersionText.{is_white}
use Rattle.osgi_version.specs.Begins.{Begins, IsLongestBegin}
use Rattle.ldap_filter.specs.FilterText.{IsWhite, is_attribute_byte, DenotesFilter, IsFilterText}
use Rattle.ldap_filter.specs.FilterValue.{scan}
use Rattle.ldap_filter.specs.FilterSteps.{Part, Outside, Opened, Attribute, Comparing, Valued, Escaping, Turn, Ends, State, at_part, beginning, turn, group_turn, operator_turn, operator_of, step, run, whole_in}
use Rattle.ldap_filter.specs.declared.filter.Filter.{Filter}
use Rattle.ldap_filter.specs.declared.frame.Sign.{Sign}
use Rattle.ldap_filter.specs.declared.frame.Frame.{Frame}
use Rattle.ldap_filter.specs.declared.frame.Frame.TheVariants as frame
use Rattle.ldap_filter.specs.declared.scan.Operator.{Operator}
use Rattle.ldap_filter.specs.declared.scan.Operator.TheVariants as operator
use Rattle.ldap_filter.proofs.FilterValues.{is_byte, cut_utf8}
use Rattle.ldap_filter.proofs.FilterTests.{operator_front, operator_bytes, operator_whole}
use Rattle.ldap_filter.proofs.FilterRuns.{run-append, run_then, run-denoted}
use Rattle.ldap_filter.proofs.FilterProgress.{HasRead, HasRead-text, HasRead-Begins, denoted_whole}

Begins-read : (text : List ℕ) (s : State) → run text beginning ≡ Some s → Begins IsFilterText text
Begins-read text s e = HasRead-Begins s.part s.frames text (HasRead-text text s e)

-- a text that isn't read through begins no text of a filter
unread : (front : List ℕ) → run front beginning ≡ None → ¬ (Begins IsFilterText front)
unread front e b =
    let gives = run-denoted (front ++ b.0) b.1.0 b.1.1 in
    let none : run (front ++ b.0) beginning ≡ None = run-append front b.0 beginning ∙ ap (option_and_then (run b.0)) e in
    cc

shorter : (front more : List ℕ) → Begins IsFilterText (front ++ more) → Begins IsFilterText front
shorter front more b = (more ++ b.0, (b.1.0, subst (λ t. DenotesFilter t b.1.0) (append_assoc front more b.0) b.1.1))

-- One byte more is read.
pub run-step : (text : List ℕ) (at : ℕ) (s t : State) → at < length text → run (take at text) beginning ≡ Some s → step s (get_or text at 0) ≡ Some t → run (take (at + 1) text) beginning ≡ Some t
run-step text at s t inside front stepped =
    rw (take_more text at 0 inside)
    (run_then (take at text) (get_or text at 0 ∷ []) beginning s (Some t) front (ap (option_and_then (run [])) stepped))

-- Where a step from a read front isn't there, the front is the longest.
pub IsLongestBegin-stopped : (text : List ℕ) (at : ℕ) (s : State) → at < length text → run (take at text) beginning ≡ Some s → step s (get_or text at 0) ≡ None → IsLongestBegin IsFilterText text at
IsLongestBegin-stopped text at s inside front stop =
    let none : run (take (at + 1) text) beginning ≡ None =
    rw (take_more text at 0 inside)
    (run_then (take at text) (get_or text at 0 ∷ []) beginning s None front (ap (option_and_then (run [])) stop)) in
    let past : ¬ (Begins IsFilterText (take (at + 1) text)) = unread (take (at + 1) text) none in
    record {
      within = omega arith;
      begins = Begins-read (take at text) s front;
      longest = λ n more fits b.
          let cut : take (at + 1) (take n text) ≡ take (at + 1) text = take-take (at + 1) n text (omega arith) in
          past (shorter (take (at + 1) text) (drop (at + 1) (take n text))
          (rw (← cut, take-append-drop (at + 1) (take n text)) b));
    }

-- Where the whole text is read, all of it is the longest.
pub IsLongestBegin-read : (text : List ℕ) (s : State) → run text beginning ≡ Some s → IsLongestBegin IsFilterText text (length text)
IsLongestBegin-read text s e = record {
  within = le_refl (length text);
  begins = rw (take_all (length text) text (le_refl (length text))) (Begins-read text s e);
  longest = λ n more fits b. omega arith;
}

-- A text that goes on behind its longest front is no filter's.
pub refused_beyond : (text : List ℕ) (at : ℕ) → IsLongestBegin IsFilterText text at → at < length text → ¬ (IsFilterText text)
refused_beyond text at longest below whole =
    longest.longest (length text) below (le_refl _) ([], (whole.0, rw (append-nil (take (length text) text), take_all (length text) text (le_refl (length text))) whole.1))

-- A text that may not end where it does is no filter's.
pub refused_open : (text : List ℕ) (s : State) → run text beginning ≡ Some s → whole_in s.part s.frames ≡ None → ¬ (IsFilterText text)
refused_open text s e none whole =
    let gives = run-denoted text whole.0 whole.1 in
    let same : s ≡ at_part (frame.Whole (Some whole.0) ∷ []) Outside = cc in
    let there : whole_in s.part s.frames ≡ Some whole.0 = ap (λ (t : State). whole_in t.part t.frames) same in
    cc

whole_denoted : (p : Part) (frames : List Frame) (text : List ℕ) (f : Filter) → HasRead p frames text → whole_in p frames ≡ Some f → DenotesFilter text f
whole_denoted Outside [] text f r e = absurd (cc)
whole_denoted Outside (frame.Whole None ∷ frames) text f r e = absurd (cc)
whole_denoted Outside (frame.Whole (Some g) ∷ frames) text f r e = let same : g ≡ f = cc in subst (DenotesFilter text) same (denoted_whole frames text g r)
whole_denoted Outside (frame.And fs ∷ frames) text f r e = absurd (cc)
whole_denoted Outside (frame.Or fs ∷ frames) text f r e = absurd (cc)
whole_denoted Outside (frame.Not o ∷ frames) text f r e = absurd (cc)
whole_denoted Opened frames text f r e = absurd (cc)
whole_denoted (Attribute group core after) frames text f r e = absurd (cc)
whole_denoted (Comparing o core) frames text f r e = absurd (cc)
whole_denoted (Valued o core value) frames text f r e = absurd (cc)
whole_denoted (Escaping o core value) frames text f r e = absurd (cc)

-- What a text that may end there denotes.
pub DenotesFilter-whole : (text : List ℕ) (s : State) (f : Filter) → run text beginning ≡ Some s → whole_in s.part s.frames ≡ Some f → DenotesFilter text f
DenotesFilter-whole text s f e whole = whole_denoted s.part s.frames text f (HasRead-text text s e) whole

-- A text denotes one filter at most.
pub DenotesFilter-unique : (text : List ℕ) (f g : Filter) → DenotesFilter text f → DenotesFilter text g → f ≡ g
DenotesFilter-unique text f g one other =
    let first = run-denoted text f one in
    let second = run-denoted text g other in
    let both : Some (at_part (frame.Whole (Some f) ∷ []) Outside) ≡ Some (at_part (frame.Whole (Some g) ∷ []) Outside) = sym first ∙ second in
    let same : at_part (frame.Whole (Some f) ∷ []) Outside ≡ at_part (frame.Whole (Some g) ∷ []) Outside = cc in
    let frames : (frame.Whole (Some f) ∷ []) ≡ (frame.Whole (Some g) ∷ []) = ap (λ (s : State). s.frames) same in
    cc

-- The parts of an item in a text that is UTF-8.

behind_white : (ws rest : List ℕ) → IsWhite ws → IsUtf8 (ws ++ rest) → IsUtf8 rest
behind_white [] rest white utf8 = utf8
behind_white (w ∷ ws) rest white utf8 =
    let first : is_white w ≡ true = All-head (λ b. is_white b ≡ true) w ws white in
    let low : w < 128 = grind (arith, nat_tests) in
    behind_white ws rest (All-tail (λ b. is_white b ≡ true) w ws white) (cut_utf8 [] w (ws ++ rest) low utf8).1

before_white : (xs ws : List ℕ) → IsWhite ws → IsUtf8 (xs ++ ws) → IsUtf8 xs
before_white xs [] white utf8 = subst IsUtf8 (append-nil xs) utf8
before_white xs (w ∷ ws) white utf8 =
    let first : is_white w ≡ true = All-head (λ b. is_white b ≡ true) w ws white in
    let low : w < 128 = grind (arith, nat_tests) in
    (cut_utf8 xs w ws low utf8).0

before_operator : (o : Operator) (xs : List ℕ) → IsUtf8 (xs ++ operator_front o) → IsUtf8 xs
before_operator operator.Equal xs utf8 = subst IsUtf8 (append-nil xs) utf8
before_operator operator.Near xs utf8 = (cut_utf8 xs 126 [] (lit< tt) utf8).0
before_operator operator.AtLeast xs utf8 = (cut_utf8 xs 62 [] (lit< tt) utf8).0
before_operator operator.AtMost xs utf8 = (cut_utf8 xs 60 [] (lit< tt) utf8).0

at_equals : (o : Operator) (outer gap core after value : List ℕ)
    → outer ++ 40 ∷ (gap ++ (core ++ (after ++ (operator_bytes o ++ value)))) ≡ (outer ++ 40 ∷ (gap ++ (core ++ (after ++ operator_front o)))) ++ 61 ∷ value
at_equals o outer gap core after value = rw (← operator_whole o) (simp append_assoc)

pub parts_utf8 : (o : Operator) (core value : List ℕ) (frames : List Frame) (front : List ℕ) → HasRead (Valued o core value) frames front → IsUtf8 front → IsUtf8 core × IsUtf8 value
parts_utf8 o core value frames front r utf8 =
    let after = r.0 in
    let w = r.1 in
    let inner : List ℕ = core ++ (after ++ operator_front o) in
    let cut = cut_utf8 (w.outer ++ 40 ∷ (w.gap ++ inner)) 61 value (lit< tt) (subst IsUtf8 (w.spelling ∙ at_equals o w.outer w.gap core after value) utf8) in
    let behind : IsUtf8 inner = behind_white w.gap inner w.white (cut_utf8 w.outer 40 (w.gap ++ inner) (lit< tt) cut.0).1 in
    (before_white core after r.3 (before_operator o (core ++ after) (subst IsUtf8 (sym (append_assoc core after (operator_front o))) behind)), cut.1)

-- Where an item ends.

not_ended : (t : Bool) (x y z : Turn) → x ≢ z → y ≢ z → cond t x y ≢ z
not_ended true x y z one other e = one e
not_ended false x y z one other e = other e

no_group : (group : Option Sign) (o : Operator) (core value : List ℕ) → group_turn group ≢ Ends o core value
no_group None o core value e = cc
no_group (Some s) o core value e = cc

no_operator : (by : Option Operator) (written : List ℕ) (o : Operator) (core value : List ℕ) → operator_turn written by ≢ Ends o core value
no_operator None written o core value e = cc
no_operator (Some p) written o core value e = cc

at_value : (t : Bool) (b : ℕ) (by o : Operator) (core' core value' value : List ℕ) (y : Turn) → (b == 41) ≡ t → y ≢ Ends o core value → cond t (Ends by core' value') y ≡ Ends o core value
    → (Valued by core' value' ≡ Valued o core value) × (b ≡ 41)
at_value true b by o core' core value' value y h other e = (let operators : by ≡ o = cc in let cores : core' ≡ core = cc in let values : value' ≡ value = cc in cc, is_byte b 41 h)
at_value false b by o core' core value' value y h other e = absurd (other e)

ended : (p : Part) (b : ℕ) (o : Operator) (core value : List ℕ) → turn p b ≡ Ends o core value → (p ≡ Valued o core value) × (b ≡ 41)
ended Outside b o core value e =
    absurd (not_ended (b == 40) _ _ _ (λ k. cc) (not_ended (b == 41) _ _ _ (λ k. cc) (not_ended (is_white b) _ _ _ (λ k. cc) (λ k. cc))) e)
ended Opened b o core value e =
    absurd (not_ended (is_white b) _ _ _ (λ k. cc) (not_ended (is_attribute_byte b) _ _ _ (λ k. cc) (λ k. cc)) e)
ended (Attribute group written after) b o core value e =
    absurd (not_ended (is_white b) _ _ _ (λ k. cc) (not_ended (is_attribute_byte b) _ _ _ (λ k. cc) (not_ended (b == 61) _ _ _ (λ k. cc)
    (not_ended (b == 40) _ _ _ (no_group group o core value) (no_operator (operator_of b) written o core value)))) e)
ended (Comparing by written) b o core value e = absurd (not_ended (b == 61) _ _ _ (λ k. cc) (λ k. cc) e)
ended (Valued by core' value') b o core value e =
    at_value (b == 41) b by o core' core value' value _ refl (not_ended (b == 40) _ _ _ (λ k. cc) (not_ended (b == 92) _ _ _ (λ k. cc) (λ k. cc))) e
ended (Escaping by core' value') b o core value e = absurd (cc)

front_utf8 : (text : List ℕ) (at b : ℕ) → at < length text → get_or text at 0 ≡ b → b < 128 → IsUtf8 text → IsUtf8 (take at text)
front_utf8 text at b inside here low utf8 =
    let split : text ≡ take at text ++ b ∷ drop (suc at) text = sym (take-append-drop at text) ∙ ap (λ r. take at text ++ r) (drop-cons text at 0 inside ∙ ap (λ x. x ∷ drop (suc at) text) here) in
    (cut_utf8 (take at text) b (drop (suc at) text) low (subst IsUtf8 split utf8)).0

pub item_known : (text : List ℕ) (at : ℕ) (p : Part) (frames : List Frame) (o : Operator) (core value : List ℕ) → at < length text → IsUtf8 text
    → run (take at text) beginning ≡ Some (at_part frames p) → Ends o core value ≡ turn p (get_or text at 0) → IsUtf8 core × IsUtf8 value × (scan false value ≡ Some false)
item_known text at p frames o core value inside utf8 read e =
    let there = ended p (get_or text at 0) o core value (sym e) in
    let r : HasRead (Valued o core value) frames (take at text) = subst (λ (x : Part). HasRead x frames (take at text)) there.0 (HasRead-text (take at text) (at_part frames p) read) in
    let parts = parts_utf8 o core value frames (take at text) r (front_utf8 text at 41 inside there.1 (lit< tt) utf8) in
    (parts.0, parts.1, r.4)
