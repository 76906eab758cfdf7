-- A scan's move against the turn of what the scan stands for.
use Rattle.std.proofs.Common.{◌≡◌, ℕ, ◌+◌, ◌-◌, ◌<◌, ◌≤◌, ◌==◌, Bool, true, false, cond, Option, Some, None, List, [], ◌∷◌, ◌++◌, length, get_or, take, drop, slice_range, refl, ap, sym, ◌∙◌, arith}
use Rattle.std.proofs.Math.Seq.{take-add}
use Rattle.std.proofs.lemmas.List.{drop-drop}
use Rattle.osgi_version.specs.VersionText.{is_white}
use Rattle.osgi_version.proofs.VersionViews.{slice_range-more}
use Rattle.ldap_filter.specs.FilterText.{is_attribute_byte}
use Rattle.ldap_filter.specs.FilterSteps.{Part, Attribute, Valued, Escaping, Turn, Goes, turn, group_turn, operator_turn, operator_of}
use Rattle.ldap_filter.specs.FilterScan.{staged, part_in, turn_in, IsScanAt, group_move, operator_move, attribute_move, value_move}
use Rattle.ldap_filter.specs.declared.frame.Sign.{Sign}
use Rattle.ldap_filter.specs.declared.scan.Scan.{Scan}
use Rattle.ldap_filter.specs.declared.scan.Operator.{Operator}
use Rattle.ldap_filter.specs.declared.scan.Operator.TheVariants as operator
use Rattle.ldap_filter.specs.declared.scan.Stage.{Stage}
use Rattle.ldap_filter.specs.declared.scan.Stage.TheVariants as stage
use Rattle.ldap_filter.specs.declared.scan.Move.{Move}
use Rattle.ldap_filter.specs.declared.scan.Move.TheVariants as move

pub slice_range-none : (text : List ℕ) (at : ℕ) → slice_range text at at ≡ []
slice_range-none text at = let none : at - at ≡ 0 = omega arith in ap (λ n. take n (drop at text)) none

pub slice_range-join : (text : List ℕ) (a b c : ℕ) → a ≤ b → b ≤ c → slice_range text a c ≡ slice_range text a b ++ slice_range text b c
slice_range-join text a b c first second =
    let count : c - a ≡ (b - a) + (c - b) = omega arith in
    let place : a + (b - a) ≡ b = omega arith in
    ap (λ n. take n (drop a text)) count
    ∙ (take-add (b - a) (c - b) (drop a text)
    ∙ ap (λ r. take (b - a) (drop a text) ++ take (c - b) r) (drop-drop (b - a) a text ∙ ap (λ n. drop n text) place))

-- a test that decides on the move and on the turn
either : (f : Move → Turn) (t : Bool) (x y : Move) (x' y' : Turn) → f x ≡ x' → f y ≡ y' → f (cond t x y) ≡ cond t x' y'
either f true x y x' y' e g = e
either f false x y x' y' e g = g

of_group : (text : List ℕ) (at : ℕ) (s : Scan) (group : Option Sign) → turn_in text at s (group_move group) ≡ group_turn group
of_group text at s None = refl
of_group text at s (Some sign) = refl

of_operator : (text : List ℕ) (at : ℕ) (s : Scan) (o : Option Operator) → turn_in text at s (operator_move s o) ≡ operator_turn (slice_range text s.start s.end) o
of_operator text at s None = refl
of_operator text at s (Some o) = refl

pub turn-attribute : (text : List ℕ) (at : ℕ) (s : Scan) (group : Option Sign) → IsScanAt at s → at < length text → s.stage ≡ stage.InAttribute group
    → turn_in text at s (attribute_move s group (get_or text at 0) at) ≡ turn (part_in text at s) (get_or text at 0)
turn-attribute text at s group is inside e =
    let b = get_or text at 0 in
    let core = slice_range text s.start s.end in
    let after = slice_range text s.end at in
    let f = turn_in text at s in
    let part : staged (stage.InAttribute group) text s.start s.end s.value at ≡ part_in text at s = ap (λ (t : Stage). staged t text s.start s.end s.value at) (sym e) in
    let white : f (move.Go s) ≡ Goes (Attribute group core (after ++ b ∷ [])) =
    ap (λ (t : Stage). Goes (staged t text s.start s.end s.value (at + 1))) e
    ∙ ap (λ a. Goes (Attribute group core a)) (slice_range-more text s.end at is.within inside) in
    let longer : slice_range text s.start (at + 1) ≡ core ++ (after ++ b ∷ []) =
    slice_range-join text s.start s.end (at + 1) is.ordered (let w = is.within in omega arith) ∙ ap (λ a. core ++ a) (slice_range-more text s.end at is.within inside) in
    let more : f (move.Go (record s { stage = stage.InAttribute None; end = at + 1 })) ≡ Goes (Attribute None (core ++ (after ++ b ∷ [])) []) =
    ap (λ c. Goes (Attribute None c (slice_range text (at + 1) (at + 1)))) longer ∙ ap (λ a. Goes (Attribute None (core ++ (after ++ b ∷ [])) a)) (slice_range-none text (at + 1)) in
    let value : f (move.Go (record s { stage = stage.InValue operator.Equal; value = at + 1 })) ≡ Goes (Valued operator.Equal core []) =
    ap (λ v. Goes (Valued operator.Equal core v)) (slice_range-none text (at + 1)) in
    either f (is_white b) _ _ _ _ white
    (either f (is_attribute_byte b) _ _ _ _ more
    (either f (b == 61) _ _ _ _ value
    (either f (b == 40) _ _ _ _ (of_group text at s group) (of_operator text at s (operator_of b)))))
    ∙ ap (λ (p : Part). turn p b) part

pub turn-value : (text : List ℕ) (at : ℕ) (s : Scan) (o : Operator) → IsScanAt at s → at < length text → s.stage ≡ stage.InValue o
    → turn_in text at s (value_move s o (get_or text at 0)) ≡ turn (part_in text at s) (get_or text at 0)
turn-value text at s o is inside e =
    let b = get_or text at 0 in
    let core = slice_range text s.start s.end in
    let value = slice_range text s.value at in
    let f = turn_in text at s in
    let part : staged (stage.InValue o) text s.start s.end s.value at ≡ part_in text at s = ap (λ (t : Stage). staged t text s.start s.end s.value at) (sym e) in
    let longer : slice_range text s.value (at + 1) ≡ value ++ b ∷ [] = slice_range-more text s.value at is.value inside in
    let escape : f (move.Go (record s { stage = stage.InEscape o })) ≡ Goes (Escaping o core (value ++ b ∷ [])) = ap (λ v. Goes (Escaping o core v)) longer in
    let plain : f (move.Go s) ≡ Goes (Valued o core (value ++ b ∷ [])) =
    ap (λ (t : Stage). Goes (staged t text s.start s.end s.value (at + 1))) e ∙ ap (λ v. Goes (Valued o core v)) longer in
    either f (b == 41) _ _ _ _ refl (either f (b == 40) _ _ _ _ refl (either f (b == 92) _ _ _ _ escape plain))
    ∙ ap (λ (p : Part). turn p b) part

pub turn-escape : (text : List ℕ) (at : ℕ) (s : Scan) (o : Operator) → IsScanAt at s → at < length text → s.stage ≡ stage.InEscape o
    → turn_in text at s (move.Go (record s { stage = stage.InValue o })) ≡ turn (part_in text at s) (get_or text at 0)
turn-escape text at s o is inside e =
    let b = get_or text at 0 in
    let core = slice_range text s.start s.end in
    let part : staged (stage.InEscape o) text s.start s.end s.value at ≡ part_in text at s = ap (λ (t : Stage). staged t text s.start s.end s.value at) (sym e) in
    ap (λ v. Goes (Valued o core v)) (slice_range-more text s.value at is.value inside) ∙ ap (λ (p : Part). turn p b) part
