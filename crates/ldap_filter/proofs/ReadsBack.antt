-- The canonical text of a filter that has a text denotes it.
use Rattle.std.proofs.Common.{◌≡◌, ◌≢◌, ℕ, ◌||◌, ◌==◌, Bool, true, false, cond, List, [], ◌∷◌, ◌++◌, map, refl, ap, sym, subst, ◌∙◌, arith, append-nil, Result, Ok, Err, IfOk}
use Rattle.std.specs.List.{flat_map}
use Rattle.std.specs.Char.{to_ascii_lowercase}
use Rattle.std.proofs.lemmas.List.{map-append}
use Rattle.std.proofs.lemmas.List.Elements.{All-nil, All-map, All-weaker}
use Rattle.std.proofs.lemmas.Bool.Decides.{nat_tests}
use Rattle.osgi_version.specs.VersionText.{is_white}
use Rattle.ldap_filter.specs.EnvPairs.{lowered}
use Rattle.ldap_filter.specs.FilterText.{is_attribute_byte, IsAttribute, is_special, IsValue, Empty, Plain, Escaped, ArePieces, EmptyPiece, Star, PlainByte, EscapedByte, IsTest, Denotes, DenoteEach, AllOf, AnyOf, NoneOf, Single, Last, More, DenotesFilter, IsFilter, escaped, starred_piece, starred, test_text, joined, level_text, filter_text}
use Rattle.ldap_filter.specs.declared.test.Test.{Test}
use Rattle.ldap_filter.specs.declared.test.Test.TheVariants.{Equal, Near, AtLeast, AtMost, Present}
use Rattle.ldap_filter.specs.declared.filter.Filter.{Filter}
use Rattle.ldap_filter.specs.declared.filter.Filter.TheVariants.{And, Or, Not, Item}
use Rattle.ldap_filter.proofs.EnvKeys.{lowered_twice}
use Rattle.ldap_filter.proofs.Folds.{fold-And, fold-Or, fold-Not, fold-Item}

-- a value

plain_or_escaped : (b : ℕ) (t : Bool) → (is_special b || b == 42) ≡ t → is_special b ≡ true → t ≡ true
plain_or_escaped b true e h = refl
plain_or_escaped b false e h = grind (arith, nat_tests)

not_special : (b : ℕ) → (is_special b || b == 42) ≡ false → is_special b ≡ false
not_special b h = grind (arith, nat_tests)

IsValue-escaped : (value : List ℕ) → IsValue (escaped value) value
IsValue-escaped [] = Empty
IsValue-escaped (b ∷ value) = by_test (is_special b || b == 42) refl (IsValue-escaped value)
  where
    by_test : (t : Bool) → (is_special b || b == 42) ≡ t → IsValue (escaped value) value → IsValue (escaped (b ∷ value)) (b ∷ value)
    by_test true h rest = rw h (Escaped b (escaped value) value rest)
    by_test false h rest = rw h (Plain b (escaped value) value (not_special b h) rest)

-- pieces, before what denotes the later ones

ArePieces-escaped : (piece rest : List ℕ) (pieces : List (List ℕ)) → ArePieces rest ([] ∷ pieces) → ArePieces (escaped piece ++ rest) (piece ∷ pieces)
ArePieces-escaped [] rest pieces later = later
ArePieces-escaped (b ∷ piece) rest pieces later = by_test (is_special b || b == 42) refl (ArePieces-escaped piece rest pieces later)
  where
    by_test : (t : Bool) → (is_special b || b == 42) ≡ t → ArePieces (escaped piece ++ rest) (piece ∷ pieces) → ArePieces (escaped (b ∷ piece) ++ rest) ((b ∷ piece) ∷ pieces)
    by_test true h more = rw h (EscapedByte b (escaped piece ++ rest) piece pieces more)
    by_test false h more = rw h (PlainByte b (escaped piece ++ rest) piece pieces h more)

ArePieces-others : (pieces : List (List ℕ)) → ArePieces (flat_map starred_piece pieces) ([] ∷ pieces)
ArePieces-others [] = EmptyPiece
ArePieces-others (p ∷ pieces) = Star (escaped p ++ flat_map starred_piece pieces) (p ∷ pieces) (ArePieces-escaped p (flat_map starred_piece pieces) pieces (ArePieces-others pieces))

ArePieces-starred : (p : List ℕ) (pieces : List (List ℕ)) → ArePieces (starred (p ∷ pieces)) (p ∷ pieces)
ArePieces-starred p pieces = ArePieces-escaped p (flat_map starred_piece pieces) pieces (ArePieces-others pieces)

no_pieces : (value : List ℕ) (pieces : List (List ℕ)) → ArePieces value pieces → pieces ≡ [] → ⊥
no_pieces value pieces EmptyPiece e = cc
no_pieces value pieces (Star written ps more) e = cc
no_pieces value pieces (PlainByte b written piece ps plain more) e = cc
no_pieces value pieces (EscapedByte b written piece ps more) e = cc

empty_pieces : (value : List ℕ) (pieces : List (List ℕ)) → ArePieces value pieces → pieces ≡ [] ∷ [] → value ≡ []
empty_pieces value pieces EmptyPiece e = refl
empty_pieces value pieces (Star written (p ∷ ps) more) e = absurd (cc)
empty_pieces value pieces (Star written [] more) e = absurd (no_pieces written [] more refl)
empty_pieces value pieces (PlainByte b written piece ps plain more) e = absurd (cc)
empty_pieces value pieces (EscapedByte b written piece ps more) e = absurd (cc)

-- two empty pieces are one star alone
star_alone : (value : List ℕ) (pieces : List (List ℕ)) → ArePieces value pieces → pieces ≡ [] ∷ [] ∷ [] → value ≡ 42 ∷ []
star_alone value pieces EmptyPiece e = absurd (cc)
star_alone value pieces (Star written ps more) e = let same : ps ≡ [] ∷ [] = cc in ap (λ w. 42 ∷ w) (empty_pieces written ps more same)
star_alone value pieces (PlainByte b written piece ps plain more) e = absurd (cc)
star_alone value pieces (EscapedByte b written piece ps more) e = absurd (cc)

-- an escaped byte begins with no star
no_star : (b : ℕ) (value rest : List ℕ) → escaped (b ∷ value) ++ rest ≢ 42 ∷ []
no_star b value rest = by_test (is_special b || b == 42) refl
  where
    by_test : (t : Bool) → (is_special b || b == 42) ≡ t → (cond t (92 ∷ b ∷ []) (b ∷ []) ++ escaped value) ++ rest ≢ 42 ∷ []
    by_test true h e = absurd (cc)
    by_test false h e =
        let same : b ≡ 42 = cc in
        let star : (is_special 42 || 42 == 42) ≡ false = ap (λ x. is_special x || x == 42) (sym same) ∙ h in
        absurd (cc)

escaped_nothing : (value rest : List ℕ) → escaped value ++ rest ≡ [] → (value ≡ []) × (rest ≡ [])
escaped_nothing [] rest e = (refl, e)
escaped_nothing (b ∷ value) rest e = by_test (is_special b || b == 42) e
  where
    by_test : (t : Bool) → (cond t (92 ∷ b ∷ []) (b ∷ []) ++ escaped value) ++ rest ≡ [] → ((b ∷ value) ≡ []) × (rest ≡ [])
    by_test true e = absurd (cc)
    by_test false e = absurd (cc)

others_nothing : (pieces : List (List ℕ)) → flat_map starred_piece pieces ≡ [] → pieces ≡ []
others_nothing [] e = refl
others_nothing (p ∷ pieces) e = absurd (cc)

starred_star : (p : List ℕ) (pieces : List (List ℕ)) → starred (p ∷ pieces) ≡ 42 ∷ [] → (p ∷ pieces) ≡ [] ∷ [] ∷ []
starred_star (b ∷ p) pieces e = absurd (no_star b p (flat_map starred_piece pieces) e)
starred_star [] [] e = absurd (cc)
starred_star [] (q ∷ pieces) e =
    let nothing : escaped q ++ flat_map starred_piece pieces ≡ [] = cc in
    let parts = escaped_nothing q (flat_map starred_piece pieces) nothing in
    let first = parts.0 in
    let others = others_nothing pieces parts.1 in
    cc

IsTest-canonical : (written : List ℕ) (t : Test) → IsTest written t → IsTest (test_text t) t
IsTest-canonical written (Equal []) is = absurd (no_pieces is.0 [] is.3 refl)
IsTest-canonical written (Equal (p ∷ pieces)) is =
    (starred (p ∷ pieces), refl, λ e. is.2 (star_alone is.0 (p ∷ pieces) is.3 (starred_star p pieces e)), ArePieces-starred p pieces)
IsTest-canonical written (Near value) is = (escaped value, refl, IsValue-escaped value)
IsTest-canonical written (AtLeast value) is = (escaped value, refl, IsValue-escaped value)
IsTest-canonical written (AtMost value) is = (escaped value, refl, IsValue-escaped value)
IsTest-canonical written Present is = refl

-- an attribute

lower_attribute_byte : (b : ℕ) → is_attribute_byte b ≡ true → is_attribute_byte (to_ascii_lowercase b) ≡ true
lower_attribute_byte b h = grind (arith, nat_tests)

lower_not_white : (b : ℕ) → is_white b ≡ false → is_white (to_ascii_lowercase b) ≡ false
lower_not_white b h = grind (arith, nat_tests)

IsAttribute-canonical : (written attr : List ℕ) → IsAttribute written attr → IsAttribute attr attr
IsAttribute-canonical written attr is = record {
  before = [];
  core = attr;
  after = [];
  spelling = sym (append-nil attr);
  white_before = All-nil _;
  white_after = All-nil _;
  each = rw is.value (All-map (λ b. is_attribute_byte b ≡ true) to_ascii_lowercase is.core (All-weaker (λ b. is_attribute_byte b ≡ true) (λ b. is_attribute_byte (to_ascii_lowercase b) ≡ true) lower_attribute_byte is.core is.each));
  first = (to_ascii_lowercase is.first.0, lowered is.first.1, is.value ∙ ap lowered is.first.2, lower_not_white is.first.0 is.first.3);
  last = (lowered is.last.0, to_ascii_lowercase is.last.1, is.value ∙ (ap lowered is.last.2 ∙ map-append to_ascii_lowercase is.last.0 (is.last.1 ∷ [])), lower_not_white is.last.1 is.last.3);
  value = is.value ∙ (sym (lowered_twice is.core) ∙ ap lowered (sym is.value));
}

-- a filter

mutual
  Denotes-canonical : (text : List ℕ) (f : Filter) → Denotes text f → Denotes (filter_text f) f
  Denotes-canonical text f (AllOf before gap texts after fs wb wg wa each) =
      subst (λ t. Denotes t (And fs)) (sym (fold-And (List ℕ) level_text fs)) (AllOf [] [] (joined (map filter_text fs)) [] fs (All-nil _) (All-nil _) (All-nil _) (DenoteEach-canonical texts fs each))
  Denotes-canonical text f (AnyOf before gap texts after fs wb wg wa each) =
      subst (λ t. Denotes t (Or fs)) (sym (fold-Or (List ℕ) level_text fs)) (AnyOf [] [] (joined (map filter_text fs)) [] fs (All-nil _) (All-nil _) (All-nil _) (DenoteEach-canonical texts fs each))
  Denotes-canonical text f (NoneOf before gap inner after g wb wg wa denotes) =
      subst (λ t. Denotes t (Not g)) (sym (fold-Not (List ℕ) level_text g)) (NoneOf [] [] (filter_text g) [] g (All-nil _) (All-nil _) (All-nil _) (Denotes-canonical inner g denotes))
  Denotes-canonical text f (Single before written tested after attr test wb wa attribute is) =
      subst (λ t. Denotes t (Item attr test)) (sym (fold-Item (List ℕ) level_text attr test)) (Single [] attr (test_text test) [] attr test (All-nil _) (All-nil _) (IsAttribute-canonical written attr attribute) (IsTest-canonical tested test is))

  DenoteEach-canonical : (texts : List ℕ) (fs : List Filter) → DenoteEach texts fs → DenoteEach (joined (map filter_text fs)) fs
  DenoteEach-canonical texts fs (Last text f denotes) =
      subst (λ t. DenoteEach t (f ∷ [])) (sym (append-nil (filter_text f))) (Last (filter_text f) f (Denotes-canonical text f denotes))
  DenoteEach-canonical texts fs (More text rest f others denotes each) =
      More (filter_text f) (joined (map filter_text others)) f others (Denotes-canonical text f denotes) (DenoteEach-canonical rest others each)

pub reads_back : {E : Type 0} (f : Filter) (r : Result (List ℕ) E) (written : List ℕ) → IsFilter f → written ≡ filter_text f → IfOk r (λ text. text ≡ written) → IfOk r (λ text. DenotesFilter text f)
reads_back f (Ok text) written is canonical same =
    rw (same, canonical) record { denotes = Denotes-canonical is.0 f is.1.denotes; shallow = is.1.shallow }
reads_back f (Err e) written is canonical same = tt
