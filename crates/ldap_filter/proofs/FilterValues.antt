-- What a value stands for, as it is read byte by byte and as the grammar has it.
use Rattle.std.proofs.Common.{◌≡◌, ℕ, ◌+◌, ◌<◌, ◌||◌, ◌==◌, Bool, true, false, cond, Some, None, option_and_then, List, [], ◌∷◌, ◌++◌, length, get_or, take, drop, refl, ap, sym, subst, ◌∙◌, arith, append_assoc, append-nil, length-append, lit<}
use Rattle.std.specs.Prelude.{⊤}
use Rattle.std.specs.Str.{IsUtf8}
use Rattle.std.proofs.lemmas.List.{get_or_at, drop_at, take_at}
use Rattle.std.proofs.lemmas.Str.{IsUtf8-append, IsUtf8-drop, IsUtf8-take, IsCharBoundary-before_ascii, IsCharBoundary-after_ascii}
use Rattle.std.proofs.lemmas.Bool.Decides.{nat_tests}
use Rattle.ldap_filter.specs.FilterText.{is_special, IsValue, Empty, Plain, Escaped, ArePieces, EmptyPiece, Star, PlainByte, EscapedByte}
use Rattle.ldap_filter.specs.FilterValue.{scan, plain_from, plain, Pieces, each_piece, with_byte, with_star, pieces_from, pieces}

pub is_byte : (b k : ℕ) → (b == k) ≡ true → b ≡ k
is_byte b k h = grind (arith, nat_tests)

pub scan-append : (xs ys : List ℕ) (e : Bool) → scan e (xs ++ ys) ≡ option_and_then (λ t. scan t ys) (scan e xs)
scan-append [] ys e = refl
scan-append (b ∷ xs) ys true = scan-append xs ys false
scan-append (b ∷ xs) ys false =
    elim (b == 92) as (λ t. cond t (scan true (xs ++ ys)) (cond (b == 40 || b == 41) None (scan false (xs ++ ys))) ≡ option_and_then (λ u. scan u ys) (cond t (scan true xs) (cond (b == 40 || b == 41) None (scan false xs)))) [
      | true ↦ scan-append xs ys true
      | false ↦ elim (b == 40 || b == 41) as (λ t. cond t None (scan false (xs ++ ys)) ≡ option_and_then (λ u. scan u ys) (cond t None (scan false xs))) [
        | true ↦ refl
        | false ↦ scan-append xs ys false
      ]
    ]

-- one value

abbrev IsRead : Bool → List ℕ → Type 0
IsRead false v = IsValue v (plain_from false v)
IsRead true v = IsValue (92 ∷ v) (plain_from true v)

not_special : (b : ℕ) → (b == 92) ≡ false → (b == 40 || b == 41) ≡ false → is_special b ≡ false
not_special b h k = grind (arith, nat_tests)

read-byte : (b : ℕ) (bs : List ℕ) (t u : Bool) → (b == 92) ≡ t → (b == 40 || b == 41) ≡ u → (scan true bs ≡ Some false → IsRead true bs) → (scan false bs ≡ Some false → IsRead false bs)
    → cond t (scan true bs) (cond u None (scan false bs)) ≡ Some false → IsValue (b ∷ bs) (cond t (plain_from true bs) (b ∷ plain_from false bs))
read-byte b bs true u e f more rest h = let same : b ≡ 92 = is_byte b 92 e in rw same (more h)
read-byte b bs false true e f more rest h = absurd (cc)
read-byte b bs false false e f more rest h = Plain b bs (plain_from false bs) (not_special b e f) (rest h)

read : (v : List ℕ) (e : Bool) → scan e v ≡ Some false → IsRead e v
read [] false h = Empty
read [] true h = absurd (cc)
read (b ∷ bs) true h = Escaped b bs (plain_from false bs) (read bs false h)
read (b ∷ bs) false h = read-byte b bs (b == 92) (b == 40 || b == 41) refl refl (read bs true) (read bs false) h

pub IsValue-read : (v : List ℕ) → scan false v ≡ Some false → IsValue v (plain v)
IsValue-read v h = read v false h

no_backslash : (b : ℕ) → is_special b ≡ false → (b == 92) ≡ false
no_backslash b h = grind (arith, nat_tests)

no_parenthesis : (b : ℕ) → is_special b ≡ false → (b == 40 || b == 41) ≡ false
no_parenthesis b h = grind (arith, nat_tests)

pub IsValue-scan : (v p : List ℕ) → IsValue v p → (scan false v ≡ Some false) × (plain v ≡ p)
IsValue-scan v p Empty = (refl, refl)
IsValue-scan v p (Plain b w q special more) =
    let later = IsValue-scan w q more in
    (simp (no_backslash b special, no_parenthesis b special) later.0, simp (no_backslash b special) (ap (λ r. b ∷ r) later.1))
IsValue-scan v p (Escaped b w q more) = let later = IsValue-scan w q more in (later.0, ap (λ r. b ∷ r) later.1)

-- pieces

abbrev ArePiecesRead : Bool → List ℕ → Type 0
ArePiecesRead false v = ArePieces v (each_piece (pieces_from false v))
ArePiecesRead true v = ArePieces (92 ∷ v) (each_piece (pieces_from true v))

not_special_star : (b : ℕ) → (b == 92) ≡ false → (b == 42) ≡ false → (b == 40 || b == 41) ≡ false → (is_special b || b == 42) ≡ false
not_special_star b h k m = grind (arith, nat_tests)

pieces-byte : (b : ℕ) (bs : List ℕ) (t s u : Bool) → (b == 92) ≡ t → (b == 42) ≡ s → (b == 40 || b == 41) ≡ u
    → (scan true bs ≡ Some false → ArePiecesRead true bs) → (scan false bs ≡ Some false → ArePiecesRead false bs)
    → cond t (scan true bs) (cond u None (scan false bs)) ≡ Some false
    → ArePieces (b ∷ bs) (each_piece (cond t (pieces_from true bs) (cond s (with_star (pieces_from false bs)) (with_byte b (pieces_from false bs)))))
pieces-byte b bs true s u e g f more rest h = let same : b ≡ 92 = is_byte b 92 e in rw same (more h)
pieces-byte b bs false s true e g f more rest h = absurd (cc)
pieces-byte b bs false true false e g f more rest h =
    let same : b ≡ 42 = is_byte b 42 g in rw same (Star bs (each_piece (pieces_from false bs)) (rest h))
pieces-byte b bs false false false e g f more rest h =
    PlainByte b bs (pieces_from false bs).first (pieces_from false bs).later (not_special_star b e g f) (rest h)

pieces-read : (v : List ℕ) (e : Bool) → scan e v ≡ Some false → ArePiecesRead e v
pieces-read [] false h = EmptyPiece
pieces-read [] true h = absurd (cc)
pieces-read (b ∷ bs) true h = EscapedByte b bs (pieces_from false bs).first (pieces_from false bs).later (pieces-read bs false h)
pieces-read (b ∷ bs) false h =
    pieces-byte b bs (b == 92) (b == 42) (b == 40 || b == 41) refl refl refl (pieces-read bs true) (pieces-read bs false) h

pub ArePieces-read : (v : List ℕ) → scan false v ≡ Some false → ArePieces v (pieces v)
ArePieces-read v h = pieces-read v false h

plain_byte : (b : ℕ) → (is_special b || b == 42) ≡ false → ((b == 92) ≡ false) × ((b == 42) ≡ false) × ((b == 40 || b == 41) ≡ false)
plain_byte b h = (grind (arith, nat_tests), grind (arith, nat_tests), grind (arith, nat_tests))

first_byte : (b : ℕ) (p : Pieces) (piece : List ℕ) (ps : List (List ℕ)) → each_piece p ≡ piece ∷ ps → each_piece (with_byte b p) ≡ (b ∷ piece) ∷ ps
first_byte b p piece ps same = cc

pub ArePieces-scan : (v : List ℕ) (ps : List (List ℕ)) → ArePieces v ps → (scan false v ≡ Some false) × (pieces v ≡ ps)
ArePieces-scan v ps EmptyPiece = (refl, refl)
ArePieces-scan v ps (Star w qs more) = let later = ArePieces-scan w qs more in (later.0, ap (λ r. [] ∷ r) later.1)
ArePieces-scan v ps (PlainByte b w piece qs special more) =
    let later = ArePieces-scan w (piece ∷ qs) more in
    let tests = plain_byte b special in
    (simp (tests.0, tests.2) later.0, simp (tests.0, tests.1) (first_byte b (pieces_from false w) piece qs later.1))
ArePieces-scan v ps (EscapedByte b w piece qs more) =
    let later = ArePieces-scan w (piece ∷ qs) more in (later.0, first_byte b (pieces_from false w) piece qs later.1)

-- UTF-8

pub cut_utf8 : (xs : List ℕ) (b : ℕ) (ys : List ℕ) → b < 128 → IsUtf8 (xs ++ b ∷ ys) → IsUtf8 xs × IsUtf8 ys
cut_utf8 xs b ys low utf8 =
    let text : List ℕ = xs ++ b ∷ ys in
    let long : length text ≡ length xs + length (b ∷ ys) = length-append xs (b ∷ ys) in
    let inside : length xs < length text = omega arith in
    let here : get_or text (length xs) 0 ≡ b = get_or_at xs b ys 0 (length xs) refl in
    let ascii : get_or text (length xs) 0 < 128 = rw here low in
    let front : IsUtf8 (take (length xs) text) = IsUtf8-take text (length xs) utf8 (IsCharBoundary-before_ascii text (length xs) inside ascii) in
    let back : IsUtf8 (drop (length xs + 1) text) = IsUtf8-drop text (length xs + 1) utf8 (IsCharBoundary-after_ascii text (length xs) utf8 inside ascii) in
    let regroup : text ≡ (xs ++ b ∷ []) ++ ys = sym (append_assoc xs (b ∷ []) ys) in
    let count : length (xs ++ b ∷ []) ≡ length xs + 1 = length-append xs (b ∷ []) in (
      subst IsUtf8 (take_at xs (b ∷ ys) (length xs) refl) front,
      subst IsUtf8 (ap (drop (length xs + 1)) regroup ∙ drop_at (xs ++ b ∷ []) ys (length xs + 1) count) back,
    )

pub utf8-IsValue : (v p front : List ℕ) → IsValue v p → IsUtf8 (front ++ v) → IsUtf8 (front ++ p)
utf8-IsValue v p front Empty utf8 = utf8
utf8-IsValue v p front (Plain b w q special more) utf8 =
    subst IsUtf8 (append_assoc front (b ∷ []) q)
    (utf8-IsValue w q (front ++ b ∷ []) more (subst IsUtf8 (sym (append_assoc front (b ∷ []) w)) utf8))
utf8-IsValue v p front (Escaped b w q more) utf8 =
    let cut = cut_utf8 front 92 (b ∷ w) (lit< tt) utf8 in
    let joined : IsUtf8 (front ++ b ∷ w) = IsUtf8-append front (b ∷ w) cut.0 cut.1 in
    subst IsUtf8 (append_assoc front (b ∷ []) q)
    (utf8-IsValue w q (front ++ b ∷ []) more (subst IsUtf8 (sym (append_assoc front (b ∷ []) w)) joined))

-- the first behind these bytes, and the later ones
abbrev pub AreUtf8 : List ℕ → List (List ℕ) → Type 0
AreUtf8 front [] = ⊤
AreUtf8 front (p ∷ ps) = IsUtf8 (front ++ p) × AreUtf8 [] ps

regroup-AreUtf8 : (front : List ℕ) (b : ℕ) (p : List ℕ) (ps : List (List ℕ)) → AreUtf8 (front ++ b ∷ []) (p ∷ ps) → AreUtf8 front ((b ∷ p) ∷ ps)
regroup-AreUtf8 front b p ps are = (subst IsUtf8 (append_assoc front (b ∷ []) p) are.0, are.1)

pub utf8-ArePieces : (v : List ℕ) (ps : List (List ℕ)) (front : List ℕ) → ArePieces v ps → IsUtf8 (front ++ v) → AreUtf8 front ps
utf8-ArePieces v ps front EmptyPiece utf8 = (utf8, tt)
utf8-ArePieces v ps front (Star w qs more) utf8 =
    let cut = cut_utf8 front 42 w (lit< tt) utf8 in
    (subst IsUtf8 (sym (append-nil front)) cut.0, utf8-ArePieces w qs [] more cut.1)
utf8-ArePieces v ps front (PlainByte b w p qs special more) utf8 =
    regroup-AreUtf8 front b p qs (utf8-ArePieces w (p ∷ qs) (front ++ b ∷ []) more (subst IsUtf8 (sym (append_assoc front (b ∷ []) w)) utf8))
utf8-ArePieces v ps front (EscapedByte b w p qs more) utf8 =
    let cut = cut_utf8 front 92 (b ∷ w) (lit< tt) utf8 in
    let joined : IsUtf8 (front ++ b ∷ w) = IsUtf8-append front (b ∷ w) cut.0 cut.1 in
    regroup-AreUtf8 front b p qs (utf8-ArePieces w (p ∷ qs) (front ++ b ∷ []) more (subst IsUtf8 (sym (append_assoc front (b ∷ []) w)) joined))

pub AreUtf8-at : (list : List (List ℕ)) (p : List ℕ) (ps : List (List ℕ)) → AreUtf8 [] (list ++ p ∷ ps) → IsUtf8 p
AreUtf8-at [] p ps are = are.0
AreUtf8-at (q ∷ list) p ps are = AreUtf8-at list p ps are.1

pub plain_utf8 : (written bytes : List ℕ) → IsUtf8 written → scan false written ≡ Some false → bytes ≡ plain written → IsUtf8 bytes
plain_utf8 written bytes utf8 whole same = rw same (utf8-IsValue written (plain written) [] (IsValue-read written whole) utf8)

pub piece_utf8 : (written piece : List ℕ) (list later : List (List ℕ)) → IsUtf8 written → scan false written ≡ Some false → list ++ piece ∷ later ≡ pieces written → IsUtf8 piece
piece_utf8 written piece list later utf8 whole same =
    AreUtf8-at list piece later (rw same (utf8-ArePieces written (pieces written) [] (ArePieces-read written whole) utf8))
