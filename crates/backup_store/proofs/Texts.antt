-- The parts of an entry's text: no LF in a line, and how long they are.
use Rattle.std.proofs.Common.{◌≡◌, ◌≢◌, ℕ, zero, suc, ◌+◌, ◌*◌, ◌^◌, ◌/◌, ◌%◌, ◌<◌, ◌≤◌, List, [], ◌∷◌, ◌++◌, length, Option, Some, None, All, Contains, refl, sym, ◌∙◌, ap, subst, arith, lit<, length-append}
use Rattle.std.specs.Prelude.{IfSome}
use Rattle.std.specs.List.{flat_map}
use Rattle.std.specs.Fmt.{decimal}
use Rattle.std.specs.Str.{IsUtf8, IsAscii}
use Rattle.std.proofs.lemmas.Str.{IsUtf8-append, IsUtf8-nil, IsUtf8-from_ascii}
use Rattle.std.proofs.lemmas.List.Elements.{All-head, All-tail, All-nil, All-cons, All-push, All-contains}
use Rattle.std.proofs.lemmas.Fmt.{decimal_by_steps, length-decimal-le}
use Rattle.osgi_version.specs.Field.{field, field_byte, is_field_byte, hex_digit}
use Rattle.folder_core.specs.Name.{IsName}
use Rattle.folder_core.specs.Path.{IsPath, path_text}
use Rattle.folder_core.specs.declared.node.Node.{Node}
use Rattle.folder_core.specs.declared.node.Node.TheVariants.{File, Dir, Link}
use Rattle.backup_store.specs.Entry.{IsOldNode, IsEntry}
use Rattle.backup_store.specs.EntryText.{node_text, entry_text}
use Rattle.osgi_version.proofs.Bytes.{cond_holds}
use Rattle.backup_store.proofs.Fronts.{same_parts, contains_cut}

-- decimal digits
abbrev pub AreDigits : List ℕ → Type 0
AreDigits bytes = All (λ b. (48 ≤ b) × (b ≤ 57)) bytes

pub AreDigits-decimal : (n : ℕ) → n < 2 ^ 64 → AreDigits (decimal n)
AreDigits-decimal n small = decimal_by_steps (λ _ ds. AreDigits ds)
    (λ d below. All-cons (λ b. (48 ≤ b) × (b ≤ 57)) (48 + d) [] (omega arith, omega arith) (All-nil (λ b. (48 ≤ b) × (b ≤ 57))))
    (λ d ds above are. All-push (λ b. (48 ≤ b) × (b ≤ 57)) ds (48 + d % 10) are (omega arith, omega arith))
    n small

pub no_lf_decimal : (n : ℕ) → n < 2 ^ 64 → ¬ (Contains (decimal n) 10)
no_lf_decimal n small has =
    let digit = All-contains (λ b. (48 ≤ b) × (b ≤ 57)) (decimal n) 10 (AreDigits-decimal n small) has in
    omega (arith, digit.0)

slash_ascii : IsAscii (47 ∷ [])
slash_ascii zero = lit< tt
slash_ascii (suc i) = lit< tt

join_utf8 : (path : List (List ℕ)) → All IsName path → IsUtf8 (path_text path)
join_utf8 [] names = IsUtf8-nil
join_utf8 (x ∷ []) names = (All-head IsName x [] names).utf8
join_utf8 (x ∷ y ∷ path) names =
    IsUtf8-append x (47 ∷ path_text (y ∷ path)) (All-head IsName x (y ∷ path) names).utf8
    (IsUtf8-append (47 ∷ []) (path_text (y ∷ path)) (IsUtf8-from_ascii (47 ∷ []) slash_ascii) (join_utf8 (y ∷ path) (All-tail IsName x (y ∷ path) names)))

pub path_utf8 : (path : List (List ℕ)) → IsPath path → IsUtf8 (path_text path)
path_utf8 path is = join_utf8 path is.names

empty_text : (x : List ℕ) (path : List (List ℕ)) → IsName x → path_text (x ∷ path) ≢ []
empty_text [] path is none = is.some refl
empty_text (b ∷ x) [] is none = cc
empty_text (b ∷ x) (y ∷ path) is none = cc

join_injective : (p q : List (List ℕ)) → All IsName p → All IsName q → path_text p ≡ path_text q → p ≡ q
join_injective [] [] names_p names_q same = refl
join_injective [] (y ∷ q) names_p names_q same = absurd (empty_text y q (All-head IsName y q names_q) (sym same))
join_injective (x ∷ p) [] names_p names_q same = absurd (empty_text x p (All-head IsName x p names_p) same)
join_injective (x ∷ []) (y ∷ []) names_p names_q same = ap (λ (l : List ℕ). l ∷ []) same
join_injective (x ∷ []) (y ∷ z ∷ q) names_p names_q same =
    absurd ((All-head IsName x [] names_p).no_slash (subst (λ l. Contains l 47) (sym same) (contains_cut 47 y (path_text (z ∷ q)))))
join_injective (x ∷ z ∷ p) (y ∷ []) names_p names_q same =
    absurd ((All-head IsName y [] names_q).no_slash (subst (λ l. Contains l 47) same (contains_cut 47 x (path_text (z ∷ p)))))
join_injective (x ∷ z ∷ p) (y ∷ w ∷ q) names_p names_q same =
    let parts = same_parts 47 x y (path_text (z ∷ p)) (path_text (w ∷ q)) (All-head IsName x (z ∷ p) names_p).no_slash (All-head IsName y (w ∷ q) names_q).no_slash same in
    let rest = join_injective (z ∷ p) (w ∷ q) (All-tail IsName x (z ∷ p) names_p) (All-tail IsName y (w ∷ q) names_q) parts.1 in
    ap (λ (l : List ℕ). l ∷ z ∷ p) parts.0 ∙ ap (λ (l : List (List ℕ)). y ∷ l) rest

-- A path has one text.
pub path_injective : (p q : List (List ℕ)) → IsPath p → IsPath q → path_text p ≡ path_text q → p ≡ q
path_injective p q is_p is_q same = join_injective p q is_p.names is_q.names same

join_short : (path : List (List ℕ)) → All IsName path → length (path_text path) ≤ 256 * length path
join_short [] names = omega arith
join_short (x ∷ []) names = let short = (All-head IsName x [] names).short in omega arith
join_short (x ∷ y ∷ path) names =
    let short = (All-head IsName x (y ∷ path) names).short in
    let rest = join_short (y ∷ path) (All-tail IsName x (y ∷ path) names) in
    let both = length-append x (47 ∷ path_text (y ∷ path)) in
    omega (arith, short, rest, both)

escaped_short : (bytes : List ℕ) → length (flat_map field_byte bytes) ≤ 3 * length bytes
escaped_short [] = omega arith
escaped_short (b ∷ bytes) =
    let rest = escaped_short bytes in
    cond_holds (λ (l : List ℕ). length (l ++ flat_map field_byte bytes) ≤ 3 * length (b ∷ bytes)) (is_field_byte b) (b ∷ []) (37 ∷ hex_digit (b / 16) ∷ hex_digit (b % 16) ∷ [])
    (λ is. omega (arith, rest))
    (λ other. omega (arith, rest))

field_short : (bytes : List ℕ) → length (field bytes) ≤ 3 * length bytes + 2
field_short [] = omega arith
field_short (b ∷ bytes) = let short = escaped_short (b ∷ bytes) in omega (arith, short)

node_short : (node : Option Node) → IfSome node IsOldNode → length (node_text node) ≤ 67108864 + 64
unfolding node_text
node_short None old = omega arith
node_short (Some (File mode blob)) old =
    let digits = length-decimal-le 20 (length blob) (omega arith) (omega (arith, old.1)) (omega (arith, old.1)) in
    let both = length-append (decimal (length blob)) (10 ∷ blob) in
    omega (arith, digits, both, old.1)
node_short (Some Dir) old = omega arith
node_short (Some (Link target)) old =
    let short = field_short target in
    let both = length-append (field target) (10 ∷ []) in
    omega (arith, short, both, old.0)

-- The text of an entry fits a blob.
pub entry_short : (path : List (List ℕ)) (before : Option Node) → IsEntry path before → length (entry_text path before) ≤ 67174400
unfolding entry_text
entry_short path before is =
    let node = node_short before is.old in
    let short = join_short path is.is_path.names in
    let few = is.is_path.short in
    let spelled = field_short (path_text path) in
    let both = length-append (field (path_text path)) (10 ∷ node_text before) in
    omega (arith, node, short, few, spelled, both)
