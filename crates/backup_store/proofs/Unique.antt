-- An entry has one text, and a text is that of one entry at most.
use Rattle.std.proofs.Common.{◌≡◌, ℕ, ◌+◌, ◌/◌, ◌%◌, List, [], ◌∷◌, ◌++◌, length, get_or, drop, Option, Some, None, refl, sym, ◌∙◌, ap, arith}
use Rattle.std.specs.Prelude.{IfSome}
use Rattle.std.specs.Fmt.{decimal}
use Rattle.osgi_version.specs.Field.{field}
use Rattle.folder_core.specs.Path.{path_text}
use Rattle.folder_core.specs.Folder.{Map}
use Rattle.folder_core.specs.declared.node.Node.{Node}
use Rattle.folder_core.specs.declared.node.Node.TheVariants.{File, Dir, Link}
use Rattle.backup_store.specs.Entry.{IsOldNode, IsEntry, IsEntryOf}
use Rattle.backup_store.specs.EntryText.{node_text, entry_text}
use Rattle.backup_store.specs.Held.{HoldsEntry}
use Rattle.backup_store.specs.Places.{entry_path}
use Rattle.osgi_version.proofs.Fields.{field_injective, no_lf_field}
use Rattle.backup_store.proofs.Fronts.{same_lines, differ}
use Rattle.backup_store.proofs.Texts.{no_lf_decimal, path_injective, path_utf8}

abbrev pub byte_at : ℕ → List ℕ → ℕ
byte_at k bytes = get_or bytes k 0

-- A mode has one spelling.
pub mode_injective : (m n : ℕ) → 48 + m / 8 / 8 ≡ 48 + n / 8 / 8 → 48 + m / 8 % 8 ≡ 48 + n / 8 % 8 → 48 + m % 8 ≡ 48 + n % 8 → m ≡ n
mode_injective m n first second third = omega arith

same_file : (mode mode' : ℕ) (blob blob' : List ℕ) → mode ≡ mode' → blob ≡ blob' → File mode blob ≡ File mode' blob'
same_file mode mode' blob blob' modes blobs = ap (λ (m : ℕ). File m blob) modes ∙ ap (λ (b : List ℕ). File mode' b) blobs

pub node_injective : (a b : Option Node) → IfSome a IsOldNode → IfSome b IsOldNode → node_text a ≡ node_text b → a ≡ b
unfolding node_text
node_injective None None old_a old_b same = refl
node_injective None (Some (File mode blob)) old_a old_b same = absurd (differ 110 102 (ap (byte_at 0) same) refl)
node_injective None (Some Dir) old_a old_b same = absurd (differ 110 100 (ap (byte_at 0) same) refl)
node_injective None (Some (Link target)) old_a old_b same = absurd (differ 110 108 (ap (byte_at 0) same) refl)
node_injective (Some (File mode blob)) None old_a old_b same = absurd (differ 102 110 (ap (byte_at 0) same) refl)
node_injective (Some (File mode blob)) (Some (File mode' blob')) old_a old_b same =
    let first : 48 + mode / 8 / 8 ≡ 48 + mode' / 8 / 8 = ap (byte_at 5) same in
    let second : 48 + mode / 8 % 8 ≡ 48 + mode' / 8 % 8 = ap (byte_at 6) same in
    let third : 48 + mode % 8 ≡ 48 + mode' % 8 = ap (byte_at 7) same in
    let rest : decimal (length blob) ++ 10 ∷ blob ≡ decimal (length blob') ++ 10 ∷ blob' = ap (drop 9) same in
    let parts = same_lines (decimal (length blob)) (decimal (length blob')) blob blob' (no_lf_decimal (length blob) (omega (arith, old_a.1))) (no_lf_decimal (length blob') (omega (arith, old_b.1))) rest in
    ap (λ (n : Node). Some n) (same_file mode mode' blob blob' (mode_injective mode mode' first second third) parts.1)
node_injective (Some (File mode blob)) (Some Dir) old_a old_b same = absurd (differ 102 100 (ap (byte_at 0) same) refl)
node_injective (Some (File mode blob)) (Some (Link target)) old_a old_b same = absurd (differ 102 108 (ap (byte_at 0) same) refl)
node_injective (Some Dir) None old_a old_b same = absurd (differ 100 110 (ap (byte_at 0) same) refl)
node_injective (Some Dir) (Some (File mode blob)) old_a old_b same = absurd (differ 100 102 (ap (byte_at 0) same) refl)
node_injective (Some Dir) (Some Dir) old_a old_b same = refl
node_injective (Some Dir) (Some (Link target)) old_a old_b same = absurd (differ 100 108 (ap (byte_at 0) same) refl)
node_injective (Some (Link target)) None old_a old_b same = absurd (differ 108 110 (ap (byte_at 0) same) refl)
node_injective (Some (Link target)) (Some (File mode blob)) old_a old_b same = absurd (differ 108 102 (ap (byte_at 0) same) refl)
node_injective (Some (Link target)) (Some Dir) old_a old_b same = absurd (differ 108 100 (ap (byte_at 0) same) refl)
node_injective (Some (Link target)) (Some (Link target')) old_a old_b same =
    let rest : field target ++ 10 ∷ [] ≡ field target' ++ 10 ∷ [] = ap (drop 5) same in
    let parts = same_lines (field target) (field target') [] [] (no_lf_field target) (no_lf_field target') rest in
    ap (λ (t : List ℕ). Some (Link t)) (field_injective target target' old_a.1 old_b.1 parts.0)

-- the line of the path and what comes behind it
pub entry_parts : (path other : List (List ℕ)) (before node : Option Node) → entry_text path before ≡ entry_text other node → (field (path_text path) ≡ field (path_text other)) × (node_text before ≡ node_text node)
unfolding entry_text
entry_parts path other before node same =
    let rest : field (path_text path) ++ 10 ∷ node_text before ≡ field (path_text other) ++ 10 ∷ node_text node = ap (drop 15) same in
    same_lines (field (path_text path)) (field (path_text other)) (node_text before) (node_text node) (no_lf_field (path_text path)) (no_lf_field (path_text other)) rest

pub same_entry_path : (path other : List (List ℕ)) (before node : Option Node) → IsEntry path before → IsEntry other node → entry_text path before ≡ entry_text other node → path ≡ other
same_entry_path path other before node is is' same =
    let parts = entry_parts path other before node same in
    path_injective path other is.is_path is'.is_path (field_injective (path_text path) (path_text other) (path_utf8 path is.is_path) (path_utf8 other is'.is_path) parts.0)

pub same_entry_node : (path other : List (List ℕ)) (before node : Option Node) → IsEntry path before → IsEntry other node → entry_text path before ≡ entry_text other node → before ≡ node
same_entry_node path other before node is is' same =
    node_injective before node is.old is'.old (entry_parts path other before node same).1

-- what is written is the text of its entry
pub IsEntryOf-text : (path : List (List ℕ)) (before : Option Node) (bytes : List ℕ) → IsEntry path before → entry_text path before ≡ bytes → IsEntryOf bytes path before
IsEntryOf-text path before bytes is spelled = record {
  entry = is;
  spelling = spelled;
  only_path = λ other node is' spelled'. same_entry_path other path node before is' is (spelled' ∙ sym spelled);
  only_node = λ other node is' spelled'. same_entry_node other path node before is' is (spelled' ∙ sym spelled);
}

same_blob : (node : Option Node) (mode mode' : ℕ) (a b : List ℕ) → node ≡ Some (File mode a) → node ≡ Some (File mode' b) → a ≡ b
same_blob node mode mode' a b is is' = let same : Some (File mode a) ≡ Some (File mode' b) = sym is ∙ is' in cc

-- A map holds one entry of a number at most.
pub holds_one_path : (m : Map) (k : ℕ) (path other : List (List ℕ)) (before node : Option Node) → HoldsEntry m k path before → HoldsEntry m k other node → path ≡ other
holds_one_path m k path other before node holds holds' =
    same_entry_path path other before node holds.entry holds'.entry (same_blob (m (entry_path k)) holds.file.0 holds'.file.0 (entry_text path before) (entry_text other node) holds.file.1 holds'.file.1)

pub holds_one_node : (m : Map) (k : ℕ) (path other : List (List ℕ)) (before node : Option Node) → HoldsEntry m k path before → HoldsEntry m k other node → before ≡ node
holds_one_node m k path other before node holds holds' =
    same_entry_node path other before node holds.entry holds'.entry (same_blob (m (entry_path k)) holds.file.0 holds'.file.0 (entry_text path before) (entry_text other node) holds.file.1 holds'.file.1)
