-- What the parts of an entry's text may be.
use Rattle.std.proofs.Common.{◌≡◌, ◌≢◌, ℕ, ◌<◌, ◌≤◌, List, [], ◌∷◌, ◌++◌, length, drop, Option, Some, None, Contains, refl, sym, ◌∙◌, ap, subst, arith}
use Rattle.std.specs.Prelude.{codes, MatchOption, Result, Ok, Err, IfOk}
use Rattle.std.specs.Fmt.{decimal}
use Rattle.std.specs.Str.{IsUtf8}
use Rattle.osgi_version.specs.Field.{field, IsFieldOf, IsNoField}
use Rattle.folder_core.specs.Path.{IsPathOf, HasNoPath, path_text}
use Rattle.folder_core.specs.declared.node.Node.{Node}
use Rattle.folder_core.specs.declared.node.Node.TheVariants.{File, Dir, Link}
use Rattle.backup_store.specs.Entry.{IsEntryOf, IsNoEntry}
use Rattle.backup_store.specs.EntryText.{node_text, entry_text, mode_digits}
use Rattle.backup_store.specs.Parts.{IsPathField, IsNoPathField, IsNodeText, IsNoNodeText, IsNodeBehind, IsNoNodeBehind}
use Rattle.osgi_version.proofs.Fields.{field_injective, no_lf_field}
use Rattle.backup_store.proofs.Fronts.{same_lines, contains_in_middle, differ}
use Rattle.backup_store.proofs.Texts.{no_lf_decimal, path_utf8}
use Rattle.backup_store.proofs.Unique.{byte_at, IsEntryOf-text}

-- A node whose text begins as that of a link is one.
record IsLinkBehind (bytes : List ℕ) (target : List ℕ) : Type 0 where
  short : length target ≤ 4096
  utf8 : IsUtf8 target
  spelling : field target ++ 10 ∷ [] ≡ bytes

record IsFileBehind (bytes : List ℕ) (mode : ℕ) (blob : List ℕ) : Type 0 where
  mode_small : mode ≤ 511
  small : length blob ≤ 67108864
  spelling : mode_digits mode ++ 32 ∷ (decimal (length blob) ++ 10 ∷ blob) ≡ bytes

-- what a fact of each link's target refuses
no_link_but : (bytes : List ℕ) → ((target : List ℕ) → ¬ (IsLinkBehind bytes target)) → IsNoNodeBehind (codes "link ") bytes
unfolding node_text
no_link_but bytes none (File mode blob) old is = differ 102 108 (ap (byte_at 0) is) refl
no_link_but bytes none Dir old is = differ 100 108 (ap (byte_at 0) is) refl
no_link_but bytes none (Link target) old is = none target (record { short = old.0; utf8 = old.1; spelling = ap (drop 5) is })

no_file_but : (bytes : List ℕ) → ((mode : ℕ) (blob : List ℕ) → ¬ (IsFileBehind bytes mode blob)) → IsNoNodeBehind (codes "file ") bytes
unfolding node_text
no_file_but bytes none (File mode blob) old is = none mode blob (record { mode_small = old.0; small = old.1; spelling = ap (drop 5) is })
no_file_but bytes none Dir old is = differ 100 102 (ap (byte_at 0) is) refl
no_file_but bytes none (Link target) old is = differ 108 102 (ap (byte_at 0) is) refl

pub no_link_line : (bytes : List ℕ) → ((line : List ℕ) → ¬ (Contains line 10) → bytes ≢ line ++ 10 ∷ []) → IsNoNodeBehind (codes "link ") bytes
no_link_line bytes none = no_link_but bytes (λ target is. none (field target) (no_lf_field target) (sym is.spelling))

link_line : (bytes line target : List ℕ) → bytes ≡ line ++ 10 ∷ [] → ¬ (Contains line 10) → IsLinkBehind bytes target → field target ≡ line
link_line bytes line target whole no_lf is =
    (same_lines (field target) line [] [] (no_lf_field target) no_lf (is.spelling ∙ whole)).0

pub no_link_field : (bytes line : List ℕ) → bytes ≡ line ++ 10 ∷ [] → ¬ (Contains line 10) → IsNoField line → IsNoNodeBehind (codes "link ") bytes
no_link_field bytes line whole no_lf none = no_link_but bytes (λ target is. none target is.utf8 (link_line bytes line target whole no_lf is))

pub no_link_long : (bytes line target : List ℕ) → bytes ≡ line ++ 10 ∷ [] → ¬ (Contains line 10) → IsFieldOf line target → 4096 < length target → IsNoNodeBehind (codes "link ") bytes
no_link_long bytes line target whole no_lf of long =
    no_link_but bytes (λ other is.
    let same = field_injective other target is.utf8 of.utf8 (link_line bytes line other whole no_lf is ∙ sym of.spelling) in
    let short = is.short in
    let lengths = ap length same in
    omega (arith, short, lengths))

pub link_found : (bytes line target : List ℕ) → bytes ≡ line ++ 10 ∷ [] → IsFieldOf line target → length target ≤ 4096 → IsNodeBehind (codes "link ") bytes (Link target)
unfolding node_text
link_found bytes line target whole of short = record {
  old = (short, of.utf8);
  spelling = ap (λ (l : List ℕ). codes "link " ++ (l ++ 10 ∷ [])) of.spelling ∙ ap (λ (l : List ℕ). codes "link " ++ l) (sym whole);
}

pub no_file_mode : (bytes : List ℕ) → ((mode : ℕ) (rest : List ℕ) → mode ≤ 511 → bytes ≢ mode_digits mode ++ 32 ∷ rest) → IsNoNodeBehind (codes "file ") bytes
no_file_mode bytes none = no_file_but bytes (λ mode blob is. none mode (decimal (length blob) ++ 10 ∷ blob) is.mode_small (sym is.spelling))

file_rest : (bytes rest : List ℕ) (mode other : ℕ) (blob : List ℕ) → bytes ≡ mode_digits mode ++ 32 ∷ rest → IsFileBehind bytes other blob → decimal (length blob) ++ 10 ∷ blob ≡ rest
file_rest bytes rest mode other blob whole is = ap (drop 4) (is.spelling ∙ whole)

pub no_file_line : (bytes rest : List ℕ) (mode : ℕ) → bytes ≡ mode_digits mode ++ 32 ∷ rest → ¬ (Contains rest 10) → IsNoNodeBehind (codes "file ") bytes
no_file_line bytes rest mode whole no_lf = no_file_but bytes (λ other blob is.
    no_lf (subst (λ l. Contains l 10) (file_rest bytes rest mode other blob whole is) (contains_in_middle (decimal (length blob)) blob)))

pub no_file_count : (bytes rest count content : List ℕ) (mode : ℕ) → bytes ≡ mode_digits mode ++ 32 ∷ rest → rest ≡ count ++ 10 ∷ content → ¬ (Contains count 10)
    → ¬ ((length content ≤ 67108864) × (count ≡ decimal (length content))) → IsNoNodeBehind (codes "file ") bytes
no_file_count bytes rest count content mode whole parts no_lf other = no_file_but bytes (λ mode' blob is.
    let small = is.small in
    let same = same_lines (decimal (length blob)) count blob content (no_lf_decimal (length blob) (omega (arith, small))) no_lf (file_rest bytes rest mode mode' blob whole is ∙ parts) in
    other (subst (λ l. length l ≤ 67108864) same.1 small, sym same.0 ∙ ap (λ (l : List ℕ). decimal (length l)) same.1))

pub file_found : (bytes rest count content : List ℕ) (mode : ℕ) → mode ≤ 511 → bytes ≡ mode_digits mode ++ 32 ∷ rest → rest ≡ count ++ 10 ∷ content
    → length content ≤ 67108864 → count ≡ decimal (length content) → IsNodeBehind (codes "file ") bytes (File mode content)
unfolding node_text
file_found bytes rest count content mode small whole parts short counted = record {
  old = (small, short);
  spelling =
      ap (λ (l : List ℕ). codes "file " ++ (mode_digits mode ++ 32 ∷ (l ++ 10 ∷ content))) (sym counted)
      ∙ ap (λ (l : List ℕ). codes "file " ++ (mode_digits mode ++ 32 ∷ l)) (sym parts)
      ∙ ap (λ (l : List ℕ). codes "file " ++ l) (sym whole);
}

pub dir_found : (bytes : List ℕ) → bytes ≡ codes "dir" ++ 10 ∷ [] → IsNodeBehind [] bytes Dir
unfolding node_text
dir_found bytes is = record { old = tt; spelling = sym is }

-- A text that begins as none of the kinds is that of no node.
pub no_node : (bytes : List ℕ) → bytes ≢ codes "dir" ++ 10 ∷ [] → ((rest : List ℕ) → bytes ≢ codes "link " ++ rest) → ((rest : List ℕ) → bytes ≢ codes "file " ++ rest) → IsNoNodeBehind [] bytes
unfolding node_text
no_node bytes no_dir no_link no_file (File mode blob) old is = no_file (mode_digits mode ++ 32 ∷ (decimal (length blob) ++ 10 ∷ blob)) (sym is)
no_node bytes no_dir no_link no_file Dir old is = no_dir (sym is)
no_node bytes no_dir no_link no_file (Link target) old is = no_link (field target ++ 10 ∷ []) (sym is)

pub nothing_found : (bytes : List ℕ) → bytes ≡ codes "none" ++ 10 ∷ [] → IsNodeText bytes None
unfolding node_text
nothing_found bytes is = record { old = tt; spelling = sym is }

pub no_before : (bytes : List ℕ) → bytes ≢ codes "none" ++ 10 ∷ [] → IsNoNodeBehind [] bytes → IsNoNodeText bytes
unfolding node_text
no_before bytes no_nothing none None old is = no_nothing (sym is)
no_before bytes no_nothing none (Some node) old is = none node old is

pub no_path_field : (bytes : List ℕ) → IsNoField bytes → IsNoPathField bytes
no_path_field bytes none path is_path is = none (path_text path) (path_utf8 path is_path) is

pub path_read : {E : Type 0} (bytes text : List ℕ) (found : Result (Option (List (List ℕ))) E) → IsFieldOf bytes text → IfOk found (λ path. MatchOption path (HasNoPath text) (IsPathOf text))
    → IfOk found (λ path. MatchOption path (IsNoPathField bytes) (IsPathField bytes))
path_read bytes text (Ok None) of none = λ path is_path is.
    none path is_path (field_injective (path_text path) text (path_utf8 path is_path) of.utf8 (is ∙ sym of.spelling))
path_read bytes text (Ok (Some path)) of is = record { is_path = is.is_path; spelling = ap field is.spelling ∙ of.spelling }
path_read bytes text (Err e) of is = tt

entry_behind : (path : List (List ℕ)) (before : Option Node) → entry_text path before ≡ (codes "p2entry 1" ++ 10 ∷ codes "path ") ++ (field (path_text path) ++ 10 ∷ node_text before)
unfolding entry_text
entry_behind path before = refl

pub no_entry_head : (bytes : List ℕ) → ((rest : List ℕ) → bytes ≢ (codes "p2entry 1" ++ 10 ∷ codes "path ") ++ rest) → IsNoEntry bytes
no_entry_head bytes none path before is spelled = none (field (path_text path) ++ 10 ∷ node_text before) (sym spelled ∙ entry_behind path before)

entry_rest : (bytes rest : List ℕ) (path : List (List ℕ)) (before : Option Node) → bytes ≡ (codes "p2entry 1" ++ 10 ∷ codes "path ") ++ rest → entry_text path before ≡ bytes → field (path_text path) ++ 10 ∷ node_text before ≡ rest
unfolding entry_text
entry_rest bytes rest path before head spelled = ap (drop 15) (spelled ∙ head)

pub no_entry_line : (bytes rest : List ℕ) → bytes ≡ (codes "p2entry 1" ++ 10 ∷ codes "path ") ++ rest → ¬ (Contains rest 10) → IsNoEntry bytes
no_entry_line bytes rest head no_lf path before is spelled =
    no_lf (subst (λ l. Contains l 10) (entry_rest bytes rest path before head spelled) (contains_in_middle (field (path_text path)) (node_text before)))

entry_lines : (bytes rest line node : List ℕ) (path : List (List ℕ)) (before : Option Node) → bytes ≡ (codes "p2entry 1" ++ 10 ∷ codes "path ") ++ rest → rest ≡ line ++ 10 ∷ node → ¬ (Contains line 10) → entry_text path before ≡ bytes
    → (field (path_text path) ≡ line) × (node_text before ≡ node)
entry_lines bytes rest line node path before head parts no_lf spelled =
    same_lines (field (path_text path)) line (node_text before) node (no_lf_field (path_text path)) no_lf (entry_rest bytes rest path before head spelled ∙ parts)

pub no_entry_path : (bytes rest line node : List ℕ) → bytes ≡ (codes "p2entry 1" ++ 10 ∷ codes "path ") ++ rest → rest ≡ line ++ 10 ∷ node → ¬ (Contains line 10) → IsNoPathField line → IsNoEntry bytes
no_entry_path bytes rest line node head parts no_lf none path before is spelled =
    none path is.is_path (entry_lines bytes rest line node path before head parts no_lf spelled).0

pub no_entry_node : (bytes rest line node : List ℕ) → bytes ≡ (codes "p2entry 1" ++ 10 ∷ codes "path ") ++ rest → rest ≡ line ++ 10 ∷ node → ¬ (Contains line 10) → IsNoNodeText node → IsNoEntry bytes
no_entry_node bytes rest line node head parts no_lf none path before is spelled =
    none before is.old (entry_lines bytes rest line node path before head parts no_lf spelled).1

pub entry_found : (bytes rest line node : List ℕ) (path : List (List ℕ)) (before : Option Node) → bytes ≡ (codes "p2entry 1" ++ 10 ∷ codes "path ") ++ rest → rest ≡ line ++ 10 ∷ node → IsPathField line path → IsNodeText node before → IsEntryOf bytes path before
entry_found bytes rest line node path before head parts at text =
    IsEntryOf-text path before bytes (record { is_path = at.is_path; old = text.old })
    (entry_behind path before
    ∙ ap (λ (l : List ℕ). (codes "p2entry 1" ++ 10 ∷ codes "path ") ++ (l ++ 10 ∷ node_text before)) at.spelling
    ∙ ap (λ (l : List ℕ). (codes "p2entry 1" ++ 10 ∷ codes "path ") ++ (line ++ 10 ∷ l)) text.spelling
    ∙ ap (λ (l : List ℕ). (codes "p2entry 1" ++ 10 ∷ codes "path ") ++ l) (sym parts)
    ∙ sym head)
