-- When a step may be done.
use Rattle.std.proofs.Common.{◌≡◌, ◌≢◌, ℕ, zero, suc, ◌+◌, ◌≤◌, Bool, true, false, cond, List, [], ◌∷◌, ◌++◌, length, Option, Some, None, inl, inr, refl, sym, ◌∙◌, ap, arith, append-nil, append_assoc, length-append, get_or}
use Rattle.std.specs.Prelude.{IfSome, codes}
use Rattle.std.proofs.lemmas.Bool.{cases_Bool}
use Rattle.folder_core.specs.Folder.{Map, IsFormed, NothingBelow}
use Rattle.folder_core.specs.Node.{IsNode, IsSmallAt, entries_path}
use Rattle.folder_core.specs.Path.{IsBelow, parent}
use Rattle.folder_core.specs.declared.node.Node.{Node}
use Rattle.folder_core.specs.declared.node.Node.TheVariants.{File, Dir, Link}
use Rattle.folder_core.proofs.Maps.{front_last, parent-push, push_some, path_eqb-Decides}
use Rattle.action_core.specs.Places.{Site}
use Rattle.action_core.specs.Standing.{IsInstall}
use Rattle.action_core.specs.Steps.{CanStep}
use Rattle.action_core.specs.Tests.{first_of, is_dir, too_deep, install_folder, through_link, no_parent, way, common}
use Rattle.action_core.specs.declared.fault.ActionFault.{ActionFault}
use Rattle.action_core.specs.declared.fault.ActionFault.TheVariants.{InstallFolder, NoParent}

pub dir_is : (node : Option Node) → is_dir node ≡ true → node ≡ Some Dir
dir_is None is = absurd (let no : ⊥ = cc in no)
dir_is (Some (File mode blob)) is = absurd (let no : ⊥ = cc in no)
dir_is (Some Dir) is = refl
dir_is (Some (Link target)) is = absurd (let no : ⊥ = cc in no)

pub first_passed : (fault : Option ActionFault) (tests : List (Option ActionFault)) → first_of (fault ∷ tests) ≡ None → (fault ≡ None) × (first_of tests ≡ None)
first_passed None tests passed = (refl, passed)
first_passed (Some fault) tests passed = absurd (let no : ⊥ = cc in no)

module _ (site : Site) (m : Map) (path : List (List ℕ)) where
  pub way_passed : way site m path ≡ None → path ≢ site.install
  unfolding way install_folder
  way_passed passed is =
      let at = (first_passed (install_folder site path) (through_link m path ∷ []) (first_passed (too_deep path) (install_folder site path ∷ through_link m path ∷ []) passed).1).0 in
      let same = (path_eqb-Decides path site.install).1 is in
      let no : Some (InstallFolder path) ≡ None = sym (ap (λ (b : Bool). cond b (Some (InstallFolder path)) None) same) ∙ at in
      let never : ⊥ = cc in never

  pub common_way_passed : common site m path ≡ None → way site m path ≡ None
  unfolding common
  common_way_passed passed = (first_passed (way site m path) (no_parent m path ∷ []) passed).0

  pub common_parent : common site m path ≡ None → m (parent path) ≡ Some Dir
  unfolding common no_parent
  common_parent passed =
      let at = (first_passed (no_parent m path) [] (first_passed (way site m path) (no_parent m path ∷ []) passed).1).0 in
      elim (cases_Bool (is_dir (m (parent path)))) [
        | inl is ↦ dir_is (m (parent path)) is
        | inr other ↦
            let no : Some (NoParent path) ≡ None = sym (ap (λ (b : Bool). cond b None (Some (NoParent path))) other) ∙ at in
            absurd (let never : ⊥ = cc in never)
      ]

-- Below what is no directory stands nothing.
bare : (m : Map) (path : List (List ℕ)) → IsFormed m → is_dir (m path) ≡ false → (depth : ℕ) (name : List ℕ) (rest : List (List ℕ)) → length rest ≤ depth → m (path ++ name ∷ rest) ≡ None
bare m path formed leaf depth name rest short = none_or depth rest short (m (path ++ name ∷ rest)) refl
  where
    above : (rest : List (List ℕ)) (front : List (List ℕ)) (last : List ℕ) (node : Node) → m (path ++ name ∷ rest) ≡ Some node → path ++ name ∷ rest ≡ (path ++ front) ++ last ∷ [] → m (path ++ front) ≡ Some Dir
    above rest front last node is whole =
        ap m (sym (parent-push (path ++ name ∷ rest) (path ++ front) last whole)) ∙ formed.parents (path ++ name ∷ rest) node (push_some (path ++ name ∷ rest) (path ++ front) last whole) is

    none_or : (depth : ℕ) (rest : List (List ℕ)) → length rest ≤ depth → (found : Option Node) → m (path ++ name ∷ rest) ≡ found → found ≡ None
    none_or depth rest short None is = refl
    none_or depth [] short (Some node) is =
        let here : m path ≡ Some Dir = ap m (sym (append-nil path)) ∙ above [] [] name node is (ap (λ (l : List (List ℕ)). l ++ name ∷ []) (sym (append-nil path))) in
        let no : true ≡ false = sym (ap is_dir here) ∙ leaf in
        absurd (let never : ⊥ = cc in never)
    none_or zero (next ∷ rest) short (Some node) is = absurd (omega arith)
    none_or (suc depth) (next ∷ rest) short (Some node) is =
        let cut = front_last (next ∷ rest) (λ e. cc) in
        let front = parent (next ∷ rest) in
        let whole : path ++ name ∷ next ∷ rest ≡ (path ++ name ∷ front) ++ cut.0 ∷ [] = ap (λ (l : List (List ℕ)). path ++ name ∷ l) cut.1 ∙ sym (append_assoc path (name ∷ front) (cut.0 ∷ [])) in
        let counted : length (next ∷ rest) ≡ length front + 1 = ap length cut.1 ∙ length-append front (cut.0 ∷ []) in
        let dir = above (next ∷ rest) (name ∷ front) cut.0 node is whole in
        let none = none_or depth front (omega (arith, counted)) (Some Dir) dir in
        absurd (let never : ⊥ = cc in never)

pub nothing_below : (m : Map) (path : List (List ℕ)) → IsFormed m → is_dir (m path) ≡ false → NothingBelow m path
nothing_below m path formed leaf name rest = bare m path formed leaf (length rest) name rest (omega arith)

pub install_some : (install : List (List ℕ)) → IsInstall install → install ≢ []
install_some install (profile, is, two) none = let no : codes "installs" ∷ profile ∷ [] ≡ [] = sym two ∙ none in let never : ⊥ = cc in never

-- A path at or below the folder of the profile, but not the folder itself, lies below it.
pub inside : (install names path : List (List ℕ)) → path ≡ install ++ names → path ≢ install → IsBelow install path
inside install [] path is apart = absurd (apart (is ∙ append-nil install))
inside install (name ∷ names) path is apart = (name, names, is)

pub not_root : (install path : List (List ℕ)) → IsInstall install → IsBelow install path → path ≢ []
not_root install path is (name, rest, below) none =
    let counted = ap length (sym below ∙ none) in absurd (omega (arith, counted, length-append install (name ∷ rest)))

-- Such a path isn't below the journal's entries.
pub not_entry : (install path : List (List ℕ)) → IsInstall install → IsBelow install path → ¬ (IsBelow entries_path path)
not_entry install path (profile, is, two) (name, rest, below) (other, more, entry) =
    let same : codes "installs" ∷ (profile ∷ name ∷ rest) ≡ codes ".p2" ∷ (codes "e" ∷ other ∷ more) = sym (below ∙ ap (λ (l : List (List ℕ)). l ++ name ∷ rest) two) ∙ entry in
    let first : codes "installs" ≡ codes ".p2" = ap (λ (l : List (List ℕ)). get_or l 0 []) same in
    let longer : length (codes "installs") ≡ length (codes ".p2") = ap length first in
    absurd (omega (arith, longer))

pub can_step : (install : List (List ℕ)) (m : Map) (path : List (List ℕ)) (set : Option Node)
    → IsInstall install → IsBelow install path → m (parent path) ≡ Some Dir → NothingBelow m path → IfSome set IsNode → IfSome set (IsSmallAt path)
    → CanStep install m path set
can_step install m path set is below above nothing formed small = record {
  place = record { not_root = not_root install path is below; parent = above; nothing_below = nothing };
  is_node = formed;
  is_small = small;
  inside = below;
}
