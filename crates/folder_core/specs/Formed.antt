-- What is well formed by a proof out of sight is so by one in sight: the laws of the honest objects need it.
use Rattle.std.specs.Prelude.{◌≡◌, ℕ, ◌≤◌, List, Option, Some, None, ⊤}
use Rattle.std.proofs.Common.{refl, sym, subst}
use Rattle.std.proofs.Math.Logic.{∥∥₁_elim, ∥∥₁_map}
use Rattle.std.specs.Coded.{le_prop}
use Rattle.std.proofs.lemmas.Str.{IsUtf8-had}
use Rattle.folder_core.specs.Name.{IsName}
use Rattle.folder_core.specs.Path.{IsPath}
use Rattle.folder_core.specs.Node.{IsNode, IsSmallAt}
use Rattle.folder_core.specs.Folder.{Map, IsFormed}
use Rattle.folder_core.specs.Tree.{Files, AreFiles}
use Rattle.folder_core.specs.declared.node.Node.{Node}
use Rattle.folder_core.specs.declared.node.Node.TheVariants.{File, Dir, Link}

⊥-prop : IsProp ⊥
⊥-prop a b = absurd a

not_had : {P : Type 0} → ∥ ¬ P ∥₁ → ¬ P
not_had had p = ∥∥₁_elim had ⊥-prop (λ no. no p)

le_had : {m n : ℕ} → ∥ m ≤ n ∥₁ → m ≤ n
le_had had = ∥∥₁_elim had le_prop (λ h. h)

IsDir : Option Node → Type 0
IsDir None = ⊥
IsDir (Some (File mode blob)) = ⊥
IsDir (Some Dir) = ⊤
IsDir (Some (Link target)) = ⊥

dir_had : (node : Option Node) → ∥ node ≡ Some Dir ∥₁ → node ≡ Some Dir
unfolding IsDir
dir_had None had = absurd (∥∥₁_elim had ⊥-prop (λ h. subst IsDir (sym h) tt))
dir_had (Some (File mode blob)) had = absurd (∥∥₁_elim had ⊥-prop (λ h. subst IsDir (sym h) tt))
dir_had (Some Dir) had = refl
dir_had (Some (Link target)) had = absurd (∥∥₁_elim had ⊥-prop (λ h. subst IsDir (sym h) tt))

IsName-had : (name : List ℕ) → ∥ IsName name ∥₁ → IsName name
IsName-had name had = record {
  utf8 = IsUtf8-had name (∥∥₁_map had (λ h. h.utf8));
  some = not_had (∥∥₁_map had (λ h. h.some));
  short = le_had (∥∥₁_map had (λ h. h.short));
  no_slash = not_had (∥∥₁_map had (λ h. h.no_slash));
  no_nul = not_had (∥∥₁_map had (λ h. h.no_nul));
  no_dot = not_had (∥∥₁_map had (λ h. h.no_dot));
  no_dots = not_had (∥∥₁_map had (λ h. h.no_dots));
}

IsPath-had : (path : List (List ℕ)) → ∥ IsPath path ∥₁ → IsPath path
IsPath-had path had = record {
  short = le_had (∥∥₁_map had (λ h. h.short));
  names = λ k d below. IsName-had _ (∥∥₁_map had (λ h. h.names k d below));
}

IsNode-had : (node : Node) → ∥ IsNode node ∥₁ → IsNode node
IsNode-had (File mode blob) had = le_had had
IsNode-had Dir had = tt
IsNode-had (Link target) had = le_had had

IsSmallAt-had : (path : List (List ℕ)) (node : Node) → ∥ IsSmallAt path node ∥₁ → IsSmallAt path node
IsSmallAt-had path (File mode blob) had = λ outside. le_had (∥∥₁_map had (λ h. h outside))
IsSmallAt-had path Dir had = tt
IsSmallAt-had path (Link target) had = tt

pub IsFormed-had : (m : Map) → ∥ IsFormed m ∥₁ → IsFormed m
IsFormed-had m had = record {
  root = dir_had _ (∥∥₁_map had (λ h. h.root));
  parents = λ path node some is. dir_had _ (∥∥₁_map had (λ h. h.parents path node some is));
  paths = λ path node is. IsPath-had path (∥∥₁_map had (λ h. h.paths path node is));
  nodes = λ path node is. IsNode-had node (∥∥₁_map had (λ h. h.nodes path node is));
  small = λ path node is. IsSmallAt-had path node (∥∥₁_map had (λ h. h.small path node is));
}

IsNothing : Option (List ℕ) → Type 0
IsNothing None = ⊤
IsNothing (Some bytes) = ⊥

none_had : (bytes : Option (List ℕ)) → ∥ bytes ≡ None ∥₁ → bytes ≡ None
unfolding IsNothing
none_had None had = refl
none_had (Some bytes) had = absurd (∥∥₁_elim had ⊥-prop (λ h. subst IsNothing (sym h) tt))

pub AreFiles-had : (files : Files) → ∥ AreFiles files ∥₁ → AreFiles files
AreFiles-had files had = record {
  paths = λ path bytes is. IsPath-had path (∥∥₁_map had (λ h. h.paths path bytes is));
  root = none_had _ (∥∥₁_map had (λ h. h.root));
  apart = λ path bytes name rest is. none_had _ (∥∥₁_map had (λ h. h.apart path bytes name rest is));
}
