-- Maps after a node is set, or a file put.
use Rattle.std.proofs.Common.{◌≡◌, ◌≢◌, ◌⊎◌, inl, inr, ℕ, suc, ◌-◌, Bool, cond, List, [], ◌∷◌, ◌++◌, length, take, Option, Some, None, Result, Ok, Err, OnOk, OnErr, refl, sym, ◌∙◌, ap, subst, arith, length-append}
use Rattle.std.specs.Option.{IfSome}
use Rattle.std.specs.Bool.{Decides}
use Rattle.std.proofs.lemmas.Bool.{cases_Bool, both_ways}
use Rattle.std.proofs.lemmas.Slice.Eq.{slice_eq-Decides, bytes_eq-Decides}
use Rattle.std.proofs.lemmas.List.{length-take, take_at}
use Rattle.folder_core.specs.Path.{IsPath, path_eqb, parent}
use Rattle.folder_core.specs.Node.{IsNode, IsSmallAt}
use Rattle.folder_core.specs.Folder.{Map, IsFormed, CanSet, set_at}
use Rattle.folder_core.specs.declared.node.Node.{Node}
use Rattle.folder_core.specs.declared.node.Node.TheVariants.{Dir}

pub path_eqb-Decides : (p q : List (List ℕ)) → Decides (path_eqb p q) (p ≡ q)
path_eqb-Decides p q = slice_eq-Decides bytes_eq-Decides p q (path_eqb p q) refl

pub same_path : (p q : List (List ℕ)) → (p ≡ q) ⊎ (p ≢ q)
same_path p q = elim (cases_Bool (path_eqb p q)) [
  | inl same ↦ inl ((path_eqb-Decides p q).0 same)
  | inr other ↦ inr (λ is. both_ways _ other ((path_eqb-Decides p q).1 is))
]

module _ {V : Type 0} (m : List (List ℕ) → Option V) (path : List (List ℕ)) (value : Option V) where
  -- the map with this value at the path
  abbrev pub changed : List (List ℕ) → Option V
  changed place = cond (path_eqb place path) value (m place)

  pub changed_here : (place : List (List ℕ)) → place ≡ path → changed place ≡ value
  changed_here place is = ap (λ (b : Bool). cond b value (m place)) ((path_eqb-Decides place path).1 is)

  pub changed_other : (place : List (List ℕ)) → place ≢ path → changed place ≡ m place
  changed_other place apart = elim (cases_Bool (path_eqb place path)) [
    | inl same ↦ absurd (apart ((path_eqb-Decides place path).0 same))
    | inr other ↦ ap (λ (b : Bool). cond b value (m place)) other
  ]

pub parent_apart : (path : List (List ℕ)) → path ≢ [] → parent path ≢ path
parent_apart [] some is = some refl
parent_apart (name ∷ path) some is =
    let shorter = length-take (length (name ∷ path) - 1) (name ∷ path) in
    let same = ap length is in
    absurd (omega (arith, shorter, same))

-- a path that isn't the root is its parent and one name more
pub front_last : (path : List (List ℕ)) → path ≢ [] → (name : List ℕ) × (path ≡ parent path ++ name ∷ [])
front_last [] some = absurd (some refl)
front_last (name ∷ []) some = (name, refl)
front_last (first ∷ second ∷ path) some =
    let behind = front_last (second ∷ path) (λ e. cc) in
    let count : length (first ∷ second ∷ path) - 1 ≡ suc (length (second ∷ path) - 1) = omega arith in
    (behind.0, ap (λ (l : List (List ℕ)). first ∷ l) behind.1 ∙ ap (λ (n : ℕ). take n (first ∷ second ∷ path) ++ behind.0 ∷ []) (sym count))

pub parent-push : (path front : List (List ℕ)) (last : List ℕ) → path ≡ front ++ last ∷ [] → parent path ≡ front
parent-push path front last is = ap parent is ∙ take_at front (last ∷ []) (length (front ++ last ∷ []) - 1) (omega (arith, length-append front (last ∷ [])))

pub push_some : (path front : List (List ℕ)) (last : List ℕ) → path ≡ front ++ last ∷ [] → path ≢ []
push_some path front last is none = let same = ap length (sym is ∙ none) in absurd (omega (arith, same, length-append front (last ∷ [])))

at_some : {V : Type 0} (P : V → Type 0) (value : Option V) (v : V) → value ≡ Some v → IfSome value P → P v
at_some P value v is holds = subst (λ o. IfSome o P) is holds

pub IsFormed-set_at : (m : Map) (path : List (List ℕ)) (node : Option Node) → IsFormed m → CanSet m path → IsPath path → IfSome node IsNode → IfSome node (IsSmallAt path) → IsFormed (set_at m path node)
IsFormed-set_at m path node formed can is_path is_node is_small = record {
  root = changed_other m path node [] (λ e. can.not_root (sym e)) ∙ formed.root;
  parents = parents;
  paths = λ place n is. elim (same_path place path) [
    | inl here ↦ subst IsPath (sym here) is_path
    | inr other ↦ formed.paths place n (sym (changed_other m path node place other) ∙ is)
  ];
  nodes = λ place n is. elim (same_path place path) [
    | inl here ↦ at_some IsNode node n (sym (changed_here m path node place here) ∙ is) is_node
    | inr other ↦ formed.nodes place n (sym (changed_other m path node place other) ∙ is)
  ];
  small = λ place n is. elim (same_path place path) [
    | inl here ↦ at_some (IsSmallAt place) node n (sym (changed_here m path node place here) ∙ is) (subst (λ p. IfSome node (IsSmallAt p)) (sym here) is_small)
    | inr other ↦ formed.small place n (sym (changed_other m path node place other) ∙ is)
  ];
}
  where
    not_below : (place : List (List ℕ)) (n : Node) → place ≢ [] → m place ≡ Some n → parent place ≢ path
    not_below place n some is e =
        let last = front_last place some in
        let below : place ≡ path ++ last.0 ∷ [] = last.1 ∙ ap (λ (l : List (List ℕ)). l ++ last.0 ∷ []) e in
        let none : m place ≡ None = ap m below ∙ can.nothing_below last.0 [] in
        let no : ⊥ = cc in no

    parents : (place : List (List ℕ)) (n : Node) → place ≢ [] → set_at m path node place ≡ Some n → set_at m path node (parent place) ≡ Some Dir
    parents place n some is = elim (same_path place path) [
      | inl here ↦ changed_other m path node (parent place) (λ e. parent_apart place some (e ∙ sym here)) ∙ ap (λ p. m (parent p)) here ∙ can.parent
      | inr other ↦
          let stands = sym (changed_other m path node place other) ∙ is in
          changed_other m path node (parent place) (not_below place n some stands) ∙ formed.parents place n some stands
    ]

small_at : (path : List (List ℕ)) (node : Option Node) → ((n : Node) → node ≡ Some n → IsSmallAt path n) → IfSome node (IsSmallAt path)
small_at path None small = tt
small_at path (Some n) small = small n refl

-- what stands at a path is small enough for it
pub small_there : (m : Map) (path : List (List ℕ)) → IsFormed m → IfSome (m path) (IsSmallAt path)
small_there m path formed = small_at path (m path) (formed.small path)

pub pushed_or_not : {E P Q : Type 0} (result : Result (Unit {0}) E) → OnOk result P → OnErr result Q → P ⊎ Q
pushed_or_not (Ok done) pushed not_pushed = inl pushed
pushed_or_not (Err e) pushed not_pushed = inr not_pushed
