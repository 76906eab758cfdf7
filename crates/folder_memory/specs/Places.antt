-- What stands where, in a map in the order of paths.
use Rattle.std.specs.Prelude.{◌≡◌, ℕ, List, ◌++◌, Some, IsSome}
use Rattle.std.specs.BTreeMap.{BTreeMap, get}
use Rattle.folder_core.specs.Path.{IsBelow}
use Rattle.folder_core.specs.PathOrder.{path_cmp, IsPathBefore}

module _ {V : Type 0} (places : BTreeMap (List (List ℕ)) V) (path : List (List ℕ)) where
  -- Something stands below the path.
  abbrev pub HasBelow : Type 0
  HasBelow = (place : List (List ℕ)) × IsBelow path place × IsSome (get path_cmp places place)

  -- Something stands at the path or below it.
  abbrev pub HasFrom : Type 0
  HasFrom = (rest : List (List ℕ)) × IsSome (get path_cmp places (path ++ rest))

  -- Nothing stands before the path.
  abbrev pub NothingBefore : Type 0
  NothingBefore = (other : List (List ℕ)) → IsPathBefore other path → ¬ (IsSome (get path_cmp places other))

  -- The place is the last before the path at which something stands, and this is what stands there.
  pub record IsLastBefore (place : List (List ℕ)) (value : V) : Type 0 where
    pub stands : get path_cmp places place ≡ Some value
    pub before : IsPathBefore place path
    pub last : (other : List (List ℕ)) → IsPathBefore other path → IsSome (get path_cmp places other) → ¬ (IsPathBefore place other)
