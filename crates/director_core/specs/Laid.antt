use Rattle.std.specs.Prelude.{◌≡◌, ◌≢◌, ℕ, List, [], ◌∷◌, ◌++◌, Some, None, IfSome, All, ⊤}
use Rattle.folder_core.specs.Folder.{Map, CanSet, set_at}
use Rattle.folder_core.specs.Node.{IsNode, IsSmallAt}
use Rattle.folder_core.specs.declared.node.Node.TheVariants.{Dir}
use Rattle.folder_core.specs.declared.node.Touch.{Touch}

-- the map in which the root alone stands
abbrev pub bare : Map
bare [] = Some Dir
bare (name ∷ path) = None

-- Nothing stands directly below the root.
abbrev pub IsBare : Map → Type 0
IsBare m = (name : List ℕ) → m (name ∷ []) ≡ None

-- the map after these nodes are put, one after the other
abbrev pub laid : List Touch → Map → Map
laid [] m = m
laid (touch ∷ touches) m = laid touches (set_at m touch.path touch.node)

-- Some of the nodes are put, the first ones, and one at least is not.
abbrev pub IsBegun : List Touch → Map → Map → Type 0
IsBegun touches old new = (front rest : List Touch) × (front ++ rest ≡ touches) × (rest ≢ []) × (new ≡ laid front old)

-- The maps are the same at each path that none of the touches has.
abbrev pub SameElsewhere : List Touch → Map → Map → Type 0
SameElsewhere touches old new = (path : List (List ℕ)) → All (λ touch. touch.path ≢ path) touches → new path ≡ old path

-- Each node may be put when its turn comes.
abbrev pub CanLay : List Touch → Map → Type 0
CanLay [] m = ⊤
CanLay (touch ∷ touches) m = CanSet m touch.path × CanLay touches (set_at m touch.path touch.node)

-- Each node is one that a folder may hold at its path.
abbrev pub AreNodes : List Touch → Type 0
AreNodes [] = ⊤
AreNodes (touch ∷ touches) = (IfSome touch.node IsNode × IfSome touch.node (IsSmallAt touch.path)) × AreNodes touches
