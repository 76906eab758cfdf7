-- What stands at a path when its turn comes.
use Rattle.std.proofs.Common.{◌≡◌, inl, inr, ℕ, zero, suc, ◌+◌, ◌<◌, true, false, MatchOption, List, [], ◌∷◌, ◌++◌, length, get_or, take, Option, Some, None, refl, sym, ◌∙◌, ap, arith}
use Rattle.std.proofs.lemmas.Bool.{both_ways}
use Rattle.folder_core.specs.Path.{path_eqb}
use Rattle.folder_core.specs.Folder.{Map, set_at}
use Rattle.folder_core.specs.declared.node.Node.{Node}
use Rattle.folder_core.specs.declared.node.Touch.{Touch}
use Rattle.folder_core.proofs.Maps.{changed_here, changed_other, same_path, path_eqb-Decides}
use Rattle.backup_store.specs.Turns.{set_in_turn, entries_in_turn, entry_of, entry_at, AreTouches, IsTouch}

pub set_same_at : (m n : Map) (path place : List (List ℕ)) (node : Option Node) → m place ≡ n place → set_at m path node place ≡ set_at n path node place
set_same_at m n path place node same = elim (same_path place path) [
  | inl here ↦ changed_here m path node place here ∙ sym (changed_here n path node place here)
  | inr other ↦ changed_other m path node place other ∙ same ∙ sym (changed_other n path node place other)
]

-- The touches come to the same at a place where the maps are the same.
pub turn_same_at : (touches : List Touch) (m n : Map) (place : List (List ℕ)) → m place ≡ n place → set_in_turn touches m place ≡ set_in_turn touches n place
turn_same_at [] m n place same = same
turn_same_at (touch ∷ touches) m n place same = turn_same_at touches (set_at m touch.path touch.node) (set_at n touch.path touch.node) place (set_same_at m n touch.path place touch.node same)

pub length-entries : (touches : List Touch) (m : Map) → length (entries_in_turn touches m) ≡ length touches
length-entries [] m = refl
length-entries (touch ∷ touches) m = ap suc (length-entries touches (set_at m touch.path touch.node))

-- the entry of the touch at a place
pub entry_in_turn : (touches : List Touch) (m : Map) (place : ℕ) (touch : Touch) → place < length touches
    → entry_at (entries_in_turn touches m) place ≡ entry_of (set_in_turn (take place touches) m) (get_or touches place touch).path
entry_in_turn [] m place touch below = absurd (omega arith)
entry_in_turn (first ∷ touches) m zero touch below = refl
entry_in_turn (first ∷ touches) m (suc place) touch below = entry_in_turn touches (set_at m first.path first.node) place touch (omega arith)

pub turn_push : (touches : List Touch) (touch : Touch) (m : Map) → set_in_turn (touches ++ touch ∷ []) m ≡ set_at (set_in_turn touches m) touch.path touch.node
turn_push [] touch m = refl
turn_push (first ∷ touches) touch m = turn_push touches touch (set_at m first.path first.node)

pub touch_here : (touches : List Touch) (place : ℕ) (touch : Touch) → place < length touches → AreTouches touches → IsTouch (get_or touches place touch)
touch_here [] place touch below are = absurd (omega arith)
touch_here (first ∷ touches) zero touch below are = are.0
touch_here (first ∷ touches) (suc place) touch below are = touch_here touches place touch (omega arith) are.1

pub touches_front : (touches : List Touch) (place : ℕ) → AreTouches touches → AreTouches (take place touches)
touches_front touches zero are = tt
touches_front [] (suc place) are = tt
touches_front (first ∷ touches) (suc place) are = (are.0, touches_front touches place are.1)

pub take_next : (touches : List Touch) (place : ℕ) (touch : Touch) → place < length touches → touch ≡ get_or touches place touch → take (suc place) touches ≡ take place touches ++ touch ∷ []
take_next [] place touch below is = absurd (omega arith)
take_next (first ∷ touches) zero touch below is = ap (λ (x : Touch). x ∷ []) (sym is)
take_next (first ∷ touches) (suc place) touch below is = ap (λ (l : List Touch). first ∷ l) (take_next touches place touch (omega arith) is)

-- what one touch more does
pub turn_next : (touches : List Touch) (place : ℕ) (touch : Touch) (m : Map) → place < length touches → touch ≡ get_or touches place touch
    → set_in_turn (take (place + 1) touches) m ≡ set_at (set_in_turn (take place touches) m) touch.path touch.node
turn_next touches place touch m below is =
    let one : place + 1 ≡ suc place = omega arith in
    ap (λ (n : ℕ). set_in_turn (take n touches) m) one ∙ ap (λ (l : List Touch). set_in_turn l m) (take_next touches place touch below is) ∙ turn_push (take place touches) touch m

module _ (touches : List Touch) (place : ℕ) (touch : Touch) (path : List (List ℕ)) (below : place < length touches) (is : touch ≡ get_or touches place touch) where
  pub last_here : path_eqb touch.path path ≡ true → (m : Map) → set_in_turn (take (place + 1) touches) m path ≡ touch.node
  last_here same m = ap (λ (f : Map). f path) (turn_next touches place touch m below is) ∙ changed_here (set_in_turn (take place touches) m) touch.path touch.node path (sym ((path_eqb-Decides touch.path path).0 same))

  pub last_before : path_eqb touch.path path ≡ false → (m : Map) → set_in_turn (take (place + 1) touches) m path ≡ set_in_turn (take place touches) m path
  last_before other m = ap (λ (f : Map). f path) (turn_next touches place touch m below is)
      ∙ changed_other (set_in_turn (take place touches) m) touch.path touch.node path (λ e. both_ways _ other ((path_eqb-Decides touch.path path).1 (sym e)))

pub last_kept : {T : Type 0} (value : T → Option Node) (found : Option T) (a b : Map → Option Node) (was : Map → Option Node) → ((m : Map) → b m ≡ a m)
    → MatchOption found ((m : Map) → a m ≡ was m) (λ t. (m : Map) → a m ≡ value t) → MatchOption found ((m : Map) → b m ≡ was m) (λ t. (m : Map) → b m ≡ value t)
last_kept value None a b was same holds = λ m. same m ∙ holds m
last_kept value (Some t) a b was same holds = λ m. same m ∙ holds m
