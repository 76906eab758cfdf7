-- Touches that are done in turn: the entries of what stands before each serve the old installation.
use Rattle.std.proofs.Common.{◌≡◌, ℕ, zero, suc, ◌≤◌, List, [], ◌∷◌, ◌++◌, length, take, Option, inl, refl, sym, ◌∙◌, ap, subst, arith}
use Rattle.std.proofs.lemmas.List.{append-nil, append_assoc}
use Rattle.folder_core.specs.Folder.{Map, set_at}
use Rattle.folder_core.specs.declared.node.Node.{Node}
use Rattle.folder_core.specs.declared.node.Touch.{Touch}
use Rattle.folder_core.proofs.Maps.{changed_other}
use Rattle.backup_store.specs.Places.{IsOutside}
use Rattle.backup_store.specs.Turns.{AreTouches, CanSetInTurn, entries_in_turn, set_in_turn}
use Rattle.backup_store.specs.declared.entry.Entry.{Entry}
use Rattle.backup_store.proofs.InTurn.{turn_same_at}
use Rattle.install_journal.specs.Kept.{Serves, entry_of}
use Rattle.install_journal.specs.Overlay.{Covers, SameOutside}
use Rattle.install_journal.proofs.Overlays.{covers_back, covers_front, serves_push}
use Rattle.install_journal.proofs.Undoings.{can_same, set_same}

-- so many of the entries, behind those that serve
pub serves_in_turn : (entries : List Entry) (old : Map) (touches : List Touch) (m : Map) → Serves entries old → AreTouches touches → CanSetInTurn touches m
    → ((place : List (List ℕ)) → IsOutside place → ¬ (Covers entries place) → m place ≡ old place)
    → (count : ℕ) → count ≤ length touches → Serves (entries ++ take count (entries_in_turn touches m)) old
serves_in_turn entries old touches m serves are can rest zero near = subst (λ (l : List Entry). Serves l old) (sym (append-nil entries)) serves
serves_in_turn entries old [] m serves are can rest (suc count) near = absurd (omega arith)
serves_in_turn entries old (touch ∷ touches) m serves are can rest (suc count) near =
    let one = entry_of m touch.path ∷ [] in
    let after = set_at m touch.path touch.node in
    subst (λ (l : List Entry). Serves l old) (append_assoc entries one (take count (entries_in_turn touches after)))
    (serves_in_turn (entries ++ one) old touches after (serves_push entries old m touch.path serves are.0.outside can.0 rest) are.1 can.1
    (λ place out none. changed_other m touch.path touch.node place (λ here. none (covers_back entries one place (inl here)))
    ∙ rest place out (λ covers. none (covers_front entries one place covers)))
    count (omega arith))

same_of : (a b : Map) (path : List (List ℕ)) → b path ≡ a path → entry_of b path ≡ entry_of a path
same_of a b path same = ap (λ (stands : Option Node). record { path = path; before = stands }) same

-- What stands below `.p2` doesn't matter.
pub entries_same : (touches : List Touch) (a b : Map) → AreTouches touches → SameOutside b a → entries_in_turn touches b ≡ entries_in_turn touches a
entries_same [] a b are same = refl
entries_same (touch ∷ touches) a b are same =
    let after = λ (m : Map). entries_in_turn touches (set_at m touch.path touch.node) in
    ap (λ (e : Entry). e ∷ after b) (same_of a b touch.path (same touch.path are.0.outside))
    ∙ ap (λ (l : List Entry). entry_of a touch.path ∷ l)
    (entries_same touches (set_at a touch.path touch.node) (set_at b touch.path touch.node) are.1 (set_same a b touch.path touch.node same))

pub can_in_turn_same : (touches : List Touch) (a b : Map) → AreTouches touches → SameOutside b a → CanSetInTurn touches a → CanSetInTurn touches b
can_in_turn_same [] a b are same can = tt
can_in_turn_same (touch ∷ touches) a b are same can = (
  can_same a b touch.path are.0.outside same can.0,
  can_in_turn_same touches (set_at a touch.path touch.node) (set_at b touch.path touch.node) are.1 (set_same a b touch.path touch.node same) can.1,
)

pub turn_outside : (touches : List Touch) (a b : Map) → SameOutside b a → SameOutside (set_in_turn touches b) (set_in_turn touches a)
turn_outside touches a b same place out = turn_same_at touches b a place (same place out)
