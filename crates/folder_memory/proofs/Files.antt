-- The files of a tree, before and after one is put.
use Rattle.std.proofs.Common.{◌≡◌, ◌≢◌, ◌⊎◌, ◌↔◌, inl, inr, ℕ, Bool, true, false, not, cond, IsTrue, List, [], ◌∷◌, ◌++◌, Option, Some, None, length, refl, sym, ◌∙◌, ap, subst, arith, length-append}
use Rattle.std.specs.declared.cmp.Ordering.TheVariants.{Greater}
use Rattle.std.specs.BTreeMap.{BTreeMap, get, is_at}
use Rattle.std.specs.Option.{IsSome}
use Rattle.std.proofs.lemmas.Bool.{false≢true}
use Rattle.std.proofs.lemmas.List.{append-nil}
use Rattle.folder_core.specs.Name.{AreThose}
use Rattle.folder_core.specs.Path.{IsPath, IsBelow}
use Rattle.folder_core.specs.PathOrder.{path_cmp}
use Rattle.folder_core.specs.Tree.{Files, AreFiles, HasBelow}
use Rattle.folder_core.proofs.Maps.{changed_other, same_path}
use Rattle.folder_memory.specs.Files.{files_of, put_at, HasFileAbove, HasRoom}
use Rattle.folder_memory.specs.Places.{HasFrom, IsLastBefore, NothingBefore}
use Rattle.folder_memory.specs.Places as places
use Rattle.folder_memory.proofs.Order.{before_not_after, below_is_after, between, not_before}
use Rattle.folder_memory.proofs.States.{at_test}

abbrev Place : Type 0
Place = List (List ℕ)

abbrev Stored : Type 0
Stored = BTreeMap Place (List ℕ)

some_is : (file : Option (List ℕ)) → IsSome file → (bytes : List ℕ) × (file ≡ Some bytes)
some_is None some = absurd (let no : ⊥ = cc in no)
some_is (Some bytes) some = (bytes, refl)

is_some_of : (file : Option (List ℕ)) (bytes : List ℕ) → file ≡ Some bytes → IsSome file
is_some_of None bytes is = let no : ⊥ = cc in absurd no
is_some_of (Some other) bytes is = refl

none_stands : (file : Option (List ℕ)) → file ≡ None → ¬ (IsSome file)
none_stands None is some = let no : ⊥ = cc in no
none_stands (Some bytes) is some = let no : ⊥ = cc in no

not_some : (file : Option (List ℕ)) → ¬ (IsSome file) → file ≡ None
not_some None none = refl
not_some (Some bytes) none = absurd (none refl)

-- ---- where a file has room

module _ (files : Stored) (path : Place) (are : AreFiles (files_of files)) where
  pub nothing_above : NothingBefore files path → ¬ (HasFileAbove (files_of files) path)
  nothing_above none has = none has.0 (below_is_after has.0 path has.1) has.2

  pub above_found : (place : Place) (bytes : List ℕ) → IsLastBefore files path place bytes → IsBelow place path → HasFileAbove (files_of files) path
  above_found place bytes last below = (place, below, is_some_of (files_of files place) bytes last.stands)

  pub above_missed : (place : Place) (bytes : List ℕ) → IsLastBefore files path place bytes → ¬ (IsBelow place path) → ¬ (HasFileAbove (files_of files) path)
  above_missed place bytes last apart has =
      let below = has.1 in
      let up_to = subst (λ p. path_cmp place p ≢ Greater) below.2 (before_not_after place path last.before) in
      let from = not_before place has.0 (last.last has.0 (below_is_after has.0 path below) has.2) in
      let behind = between has.0 place (below.0 ∷ below.1) from up_to in
      at behind.0 behind.1
    where
      at : (more : Place) → place ≡ has.0 ++ more → ⊥
      at [] is = apart (subst (λ p. IsBelow p path) (sym (is ∙ append-nil has.0)) has.1)
      at (name ∷ rest) is =
          let here = some_is (files_of files has.0) has.2 in
          let none = are.apart has.0 here.0 name rest here.1 in
          let some : files_of files (has.0 ++ name ∷ rest) ≡ Some bytes = ap (files_of files) (sym is) ∙ last.stands in
          let no : ⊥ = cc in no

  -- what a test of the last place before the path tells
  pub above_tells : (place : Place) (bytes : List ℕ) → IsLastBefore files path place bytes → (found : Bool) → (IsTrue found → IsBelow place path) → (found ≡ false → ¬ (IsBelow place path)) → IsTrue found ↔ HasFileAbove (files_of files) path
  above_tells place bytes last true below apart = (λ always. above_found place bytes last (below always), λ has. refl)
  above_tells place bytes last false below apart = (λ never. absurd (false≢true never), λ has. absurd (above_missed place bytes last (apart refl) has))

pub room_from : (files : Stored) (path : Place) → path ≢ [] → ¬ (HasFileAbove (files_of files) path) → ¬ (places.HasBelow files path) → HasRoom (files_of files) path
room_from files path some none_above none_below = record {
  not_root = some;
  none_above = λ above name rest is. not_some (files_of files above) (λ stands. none_above (above, (name, rest, is), stands));
  none_below = λ name rest. not_some (files_of files (path ++ name ∷ rest)) (λ stands. none_below (path ++ name ∷ rest, (name, rest, refl), stands));
}

pub not_above : (files : Stored) (path : Place) → HasRoom (files_of files) path → ¬ (HasFileAbove (files_of files) path)
not_above files path room has = none_stands (files_of files has.0) (room.none_above has.0 has.1.0 has.1.1 has.1.2) has.2

pub not_below : (files : Stored) (path : Place) → HasRoom (files_of files) path → ¬ (places.HasBelow files path)
not_below files path room has =
    none_stands (files_of files has.0) (ap (files_of files) has.1.2 ∙ room.none_below has.1.0 has.1.1) has.2

pub not_false : (test : Bool) → not test ≡ true → test ≡ false
not_false true is = absurd (false≢true is)
not_false false is = refl

pub room_tells : (files : Stored) (path : Place) → path ≢ [] → (above below : Bool) → (IsTrue above ↔ HasFileAbove (files_of files) path) → (IsTrue below ↔ places.HasBelow files path) → above ≡ false → IsTrue (not below) ↔ HasRoom (files_of files) path
room_tells files path some above true test_above test_below none = (λ never. absurd (false≢true never), λ room. absurd (not_below files path room (test_below.0 refl)))
room_tells files path some above false test_above test_below none = (
  λ always. room_from files path some (λ has. false≢true (sym none ∙ test_above.1 has)) (λ has. false≢true (test_below.1 has)),
  λ room. refl,
)

-- ---- after a file is put

module _ (old new : Stored) (path key : Place) (bytes value : List ℕ) (same_key : key ≡ path) (same_value : value ≡ bytes)
    (updates : (q : Place) → get path_cmp new q ≡ cond (is_at (path_cmp key) q) (Some value) (get path_cmp old q)) where
  put_there : (place : Place) → files_of new place ≡ put_at (files_of old) path bytes place
  put_there place =
      updates place
      ∙ ap (λ (k : Place). cond (is_at (path_cmp k) place) (Some value) (get path_cmp old place)) same_key
      ∙ ap (λ (v : List ℕ). cond (is_at (path_cmp path) place) (Some v) (get path_cmp old place)) same_value
      ∙ ap (λ (b : Bool). cond b (Some bytes) (get path_cmp old place)) (at_test path place)

  pub put_done : files_of new ≡ put_at (files_of old) path bytes
  put_done = λ i place. put_there place i

longer : (place : Place) (name : List ℕ) (rest : Place) → place ++ name ∷ rest ≢ place
longer place name rest e = let same = ap length e in absurd (omega (arith, same, length-append place (name ∷ rest)))

pub AreFiles-put_at : (files : Files) (path : Place) (bytes : List ℕ) → AreFiles files → HasRoom files path → IsPath path → AreFiles (put_at files path bytes)
AreFiles-put_at files path bytes are room is_path = record {
  paths = λ place b is. elim (same_path place path) [
    | inl here ↦ subst IsPath (sym here) is_path
    | inr other ↦ are.paths place b (sym (changed_other files path (Some bytes) place other) ∙ is)
  ];
  root = changed_other files path (Some bytes) [] (λ e. room.not_root (sym e)) ∙ are.root;
  apart = apart;
}
  where
    apart : (place : Place) (b name : List ℕ) (rest : Place) → put_at files path bytes place ≡ Some b → put_at files path bytes (place ++ name ∷ rest) ≡ None
    apart place b name rest is = elim (same_path place path) [
      | inl here ↦ changed_other files path (Some bytes) _ (λ e. longer place name rest (e ∙ sym here)) ∙ ap (λ p. files (p ++ name ∷ rest)) here ∙ room.none_below name rest
      | inr other ↦
          let stands = sym (changed_other files path (Some bytes) place other) ∙ is in
          changed_other files path (Some bytes) _ (λ e. let none = room.none_above place name rest (sym e) in let no : ⊥ = cc in no) ∙ are.apart place b name rest stands
    ]

-- after a file that was put, or wasn't
pub files_after : (old new : Files) (path : Place) (bytes : List ℕ) → (new ≡ put_at old path bytes) ⊎ (new ≡ old) → AreFiles old → HasRoom old path → IsPath path → AreFiles new
files_after old new path bytes (inl is) are room is_path = subst AreFiles (sym is) (AreFiles-put_at old path bytes are room is_path)
files_after old new path bytes (inr is) are room is_path = subst AreFiles (sym is) are

-- ---- the names below a path

pub kids_told : (files : Stored) (path : Place) (names : List (List ℕ)) → AreThose (λ name. HasFrom files (path ++ name ∷ [])) names → AreThose (λ name. HasBelow (files_of files) (path ++ name ∷ [])) names
kids_told files path names those name = (
  λ had. let from = (those name).0 had in let found = some_is _ from.1 in (from.0, found.0, found.1),
  λ has. (those name).1 (has.0, is_some_of _ has.1 has.2),
)
