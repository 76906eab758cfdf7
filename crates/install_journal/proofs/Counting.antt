-- Which entries count in a map, and what it restores to.
use Rattle.std.proofs.Common.{◌≡◌, ◌≢◌, ℕ, suc, ◌+◌, ◌<◌, List, [], ◌∷◌, length, get_or, take, ◌-◌, Option, Some, None, ◌⊎◌, inl, inr, ⊎_elim, refl, sym, ◌∙◌, ap, subst, arith, codes}
use Rattle.std.proofs.lemmas.List.{ext_get_or}
use Rattle.std.proofs.lemmas.Slice.Eq.{bytes_eq-Decides}
use Rattle.std.proofs.lemmas.Bool.{cases_Bool, both_ways}
use Rattle.std.specs.Str.{bytes_eq}
use Rattle.folder_core.specs.Folder.{Map, IsFormed}
use Rattle.folder_core.specs.Path.{parent}
use Rattle.folder_core.specs.declared.node.Node.{Node}
use Rattle.folder_core.specs.declared.node.Node.TheVariants.{File, Dir, Link}
use Rattle.backup_store.specs.Held.{IsFileOf, gate_text, IsOpen as OpensGate}
use Rattle.backup_store.specs.Places.{IsOutside, gate_path}
use Rattle.backup_store.specs.declared.entry.Entry.{Entry}
use Rattle.install_journal.specs.Overlay.{no_entry, overlay, Covers, SameOutside}
use Rattle.install_journal.specs.Kept.{Serves}
use Rattle.install_journal.specs.Restored.{AreCounted, IsRestored, RestoresLike}
use Rattle.install_journal.specs.Tidy.{SameForeign}
use Rattle.install_journal.proofs.Overlays.{covers_or_not, overlay_uncovered, outside_parent, outside_root, outside_below}
use Rattle.install_journal.proofs.Unique.{holds_one_path, holds_one_node}

pub same_outside_sym : (a b : Map) → SameOutside a b → SameOutside b a
same_outside_sym a b same path outside = sym (same path outside)

pub same_outside_then : (a b c : Map) → SameOutside a b → SameOutside b c → SameOutside a c
same_outside_then a b c first second path outside = first path outside ∙ second path outside

pub same_bytes : (a b : List ℕ) → (a ≡ b) ⊎ (a ≢ b)
same_bytes a b = elim (cases_Bool (bytes_eq a b)) [
  | inl same ↦ inl ((bytes_eq-Decides a b).0 same)
  | inr other ↦ inr (λ is. both_ways _ other ((bytes_eq-Decides a b).1 is))
]

-- whether a file with these bytes stands there
pub is_file_or_not : (bytes : List ℕ) (stands : Option Node) → IsFileOf bytes stands ⊎ (¬ (IsFileOf bytes stands))
is_file_or_not bytes None = inr (λ is. let e = is.1 in cc)
is_file_or_not bytes (Some (File mode blob)) = elim (same_bytes blob bytes) [
  | inl same ↦ inl (mode, ap (λ (b : List ℕ). Some (File mode b)) same)
  | inr other ↦ inr (λ is. let e = is.1 in other cc)
]
is_file_or_not bytes (Some Dir) = inr (λ is. let e = is.1 in cc)
is_file_or_not bytes (Some (Link target)) = inr (λ is. let e = is.1 in cc)

-- a map with a closed gate is its own installation
pub closed_restores : (m restored : Map) → ¬ (OpensGate m) → SameOutside restored m → IsRestored m restored
closed_restores m restored closed same = record { closed = λ no. same; opened = λ opens. absurd (closed opens) }

-- what a map restores to outside `.p2` alone matters
pub restored_same : (m a b : Map) → SameOutside b a → IsRestored m a → IsRestored m b
restored_same m a b same restored = record {
  closed = λ no. same_outside_then b a m same (restored.closed no);
  opened = λ opens. let back = restored.opened opens in
      record { entries = back.entries; counted = back.counted; can_overlay = back.can_overlay; same = same_outside_then b a (overlay back.entries m) same back.same };
}

pub inside_or_outside : (path : List (List ℕ)) → IsOutside path ⊎ ((rest : List (List ℕ)) × (path ≡ codes ".p2" ∷ rest))
inside_or_outside [] = inl outside_root
inside_or_outside (name ∷ rest) = elim (same_bytes name (codes ".p2")) [
  | inl same ↦ inr (rest, ap (λ (x : List ℕ). x ∷ rest) same)
  | inr other ↦ inl (λ tail is. other cc)
]

pub inside_not : (path rest : List (List ℕ)) → path ≡ codes ".p2" ∷ rest → ¬ (IsOutside path)
inside_not path rest is outside = outside rest is

-- The parent of a path inside is the root or inside.
parent_inside : (rest : List (List ℕ)) → (parent (codes ".p2" ∷ rest) ≡ []) ⊎ ((tail : List (List ℕ)) × (parent (codes ".p2" ∷ rest) ≡ codes ".p2" ∷ tail))
parent_inside [] = inl refl
parent_inside (name ∷ rest) =
    let count : length (codes ".p2" ∷ name ∷ rest) - 1 ≡ suc (length rest) = omega arith in
    inr (take (length rest) (name ∷ rest), ap (λ (n : ℕ). take n (codes ".p2" ∷ name ∷ rest)) count)

module _ (entries : List Entry) (old m : Map) (serves : Serves entries old) (rest : (path : List (List ℕ)) → IsOutside path → ¬ (Covers entries path) → m path ≡ old path) where
  overlay_outside : (path : List (List ℕ)) → IsOutside path → overlay entries m path ≡ old path
  overlay_outside path outside = ⊎_elim
      (λ covers. serves.first path m covers)
      (λ none. overlay_uncovered entries m path none ∙ rest path outside none)
      (covers_or_not entries path)

  overlay_inside : (path tail : List (List ℕ)) → path ≡ codes ".p2" ∷ tail → overlay entries m path ≡ m path
  overlay_inside path tail is = overlay_uncovered entries m path (λ covers. serves.outside path covers tail is)

  module _ (old_formed : IsFormed old) (formed : IsFormed m) where
    overlay_parents : (path : List (List ℕ)) (stands : Node) → path ≢ [] → overlay entries m path ≡ Some stands → overlay entries m (parent path) ≡ Some Dir
    overlay_parents path stands some is = elim (inside_or_outside path) [
      | inl outside ↦ overlay_outside (parent path) (outside_parent path some outside) ∙ old_formed.parents path stands some (sym (overlay_outside path outside) ∙ is)
      | inr (tail, inside) ↦
          let above : m (parent path) ≡ Some Dir = formed.parents path stands some (sym (overlay_inside path tail inside) ∙ is) in
          let same : parent path ≡ parent (codes ".p2" ∷ tail) = ap parent inside in
          ⊎_elim
          (λ root. ap (overlay entries m) (same ∙ root) ∙ overlay_outside [] outside_root ∙ old_formed.root)
          (λ deeper. overlay_inside (parent path) deeper.0 (same ∙ deeper.1) ∙ above)
          (parent_inside tail)
    ]

    -- what stands in the overlay stands in the old map or in this one
    overlay_from : (path : List (List ℕ)) → (overlay entries m path ≡ old path) ⊎ (overlay entries m path ≡ m path)
    overlay_from path = ⊎_elim (λ outside. inl (overlay_outside path outside)) (λ inside. inr (overlay_inside path inside.0 inside.1)) (inside_or_outside path)

    overlay_formed : IsFormed (overlay entries m)
    overlay_formed = record {
      root = overlay_outside [] outside_root ∙ old_formed.root;
      parents = overlay_parents;
      paths = λ path stands is. ⊎_elim (λ e. old_formed.paths path stands (sym e ∙ is)) (λ e. formed.paths path stands (sym e ∙ is)) (overlay_from path);
      nodes = λ path stands is. ⊎_elim (λ e. old_formed.nodes path stands (sym e ∙ is)) (λ e. formed.nodes path stands (sym e ∙ is)) (overlay_from path);
      small = λ path stands is. ⊎_elim (λ e. old_formed.small path stands (sym e ∙ is)) (λ e. formed.small path stands (sym e ∙ is)) (overlay_from path);
    }

    -- Where the counted entries serve the old installation, and nothing but their paths is changed, it is restored.
    pub serve_restores : OpensGate m → AreCounted m entries → IsRestored m old
    serve_restores opens counted = record {
      closed = λ no. absurd (no opens);
      opened = λ _. record {
        entries = entries;
        counted = counted;
        can_overlay = record {
          not_root = serves.not_root;
          outside = serves.outside;
          none_below = λ path place covers below none.
              let some : path ≢ [] = λ root. serves.not_root (subst (Covers entries) root covers) in
              rest place (outside_below path place some (serves.outside path covers) below) none ∙ serves.apart path place covers below none;
          formed = overlay_formed;
        };
        same = λ path outside. sym (overlay_outside path outside);
      };
    }

no_longer : (m : Map) (a b : List Entry) → AreCounted m a → AreCounted m b → ¬ (length a < length b)
no_longer m a b counted others longer = counted.last (omega (arith, others.most)) (others.counts (length a) longer)

same_entry : (a b : Entry) → a.path ≡ b.path → a.before ≡ b.before → a ≡ b
same_entry a b path before = λ i. record { path = path i; before = before i }

-- a map has one list of entries that count
pub counted_one : (m : Map) (a b : List Entry) → AreCounted m a → AreCounted m b → a ≡ b
counted_one m a b counted others =
    let below = no_longer m a b counted others in
    let above = no_longer m b a others counted in
    let long : length a ≡ length b = omega (arith, below, above) in
    ext_get_or no_entry a b long (λ place near.
    let first = counted.holds place near in
    let second = others.holds place (omega arith) in
    same_entry (get_or a place no_entry) (get_or b place no_entry)
    (holds_one_path m (place + 1) _ _ _ _ first second)
    (holds_one_node m (place + 1) _ _ _ _ first second))

-- a map restores to one installation
pub restored_one : (m a b : Map) → IsRestored m a → IsRestored m b → SameOutside a b
restored_one m a b first second = elim (is_file_or_not gate_text (m gate_path)) [
  | inl opens ↦
      let one = first.opened opens in
      let two = second.opened opens in
      let entries = counted_one m one.entries two.entries one.counted two.counted in
      λ path outside. one.same path outside ∙ ap (λ (l : List Entry). overlay l m path) entries ∙ sym (two.same path outside)
  | inr closed ↦ same_outside_then a m b (first.closed closed) (same_outside_sym b m (second.closed closed))
]

-- two maps that restore to the same restore alike
pub restores_alike : (a b old : Map) → IsRestored a old → IsRestored b old → SameForeign a b → RestoresLike a b
restores_alike a b old first second foreign = record {
  restores = λ restored is. restored_same b old restored (restored_one a restored old is first) second;
  foreign = foreign;
}

pub restores_itself : (m : Map) → RestoresLike m m
restores_itself m = record { restores = λ restored is. is; foreign = λ path is. refl }

pub restores_then : (a b c : Map) → RestoresLike a b → RestoresLike b c → RestoresLike a c
restores_then a b c first second = record {
  restores = λ restored is. second.restores restored (first.restores restored is);
  foreign = λ path is. second.foreign path is ∙ first.foreign path is;
}
