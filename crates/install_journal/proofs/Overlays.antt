-- What a list of entries makes of a map.
use Rattle.std.proofs.Common.{◌≡◌, ◌≢◌, ℕ, List, [], ◌∷◌, ◌++◌, None, ◌⊎◌, inl, inr, ⊎_elim, refl, sym, ◌∙◌, ap, subst}
use Rattle.folder_core.specs.Folder.{Map, CanSet, set_at}
use Rattle.folder_core.specs.Path.{IsBelow, parent}
use Rattle.folder_core.proofs.Maps.{same_path, changed_here, changed_other, front_last}
use Rattle.backup_store.specs.Places.{IsOutside}
use Rattle.backup_store.specs.declared.entry.Entry.{Entry}
use Rattle.install_journal.specs.Overlay.{overlay, Covers}
use Rattle.install_journal.specs.Kept.{Serves, entry_of}

pub covers_or_not : (entries : List Entry) (path : List (List ℕ)) → Covers entries path ⊎ (¬ (Covers entries path))
covers_or_not [] path = inr (λ none. none)
covers_or_not (entry ∷ entries) path = elim (same_path path entry.path) [
  | inl here ↦ inl (inl here)
  | inr apart ↦ ⊎_elim (λ covers. inl (inr covers)) (λ none. inr (λ covers. ⊎_elim apart none covers)) (covers_or_not entries path)
]

pub overlay_uncovered : (entries : List Entry) (m : Map) (path : List (List ℕ)) → ¬ (Covers entries path) → overlay entries m path ≡ m path
overlay_uncovered [] m path none = refl
overlay_uncovered (entry ∷ entries) m path none =
    changed_other (overlay entries m) entry.path entry.before path (λ here. none (inl here)) ∙ overlay_uncovered entries m path (λ covers. none (inr covers))

pub overlay_append : (entries others : List Entry) (m : Map) → overlay (entries ++ others) m ≡ overlay entries (overlay others m)
overlay_append [] others m = refl
overlay_append (entry ∷ entries) others m = ap (λ (x : Map). set_at x entry.path entry.before) (overlay_append entries others m)

pub covers_append : (entries others : List Entry) (path : List (List ℕ)) → Covers (entries ++ others) path → Covers entries path ⊎ Covers others path
covers_append [] others path covers = inr covers
covers_append (entry ∷ entries) others path (inl here) = inl (inl here)
covers_append (entry ∷ entries) others path (inr there) = ⊎_elim (λ covers. inl (inr covers)) (λ covers. inr covers) (covers_append entries others path there)

pub covers_front : (entries others : List Entry) (path : List (List ℕ)) → Covers entries path → Covers (entries ++ others) path
covers_front [] others path covers = absurd covers
covers_front (entry ∷ entries) others path (inl here) = inl here
covers_front (entry ∷ entries) others path (inr there) = inr (covers_front entries others path there)

pub covers_back : (entries others : List Entry) (path : List (List ℕ)) → Covers others path → Covers (entries ++ others) path
covers_back [] others path covers = covers
covers_back (entry ∷ entries) others path covers = inr (covers_back entries others path covers)

pub serves_nothing : (old : Map) → Serves [] old
serves_nothing old = record {
  not_root = λ none. none;
  outside = λ path none. absurd none;
  first = λ path m none. absurd none;
  apart = λ path place none. absurd none;
}

-- what lies below a path outside, which isn't the root, is outside
pub outside_below : (path place : List (List ℕ)) → path ≢ [] → IsOutside path → IsBelow path place → IsOutside place
outside_below [] place some outside below = absurd (some refl)
outside_below (x ∷ path) place some outside (name, rest, is) = λ tail same. outside path (let both = sym is ∙ same in cc)

pub outside_root : IsOutside []
outside_root = λ tail same. cc

-- the parent of a path outside is outside
pub outside_parent : (path : List (List ℕ)) → path ≢ [] → IsOutside path → IsOutside (parent path)
outside_parent path some outside = λ tail same.
    let last = front_last path some in
    outside (tail ++ last.0 ∷ []) (last.1 ∙ ap (λ (l : List (List ℕ)). l ++ last.0 ∷ []) same)

-- what one entry more covers
pub covers_push : (entries : List Entry) (m : Map) (path place : List (List ℕ)) → Covers (entries ++ entry_of m path ∷ []) place → Covers entries place ⊎ (place ≡ path)
covers_push entries m path place covers =
    ⊎_elim (λ had. inl had) (λ one. ⊎_elim (λ here. inr here) (λ none. absurd none) one) (covers_append entries (entry_of m path ∷ []) place covers)

first_push : (entries : List Entry) (old m n : Map) (path place : List (List ℕ)) → Serves entries old → IsOutside path
    → ((q : List (List ℕ)) → IsOutside q → ¬ (Covers entries q) → m q ≡ old q)
    → Covers entries place ⊎ (place ≡ path)
    → overlay entries (set_at n path (m path)) place ≡ old place
first_push entries old m n path place serves outside rest covers = elim (covers_or_not entries place) [
  | inl had ↦ serves.first place (set_at n path (m path)) had
  | inr none ↦
      let here : place ≡ path = ⊎_elim (λ had. absurd (none had)) (λ here. here) covers in
      overlay_uncovered entries (set_at n path (m path)) place none
      ∙ changed_here n path (m path) place here
      ∙ ap m (sym here)
      ∙ rest place (subst IsOutside (sym here) outside) none
]

apart_push : (entries : List Entry) (old m : Map) (path upper place : List (List ℕ)) → Serves entries old → IsOutside path → CanSet m path
    → ((q : List (List ℕ)) → IsOutside q → ¬ (Covers entries q) → m q ≡ old q)
    → Covers entries upper ⊎ (upper ≡ path) → IsBelow upper place → ¬ (Covers entries place) → old place ≡ None
apart_push entries old m path upper place serves outside can rest (inl had) below none = serves.apart upper place had below none
apart_push entries old m path upper place serves outside can rest (inr here) below none =
    let beneath = subst (λ (p : List (List ℕ)). IsBelow p place) here below in
    let nothing : m place ≡ None = ap m beneath.2 ∙ can.nothing_below beneath.0 beneath.1 in
    sym (rest place (outside_below path place can.not_root outside beneath) none) ∙ nothing

-- one entry more, of what stands at a path that may be set
pub serves_push : (entries : List Entry) (old m : Map) (path : List (List ℕ)) → Serves entries old
    → IsOutside path → CanSet m path
    → ((place : List (List ℕ)) → IsOutside place → ¬ (Covers entries place) → m place ≡ old place)
    → Serves (entries ++ entry_of m path ∷ []) old
serves_push entries old m path serves outside can rest = record {
  not_root = λ covers. ⊎_elim serves.not_root (λ here. can.not_root (sym here)) (covers_push entries m path [] covers);
  outside = λ place covers. ⊎_elim (serves.outside place) (λ here. subst IsOutside (sym here) outside) (covers_push entries m path place covers);
  first = λ place n covers.
      ap (λ (x : Map). x place) (overlay_append entries (entry_of m path ∷ []) n)
      ∙ first_push entries old m n path place serves outside rest (covers_push entries m path place covers);
  apart = λ upper place covers below none.
      apart_push entries old m path upper place serves outside can rest (covers_push entries m path upper covers) below
      (λ had. none (covers_front entries (entry_of m path ∷ []) place had));
}
