-- What is known when one digest more is named.
use Rattle.std.proofs.Common.{◌≡◌, ◌≢◌, inl, inr, ℕ, Bool, true, false, cond, List, [], ◌∷◌, ◌++◌, Option, Some, None, ⊎_elim, refl, sym, ap, ◌∙◌, subst}
use Rattle.std.specs.Prelude.{is_some}
use Rattle.std.specs.BTreeMap.{get, is_at}
use Rattle.std.specs.Ordering.{nat_cmp, is_eq}
use Rattle.std.specs.Cmp.Lexicographic.{slice_cmp, lists_ties, texts_ties}
use Rattle.std.proofs.lemmas.Bool.{cases_Bool, false≢true}
use Rattle.folder_core.specs.Path.{path_eqb}
use Rattle.folder_core.specs.PathOrder.{path_cmp}
use Rattle.folder_core.proofs.Maps.{path_eqb-Decides, same_path}
use Rattle.artifact_pool.specs.DigestText.{AreKnown, IsFirst}
use Rattle.artifact_pool.specs.declared.digest_line.KnownDigest.{KnownDigest}
use Rattle.artifact_pool.specs.declared.digests.Digests.{Digests}
use Rattle.artifact_pool.proofs.Firsts.{first_new, first_other, first_had}

same_test : (a b : List (List ℕ)) → is_eq (path_cmp a b) ≡ path_eqb a b
same_test a b = sym (lists_ties (slice_cmp nat_cmp) texts_ties a b)

same_paths : (a b : List (List ℕ)) → a ≡ b → is_at (path_cmp a) b ≡ true
same_paths a b is = same_test a b ∙ (path_eqb-Decides a b).1 is

other_paths : (a b : List (List ℕ)) → a ≢ b → is_at (path_cmp a) b ≡ false
other_paths a b other = ⊎_elim (λ same. absurd (other ((path_eqb-Decides a b).0 (sym (same_test a b) ∙ same)))) (λ apart. apart) (cases_Bool (is_eq (path_cmp a b)))

-- The first digest of its path is noted.
pub known_first : (k : KnownDigest) (old new : Digests) → is_some (get path_cmp old.known k.path) ≡ false
    → ((path : List (List ℕ)) → get path_cmp new.known path ≡ cond (is_at (path_cmp k.path) path) (Some k.digest) (get path_cmp old.known path))
    → (before : List KnownDigest) → AreKnown before old → AreKnown (before ++ k ∷ []) new
known_first k old new none updates before known path = subst (IsFirst (before ++ k ∷ []) path) (sym (updates path)) at
  where
    no_digest : (found : Option (List ℕ)) → is_some found ≡ false → found ≡ None
    no_digest None is = refl
    no_digest (Some d) is = absurd (false≢true (sym is))

    at : IsFirst (before ++ k ∷ []) path (cond (is_at (path_cmp k.path) path) (Some k.digest) (get path_cmp old.known path))
    at = elim (same_path k.path path) [
      | inl here ↦ subst (λ (b : Bool). IsFirst (before ++ k ∷ []) path (cond b (Some k.digest) (get path_cmp old.known path))) (sym (same_paths k.path path here))
          (first_new before k path (get path_cmp old.known path) (ap (get path_cmp old.known) (sym here) ∙ no_digest (get path_cmp old.known k.path) none) here (known path))
      | inr apart ↦ subst (λ (b : Bool). IsFirst (before ++ k ∷ []) path (cond b (Some k.digest) (get path_cmp old.known path))) (sym (other_paths k.path path apart))
          (first_other before k path (get path_cmp old.known path) apart (known path))
    ]

-- A later one of its path isn't.
pub known_again : (k : KnownDigest) (old : Digests) → is_some (get path_cmp old.known k.path) ≡ true → (before : List KnownDigest) → AreKnown before old → AreKnown (before ++ k ∷ []) old
known_again k old some before known path = elim (same_path k.path path) [
  | inl here ↦ first_had before k path (get path_cmp old.known path) (λ none. false≢true (ap is_some (sym none ∙ ap (get path_cmp old.known) (sym here)) ∙ some)) (known path)
  | inr apart ↦ first_other before k path (get path_cmp old.known path) apart (known path)
]
