-- The places in a map, and those that a loop over them has seen.
use Rattle.std.specs.Prelude.{map}
use Rattle.std.proofs.Common.{◌≡◌, inl, inr, ℕ, zero, suc, List, [], ◌∷◌, Bor, Ordering, sym, ◌∙◌, ap, subst, arith}
use Rattle.std.specs.List.{Contains}
use Rattle.std.specs.Option.{IsSome}
use Rattle.std.specs.Ordering.{nat_cmp, is_eq}
use Rattle.std.specs.BTreeMap.{BTreeMap, get, keys}
use Rattle.std.specs.Map.Iter.{deref}
use Rattle.std.specs.Cmp.Lexicographic.{slice_cmp, lists_ties, texts_ties}
use Rattle.std.proofs.lemmas.Map.Lookups.{CmpEqualImpliesEq}
use Rattle.std.proofs.lemmas.Map.Views.{btree_map_contains_key_iff}
use Rattle.folder_core.specs.Path.{path_eqb}
use Rattle.folder_core.specs.PathOrder.{path_cmp}
use Rattle.folder_core.proofs.Maps.{path_eqb-Decides}
use Rattle.folder_core.proofs.PathOrder.{path_cmp_total}
use Rattle.folder_memory.proofs.Kids.{AnyOf}

abbrev Place : Type 0
Place = List (List ℕ)

-- the order and the test of paths tell the same apart
pub same_test : (a b : Place) → is_eq (path_cmp a b) ≡ path_eqb a b
same_test a b = sym (lists_ties (slice_cmp nat_cmp) texts_ties a b)

pub exact_paths : CmpEqualImpliesEq path_cmp
exact_paths a b e = (path_eqb-Decides a b).0 (sym (same_test a b) ∙ ap (λ (o : Ordering). is_eq o) e)

pub any_seen : (P : Place → Type 0) (xs : List (Bor Place)) (place : Place) → Contains (map deref xs) place → P place → AnyOf (λ x. P x.now) xs
any_seen P [] place (k, below, at) holds = absurd (omega arith)
any_seen P (x ∷ xs) place (zero, below, at) holds = inl (subst P (sym at) holds)
any_seen P (x ∷ xs) place (suc k, below, at) holds = inr (any_seen P xs place (k, omega arith, at) holds)

pub listed_there : {V : Type 0} (places : BTreeMap Place V) (place : Place) → IsSome (get path_cmp places place) → Contains (keys places) place
listed_there places place some = (btree_map_contains_key_iff path_cmp_total exact_paths places place).0 some
