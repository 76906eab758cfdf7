-- Finding a key's place, entry by entry.
use Rattle.std.proofs.Common.{◌≡◌, ℕ, ◌+◌, ◌<◌, ◌≤◌, Some, None, Ok, Err, List, [], ◌∷◌, length, take, get_or, All, refl, ap, sym, ◌∙◌, subst, arith, take_all, le_refl}
use Rattle.std.specs.List.{slice_get}
use Rattle.std.specs.Ordering.{nat_cmp, ordering_then, ordering_reverse}
use Rattle.std.specs.declared.cmp.Ordering.{Ordering}
use Rattle.std.specs.declared.cmp.Ordering.TheVariants.{Less, Equal, Greater}
use Rattle.std.specs.Cmp.Lexicographic.{slice_cmp}
use Rattle.std.proofs.lemmas.Cmp.{nat_list_cmp_total}
use Rattle.std.proofs.lemmas.Option.{slice_get_read, slice_get_past}
use Rattle.std.proofs.lemmas.List.Elements.{All-more}
use Rattle.std.proofs.lemmas.Bool.Decides.{nat_tests}
use Rattle.ldap_filter.specs.EnvPlace.{AreBelow, IsPlace}
use Rattle.ldap_filter.specs.declared.env.Entry.{Entry}

nat_cmp-equal : (m n : ℕ) → nat_cmp m n ≡ Equal → m ≡ n
nat_cmp-equal m n e = grind (arith, nat_tests)

then_equal : (o p : Ordering) → ordering_then o p ≡ Equal → (o ≡ Equal) × (p ≡ Equal)
then_equal Less p e = absurd (cc)
then_equal Equal p e = (refl, e)
then_equal Greater p e = absurd (cc)

slice_cmp-equal : (xs ys : List ℕ) → slice_cmp nat_cmp xs ys ≡ Equal → xs ≡ ys
slice_cmp-equal [] [] e = refl
slice_cmp-equal [] (y ∷ ys) e = absurd (cc)
slice_cmp-equal (x ∷ xs) [] e = absurd (cc)
slice_cmp-equal (x ∷ xs) (y ∷ ys) e =
    let parts = then_equal (nat_cmp x y) (slice_cmp nat_cmp xs ys) e in
    let first = nat_cmp-equal x y parts.0 in
    let rest = slice_cmp-equal xs ys parts.1 in
    cc

slice_cmp-greater : (xs ys : List ℕ) → slice_cmp nat_cmp xs ys ≡ Greater → slice_cmp nat_cmp ys xs ≡ Less
slice_cmp-greater xs ys e = nat_list_cmp_total.antisymm ys xs ∙ ap ordering_reverse e

at_place : (es : List Entry) (i : ℕ) (x e : Entry) → i < length es → x ≡ get_or es i x → slice_get es i ≡ Some e → e ≡ x
at_place es i x e inside is at =
    let there : slice_get es i ≡ Some x = slice_get_read es (length es) i x refl inside is in
    cc

pub IsPlace-found : (es : List Entry) (i : ℕ) (x : Entry) (key : List ℕ) → i < length es → x ≡ get_or es i x → AreBelow es key i → slice_cmp nat_cmp x.key key ≡ Equal → IsPlace es key (Ok i)
IsPlace-found es i x key inside is below equal =
    (inside, below, λ e at. ap (λ (y : Entry). y.key) (at_place es i x e inside is at) ∙ slice_cmp-equal x.key key equal)

pub IsPlace-absent : (es : List Entry) (i : ℕ) (x : Entry) (key : List ℕ) → i < length es → x ≡ get_or es i x → AreBelow es key i → slice_cmp nat_cmp x.key key ≡ Greater → IsPlace es key (Err i)
IsPlace-absent es i x key inside is below greater =
    (omega arith, below, λ e at. ap (λ (y : Entry). slice_cmp nat_cmp key y.key) (at_place es i x e inside is at) ∙ slice_cmp-greater x.key key greater)

pub IsPlace-end : (es : List Entry) (key : List ℕ) (i : ℕ) → length es ≤ i → AreBelow es key i → IsPlace es key (Err (length es))
IsPlace-end es key i past below =
    let all : take i es ≡ take (length es) es = take_all i es past ∙ sym (take_all (length es) es (le_refl (length es))) in (
      le_refl (length es),
      subst (All (λ e. slice_cmp nat_cmp e.key key ≡ Less)) all below,
      λ e at. absurd (none e (slice_get_past es (length es) (le_refl (length es))) at),
    )
  where
    none : (e : Entry) → slice_get es (length es) ≡ None → slice_get es (length es) ≡ Some e → ⊥
    none e p q = let r : Some e ≡ None = sym q ∙ p in absurd (cc)

pub AreBelow-more : (es : List Entry) (i : ℕ) (x : Entry) (key : List ℕ) → i < length es → x ≡ get_or es i x → AreBelow es key i → slice_cmp nat_cmp x.key key ≡ Less → AreBelow es key (i + 1)
AreBelow-more es i x key inside is below less =
    All-more (λ e. slice_cmp nat_cmp e.key key ≡ Less) es i x inside below (ap (λ (y : Entry). slice_cmp nat_cmp y.key key) (sym is) ∙ less)
