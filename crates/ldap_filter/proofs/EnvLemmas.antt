-- Looking up a key, entry by entry.
use Rattle.std.proofs.Common.{◌≡◌, ℕ, ◌+◌, ◌<◌, Bool, true, false, nat_eq, Some, List, [], ◌∷◌, length, get_or, drop, refl, ap, sym, ◌∙◌, arith}
use Rattle.std.proofs.lemmas.List.Elements.{All-get_or}
use Rattle.std.proofs.lemmas.List.{get_or-map, length-map}
use Rattle.std.specs.Cmp.Lexicographic.{pointwise}
use Rattle.ldap_filter.proofs.Rest.{rest_at}
use Rattle.ldap_filter.specs.SameLaws.{text_eq-itself, text_eq-same}
use Rattle.ldap_filter.specs.EnvPairs.{IsEnv, IsEnvPair, lowered, value_of}
use Rattle.ldap_filter.specs.EnvSeen.{pair_seen, pairs_seen}
use Rattle.ldap_filter.specs.EnvEq.{env_eq}
use Rattle.ldap_filter.specs.declared.env.Entry.{Entry}
use Rattle.ldap_filter.specs.contracts.env.EntryPartialEq.TheImpl.{eq-value}

pub entries_eq : (xs ys : List Entry) → pointwise eq-value.it xs ys ≡ env_eq (pairs_seen xs) (pairs_seen ys)
entries_eq [] [] = refl
entries_eq [] (y ∷ ys) = refl
entries_eq (x ∷ xs) [] = refl
entries_eq (x ∷ xs) (y ∷ ys) = rw (entries_eq xs ys) refl

-- an entry's key has no capital letter
pub low_at : (es : List Entry) (i : ℕ) (e : Entry) → i < length es → e ≡ get_or es i e → IsEnv (pairs_seen es) → lowered e.key ≡ e.key
low_at es i e inside is env =
    let pair = All-get_or IsEnvPair (pairs_seen es) i (e.key, e.value) (omega (arith, length-map es pair_seen)) env.each in
    let at : get_or (pairs_seen es) i (e.key, e.value) ≡ (e.key, e.value) = get_or-map pair_seen es i e (pair_seen e) inside ∙ ap pair_seen (sym is) in
    (rw at at pair).low

pub value_of-here : (e : Entry) (es : List Entry) (k : List ℕ) → e.key ≡ k → value_of (pairs_seen (e ∷ es)) k ≡ Some e.value
value_of-here e es k same = rw (← same, text_eq-itself e.key) refl

pub value_of-later : (e : Entry) (es : List Entry) (k : List ℕ) → ¬ (e.key ≡ k) → value_of (pairs_seen (e ∷ es)) k ≡ value_of (pairs_seen es) k
value_of-later e es k other = by_test (pointwise nat_eq e.key k) refl
  where
    by_test : (t : Bool) → pointwise nat_eq e.key k ≡ t → value_of (pairs_seen (e ∷ es)) k ≡ value_of (pairs_seen es) k
    by_test true h = absurd (other (text_eq-same e.key k h))
    by_test false h = rw h refl

-- the entry at the key is found
pub found : (es : List Entry) (i : ℕ) (e : Entry) (key : List ℕ) → i < length es → e ≡ get_or es i e → IsEnv (pairs_seen es) → lowered e.key ≡ lowered key
    → value_of (pairs_seen es) (lowered key) ≡ value_of (pairs_seen (drop i es)) (lowered key) → Some e.value ≡ value_of (pairs_seen es) (lowered key)
found es i e key inside is env same so_far =
    sym (so_far ∙ (ap (λ xs. value_of (pairs_seen xs) (lowered key)) (rest_at es i e inside is)
    ∙ value_of-here e (drop (i + 1) es) (lowered key) (sym (low_at es i e inside is env) ∙ same)))

-- another entry is passed
pub passed : (es : List Entry) (i : ℕ) (e : Entry) (key : List ℕ) → i < length es → e ≡ get_or es i e → IsEnv (pairs_seen es) → ¬ (lowered e.key ≡ lowered key)
    → value_of (pairs_seen es) (lowered key) ≡ value_of (pairs_seen (drop i es)) (lowered key) → value_of (pairs_seen es) (lowered key) ≡ value_of (pairs_seen (drop (i + 1) es)) (lowered key)
passed es i e key inside is env other so_far =
    so_far ∙ (ap (λ xs. value_of (pairs_seen xs) (lowered key)) (rest_at es i e inside is)
    ∙ value_of-later e (drop (i + 1) es) (lowered key) (λ same. other (low_at es i e inside is env ∙ same)))
