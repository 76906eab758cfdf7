-- An environment with another entry, or none, at a key.
use Rattle.std.proofs.Common.{◌≡◌, ◌≢◌, ℕ, zero, suc, ◌<◌, Bool, true, false, nat_eq, Option, Some, None, Ok, List, [], ◌∷◌, ◌++◌, length, take, drop, set, All, refl, ap, sym, ◌∙◌, subst, arith}
use Rattle.std.specs.List.{slice_get}
use Rattle.std.specs.Ordering.{nat_cmp}
use Rattle.std.specs.declared.cmp.Ordering.TheVariants.{Less, Equal}
use Rattle.std.specs.Cmp.Lexicographic.{pointwise, slice_cmp}
use Rattle.std.proofs.lemmas.Cmp.{nat_list_cmp_total, tied_itself}
use Rattle.std.proofs.lemmas.List.{map-append, take-append-drop}
use Rattle.std.proofs.lemmas.List.Elements.{All-nil, All-cons, All-head, All-tail, All-append, All-map, All-weaker}
use Rattle.ldap_filter.specs.SameLaws.{text_eq-itself, text_eq-same}
use Rattle.ldap_filter.specs.EnvPairs.{EnvPair, IsEnv, IsEnvPair, IsRising, Sets, some_unless_empty, value_of}
use Rattle.ldap_filter.specs.EnvSeen.{pair_seen, pairs_seen}
use Rattle.ldap_filter.specs.EnvPlace.{AreBelow, IsPlace, Changes}
use Rattle.ldap_filter.specs.declared.env.Entry.{Entry}

-- the order of keys
abbrev Before : List ℕ → List ℕ → Type 0
Before j k = slice_cmp nat_cmp j k ≡ Less

Before-trans : (i j k : List ℕ) → Before i j → Before j k → Before i k
Before-trans = nat_list_cmp_total.trans

Before-not_same : (j k : List ℕ) → Before j k → j ≢ k
Before-not_same j k before same =
    let itself : slice_cmp nat_cmp k k ≡ Equal = tied_itself nat_list_cmp_total k in
    let less : slice_cmp nat_cmp k k ≡ Less = ap (λ x. slice_cmp nat_cmp x k) (sym same) ∙ before in
    cc

abbrev Below : List ℕ → List EnvPair → Type 0
Below k pairs = All (λ p. Before p.0 k) pairs

abbrev Above : List ℕ → List EnvPair → Type 0
Above k pairs = All (λ p. Before k p.0) pairs

-- nothing, or a pair at the key
record IsOnly (k : List ℕ) (pairs : List EnvPair) : Type 0 where
  rising : IsRising pairs
  form : All IsEnvPair pairs
  each : All (λ p. p.0 ≡ k) pairs

abbrev or_else : Option (List ℕ) → Option (List ℕ) → Option (List ℕ)
or_else None other = other
or_else (Some value) other = Some value

value_of-cons : (p : EnvPair) (pairs : List EnvPair) (q : List ℕ) → p.0 ≢ q → value_of (p ∷ pairs) q ≡ value_of pairs q
value_of-cons p pairs q other = by_test (pointwise nat_eq p.0 q) refl
  where
    by_test : (t : Bool) → pointwise nat_eq p.0 q ≡ t → value_of (p ∷ pairs) q ≡ value_of pairs q
    by_test true h = absurd (other (text_eq-same p.0 q h))
    by_test false h = rw h refl

value_of-append : (xs ys : List EnvPair) (q : List ℕ) → value_of (xs ++ ys) q ≡ or_else (value_of xs q) (value_of ys q)
value_of-append [] ys q = refl
value_of-append (p ∷ xs) ys q = by_test (pointwise nat_eq p.0 q) refl (value_of-append xs ys q)
  where
    by_test : (t : Bool) → pointwise nat_eq p.0 q ≡ t → value_of (xs ++ ys) q ≡ or_else (value_of xs q) (value_of ys q) → value_of ((p ∷ xs) ++ ys) q ≡ or_else (value_of (p ∷ xs) q) (value_of ys q)
    by_test true h rest = rw h refl
    by_test false h rest = rw h rest

-- a key that no pair has
value_of-none : (pairs : List EnvPair) (q : List ℕ) → All (λ p. p.0 ≢ q) pairs → value_of pairs q ≡ None
value_of-none [] q others = refl
value_of-none (p ∷ pairs) q others =
    value_of-cons p pairs q (All-head (λ p. p.0 ≢ q) p pairs others) ∙ value_of-none pairs q (All-tail (λ p. p.0 ≢ q) p pairs others)

none_below : (k : List ℕ) (pairs : List EnvPair) → Below k pairs → value_of pairs k ≡ None
none_below k pairs below = value_of-none pairs k (All-weaker (λ p. Before p.0 k) (λ p. p.0 ≢ k) (λ p before. Before-not_same p.0 k before) pairs below)

none_above : (k : List ℕ) (pairs : List EnvPair) → Above k pairs → value_of pairs k ≡ None
none_above k pairs above = value_of-none pairs k (All-weaker (λ p. Before k p.0) (λ p. p.0 ≢ k) (λ p before same. Before-not_same k p.0 before (sym same)) pairs above)

none_else : (k q : List ℕ) (pairs : List EnvPair) → IsOnly k pairs → q ≢ k → value_of pairs q ≡ None
none_else k q pairs only other = value_of-none pairs q (All-weaker (λ p. p.0 ≡ k) (λ p. p.0 ≢ q) (λ p same same'. other (sym same' ∙ same)) pairs only.each)

value_of-else : (b m a : List EnvPair) (k q : List ℕ) → IsOnly k m → q ≢ k → value_of (b ++ (m ++ a)) q ≡ or_else (value_of b q) (value_of a q)
value_of-else b m a k q only other =
    value_of-append b (m ++ a) q ∙ ap (or_else (value_of b q)) (value_of-append m a q ∙ ap (λ o. or_else o (value_of a q)) (none_else k q m only other))

or_else-none : (o : Option (List ℕ)) → or_else o None ≡ o
or_else-none None = refl
or_else-none (Some value) = refl

Sets-middle : (b m n a : List EnvPair) (k v : List ℕ) → Below k b → Above k a → IsOnly k m → IsOnly k n → value_of n k ≡ some_unless_empty v → Sets (b ++ (m ++ a)) (b ++ (n ++ a)) k v
Sets-middle b m n a k v below above old new value = record {
  at_key =
      value_of-append b (n ++ a) k ∙ (ap (λ o. or_else o (value_of (n ++ a) k)) (none_below k b below)
      ∙ (value_of-append n a k ∙ (ap (or_else (value_of n k)) (none_above k a above) ∙ (or_else-none (value_of n k) ∙ value))));
  others = λ q other. value_of-else b n a k q new other ∙ sym (value_of-else b m a k q old other);
}

all_left : (P : EnvPair → Type 0) (xs ys : List EnvPair) → All P (xs ++ ys) → All P xs
all_left P [] ys all = All-nil P
all_left P (x ∷ xs) ys all = All-cons P x xs (All-head P x (xs ++ ys) all) (all_left P xs ys (All-tail P x (xs ++ ys) all))

all_right : (P : EnvPair → Type 0) (xs ys : List EnvPair) → All P (xs ++ ys) → All P ys
all_right P [] ys all = all
all_right P (x ∷ xs) ys all = all_right P xs ys (All-tail P x (xs ++ ys) all)

rising-left : (b c : List EnvPair) → IsRising (b ++ c) → IsRising b
rising-left [] c rising = tt
rising-left (p ∷ b) c rising = (all_left (λ q. Before p.0 q.0) b c rising.0, rising-left b c rising.1)

rising-right : (b c : List EnvPair) → IsRising (b ++ c) → IsRising c
rising-right [] c rising = rising
rising-right (p ∷ b) c rising = rising-right b c rising.1

rising-join : (b c : List EnvPair) → IsRising b → IsRising c → All (λ p. All (λ q. Before p.0 q.0) c) b → IsRising (b ++ c)
rising-join [] c left right across = right
rising-join (p ∷ b) c left right across = (
  All-append (λ q. Before p.0 q.0) b c left.0 (All-head (λ p. All (λ q. Before p.0 q.0) c) p b across),
  rising-join b c left.1 right (All-tail (λ p. All (λ q. Before p.0 q.0) c) p b across),
)

-- pairs below the key come before it and what is above it
across_middle : (b n a : List EnvPair) (k : List ℕ) → Below k b → Above k a → IsOnly k n → All (λ p. All (λ q. Before p.0 q.0) (n ++ a)) b
across_middle b n a k below above new =
    All-weaker (λ p. Before p.0 k) (λ p. All (λ q. Before p.0 q.0) (n ++ a))
    (λ p before. All-append (λ q. Before p.0 q.0) n a
    (All-weaker (λ q. q.0 ≡ k) (λ q. Before p.0 q.0) (λ q same. ap (slice_cmp nat_cmp p.0) same ∙ before) n new.each)
    (All-weaker (λ q. Before k q.0) (λ q. Before p.0 q.0) (λ q after. Before-trans p.0 k q.0 before after) a above))
    b below

rising_middle : (n a : List EnvPair) (k : List ℕ) → Above k a → IsOnly k n → IsRising a → IsRising (n ++ a)
rising_middle n a k above new rising =
    rising-join n a new.rising rising
    (All-weaker (λ p. p.0 ≡ k) (λ p. All (λ q. Before p.0 q.0) a) (λ p same. subst (λ x. All (λ q. Before x q.0) a) (sym same) above) n new.each)

IsEnv-middle : (b m n a : List EnvPair) (k : List ℕ) → IsEnv (b ++ (m ++ a)) → Below k b → Above k a → IsOnly k n → IsEnv (b ++ (n ++ a))
IsEnv-middle b m n a k env below above new = record {
  rising =
      rising-join b (n ++ a) (rising-left b (m ++ a) env.rising)
      (rising_middle n a k above new (rising-right m a (rising-right b (m ++ a) env.rising)))
      (across_middle b n a k below above new);
  each =
      All-append IsEnvPair b (n ++ a) (all_left IsEnvPair b (m ++ a) env.each)
      (All-append IsEnvPair n a new.form (all_right IsEnvPair m a (all_right IsEnvPair b (m ++ a) env.each)));
}

IsOnly-nil : (k : List ℕ) → IsOnly k []
IsOnly-nil k = record { rising = tt; form = All-nil _; each = All-nil _ }

IsOnly-one : (p : EnvPair) (k : List ℕ) → IsEnvPair p → p.0 ≡ k → IsOnly k (p ∷ [])
IsOnly-one p k form same = record {
  rising = (All-nil _, tt);
  form = All-cons IsEnvPair p [] form (All-nil _);
  each = All-cons (λ q. q.0 ≡ k) p [] same (All-nil _);
}

-- An environment's entries, around a place.

set-split : {X : Type 0} (xs : List X) (i : ℕ) (x : X) → i < length xs → set xs i x ≡ take i xs ++ x ∷ drop (suc i) xs
set-split [] i x inside = absurd (omega arith)
set-split (y ∷ xs) zero x inside = refl
set-split (y ∷ xs) (suc i) x inside = ap (λ r. y ∷ r) (set-split xs i x (omega arith))

drop-at : {X : Type 0} (xs : List X) (i : ℕ) (x : X) → slice_get xs i ≡ Some x → drop i xs ≡ x ∷ drop (suc i) xs
drop-at [] i x e = absurd (cc)
drop-at (y ∷ xs) zero x e = let same : y ≡ x = cc in ap (λ z. z ∷ xs) same
drop-at (y ∷ xs) (suc i) x e = drop-at xs i x e

seen_below : (es : List Entry) (key : List ℕ) (i : ℕ) → AreBelow es key i → Below key (pairs_seen (take i es))
seen_below es key i below = All-map (λ p. Before p.0 key) pair_seen (take i es) below

-- what is above a key that is at the place
above_found : (b a : List EnvPair) (p : EnvPair) (key : List ℕ) → IsEnv (b ++ p ∷ a) → p.0 ≡ key → Above key a
above_found b a p key env same = subst (λ x. All (λ q. Before x q.0) a) same (rising-right b (p ∷ a) env.rising).0

-- what is above a key that isn't there
above_absent : (b a : List EnvPair) (key : List ℕ) → IsEnv (b ++ a) → ((p : EnvPair) (rest : List EnvPair) → a ≡ p ∷ rest → Before key p.0) → Above key a
above_absent b [] key env first = All-nil _
above_absent b (p ∷ a) key env first =
    let before = first p a refl in
    All-cons (λ q. Before key q.0) p a before
    (All-weaker (λ q. Before p.0 q.0) (λ q. Before key q.0) (λ q after. Before-trans key p.0 q.0 before after) a (rising-right b (p ∷ a) env.rising).0)

-- what is above, where the entry at the place is
first_above : (es : List Entry) (i : ℕ) (key : List ℕ) → ((had : Entry) → slice_get es i ≡ Some had → Before key had.key) → (p : EnvPair) (rest : List EnvPair) → pairs_seen (drop i es) ≡ p ∷ rest → Before key p.0
first_above [] zero key first p rest e = absurd (cc)
first_above [] (suc i) key first p rest e = absurd (cc)
first_above (x ∷ es) zero key first p rest e =
    let same : pair_seen x ≡ p = cc in
    subst (λ q. Before key q.0) same (first x refl)
first_above (x ∷ es) (suc i) key first p rest e = first_above es i key first p rest e

some_value : (v : List ℕ) → v ≢ [] → Some v ≡ some_unless_empty v
some_value [] some = absurd (some refl)
some_value (b ∷ bytes) some = refl

one_value : (e : Entry) → IsEnvPair (pair_seen e) → value_of (pair_seen e ∷ []) e.key ≡ some_unless_empty e.value
one_value e form = rw (text_eq-itself e.key) (some_value e.value form.value)

-- the middle of an environment's entries in another form
changes_middle : (old new : List Entry) (b m n a : List EnvPair) (k v : List ℕ) → pairs_seen old ≡ b ++ (m ++ a) → pairs_seen new ≡ b ++ (n ++ a) → IsEnv (pairs_seen old)
    → Below k b → Above k a → IsOnly k m → IsOnly k n → value_of n k ≡ some_unless_empty v → Changes old new k v
changes_middle old new b m n a k v was is env below above had has value = record {
  sets = rw (was, is) (Sets-middle b m n a k v below above had has value);
  form = rw is (IsEnv-middle b m n a k (subst IsEnv was env) below above has);
}

env_at : (es : List Entry) (i : ℕ) (e : Entry) → slice_get es i ≡ Some e → pairs_seen es ≡ pairs_seen (take i es) ++ (pair_seen e ∷ pairs_seen (drop (suc i) es))
env_at es i e at =
    ap pairs_seen (sym (take-append-drop i es) ∙ ap (λ r. take i es ++ r) (drop-at es i e at)) ∙ map-append pair_seen (take i es) (e ∷ drop (suc i) es)

pair_at : (es : List Entry) (i : ℕ) (e : Entry) → slice_get es i ≡ Some e → IsEnv (pairs_seen es) → IsEnvPair (pair_seen e)
pair_at es i e at env =
    let env' = subst IsEnv (env_at es i e at) env in
    All-head IsEnvPair (pair_seen e) (pairs_seen (drop (suc i) es)) (all_right IsEnvPair (pairs_seen (take i es)) (pair_seen e ∷ pairs_seen (drop (suc i) es)) env'.each)

-- another entry at its key
pub replaced : (es : List Entry) (i : ℕ) (e had : Entry) → IsEnv (pairs_seen es) → IsEnvPair (pair_seen e) → i < length es → AreBelow es e.key i → slice_get es i ≡ Some had → had.key ≡ e.key
    → Changes es (set es i e) e.key e.value
replaced es i e had env form inside below at same =
    let b = pairs_seen (take i es) in
    let a = pairs_seen (drop (suc i) es) in
    let was : pairs_seen es ≡ b ++ ((pair_seen had ∷ []) ++ a) = env_at es i had at in
    let is : pairs_seen (set es i e) ≡ b ++ ((pair_seen e ∷ []) ++ a) = ap pairs_seen (set-split es i e inside) ∙ map-append pair_seen (take i es) (e ∷ drop (suc i) es) in
    changes_middle es (set es i e) b (pair_seen had ∷ []) (pair_seen e ∷ []) a e.key e.value was is env (seen_below es e.key i below)
    (above_found b a (pair_seen had) e.key (subst IsEnv was env) same)
    (IsOnly-one (pair_seen had) e.key (pair_at es i had at env) same) (IsOnly-one (pair_seen e) e.key form refl) (one_value e form)

-- an entry at a key that wasn't there
pub inserted : (es : List Entry) (i : ℕ) (e : Entry) → IsEnv (pairs_seen es) → IsEnvPair (pair_seen e) → AreBelow es e.key i → ((had : Entry) → slice_get es i ≡ Some had → Before e.key had.key)
    → Changes es (take i es ++ e ∷ drop i es) e.key e.value
inserted es i e env form below first =
    let b = pairs_seen (take i es) in
    let a = pairs_seen (drop i es) in
    let was : pairs_seen es ≡ b ++ ([] ++ a) = ap pairs_seen (sym (take-append-drop i es)) ∙ map-append pair_seen (take i es) (drop i es) in
    let is : pairs_seen (take i es ++ e ∷ drop i es) ≡ b ++ ((pair_seen e ∷ []) ++ a) = map-append pair_seen (take i es) (e ∷ drop i es) in
    changes_middle es (take i es ++ e ∷ drop i es) b [] (pair_seen e ∷ []) a e.key e.value was is env (seen_below es e.key i below)
    (above_absent b a e.key (subst IsEnv was env) (first_above es i e.key first))
    (IsOnly-nil e.key) (IsOnly-one (pair_seen e) e.key form refl) (one_value e form)

-- no entry at the key
pub removed : (es : List Entry) (i : ℕ) (key : List ℕ) (had : Entry) → IsEnv (pairs_seen es) → AreBelow es key i → slice_get es i ≡ Some had → had.key ≡ key
    → Changes es (take i es ++ drop (suc i) es) key []
removed es i key had env below at same =
    let b = pairs_seen (take i es) in
    let a = pairs_seen (drop (suc i) es) in
    let was : pairs_seen es ≡ b ++ ((pair_seen had ∷ []) ++ a) = env_at es i had at in
    let is : pairs_seen (take i es ++ drop (suc i) es) ≡ b ++ ([] ++ a) = map-append pair_seen (take i es) (drop (suc i) es) in
    changes_middle es (take i es ++ drop (suc i) es) b (pair_seen had ∷ []) [] a key [] was is env (seen_below es key i below)
    (above_found b a (pair_seen had) key (subst IsEnv was env) same)
    (IsOnly-one (pair_seen had) key (pair_at es i had at env) same) (IsOnly-nil key) refl

-- no entry was at the key
pub absent : (es : List Entry) (i : ℕ) (key : List ℕ) → IsEnv (pairs_seen es) → AreBelow es key i → ((had : Entry) → slice_get es i ≡ Some had → Before key had.key) → Changes es es key []
absent es i key env below first =
    let b = pairs_seen (take i es) in
    let a = pairs_seen (drop i es) in
    let was : pairs_seen es ≡ b ++ ([] ++ a) = ap pairs_seen (sym (take-append-drop i es)) ∙ map-append pair_seen (take i es) (drop i es) in
    changes_middle es es b [] [] a key [] was was env (seen_below es key i below)
    (above_absent b a key (subst IsEnv was env) (first_above es i key first))
    (IsOnly-nil key) (IsOnly-nil key) refl

has_at : {X : Type 0} (xs : List X) (i : ℕ) → i < length xs → (x : X) × (slice_get xs i ≡ Some x)
has_at [] i inside = absurd (omega arith)
has_at (x ∷ xs) zero inside = (x, refl)
has_at (x ∷ xs) (suc i) inside = has_at xs i (omega arith)

pub replaced_at : (es : List Entry) (i : ℕ) (e : Entry) → IsEnv (pairs_seen es) → IsEnvPair (pair_seen e) → IsPlace es e.key (Ok i) → Changes es (set es i e) e.key e.value
replaced_at es i e env form place =
    let had = has_at es i place.0 in
    replaced es i e had.0 env form place.0 place.1 had.1 (place.2 had.0 had.1)

pub removed_at : (es : List Entry) (i : ℕ) (key : List ℕ) → IsEnv (pairs_seen es) → IsPlace es key (Ok i) → Changes es (take i es ++ drop (suc i) es) key []
removed_at es i key env place =
    let had = has_at es i place.0 in
    removed es i key had.0 env place.1 had.1 (place.2 had.0 had.1)
