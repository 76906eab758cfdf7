-- Facts on the pairs that logical lines spell.
use Rattle.std.proofs.Common.{◌≡◌, ◌≢◌, ℕ, ◌+◌, ◌<◌, Bool, true, false, cond, suc, zero, List, [], ◌∷◌, length, get_or, drop, fold, map, Vec, Global, Result, Ok, Err, refl, sym, ap, subst, ◌∙◌, arith}
use Rattle.std.proofs.lemmas.Bool.{false≢true}
use Rattle.std.proofs.lemmas.List.{drop_more}
use Rattle.std.proofs.lemmas.Slice.Eq.{bytes_eq-Decides}
use Rattle.std.specs.Str.{bytes_eq}
use Rattle.indexmap.specs.IndexMap.{insert_entry}
use Rattle.props_reader.specs.declared.key.Key.{Key}
use Rattle.props_reader.specs.declared.logical.Placed.{Placed}
use Rattle.props_reader.specs.Entries.{entries_seen}
use Rattle.props_reader.specs.Gives.{◌>>=◌}
use Rattle.props_reader.specs.PairsOf.{Pair, pair_of, rows_of, put, merged, HasDistinctKeys}

-- the pairs so far, with those of the lines put behind them
abbrev pub collected : List Pair → List (List Placed) → Result (List Pair) ℕ
collected pairs lines = rows_of lines >>= λ rows. Ok (fold put pairs rows)

pub collected-none : (pairs : List Pair) → collected pairs [] ≡ Ok pairs
unfolding rows_of
collected-none pairs = refl

pub collected-more : (pairs : List Pair) (line : List Placed) (lines : List (List Placed)) (pair : Pair) → pair_of line ≡ Ok pair
    → collected pairs (line ∷ lines) ≡ collected (put pairs pair) lines
unfolding rows_of
collected-more pairs line lines pair h = rw h (by (rows_of lines))
  where
    by : (rows : Result (List Pair) ℕ) → ((rows >>= λ rest. Ok (pair ∷ rest)) >>= λ found. Ok (fold put pairs found)) ≡ (rows >>= λ found. Ok (fold put (put pairs pair) found))
    by (Ok rows) = refl
    by (Err line) = refl

pub collected-refused : (pairs : List Pair) (line : List Placed) (lines : List (List Placed)) (number : ℕ) → pair_of line ≡ Err number
    → collected pairs (line ∷ lines) ≡ Err number
unfolding rows_of
collected-refused pairs line lines number h = rw h refl

-- a map's `insert` puts the pair
pub entries_seen-insert_entry : (eq : Key → Key → Bool) → ((a b : Key) → eq a b ≡ bytes_eq a.text b.text) → (entries : List (Key × List ℕ)) (key : Key) (value : List ℕ)
    → entries_seen (insert_entry eq entries key value) ≡ put (entries_seen entries) (key.text, value)
unfolding put
entries_seen-insert_entry eq same [] key value = refl
entries_seen-insert_entry eq same (e ∷ entries) key value = rw same (by (bytes_eq key.text e.0.text) (entries_seen-insert_entry eq same entries key value))
  where
    by : (b : Bool) → entries_seen (insert_entry eq entries key value) ≡ put (entries_seen entries) (key.text, value)
        → entries_seen (cond b ((e.0, value) ∷ entries) (e ∷ insert_entry eq entries key value)) ≡ cond b ((e.0.text, value) ∷ entries_seen entries) ((e.0.text, e.1) ∷ put (entries_seen entries) (key.text, value))
    by true rest = refl
    by false rest = ap (λ pairs. (e.0.text, e.1) ∷ pairs) rest

-- the lines from `index` on, the first of them apart
pub lines-drop : (lines : List (Vec Placed Global)) (index : ℕ) (line : Vec Placed Global) → index < length lines → line ≡ get_or lines index line
    → map (λ l. l.items) (drop index lines) ≡ line.items ∷ map (λ l. l.items) (drop (index + 1) lines)
lines-drop lines index line inside is =
    ap (map (λ (l : Vec Placed Global). l.items)) (drop_more lines index line inside) ∙ (λ i. (sym is i).items ∷ map (λ (l : Vec Placed Global). l.items) (drop (index + 1) lines))

-- no pair has the key
abbrev Lacks : List ℕ → List Pair → Type 0
Lacks key [] = Unit {0}
Lacks key (p ∷ pairs) = (key ≢ p.0) × Lacks key pairs

abbrev AreApart : List Pair → Type 0
AreApart [] = Unit {0}
AreApart (p ∷ pairs) = Lacks p.0 pairs × AreApart pairs

differs : (a b : List ℕ) → bytes_eq b a ≡ false → a ≢ b
differs a b h e = false≢true (sym h ∙ (bytes_eq-Decides b a).1 (sym e))

Lacks-put : (key : List ℕ) (pairs : List Pair) (pair : Pair) → Lacks key pairs → key ≢ pair.0 → Lacks key (put pairs pair)
unfolding put
Lacks-put key [] pair lacks other = (other, tt)
Lacks-put key (p ∷ pairs) pair lacks other = by (bytes_eq pair.0 p.0) (Lacks-put key pairs pair lacks.1 other)
  where
    by : (b : Bool) → Lacks key (put pairs pair) → Lacks key (cond b ((p.0, pair.1) ∷ pairs) (p ∷ put pairs pair))
    by true rest = (lacks.0, lacks.1)
    by false rest = (lacks.0, rest)

AreApart-put : (pairs : List Pair) (pair : Pair) → AreApart pairs → AreApart (put pairs pair)
unfolding put
AreApart-put [] pair apart = (tt, tt)
AreApart-put (p ∷ pairs) pair apart = by (bytes_eq pair.0 p.0) refl (AreApart-put pairs pair apart.1)
  where
    by : (b : Bool) → bytes_eq pair.0 p.0 ≡ b → AreApart (put pairs pair) → AreApart (cond b ((p.0, pair.1) ∷ pairs) (p ∷ put pairs pair))
    by true e rest = (apart.0, apart.1)
    by false e rest = (Lacks-put p.0 pairs pair apart.0 (differs p.0 pair.0 e), rest)

AreApart-fold : (rows pairs : List Pair) → AreApart pairs → AreApart (fold put pairs rows)
AreApart-fold [] pairs apart = apart
AreApart-fold (row ∷ rows) pairs apart = AreApart-fold rows (put pairs row) (AreApart-put pairs row apart)

Lacks-at : (key : List ℕ) (pairs : List Pair) (j : ℕ) (d : Pair) → Lacks key pairs → j < length pairs → key ≢ (get_or pairs j d).0
Lacks-at key [] j d lacks h = absurd (omega arith)
Lacks-at key (p ∷ pairs) zero d lacks h = lacks.0
Lacks-at key (p ∷ pairs) (suc j) d lacks h = Lacks-at key pairs j d lacks.1 (omega arith)

HasDistinctKeys-from_apart : (pairs : List Pair) → AreApart pairs → HasDistinctKeys pairs
HasDistinctKeys-from_apart [] apart i j d below h = absurd (omega arith)
HasDistinctKeys-from_apart (p ∷ pairs) apart i zero d below h = absurd (omega arith)
HasDistinctKeys-from_apart (p ∷ pairs) apart zero (suc j) d below h = Lacks-at p.0 pairs j d apart.0 (omega arith)
HasDistinctKeys-from_apart (p ∷ pairs) apart (suc i) (suc j) d below h = HasDistinctKeys-from_apart pairs apart.1 i j d (omega arith) (omega arith)

-- what is merged has distinct keys
pub HasDistinctKeys-merged : (lines : List (List Placed)) (pairs : List Pair) → merged lines ≡ Ok pairs → HasDistinctKeys pairs
HasDistinctKeys-merged lines pairs h = by (rows_of lines) h
  where
    by : (rows : Result (List Pair) ℕ) → (rows >>= λ found. Ok (fold put [] found)) ≡ Ok pairs → HasDistinctKeys pairs
    by (Ok rows) e = let same : fold put [] rows ≡ pairs = cc in subst HasDistinctKeys same (HasDistinctKeys-from_apart (fold put [] rows) (AreApart-fold rows [] tt))
    by (Err line) e = cc
