-- What a recovery notes of the entries that it reads.
use Rattle.std.proofs.Common.{◌≡◌, ◌≢◌, ℕ, suc, ◌+◌, ◌-◌, ◌<◌, ◌≤◌, Bool, true, false, cond, List, [], ◌∷◌, ◌++◌, length, Option, Some, None, inl, inr, ⊎_elim, refl, sym, ◌∙◌, ap, subst, arith}
use Rattle.std.specs.Prelude.{MatchOption, is_some}
use Rattle.std.specs.BTreeMap.{get, is_at}
use Rattle.std.specs.Ordering.{nat_cmp, is_eq}
use Rattle.std.specs.Cmp.Lexicographic.{slice_cmp, lists_ties, texts_ties}
use Rattle.std.proofs.lemmas.Bool.{cases_Bool, cases_lt, false≢true}
use Rattle.folder_core.specs.Folder.{Map, Told}
use Rattle.folder_core.specs.Crash.{IsImage, Elapses}
use Rattle.folder_core.specs.Path.{path_eqb}
use Rattle.folder_core.specs.PathOrder.{path_cmp}
use Rattle.folder_core.specs.Step.{Step}
use Rattle.folder_core.proofs.Maps.{path_eqb-Decides, same_path, changed_here}
use Rattle.backup_store.specs.Held.{Counts}
use Rattle.backup_store.specs.Looking.{IsStill}
use Rattle.backup_store.specs.Places.{entry_path}
use Rattle.backup_store.specs.declared.entry.Entry.{Entry}
use Rattle.install_journal.specs.Broken.{IsSound, IsUnsound, NamesUnsound}
use Rattle.install_journal.specs.Looks.{Looks, OnlyLooks}
use Rattle.install_journal.specs.Overlay.{entry_at, overlay, Covers}
use Rattle.install_journal.specs.Plan.{IsOldest, kind_of}
use Rattle.install_journal.specs.Reading.{AreNoted, IsReadTo, oldest_of}
use Rattle.install_journal.specs.declared.plan.Oldest.{Oldest}
use Rattle.install_journal.specs.declared.reading.First.{First}
use Rattle.install_journal.specs.declared.reading.Gathered.{Gathered}
use Rattle.install_journal.proofs.Keeps.{length_push, at_front, at_end, each_push}
use Rattle.install_journal.proofs.Overlays.{overlay_append, overlay_uncovered, covers_append}

still_at : (a b : Option Told) (past since : ℕ → Map → Type 0) → Step a b IsStill → Step a b (λ s t. Elapses s.moment t.moment past since (IsImage t)) → Step a b (Looks past since)
still_at None None past since still time = tt
still_at None (Some t) past since still time = absurd still
still_at (Some s) None past since still time = absurd still
still_at (Some s) (Some t) past since still time = record { now = still.now; synced = still.synced; touched = still.touched; time = time }

pub looks_still : {D : Type 0} (told : D → Option Told) (left_since : D → ℕ → Map → Type 0) (old new : D)
    → Step (told old) (told new) IsStill
    → Step (told old) (told new) (λ s t. Elapses s.moment t.moment (left_since old) (left_since new) (IsImage t))
    → OnlyLooks told left_since old new
looks_still told left_since old new still time = still_at (told old) (told new) (left_since old) (left_since new) still time

-- the order of paths tells the same apart as their equality
same_test : (a b : List (List ℕ)) → is_eq (path_cmp a b) ≡ path_eqb a b
same_test a b = sym (lists_ties (slice_cmp nat_cmp) texts_ties a b)

pub exact_paths : (a b : List (List ℕ)) → is_eq (path_cmp a b) ≡ true → a ≡ b
exact_paths a b is = (path_eqb-Decides a b).0 (sym (same_test a b) ∙ is)

pub same_paths : (a b : List (List ℕ)) → a ≡ b → is_eq (path_cmp a b) ≡ true
same_paths a b is = same_test a b ∙ (path_eqb-Decides a b).1 is

other_paths : (a b : List (List ℕ)) → a ≢ b → is_eq (path_cmp a b) ≡ false
other_paths a b other = ⊎_elim (λ same. absurd (other (exact_paths a b same))) (λ apart. apart) (cases_Bool (is_eq (path_cmp a b)))

-- the place of an entry that covers a path
pub covers_place : (entries : List Entry) (path : List (List ℕ)) → Covers entries path → (place : ℕ) × (place < length entries) × ((entry_at entries place).path ≡ path)
covers_place [] path covers = absurd covers
covers_place (entry ∷ entries) path (inl here) = (0, omega arith, sym here)
covers_place (entry ∷ entries) path (inr there) = let at = covers_place entries path there in (suc at.0, omega (arith, at.1), at.2)

-- the oldest of a path stays so when another entry follows
oldest_front : (entries : List Entry) (entry : Entry) (oldest : Oldest) → IsOldest entries oldest → IsOldest (entries ++ entry ∷ []) oldest
oldest_front entries entry oldest is =
    let at = at_front entries entry (oldest.number.0 - 1) (omega (arith, is.from_one, is.most)) in
    record {
      from_one = is.from_one;
      most = omega (arith, is.most, length_push entries entry);
      path = ap (λ (e : Entry). e.path) at ∙ is.path;
      first = λ m. ap (λ (x : Map). x oldest.path) (overlay_append entries (entry ∷ []) m) ∙ is.first (overlay (entry ∷ []) m) ∙ ap (λ (e : Entry). e.before) (sym at);
      kind = is.kind ∙ ap (λ (e : Entry). kind_of e.before) (sym at);
    }

-- and the first entry of a path is its oldest
oldest_last : (entries : List Entry) (entry : Entry) (oldest : Oldest) → ¬ (Covers entries entry.path) → oldest.path ≡ entry.path → oldest.number.0 ≡ length entries + 1 → oldest.kind ≡ kind_of entry.before → IsOldest (entries ++ entry ∷ []) oldest
oldest_last entries entry oldest none path number kind =
    let place : oldest.number.0 - 1 ≡ length entries = omega (arith, number) in
    let at : entry_at (entries ++ entry ∷ []) (oldest.number.0 - 1) ≡ entry = ap (entry_at (entries ++ entry ∷ [])) place ∙ at_end entries entry in
    record {
      from_one = omega (arith, number);
      most = omega (arith, number, length_push entries entry);
      path = ap (λ (e : Entry). e.path) at ∙ sym path;
      first = λ m. ap (λ (x : Map). x oldest.path) (overlay_append entries (entry ∷ []) m)
          ∙ overlay_uncovered entries (overlay (entry ∷ []) m) oldest.path (λ covers. none (subst (Covers entries) path covers))
          ∙ changed_here m entry.path entry.before oldest.path path
          ∙ ap (λ (e : Entry). e.before) (sym at);
      kind = kind ∙ ap (λ (e : Entry). kind_of e.before) (sym at);
    }

-- what is noted of a path
abbrev IsNote : List Entry → List (List ℕ) → Option First → Type 0
IsNote entries path note = MatchOption note (¬ (Covers entries path)) (λ first. IsOldest entries (oldest_of path first))

note_stays : (entries : List Entry) (entry : Entry) (path : List (List ℕ)) (note : Option First) → (note ≡ None → path ≢ entry.path) → IsNote entries path note → IsNote (entries ++ entry ∷ []) path note
note_stays entries entry path None apart none = λ covers. ⊎_elim none (λ one. ⊎_elim (λ here. apart refl here) (λ no. absurd no) one) (covers_append entries (entry ∷ []) path covers)
note_stays entries entry path (Some first) apart is = oldest_front entries entry (oldest_of path first) is

note_here : (entries : List Entry) (entry : Entry) (path : List (List ℕ)) (note : Option First) (first : First) → note ≡ None → path ≡ entry.path → first.number.0 ≡ length entries + 1 → first.kind ≡ kind_of entry.before
    → IsNote entries path note → IsNote (entries ++ entry ∷ []) path (Some first)
note_here entries entry path None first none here number kind is = oldest_last entries entry (oldest_of path first) (λ covers. is (subst (Covers entries) (sym here) covers)) here number kind
note_here entries entry path (Some other) first none here number kind is = absurd (let no : ⊥ = cc in no)

-- An entry of a path that had one already is noted by its count alone.
pub noted_again : (entries : List Entry) (entry : Entry) (old new : Gathered) → new.count ≡ old.count + 1 → new.firsts ≡ old.firsts → is_some (get path_cmp old.firsts entry.path) ≡ true
    → AreNoted entries old → AreNoted (entries ++ entry ∷ []) new
noted_again entries entry old new count same had noted = record {
  count = count ∙ ap (λ (n : ℕ). n + 1) noted.count ∙ sym (length_push entries entry);
  firsts = λ path. subst (λ f. IsNote (entries ++ entry ∷ []) path (get path_cmp f path)) (sym same)
      (note_stays entries entry path (get path_cmp old.firsts path)
      (λ none here. false≢true (ap is_some (sym none ∙ ap (get path_cmp old.firsts) here) ∙ had)) (noted.firsts path));
}

-- The first entry of a path is noted.
pub noted_first : (entries : List Entry) (entry : Entry) (old new : Gathered) (first : First) → new.count ≡ old.count + 1 → get path_cmp old.firsts entry.path ≡ None
    → ((path : List (List ℕ)) → get path_cmp new.firsts path ≡ cond (is_at (path_cmp entry.path) path) (Some first) (get path_cmp old.firsts path))
    → first.number.0 ≡ old.count + 1 → first.kind ≡ kind_of entry.before
    → AreNoted entries old → AreNoted (entries ++ entry ∷ []) new
noted_first entries entry old new first count none updates number kind noted = record {
  count = count ∙ ap (λ (n : ℕ). n + 1) noted.count ∙ sym (length_push entries entry);
  firsts = λ path. subst (IsNote (entries ++ entry ∷ []) path) (sym (updates path)) (at path);
}
  where
    at : (path : List (List ℕ)) → IsNote (entries ++ entry ∷ []) path (cond (is_at (path_cmp entry.path) path) (Some first) (get path_cmp old.firsts path))
    at path = elim (same_path path entry.path) [
      | inl here ↦ subst (λ (b : Bool). IsNote (entries ++ entry ∷ []) path (cond b (Some first) (get path_cmp old.firsts path))) (sym (same_paths entry.path path (sym here)))
          (note_here entries entry path (get path_cmp old.firsts path) first (ap (get path_cmp old.firsts) here ∙ none) here (number ∙ ap (λ (n : ℕ). n + 1) noted.count) kind (noted.firsts path))
      | inr apart ↦ subst (λ (b : Bool). IsNote (entries ++ entry ∷ []) path (cond b (Some first) (get path_cmp old.firsts path))) (sym (other_paths entry.path path (λ e. apart (sym e))))
          (note_stays entries entry path (get path_cmp old.firsts path) (λ _. apart) (noted.firsts path))
    ]

-- One more entry is read.
pub read_push : (m : Map) (entry : Entry) (old new : Gathered) → old.count < 1000000 → Counts m (old.count + 1) → IsSound m (old.count + 1) entry.path entry.before
    → ((entries : List Entry) → AreNoted entries old → AreNoted (entries ++ entry ∷ []) new) → IsReadTo m old → IsReadTo m new
read_push m entry old new few counts sound notes read = record {
  entries = read.entries ++ entry ∷ [];
  most = omega (arith, few, read.noted.count, length_push read.entries entry);
  counts = each_push (λ place e. Counts m (place + 1)) read.entries entry read.counts (subst (λ (n : ℕ). Counts m (n + 1)) read.noted.count counts);
  sound = each_push (λ place e. IsSound m (place + 1) e.path e.before) read.entries entry read.sound (subst (λ (n : ℕ). IsSound m (n + 1) entry.path entry.before) read.noted.count sound);
  noted = notes read.entries read.noted;
}

-- The next entry counts and can't be put back.
pub names_unsound : (m : Map) (at : List (List ℕ)) (gathered : Gathered) → gathered.count < 1000000 → Counts m (gathered.count + 1) → IsUnsound m (gathered.count + 1) → at ≡ entry_path (gathered.count + 1) → IsReadTo m gathered → NamesUnsound m at
names_unsound m at gathered few counts unsound is read = (
  gathered.count + 1,
  (
    record {
      reached = record { from_one = omega arith; most = omega (arith, few); counts = counted };
      unsound = unsound;
      earlier = λ other first before none.
          let place : other - 1 < length read.entries = omega (arith, first, before, read.noted.count) in
          let same : other - 1 + 1 ≡ other = omega (arith, first) in
          none (entry_at read.entries (other - 1)).path (entry_at read.entries (other - 1)).before
          (subst (λ (n : ℕ). IsSound m n (entry_at read.entries (other - 1)).path (entry_at read.entries (other - 1)).before) same (read.sound (other - 1) place));
    },
    is,
  ),
)
  where
    counted : (earlier : ℕ) → 0 < earlier → earlier ≤ gathered.count + 1 → Counts m earlier
    counted earlier first until =
        let same : earlier - 1 + 1 ≡ earlier = omega (arith, first) in
        elim (cases_lt (earlier - 1) (length read.entries)) [
          | inl before ↦ subst (Counts m) same (read.counts (earlier - 1) before)
          | inr rest ↦ let last : gathered.count + 1 ≡ earlier = omega (arith, first, until, rest, read.noted.count) in subst (Counts m) last counts
        ]
