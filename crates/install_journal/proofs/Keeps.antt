-- The entries of a change go on being kept, and serve the old installation in each image.
use Rattle.std.proofs.Common.{◌≡◌, ◌≢◌, ℕ, zero, suc, ◌+◌, ◌-◌, ◌<◌, ◌≤◌, List, [], ◌∷◌, ◌++◌, length, take, Option, Some, None, ◌⊎◌, inl, inr, ⊎_elim, refl, sym, ◌∙◌, subst, arith, codes, length-append}
use Rattle.std.proofs.lemmas.Bool.{cases_lt}
use Rattle.std.proofs.lemmas.List.{get_or_append_left, get_or-take, length-take-le}
use Rattle.std.proofs.Math.Nat.{eq-or-lt_of_le}
use Rattle.std.proofs.Math.Seq.{get_or-append_seam, get_or-append_right}
use Rattle.folder_core.specs.Folder.{Map, Told, IsFormed}
use Rattle.folder_core.specs.Crash.{IsImage}
use Rattle.folder_core.specs.Node.{entries_path}
use Rattle.folder_core.specs.declared.node.Node.{Node}
use Rattle.folder_core.specs.declared.node.Node.TheVariants.{Dir}
use Rattle.backup_store.specs.EntryText.{entry_text}
use Rattle.backup_store.specs.Held.{IsFileOf, Counts, HoldsEntry, gate_text, mark_text, IsOpen as OpensGate}
use Rattle.backup_store.specs.KeepingAll.{IsAmong, IsFileAmong, IsMarkAmong}
use Rattle.backup_store.specs.Places.{IsOutside, gate_path, entry_path, mark_path}
use Rattle.backup_store.specs.declared.entry.Entry.{Entry}
use Rattle.install_journal.specs.Fixed.{IsFixed, IsFixedFile}
use Rattle.install_journal.specs.Overlay.{no_entry, entry_at, Covers}
use Rattle.install_journal.specs.Kept.{Serves, AreKept, AreHarmless, IsTextFixed}
use Rattle.install_journal.specs.Restored.{IsRestored, RestoresLike}
use Rattle.install_journal.specs.Tidy.{IsTidy}
use Rattle.install_journal.proofs.Apart.{entry_apart, mark_apart, entry_mark_apart}
use Rattle.install_journal.proofs.Counting.{serve_restores, is_file_or_not, restores_alike}
use Rattle.install_journal.proofs.Fixing.{fixed_image}
use Rattle.install_journal.proofs.Overlays.{covers_front}

-- What a map shows of entries that are kept.
pub record Shows (entries : List Entry) (behind : ℕ) (old m : Map) : Type 0 where
  pub formed : IsFormed m
  pub gate : OpensGate m
  pub marks : (place : ℕ) → place < length entries → Counts m (place + 1)
  pub texts : (place : ℕ) → place < length entries → HoldsEntry m (place + 1) (entry_at entries place).path (entry_at entries place).before
  pub rest : (path : List (List ℕ)) → IsOutside path → ¬ (Covers entries path) → m path ≡ old path
  pub later : (number : ℕ) → length entries + behind < number → number ≤ 1000001 → m (mark_path number) ≡ None

pub no_file : (bytes : List ℕ) (stands : Option Node) → stands ≡ None → ¬ (IsFileOf bytes stands)
no_file bytes stands none is = let e = is.1 in cc

pub length_push : (entries : List Entry) (entry : Entry) → length (entries ++ entry ∷ []) ≡ length entries + 1
length_push entries entry = length-append entries (entry ∷ [])

pub at_front : (entries : List Entry) (entry : Entry) (place : ℕ) → place < length entries → entry_at (entries ++ entry ∷ []) place ≡ entry_at entries place
at_front entries entry place below = get_or_append_left entries (entry ∷ []) no_entry place below

pub at_end : (entries : List Entry) (entry : Entry) → entry_at (entries ++ entry ∷ []) (length entries) ≡ entry
at_end entries entry = get_or-append_seam entries entry [] no_entry

-- what holds at each place of two lists holds at each place of the one before the other
pub each_append : (P : ℕ → Entry → Type 0) (entries others : List Entry)
    → ((place : ℕ) → place < length entries → P place (entry_at entries place))
    → ((place : ℕ) → place < length others → P (length entries + place) (entry_at others place))
    → (place : ℕ) → place < length (entries ++ others) → P place (entry_at (entries ++ others) place)
each_append P entries others each more place below = elim (cases_lt place (length entries)) [
  | inl less ↦ subst (P place) (sym (get_or_append_left entries others no_entry place less)) (each place less)
  | inr over ↦
      let long = length-append entries others in
      let back : length entries + (place - length entries) ≡ place = omega arith in
      subst (P place) (sym (get_or-append_right entries others place no_entry (omega arith)))
      (subst (λ (n : ℕ). P n (entry_at others (place - length entries))) back (more (place - length entries) (omega (arith, long))))
]

-- what holds at each place of a list, and of one more, holds at each place of the longer list
pub each_push : (P : ℕ → Entry → Type 0) (entries : List Entry) (entry : Entry)
    → ((place : ℕ) → place < length entries → P place (entry_at entries place)) → P (length entries) entry
    → (place : ℕ) → place < length (entries ++ entry ∷ []) → P place (entry_at (entries ++ entry ∷ []) place)
each_push P entries entry each one place below =
    let near : place ≤ length entries = omega (arith, length_push entries entry) in
    ⊎_elim
    (λ last. subst (λ (n : ℕ). P n (entry_at (entries ++ entry ∷ []) n)) (sym last) (subst (P (length entries)) (sym (at_end entries entry)) one))
    (λ before. subst (P place) (sym (at_front entries entry place before)) (each place before))
    (eq-or-lt_of_le near)

shows_restores : (entries : List Entry) (behind : ℕ) (old m : Map) → length entries ≤ 1000000 → Serves entries old → IsFormed old → Shows entries behind old m
    → (length entries < 1000000 → ¬ (Counts m (length entries + 1))) → IsRestored m old
shows_restores entries behind old m most serves formed shows last =
    serve_restores entries old m serves shows.rest formed shows.formed shows.gate (record { most = most; counts = shows.marks; holds = shows.texts; last = last })

-- So many numbers count from the first on, and the next, if it is one of these, doesn't.
record Run (m : Map) (first most : ℕ) : Type 0 where
  count : ℕ
  near : count ≤ most
  counts : (place : ℕ) → place < count → Counts m (first + place)
  last : count < most → ¬ (Counts m (first + count))

run : (m : Map) (first most : ℕ) → Run m first most
run m first zero = record { count = zero; near = omega arith; counts = λ place below. absurd (omega arith); last = λ less. absurd (omega arith) }
run m first (suc most) =
    let had = run m first most in
    let near = had.near in
    elim (cases_lt had.count most) [
      | inl less ↦ record { count = had.count; near = omega (arith, near); counts = had.counts; last = λ _. had.last less }
      | inr full ↦ elim (is_file_or_not mark_text (m (mark_path (first + had.count)))) [
        | inr none ↦ record { count = had.count; near = omega (arith, near); counts = had.counts; last = λ _. none }
        | inl counts ↦ record {
          count = suc had.count;
          near = omega (arith, near);
          counts = λ place below. ⊎_elim
              (λ here. subst (λ (n : ℕ). Counts m (first + n)) (sym here) counts)
              (λ before. had.counts place before)
              (eq-or-lt_of_le (let short : place ≤ had.count = omega arith in short));
          last = λ less. absurd (omega (arith, full, less, near));
        }
      ]
    ]

-- Some entries are written behind: whichever of them count in the map, the old installation is restored.
pub shows_old : (entries strays : List Entry) (old m : Map) → length entries + length strays ≤ 1000000 → IsFormed old → Shows entries (length strays) old m
    → ((count : ℕ) → count ≤ length strays → Serves (entries ++ take count strays) old)
    → ((place : ℕ) → place < length strays → HoldsEntry m (length entries + 1 + place) (entry_at strays place).path (entry_at strays place).before)
    → IsRestored m old
shows_old entries strays old m most formed shows serve texts =
    let found = run m (length entries + 1) (length strays) in
    let near = found.near in
    let front = take found.count strays in
    let short : length front ≡ found.count = length-take-le found.count strays near in
    let long = length-append entries front in
    let next : (place : ℕ) → length entries + 1 + place ≡ length entries + place + 1 = λ place. omega arith in
    let end : length entries + 1 + found.count ≡ length (entries ++ front) + 1 = omega (arith, short, long) in
    serve_restores (entries ++ front) old m (serve found.count near)
    (λ path outside none. shows.rest path outside (λ covers. none (covers_front entries front path covers))) formed shows.formed shows.gate (record {
      most = omega (arith, long, short);
      counts = each_append (λ place e. Counts m (place + 1)) entries front shows.marks
          (λ place below. subst (Counts m) (next place) (found.counts place (omega (arith, short))));
      holds = each_append (λ place e. HoldsEntry m (place + 1) e.path e.before) entries front shows.texts
          (λ place below.
          let less : place < found.count = omega (arith, short) in
          subst (λ (e : Entry). HoldsEntry m (length entries + place + 1) e.path e.before) (sym (get_or-take found.count strays place no_entry less))
          (subst (λ (n : ℕ). HoldsEntry m n (entry_at strays place).path (entry_at strays place).before) (next place) (texts place (omega (arith, near)))));
      last = λ more. elim (cases_lt found.count (length strays)) [
        | inl less ↦ subst (λ (n : ℕ). ¬ (Counts m n)) end (found.last less)
        | inr full ↦ no_file mark_text _ (shows.later (length (entries ++ front) + 1) (omega (arith, long, short, full, near)) (omega (arith, long, short)))
      ];
    })

-- Nothing is marked behind the entries.
pub shows_unmarked : (entries : List Entry) (behind : ℕ) (old m : Map) → length entries + behind ≤ 1000000 → Serves entries old → IsFormed old → Shows entries behind old m
    → ((number : ℕ) → IsAmong (length entries + 1) behind number → m (mark_path number) ≡ None)
    → IsRestored m old
shows_unmarked entries behind old m most serves formed shows unmarked = shows_restores entries behind old m (omega arith) serves formed shows
    (λ more. no_file mark_text _ (⊎_elim
    (λ none. shows.later (length entries + 1) (omega (arith, none)) (omega arith))
    (λ some. unmarked (length entries + 1) (record { from = omega arith; below = omega (arith, some) }))
    (eq-or-lt_of_le (let some : 0 ≤ behind = omega arith in some))))

file_image : (s : Told) (m : Map) (path : List (List ℕ)) (bytes : List ℕ) → IsImage s m → IsFixedFile s path bytes → IsFileOf bytes (m path)
file_image s m path bytes image fixed = (fixed.0, fixed_image s m path _ fixed.1 image)

pub text_image : (s : Told) (m : Map) (number : ℕ) (entry : Entry) → IsImage s m → IsTextFixed s number entry → HoldsEntry m number entry.path entry.before
text_image s m number entry image fixed = record { entry = fixed.is_entry; file = file_image s m (entry_path number) (entry_text entry.path entry.before) image fixed.file }

pub kept_shows : (entries : List Entry) (behind : ℕ) (old : Map) (s : Told) (m : Map) → AreKept entries behind old s → IsImage s m → Shows entries behind old m
kept_shows entries behind old s m kept image = record {
  formed = image.formed;
  gate = file_image s m gate_path gate_text image kept.gate;
  marks = λ place below. file_image s m (mark_path (place + 1)) mark_text image (kept.marks place below);
  texts = λ place below. text_image s m (place + 1) (entry_at entries place) image (kept.texts place below);
  rest = λ path outside none. fixed_image s m path (old path) (kept.rest path outside none) image;
  later = λ number above small. fixed_image s m (mark_path number) None (kept.no_later_marks number above small) image;
}

-- A map restores to the old installation that has the places of an image below `.p2/e`, whatever counts behind the entries.
pub shows_kept : (entries : List Entry) (behind : ℕ) (old : Map) (s : Told) (n m : Map) → AreKept entries behind old s → IsImage s n → Shows entries behind old m
    → ((number : ℕ) → m (mark_path number) ≡ n (mark_path number)) → ((number : ℕ) → m (entry_path number) ≡ n (entry_path number))
    → IsRestored m old
shows_kept entries behind old s n m kept image shows marks texts = ⊎_elim
    (λ unmarked. shows_unmarked entries behind old m kept.most kept.serves kept.formed shows
    (λ number among. marks number ∙ fixed_image s n (mark_path number) None (unmarked number among) image))
    (λ some.
    let strays = some.0 in
    let is = some.1.1 in
    let count = some.1.0 in
    let most = kept.most in
    shows_old entries strays old m (omega (arith, count)) kept.formed (subst (λ (k : ℕ). Shows entries k old m) (sym count) shows) is.serve
    (λ place below. let text = text_image s n (length entries + 1 + place) (entry_at strays place) image (is.texts place below) in
    record { entry = text.entry; file = (text.file.0, texts (length entries + 1 + place) ∙ text.file.1) }))
    kept.harmless

-- each image restores to the old installation
pub kept_restores : (entries : List Entry) (behind : ℕ) (old : Map) (s : Told) (m : Map) → AreKept entries behind old s → IsImage s m → IsRestored m old
kept_restores entries behind old s m kept image =
    shows_kept entries behind old s m m kept image (kept_shows entries behind old s m kept image) (λ number. refl) (λ number. refl)

-- each image is tidy
pub kept_tidy : (entries : List Entry) (behind : ℕ) (old : Map) (s : Told) (m : Map) → AreKept entries behind old s → IsImage s m → IsTidy m
kept_tidy entries behind old s m kept image path foreign = fixed_image s m path None (kept.foreign path foreign) image

-- each image restores to what another restores to
pub kept_alike : (before : List Entry) (i : ℕ) (after : List Entry) (j : ℕ) (old : Map) (s t : Told) (n m : Map) → AreKept before i old s → IsImage s n → AreKept after j old t → IsImage t m → RestoresLike n m
kept_alike before i after j old s t n m kept image held left =
    restores_alike n m old (kept_restores before i old s n kept image) (kept_restores after j old t m held left) (λ path is. kept_tidy after j old t m held left path is ∙ sym (kept_tidy before i old s n kept image path is))

file_goes_on : (s t : Told) (path : List (List ℕ)) (bytes : List ℕ) → ((stands : Option Node) → IsFixed s path stands → IsFixed t path stands) → IsFixedFile s path bytes → IsFixedFile t path bytes
file_goes_on s t path bytes goes fixed = (fixed.0, goes _ fixed.1)

text_goes_on : (s t : Told) (number : ℕ) (entry : Entry) → ((stands : Option Node) → IsFixed s (entry_path number) stands → IsFixed t (entry_path number) stands) → IsTextFixed s number entry → IsTextFixed t number entry
text_goes_on s t number entry goes fixed = record { is_entry = fixed.is_entry; file = file_goes_on s t (entry_path number) (entry_text entry.path entry.before) goes fixed.file }

pub inside_uncovered : (entries : List Entry) (old : Map) (rest : List (List ℕ)) → Serves entries old → ¬ (Covers entries (codes ".p2" ∷ rest))
inside_uncovered entries old rest serves covers = serves.outside (codes ".p2" ∷ rest) covers rest refl

-- The path is that of a text or a mark of so many entries, from the first on.
abbrev pub IsPlaceAmong : ℕ → ℕ → List (List ℕ) → Type 0
IsPlaceAmong first count path = IsFileAmong first count path ⊎ IsMarkAmong first count path

pub text_not_among : (first count number : ℕ) → number ≤ 1000001 → first + count ≤ 1000002 → ¬ (IsAmong first count number) → ¬ (IsPlaceAmong first count (entry_path number))
text_not_among first count number small most none (inl file) =
    let below = file.1.0.below in
    entry_apart number file.0 small (omega arith) (λ same. none (subst (IsAmong first count) (sym same) file.1.0)) file.1.1
text_not_among first count number small most none (inr mark) = entry_mark_apart number mark.0 small mark.1.1

pub mark_not_among : (first count number : ℕ) → number ≤ 1000001 → first + count ≤ 1000002 → ¬ (IsAmong first count number) → ¬ (IsPlaceAmong first count (mark_path number))
mark_not_among first count number small most none (inl file) =
    let below = file.1.0.below in
    entry_mark_apart file.0 number (omega arith) (sym file.1.1)
mark_not_among first count number small most none (inr mark) =
    let below = mark.1.0.below in
    mark_apart number mark.0 small (omega arith) (λ same. none (subst (IsAmong first count) (sym same) mark.1.0)) mark.1.1

-- A path that isn't directly in `.p2/e` is none of these.
pub other_not_among : (first count : ℕ) (path : List (List ℕ)) → ((last : List ℕ) → path ≢ entries_path ++ last ∷ []) → ¬ (IsPlaceAmong first count path)
other_not_among first count path other (inl file) = other _ file.1.1
other_not_among first count path other (inr mark) = other _ mark.1.1

pub below_not_among : (first count number : ℕ) → number < first → ¬ (IsAmong first count number)
below_not_among first count number below is = let from = is.from in absurd (omega arith)

pub above_not_among : (first count number : ℕ) → first + count ≤ number → ¬ (IsAmong first count number)
above_not_among first count number above is = let below = is.below in absurd (omega arith)

-- The entries go on being kept, where all that is fixed stays so but at their paths and at the places behind them.
pub kept_moves : (entries : List Entry) (behind more : ℕ) (old : Map) (s t : Told) → AreKept entries behind old s → behind ≤ more → length entries + more ≤ 1000000
    → ((path : List (List ℕ)) (stands : Option Node) → ¬ (Covers entries path) → ¬ (IsPlaceAmong (length entries + 1) more path) → IsFixed s path stands → IsFixed t path stands)
    → AreHarmless entries more old t
    → AreKept entries more old t
kept_moves entries behind more old s t kept wider most goes harmless =
    let uncovered = λ (rest : List (List ℕ)). inside_uncovered entries old rest kept.serves in
    let first : ℕ = length entries + 1 in
    let near : first + more ≤ 1000002 = omega arith in
    record {
      most = most;
      serves = kept.serves;
      formed = kept.formed;
      gate = file_goes_on s t gate_path gate_text (λ stands. goes gate_path stands (uncovered _) (other_not_among first more gate_path (λ last e. cc))) kept.gate;
      directory = goes entries_path (Some Dir) (uncovered _) (other_not_among first more entries_path (λ last e. cc)) kept.directory;
      marks = λ place below. file_goes_on s t (mark_path (place + 1)) mark_text
          (λ stands. goes (mark_path (place + 1)) stands (uncovered _) (mark_not_among first more (place + 1) (omega arith) near (below_not_among first more (place + 1) (omega arith))))
          (kept.marks place below);
      texts = λ place below. text_goes_on s t (place + 1) (entry_at entries place)
          (λ stands. goes (entry_path (place + 1)) stands (uncovered _) (text_not_among first more (place + 1) (omega arith) near (below_not_among first more (place + 1) (omega arith))))
          (kept.texts place below);
      rest = λ path outside none. goes path (old path) none (other_not_among first more path (λ last e. outside _ e)) (kept.rest path outside none);
      no_later_marks = λ number above small. goes (mark_path number) None (uncovered _)
          (mark_not_among first more number small near (above_not_among first more number (omega arith)))
          (kept.no_later_marks number (omega arith) small);
      no_later_texts = λ number above small. goes (entry_path number) None (uncovered _)
          (text_not_among first more number small near (above_not_among first more number (omega arith)))
          (kept.no_later_texts number (omega arith) small);
      harmless = harmless;
      foreign = λ path is. goes path None (λ covers. kept.serves.outside path covers _ is.below) (other_not_among first more path is.not_entry) (kept.foreign path is);
    }

-- The same where all that is fixed stays so but at the entries' paths.
pub kept_goes_on : (entries : List Entry) (behind : ℕ) (old : Map) (s t : Told) → AreKept entries behind old s
    → ((path : List (List ℕ)) (stands : Option Node) → ¬ (Covers entries path) → IsFixed s path stands → IsFixed t path stands)
    → AreKept entries behind old t
kept_goes_on entries behind old s t kept goes =
    let uncovered = λ (rest : List (List ℕ)). inside_uncovered entries old rest kept.serves in
    kept_moves entries behind behind old s t kept (omega arith) kept.most (λ path stands none apart. goes path stands none)
    (⊎_elim
    (λ unmarked. inl (λ number among. goes (mark_path number) None (uncovered _) (unmarked number among)))
    (λ some. inr (
      some.0,
      (
        some.1.0,
        record {
          serve = some.1.1.serve;
          texts = λ place below. text_goes_on s t (length entries + 1 + place) (entry_at some.0 place)
              (λ stands. goes (entry_path (length entries + 1 + place)) stands (uncovered _)) (some.1.1.texts place below);
        },
      ),
    ))
    kept.harmless)
