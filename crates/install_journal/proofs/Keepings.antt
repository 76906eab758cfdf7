-- One entry more is kept: what becomes of the others, and what a crash leaves meanwhile.
use Rattle.std.proofs.Common.{◌≡◌, ◌≢◌, ℕ, zero, suc, ◌+◌, ◌<◌, ◌≤◌, List, [], ◌∷◌, ◌++◌, length, take, Option, Some, None, Contains, ◌⊎◌, inl, inr, ⊎_elim, refl, sym, ◌∙◌, ap, subst, arith}
use Rattle.std.proofs.lemmas.List.{append-nil}
use Rattle.folder_core.specs.Folder.{Map, Told, IsFormed, CanSet}
use Rattle.folder_core.specs.Crash.{IsImage}
use Rattle.folder_core.specs.Node.{entries_path}
use Rattle.folder_core.specs.declared.node.Node.{Node}
use Rattle.folder_core.specs.declared.node.Node.TheVariants.{Dir}
use Rattle.backup_store.specs.Entry.{IsEntry}
use Rattle.backup_store.specs.Held.{HoldsEntry, mark_text}
use Rattle.backup_store.specs.Keeping.{LeavesEntry, HasCome, IsKept}
use Rattle.backup_store.specs.KeepingAll.{IsAmong}
use Rattle.backup_store.specs.Places.{IsOutside, gate_path, entry_path, mark_path}
use Rattle.backup_store.specs.declared.entry.Entry.{Entry}
use Rattle.install_journal.specs.Fixed.{IsFixed, IsFixedFile}
use Rattle.install_journal.specs.Overlay.{entry_at, Covers}
use Rattle.install_journal.specs.Kept.{Serves, AreKept, IsTextFixed, entry_of}
use Rattle.install_journal.specs.Restored.{IsRestored}
use Rattle.install_journal.specs.Tidy.{IsTidy}
use Rattle.install_journal.proofs.Apart.{entry_apart, mark_apart, entry_mark_apart}
use Rattle.install_journal.proofs.Fixing.{fixed_image, fixed_touches}
use Rattle.install_journal.proofs.Keeps.{Shows, IsPlaceAmong, kept_moves, shows_old, shows_unmarked, length_push, each_push}
use Rattle.install_journal.proofs.Overlays.{covers_front, serves_push}

contains_cons : (first path : List (List ℕ)) (l : List (List (List ℕ))) → Contains (first ∷ l) path → (path ≡ first) ⊎ Contains l path
contains_cons first path l (zero, below, at) = inl (sym at)
contains_cons first path l (suc k, below, at) = inr (k, omega arith, at)

pub fixed_settled : (t : Told) (path : List (List ℕ)) (stands : Option Node) → t.synced ≡ t.now → t.touched ≡ [] → t.now path ≡ stands → IsFixed t path stands
fixed_settled t path stands synced settled is = record {
  untouched = λ (k, below, at). let same = subst (λ (l : List (List (List ℕ))). Contains l path) settled (k, below, at) in absurd (omega (arith, same.1));
  synced = ap (λ (m : Map). m path) synced ∙ is;
}

-- of one number
one_among : (first : ℕ) → IsAmong first 1 first
one_among first = record { from = omega arith; below = omega arith }

-- what begins at the place of the next entry
module _ (entries : List Entry) (old : Map) (s : Told) (path : List (List ℕ)) (kept : AreKept entries zero old s) (less : length entries < 1000000)
    (image : IsImage s s.now) (outside : IsOutside path) (can : CanSet s.now path) where
  abbrev number : ℕ
  number = length entries + 1

  abbrev stray : List Entry
  stray = entry_of s.now path ∷ []

  abbrev pushed : List Entry
  pushed = entries ++ stray

  rest_now : (place : List (List ℕ)) → IsOutside place → ¬ (Covers entries place) → s.now place ≡ old place
  rest_now place out none = fixed_image s s.now place (old place) (kept.rest place out none) image

  pub pushed_serves : Serves pushed old
  pushed_serves = serves_push entries old s.now path kept.serves outside can rest_now

  serve_one : (count : ℕ) → count ≤ 1 → Serves (entries ++ take count stray) old
  serve_one zero near = subst (λ (l : List Entry). Serves l old) (sym (append-nil entries)) kept.serves
  serve_one (suc zero) near = pushed_serves
  serve_one (suc (suc more)) near = absurd (omega arith)

  -- Only the next entry's places were changed.
  apart_text : (place : List (List ℕ)) → ¬ (IsPlaceAmong number 1 place) → place ≢ entry_path number
  apart_text place apart e = apart (inl (number, (one_among number, e)))

  apart_mark : (place : List (List ℕ)) → ¬ (IsPlaceAmong number 1 place) → place ≢ mark_path number
  apart_mark place apart e = apart (inr (number, (one_among number, e)))

  -- keeping fails: the next entry does no harm
  pub keep_fails : (t : Told) → HasCome s number path t → AreKept entries 1 old t
  keep_fails t (inl begun) = kept_moves entries zero 1 old s t kept (omega arith) (omega arith)
      (λ place stands none apart fixed. fixed_touches s t (entry_path number) place stands begun.touches (apart_text place apart) fixed)
      (inl (λ n among.
      let from = among.from in
      let below = among.below in
      fixed_touches s t (entry_path number) (mark_path n) None begun.touches (λ e. entry_mark_apart number n (omega arith) (sym e)) (kept.no_later_marks n (omega arith) (omega arith))))
  keep_fails t (inr synced) = kept_moves entries zero 1 old s t kept (omega arith) (omega arith)
      (λ place stands none apart fixed. record {
        untouched = λ is. apart_mark place apart (synced.touched place is);
        synced = synced.written.elsewhere place (apart_text place apart) (apart_mark place apart) ∙ fixed_image s s.now place stands fixed image;
      })
      (inr (
        stray,
        (
          refl,
          record {
            serve = serve_one;
            texts = text_there;
          },
        ),
      ))
    where
      fixed_text : IsTextFixed t number (entry_of s.now path)
      fixed_text = record {
        is_entry = synced.written.holds.entry;
        file = (
          synced.written.holds.file.0,
          record {
            untouched = λ is. entry_mark_apart number number (omega arith) (synced.touched (entry_path number) is);
            synced = synced.written.holds.file.1;
          },
        );
      }

      text_there : (place : ℕ) → place < 1 → IsTextFixed t (number + place) (entry_at stray place)
      text_there zero below = subst (λ (n : ℕ). IsTextFixed t n (entry_of s.now path)) (let same : number ≡ number + zero = omega arith in same) fixed_text
      text_there (suc place) below = absurd (omega arith)

  -- what a map shows that is like the images but at the next entry's places
  shows_but : (m : Map) → IsFormed m
      → ((place : List (List ℕ)) (stands : Option Node) → place ≢ entry_path number → place ≢ mark_path number → IsFixed s place stands → m place ≡ stands)
      → Shows entries 1 old m
  shows_but m formed at = record {
    formed = formed;
    gate = (kept.gate.0, at gate_path _ (λ e. cc) (λ e. cc) kept.gate.1);
    marks = λ place below. let file = kept.marks place below in (
      file.0,
      at (mark_path (place + 1)) _
          (λ e. entry_mark_apart number (place + 1) (omega arith) (sym e))
          (mark_apart (place + 1) number (omega arith) (omega arith) (λ e. absurd (omega arith))) file.1,
    );
    texts = λ place below. let text = kept.texts place below in record {
      entry = text.is_entry;
      file = (
        text.file.0,
        at (entry_path (place + 1)) _
            (entry_apart (place + 1) number (omega arith) (omega arith) (λ e. absurd (omega arith)))
            (entry_mark_apart (place + 1) number (omega arith)) text.file.1,
      );
    };
    rest = λ place out none. at place (old place) (λ e. out _ e) (λ e. out _ e) (kept.rest place out none);
    later = λ n above small. at (mark_path n) None
        (λ e. entry_mark_apart number n (omega arith) (sym e))
        (mark_apart n number (omega arith) (omega arith) (λ e. absurd (omega arith)))
        (kept.no_later_marks n (omega arith) small);
  }

  -- a crash at any moment while it is kept leaves the old installation
  pub keep_leaves : (m : Map) → LeavesEntry s number path m → IsRestored m old
  keep_leaves m (inl unmarked) = shows_unmarked entries 1 old m (omega arith) kept.serves kept.formed
      (shows_but m unmarked.image.formed (λ place stands entry mark fixed.
      unmarked.image.untouched place (λ is. ⊎_elim entry fixed.untouched (contains_cons (entry_path number) place s.touched is)) ∙ fixed.synced))
      (λ n among.
      let from = among.from in
      let below = among.below in
      subst (λ (k : ℕ). m (mark_path k) ≡ None) (let same : number ≡ n = omega arith in same) unmarked.no_mark)
  keep_leaves m (inr written) = shows_old entries stray old m (omega arith) kept.formed
      (shows_but m written.formed (λ place stands entry mark fixed.
      written.elsewhere place entry mark ∙ fixed_image s s.now place stands fixed image))
      serve_one text_there
    where
      text_there : (place : ℕ) → place < 1 → HoldsEntry m (number + place) (entry_at stray place).path (entry_at stray place).before
      text_there zero below = subst (λ (n : ℕ). HoldsEntry m n path (s.now path)) (let same : number ≡ number + zero = omega arith in same) written.holds
      text_there (suc place) below = absurd (omega arith)

  -- a tidy map
  pub keep_tidy : (m : Map) → LeavesEntry s number path m → IsTidy m
  keep_tidy m (inl unmarked) place foreign =
      unmarked.image.untouched place (λ is. ⊎_elim (λ e. foreign.not_entry _ e) (kept.foreign place foreign).untouched (contains_cons (entry_path number) place s.touched is))
      ∙ (kept.foreign place foreign).synced
  keep_tidy m (inr written) place foreign =
      written.elsewhere place (λ e. foreign.not_entry _ e) (λ e. foreign.not_entry _ e) ∙ fixed_image s s.now place None (kept.foreign place foreign) image

  -- it is kept
  module _ (t : Told) (is_kept : IsKept s number path t) (is_entry : IsEntry path (s.now path)) where
    fixed_then : (place : List (List ℕ)) (stands : Option Node) → t.now place ≡ stands → IsFixed t place stands
    fixed_then place stands is = fixed_settled t place stands is_kept.synced is_kept.settled is

    stays : (place : List (List ℕ)) (stands : Option Node) → place ≢ entry_path number → place ≢ mark_path number → IsFixed s place stands → IsFixed t place stands
    stays place stands entry mark fixed = fixed_then place stands (is_kept.elsewhere place entry mark ∙ fixed_image s s.now place stands fixed image)

    pub keep_pushes : AreKept pushed zero old t
    keep_pushes =
        let long = length_push entries (entry_of s.now path) in
        record {
          most = omega (arith, long);
          serves = pushed_serves;
          formed = kept.formed;
          gate = (kept.gate.0, stays gate_path _ (λ e. cc) (λ e. cc) kept.gate.1);
          directory = stays entries_path (Some Dir) (λ e. cc) (λ e. cc) kept.directory;
          marks = each_push (λ place e. IsFixedFile t (mark_path (place + 1)) mark_text) entries (entry_of s.now path)
              (λ place below. let file = kept.marks place below in (
                file.0,
                stays (mark_path (place + 1)) _
                    (λ e. entry_mark_apart number (place + 1) (omega arith) (sym e))
                    (mark_apart (place + 1) number (omega arith) (omega arith) (λ e. absurd (omega arith))) file.1,
              ))
              (420, fixed_then (mark_path number) _ is_kept.mark);
          texts = each_push (λ place e. IsTextFixed t (place + 1) e) entries (entry_of s.now path)
              (λ place below. let text = kept.texts place below in record {
                is_entry = text.is_entry;
                file = (
                  text.file.0,
                  stays (entry_path (place + 1)) _
                      (entry_apart (place + 1) number (omega arith) (omega arith) (λ e. absurd (omega arith)))
                      (entry_mark_apart (place + 1) number (omega arith)) text.file.1,
                );
              })
              (record { is_entry = is_entry; file = (420, fixed_then (entry_path number) _ is_kept.entry) });
          rest = λ place out none. stays place (old place) (λ e. out _ e) (λ e. out _ e)
              (kept.rest place out (λ covers. none (covers_front entries stray place covers)));
          no_later_marks = λ n above small. stays (mark_path n) None
              (λ e. entry_mark_apart number n (omega arith) (sym e))
              (mark_apart n number (omega arith) (omega arith) (λ e. absurd (omega (arith, long))))
              (kept.no_later_marks n (omega (arith, long)) small);
          no_later_texts = λ n above small. stays (entry_path n) None
              (entry_apart n number (omega arith) (omega arith) (λ e. absurd (omega (arith, long))))
              (entry_mark_apart n number (omega arith))
              (kept.no_later_texts n (omega (arith, long)) small);
          harmless = inl (λ n among. let from = among.from in let below = among.below in absurd (omega arith));
          foreign = λ place is. stays place None (λ e. is.not_entry _ e) (λ e. is.not_entry _ e) (kept.foreign place is);
        }
