-- The entries of touches are kept: what becomes of the others, and what a crash leaves meanwhile.
use Rattle.std.proofs.Common.{◌≡◌, ℕ, zero, ◌+◌, ◌≤◌, List, ◌++◌, length, take, Option, Some, None, inl, inr, ⊎_elim, sym, ◌∙◌, ap, subst, arith, length-append}
use Rattle.std.proofs.Math.Seq.{take-length}
use Rattle.folder_core.specs.Folder.{Map, Told, IsFormed}
use Rattle.folder_core.specs.Crash.{IsImage}
use Rattle.folder_core.specs.Node.{entries_path}
use Rattle.folder_core.specs.declared.node.Node.{Node}
use Rattle.folder_core.specs.declared.node.Node.TheVariants.{Dir}
use Rattle.folder_core.specs.declared.node.Touch.{Touch}
use Rattle.backup_store.specs.Held.{mark_text}
use Rattle.backup_store.specs.KeepingAll.{IsMarkAmong, HoldEntries, HaveCome, LeavesEntries, AreAllKept, TouchesOnly}
use Rattle.backup_store.specs.Places.{IsOutside, gate_path, entry_path, mark_path}
use Rattle.backup_store.specs.Turns.{AreTouches, CanSetInTurn, entries_in_turn}
use Rattle.backup_store.specs.declared.entry.Entry.{Entry}
use Rattle.backup_store.proofs.InTurn.{length-entries}
use Rattle.install_journal.specs.Fixed.{IsFixed, IsFixedFile}
use Rattle.install_journal.specs.Kept.{Serves, AreKept, IsTextFixed}
use Rattle.install_journal.specs.Overlay.{entry_at, SameOutside}
use Rattle.install_journal.specs.Restored.{IsRestored}
use Rattle.install_journal.specs.Tidy.{IsTidy}
use Rattle.install_journal.proofs.Apart.{entry_mark_apart}
use Rattle.install_journal.proofs.Fixing.{fixed_image}
use Rattle.install_journal.proofs.Keepings.{fixed_settled}
use Rattle.install_journal.proofs.Keeps.{Shows, IsPlaceAmong, kept_moves, shows_old, shows_unmarked, each_append, text_not_among, mark_not_among, other_not_among, below_not_among, above_not_among}
use Rattle.install_journal.proofs.Overlays.{covers_front}
use Rattle.install_journal.proofs.TurnsServe.{serves_in_turn}

-- what stays fixed where paths of some kind alone are touched
only_fixed : (P : List (List ℕ) → Type 0) (s t : Told) (place : List (List ℕ)) (stands : Option Node) → TouchesOnly P s t → ¬ (P place) → IsFixed s place stands → IsFixed t place stands
only_fixed P s t place stands only apart fixed = record {
  untouched = λ is. ⊎_elim fixed.untouched apart (only.touched place is);
  synced = ap (λ (m : Map). m place) only.synced ∙ fixed.synced;
}

outside_not_among : (first count : ℕ) (path : List (List ℕ)) → IsOutside path → ¬ (IsPlaceAmong first count path)
outside_not_among first count path outside = other_not_among first count path (λ last e. outside _ e)

-- Outside `.p2` nothing is changed by keeping, however far it comes.
pub come_outside : (s t : Told) (first : ℕ) (touches : List Touch) → HaveCome s first touches t → SameOutside t.now s.now
come_outside s t first touches (inl only) place out = only.elsewhere place (λ file. outside_not_among first (length touches) place out (inl file))
come_outside s t first touches (inr synced) place out =
    synced.elsewhere place (λ file. outside_not_among first (length touches) place out (inl file)) (λ mark. outside_not_among first (length touches) place out (inr mark))

pub kept_outside : (s t : Told) (first : ℕ) (touches : List Touch) → AreAllKept s first touches t → SameOutside t.now s.now
kept_outside s t first touches kept place out =
    kept.elsewhere place (λ file. outside_not_among first (length touches) place out (inl file)) (λ mark. outside_not_among first (length touches) place out (inr mark))

module _ (entries : List Entry) (old : Map) (s : Told) (touches : List Touch) (kept : AreKept entries zero old s) (room : length entries + length touches ≤ 1000000)
    (image : IsImage s s.now) (are : AreTouches touches) (can : CanSetInTurn touches s.now) where
  abbrev first : ℕ
  first = length entries + 1

  abbrev many : ℕ
  many = length touches

  abbrev strays : List Entry
  strays = entries_in_turn touches s.now

  abbrev pushed : List Entry
  pushed = entries ++ strays

  long : length strays ≡ many
  long = length-entries touches s.now

  near : first + many ≤ 1000002
  near = omega arith

  serve : (count : ℕ) → count ≤ length strays → Serves (entries ++ take count strays) old
  serve count most = serves_in_turn entries old touches s.now kept.serves are can
      (λ place out none. fixed_image s s.now place (old place) (kept.rest place out none) image) count (omega (arith, long))

  pub all_serve : Serves pushed old
  all_serve = subst (λ (l : List Entry). Serves (entries ++ l) old) (take-length strays) (serve (length strays) (omega arith))

  text_no_mark : (number : ℕ) → number ≤ 1000001 → ¬ (IsMarkAmong first many (entry_path number))
  text_no_mark number small mark = entry_mark_apart number mark.0 small mark.1.1

  -- keeping fails: the next entries do no harm
  pub all_fail : (t : Told) → HaveCome s first touches t → AreKept entries many old t
  all_fail t (inl only) = kept_moves entries zero many old s t kept (omega arith) room
      (λ place stands none apart fixed. only_fixed _ s t place stands only (λ file. apart (inl file)) fixed)
      (inl (λ n among.
      let from = among.from in
      let below = among.below in
      only_fixed _ s t (mark_path n) None only (λ file.
      let last = file.1.0.below in
      entry_mark_apart file.0 n (omega arith) (sym file.1.1)) (kept.no_later_marks n (omega arith) (omega arith))))
  all_fail t (inr synced) = kept_moves entries zero many old s t kept (omega arith) room
      (λ place stands none apart fixed. record {
        untouched = λ is. apart (inr (synced.touched place is));
        synced = synced.written.elsewhere place (λ file. apart (inl file)) (λ mark. apart (inr mark)) ∙ fixed_image s s.now place stands fixed image;
      })
      (inr (
        strays,
        (
          long,
          record {
            serve = serve;
            texts = λ place below.
                let holds = synced.written.holds place below in
                record {
                  is_entry = holds.entry;
                  file = (
                    holds.file.0,
                    record { untouched = λ is. text_no_mark (first + place) (omega (arith, long)) (synced.touched (entry_path (first + place)) is); synced = holds.file.1 },
                  );
                };
          },
        ),
      ))

  -- what a map shows that is like the images but at the next entries' places
  shows_but : (m : Map) → IsFormed m
      → ((place : List (List ℕ)) (stands : Option Node) → ¬ (IsPlaceAmong first many place) → IsFixed s place stands → m place ≡ stands)
      → Shows entries many old m
  shows_but m formed at = record {
    formed = formed;
    gate = (kept.gate.0, at gate_path _ (other_not_among first many gate_path (λ last e. cc)) kept.gate.1);
    marks = λ place below. let file = kept.marks place below in (
      file.0,
      at (mark_path (place + 1)) _ (mark_not_among first many (place + 1) (omega arith) near (below_not_among first many (place + 1) (omega arith))) file.1,
    );
    texts = λ place below. let text = kept.texts place below in record {
      entry = text.is_entry;
      file = (
        text.file.0,
        at (entry_path (place + 1)) _ (text_not_among first many (place + 1) (omega arith) near (below_not_among first many (place + 1) (omega arith))) text.file.1,
      );
    };
    rest = λ place out none. at place (old place) (outside_not_among first many place out) (kept.rest place out none);
    later = λ n above small. at (mark_path n) None (mark_not_among first many n small near (above_not_among first many n (omega arith))) (kept.no_later_marks n (omega arith) small);
  }

  -- a crash at any moment while they are kept leaves the old installation
  pub all_leave : (m : Map) → LeavesEntries s first touches m → IsRestored m old
  all_leave m (inl unmarked) = shows_unmarked entries many old m room kept.serves kept.formed
      (shows_but m unmarked.image.formed (λ place stands apart fixed. unmarked.image.untouched place fixed.untouched (λ file. apart (inl file)) ∙ fixed.synced))
      unmarked.no_marks
  all_leave m (inr written) = shows_old entries strays old m (omega (arith, long)) kept.formed
      (subst (λ (n : ℕ). Shows entries n old m) (sym long)
      (shows_but m written.formed (λ place stands apart fixed. written.elsewhere place (λ file. apart (inl file)) (λ mark. apart (inr mark)) ∙ fixed_image s s.now place stands fixed image)))
      serve written.holds

  -- a tidy map
  pub all_tidy : (m : Map) → LeavesEntries s first touches m → IsTidy m
  all_tidy m (inl unmarked) place foreign =
      unmarked.image.untouched place (kept.foreign place foreign).untouched (λ file. other_not_among first many place foreign.not_entry (inl file))
      ∙ (kept.foreign place foreign).synced
  all_tidy m (inr written) place foreign =
      written.elsewhere place (λ file. other_not_among first many place foreign.not_entry (inl file)) (λ mark. other_not_among first many place foreign.not_entry (inr mark))
      ∙ fixed_image s s.now place None (kept.foreign place foreign) image

  -- they are kept
  module _ (t : Told) (all : AreAllKept s first touches t) (holds : HoldEntries t.now first strays) where
    fixed_then : (place : List (List ℕ)) (stands : Option Node) → t.now place ≡ stands → IsFixed t place stands
    fixed_then place stands is = fixed_settled t place stands all.synced all.settled is

    stays : (place : List (List ℕ)) (stands : Option Node) → ¬ (IsPlaceAmong first many place) → IsFixed s place stands → IsFixed t place stands
    stays place stands apart fixed = fixed_then place stands (all.elsewhere place (λ file. apart (inl file)) (λ mark. apart (inr mark)) ∙ fixed_image s s.now place stands fixed image)

    shift : (place : ℕ) → first + place ≡ length entries + place + 1
    shift place = omega arith

    pub all_push : AreKept pushed zero old t
    all_push =
        let count = length-append entries strays in
        record {
          most = omega (arith, count, long);
          serves = all_serve;
          formed = kept.formed;
          gate = (kept.gate.0, stays gate_path _ (other_not_among first many gate_path (λ last e. cc)) kept.gate.1);
          directory = stays entries_path (Some Dir) (other_not_among first many entries_path (λ last e. cc)) kept.directory;
          marks = each_append (λ place e. IsFixedFile t (mark_path (place + 1)) mark_text) entries strays
              (λ place below. let file = kept.marks place below in (
                file.0,
                stays (mark_path (place + 1)) _ (mark_not_among first many (place + 1) (omega arith) near (below_not_among first many (place + 1) (omega arith))) file.1,
              ))
              (λ place below. (
                420,
                fixed_then (mark_path (length entries + place + 1)) _
                    (all.marks (length entries + place + 1) (record { from = omega arith; below = omega (arith, long) })),
              ));
          texts = each_append (λ place e. IsTextFixed t (place + 1) e) entries strays
              (λ place below. let text = kept.texts place below in record {
                is_entry = text.is_entry;
                file = (
                  text.file.0,
                  stays (entry_path (place + 1)) _ (text_not_among first many (place + 1) (omega arith) near (below_not_among first many (place + 1) (omega arith))) text.file.1,
                );
              })
              (λ place below. subst (λ (n : ℕ). IsTextFixed t n (entry_at strays place)) (shift place) (record {
                is_entry = (holds place below).entry;
                file = (420, fixed_then (entry_path (first + place)) _ (all.entries place (omega (arith, long))));
              }));
          rest = λ place out none. stays place (old place) (outside_not_among first many place out)
              (kept.rest place out (λ covers. none (covers_front entries strays place covers)));
          no_later_marks = λ n above small. stays (mark_path n) None (mark_not_among first many n small near (above_not_among first many n (omega (arith, count, long))))
              (kept.no_later_marks n (omega (arith, count)) small);
          no_later_texts = λ n above small. stays (entry_path n) None (text_not_among first many n small near (above_not_among first many n (omega (arith, count, long))))
              (kept.no_later_texts n (omega (arith, count)) small);
          harmless = inl (λ n among. let from = among.from in let below = among.below in absurd (omega arith));
          foreign = λ place is. stays place None (other_not_among first many place is.not_entry) (kept.foreign place is);
        }
