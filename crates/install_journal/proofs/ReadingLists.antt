-- What a recovery noted, as a list in the order of paths.
use Rattle.std.proofs.Common.{◌≡◌, ℕ, zero, suc, ◌+◌, ◌-◌, ◌<◌, List, [], ◌∷◌, length, get_or, Option, Some, None, refl, sym, ◌∙◌, ap, subst, arith}
use Rattle.std.specs.Prelude.{map, MatchOption}
use Rattle.std.specs.List.{slice_get, Contains}
use Rattle.std.specs.BTreeMap.{BTreeMap, IsOrdered, get, is_at}
use Rattle.std.specs.Map.{keys_of}
use Rattle.std.proofs.lemmas.Map.Entries.{place_from_lookup, btree_map_get_place}
use Rattle.std.proofs.lemmas.Map.Keys.{Less-from_sorted}
use Rattle.folder_core.specs.Folder.{Map, Told}
use Rattle.folder_core.specs.PathOrder.{path_cmp, IsPathBefore}
use Rattle.folder_core.specs.Step.{OnTold}
use Rattle.folder_core.proofs.PathOrder.{path_cmp_total}
use Rattle.backup_store.specs.Held.{Counts}
use Rattle.backup_store.specs.Places.{IsOutside}
use Rattle.backup_store.specs.declared.entry.Entry.{Entry}
use Rattle.install_journal.specs.Broken.{AreSound}
use Rattle.install_journal.specs.Overlay.{Covers}
use Rattle.install_journal.specs.Plan.{IsOldest, IsGathered}
use Rattle.install_journal.specs.Reading.{AreNoted, IsReadWhole, IsListed, oldest_of, first_of}
use Rattle.install_journal.specs.declared.plan.Oldest.{Oldest}
use Rattle.install_journal.specs.declared.reading.First.{First}
use Rattle.install_journal.specs.declared.reading.Gathered.{Gathered}
use Rattle.install_journal.proofs.Readings.{exact_paths, covers_place}
use Rattle.install_journal.proofs.Undoings.{covers_at}

-- an entry of the map, as it is listed
abbrev pub listed : List (List ℕ) × First → Oldest
listed pair = oldest_of pair.0 pair.1

path_listed : (pairs : List (List (List ℕ) × First)) (k : ℕ) (d : Oldest) → (get_or (map listed pairs) k d).path ≡ get_or (keys_of pairs) k d.path
path_listed [] k d = refl
path_listed (pair ∷ pairs) zero d = refl
path_listed (pair ∷ pairs) (suc k) d = path_listed pairs k d

length_listed : (pairs : List (List (List ℕ) × First)) → length (map listed pairs) ≡ length (keys_of pairs)
length_listed [] = refl
length_listed (pair ∷ pairs) = ap (λ (n : ℕ). suc n) (length_listed pairs)

rising_listed : (firsts : BTreeMap (List (List ℕ)) First) → IsOrdered path_cmp firsts → (k : ℕ) (d : Oldest) → k + 1 < length (map listed firsts.entries)
    → IsPathBefore (get_or (map listed firsts.entries) k d).path (get_or (map listed firsts.entries) (k + 1) d).path
rising_listed firsts ordered k d below =
    let here = path_listed firsts.entries k d in
    let next = path_listed firsts.entries (k + 1) d in
    let before : IsPathBefore (get_or (keys_of firsts.entries) k d.path) (get_or (keys_of firsts.entries) (k + 1) d.path)
    = Less-from_sorted path_cmp (keys_of firsts.entries) k (k + 1) d.path ordered (omega arith) (omega (arith, below, length_listed firsts.entries)) in
    subst (λ p. IsPathBefore p (get_or (map listed firsts.entries) (k + 1) d).path) (sym here)
    (subst (λ p. IsPathBefore (get_or (keys_of firsts.entries) k d.path) p) (sym next) before)

found_listed : (pairs : List (List (List ℕ) × First)) (k : ℕ) (oldest : Oldest) → k < length (map listed pairs) → get_or (map listed pairs) k oldest ≡ oldest → slice_get pairs k ≡ Some (oldest.path, first_of oldest)
found_listed [] k oldest below at = absurd (omega arith)
found_listed (pair ∷ pairs) zero oldest below at = ap (λ (o : Oldest). let p : List (List ℕ) × First = (o.path, first_of o) in Some p) at
found_listed (pair ∷ pairs) (suc k) oldest below at = found_listed pairs k oldest (omega arith) at

listed_found : (pairs : List (List (List ℕ) × First)) (k : ℕ) (oldest : Oldest) → slice_get pairs k ≡ Some (oldest.path, first_of oldest) → Contains (map listed pairs) oldest
listed_found [] k oldest at = absurd (let no : ⊥ = cc in no)
listed_found (pair ∷ pairs) zero oldest at = (0, omega arith, (let same : pair ≡ (oldest.path, first_of oldest) = cc in ap listed same))
listed_found (pair ∷ pairs) (suc k) oldest at = let there = listed_found pairs k oldest at in (suc there.0, omega (arith, there.1), there.2)

-- the entries of the map in order, listed
pub is_listed : (firsts : BTreeMap (List (List ℕ)) First) (list : List Oldest) → IsOrdered path_cmp firsts → list ≡ map listed firsts.entries → IsListed firsts list
is_listed firsts list ordered is = subst (IsListed firsts) (sym is) (record {
  rising = rising_listed firsts ordered;
  each = λ oldest. (
    λ has. btree_map_get_place path_cmp_total firsts has.0 oldest.path (first_of oldest) ordered (found_listed firsts.entries has.0 oldest has.1 has.2),
    λ found.
        let place = place_from_lookup (is_at (path_cmp oldest.path)) firsts.entries (first_of oldest) found in
        let same : oldest.path ≡ place.1 = exact_paths oldest.path place.1 place.3 in
        listed_found firsts.entries place.0 oldest (place.2 ∙ ap (λ (p : List (List ℕ)). let pair : List (List ℕ) × First = (p, first_of oldest) in Some pair) (sym same)),
  );
})

-- the entries that were read, all of them
are_sound : (m : Map) (gathered : Gathered) (whole : IsReadWhole m gathered) → AreSound m whole.so_far.entries
are_sound m gathered whole =
    let read = whole.so_far in
    record {
      counted = record {
        most = read.most;
        counts = read.counts;
        holds = λ place below. (read.sound place below).restores.holds;
        last = λ few. subst (λ (n : ℕ). n < 1000000 → ¬ (Counts m (n + 1))) read.noted.count whole.last few;
      };
      not_root = λ covers. let at = covers_place read.entries [] covers in (read.sound at.0 at.1).not_root at.2;
      outside = λ path covers. let at = covers_place read.entries path covers in subst IsOutside at.2 (read.sound at.0 at.1).restores.outside;
    }

oldest_covers : (entries : List Entry) (oldest : Oldest) → IsOldest entries oldest → Covers entries oldest.path
oldest_covers entries oldest is = subst (Covers entries) is.path (covers_at entries (oldest.number.0 - 1) (omega (arith, is.from_one, is.most)))

-- what is noted of a path that an entry has
noted_covered : (entries : List Entry) (path : List (List ℕ)) (note : Option First) → MatchOption note (¬ (Covers entries path)) (λ first. IsOldest entries (oldest_of path first)) → Covers entries path
    → (first : First) × (note ≡ Some first)
noted_covered entries path None none covers = absurd (none covers)
noted_covered entries path (Some first) is covers = (first, refl)

-- The plan is made of what was read.
pub is_gathered : (m : Map) (gathered : Gathered) (list : List Oldest) → IsReadWhole m gathered → IsListed gathered.firsts list → IsGathered (record { count = gathered.count; oldest = list }) m
is_gathered m gathered list whole is = record {
  entries = entries;
  sound = are_sound m gathered whole;
  count = noted.count;
  rising = is.rising;
  oldest = each;
  covers = λ path. (
    λ covers.
        let first = noted_covered entries path (get path_cmp gathered.firsts path) (noted.firsts path) covers in
        (oldest_of path first.0, ((is.each (oldest_of path first.0)).1 first.1, refl)),
    λ has. subst (Covers entries) has.1.1 (oldest_covers entries has.0 (each has.0 has.1.0)),
  );
}
  where
    entries : List Entry
    entries = whole.so_far.entries

    noted : AreNoted entries gathered
    noted = whole.so_far.noted

    each : (oldest : Oldest) → Contains list oldest → IsOldest entries oldest
    each oldest has = subst (λ note. MatchOption note (¬ (Covers entries oldest.path)) (λ first. IsOldest entries (oldest_of oldest.path first))) ((is.each oldest).0 has) (noted.firsts oldest.path)

pub gathered_told : (told : Option Told) (gathered : Gathered) (list : List Oldest) → OnTold told (λ s. IsReadWhole s.now gathered) → IsListed gathered.firsts list → OnTold told (λ s. IsGathered (record { count = gathered.count; oldest = list }) s.now)
gathered_told None gathered list whole is = tt
gathered_told (Some s) gathered list whole is = is_gathered s.now gathered list whole is
