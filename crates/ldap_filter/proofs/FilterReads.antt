-- What a reader has read of a text, and what follows where it stops.
use Rattle.std.proofs.Common.{◌≡◌, ℕ, ◌+◌, ◌<◌, Option, Some, None, option_map, List, length, get_or, take, ap, sym, subst, ◌∙◌, le_refl, take_all}
use Rattle.osgi_version.specs.Begins.{IsLongestBegin}
use Rattle.ldap_filter.specs.FilterText.{DenotesFilter, IsFilterText}
use Rattle.ldap_filter.specs.FilterSteps.{beginning, run, step, whole_in}
use Rattle.ldap_filter.specs.FilterScan.{part_in, IsScanAt}
use Rattle.ldap_filter.specs.FilterReading.{frames_in, seen, IsReadTo}
use Rattle.ldap_filter.specs.declared.filter.Filter.{Filter}
use Rattle.ldap_filter.specs.declared.reading.Reader.{Reader}
use Rattle.ldap_filter.proofs.FilterPlaces.{run-step, IsLongestBegin-stopped, IsLongestBegin-read, refused_beyond, refused_open, DenotesFilter-whole}

pub IsReadTo-next : (text : List ℕ) (at : ℕ) (r next : Reader) (o : Option Reader) → at < length text → IsReadTo text at r → o ≡ Some next → IsScanAt (at + 1) next.scan
    → option_map (seen text (at + 1)) o ≡ step (seen text at r) (get_or text at 0) → IsReadTo text (at + 1) next
IsReadTo-next text at r next o inside is same scanned steps = record {
  scanned = scanned;
  read = run-step text at (seen text at r) (seen text (at + 1) next) inside is.read (sym steps ∙ ap (option_map (seen text (at + 1))) same);
}

stuck : (text : List ℕ) (at : ℕ) (r : Reader) (o : Option Reader) → at < length text → IsReadTo text at r → o ≡ None → option_map (seen text (at + 1)) o ≡ step (seen text at r) (get_or text at 0)
    → IsLongestBegin IsFilterText text at
stuck text at r o inside is none steps =
    IsLongestBegin-stopped text at (seen text at r) inside is.read (sym steps ∙ ap (option_map (seen text (at + 1))) none)

pub refused_at : (text : List ℕ) (at : ℕ) (r : Reader) (o : Option Reader) → at < length text → IsReadTo text at r → o ≡ None → option_map (seen text (at + 1)) o ≡ step (seen text at r) (get_or text at 0)
    → (IsFilterText text → ⊥) × IsLongestBegin IsFilterText text at
refused_at text at r o inside is none steps =
    let longest = stuck text at r o inside is none steps in (refused_beyond text at longest inside, longest)

read_whole : (text : List ℕ) (at : ℕ) (r : Reader) → at ≡ length text → IsReadTo text at r → run text beginning ≡ Some (seen text (length text) r)
read_whole text at r all is =
    let here : run (take (length text) text) beginning ≡ Some (seen text (length text) r) = subst (λ n. run (take n text) beginning ≡ Some (seen text n r)) all is.read in
    ap (λ t. run t beginning) (sym (take_all (length text) text (le_refl (length text)))) ∙ here

pub whole_read : (text : List ℕ) (at : ℕ) (r : Reader) (f : Filter) → at ≡ length text → IsReadTo text at r → Some f ≡ whole_in (part_in text (length text) r.scan) (frames_in r) → DenotesFilter text f
whole_read text at r f all is whole = DenotesFilter-whole text (seen text (length text) r) f (read_whole text at r all is) (sym whole)

pub refused_end : (text : List ℕ) (at : ℕ) (r : Reader) → at ≡ length text → IsReadTo text at r → None ≡ whole_in (part_in text (length text) r.scan) (frames_in r)
    → (IsFilterText text → ⊥) × IsLongestBegin IsFilterText text (length text)
refused_end text at r all is none =
    let read = read_whole text at r all is in
    (refused_open text (seen text (length text) r) read (sym none), IsLongestBegin-read text (seen text (length text) r) read)
