-- Where a text stops being the front of a version's text, and what a whole one denotes.
use Rattle.std.proofs.Common.{◌≡◌, ℕ, ◌+◌, ◌<◌, true, false, Some, None, option_and_then, List, [], ◌∷◌, ◌++◌, length, get_or, take, drop, refl, ap, sym, ◌∙◌, arith, append_assoc, append-nil, le_refl, take_all, take-take, take-append-drop, codes, lit≤}
use Rattle.std.proofs.lemmas.List.{take_more}
use Rattle.std.proofs.lemmas.List.Elements.{All-nil}
use Rattle.osgi_version.specs.VersionText.{Parts, Nothing, Major, Minor, Micro, Qualified, AreParts, version_of, DenotesVersion, IsVersionText, IsVersion, IsRaw}
use Rattle.osgi_version.specs.Begins.{Begins, IsLongestBegin}
use Rattle.osgi_version.specs.VersionSteps.{Progress, at_stage, beginning, step, is_whole}
use Rattle.osgi_version.specs.declared.version.Version.{Version}
use Rattle.osgi_version.proofs.VersionRuns.{run, run-append, run_then, run-white_before, Reads-denoted}
use Rattle.osgi_version.proofs.VersionProgress.{HasRead-text, HasRead-Begins, denoted_whole}

-- A text denotes one version at most.
pub DenotesVersion-unique : (text : List ℕ) (v w : Version) → DenotesVersion text v → DenotesVersion text w → v ≡ w
DenotesVersion-unique text v w one other =
    let first = Reads-denoted text v one in
    let second = Reads-denoted text w other in
    let both : Some (at_stage first.stage v) ≡ Some (at_stage second.stage w) = sym first.gives ∙ second.gives in
    let same : at_stage first.stage v ≡ at_stage second.stage w = cc in
    ap (λ (p : Progress). p.version) same

pub DenotesVersion-whole : (text : List ℕ) (p : Progress) → run text beginning ≡ Some p → is_whole p.stage ≡ true → DenotesVersion text p.version
DenotesVersion-whole text p e whole = denoted_whole p.stage p.version text whole (HasRead-text text p e)

pub Begins-read : (text : List ℕ) (p : Progress) → run text beginning ≡ Some p → Begins IsVersionText text
Begins-read text p e = HasRead-Begins p.stage p.version text (HasRead-text text p e)

-- a text that isn't read through begins no text of a version
unread : (front : List ℕ) → run front beginning ≡ None → ¬ (Begins IsVersionText front)
unread front e b =
    let reads = Reads-denoted (front ++ b.0) b.1.0 b.1.1 in
    let gives = reads.gives in
    let none : run (front ++ b.0) beginning ≡ None = run-append front b.0 beginning ∙ ap (option_and_then (run b.0)) e in
    cc

shorter : (front more : List ℕ) → Begins IsVersionText (front ++ more) → Begins IsVersionText front
shorter front more b = (more ++ b.0, (b.1.0, rw (← append_assoc front more b.0) b.1.1))

-- One byte more is read.
pub run-step : (text : List ℕ) (at : ℕ) (p q : Progress) → at < length text → run (take at text) beginning ≡ Some p → step p (get_or text at 0) ≡ Some q
    → run (take (at + 1) text) beginning ≡ Some q
run-step text at p q inside front stepped =
    rw (take_more text at 0 inside)
    (run_then (take at text) (get_or text at 0 ∷ []) beginning p (Some q) front (ap (option_and_then (run [])) stepped))

-- Where a step from a read front isn't there, the front is the longest.
pub IsLongestBegin-stopped : (text : List ℕ) (at : ℕ) (p : Progress) → at < length text → run (take at text) beginning ≡ Some p → step p (get_or text at 0) ≡ None
    → IsLongestBegin IsVersionText text at
IsLongestBegin-stopped text at p inside front stop =
    let none : run (take (at + 1) text) beginning ≡ None =
    rw (take_more text at 0 inside)
    (run_then (take at text) (get_or text at 0 ∷ []) beginning p None front (ap (option_and_then (run [])) stop)) in
    let past : ¬ (Begins IsVersionText (take (at + 1) text)) = unread (take (at + 1) text) none in
    record {
      within = omega arith;
      begins = Begins-read (take at text) p front;
      longest = λ n more fits b.
          let cut : take (at + 1) (take n text) ≡ take (at + 1) text = take-take (at + 1) n text (omega arith) in
          past (shorter (take (at + 1) text) (drop (at + 1) (take n text))
          (rw (← cut, take-append-drop (at + 1) (take n text)) b));
    }

-- Where the whole text is read, all of it is the longest.
pub IsLongestBegin-read : (text : List ℕ) (p : Progress) → run text beginning ≡ Some p → IsLongestBegin IsVersionText text (length text)
IsLongestBegin-read text p e = record {
  within = le_refl (length text);
  begins = rw (take_all (length text) text (le_refl (length text))) (Begins-read text p e);
  longest = λ n more fits b. omega arith;
}

-- A text that may not end where it does is no version's.
pub refused_open : (text : List ℕ) (p : Progress) → run text beginning ≡ Some p → is_whole p.stage ≡ false → ¬ (IsVersionText text)
refused_open text p e open' whole =
    let reads = Reads-denoted text whole.0 whole.1 in
    let same : Some p ≡ Some (at_stage reads.stage whole.0) = sym e ∙ reads.gives in
    let whole' = reads.whole in
    cc

-- A text that goes on behind its longest front is no version's.
pub refused_beyond : (text : List ℕ) (at : ℕ) → IsLongestBegin IsVersionText text at → at < length text → ¬ (IsVersionText text)
refused_beyond text at longest below whole =
    longest.longest (length text) below (le_refl _) ([], (whole.0, rw (append-nil (take (length text) text), take_all (length text) text (le_refl (length text))) whole.1))

-- A raw version's text is no version's text.
pub raw_refused : (text : List ℕ) (v : Version) → IsRaw text → ¬ (DenotesVersion text v)
raw_refused text v raw d =
    let none : run (raw.0 ++ (codes "raw:" ++ raw.1)) beginning ≡ None =
    run_then raw.0 (codes "raw:" ++ raw.1) beginning beginning None (run-white_before raw.0 raw.2) refl in
    let reads = Reads-denoted text v d in
    let gives : run text beginning ≡ Some (at_stage reads.stage v) = reads.gives in
    let none' : run text beginning ≡ None = rw raw.3 none in
    cc

-- What a text denotes has a text.
IsVersion-parts : (parts : Parts) → AreParts parts → IsVersion (version_of parts)
IsVersion-parts Nothing are = record { major = lit≤ tt; minor = lit≤ tt; micro = lit≤ tt; qualifier = All-nil _; short = lit≤ tt }
IsVersion-parts (Major a) are = record { major = are.small; minor = lit≤ tt; micro = lit≤ tt; qualifier = All-nil _; short = lit≤ tt }
IsVersion-parts (Minor a b) are = record { major = are.0.small; minor = are.1.small; micro = lit≤ tt; qualifier = All-nil _; short = lit≤ tt }
IsVersion-parts (Micro a b c) are = record { major = are.0.small; minor = are.1.small; micro = are.2.small; qualifier = All-nil _; short = lit≤ tt }
IsVersion-parts (Qualified a b c q) are =
    record { major = are.0.small; minor = are.1.small; micro = are.2.small; qualifier = are.3.each; short = are.3.short }

pub IsVersion-denoted : (text : List ℕ) (v : Version) → DenotesVersion text v → IsVersion v
IsVersion-denoted text v d = rw d.value (IsVersion-parts d.parts d.are_parts)
