use Rattle.std.proofs.Common.{◌≡◌, ℕ, ◌≤◌, true, false, Some, List, take, length, sym, subst, arith, le_refl, take_all}
use Rattle.osgi_version.specs.VersionText.{DenotesVersion, IsVersionText}
use Rattle.osgi_version.specs.VersionSteps.{beginning, is_whole}
use Rattle.osgi_version.specs.VersionReading.{progress_in, version_in}
use Rattle.osgi_version.specs.declared.reading.Reading.{Reading}
use Rattle.osgi_version.proofs.VersionRuns.{run}
use Rattle.osgi_version.proofs.VersionViews.{version_in-take}
use Rattle.osgi_version.proofs.VersionPlaces.{run-step, IsLongestBegin-stopped, IsLongestBegin-read, DenotesVersion-whole, refused_open}
use Rattle.osgi_version.proofs.reading.read_front.Goals as goal

pub loop-at-preserved : goal.loop-at-preserved
loop-at-preserved c =
    let text = c.args.text.now in (
      run-step text c.loop-at.at (progress_in text c.loop-at.reading) (progress_in text c.in-Some.next) c.loop-at-test.true c.loop-at.invariant.0 (sym c.in-Some.ensures.steps),
      c.in-Some.ensures.reading,
    )

pub returns-in_default-clause-longest : goal.returns-in_default-clause-longest
returns-in_default-clause-longest c =
    let text = c.args.text.now in
    IsLongestBegin-stopped text c.loop-at.at (progress_in text c.loop-at.reading) c.loop-at-test.true c.loop-at.invariant.0 (sym c.in_default.ensures.steps)

pub returns-in_default-clause-whole : goal.returns-in_default-clause-whole
returns-in_default-clause-whole c whole =
    let text = c.args.text.now in
    rw (version_in-take text c.loop-at.at c.loop-at.reading c.loop-at.invariant.1)
    (DenotesVersion-whole (take c.loop-at.at text) (progress_in text c.loop-at.reading) c.loop-at.invariant.0 whole)

pub returns-in_default-clause-open_end : goal.returns-in_default-clause-open_end
returns-in_default-clause-open_end c part =
    refused_open (take c.loop-at.at c.args.text.now) (progress_in c.args.text.now c.loop-at.reading) c.loop-at.invariant.0 part

-- the loop went to the end

pub returns-clause-longest : goal.returns-clause-longest
returns-clause-longest c =
    let text = c.args.text.now in
    let all : length text ≤ c.loop-at.at = omega arith in
    IsLongestBegin-read text (progress_in text c.loop-at.reading) (rw take_all at c.loop-at.invariant.0)

all_of : (text : List ℕ) → text ≡ take (length text) text
all_of text = sym (take_all (length text) text (le_refl (length text)))

whole_read : (text : List ℕ) (r : Reading) → run text beginning ≡ Some (progress_in text r) → is_whole r.stage ≡ true
    → DenotesVersion (take (length text) text) (version_in (take (length text) text) r)
whole_read text r read whole =
    subst (λ (t : List ℕ). DenotesVersion t (version_in t r)) (all_of text) (DenotesVersion-whole text (progress_in text r) read whole)

open_read : (text : List ℕ) (r : Reading) → run text beginning ≡ Some (progress_in text r) → is_whole r.stage ≡ false
    → ¬ (IsVersionText (take (length text) text))
open_read text r read part =
    subst (λ (t : List ℕ). ¬ (IsVersionText t)) (all_of text) (refused_open text (progress_in text r) read part)

pub returns-clause-whole : goal.returns-clause-whole
returns-clause-whole c whole =
    let text = c.args.text.now in
    let all : length text ≤ c.loop-at.at = omega arith in
    whole_read text c.loop-at.reading (rw take_all at c.loop-at.invariant.0) whole

pub returns-clause-open_end : goal.returns-clause-open_end
returns-clause-open_end c part =
    let text = c.args.text.now in
    let all : length text ≤ c.loop-at.at = omega arith in
    open_read text c.loop-at.reading (rw take_all at c.loop-at.invariant.0) part
