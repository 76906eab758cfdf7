use Rattle.std.proofs.Common.{◌≡◌, ℕ, ◌<◌, ◌≤◌, ◌≢◌, List, length, take, sym, subst, arith, take_all}
use Rattle.osgi_version.specs.VersionText.{IsVersionText}
use Rattle.osgi_version.proofs.VersionPlaces.{refused_beyond}
use Rattle.osgi_version.proofs.reading.read.Goals as goal
use Rattle.osgi_version.proofs.reading.read.Goals.{else-front-text-via-then-front-text+else-is_whole, else-front-text-via-else-front-text}

refused_all : (text : List ℕ) (end : ℕ) → end ≡ length text → ¬ (IsVersionText (take end text)) → ¬ (IsVersionText text)
refused_all text end all refused = subst (λ (t : List ℕ). ¬ (IsVersionText t)) (take_all end text (omega arith)) refused

below_all : (text : List ℕ) (end : ℕ) → end ≤ length text → end ≢ length text → end < length text
below_all text end within other = omega arith

pub returns-else-front-text-clause-refused : goal.returns-else-front-text-clause-refused
returns-else-front-text-clause-refused c =
    let text = c.args.text.now in
    let front = c.read_front-front in
    elim c.else-front-text.branch [
      | else-front-text-via-then-front-text+else-is_whole w ↦
          (refused_all text front.result.end w.if-front-text.true (front.ensures.open_end (sym w.if-is_whole.ensures)), front.ensures.longest)
      | else-front-text-via-else-front-text w ↦
          (refused_beyond text front.result.end front.ensures.longest (below_all text front.result.end front.ensures.longest.within w.if-front-text.false), front.ensures.longest)
    ]
