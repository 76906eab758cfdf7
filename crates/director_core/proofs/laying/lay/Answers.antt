use Rattle.std.proofs.Common.{List, subst, arith, rules}
use Rattle.std.specs.Option.{option_copied}
use Rattle.std.specs.Result.{IsErrOf}
use Rattle.folder_core.specs.Step.{Step}
use Rattle.folder_core.specs.declared.fault.FolderError.TheVariants.{NoMemory}
use Rattle.folder_core.specs.declared.node.Touch.{Touch}
use Rattle.director_core.specs.Laid.{IsBegun, SameElsewhere}
use Rattle.director_core.proofs.Layings.{set_as, front_laid, kept_elsewhere, rest_laid, nodes_left, begun}
use Rattle.director_core.proofs.laying.lay.Goals as goal

pub loop-touch-preserved : goal.loop-touch-preserved
loop-touch-preserved g c =
    let told = g.F.Folder.told in
    let old = told c.args.folder.now in
    let mid = told c.loop-touch.folder in
    let new = told c.set.new.self in
    let touches = c.items-touches.result.now in
    let place = c.loop-touch.touch-index in
    let touch = c.touch-item.result in
    let inside = c.loop-touch-test.true in
    let inv = c.loop-touch.invariant in
    let put = set_as mid new touch.path (option_copied c.as_ref.result) touch.node c.as_ref.ensures.value c.in_ok-set.ensures.ok in
    record {
      rest = rest_laid old mid new touches place touch inside c.touch-item.is inv.rest put;
      front = front_laid old mid new touches place touch inside c.touch-item.is inv.front put;
      elsewhere = kept_elsewhere old mid new touches place touch inside c.touch-item.is inv.elsewhere c.set.ensures.elsewhere;
      nodes = nodes_left touches place touch inside c.touch-item.is inv.nodes;
      later = omega (arith, inv.later, c.set.ensures.cause.later);
    }

pub returns-in_err-set-clause-elsewhere : goal.returns-in_err-set-clause-elsewhere
returns-in_err-set-clause-elsewhere g c =
    let told = g.F.Folder.told in
    let old = told c.args.folder.now in
    let new = told c.set.new.self in
    let P : List Touch → Type 0 = λ touches. Step old new (λ s t. SameElsewhere touches s.now t.now) in
    subst P c.items-touches.ensures (kept_elsewhere old (told c.loop-touch.folder) new c.items-touches.result.now c.loop-touch.touch-index c.touch-item.result
    c.loop-touch-test.true c.touch-item.is c.loop-touch.invariant.elsewhere c.set.ensures.elsewhere)

pub returns-in_err-set-clause-no_memory : goal.returns-in_err-set-clause-no_memory
returns-in_err-set-clause-no_memory g c = λ none.
    let told = g.F.Folder.told in
    let old = told c.args.folder.now in
    let new = told c.set.new.self in
    let P : List Touch → Type 0 = λ touches. Step old new (λ s t. IsBegun touches s.now t.now) in
    let refused : IsErrOf c.set.result NoMemory = first_of (search rules, cc) in
    subst P c.items-touches.ensures (begun old (told c.loop-touch.folder) new c.items-touches.result.now c.loop-touch.touch-index
    c.loop-touch-test.true c.loop-touch.invariant.front (c.set.ensures.no_memory refused))
