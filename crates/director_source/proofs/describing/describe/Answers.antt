use Rattle.std.proofs.Common.{◌≡◌, ℕ, List, Result, Ok, Err, sym, ap, subst, ◌∙◌}
use Rattle.props_reader.specs.Gives.{Gives as PropsGives}
use Rattle.props_reader.specs.PairsOf.{Pair, pairs_of}
use Rattle.props_reader.specs.declared.fault.PropsFault.{PropsFault}
use Rattle.unit_model.specs.declared.unit.Unit.{Unit}
use Rattle.inf_reader.specs.Gives.{Gives}
use Rattle.inf_reader.specs.UnitsOf.{units_of}
use Rattle.director_words.specs.declared.source_why.SourceWhy.TheVariants.{Line}
use Rattle.director_words.specs.declared.status.Status.{Status}
use Rattle.director_words.specs.declared.status.Status.TheVariants.{SourceRefused}
use Rattle.director_source.specs.SourceStop.{StopsReading}
use Rattle.director_source.proofs.Gatherings.{Describes, described_ok, described_line, refusal_stops}
use Rattle.director_source.proofs.describing.describe.Goals as goal

pub returns-in-Err-BadEscape-clause-refused : goal.returns-in-Err-BadEscape-clause-refused
returns-in-Err-BadEscape-clause-refused c = λ read reads.
    let bytes = c.args.bytes.now in
    let P : Result (List Pair) PropsFault → Type 0 = λ r. PropsGives (λ (pairs : List Pair). pairs) r (pairs_of bytes) in
    let refused : pairs_of bytes ≡ Err c.in-Err-BadEscape.line = subst P (c.in-Err-BadEscape.is ∙ ap Err c.in-Err-BadEscape.field-0-is) c.read.ensures.exact in
    let copied = c.in_ok-folder-in-Err-BadEscape.ensures ∙ c.text.ensures.value in
    rw c.in-Err-BadEscape.field-0-is (described_line read c.args.folder.now bytes c.in-Err-BadEscape.line refused ∙ ap (λ (f : List ℕ). Err (SourceRefused f (Line c.in-Err-BadEscape.line))) (sym copied))

pub returns-in-Ok-units_of-clause-found : goal.returns-in-Ok-units_of-clause-found
returns-in-Ok-units_of-clause-found c = λ read reads.
    let pairs = c.in-Ok.pairs in
    let folder = c.bytes.ensures.value ∙ c.text-2.ensures.value in
    let P : List ℕ → Type 0 = λ f. units_of read f pairs ≡ Ok c.in-Ok-units_of.units in
    described_ok read c.args.folder.now c.args.bytes.now pairs c.in-Ok-units_of.units c.in-Ok.ensures.exact (subst P folder (c.in-Ok-units_of.ensures.exact read reads))

pub returns-clause-refused : goal.returns-clause-refused
returns-clause-refused c =
    let pairs = c.in-Ok.pairs in
    let bytes = c.args.bytes.now in
    let folder = c.bytes.ensures.value ∙ c.text-2.ensures.value in
    let P : Status → Type 0 = StopsReading (λ s. Describes c.args.folder.now bytes (Err s)) ⊥ in
    subst P (sym c.in_ok-refusal_status-in-Err.ensures)
    (refusal_stops c.args.folder.now bytes pairs c.in-Ok.ensures.exact c.in-Err.refusal
    (λ read reads. let Q : List ℕ → Type 0 = λ f. Gives (λ (units : List Unit). units) (Err c.in-Err.refusal) (units_of read f pairs) in subst Q folder (c.in-Err.ensures.exact read reads)))
