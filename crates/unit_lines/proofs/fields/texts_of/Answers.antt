use Rattle.std.proofs.Common.{[]}
use Rattle.unit_lines.proofs.WordLemmas.{no_texts, texts_more}
use Rattle.unit_lines.proofs.fields.texts_of.Goals as goal

pub returns-in-None : goal.returns-in-None
returns-in-None c = λ xs utf8 e.
    no_texts xs c.args.fields.now c.loop-field.field-index (record { ref_ptr = (0, 0); now = [] }) c.loop-field-test.true (rw c.in-None.is at c.in_ok-text.ensures) utf8 e

pub loop-field-preserved : goal.loop-field-preserved
loop-field-preserved c =
    texts_more c.loop-field.texts c.push.new.self c.in-Some.text c.args.fields.now c.loop-field.field-index (record { ref_ptr = (0, 0); now = [] }) c.loop-field-test.true
    c.in_ok-push-in-Some.ensures.ok (rw c.in-Some.is at c.in_ok-text.ensures) c.loop-field.invariant
