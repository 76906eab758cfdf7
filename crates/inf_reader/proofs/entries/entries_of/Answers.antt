use Rattle.std.proofs.Common.{◌+◌, ◌<◌, ◌≤◌, Option, None, Ok, Vec, Global, length, drop, option_map, sym, ap, ◌∙◌, append-nil, arith}
use Rattle.std.proofs.lemmas.Result.{err_from_is_err_and}
use Rattle.unit_model.specs.declared.name.UnitName.{UnitName}
use Rattle.inf_keys.specs.KeyReading.{key_reading}
use Rattle.inf_reader.specs.declared.entries.Entry.{Entry}
use Rattle.inf_reader.specs.Entries.{Pair, entries_of}
use Rattle.inf_reader.proofs.Steps.{Refuses-along, with_front}
use Rattle.inf_reader.proofs.EntryLemmas.{entry_taken, entry_refused, entries_of-none}
use Rattle.inf_reader.proofs.entries.entries_of.Goals as goal
use Rattle.inf_reader.proofs.entries.entries_of.Goals.{in-Some-2+in_ok-push, in_default-2}

pub returns-in_err-entry : goal.returns-in_err-entry
returns-in_err-entry c =
    let host : Option UnitName = option_map (λ h. h.now) c.args.host in
    let pairs = c.args.pairs.now in
    let pair : Pair = (c.in-Some.key.now, c.in-Some.value.now) in
    let inside : c.loop-place.place < length pairs = omega arith in
    let p = err_from_is_err_and c.from_residual.result c.from_residual.ensures.1 in
    rw (p.1, p.2) (Refuses-along c.in_err-entry.field-0.0 _ (entries_of key_reading host pairs) c.in_err-entry.ensures
    (λ r h. sym c.loop-place.invariant ∙ entry_refused key_reading host c.loop-place.entries.items pairs c.loop-place.place pair r inside c.in-Some.ensures h))

pub loop-place-preserved : goal.loop-place-preserved
loop-place-preserved c =
    let host : Option UnitName = option_map (λ h. h.now) c.args.host in
    let pairs = c.args.pairs.now in
    let found = c.loop-place.entries.items in
    let pair : Pair = (c.in-Some.key.now, c.in-Some.value.now) in
    let inside : c.loop-place.place < length pairs = omega arith in
    let rest = entries_of key_reading host (drop (c.loop-place.place + 1) pairs) in
    elim c.match-branch-2.branch [
      | in-Some-2+in_ok-push w ↦
          let read = c.in_ok-entry.ensures ∙ ap Ok w.in-Some-2.is in
          let step = entry_taken key_reading host found pairs c.loop-place.place pair _ inside c.in-Some.ensures read in
          ap (λ (v : Vec Entry Global). with_front v.items rest) w.entries-is ∙ (ap (λ xs. with_front xs rest) w.in_ok-push.ensures.items ∙ (sym step ∙ c.loop-place.invariant))
      | in_default-2 w ↦
          let read = c.in_ok-entry.ensures ∙ ap Ok w.in_default-2.is in
          let step = entry_taken key_reading host found pairs c.loop-place.place pair None inside c.in-Some.ensures read in
          ap (λ (v : Vec Entry Global). with_front v.items rest) w.entries-is ∙ (ap (λ xs. with_front xs rest) (sym (append-nil found)) ∙ (sym step ∙ c.loop-place.invariant))
    ]

pub returns : goal.returns
returns c =
    let host : Option UnitName = option_map (λ h. h.now) c.args.host in
    let past : length c.args.pairs.now ≤ c.loop-place.place = omega arith in
    sym c.loop-place.invariant ∙ entries_of-none key_reading host c.loop-place.entries.items c.args.pairs.now c.loop-place.place past
