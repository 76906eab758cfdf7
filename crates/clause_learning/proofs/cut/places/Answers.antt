use Rattle.std.proofs.Common.{◌≡◌, ◌<◌, length, get_or, sym, ap, ◌∙◌, arith}
use Rattle.std.proofs.lemmas.List.{length-set}
use Rattle.pb_trail.specs.declared.trail.Entry.{Entry}
use Rattle.pb_trail.proofs.PassLaws.{entry_among}
use Rattle.clause_learning.proofs.MarkLaws.{ArePlaces-more}
use Rattle.clause_learning.proofs.cut.places.Goals as goal

pub index_mut-requires : goal.index_mut-requires
index_mut-requires c =
    let within : c.loop-place.place < length c.args.trail.now.entries.items = omega (arith, c.loop-place-test.true, c.len-place-end.ensures, c.args.trail.now.entries.ok.0) in
    let among = entry_among c.args.trail.now c.loop-place.place c.index.result.now c.requires.good within in
    let variable : (get_or c.args.trail.now.entries.items c.loop-place.place c.index.result.now).lit.variable ≡ c.index.result.now.lit.variable = ap (λ (e : Entry). e.lit.variable) (sym c.index.ensures) in
    omega (arith, variable, among.1, c.loop-place.invariant.size, c.loop-place.places.ok.0)

pub loop-place-preserved : goal.loop-place-preserved
loop-place-preserved c =
    let within : c.loop-place.place < length c.args.trail.now.entries.items = omega (arith, c.loop-place-test.true, c.len-place-end.ensures, c.args.trail.now.entries.ok.0) in
    record {
      size = length-set c.loop-place.places.items c.index.result.now.lit.variable c.loop-place.place ∙ c.loop-place.invariant.size;
      placed = ArePlaces-more c.args.trail.now.kept.constraints (length c.args.trail.now.kept.values) c.args.trail.now.entries.items c.loop-place.places.items c.loop-place.place c.index.result.now c.requires.good.are_steps within (sym c.index.ensures) c.loop-place.invariant.size c.loop-place.invariant.placed;
    }
