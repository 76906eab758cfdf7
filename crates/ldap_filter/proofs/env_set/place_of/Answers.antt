use Rattle.std.proofs.Common.{◌≡◌, ◌≤◌, length, sym, arith}
use Rattle.std.specs.Ordering.{nat_cmp}
use Rattle.std.specs.declared.cmp.Ordering.TheVariants.{Less, Equal, Greater}
use Rattle.std.specs.Cmp.Lexicographic.{slice_cmp}
use Rattle.ldap_filter.proofs.EnvPlaces.{IsPlace-found, IsPlace-absent, IsPlace-end, AreBelow-more}
use Rattle.ldap_filter.proofs.env_set.place_of.Goals as goal

pub returns-in-Equal : goal.returns-in-Equal
returns-in-Equal c =
    let equal : slice_cmp nat_cmp c.index-entries-place.result.key c.args.key.now ≡ Equal = rw c.bytes.ensures.value at (sym c.in-Equal.ensures) in
    IsPlace-found c.args.entries.now c.loop-place.place c.index-entries-place.result c.args.key.now c.loop-place-test.true c.index-entries-place.is c.loop-place.invariant equal

pub returns-in-Greater : goal.returns-in-Greater
returns-in-Greater c =
    let greater : slice_cmp nat_cmp c.index-entries-place.result.key c.args.key.now ≡ Greater = rw c.bytes.ensures.value at (sym c.in-Greater.ensures) in
    IsPlace-absent c.args.entries.now c.loop-place.place c.index-entries-place.result c.args.key.now c.loop-place-test.true c.index-entries-place.is c.loop-place.invariant greater

pub loop-place-preserved : goal.loop-place-preserved
loop-place-preserved c =
    let less : slice_cmp nat_cmp c.index-entries-place.result.key c.args.key.now ≡ Less = rw c.bytes.ensures.value at (sym c.in-Less.ensures) in
    AreBelow-more c.args.entries.now c.loop-place.place c.index-entries-place.result c.args.key.now c.loop-place-test.true c.index-entries-place.is c.loop-place.invariant less

pub returns : goal.returns
returns c =
    let past : length c.args.entries.now ≤ c.loop-place.place = omega arith in
    IsPlace-end c.args.entries.now c.args.key.now c.loop-place.place past c.loop-place.invariant
