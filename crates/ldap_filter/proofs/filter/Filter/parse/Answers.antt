use Rattle.std.proofs.Common.{◌≡◌, length, inl, ap, Ok, arith}
use Rattle.ldap_filter.specs.FilterText.{DenotesFilter}
use Rattle.ldap_filter.proofs.FilterPlaces.{DenotesFilter-unique}
use Rattle.ldap_filter.proofs.FilterReads.{IsReadTo-next, refused_at, whole_read, refused_end}
use Rattle.ldap_filter.proofs.filter.Filter.parse.Goals as goal

pub loop-at-preserved : goal.loop-at-preserved
loop-at-preserved c =
    IsReadTo-next c.args.text.now c.loop-at.at c.loop-at.reader c.in-Some.next _ c.loop-at-test.true c.loop-at.invariant c.in-Some.is
    (rw c.in-Some.is at c.in_ok-next.ensures.scanned) c.in_ok-next.ensures.steps

pub returns-in-None-clause-refused : goal.returns-in-None-clause-refused
returns-in-None-clause-refused c =
    refused_at c.args.text.now c.loop-at.at c.loop-at.reader _ c.loop-at-test.true c.loop-at.invariant c.in-None.is c.in_ok-next.ensures.steps

pub returns-in-None-clause-only : goal.returns-in-None-clause-only
returns-in-None-clause-only c = λ f denotes.
    absurd ((refused_at c.args.text.now c.loop-at.at c.loop-at.reader _ c.loop-at-test.true c.loop-at.invariant c.in-None.is c.in_ok-next.ensures.steps).0 (f, denotes))

pub returns-in-Some-whole-clause-found : goal.returns-in-Some-whole-clause-found
returns-in-Some-whole-clause-found c =
    let all : c.loop-at.at ≡ length c.args.text.now = omega arith in
    whole_read c.args.text.now c.loop-at.at c.loop-at.reader c.in-Some-whole.filter all c.loop-at.invariant c.in-Some-whole.ensures

pub returns-in-Some-whole-clause-form : goal.returns-in-Some-whole-clause-form
returns-in-Some-whole-clause-form c =
    let all : c.loop-at.at ≡ length c.args.text.now = omega arith in
    (c.args.text.now, whole_read c.args.text.now c.loop-at.at c.loop-at.reader c.in-Some-whole.filter all c.loop-at.invariant c.in-Some-whole.ensures)

pub returns-in-Some-whole-clause-only : goal.returns-in-Some-whole-clause-only
returns-in-Some-whole-clause-only c = λ f denotes.
    let all : c.loop-at.at ≡ length c.args.text.now = omega arith in
    let found : DenotesFilter c.args.text.now c.in-Some-whole.filter = whole_read c.args.text.now c.loop-at.at c.loop-at.reader c.in-Some-whole.filter all c.loop-at.invariant c.in-Some-whole.ensures in
    inl (ap Ok (DenotesFilter-unique c.args.text.now c.in-Some-whole.filter f found denotes))

pub returns-in-None-whole-clause-refused : goal.returns-in-None-whole-clause-refused
returns-in-None-whole-clause-refused c =
    let all : c.loop-at.at ≡ length c.args.text.now = omega arith in
    refused_end c.args.text.now c.loop-at.at c.loop-at.reader all c.loop-at.invariant c.in-None-whole.ensures

pub returns-in-None-whole-clause-only : goal.returns-in-None-whole-clause-only
returns-in-None-whole-clause-only c = λ f denotes.
    let all : c.loop-at.at ≡ length c.args.text.now = omega arith in
    absurd ((refused_end c.args.text.now c.loop-at.at c.loop-at.reader all c.loop-at.invariant c.in-None-whole.ensures).0 (f, denotes))
