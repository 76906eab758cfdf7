use Rattle.std.proofs.Common.{inl, ap, Ok}
use Rattle.osgi_version.proofs.RangeSpelling.{DenotesRange-unique, DenotesRange-read, IsRange-denoted, raw_no_range}
use Rattle.osgi_version.proofs.range.Range.parse.Goals as goal

pub returns-then-is_raw-clause-only : goal.returns-then-is_raw-clause-only
returns-then-is_raw-clause-only c = λ r denotes. absurd (raw_no_range c.args.text.now r (c.is_raw.ensures.0 c.if-is_raw.true) denotes)

pub returns-in_ok-range_of-in-Ok-clause-found : goal.returns-in_ok-range_of-in-Ok-clause-found
returns-in_ok-range_of-in-Ok-clause-found c = DenotesRange-read c.args.text.now c.in-Ok.reading _ c.in-Ok.ensures.found c.in_ok-range_of-in-Ok.ensures

pub returns-in_ok-range_of-in-Ok-clause-form : goal.returns-in_ok-range_of-in-Ok-clause-form
returns-in_ok-range_of-in-Ok-clause-form c =
    IsRange-denoted c.args.text.now _ (DenotesRange-read c.args.text.now c.in-Ok.reading _ c.in-Ok.ensures.found c.in_ok-range_of-in-Ok.ensures)

pub returns-in_ok-range_of-in-Ok-clause-only : goal.returns-in_ok-range_of-in-Ok-clause-only
returns-in_ok-range_of-in-Ok-clause-only c = λ r denotes.
    inl (ap Ok (DenotesRange-unique c.args.text.now _ r (DenotesRange-read c.args.text.now c.in-Ok.reading _ c.in-Ok.ensures.found c.in_ok-range_of-in-Ok.ensures) denotes))
