use Rattle.std.proofs.Common.{sym, ◌∙◌, true≢false}
use Rattle.ldap_filter.specs.EnvPairs.{IsEnv}
use Rattle.ldap_filter.specs.EnvSeen.{pairs_seen}
use Rattle.ldap_filter.proofs.EnvLemmas.{found, passed}
use Rattle.ldap_filter.proofs.env.Env.get.Goals as goal

pub returns-then-eq_ignore_ascii_case : goal.returns-then-eq_ignore_ascii_case
returns-then-eq_ignore_ascii_case c =
    let items = c.deref-entry-items.ensures.value in
    let env : IsEnv (pairs_seen c.deref-entry-items.result.now) = rw items c.self.invariant in
    let same = rw c.bytes.ensures.value at (c.eq_ignore_ascii_case.ensures.test.0 c.if-eq_ignore_ascii_case.true) in
    let there = found c.deref-entry-items.result.now c.loop-entry.entry-index c.entry-item.result c.args.key.now c.loop-entry-test.true c.entry-item.is env same c.loop-entry.invariant in
    rw (← c.self.view_is, ← items) there

pub loop-entry-preserved : goal.loop-entry-preserved
loop-entry-preserved c =
    let items = c.deref-entry-items.ensures.value in
    let env : IsEnv (pairs_seen c.deref-entry-items.result.now) = rw items c.self.invariant in
    passed c.deref-entry-items.result.now c.loop-entry.entry-index c.entry-item.result c.args.key.now c.loop-entry-test.true c.entry-item.is env
    (λ same. true≢false (sym (c.eq_ignore_ascii_case.ensures.test.1 (rw c.bytes.ensures.value same)) ∙ c.if-eq_ignore_ascii_case.false)) c.loop-entry.invariant
