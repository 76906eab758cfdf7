use Rattle.std.proofs.Common.{◌+◌, take, drop, sym, ap, ◌∙◌}
use Rattle.inf_values.specs.Host.{named_by, host_from}
use Rattle.inf_values.proofs.HostLemmas.{host_from-at, host_from-none}
use Rattle.inf_values.proofs.host.host_of.Goals as goal

pub returns-in-Some-clause-value : goal.returns-in-Some-clause-value
returns-in-Some-clause-value c = λ read reads.
    let folder = c.args.folder.now in
    let at = c.loop-at.at in
    let version = sym (c.in_ok-version.ensures.value read reads) ∙ c.in-Some.is in
    c.in_ok-host.ensures.value
    ∙ sym (sym (c.loop-at.invariant read reads) ∙ (host_from-at read folder at c.loop-at-test.true
    ∙ ap (λ v. named_by (take at folder) v (host_from read (take (at + 1) folder) (drop (at + 1) folder))) version))

pub loop-at-preserved : goal.loop-at-preserved
loop-at-preserved c = λ read reads.
    let folder = c.args.folder.now in
    let at = c.loop-at.at in
    let version = sym (c.in_ok-version.ensures.value read reads) ∙ c.in_default.is in
    sym (host_from-at read folder at c.loop-at-test.true
    ∙ ap (λ v. named_by (take at folder) v (host_from read (take (at + 1) folder) (drop (at + 1) folder))) version)
    ∙ c.loop-at.invariant read reads

pub returns-clause-value : goal.returns-clause-value
returns-clause-value c = λ read reads.
    let folder = c.args.folder.now in
    let at = c.loop-at.at in
    sym (host_from-none read folder at (take at folder) c.loop-at-test.false) ∙ c.loop-at.invariant read reads
