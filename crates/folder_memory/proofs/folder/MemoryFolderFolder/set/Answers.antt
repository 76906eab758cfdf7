use Rattle.std.proofs.Common.{sym, ◌∙◌}
use Rattle.std.specs.Option.{option_copied}
use Rattle.std.proofs.lemmas.Grind.{merely}
use Rattle.folder_core.specs.Formed.{IsFormed-had}
use Rattle.folder_core.specs.declared.node.Touch.{Touch}
use Rattle.folder_core.proofs.Maps.{pushed_or_not}
use Rattle.folder_memory.specs.State.{state_of}
use Rattle.folder_memory.proofs.Standing.{formed_kept, formed_put, elsewhere_set, contains_set, touches_set, elapses_set, now_kept}
use Rattle.folder_memory.proofs.folder.MemoryFolderFolder.set.Goals as goal

-- a set that fails puts what stands there

pub invariant_of-self-then-next : goal.invariant_of-self-then-next
invariant_of-self-then-next c =
    let events = c.args.self.now.history.events.items in
    let touch : Touch = record { path = c.args.path.now; node = option_copied c.as_ref.result } in
    record {
      formed = merely (formed_kept events c.set.new.self.events.items touch (pushed_or_not c.set.result c.set.ensures.ok c.set.ensures.err)
          (c.as_ref.ensures.value ∙ c.in_ok-there.ensures ∙ sym c.node.ensures) (IsFormed-had (state_of events).now c.args.self.now.formed));
    }

pub returns-then-next-clause-elsewhere : goal.returns-then-next-clause-elsewhere
returns-then-next-clause-elsewhere c = elsewhere_set c.args.self.now.history.events.items c.set.new.self.events.items (record { path = c.args.path.now; node = option_copied c.as_ref.result }) c.in_ok-set.ensures.ok

pub returns-then-next-clause-touched : goal.returns-then-next-clause-touched
returns-then-next-clause-touched c _ = contains_set c.args.self.now.history.events.items c.set.new.self.events.items (record { path = c.args.path.now; node = option_copied c.as_ref.result }) c.in_ok-set.ensures.ok

pub returns-then-next-clause-crash : goal.returns-then-next-clause-crash
returns-then-next-clause-crash c = touches_set c.args.self.now.history.events.items c.set.new.self.events.items (record { path = c.args.path.now; node = option_copied c.as_ref.result }) c.in_ok-set.ensures.ok

pub returns-then-next-clause-time : goal.returns-then-next-clause-time
returns-then-next-clause-time c = elapses_set c.args.self.now.history.events.items c.set.new.self.events.items (record { path = c.args.path.now; node = option_copied c.as_ref.result }) c.in_ok-set.ensures.ok

-- a set that is done

pub invariant_of-self-2 : goal.invariant_of-self-2
invariant_of-self-2 c =
    let events = c.args.self.now.history.events.items in
    let touch : Touch = record { path = c.args.path.now; node = option_copied c.args.node } in
    record {
      formed = merely (formed_put events c.set-2.new.self.events.items touch (pushed_or_not c.set-2.result c.set-2.ensures.ok c.set-2.ensures.err)
          (IsFormed-had (state_of events).now c.args.self.now.formed) c.requires.place c.set-2.ensures.path c.requires.node c.requires.small);
    }

pub returns-clause-elsewhere : goal.returns-clause-elsewhere
returns-clause-elsewhere c = elsewhere_set c.args.self.now.history.events.items c.set-2.new.self.events.items (record { path = c.args.path.now; node = option_copied c.args.node }) c.in_ok-set-2.ensures.ok

pub returns-clause-touched : goal.returns-clause-touched
returns-clause-touched c _ = contains_set c.args.self.now.history.events.items c.set-2.new.self.events.items (record { path = c.args.path.now; node = option_copied c.args.node }) c.in_ok-set-2.ensures.ok

pub returns-clause-crash : goal.returns-clause-crash
returns-clause-crash c = touches_set c.args.self.now.history.events.items c.set-2.new.self.events.items (record { path = c.args.path.now; node = option_copied c.args.node }) c.in_ok-set-2.ensures.ok

pub returns-clause-time : goal.returns-clause-time
returns-clause-time c = elapses_set c.args.self.now.history.events.items c.set-2.new.self.events.items (record { path = c.args.path.now; node = option_copied c.args.node }) c.in_ok-set-2.ensures.ok

pub returns-then-next-clause-failed : goal.returns-then-next-clause-failed
returns-then-next-clause-failed c =
    now_kept c.args.self.now.history.events.items c.set.new.self.events.items (record { path = c.args.path.now; node = option_copied c.as_ref.result }) c.in_ok-set.ensures.ok
    (c.as_ref.ensures.value ∙ c.in_ok-there.ensures ∙ sym c.node.ensures)
