use Rattle.std.proofs.Common.{subst}
use Rattle.std.specs.List.{Contains}
use Rattle.folder_memory.proofs.Images.{no_root_had, recorded}
use Rattle.folder_memory.proofs.history.History.synced.Goals as goal

pub set-requires : goal.set-requires
set-requires c =
    let h = c.args.self.now in
    let there = recorded c.as_slice.result.now c.synced_events-count.result c.loop-event.event-index c.event-item.result c.loop-event-test.true c.event-item.is in
    no_root_had h.events.items h.no_root c.in-Set.touch
    (subst (λ event. Contains h.events.items event) c.in-Set.is (subst (λ events. Contains events c.event-item.result) c.as_slice.ensures.value there))
