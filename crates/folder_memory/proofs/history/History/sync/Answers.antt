use Rattle.std.proofs.Common.{◌≡◌, [], ◌∷◌, ◌++◌, sym, ◌∙◌, rules}
use Rattle.folder_memory.specs.declared.history.Event.TheVariants.{Sync}
use Rattle.folder_memory.proofs.Images.{no_root_sync}
use Rattle.folder_memory.proofs.States.{all_synced, stands_sync, touched_sync, none_there}
use Rattle.folder_memory.proofs.history.History.sync.Goals as goal

pub returns-then-is_empty-clause-synced : goal.returns-then-is_empty-clause-synced
returns-then-is_empty-clause-synced c =
    let none : c.args.self.now.touched.items ≡ [] = sym c.as_slice.ensures.value ∙ none_there c.as_slice.result.now (sym c.is_empty.ensures ∙ c.if-is_empty.true) in
    all_synced c.args.self.now.events.items (sym c.args.self.now.unsynced ∙ none)

pub invariant_of-self : goal.invariant_of-self
invariant_of-self c =
    let h = c.args.self.now in
    let events : c.push.new.self.items ≡ h.events.items ++ Sync ∷ [] = search rules in
    record {
      root_is = h.root_is;
      stands = stands_sync h.events.items c.push.new.self.items h.nodes events h.stands;
      unsynced = c.clear.ensures.items ∙ sym (touched_sync h.events.items c.push.new.self.items events);
      no_root = no_root_sync h.events.items c.push.new.self.items events h.no_root;
      room = λ some. absurd (some c.clear.ensures.items);
    }
