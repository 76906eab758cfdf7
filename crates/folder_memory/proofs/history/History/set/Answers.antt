use Rattle.std.proofs.Common.{◌≡◌, ℕ, List, [], ◌∷◌, ◌++◌, refl, sym, ◌∙◌, ap, arith, rules}
use Rattle.std.specs.Option.{option_copied}
use Rattle.folder_core.specs.Folder.{set_at}
use Rattle.folder_core.specs.declared.node.Node.TheVariants.{Dir}
use Rattle.folder_core.specs.declared.node.Touch.{Touch}
use Rattle.folder_memory.specs.Nodes.{map_of}
use Rattle.folder_memory.specs.State.{state_of}
use Rattle.folder_memory.specs.declared.history.Event.{Event}
use Rattle.folder_memory.specs.declared.history.Event.TheVariants.{Set}
use Rattle.folder_memory.proofs.Images.{no_root_same, no_root_set}
use Rattle.folder_memory.proofs.States.{stands_same, stands_set, touched_set}
use Rattle.folder_memory.proofs.history.History.set.Goals as goal

pub invariant_of-self : goal.invariant_of-self
invariant_of-self c =
    let h = c.args.self.now in
    record {
      root_is = h.root_is;
      stands = stands_same h.events.items c.reserve.new.self.items h.nodes h.nodes c.reserve.ensures.items refl h.stands;
      unsynced = h.unsynced ∙ ap (λ (es : List Event). (state_of es).touched) (sym c.reserve.ensures.items);
      no_root = no_root_same h.events.items c.reserve.new.self.items c.reserve.ensures.items h.no_root;
      room = λ some. omega (arith, h.room some, c.reserve.ensures.len, c.reserve.ensures.capacity);
    }

pub invariant_of-self-in-Break-branch-5 : goal.invariant_of-self-in-Break-branch-5
invariant_of-self-in-Break-branch-5 c =
    let h = c.args.self.now in
    record {
      root_is = h.root_is;
      stands = stands_same h.events.items c.reserve.new.self.items h.nodes h.nodes c.reserve.ensures.items refl h.stands;
      unsynced = c.reserve-2.ensures.items ∙ h.unsynced ∙ ap (λ (es : List Event). (state_of es).touched) (sym c.reserve.ensures.items);
      no_root = no_root_same h.events.items c.reserve.new.self.items c.reserve.ensures.items h.no_root;
      room = λ some. omega (arith, h.room (λ none. some (c.reserve-2.ensures.items ∙ none)), c.reserve.ensures.len, c.reserve.ensures.capacity);
    }

pub invariant_of-self-in-Break-branch-6 : goal.invariant_of-self-in-Break-branch-6
invariant_of-self-in-Break-branch-6 c =
    let h = c.args.self.now in
    record {
      root_is = h.root_is;
      stands = stands_same h.events.items c.reserve.new.self.items h.nodes c.place.new.nodes c.reserve.ensures.items (c.in_err-place.ensures.err Dir) h.stands;
      unsynced = c.reserve-2.ensures.items ∙ h.unsynced ∙ ap (λ (es : List Event). (state_of es).touched) (sym c.reserve.ensures.items);
      no_root = no_root_same h.events.items c.reserve.new.self.items c.reserve.ensures.items h.no_root;
      room = λ some. omega (arith, h.room (λ none. some (c.reserve-2.ensures.items ∙ none)), c.reserve.ensures.len, c.reserve.ensures.capacity);
    }

pub invariant_of-self-2 : goal.invariant_of-self-2
invariant_of-self-2 c =
    let h = c.args.self.now in
    let touch : Touch = record { path = c.in_ok-copied_path.field-0; node = c.in_ok-copied.field-0 } in
    let events : c.push-2.new.self.items ≡ h.events.items ++ Set touch ∷ [] = search rules in
    let touched : c.push.new.self.items ≡ h.touched.items ++ c.in_ok-touched.touched ∷ [] = search rules in
    record {
      root_is = h.root_is;
      stands = stands_set h.events.items c.push-2.new.self.items h.nodes c.place.new.nodes touch events
          (c.in_ok-place.ensures.ok Dir ∙ ap (λ (p : List (List ℕ)). set_at (map_of Dir h.nodes) p (option_copied c.args.node)) (sym c.in_ok-copied_path.ensures.copy) ∙ ap (λ n. set_at (map_of Dir h.nodes) c.in_ok-copied_path.field-0 n) (sym c.in_ok-copied.ensures))
          h.stands;
      unsynced = touched ∙ ap (λ (l : List (List (List ℕ))). l ++ c.in_ok-touched.touched ∷ []) h.unsynced
          ∙ ap (λ (p : List (List ℕ)). (state_of h.events.items).touched ++ p ∷ []) (c.in_ok-touched.ensures ∙ sym c.in_ok-copied_path.ensures.copy)
          ∙ sym (touched_set h.events.items c.push-2.new.self.items touch events);
      no_root = no_root_set h.events.items c.push-2.new.self.items touch events (λ none. c.requires (sym c.in_ok-copied_path.ensures.copy ∙ none)) h.no_root;
      room = λ some. omega (arith, c.in_ok-reserve.ensures.ok, c.push-2.ensures.upper_bound, c.push-2.ensures.capacity);
    }
