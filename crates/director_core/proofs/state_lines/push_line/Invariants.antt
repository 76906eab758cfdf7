use Rattle.std.proofs.Common.{◌≡◌, ◌∷◌, ◌++◌, take, map}
use Rattle.std.specs.List.{flat_map}
use Rattle.director_core.proofs.state_lines.push_line.Given as goal

-- the words so far
abbrev pub invariant-loop-next : goal.invariant-loop-next
invariant-loop-next l =
    l.text.items ≡ (l.fn.text.items ++ l.word) ++ flat_map (λ w. 32 ∷ w) (map (λ w. w.now) (take l.next-index l.words))
