use Rattle.std.proofs.Common.{◌≡◌, ◌++◌, take}
use Rattle.p2_planner.proofs.roots.all_roots.Given as goal

-- the strict ones, and the optional ones so far
abbrev pub invariant-loop-root : goal.invariant-loop-root
invariant-loop-root l = l.roots ≡ l.strict ++ take l.root-index l.optional
