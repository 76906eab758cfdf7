use Rattle.std.proofs.Common.{◌≡◌, ◌++◌, drop}
use Rattle.native_actions.specs.Copied.{set_paths}
use Rattle.native_actions.proofs.copy.set_paths.Given as goal

abbrev pub invariant-loop-step : goal.invariant-loop-step
invariant-loop-step l = set_paths l.steps ≡ l.paths ++ set_paths (drop l.step-index l.steps)
