use Rattle.std.proofs.Common.{◌≡◌, ◌⊎◌, ◌<◌, ℕ, [], get_or, codes}
use Rattle.install_journal.proofs.damage.stray_child.Given as goal

abbrev pub invariant-loop-name : goal.invariant-loop-name
invariant-loop-name g l = (place : ℕ) → place < l.name-index → (get_or l.names place [] ≡ codes "undo") ⊎ (get_or l.names place [] ≡ codes "e")
