-- What a reading of a file of the host finds.
use Rattle.std.specs.Prelude.{ℕ, ◌≤◌, length, ⊤}
use Rattle.host_adapters.specs.declared.host_tree.Found.{Found}
use Rattle.host_adapters.specs.declared.host_tree.Found.TheVariants.{Nothing, Whole, TooLarge}

-- what is found has at most so many bytes
abbrev pub HasAtMost : ℕ → Found → Type 0
HasAtMost limit Nothing = ⊤
HasAtMost limit (Whole blob) = length blob ≤ limit
HasAtMost limit TooLarge = ⊤
