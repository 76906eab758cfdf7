use Rattle.std.specs.Prelude.{ℕ, List, [], ◌∷◌, codes, Option, find, option_map}
use Rattle.std.specs.Str.{bytes_eq}
use Rattle.std.specs.Borrow.{Bor}
use Rattle.director_words.specs.declared.command.Syntax.{Syntax}
use Rattle.director_words.specs.declared.command.Verb.{Verb}
use Rattle.director_words.specs.declared.command.Verb.TheVariants.{Install, Remove, Update, SetEnv, Revert, Show, History, Verify, Recover, Check, Script, Trial}
use Rattle.director_words.specs.declared.command.Flags.{Flags}
use Rattle.director_words.specs.declared.command.Flags.TheVariants as flags
use Rattle.director_words.specs.declared.command.Operands.{Operands}
use Rattle.director_words.specs.declared.command.Operands.TheVariants as operands

abbrev pub syntax : Verb → Flags → Operands → Syntax
syntax verb flags operands = record { verb = verb; flags = flags; operands = operands }

-- a row of the table, as the code has it
abbrev pub row_of : Bor (List ℕ) × Verb × Flags × Operands → List ℕ × Syntax
row_of row = (row.0.now, syntax row.1 row.2 row.3)

-- The table of commands: the name, what the command does, the flags that it takes, and how many values beside them.
unfoldable pub commands : List (List ℕ × Syntax)
commands =
    (codes "install", syntax Install flags.Plan operands.Several)
    ∷ (codes "remove", syntax Remove flags.Plan operands.Several)
    ∷ (codes "update", syntax Update flags.Plan operands.Any)
    ∷ (codes "set", syntax SetEnv flags.Plan operands.Several)
    ∷ (codes "revert", syntax Revert flags.Profile operands.One)
    ∷ (codes "list", syntax Show flags.Profile operands.None)
    ∷ (codes "history", syntax History flags.Profile operands.None)
    ∷ (codes "verify", syntax Verify flags.None operands.None)
    ∷ (codes "recover", syntax Recover flags.None operands.None)
    ∷ (codes "check", syntax Check flags.None operands.None)
    ∷ (codes "script", syntax Script flags.None operands.None)
    ∷ (codes "trial", syntax Trial flags.None operands.One)
    ∷ []

-- the syntax that the first row of a name gives
abbrev pub named_in : List (List ℕ × Syntax) → List ℕ → Option Syntax
named_in rows name = option_map (λ row. row.1) (find (λ row. bytes_eq row.0 name) rows)

abbrev pub command_named : List ℕ → Option Syntax
command_named name = named_in commands name
