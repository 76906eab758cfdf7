-- What clap finds of a command's words, by its own stated function of a simple flat command.
use Rattle.std.specs.Prelude.{◌≡◌, ℕ, List, [], Some, codes, true, false, Bool, unwrap_or}
use Rattle.clap.specs.Lexer.{usize_max}
use Rattle.clap.specs.Words.{App, Row, Rule, all_of, first_of, fault_of, matches_of, new_app, new_rule, with_rule}
use Rattle.clap.specs.Simple.{on_top}
use Rattle.director_words.specs.declared.command.Syntax.{Syntax}
use Rattle.director_words.specs.declared.command.Flags.{Flags}
use Rattle.director_words.specs.declared.command.Flags.TheVariants as flags
use Rattle.director_words.specs.declared.command.Operands.{Operands}
use Rattle.director_words.specs.declared.command.Operands.TheVariants as operands
use Rattle.director_words.specs.declared.values.Values.{Values}

-- `-p` and `--profile`, required
abbrev pub profile_rule : Rule
profile_rule = record (new_rule (codes "profile")) { short = Some 112; long = Some (codes "profile"); required = true }

-- `-b` and `--budget`
abbrev pub budget_rule : Rule
budget_rule = record (new_rule (codes "budget")) { short = Some 98; long = Some (codes "budget") }

-- one value without a flag, required
abbrev pub value_rule : Rule
value_rule = record (new_rule (codes "value")) { required = true }

-- one value or more without a flag
abbrev pub values_rule : Bool → Rule
values_rule required = record (new_rule (codes "value")) {
  range = Some (record { start_inclusive = 1; end_inclusive = usize_max });
  required = required;
}

-- a command without help and version flags
abbrev pub flat_app : List ℕ → App
flat_app name = on_top (λ s. record s { disable_help_flag = true; disable_version_flag = true }) (new_app name)

abbrev pub with_flags : Flags → App → App
with_flags flags.None a = a
with_flags flags.Profile a = with_rule a profile_rule
with_flags flags.Plan a = with_rule (with_rule a profile_rule) budget_rule

abbrev pub with_operands : Operands → App → App
with_operands operands.None a = a
with_operands operands.One a = with_rule a value_rule
with_operands operands.Several a = with_rule a (values_rule true)
with_operands operands.Any a = with_rule a (values_rule false)

-- the command of this name and syntax
abbrev pub app_named : List ℕ → Syntax → App
app_named name syntax = with_operands syntax.operands (with_flags syntax.flags (flat_app name))

abbrev pub values_in : List Row → Values
values_in rows = record {
  profile = first_of (codes "profile") rows;
  budget = first_of (codes "budget") rows;
  operands = unwrap_or (all_of (codes "value") rows) [];
}

-- clap takes the words, of which the first is the command's name.
unfoldable pub IsTaken : List ℕ → Syntax → List (List ℕ) → Type 0
IsTaken name syntax words = fault_of (app_named name syntax) words ≡ []

-- what it finds of words that it takes
unfoldable pub values_found : List ℕ → Syntax → List (List ℕ) → Values
values_found name syntax words = values_in (matches_of (app_named name syntax) words)
