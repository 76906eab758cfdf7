use Rattle.std.specs.Prelude.{◌≡◌, ℕ, ◌≤◌, List, [], ◌∷◌, Option, Some, None, All, slice_get, ⊤}
use Rattle.unit_model.specs.Profile.{IsProfile}
use Rattle.director_words.specs.Command.{command_named}
use Rattle.director_words.specs.Number.{DenotesNumber}
use Rattle.director_words.specs.Pair.{IsPair}
use Rattle.director_words.specs.Root.{IsRootWord}
use Rattle.director_words.specs.Values.{IsTaken, values_found}
use Rattle.director_words.specs.declared.command.Syntax.{Syntax}
use Rattle.director_words.specs.declared.command.Verb.{Verb}
use Rattle.director_words.specs.declared.command.Verb.TheVariants as verb
use Rattle.director_words.specs.declared.values.Values.{Values}
use Rattle.director_words.specs.declared.request.Request.{Request}
use Rattle.director_words.specs.declared.request.Request.TheVariants.{Install, Remove, Update, SetEnv, Revert, Show, History, Verify, Recover, Check, Script, Trial}

abbrev pub HasProfile : Values → List ℕ → Type 0
HasProfile values profile = (values.profile ≡ Some profile) × IsProfile profile

-- from 1 to 50,000, and 10,000 where no word names it
abbrev pub DenotesBudget : Option (List ℕ) → ℕ → Type 0
DenotesBudget None budget = budget ≡ 10000
DenotesBudget (Some word) budget = DenotesNumber word budget × (1 ≤ budget) × (budget ≤ 50000)

abbrev pub HasOperands : (List ℕ → Type 0) → Values → List (List ℕ) → Type 0
HasOperands Form values words = (words ≡ values.operands) × All Form words

-- a profile, a budget, and words that each have a form
abbrev pub HasPlan : (List ℕ → Type 0) → Values → List ℕ → ℕ → List (List ℕ) → Type 0
HasPlan Form values profile budget words =
    HasProfile values profile × DenotesBudget values.budget budget × HasOperands Form values words

-- the only word is this number
abbrev pub HasNumber : Values → ℕ → Type 0
HasNumber values number = (word : List ℕ) × (values.operands ≡ word ∷ []) × DenotesNumber word number

-- the values are those of the request
abbrev pub HasValues : Values → Request → Type 0
HasValues values (Install profile budget roots) = HasPlan IsRootWord values profile budget roots
HasValues values (Remove profile budget roots) = HasPlan IsRootWord values profile budget roots
HasValues values (Update profile budget roots) = HasPlan IsRootWord values profile budget roots
HasValues values (SetEnv profile budget pairs) = HasPlan IsPair values profile budget pairs
HasValues values (Revert profile number) = HasProfile values profile × HasNumber values number
HasValues values (Show profile) = HasProfile values profile
HasValues values (History profile) = HasProfile values profile
HasValues values Verify = ⊤
HasValues values Recover = ⊤
HasValues values Check = ⊤
HasValues values Script = ⊤
HasValues values (Trial size) = HasNumber values size × (1 ≤ size) × (size ≤ 4096)

abbrev pub verb_of : Request → Verb
verb_of (Install profile budget roots) = verb.Install
verb_of (Remove profile budget roots) = verb.Remove
verb_of (Update profile budget roots) = verb.Update
verb_of (SetEnv profile budget pairs) = verb.SetEnv
verb_of (Revert profile number) = verb.Revert
verb_of (Show profile) = verb.Show
verb_of (History profile) = verb.History
verb_of Verify = verb.Verify
verb_of Recover = verb.Recover
verb_of Check = verb.Check
verb_of Script = verb.Script
verb_of (Trial size) = verb.Trial

-- The words ask for this: the first names its command, clap takes them for that command, and finds its values.
pub record Asks (words : List (List ℕ)) (request : Request) : Type 0 where
  pub name : List ℕ
  pub syntax : Syntax
  pub first : slice_get words 0 ≡ Some name
  pub command : command_named name ≡ Some syntax
  pub verb : verb_of request ≡ syntax.verb
  pub taken : IsTaken name syntax words
  pub values : HasValues (values_found name syntax words) request
