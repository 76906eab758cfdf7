use Rattle.std.proofs.Common.{◌≡◌, ℕ, List, subst}
use Rattle.std.specs.Option.{SomeIff}
use Rattle.std.proofs.lemmas.Result.{IfOk-weaker}
use Rattle.folder_core.specs.Name.{IsName}
use Rattle.instr_parser.specs.Path.{name_of}
use Rattle.instr_parser.proofs.NameForms.{name_of-is}
use Rattle.instr_parser.proofs.path.name_of.Goals as goal

pub returns : goal.returns
returns c =
    IfOk-weaker c.new.result (λ name. SomeIff name (IsName c.in_ok-text.text) c.in_ok-text.text) (λ name. name ≡ name_of c.args.text.now)
    (λ name h. name_of-is c.args.text.now name c.utf8.text (subst (λ (t : List ℕ). SomeIff name (IsName t) t) c.in_ok-text.ensures h)) c.new.ensures
