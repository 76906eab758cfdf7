use Rattle.std.proofs.Common.{◌≡◌, drop}
use Rattle.instr_text.specs.Cut.{seen}
use Rattle.instr_parser.specs.Path.{all_names}
use Rattle.instr_parser.proofs.NameForms.{names_with}
use Rattle.instr_parser.proofs.path.all_names.Given as goal

-- the names so far, and those of the texts that are left
abbrev pub invariant-loop-text : goal.invariant-loop-text
invariant-loop-text l = names_with l.names (all_names (seen (drop l.text-index l.texts))) ≡ all_names (seen l.texts)
