use Rattle.std.proofs.Common.{arith, sym, subst}
use Rattle.std.specs.Str.{IsAscii}
use Rattle.inf_keys.specs.KeyText.{part_text}
use Rattle.inf_keys.specs.declared.words.Word.TheVariants as word
use Rattle.inf_keys.specs.Names.{property_name, provided_name, required_name, artifact_name}
use Rattle.inf_keys.proofs.AsciiLemmas.{single_ascii, property_ascii, provided_ascii, required_ascii, artifact_ascii, instruction_ascii, row_ascii}
use Rattle.inf_keys.proofs.write.push_part.Goals as goal

pub returns-in-Single-clause-ascii : goal.returns-in-Single-clause-ascii
returns-in-Single-clause-ascii c = subst (λ p. IsAscii (part_text p)) (sym c.in-Single.is) (single_ascii c.in-Single.single)

pub returns-in-Property-clause-ascii : goal.returns-in-Property-clause-ascii
returns-in-Property-clause-ascii c = subst (λ p. IsAscii (part_text p)) (sym c.in-Property.is) (row_ascii word.Properties c.in-Property.row (property_name c.in-Property.field) (omega arith) (property_ascii c.in-Property.field))

pub returns-in-Provided-clause-ascii : goal.returns-in-Provided-clause-ascii
returns-in-Provided-clause-ascii c = subst (λ p. IsAscii (part_text p)) (sym c.in-Provided.is) (row_ascii word.Provides c.in-Provided.row (provided_name c.in-Provided.field) (omega arith) (provided_ascii c.in-Provided.field))

pub returns-in-Required-clause-ascii : goal.returns-in-Required-clause-ascii
returns-in-Required-clause-ascii c = subst (λ p. IsAscii (part_text p)) (sym c.in-Required.is) (row_ascii word.Requires c.in-Required.row (required_name c.in-Required.field) (omega arith) (required_ascii c.in-Required.field))

pub returns-in-Artifact-clause-ascii : goal.returns-in-Artifact-clause-ascii
returns-in-Artifact-clause-ascii c = subst (λ p. IsAscii (part_text p)) (sym c.in-Artifact.is) (row_ascii word.Artifacts c.in-Artifact.row (artifact_name c.in-Artifact.field) (omega arith) (artifact_ascii c.in-Artifact.field))

pub returns-in-Instruction-clause-ascii : goal.returns-in-Instruction-clause-ascii
returns-in-Instruction-clause-ascii c = subst (λ p. IsAscii (part_text p)) (sym c.in-Instruction.is) (instruction_ascii c.in-Instruction.phase c.in-Instruction.field)
