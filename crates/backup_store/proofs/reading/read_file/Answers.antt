use Rattle.std.proofs.Common.{◌≡◌, codes, sym, ◌∙◌, subst}
use Rattle.folder_core.specs.declared.node.Node.TheVariants.{File}
use Rattle.backup_store.specs.Parts.{IsNodeBehind}
use Rattle.backup_store.proofs.Bools.{not_true, is_true}
use Rattle.backup_store.proofs.Readings.{no_file_mode, no_file_line, no_file_count, file_found}
use Rattle.backup_store.proofs.reading.read_file.Goals as goal

pub returns-in_default : goal.returns-in_default
returns-in_default c = no_file_mode c.args.bytes.now c.in_default.ensures.none

pub returns-in_default-split_line : goal.returns-in_default-split_line
returns-in_default-split_line c = no_file_line c.args.bytes.now c.in-Some.rest.now c.in-Some.mode c.in-Some.ensures.parts c.in_default-split_line.ensures.none

pub returns-then-not-branch : goal.returns-then-not-branch
returns-then-not-branch c =
    no_file_count c.args.bytes.now c.in-Some.rest.now c.in-Some-split_line.count.now c.in-Some-split_line.content.now c.in-Some.mode c.in-Some.ensures.parts c.in-Some-split_line.ensures.parts c.in-Some-split_line.ensures.line
    (λ both. not_true c.in_ok-is_count_of.field-0 c.if-not-branch.true (c.in_ok-is_count_of.ensures.1 both))

pub returns : goal.returns
returns c =
    let parts = c.in-Some-split_line in
    let counted = c.in_ok-is_count_of.ensures.0 (is_true c.in_ok-is_count_of.field-0 c.if-not-branch.false) in
    let same : parts.content.now ≡ c.in-Some-new.blob = sym (c.in-Some-new.ensures.1 ∙ c.from_vec.ensures ∙ c.in_ok-from_slice.ensures.items) in
    subst (λ b. IsNodeBehind (codes "file ") c.args.bytes.now (File c.in-Some.mode b)) same
    (file_found c.args.bytes.now c.in-Some.rest.now parts.count.now parts.content.now c.in-Some.mode c.in-Some.ensures.mode c.in-Some.ensures.parts parts.ensures.parts counted.0 counted.1)
