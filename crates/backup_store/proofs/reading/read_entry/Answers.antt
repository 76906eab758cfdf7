use Rattle.backup_store.specs.Parts.{IsPathField, IsNoPathField, IsNodeText, IsNoNodeText}
use Rattle.backup_store.proofs.Fronts.{match_none, match_some}
use Rattle.backup_store.proofs.Readings.{no_entry_head, no_entry_line, no_entry_path, no_entry_node, entry_found}
use Rattle.backup_store.proofs.reading.read_entry.Goals as goal

pub returns-in_default : goal.returns-in_default
returns-in_default c = no_entry_head c.args.bytes.now c.in_default.ensures

pub returns-in_default-split_line : goal.returns-in_default-split_line
returns-in_default-split_line c = no_entry_line c.args.bytes.now c.in-Some.rest.now c.in-Some.ensures c.in_default-split_line.ensures.none

pub returns-in_default-2 : goal.returns-in_default-2
returns-in_default-2 c =
    let lines = c.in-Some-split_line in
    let line = lines.field.now in
    no_entry_path c.args.bytes.now c.in-Some.rest.now line lines.node.now c.in-Some.ensures lines.ensures.parts lines.ensures.line
    (match_none (IsNoPathField line) (IsPathField line) c.in_ok-path.field-0 c.in_default-2.is c.in_ok-path.ensures)

pub returns-in-Some-3 : goal.returns-in-Some-3
returns-in-Some-3 c =
    let lines = c.in-Some-split_line in
    let line = lines.field.now in
    let node = lines.node.now in
    entry_found c.args.bytes.now c.in-Some.rest.now line node c.in-Some-2.path c.in-Some-3.before c.in-Some.ensures lines.ensures.parts
    (match_some (IsNoPathField line) (IsPathField line) c.in_ok-path.field-0 c.in-Some-2.path c.in-Some-2.is c.in_ok-path.ensures)
    (match_some (IsNoNodeText node) (IsNodeText node) c.in_ok-before.field-0 c.in-Some-3.before c.in-Some-3.is c.in_ok-before.ensures)

pub returns-in-None : goal.returns-in-None
returns-in-None c =
    let lines = c.in-Some-split_line in
    let node = lines.node.now in
    no_entry_node c.args.bytes.now c.in-Some.rest.now lines.field.now node c.in-Some.ensures lines.ensures.parts lines.ensures.line
    (match_none (IsNoNodeText node) (IsNodeText node) c.in_ok-before.field-0 c.in-None.is c.in_ok-before.ensures)
