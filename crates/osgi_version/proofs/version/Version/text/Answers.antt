use Rattle.std.proofs.Common.{◌≡◌, ◌∙◌, sym}
use Rattle.osgi_version.specs.VersionText.{version_text}
use Rattle.osgi_version.proofs.VersionSpelling.{version_text-empty, version_text-qualified, reads_back}
use Rattle.osgi_version.proofs.version.Version.text.Goals as goal

-- what is written where the qualifier is empty
numbers : (c : goal.After-drop-numbers) → c.as_str.result.now ≡ version_text c.args.self.now
numbers c =
    let long = rw c.bytes.ensures.value at (sym c.if-is_empty.ensures) in
    c.as_str.ensures.value ∙ (c.in_ok-numbers.ensures.ok ∙ version_text-empty c.args.self.now long)

-- what is written with a qualifier
qualified : (c : goal.After-drop-numbers-2) → c.as_str-3.result.now ≡ version_text c.args.self.now
qualified c =
    let long = rw c.bytes.ensures.value at (sym c.if-is_empty.ensures) in
    let whole = rw (c.in_ok-numbers.ensures.ok, c.as_str-2.ensures) at c.in_ok-text.ensures.ok in
    c.as_str-3.ensures.value ∙ (whole ∙ version_text-qualified c.args.self.now long)

pub returns-then-is_empty-clause-canonical : goal.returns-then-is_empty-clause-canonical
returns-then-is_empty-clause-canonical c = rw (numbers c) at c.from_str.ensures

pub returns-then-is_empty-clause-reads_back : goal.returns-then-is_empty-clause-reads_back
returns-then-is_empty-clause-reads_back c = reads_back c.args.self.now c.from_str.result c.requires (rw (numbers c) at c.from_str.ensures)

pub returns-clause-canonical : goal.returns-clause-canonical
returns-clause-canonical c = rw (qualified c) at c.from_str-2.ensures

pub returns-clause-reads_back : goal.returns-clause-reads_back
returns-clause-reads_back c = reads_back c.args.self.now c.from_str-2.result c.requires (rw (qualified c) at c.from_str-2.ensures)
