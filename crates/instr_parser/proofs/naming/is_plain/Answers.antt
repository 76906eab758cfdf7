use Rattle.std.proofs.Common.{◌||◌, sym, ap, ◌∙◌}
use Rattle.instr_text.specs.Cut.{seen}
use Rattle.instr_parser.specs.Naming.{is_that, imported, is_imported}
use Rattle.instr_parser.proofs.Walks.{list_any-map}
use Rattle.instr_parser.proofs.naming.is_plain.Goals as goal

pub returns-else-is_native : goal.returns-else-is_native
returns-else-is_native c =
    c.is_imported.ensures
    ∙ (sym (list_any-map (λ import. is_that c.args.kind (imported import)) (λ import. import.now) c.args.imports.now)
    ∙ ap (λ native. native || is_imported (seen c.args.imports.now) c.args.kind) (sym c.if-is_native.false))
