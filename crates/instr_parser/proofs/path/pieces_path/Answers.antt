use Rattle.std.proofs.Common.{◌≡◌, filter, cond, Err, sym, ap, ◌∙◌, codes}
use Rattle.std.specs.Str.{bytes_eq}
use Rattle.std.proofs.lemmas.Result.{IfOk-weaker}
use Rattle.instr_text.specs.Cut.{seen}
use Rattle.instr_parser.specs.declared.form.Fault.TheVariants as fault
use Rattle.instr_parser.specs.Path.{is_kept, named_path, pieces_path}
use Rattle.instr_parser.proofs.Walks.{list_any-map}
use Rattle.instr_parser.proofs.path.pieces_path.Goals as goal

pub returns-then-leads_up : goal.returns-then-leads_up
returns-then-leads_up c =
    let up = list_any-map (λ piece. bytes_eq piece (codes "..")) (λ piece. piece.now) c.args.pieces.now ∙ (sym c.leads_up.ensures ∙ c.if-leads_up.true) in
    ap (λ b. cond b (Err fault.Outside) (named_path (filter is_kept (seen c.args.pieces.now)))) (sym up)

pub returns : goal.returns
returns c =
    let up = list_any-map (λ piece. bytes_eq piece (codes "..")) (λ piece. piece.now) c.args.pieces.now ∙ (sym c.leads_up.ensures ∙ c.if-leads_up.false) in
    let texts = ap seen c.deref.ensures.value ∙ c.in_ok-texts.ensures in
    let whole = ap named_path texts ∙ ap (λ b. cond b (Err fault.Outside) (named_path (filter is_kept (seen c.args.pieces.now)))) (sym up) in
    IfOk-weaker c.named_path.result (λ names. names ≡ named_path (seen c.deref.result.now)) (λ names. names ≡ pieces_path (seen c.args.pieces.now)) (λ names is. is ∙ whole) c.named_path.ensures
