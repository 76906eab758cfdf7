use Rattle.std.proofs.Common.{◌≡◌, ◌++◌, List, ℕ, length, ◌∙◌, ap, arith}
use Rattle.backup_store.specs.EntryText.{entry_text}
use Rattle.backup_store.proofs.Texts.{entry_short}
use Rattle.backup_store.proofs.writing.write_entry.Goals as goal

pub unreachable-requires : goal.unreachable-requires
unreachable-requires c =
    let entry = c.args.entry.now in
    let short = entry_short entry.path entry.before c.in_ok-push_entry.ensures.entry in
    let same : length c.from_vec.result ≡ length (entry_text entry.path entry.before) =
    ap length (c.from_vec.ensures ∙ c.in_ok-push_entry.ensures.text ∙ ap (λ (l : List ℕ). l ++ entry_text entry.path entry.before) c.new-text.ensures.items) in
    c.in-None.ensures (omega (arith, short, same))
