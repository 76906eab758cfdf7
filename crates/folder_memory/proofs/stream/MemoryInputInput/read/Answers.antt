use Rattle.std.proofs.Common.{ℕ, List, drop, ◌∙◌, ap, subst}
use Rattle.std.proofs.lemmas.List.{drop-drop}
use Rattle.folder_core.specs.Stream.{Reads}
use Rattle.folder_memory.proofs.stream.MemoryInputInput.read.Goals as goal

pub returns-clause-taken : goal.returns-clause-taken
returns-clause-taken c =
    let count = c.fill-count.result in
    let into = c.fill-count.new.into in
    let taken = c.args.self.now.taken in
    let bytes = c.args.self.now.bytes in
    let left = c.split_at.ensures.back ∙ ap (λ (l : List ℕ). drop taken l) c.items.ensures in
    let reads = subst (λ (l : List ℕ). Reads count into l (drop count l)) left c.fill-count.ensures.reads in
    subst (λ (l : List ℕ). Reads count into (drop taken bytes) l) (drop-drop count taken bytes) reads
