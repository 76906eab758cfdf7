use Rattle.std.proofs.Common.{◌≡◌, List, ℕ, ap, subst}
use Rattle.folder_core.specs.Step.{Step}
use Rattle.folder_core.specs.declared.node.Touch.{Touch}
use Rattle.backup_store.specs.KeepingAll.{TouchesOnly}
use Rattle.backup_store.proofs.filing.file_mark.Goals as goal

pub returns-clause-only : goal.returns-clause-only
returns-clause-only g c = subst (λ (p : List (List ℕ)). Step (g.F.Folder.told c.args.folder.now) (g.F.Folder.told c.put.new.folder) (TouchesOnly (λ place. place ≡ p))) (ap (λ (x : Touch). x.path) c.in_ok-touch.ensures) c.put.ensures.only
