use Rattle.std.proofs.Common.{◌≡◌, ℕ, List, [], ◌∷◌, ◌++◌, Some, get_or, arith, sym, ◌∙◌, ap, subst, below_more}
use Rattle.folder_core.specs.Folder.{Map, IsKid}
use Rattle.folder_core.specs.Name.{AreThose}
use Rattle.folder_core.specs.Node.{entries_path}
use Rattle.folder_core.specs.Step.{OnTold}
use Rattle.folder_core.specs.declared.node.Node.TheVariants.{Dir}
use Rattle.install_journal.specs.Preparing.{Moves}
use Rattle.install_journal.proofs.Clearings.{can_clear, inside_entries, directory_stays, gone_stays, gone_here, all_gone, loses_same, loses_then, spares_same, spares_then}
use Rattle.install_journal.proofs.Damages.{name_at}
use Rattle.install_journal.proofs.Opens.{looks_of}
use Rattle.install_journal.proofs.Preparings.{looked_on, looks_move, set_moves, both_move, still_prepared, one_closed, closed_then}
use Rattle.install_journal.proofs.preparing.clear_entries.Goals as goal

pub set-requires-clause-place : goal.set-requires-clause-place
set-requires-clause-place g c =
    can_clear (g.F.Folder.told c.args.folder.now) (g.F.Folder.told c.loop-name.folder) c.args.entries.now c.in_ok-child.field-0 c.name-item.result c.requires.entries c.in_ok-child.ensures c.requires.flat c.loop-name.invariant.loses (g.met.F.Folder.image_now c.loop-name.folder) c.loop-name.invariant.directory

pub loop-name-init : goal.loop-name-init
loop-name-init g c =
    let cause = c.kids.ensures.cause in
    record {
      moves = (looks_move g.F.Folder.told g.F.Folder.left_since c.args.folder.now c.kids.new.self (looks_of g.F.Folder.told g.F.Folder.left_since c.args.folder.now c.kids.new.self c.kids.ensures.stays c.kids.ensures.unsynced c.kids.ensures.untouched c.kids.ensures.time));
      leaves = (one_closed g.F.Folder.told g.F.Folder.left_since c.args.folder.now c.kids.new.self c.requires.prepared (g.met.F.Folder.only_now c.args.folder.now) (looks_move g.F.Folder.told g.F.Folder.left_since c.args.folder.now c.kids.new.self (looks_of g.F.Folder.told g.F.Folder.left_since c.args.folder.now c.kids.new.self c.kids.ensures.stays c.kids.ensures.unsynced c.kids.ensures.untouched c.kids.ensures.time)) c.kids.ensures.time);
      later = cause.later;
      kids = subst (λ (l : List (List ℕ)). OnTold (g.F.Folder.told c.args.folder.now) (λ s. AreThose (IsKid s.now c.args.entries.now) l)) (sym c.items-names.ensures) c.in_ok-names.ensures.kids;
      loses = loses_same (g.F.Folder.told c.args.folder.now) (g.F.Folder.told c.kids.new.self) c.kids.ensures.stays;
      spares = spares_same (g.F.Folder.told c.args.folder.now) (g.F.Folder.told c.kids.new.self) c.kids.ensures.stays;
      directory = looked_on g.F.Folder.told g.F.Folder.left_since c.args.folder.now c.kids.new.self (λ (m : Map). m entries_path ≡ Some Dir) (looks_of g.F.Folder.told g.F.Folder.left_since c.args.folder.now c.kids.new.self c.kids.ensures.stays c.kids.ensures.unsynced c.kids.ensures.untouched c.kids.ensures.time) c.requires.directory;
      gone = λ place below. absurd (omega arith);
    }

pub loop-name-preserved : goal.loop-name-preserved
loop-name-preserved g c =
    let inv = c.loop-name.invariant in
    let cause = c.set-in-loop-name.ensures.cause in
    let name : c.name-item.result ≡ get_or c.items-names.result.now c.loop-name.name-index [] = name_at c.items-names.result.now c.loop-name.name-index c.name-item.result c.loop-name-test.true c.name-item.is in
    record {
      moves = both_move g.F.Folder.told g.F.Folder.left_since c.args.folder.now c.loop-name.folder c.set-in-loop-name.new.self inv.moves (set_moves g.F.Folder.told g.F.Folder.left_since c.loop-name.folder c.set-in-loop-name.new.self c.in_ok-child.field-0 (inside_entries c.args.entries.now c.in_ok-child.field-0 c.name-item.result c.requires.entries c.in_ok-child.ensures) c.set-in-loop-name.ensures.crash c.set-in-loop-name.ensures.elsewhere);
      leaves = closed_then g.F.Folder.told g.F.Folder.left_since c.args.folder.now c.loop-name.folder c.set-in-loop-name.new.self inv.moves inv.leaves Moves (set_moves g.F.Folder.told g.F.Folder.left_since c.loop-name.folder c.set-in-loop-name.new.self c.in_ok-child.field-0 (inside_entries c.args.entries.now c.in_ok-child.field-0 c.name-item.result c.requires.entries c.in_ok-child.ensures) c.set-in-loop-name.ensures.crash c.set-in-loop-name.ensures.elsewhere) (one_closed g.F.Folder.told g.F.Folder.left_since c.loop-name.folder c.set-in-loop-name.new.self (still_prepared g.F.Folder.told g.F.Folder.left_since c.args.folder.now c.loop-name.folder c.requires.prepared c.loop-name.invariant.moves) (g.met.F.Folder.only_now c.loop-name.folder) (set_moves g.F.Folder.told g.F.Folder.left_since c.loop-name.folder c.set-in-loop-name.new.self c.in_ok-child.field-0 (inside_entries c.args.entries.now c.in_ok-child.field-0 c.name-item.result c.requires.entries c.in_ok-child.ensures) c.set-in-loop-name.ensures.crash c.set-in-loop-name.ensures.elsewhere) c.set-in-loop-name.ensures.time);
      later = omega (arith, inv.later, cause.later);
      kids = inv.kids;
      loses = loses_then (g.F.Folder.told c.args.folder.now) (g.F.Folder.told c.loop-name.folder) (g.F.Folder.told c.set-in-loop-name.new.self) c.in_ok-child.field-0 inv.loses c.in_ok-set.ensures.ok;
      spares = spares_then (g.F.Folder.told c.args.folder.now) (g.F.Folder.told c.loop-name.folder) (g.F.Folder.told c.set-in-loop-name.new.self) c.args.entries.now c.in_ok-child.field-0 c.name-item.result c.requires.entries c.in_ok-child.ensures c.loop-name.invariant.spares c.set-in-loop-name.ensures.elsewhere;
      directory = directory_stays (g.F.Folder.told c.loop-name.folder) (g.F.Folder.told c.set-in-loop-name.new.self) c.args.entries.now c.in_ok-child.field-0 c.name-item.result c.requires.entries c.in_ok-child.ensures inv.directory c.set-in-loop-name.ensures.elsewhere;
      gone = below_more _ _ (λ place below. gone_stays (g.F.Folder.told c.loop-name.folder) (g.F.Folder.told c.set-in-loop-name.new.self) (c.args.entries.now ++ get_or c.items-names.result.now place [] ∷ []) c.in_ok-child.field-0 (inv.gone place below) c.in_ok-set.ensures.ok)
          (gone_here (g.F.Folder.told c.loop-name.folder) (g.F.Folder.told c.set-in-loop-name.new.self) (c.args.entries.now ++ get_or c.items-names.result.now c.loop-name.name-index [] ∷ []) c.in_ok-child.field-0 (ap (λ (n : List ℕ). c.args.entries.now ++ n ∷ []) (sym name) ∙ sym c.in_ok-child.ensures) c.in_ok-set.ensures.ok);
    }

pub returns-in_err-names-clause-moves : goal.returns-in_err-names-clause-moves
returns-in_err-names-clause-moves g c =
    looks_move g.F.Folder.told g.F.Folder.left_since c.args.folder.now c.kids.new.self (looks_of g.F.Folder.told g.F.Folder.left_since c.args.folder.now c.kids.new.self c.kids.ensures.stays c.kids.ensures.unsynced c.kids.ensures.untouched c.kids.ensures.time)

pub returns-in_err-names-clause-leaves : goal.returns-in_err-names-clause-leaves
returns-in_err-names-clause-leaves g c =
    one_closed g.F.Folder.told g.F.Folder.left_since c.args.folder.now c.kids.new.self c.requires.prepared (g.met.F.Folder.only_now c.args.folder.now) (looks_move g.F.Folder.told g.F.Folder.left_since c.args.folder.now c.kids.new.self (looks_of g.F.Folder.told g.F.Folder.left_since c.args.folder.now c.kids.new.self c.kids.ensures.stays c.kids.ensures.unsynced c.kids.ensures.untouched c.kids.ensures.time)) c.kids.ensures.time

pub returns-in_err-set-clause-moves : goal.returns-in_err-set-clause-moves
returns-in_err-set-clause-moves g c =
    both_move g.F.Folder.told g.F.Folder.left_since c.args.folder.now c.loop-name.folder c.set-in-loop-name.new.self c.loop-name.invariant.moves (set_moves g.F.Folder.told g.F.Folder.left_since c.loop-name.folder c.set-in-loop-name.new.self c.in_ok-child.field-0 (inside_entries c.args.entries.now c.in_ok-child.field-0 c.name-item.result c.requires.entries c.in_ok-child.ensures) c.set-in-loop-name.ensures.crash c.set-in-loop-name.ensures.elsewhere)

pub returns-in_err-set-clause-leaves : goal.returns-in_err-set-clause-leaves
returns-in_err-set-clause-leaves g c =
    closed_then g.F.Folder.told g.F.Folder.left_since c.args.folder.now c.loop-name.folder c.set-in-loop-name.new.self c.loop-name.invariant.moves c.loop-name.invariant.leaves Moves (set_moves g.F.Folder.told g.F.Folder.left_since c.loop-name.folder c.set-in-loop-name.new.self c.in_ok-child.field-0 (inside_entries c.args.entries.now c.in_ok-child.field-0 c.name-item.result c.requires.entries c.in_ok-child.ensures) c.set-in-loop-name.ensures.crash c.set-in-loop-name.ensures.elsewhere) (one_closed g.F.Folder.told g.F.Folder.left_since c.loop-name.folder c.set-in-loop-name.new.self (still_prepared g.F.Folder.told g.F.Folder.left_since c.args.folder.now c.loop-name.folder c.requires.prepared c.loop-name.invariant.moves) (g.met.F.Folder.only_now c.loop-name.folder) (set_moves g.F.Folder.told g.F.Folder.left_since c.loop-name.folder c.set-in-loop-name.new.self c.in_ok-child.field-0 (inside_entries c.args.entries.now c.in_ok-child.field-0 c.name-item.result c.requires.entries c.in_ok-child.ensures) c.set-in-loop-name.ensures.crash c.set-in-loop-name.ensures.elsewhere) c.set-in-loop-name.ensures.time)

pub returns-clause-cleared : goal.returns-clause-cleared
returns-clause-cleared g c =
    all_gone (g.F.Folder.told c.args.folder.now) (g.F.Folder.told c.loop-name.folder) c.args.entries.now c.items-names.result.now c.loop-name.name-index c.requires.entries (g.met.F.Folder.image_now c.args.folder.now) c.loop-name.invariant.kids c.loop-name.invariant.loses c.loop-name.invariant.gone c.loop-name-test.false c.loop-name.invariant.directory

pub returns-in_err-names-clause-spares : goal.returns-in_err-names-clause-spares
returns-in_err-names-clause-spares g c = spares_same (g.F.Folder.told c.args.folder.now) (g.F.Folder.told c.kids.new.self) c.kids.ensures.stays

pub returns-in_err-set-clause-spares : goal.returns-in_err-set-clause-spares
returns-in_err-set-clause-spares g c =
    spares_then (g.F.Folder.told c.args.folder.now) (g.F.Folder.told c.loop-name.folder) (g.F.Folder.told c.set-in-loop-name.new.self) c.args.entries.now c.in_ok-child.field-0 c.name-item.result c.requires.entries c.in_ok-child.ensures c.loop-name.invariant.spares c.set-in-loop-name.ensures.elsewhere
