use Rattle.std.proofs.Common.{None, List, ℕ, Option, subst}
use Rattle.folder_core.specs.Folder.{Map}
use Rattle.folder_core.specs.Step.{OnTold}
use Rattle.install_journal.specs.Overlay.{SameOutside}
use Rattle.install_journal.specs.Firsts.{Finds}
use Rattle.install_journal.specs.Preparing.{Moves, IsDamage}
use Rattle.install_journal.proofs.Beginnings.{on_ok, undamaged_each, prepared_shut, moves_stay, closed_restored, looks_closed, outside_then, open_then}
use Rattle.install_journal.proofs.Preparings.{looks_move, both_move, still_prepared, closed_then, looked_on}
use Rattle.install_journal.proofs.beginning.begin_synced.Goals as goal

pub returns-in-Ok-Some-clause-stays : goal.returns-in-Ok-Some-clause-stays
returns-in-Ok-Some-clause-stays g c =
    moves_stay g.F.Folder.told g.F.Folder.left_since c.args.folder.now c.find_damage.new.folder (looks_move g.F.Folder.told g.F.Folder.left_since c.args.folder.now c.find_damage.new.folder c.find_damage.ensures.looks)

pub returns-in-Ok-Some-clause-leaves : goal.returns-in-Ok-Some-clause-leaves
returns-in-Ok-Some-clause-leaves g c =
    closed_restored g.F.Folder.told g.F.Folder.left_since c.args.folder.now c.find_damage.new.folder (looks_closed g.F.Folder.told g.F.Folder.left_since c.args.folder.now c.find_damage.new.folder c.requires.prepared (g.met.F.Folder.only_now c.args.folder.now) c.find_damage.ensures.looks)

pub returns-in-Ok-Some-clause-shut : goal.returns-in-Ok-Some-clause-shut
returns-in-Ok-Some-clause-shut g c =
    prepared_shut g.F.Folder.told g.F.Folder.left_since c.find_damage.new.folder (still_prepared g.F.Folder.told g.F.Folder.left_since c.args.folder.now c.find_damage.new.folder c.requires.prepared (looks_move g.F.Folder.told g.F.Folder.left_since c.args.folder.now c.find_damage.new.folder c.find_damage.ensures.looks))

pub returns-in-Err-Failed-clause-stays : goal.returns-in-Err-Failed-clause-stays
returns-in-Err-Failed-clause-stays g c =
    moves_stay g.F.Folder.told g.F.Folder.left_since c.args.folder.now c.find_damage.new.folder (looks_move g.F.Folder.told g.F.Folder.left_since c.args.folder.now c.find_damage.new.folder c.find_damage.ensures.looks)

pub returns-in-Err-Failed-clause-leaves : goal.returns-in-Err-Failed-clause-leaves
returns-in-Err-Failed-clause-leaves g c =
    closed_restored g.F.Folder.told g.F.Folder.left_since c.args.folder.now c.find_damage.new.folder (looks_closed g.F.Folder.told g.F.Folder.left_since c.args.folder.now c.find_damage.new.folder c.requires.prepared (g.met.F.Folder.only_now c.args.folder.now) c.find_damage.ensures.looks)

pub returns-in-Err-Failed-clause-shut : goal.returns-in-Err-Failed-clause-shut
returns-in-Err-Failed-clause-shut g c =
    λ _. prepared_shut g.F.Folder.told g.F.Folder.left_since c.find_damage.new.folder (still_prepared g.F.Folder.told g.F.Folder.left_since c.args.folder.now c.find_damage.new.folder c.requires.prepared (looks_move g.F.Folder.told g.F.Folder.left_since c.args.folder.now c.find_damage.new.folder c.find_damage.ensures.looks))

pub returns-in-Err-NoMemory-clause-stays : goal.returns-in-Err-NoMemory-clause-stays
returns-in-Err-NoMemory-clause-stays g c =
    moves_stay g.F.Folder.told g.F.Folder.left_since c.args.folder.now c.find_damage.new.folder (looks_move g.F.Folder.told g.F.Folder.left_since c.args.folder.now c.find_damage.new.folder c.find_damage.ensures.looks)

pub returns-in-Err-NoMemory-clause-leaves : goal.returns-in-Err-NoMemory-clause-leaves
returns-in-Err-NoMemory-clause-leaves g c =
    closed_restored g.F.Folder.told g.F.Folder.left_since c.args.folder.now c.find_damage.new.folder (looks_closed g.F.Folder.told g.F.Folder.left_since c.args.folder.now c.find_damage.new.folder c.requires.prepared (g.met.F.Folder.only_now c.args.folder.now) c.find_damage.ensures.looks)

pub returns-in-Err-NoMemory-clause-shut : goal.returns-in-Err-NoMemory-clause-shut
returns-in-Err-NoMemory-clause-shut g c =
    λ _. prepared_shut g.F.Folder.told g.F.Folder.left_since c.find_damage.new.folder (still_prepared g.F.Folder.told g.F.Folder.left_since c.args.folder.now c.find_damage.new.folder c.requires.prepared (looks_move g.F.Folder.told g.F.Folder.left_since c.args.folder.now c.find_damage.new.folder c.find_damage.ensures.looks))

pub set_up-requires-clause-prepared : goal.set_up-requires-clause-prepared
set_up-requires-clause-prepared g c =
    still_prepared g.F.Folder.told g.F.Folder.left_since c.args.folder.now c.find_damage.new.folder c.requires.prepared (looks_move g.F.Folder.told g.F.Folder.left_since c.args.folder.now c.find_damage.new.folder c.find_damage.ensures.looks)

pub set_up-requires-clause-undamaged : goal.set_up-requires-clause-undamaged
set_up-requires-clause-undamaged g c =
    looked_on g.F.Folder.told g.F.Folder.left_since c.args.folder.now c.find_damage.new.folder (λ (m : Map). Finds (IsDamage m) None) c.find_damage.ensures.looks (subst (λ (o : Option (List (List ℕ))). OnTold (g.F.Folder.told c.args.folder.now) (λ s. Finds (IsDamage s.now) o)) c.in-Ok-None.field-0-is c.in-Ok-None.ensures.found)

pub returns-in-Err-Failed-set_up-clause-stays : goal.returns-in-Err-Failed-set_up-clause-stays
returns-in-Err-Failed-set_up-clause-stays g c =
    moves_stay g.F.Folder.told g.F.Folder.left_since c.args.folder.now c.set_up.new.folder (both_move g.F.Folder.told g.F.Folder.left_since c.args.folder.now c.find_damage.new.folder c.set_up.new.folder (looks_move g.F.Folder.told g.F.Folder.left_since c.args.folder.now c.find_damage.new.folder c.find_damage.ensures.looks) c.set_up.ensures.moves)

pub returns-in-Err-Failed-set_up-clause-leaves : goal.returns-in-Err-Failed-set_up-clause-leaves
returns-in-Err-Failed-set_up-clause-leaves g c =
    closed_restored g.F.Folder.told g.F.Folder.left_since c.args.folder.now c.set_up.new.folder (closed_then g.F.Folder.told g.F.Folder.left_since c.args.folder.now c.find_damage.new.folder c.set_up.new.folder (looks_move g.F.Folder.told g.F.Folder.left_since c.args.folder.now c.find_damage.new.folder c.find_damage.ensures.looks) (looks_closed g.F.Folder.told g.F.Folder.left_since c.args.folder.now c.find_damage.new.folder c.requires.prepared (g.met.F.Folder.only_now c.args.folder.now) c.find_damage.ensures.looks) Moves c.set_up.ensures.moves c.set_up.ensures.leaves)

pub returns-in-Err-Failed-set_up-clause-shut : goal.returns-in-Err-Failed-set_up-clause-shut
returns-in-Err-Failed-set_up-clause-shut g c =
    λ _. prepared_shut g.F.Folder.told g.F.Folder.left_since c.set_up.new.folder (still_prepared g.F.Folder.told g.F.Folder.left_since c.args.folder.now c.set_up.new.folder c.requires.prepared (both_move g.F.Folder.told g.F.Folder.left_since c.args.folder.now c.find_damage.new.folder c.set_up.new.folder (looks_move g.F.Folder.told g.F.Folder.left_since c.args.folder.now c.find_damage.new.folder c.find_damage.ensures.looks) c.set_up.ensures.moves))

pub returns-in-Err-NoMemory-set_up-clause-stays : goal.returns-in-Err-NoMemory-set_up-clause-stays
returns-in-Err-NoMemory-set_up-clause-stays g c =
    moves_stay g.F.Folder.told g.F.Folder.left_since c.args.folder.now c.set_up.new.folder (both_move g.F.Folder.told g.F.Folder.left_since c.args.folder.now c.find_damage.new.folder c.set_up.new.folder (looks_move g.F.Folder.told g.F.Folder.left_since c.args.folder.now c.find_damage.new.folder c.find_damage.ensures.looks) c.set_up.ensures.moves)

pub returns-in-Err-NoMemory-set_up-clause-leaves : goal.returns-in-Err-NoMemory-set_up-clause-leaves
returns-in-Err-NoMemory-set_up-clause-leaves g c =
    closed_restored g.F.Folder.told g.F.Folder.left_since c.args.folder.now c.set_up.new.folder (closed_then g.F.Folder.told g.F.Folder.left_since c.args.folder.now c.find_damage.new.folder c.set_up.new.folder (looks_move g.F.Folder.told g.F.Folder.left_since c.args.folder.now c.find_damage.new.folder c.find_damage.ensures.looks) (looks_closed g.F.Folder.told g.F.Folder.left_since c.args.folder.now c.find_damage.new.folder c.requires.prepared (g.met.F.Folder.only_now c.args.folder.now) c.find_damage.ensures.looks) Moves c.set_up.ensures.moves c.set_up.ensures.leaves)

pub returns-in-Err-NoMemory-set_up-clause-shut : goal.returns-in-Err-NoMemory-set_up-clause-shut
returns-in-Err-NoMemory-set_up-clause-shut g c =
    λ _. prepared_shut g.F.Folder.told g.F.Folder.left_since c.set_up.new.folder (still_prepared g.F.Folder.told g.F.Folder.left_since c.args.folder.now c.set_up.new.folder c.requires.prepared (both_move g.F.Folder.told g.F.Folder.left_since c.args.folder.now c.find_damage.new.folder c.set_up.new.folder (looks_move g.F.Folder.told g.F.Folder.left_since c.args.folder.now c.find_damage.new.folder c.find_damage.ensures.looks) c.set_up.ensures.moves))

pub open_gate-requires-clause-fresh : goal.open_gate-requires-clause-fresh
open_gate-requires-clause-fresh g c =
    c.in-Ok.ensures.fresh

pub returns-clause-stays : goal.returns-clause-stays
returns-clause-stays g c =
    outside_then g.F.Folder.told g.F.Folder.left_since c.args.folder.now c.set_up.new.folder c.open_gate.new.folder (both_move g.F.Folder.told g.F.Folder.left_since c.args.folder.now c.find_damage.new.folder c.set_up.new.folder (looks_move g.F.Folder.told g.F.Folder.left_since c.args.folder.now c.find_damage.new.folder c.find_damage.ensures.looks) c.set_up.ensures.moves) c.open_gate.ensures.stays

pub returns-clause-leaves : goal.returns-clause-leaves
returns-clause-leaves g c =
    open_then g.F.Folder.told g.F.Folder.left_since c.args.folder.now c.set_up.new.folder c.open_gate.new.folder (both_move g.F.Folder.told g.F.Folder.left_since c.args.folder.now c.find_damage.new.folder c.set_up.new.folder (looks_move g.F.Folder.told g.F.Folder.left_since c.args.folder.now c.find_damage.new.folder c.find_damage.ensures.looks) c.set_up.ensures.moves) (closed_restored g.F.Folder.told g.F.Folder.left_since c.args.folder.now c.set_up.new.folder (closed_then g.F.Folder.told g.F.Folder.left_since c.args.folder.now c.find_damage.new.folder c.set_up.new.folder (looks_move g.F.Folder.told g.F.Folder.left_since c.args.folder.now c.find_damage.new.folder c.find_damage.ensures.looks) (looks_closed g.F.Folder.told g.F.Folder.left_since c.args.folder.now c.find_damage.new.folder c.requires.prepared (g.met.F.Folder.only_now c.args.folder.now) c.find_damage.ensures.looks) Moves c.set_up.ensures.moves c.set_up.ensures.leaves)) (λ s t. SameOutside t.now s.now) c.open_gate.ensures.stays c.open_gate.ensures.leaves

pub returns-clause-undamaged : goal.returns-clause-undamaged
returns-clause-undamaged g c =
    on_ok c.open_gate.result _ (subst (λ (o : Option (List (List ℕ))). OnTold (g.F.Folder.told c.args.folder.now) (λ s. Finds (IsDamage s.now) o)) c.in-Ok-None.field-0-is c.in-Ok-None.ensures.found)

pub returns-clause-damaged : goal.returns-clause-damaged
returns-clause-damaged g c =
    undamaged_each c.open_gate.result _ c.open_gate.ensures.never_damaged

pub returns-clause-unchanged : goal.returns-clause-unchanged
returns-clause-unchanged g c =
    undamaged_each c.open_gate.result _ c.open_gate.ensures.never_damaged
