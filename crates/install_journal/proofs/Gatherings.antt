-- What a recovery gathers is a plan, or shows why there is none.
use Rattle.std.proofs.Common.{◌≡◌, ℕ, List, Option, Some, None, inr, subst}
use Rattle.folder_core.specs.Folder.{Map, Told}
use Rattle.folder_core.specs.Step.{OnTold}
use Rattle.backup_store.specs.declared.entry.Entry.{Entry}
use Rattle.install_journal.specs.Broken.{AreSound, NamesDamage}
use Rattle.install_journal.specs.Plan.{IsGathered, IsPlan, FitsOrShows}
use Rattle.install_journal.specs.declared.plan.Plan.{Plan}

-- whether the entries can be put back
abbrev pub IsTried : Option (List (List ℕ)) → Map → Type 0
IsTried found m = (entries : List Entry) → AreSound m entries → FitsOrShows entries m found

pub plan_told : (told : Option Told) (plan : Plan) (found : Option (List (List ℕ))) → found ≡ None → OnTold told (λ s. IsGathered plan s.now) → OnTold told (λ s. IsTried found s.now) → OnTold told (λ s. IsPlan plan s.now)
plan_told None plan found none gathered tried = tt
plan_told (Some s) plan found none gathered tried = record { gathered = gathered; can_overlay = subst (FitsOrShows gathered.entries s.now) none (tried gathered.entries gathered.sound) }

pub unfit_told : (told : Option Told) (plan : Plan) (found : Option (List (List ℕ))) (path : List (List ℕ)) → found ≡ Some path → OnTold told (λ s. IsGathered plan s.now) → OnTold told (λ s. IsTried found s.now) → OnTold told (λ s. NamesDamage s.now path)
unfit_told None plan found path is gathered tried = tt
unfit_told (Some s) plan found path is gathered tried = inr (gathered.entries, (gathered.sound, subst (FitsOrShows gathered.entries s.now) is (tried gathered.entries gathered.sound)))
