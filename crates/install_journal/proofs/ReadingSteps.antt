-- How a recovery goes on from entry to entry.
use Rattle.std.proofs.Common.{◌≡◌, ℕ, ◌+◌, ◌<◌, List, [], ◌∷◌, ◌++◌, Option, Some, None, ◌∙◌, subst}
use Rattle.std.specs.Prelude.{IsTrue, MatchOption, Bool}
use Rattle.folder_core.specs.Folder.{Told}
use Rattle.folder_core.specs.Step.{OnTold}
use Rattle.backup_store.specs.Fault.{IfDamaged}
use Rattle.backup_store.specs.Held.{Counts, CanRestore, IsDamaged}
use Rattle.backup_store.specs.Places.{entry_path}
use Rattle.backup_store.specs.declared.entry.Entry.{Entry}
use Rattle.backup_store.specs.declared.fault.StoreFault.{StoreFault}
use Rattle.backup_store.specs.declared.fault.StoreFault.TheVariants.{Failed, Damaged, NoMemory}
use Rattle.install_journal.specs.Broken.{IsSound, IsUnsound, NamesUnsound}
use Rattle.install_journal.specs.Reading.{AreNoted, IsReadTo}
use Rattle.install_journal.specs.declared.reading.Gathered.{Gathered}
use Rattle.install_journal.proofs.Readings.{read_push, names_unsound}
use Rattle.install_journal.proofs.Unique.{holds_one_path}

-- what the store found of an entry
abbrev IsFound : Option Entry → ℕ → Told → Type 0
IsFound found number s = MatchOption found (IsDamaged s.now number) (λ e. CanRestore s.now number e.path e.before)

pub unsound_none : (told : Option Told) (number : ℕ) (found : Option Entry) → found ≡ None → OnTold told (IsFound found number) → OnTold told (λ s. IsUnsound s.now number)
unsound_none None number found is holds = tt
unsound_none (Some s) number found is holds = λ path before sound. (subst (λ f. IsFound f number s) is holds) path before sound.restores

pub unsound_root : (told : Option Told) (number : ℕ) (found : Option Entry) (entry : Entry) → found ≡ Some entry → entry.path ≡ [] → OnTold told (IsFound found number) → OnTold told (λ s. IsUnsound s.now number)
unsound_root None number found entry is root holds = tt
unsound_root (Some s) number found entry is root holds = λ path before sound.
    let can : CanRestore s.now number entry.path entry.before = subst (λ f. IsFound f number s) is holds in
    sound.not_root (holds_one_path s.now number path entry.path before entry.before sound.restores.holds can.holds ∙ root)

-- one entry more
pub next_read : (told : Option Told) (counted : Bool) (entry : Entry) (old new : Gathered) → old.count < 1000000 → IsTrue counted
    → OnTold told (λ s. (IsTrue counted → Counts s.now (old.count + 1)) × (Counts s.now (old.count + 1) → IsTrue counted))
    → OnTold told (λ s. IsSound s.now (old.count + 1) entry.path entry.before)
    → ((entries : List Entry) → AreNoted entries old → AreNoted (entries ++ entry ∷ []) new)
    → OnTold told (λ s. IsReadTo s.now old → IsReadTo s.now new)
next_read None counted entry old new few is counts sound notes = tt
next_read (Some s) counted entry old new few is counts sound notes = λ read. read_push s.now entry old new few (counts.0 is) sound notes read

-- an entry that counts and can't be put back
pub next_damaged : (told : Option Told) (counted : Bool) (fault : StoreFault) (gathered : Gathered) → gathered.count < 1000000 → IsTrue counted
    → OnTold told (λ s. (IsTrue counted → Counts s.now (gathered.count + 1)) × (Counts s.now (gathered.count + 1) → IsTrue counted))
    → IfDamaged fault (λ at. OnTold told (λ s. IsUnsound s.now (gathered.count + 1)))
    → IfDamaged fault (λ at. at ≡ entry_path (gathered.count + 1))
    → IfDamaged fault (λ at. OnTold told (λ s. IsReadTo s.now gathered → NamesUnsound s.now at))
next_damaged told counted Failed gathered few is counts unsound named = tt
next_damaged told counted NoMemory gathered few is counts unsound named = tt
next_damaged None counted (Damaged path) gathered few is counts unsound named = tt
next_damaged (Some s) counted (Damaged path) gathered few is counts unsound named = λ read. names_unsound s.now path gathered few (counts.0 is) unsound named read

-- what a fault says of a folder may be said of it earlier
pub damage_back : (fault : StoreFault) (P Q : List (List ℕ) → Type 0) → ((path : List (List ℕ)) → P path → Q path) → IfDamaged fault P → IfDamaged fault Q
damage_back Failed P Q f holds = tt
damage_back (Damaged path) P Q f holds = f path holds
damage_back NoMemory P Q f holds = tt

pub apply_told : (told : Option Told) (P Q : Told → Type 0) → OnTold told (λ s. P s → Q s) → OnTold told P → OnTold told Q
apply_told None P Q f holds = tt
apply_told (Some s) P Q f holds = f holds
