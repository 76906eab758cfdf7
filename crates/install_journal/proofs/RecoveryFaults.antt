-- What a fault of a recovery says.
use Rattle.std.proofs.Common.{◌≡◌, ℕ, List, Result, Ok, Err, sym, subst}
use Rattle.std.specs.Result.{IfErr, IsErrAnd}
use Rattle.install_journal.specs.Preparing.{IsUnchanged, NeverEither, OnRecover, OnUnchanged}
use Rattle.install_journal.specs.Undoing.{AsksRecovery, OnDamage}
use Rattle.install_journal.specs.declared.fault.JournalFault.{JournalFault}
use Rattle.install_journal.specs.declared.fault.JournalFault.TheVariants.{Failed, Damaged, NoMemory}

pub recover_never : (fault : JournalFault) (P : Type 0) → IsUnchanged fault → OnRecover P fault
recover_never (Failed after) P is = λ recover. absurd (let no : ⊥ = cc in no)
recover_never (Damaged path) P is = tt
recover_never (NoMemory after) P is = λ recover. absurd (let no : ⊥ = cc in no)

pub recover_always : (fault : JournalFault) (P : Type 0) → P → OnRecover P fault
recover_always (Failed after) P p = λ recover. p
recover_always (Damaged path) P p = tt
recover_always (NoMemory after) P p = λ recover. p

pub unchanged_always : (fault : JournalFault) (P : Type 0) → P → OnUnchanged P fault
unchanged_always (Failed after) P p = λ unchanged. p
unchanged_always (Damaged path) P p = p
unchanged_always (NoMemory after) P p = λ unchanged. p

pub unchanged_never : (fault : JournalFault) (P : Type 0) → AsksRecovery fault → OnDamage (λ at. P) fault → OnUnchanged P fault
unchanged_never (Failed after) P asks never = λ unchanged. absurd (let no : ⊥ = cc in no)
unchanged_never (Damaged path) P asks never = never
unchanged_never (NoMemory after) P asks never = λ unchanged. absurd (let no : ⊥ = cc in no)

pub unchanged_not_either : (fault : JournalFault) → IsUnchanged fault → NeverEither fault
unchanged_not_either (Failed after) is = λ either. let no : ⊥ = cc in no
unchanged_not_either (Damaged path) is = tt
unchanged_not_either (NoMemory after) is = λ either. let no : ⊥ = cc in no

pub asks_not_either : (fault : JournalFault) → AsksRecovery fault → NeverEither fault
asks_not_either (Failed after) asks = λ either. let no : ⊥ = cc in no
asks_not_either (Damaged path) asks = tt
asks_not_either (NoMemory after) asks = λ either. let no : ⊥ = cc in no

pub fault_damage : (fault : JournalFault) (P Q : List (List ℕ) → Type 0) → ((at : List (List ℕ)) → P at → Q at) → OnDamage P fault → OnDamage Q fault
fault_damage (Failed after) P Q f p = tt
fault_damage (Damaged path) P Q f p = f path p
fault_damage (NoMemory after) P Q f p = tt

pub same_fault : {X E : Type 0} (result : Result X E) (fault : E) (P : E → Type 0) → IsErrAnd result (λ e. e ≡ fault) → P fault → IfErr result P
same_fault (Ok x) fault P is p = tt
same_fault (Err e) fault P is p = subst P (sym is) p
