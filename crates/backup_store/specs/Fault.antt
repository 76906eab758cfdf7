use Rattle.std.specs.Prelude.{ℕ, List, ⊤}
use Rattle.backup_store.specs.declared.fault.StoreFault.{StoreFault}
use Rattle.backup_store.specs.declared.fault.StoreFault.TheVariants.{Failed, Damaged, NoMemory}

-- Where the fault is damage, its path has P.
abbrev pub IfDamaged : StoreFault → (List (List ℕ) → Type 0) → Type 0
IfDamaged Failed P = ⊤
IfDamaged (Damaged path) P = P path
IfDamaged NoMemory P = ⊤

-- The fault is damage or want of memory.
abbrev pub IsUndone : StoreFault → Type 0
IsUndone Failed = ⊥
IsUndone (Damaged path) = ⊤
IsUndone NoMemory = ⊤
