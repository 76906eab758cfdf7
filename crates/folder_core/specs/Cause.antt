use Rattle.std.specs.Prelude.{ℕ, ◌-◌, ◌^◌, ◌<◌, ◌≤◌, ◌⊎◌}

-- The count of faults rose, or it stands at its last value, where it can rise no more.
abbrev pub Rose : ℕ → ℕ → Type 0
Rose before now = (before < now) ⊎ (2 ^ 64 - 1 ≤ now)

-- The count of faults doesn't fall, and the call failed only where it rose.
pub record HasCause (before now : ℕ) (Fails : Type 0) : Type 0 where
  pub later : before ≤ now
  pub failed : Fails → Rose before now
