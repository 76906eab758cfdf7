-- Which calls of an object fail.
use Rattle.std.specs.Prelude.{◌≡◌, ◌⊎◌, ◌↔◌, ◌+◌, ◌-◌, ◌^◌, ◌≤◌, Bool, [], min, Contains, IsTrue, None, IsSomeAnd, if◌then◌else◌}
use Rattle.folder_memory.specs.declared.schedule.Schedule.{Schedule}

-- no call was made, and none fails
abbrev pub quiet : Schedule
quiet = record { calls = 0; faults = 0; listed = []; listed_after = 0; fuse = None; fused_after = 0 }

-- The next call is a listed one, or it lies past the fuse. A call past the last number counts as a listed one.
abbrev pub FailsNext : Schedule → Type 0
FailsNext s =
    (s.calls ≡ 2 ^ 64 - 1)
    ⊎ (Contains s.listed (s.calls - s.listed_after + 1) ⊎ IsSomeAnd s.fuse (λ passes. passes ≤ s.calls - s.fused_after))

-- one more call, and one more fault where it failed; the counts end with their type
abbrev pub after_call : Bool → Schedule → Schedule
after_call failed s = record s { calls = min (s.calls + 1) (2 ^ 64 - 1); faults = if failed then min (s.faults + 1) (2 ^ 64 - 1) else s.faults }

-- One more call was counted, and one more fault exactly where it had to fail. All else stays as it was told.
pub record Counts (Fails : Type 0) (old new : Schedule) : Type 0 where
  pub failed : Bool
  pub told : IsTrue failed ↔ Fails
  pub counted : new ≡ after_call failed old
