use Rattle.std.specs.Prelude.{◌≡◌, ℕ, ◌<◌, List, ◌++◌, length, take}

-- The first n bytes of those that were left are at the front of `into`, and are taken off. They are none only at the
-- end, or where `into` has no room.
pub record Reads (n : ℕ) (into left now_left : List ℕ) : Type 0 where
  pub taken : left ≡ take n into ++ now_left
  pub some : 0 < length left → 0 < length into → 0 < n
