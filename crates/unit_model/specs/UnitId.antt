use Rattle.std.specs.Prelude.{◌≢◌, ℕ, ◌≤◌, ◌==◌, ◌&&◌, not, nat_le, Bool, List, [], length, codes}
use Rattle.std.specs.List.{AllPass}

-- printable ASCII, neither blank nor `/`
abbrev pub is_id_byte : ℕ → Bool
is_id_byte b = nat_le 0x21 b && nat_le b 0x7E && not (b == 47)

-- What may name a unit: 1 to 140 printable ASCII bytes without blank and `/`, and neither `.` nor `..`.
pub record IsUnitId (id : List ℕ) : Type 0 where
  pub some : id ≢ []
  pub short : length id ≤ 140
  pub each : AllPass is_id_byte id
  pub not_dot : id ≢ codes "."
  pub not_dots : id ≢ codes ".."
