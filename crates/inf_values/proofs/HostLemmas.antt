-- Facts on the host's name.
use Rattle.std.proofs.Common.{◌≡◌, ℕ, ◌+◌, ◌<◌, ◌≤◌, None, List, length, take, drop, refl}
use Rattle.std.proofs.lemmas.List.{drop_more, drop_all, take_more}
use Rattle.inf_values.specs.Readings.{Readings}
use Rattle.inf_values.specs.Host.{version_at, named_by, host_from}

-- one byte later
pub host_from-at : (read : Readings) (folder : List ℕ) (at : ℕ) → at < length folder
    → host_from read (take at folder) (drop at folder)
    ≡ named_by (take at folder) (version_at read (drop at folder)) (host_from read (take (at + 1) folder) (drop (at + 1) folder))
unfolding host_from
host_from-at read folder at inside = rw (drop_more folder at 0 inside, take_more folder at 0 inside) refl

pub host_from-none : (read : Readings) (folder : List ℕ) (at : ℕ) (before : List ℕ) → length folder ≤ at → host_from read before (drop at folder) ≡ None
unfolding host_from
host_from-none read folder at before past = rw (drop_all at folder past) refl
