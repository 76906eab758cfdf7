-- What calls that only look at a folder do to it.
use Rattle.std.specs.Prelude.{◌≡◌}
use Rattle.folder_core.specs.Folder.{Told}

-- Time alone has gone on.
pub record IsStill (s t : Told) : Type 0 where
  pub now : t.now ≡ s.now
  pub synced : t.synced ≡ s.synced
  pub touched : t.touched ≡ s.touched
