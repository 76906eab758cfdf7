-- Words on what an object of the outside tells of itself, where it does.
use Rattle.std.specs.Prelude.{Option, Some, None, ⊤}

-- a fact of what is told
abbrev pub OnTold : {T : Type 0} → Option T → (T → Type 0) → Type 0
OnTold None P = ⊤
OnTold (Some s) P = P s

-- A call leads from what was told to what is told. An object that told nothing goes on to tell nothing.
abbrev pub Step : {T : Type 0} → Option T → Option T → (T → T → Type 0) → Type 0
Step None None P = ⊤
Step None (Some t) P = ⊥
Step (Some s) None P = ⊥
Step (Some s) (Some t) P = P s t
