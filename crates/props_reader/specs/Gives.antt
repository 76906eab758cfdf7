-- What a reader returns, against what reading gives: a value, or the line of the first escape that is refused.
use Rattle.std.specs.Prelude.{◌≡◌, ℕ, ⊤, Result, Ok, Err}
use Rattle.props_reader.specs.declared.fault.PropsFault.{PropsFault}
use Rattle.props_reader.specs.declared.fault.PropsFault.TheVariants as faults

infixl 10 ◌>>=◌
abbrev pub ◌>>=◌ : {A B : Type 0} → Result A ℕ → (A → Result B ℕ) → Result B ℕ
(Ok x) >>= f = f x
(Err line) >>= f = Err line

-- Want of memory has no cause.
abbrev pub Refuses : {Y : Type 0} → PropsFault → Result Y ℕ → Type 0
Refuses (faults.BadEscape line) read = read ≡ Err line
Refuses faults.NoMemory read = ⊤

-- What was returned, seen by view, is what reading gives, memory aside.
abbrev pub Gives : {X Y : Type 0} → (X → Y) → Result X PropsFault → Result Y ℕ → Type 0
Gives view (Ok x) read = read ≡ Ok (view x)
Gives view (Err fault) read = Refuses fault read
