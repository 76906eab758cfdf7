-- What a reader returns, against what reading gives: a value, or the first refusal.
use Rattle.std.specs.Prelude.{◌≡◌, ⊤, Result, Ok, Err}
use Rattle.instr_text.specs.declared.fault.InstrRefusal.{InstrRefusal}
use Rattle.instr_text.specs.declared.fault.InstrRefusal.TheVariants.{NoMemory}

infixl 10 ◌>>=◌
abbrev pub ◌>>=◌ : {A B : Type 0} → Result A InstrRefusal → (A → Result B InstrRefusal) → Result B InstrRefusal
(Ok x) >>= f = f x
(Err refusal) >>= f = Err refusal

-- Want of memory has no cause.
abbrev pub Refuses : {Y : Type 0} → InstrRefusal → Result Y InstrRefusal → Type 0
Refuses NoMemory read = ⊤
Refuses refusal read = read ≡ Err refusal

-- What was returned, seen by view, is what reading gives, memory aside.
abbrev pub Gives : {X Y : Type 0} → (X → Y) → Result X InstrRefusal → Result Y InstrRefusal → Type 0
Gives view (Ok x) read = read ≡ Ok (view x)
Gives view (Err refusal) read = Refuses refusal read
