-- Steps of a walk that may be refused.
use Rattle.std.proofs.Common.{◌≡◌, List, ◌++◌, Result, Ok, Err, refl, sym, ap, append_assoc}
use Rattle.instr_text.specs.declared.fault.InstrRefusal.{InstrRefusal}
use Rattle.instr_text.specs.declared.fault.InstrRefusal.TheVariants as refusals
use Rattle.instr_text.specs.Gives.{◌>>=◌, Refuses}

-- what is refused in one reading is refused in another that goes on from it
pub Refuses-along : {X Y : Type 0} (e : InstrRefusal) (a : Result X InstrRefusal) (b : Result Y InstrRefusal) → Refuses e a → ((r : InstrRefusal) → a ≡ Err r → b ≡ Err r) → Refuses e b
Refuses-along (refusals.BadSyntax at) a b h along = along _ h
Refuses-along (refusals.UnknownAction name) a b h along = along _ h
Refuses-along (refusals.LeftOutAction name) a b h along = along _ h
Refuses-along (refusals.MissingParam name) a b h along = along _ h
Refuses-along (refusals.UnknownParam name) a b h along = along _ h
Refuses-along (refusals.RepeatedParam name) a b h along = along _ h
Refuses-along (refusals.BadParam name) a b h along = along _ h
Refuses-along (refusals.UnknownVariable name) a b h along = along _ h
Refuses-along (refusals.OutsideFolder name) a b h along = along _ h
Refuses-along (refusals.BadPath name) a b h along = along _ h
Refuses-along refusals.NoMemory a b h along = tt

-- what is read, with more in front of it
abbrev pub with_items : {X : Type 0} → List X → Result (List X) InstrRefusal → Result (List X) InstrRefusal
with_items front read = read >>= λ xs. Ok (front ++ xs)

pub with_items-more : {X : Type 0} (front more : List X) (read : Result (List X) InstrRefusal)
    → with_items front (read >>= λ xs. Ok (more ++ xs)) ≡ with_items (front ++ more) read
with_items-more front more (Ok xs) = ap Ok (sym (append_assoc front more xs))
with_items-more front more (Err r) = refl
