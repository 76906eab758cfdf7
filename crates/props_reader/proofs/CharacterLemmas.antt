-- Facts on the characters that signs spell.
use Rattle.std.proofs.Common.{◌≡◌, ℕ, length, arith, suc, zero, List, [], ◌∷◌, ◌++◌, drop, Result, Ok, Err, encode_utf8, encode_utf8_all, refl, sym, ap, ◌∙◌, append_assoc}
use Rattle.std.proofs.lemmas.List.{append-nil}
use Rattle.props_reader.specs.declared.signs.Sign.{Sign}
use Rattle.props_reader.specs.declared.fault.PropsFault.{PropsFault}
use Rattle.props_reader.specs.declared.fault.PropsFault.TheVariants as faults
use Rattle.props_reader.specs.Gives.{◌>>=◌, Refuses}
use Rattle.props_reader.specs.Characters.{first_character, characters, spelled}

characters-drop : (taken : ℕ) (signs : List Sign) → characters taken signs ≡ characters 0 (drop taken signs)
unfolding characters
characters-drop zero signs = refl
characters-drop (suc taken) [] = refl
characters-drop (suc taken) (s ∷ signs) = characters-drop taken signs

-- what is read, with a text in front of it
abbrev pub after_text : List ℕ → Result (List ℕ) ℕ → Result (List ℕ) ℕ
after_text text read = read >>= λ found. Ok (text ++ encode_utf8_all found)

after_more : (text : List ℕ) (c : ℕ) (read : Result (List ℕ) ℕ) → after_text text (read >>= λ rest. Ok (c ∷ rest)) ≡ after_text (text ++ encode_utf8 c) read
after_more text c (Ok rest) = ap Ok (sym (append_assoc text (encode_utf8 c) (encode_utf8_all rest)))
after_more text c (Err line) = refl

-- one character is read
pub after_text-more : (text : List ℕ) (s : Sign) (signs : List Sign) (c taken : ℕ) → first_character s signs ≡ Ok (c, taken)
    → after_text text (characters 0 (s ∷ signs)) ≡ after_text (text ++ encode_utf8 c) (characters 0 (drop taken signs))
unfolding characters
after_text-more text s signs c taken h =
    let first : characters 0 (s ∷ signs) ≡ (characters taken signs >>= λ rest. Ok (c ∷ rest)) = rw h refl in
    ap (after_text text) first ∙ ap (λ read. after_text text (read >>= λ rest. Ok (c ∷ rest))) (characters-drop taken signs)
    ∙ after_more text c (characters 0 (drop taken signs))

-- one is refused
pub after_text-refused : (text : List ℕ) (s : Sign) (signs : List Sign) (line : ℕ) → first_character s signs ≡ Err line
    → after_text text (characters 0 (s ∷ signs)) ≡ Err line
unfolding characters
after_text-refused text s signs line h = rw h refl

-- nothing is left
pub after_text-none : (text : List ℕ) (signs : List Sign) → length signs ≡ 0 → after_text text (characters 0 signs) ≡ Ok text
unfolding characters
after_text-none text [] h = ap Ok (append-nil text)
after_text-none text (s ∷ signs) h = absurd (omega arith)

-- nothing is read yet
pub after_text-start : (signs : List Sign) → after_text [] (characters 0 signs) ≡ spelled signs
after_text-start signs = by (characters 0 signs)
  where
    by : (read : Result (List ℕ) ℕ) → after_text [] read ≡ (read >>= λ found. Ok (encode_utf8_all found))
    by (Ok found) = refl
    by (Err line) = refl

-- a refusal that passes on
pub Refuses-along : {X Y : Type 0} (fault : PropsFault) (part : Result X ℕ) (whole : Result Y ℕ) → Refuses fault part → ((line : ℕ) → part ≡ Err line → whole ≡ Err line) → Refuses fault whole
Refuses-along (faults.BadEscape line) part whole h along = along line h
Refuses-along faults.NoMemory part whole h along = h
