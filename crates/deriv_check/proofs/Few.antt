-- What holds of each of a few.
use Rattle.std.proofs.Common.{[], ◌∷◌, All}
use Rattle.std.proofs.lemmas.List.Elements.{All-nil, All-cons}

pub all_one : {X : Type 0} (P : X → Type 0) (a : X) → P a → All P (a ∷ [])
all_one P a h = All-cons P a [] h (All-nil P)

pub all_two : {X : Type 0} (P : X → Type 0) (a b : X) → P a → P b → All P (a ∷ b ∷ [])
all_two P a b h i = All-cons P a (b ∷ []) h (all_one P b i)

pub all_three : {X : Type 0} (P : X → Type 0) (a b c : X) → P a → P b → P c → All P (a ∷ b ∷ c ∷ [])
all_three P a b c h i j = All-cons P a (b ∷ c ∷ []) h (all_two P b c i j)

pub all_four : {X : Type 0} (P : X → Type 0) (a b c d : X) → P a → P b → P c → P d → All P (a ∷ b ∷ c ∷ d ∷ [])
all_four P a b c d h i j k = All-cons P a (b ∷ c ∷ d ∷ []) h (all_three P b c d i j k)
