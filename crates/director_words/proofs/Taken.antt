-- The commands are simple and no flag has a rule on another, so clap's functions say what it makes of any words.
use Rattle.std.proofs.Common.{◌≡◌, ◌≢◌, ℕ, true, List, [], ◌∷◌, refl, ap, ◌∙◌, ⊎_elim, Option, Some, None, Bor, map, option_map, unwrap_or}
use Rattle.clap.specs.Words.{HasKind, Kinds, is_simple, is_simple_and_free, kind_of}
use Rattle.clap.specs.declared.error.Error.{Error}
use Rattle.clap.specs.declared.error.kind.ErrorKind.TheVariants.{OutOfMemory}
use Rattle.clap.proofs.WalkLemmas.{both}
use Rattle.director_words.specs.declared.command.Flags.{Flags}
use Rattle.director_words.specs.declared.command.Flags.TheVariants as flags
use Rattle.director_words.specs.declared.command.Operands.{Operands}
use Rattle.director_words.specs.declared.command.Operands.TheVariants as operands
use Rattle.director_words.specs.Values.{flat_app, with_flags, with_operands}

pub is_plain : (name : List ℕ) (f : Flags) (o : Operands) → is_simple_and_free (with_operands o (with_flags f (flat_app name))) ≡ true
is_plain name flags.None operands.None = refl
is_plain name flags.None operands.One = refl
is_plain name flags.None operands.Several = refl
is_plain name flags.None operands.Any = refl
is_plain name flags.Profile operands.None = refl
is_plain name flags.Profile operands.One = refl
is_plain name flags.Profile operands.Several = refl
is_plain name flags.Profile operands.Any = refl
is_plain name flags.Plan operands.None = refl
is_plain name flags.Plan operands.One = refl
is_plain name flags.Plan operands.Several = refl
is_plain name flags.Plan operands.Any = refl

pub is_simple_too : (name : List ℕ) (f : Flags) (o : Operands) → is_simple (with_operands o (with_flags f (flat_app name))) ≡ true
is_simple_too name f o = (both (is_simple (with_operands o (with_flags f (flat_app name)))) _ (is_plain name f o)).0

-- words that clap takes are refused for want of memory alone
pub only_memory : (kinds : Kinds) (e : Error) → HasKind kinds e → kinds ≡ [] → kind_of e ≢ OutOfMemory → ⊥
only_memory [] e has none other = ⊎_elim (λ memory. other memory) (λ among. among) has
only_memory (k ∷ kinds) e has none other = cc

-- the values of a flag that isn't there are none
pub values_or_none : (values : Option (Bor (List (Bor (List ℕ))))) (got none : Bor (List (Bor (List ℕ)))) → got ≡ unwrap_or values none → none.now ≡ []
    → map (λ v. v.now) got.now ≡ unwrap_or (option_map (λ s. map (λ v. v.now) s.now) values) []
values_or_none None got none e empty = ap (λ (s : Bor (List (Bor (List ℕ)))). map (λ v. v.now) s.now) e ∙ ap (map (λ (v : Bor (List ℕ)). v.now)) empty
values_or_none (Some values) got none e empty = ap (λ (s : Bor (List (Bor (List ℕ)))). map (λ v. v.now) s.now) e
