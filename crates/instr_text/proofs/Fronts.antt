-- What stands behind a front.
use Rattle.std.proofs.Common.{◌≡◌, ◌≢◌, ℕ, nat_eq, Bool, true, false, List, ◌++◌, length, take, drop, Option, Some, None, option_map, Bor, MatchOption, refl, sym, ap, ◌∙◌, take-append-drop}
use Rattle.std.specs.List.{starts_with}
use Rattle.std.proofs.lemmas.Slice.Eq.{bytes_eq-Decides}
use Rattle.std.proofs.Math.Seq.{take-append_seam, drop-append_seam}
use Rattle.std.specs.Str.Pattern.{FindsTextPrefix, StripsPrefix}
use Rattle.instr_text.specs.Front.{behind}

begins : (front text : List ℕ) → starts_with nat_eq text front ≡ true → text ≡ front ++ drop (length front) text
begins front text h =
    let same : front ≡ take (length front) text = (bytes_eq-Decides front (take (length front) text)).0 h in
    sym (take-append-drop (length front) text) ∙ ap (λ f. f ++ drop (length front) text) (sym same)

starts : (front rest : List ℕ) → starts_with nat_eq (front ++ rest) front ≡ true
starts front rest = (bytes_eq-Decides front (take (length front) (front ++ rest))).1 (sym (take-append_seam front rest))

decided : (b : Bool) → (b ≡ true → ⊥) → b ≡ false
decided true h = absurd (h refl)
decided false h = refl

pub behind-front : (front rest : List ℕ) → Some rest ≡ behind front (front ++ rest)
unfolding behind
behind-front front rest = let yes = starts front rest in rw yes (ap Some (sym (drop-append_seam front rest)))

pub behind-other : (front text : List ℕ) → ((rest : List ℕ) → text ≢ front ++ rest) → None ≡ behind front text
unfolding behind
behind-other front text none =
    let no : starts_with nat_eq text front ≡ false = decided _ (λ e. none (drop (length front) text) (begins front text e)) in rw no refl

pub behind_is : (front text : List ℕ) (r : Option (Bor (List ℕ)))
    → MatchOption r ((rest : List ℕ) → text ≢ front ++ rest) (λ rest. text ≡ front ++ rest.now)
    → option_map (λ rest. rest.now) r ≡ behind front text
behind_is front text None none = behind-other front text none
behind_is front text (Some rest) is = behind-front front rest.now ∙ ap (behind front) (sym is)

-- what `strip_prefix` says of texts
pub behind_text : (front text : List ℕ) (r : Option (Bor (List ℕ)))
    → MatchOption r (FindsTextPrefix front text None) (λ rest. StripsPrefix (FindsTextPrefix front) text rest.now)
    → option_map (λ rest. rest.now) r ≡ behind front text
behind_text front text None none = behind-other front text none
behind_text front text (Some rest) found =
    behind_is front text (Some rest) (found.1.1 ∙ ap (λ r. front ++ r) (sym found.2))
