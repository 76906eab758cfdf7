-- Writing parts one after the other.
use Rattle.std.proofs.Common.{◌≡◌, ℕ, ◌+◌, ◌<◌, ◌≤◌, List, [], ◌∷◌, ◌++◌, length, get_or, take, map, Result, Ok, Err, OnOk, sym, ap, ◌∙◌, append-nil, append_assoc}
use Rattle.std.specs.List.{flat_map}
use Rattle.std.proofs.lemmas.List.{map-append, take_more, take_all}
use Rattle.std.proofs.lemmas.Grind.{flat_map-append}
use Rattle.unit_lines.specs.Parts.{part_line}
use Rattle.unit_lines.specs.declared.part.Part.{Part}
use Rattle.unit_text.specs.UnitText.{text_of, ended}

pub text_of-append : (ps qs : List Part) → text_of (ps ++ qs) ≡ text_of ps ++ text_of qs
text_of-append ps qs = ap (flat_map ended) (map-append part_line ps qs) ∙ flat_map-append ended (map part_line ps) (map part_line qs)

module _ {X : Type 0} (f : X → Part) (start : List ℕ) (xs : List X) (i : ℕ) where
  pub put_more : (old new : List ℕ) (x : X) → x ≡ get_or xs i x → i < length xs → old ≡ start ++ text_of (map f (take i xs)) → new ≡ old ++ (part_line (f x) ++ 10 ∷ [])
      → new ≡ start ++ text_of (map f (take (i + 1) xs))
  put_more old new x is inside so_far put =
      let line : X → List ℕ = λ y. part_line (f y) ++ 10 ∷ [] in
      put
      ∙ (ap (λ l. l ++ line x) so_far
      ∙ (append_assoc start (text_of (map f (take i xs))) (line x)
      ∙ ap (λ l. start ++ l)
      (ap (λ l. text_of (map f (take i xs)) ++ l) (sym (append-nil (line x)) ∙ ap (λ y. text_of (f y ∷ [])) is)
      ∙ (sym (text_of-append (map f (take i xs)) (f (get_or xs i x) ∷ []))
      ∙ (ap text_of (sym (map-append f (take i xs) (get_or xs i x ∷ []))) ∙ ap (λ l. text_of (map f l)) (sym (take_more xs i x inside)))))))

  pub put_all : length xs ≤ i → start ++ text_of (map f (take i xs)) ≡ start ++ text_of (map f xs)
  put_all past = ap (λ l. start ++ text_of (map f l)) (take_all i xs past)

pub text_of-one : (p : Part) → part_line p ++ 10 ∷ [] ≡ text_of (p ∷ [])
text_of-one p = sym (append-nil (part_line p ++ 10 ∷ []))

pub put_one : (start new : List ℕ) (p : Part) → new ≡ start ++ (part_line p ++ 10 ∷ []) → new ≡ start ++ text_of (p ∷ [])
put_one start new p put = put ∙ ap (λ l. start ++ l) (text_of-one p)

pub joined : (start middle new : List ℕ) (ps qs : List Part) → middle ≡ start ++ text_of ps → new ≡ middle ++ text_of qs → new ≡ start ++ text_of (ps ++ qs)
joined start middle new ps qs first second =
    second ∙ (ap (λ l. l ++ text_of qs) first ∙ (append_assoc start (text_of ps) (text_of qs) ∙ ap (λ l. start ++ l) (sym (text_of-append ps qs))))

pub on_ok : {T E A B : Type 0} (r : Result T E) → (A → B) → OnOk r A → OnOk r B
on_ok (Ok x) f a = f a
on_ok (Err e) f a = tt
