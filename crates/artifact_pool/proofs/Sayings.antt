-- What a line says, and what lines say one after the other.
use Rattle.std.proofs.Common.{◌≡◌, inl, inr, ℕ, List, [], ◌∷◌, ◌++◌, length, take, drop, Ok, IsOk, All, refl, ap, sym, ◌∙◌, subst, append_assoc, append-nil}
use Rattle.std.proofs.lemmas.List.{take_at, drop_at}
use Rattle.std.proofs.lemmas.List.Elements.{All-head, All-tail}
use Rattle.hex.specs.Hex.{decode_sized}
use Rattle.hex.proofs.HexLemmas.{IsOk-decode_sized}
use Rattle.folder_core.specs.Path.{path_text}
use Rattle.artifact_pool.specs.ArtifactPath.{IsArtifactPath}
use Rattle.artifact_pool.specs.DigestLine.{Says}
use Rattle.artifact_pool.specs.DigestText.{IsSaid, AreRead}
use Rattle.artifact_pool.specs.declared.digest_line.KnownDigest.{KnownDigest}
use Rattle.artifact_pool.proofs.Bytes.{IsPlain, plain_id}

-- where the first `/` stands is given by the whole
cut_same : (a b x y : List ℕ) → All IsPlain a → All IsPlain b → a ++ 47 ∷ x ≡ b ++ 47 ∷ y → (a ≡ b) × (x ≡ y)
cut_same [] [] x y p q e = (refl, cc)
cut_same [] (d ∷ b) x y p q e = absurd ((All-head IsPlain d b q).no_slash (cc))
cut_same (d ∷ a) [] x y p q e = absurd ((All-head IsPlain d a p).no_slash (cc))
cut_same (d ∷ a) (f ∷ b) x y p q e =
    let rest : a ++ 47 ∷ x ≡ b ++ 47 ∷ y = cc in
    let same = cut_same a b x y (All-tail IsPlain d a p) (All-tail IsPlain f b q) rest in
    (cc, same.1)

one_path : (p q : List (List ℕ)) → IsArtifactPath p → IsArtifactPath q → path_text p ≡ path_text q → p ≡ q
one_path p q first second e =
    let spelled : path_text (first.classifier ∷ first.name ∷ []) ≡ path_text (second.classifier ∷ second.name ∷ []) = ap path_text (sym first.names) ∙ (e ∙ ap path_text second.names) in
    let same = cut_same first.classifier second.classifier first.name second.name (plain_id first.classifier first.is_classifier) (plain_id second.classifier second.is_classifier) spelled in
    first.names ∙ (ap (λ c. c ∷ first.name ∷ []) same.0 ∙ (ap (λ n. second.classifier ∷ n ∷ []) same.1 ∙ sym second.names))

-- the 64 digits, and what stands behind them
pub record AreDigits (line : List ℕ) (k : KnownDigest) (s : Says line k) : Type 0 where
  pub long : length s.digits ≡ 64
  pub front : take 64 line ≡ s.digits
  pub back : drop 64 line ≡ s.rest

pub are_digits : (line : List ℕ) (k : KnownDigest) (s : Says line k) → AreDigits line k s
are_digits line k s =
    let ok : IsOk (decode_sized s.digits 32) = subst IsOk (sym s.digest) refl in
    let long : length s.digits ≡ 64 = ((IsOk-decode_sized s.digits 32).0 ok).0 in
    record {
      long = long;
      front = ap (take 64) s.spelled ∙ take_at s.digits s.rest 64 long;
      back = ap (drop 64) s.spelled ∙ drop_at s.digits s.rest 64 long;
    }

-- A line names one digest for one path.
one_saying : (line : List ℕ) (k l : KnownDigest) → Says line k → Says line l → k ≡ l
one_saying line k l first second =
    let a = are_digits line k first in
    let b = are_digits line l second in
    let behind : 32 ∷ first.marked.mark ∷ path_text k.path ≡ 32 ∷ second.marked.mark ∷ path_text l.path = sym first.marked.spelled ∙ (sym a.back ∙ (b.back ∙ second.marked.spelled)) in
    let text : path_text k.path ≡ path_text l.path = cc in
    let path = one_path k.path l.path first.path second.path text in
    let read : Ok k.digest ≡ Ok l.digest = sym first.digest ∙ (ap (λ d. decode_sized d 32) (sym a.front ∙ b.front) ∙ second.digest) in
    let digest : k.digest ≡ l.digest = cc in
    let known : List (List ℕ) → List ℕ → KnownDigest = λ p d. record { path = p; digest = d } in
    ap (λ p. known p k.digest) path ∙ ap (known l.path) digest

never_empty : (k : KnownDigest) → ¬ (Says [] k)
never_empty k s = let a = are_digits [] k s in let none : [] ≡ 32 ∷ s.marked.mark ∷ path_text k.path = a.back ∙ s.marked.spelled in cc

pub one_said : (line : List ℕ) (a b : List KnownDigest) → IsSaid line a → IsSaid line b → a ≡ b
one_said line a b (inl x) (inl y) = x.1 ∙ sym y.1
one_said line a b (inl x) (inr y) = absurd (never_empty y.0 (subst (λ l. Says l y.0) x.0 y.1))
one_said line a b (inr x) (inl y) = absurd (never_empty x.0 (subst (λ l. Says l x.0) y.0 x.1))
one_said line a b (inr x) (inr y) = x.2 ∙ (ap (λ k. k ∷ []) (one_saying line x.0 y.0 x.1 y.1) ∙ sym y.2)

pub one_reading : (lines : List (List ℕ)) (a b : List KnownDigest) → AreRead lines a → AreRead lines b → a ≡ b
one_reading [] a b first second = first ∙ sym second
one_reading (line ∷ lines) a b first second =
    let here = one_said line first.0 second.0 first.2 second.2 in
    let rest = one_reading lines first.1 second.1 first.3 second.3 in
    first.4 ∙ (ap (λ s. s ++ first.1) here ∙ (ap (λ r. second.0 ++ r) rest ∙ sym second.4))

pub read_behind : (xs ys : List (List ℕ)) (a b : List KnownDigest) → AreRead xs a → AreRead ys b → AreRead (xs ++ ys) (a ++ b)
read_behind [] ys a b first second = subst (λ k. AreRead ys (k ++ b)) (sym first) second
read_behind (x ∷ xs) ys a b first second =
    (first.0, first.1 ++ b, first.2, read_behind xs ys first.1 b first.3 second, ap (λ k. k ++ b) first.4 ∙ append_assoc first.0 first.1 b)

pub read_one : (line : List ℕ) (said : List KnownDigest) → IsSaid line said → AreRead (line ∷ []) said
read_one line said is = (said, [], is, refl, sym (append-nil said))
