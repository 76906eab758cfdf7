-- What a line can't say, and what lines say so far.
use Rattle.std.proofs.Common.{◌≡◌, ◌≢◌, inl, inr, ℕ, ◌+◌, ◌-◌, ◌<◌, ◌≤◌, ◌==◌, Bool, false, List, [], ◌∷◌, ◌++◌, length, get_or, take, drop, map, Ok, IsTrue, Bor, refl, ap, sym, ◌∙◌, subst, arith, length-append, take-append-drop}
use Rattle.std.specs.Prelude.{◌↔◌}
use Rattle.std.specs.List.{IsSplitAt}
use Rattle.std.specs.Str.{IsUtf8}
use Rattle.std.proofs.lemmas.Bool.{false≢true}
use Rattle.std.proofs.lemmas.List.{take_more, take_all, take_at, drop_at, get_or-map, length-map, map-append, take-append-le, get_or_append_left}
use Rattle.std.proofs.Math.Seq.{get_or-append_seam}
use Rattle.hex.specs.Hex.{decode_sized}
use Rattle.osgi_version.specs.TextFault.{IsTextFault}
use Rattle.osgi_version.specs.declared.text.TextFault.{TextFault}
use Rattle.osgi_version.specs.declared.text.TextFault.TheVariants.{NotUtf8}
use Rattle.folder_core.specs.Path.{IsPathOf, HasNoPath, path_text}
use Rattle.artifact_pool.specs.ArtifactPath.{IsArtifactPath, HasNoArtifactPath}
use Rattle.artifact_pool.specs.DigestLine.{SaysNothing, IsMarked, HasNoMark}
use Rattle.artifact_pool.specs.DigestText.{IsSaid, AreRead, IsFirstBadLine, lines, pieces_of, seen, without_cr}
use Rattle.artifact_pool.specs.declared.digest_line.KnownDigest.{KnownDigest}
use Rattle.artifact_pool.proofs.Names.{artifact_path, artifact_text}
use Rattle.artifact_pool.proofs.Sayings.{are_digits, read_behind, read_one}

-- Bytes that are no text, or the text of no path, are no artifact's path.
pub no_text : (text : List ℕ) (fault : TextFault) (at : ℕ) → fault ≡ NotUtf8 at → IsTextFault text fault → HasNoArtifactPath text
no_text text fault at is refused path of spelled = (subst (IsTextFault text) is refused).0 (subst IsUtf8 spelled (artifact_text path of))

pub no_path : (text : List ℕ) → HasNoPath text → HasNoArtifactPath text
no_path text none path of spelled = none path (artifact_path path of) spelled

pub other_path : (text : List ℕ) (path : List (List ℕ)) → IsPathOf text path → ¬ (IsArtifactPath path) → HasNoArtifactPath text
other_path text path is not path' of spelled = not (subst IsArtifactPath (is.only path' (artifact_path path' of) spelled) of)

pub not_from : {P : Type 0} (b : Bool) → (IsTrue b ↔ P) → b ≡ false → ¬ P
not_from b is fails p = false≢true (sym fails ∙ is.1 p)

-- A line that says something is split behind its 64 digits.
pub too_short : (line : List ℕ) → length line < 64 → SaysNothing line
too_short line short k s =
    let a = are_digits line k s in
    let long = length-append s.digits s.rest in
    omega (arith, short, a.long, long, ap length s.spelled)

pub no_mark : (line front back : List ℕ) → IsSplitAt line 64 front back → HasNoMark back → SaysNothing line
no_mark line front back split none k s =
    none (path_text k.path) (subst (λ r. IsMarked r (path_text k.path)) (sym (are_digits line k s).back ∙ sym split.2) s.marked)

pub no_digest : (line front back : List ℕ) → IsSplitAt line 64 front back → ((d : List ℕ) → decode_sized front 32 ≢ Ok d) → SaysNothing line
no_digest line front back split none k s = none k.digest (ap (λ d. decode_sized d 32) (split.1 ∙ (are_digits line k s).front) ∙ s.digest)

pub no_artifact : (line front back text : List ℕ) → IsSplitAt line 64 front back → IsMarked back text → HasNoArtifactPath text → SaysNothing line
no_artifact line front back text split marked none k s =
    let same : 32 ∷ s.marked.mark ∷ path_text k.path ≡ 32 ∷ marked.mark ∷ text = sym s.marked.spelled ∙ (sym (are_digits line k s).back ∙ (sym split.2 ∙ marked.spelled)) in
    let spelled : path_text k.path ≡ text = cc in
    none k.path s.path spelled

-- A line that isn't empty and names no digest says nothing.
pub not_said : (line : List ℕ) → line ≢ [] → SaysNothing line → (said : List KnownDigest) → ¬ (IsSaid line said)
not_said line some none said (inl x) = some x.0
not_said line some none said (inr y) = none y.0 y.1

pub some_bytes : (line : List ℕ) (b : Bool) → b ≡ (length line == 0) → b ≡ false → line ≢ []
some_bytes line b test fails e = false≢true (sym fails ∙ (test ∙ ap (λ (l : List ℕ). length l == 0) e))

-- One line more is read.
pub read_more : (ls : List (List ℕ)) (place : ℕ) (known said : List KnownDigest) → place < length ls → AreRead (take place ls) known → IsSaid (get_or ls place []) said → AreRead (take (place + 1) ls) (known ++ said)
read_more ls place known said inside read is =
    subst (λ l. AreRead l (known ++ said)) (sym (take_more ls place [] inside)) (read_behind (take place ls) (get_or ls place [] ∷ []) known said read (read_one (get_or ls place []) said is))

pub all_read : (ls : List (List ℕ)) (place : ℕ) (known : List KnownDigest) → length ls ≤ place → AreRead (take place ls) known → AreRead ls known
all_read ls place known past read = subst (λ l. AreRead l known) (take_all place ls past) read

pub first_bad : (ls : List (List ℕ)) (place : ℕ) (known : List KnownDigest) → place < length ls → AreRead (take place ls) known → ((said : List KnownDigest) → ¬ (IsSaid (get_or ls place []) said)) → IsFirstBadLine ls (place + 1)
first_bad ls place known inside read bad = record { before = place; number_is = refl; inside = inside; said = known; are_read = read; bad = bad }

-- The lines of a text by its pieces.
pub lines_are : (text last : List ℕ) (pieces ended : List (List ℕ)) → pieces ≡ pieces_of text → pieces ≡ ended ++ last ∷ [] → lines text ≡ map without_cr ended ++ last ∷ []
lines_are text last pieces ended of split =
    let whole : pieces_of text ≡ ended ++ last ∷ [] = sym of ∙ split in
    let long = length-append ended (last ∷ []) in
    let count : length (pieces_of text) - 1 ≡ length ended = omega (arith, long, ap length whole) in
    let front : take (length (pieces_of text) - 1) (pieces_of text) ≡ ended = ap (λ n. take n (pieces_of text)) count ∙ (ap (take (length ended)) whole ∙ take_at ended (last ∷ []) (length ended) refl) in
    let back : drop (length (pieces_of text) - 1) (pieces_of text) ≡ last ∷ [] = ap (λ n. drop n (pieces_of text)) count ∙ (ap (drop (length ended)) whole ∙ drop_at ended (last ∷ []) (length ended) refl) in
    ap (λ l. map without_cr l ++ drop (length (pieces_of text) - 1) (pieces_of text)) front ∙ ap (λ l. map without_cr ended ++ l) back

pub no_lines : (text : List ℕ) (pieces : List (List ℕ)) → pieces ≡ pieces_of text → pieces ≡ [] → lines text ≡ []
no_lines text pieces of none =
    let whole : pieces_of text ≡ [] = sym of ∙ none in
    ap (λ (l : List (List ℕ)). map without_cr (take (length l - 1) l) ++ drop (length l - 1) l) whole

-- ---- the lines of a text, read by their references

pub ended_long : (pieces : List (Bor (List ℕ))) → length (map without_cr (seen pieces)) ≡ length pieces
ended_long pieces = length-map (seen pieces) without_cr ∙ length-map pieces (λ s. s.now)

pub ended_line : (pieces : List (Bor (List ℕ))) (place : ℕ) (d : Bor (List ℕ)) → place < length pieces → get_or (map without_cr (seen pieces)) place [] ≡ without_cr ((get_or pieces place d).now)
ended_line pieces place d inside =
    let long : length (seen pieces) ≡ length pieces = length-map pieces (λ s. s.now) in
    get_or-map without_cr (seen pieces) place [] [] (omega (arith, inside, long)) ∙ ap without_cr (get_or-map (λ (s : Bor (List ℕ)). s.now) pieces place d [] inside)

pub lines_seen : (text : List ℕ) (slices ended : List (Bor (List ℕ))) (last : Bor (List ℕ)) → seen slices ≡ pieces_of text → slices ≡ ended ++ last ∷ [] → lines text ≡ map without_cr (seen ended) ++ last.now ∷ []
lines_seen text slices ended last of split = lines_are text last.now (seen slices) (seen ended) of (ap seen split ∙ map-append (λ (s : Bor (List ℕ)). s.now) ended (last ∷ []))

-- The first bad line of the first lines is that of all.
pub bad_front : (xs ys : List (List ℕ)) (number : ℕ) → IsFirstBadLine xs number → IsFirstBadLine (xs ++ ys) number
bad_front xs ys number is = record {
  before = is.before;
  number_is = is.number_is;
  inside = omega (arith, is.inside, length-append xs ys);
  said = is.said;
  are_read = subst (λ l. AreRead l is.said) (sym (take-append-le is.before xs ys (let inside = is.inside in omega arith))) is.are_read;
  bad = λ said saying. is.bad said (subst (λ l. IsSaid l said) (get_or_append_left xs ys [] is.before is.inside) saying);
}

pub bad_last : (xs : List (List ℕ)) (line : List ℕ) (known : List KnownDigest) → AreRead xs known → ((said : List KnownDigest) → ¬ (IsSaid line said)) → IsFirstBadLine (xs ++ line ∷ []) (length xs + 1)
bad_last xs line known read bad = record {
  before = length xs;
  number_is = refl;
  inside = omega (arith, length-append xs (line ∷ []));
  said = known;
  are_read = subst (λ l. AreRead l known) (sym (take_at xs (line ∷ []) (length xs) refl)) read;
  bad = λ said saying. bad said (subst (λ l. IsSaid l said) (get_or-append_seam xs line [] []) saying);
}

pub split_parts : (line front back : List ℕ) → IsSplitAt line 64 front back → line ≡ front ++ back
split_parts line front back split = sym (take-append-drop 64 line) ∙ (ap (λ f. f ++ drop 64 line) (sym split.1) ∙ ap (λ b. front ++ b) (sym split.2))
