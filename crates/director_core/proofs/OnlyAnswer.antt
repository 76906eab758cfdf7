-- No other answer comes: the causes of two different answers never hold together.
use Rattle.std.proofs.Common.{◌≡◌, ◌≤◌, ◌⊎◌, length, arith, ℕ, List, [], ◌∷◌, refl, sym, ap, ◌∙◌, subst, inl, inr, ⊎_elim}
use Rattle.folder_core.specs.Folder.{Map}
use Rattle.folder_core.specs.Tree.{Files}
use Rattle.unit_model.specs.declared.unit.Unit.{Unit}
use Rattle.director_words.specs.declared.request.Request.TheVariants.{Install}
use Rattle.director_words.specs.declared.limit.LimitName.{LimitName}
use Rattle.director_words.specs.declared.limit.LimitName.TheVariants.{FileBytes}
use Rattle.director_words.specs.declared.source_why.SourceWhy.{SourceWhy}
use Rattle.director_words.specs.declared.status.Status.{Status}
use Rattle.director_words.specs.declared.status.Status.TheVariants.{Done, NotBuilt, Usage, SourceRefused, Unknown, FolderFault, SourceFault, SinkFault, Limit, NoMemory}
use Rattle.director_words.proofs.Requests.{same_request}
use Rattle.director_core.specs.Answer.{IsAsked, AsksFor, HasChild, Chooses, first_text, CanInstall, WantsMore, IsRefused, IsTooLong, NamesUnknown, IsAnswer, IsPlainAnswer, IsAnswerOrFault}
use Rattle.director_core.specs.Built.{IsBuilt}
use Rattle.director_core.specs.Laid.{IsBare}
use Rattle.director_core.specs.Found.{Finds}
use Rattle.director_source.proofs.Folders.{units_same, given_not_refused, refusal_same}
use Rattle.director_source.proofs.Apart.{given_apart}
use Rattle.director_core.proofs.Distinct.{found_once}

-- what holds of two holds of their equals
transp2 : {X Y : Type 0} (P : X → Y → Type 0) {x x' : X} {y y' : Y} → x ≡ x' → y ≡ y' → P x y → P x' y'
transp2 {X} {Y} P {x} {x'} {y} {y'} e f h = subst (λ (b : Y). P x' b) f (subst (λ (a : X). P a y) e h)

-- the words ask for one profile and one word
asked_same : (words : List (List ℕ)) (p q v w : List ℕ) → AsksFor words p v → AsksFor words q w → (p ≡ q) × (v ≡ w)
asked_same words p q v w a b =
    let same : Install p a.budget (v ∷ []) ≡ Install q b.budget (w ∷ []) = same_request words _ _ a.asks b.asks in
    (cc, cc)

not_bare : (m : Map) → IsBare m → HasChild m → ⊥
not_bare m is_bare child = let e = is_bare child.0 in let h = child.1 in cc

asked_by : (words : List (List ℕ)) (profile word : List ℕ) → AsksFor words profile word → IsAsked words
asked_by words profile word asks = (profile, word, asks)

-- the words choose one unit
record SameChoice (p q : List ℕ) (u v : Unit) : Type 0 where
  pub profile : p ≡ q
  pub unit : u ≡ v

chosen_same : (words : List (List ℕ)) (m : Map) (files : Files) (p q : List ℕ) (u v : Unit) → Chooses words m files p u → Chooses words m files q v → SameChoice p q u v
chosen_same words m files p q u v a b =
    let asked = asked_same words p q a.word b.word a.asks b.asks in
    let units = units_same files a.units b.units a.gives b.gives in
    let P : List ℕ → List Unit → Type 0 = λ word units. Finds word units v in
    let found : Finds a.word a.units v = transp2 P (sym asked.1) (sym units) b.finds in
    record { profile = asked.0; unit = found_once a.units a.word u v (given_apart files a.units a.gives) a.finds found }

-- a unit that is chosen is known
chosen_known : (words : List (List ℕ)) (m : Map) (files : Files) (profile : List ℕ) (unit : Unit) (word : List ℕ) → Chooses words m files profile unit → NamesUnknown words m files word → ⊥
chosen_known words m files profile unit word c n =
    let asked = asked_same words profile n.0 c.word word c.asks n.2 in
    let units = units_same files c.units n.1 c.gives n.4 in
    let P : List ℕ → List Unit → Type 0 = λ word units. Finds word units unit in
    n.5 unit (transp2 P asked.1 units c.finds)

chosen_unrefused : (words : List (List ℕ)) (m : Map) (files : Files) (profile : List ℕ) (unit : Unit) (s : Status) → Chooses words m files profile unit → IsRefused words m files s → ⊥
chosen_unrefused words m files profile unit s c r = given_not_refused files c.units s c.gives r.2

unknown_unrefused : (words : List (List ℕ)) (m : Map) (files : Files) (word : List ℕ) (s : Status) → NamesUnknown words m files word → IsRefused words m files s → ⊥
unknown_unrefused words m files word s n r = given_not_refused files n.1 s n.4 r.2

install_not_more : (words : List (List ℕ)) (m : Map) (files : Files) → CanInstall words m files → WantsMore words m files → ⊥
install_not_more words m files i w =
    ⊎_elim
    (λ child. not_bare m i.2.chooses.is_bare child)
    (λ part. let same = chosen_same words m files i.0 part.0 i.1 part.1 i.2.chooses part.2 in part.3 (subst IsBuilt same.unit i.2.is_built))
    w.1

install_not_long : (words : List (List ℕ)) (m : Map) (files : Files) → CanInstall words m files → IsTooLong words m files → ⊥
install_not_long words m files i l =
    let same = chosen_same words m files i.0 l.0 i.1 l.1 i.2.chooses l.2 in
    let P : List ℕ → Unit → Type 0 = λ profile unit. length (first_text profile unit) ≤ 67108864 in
    let fits : length (first_text l.0 l.1) ≤ 67108864 = transp2 P same.profile same.unit i.2.fits in
    let long = l.4 in
    omega arith

more_not_unknown : (words : List (List ℕ)) (m : Map) (files : Files) (word : List ℕ) → WantsMore words m files → NamesUnknown words m files word → ⊥
more_not_unknown words m files word w n =
    ⊎_elim (λ child. not_bare m n.3 child) (λ part. chosen_known words m files part.0 part.1 word part.2 n) w.1

more_not_refused : (words : List (List ℕ)) (m : Map) (files : Files) (s : Status) → WantsMore words m files → IsRefused words m files s → ⊥
more_not_refused words m files s w r =
    ⊎_elim (λ child. not_bare m r.1 child) (λ part. chosen_unrefused words m files part.0 part.1 s part.2 r) w.1

more_not_long : (words : List (List ℕ)) (m : Map) (files : Files) → WantsMore words m files → IsTooLong words m files → ⊥
more_not_long words m files w l =
    ⊎_elim
    (λ child. not_bare m l.2.is_bare child)
    (λ part. let same = chosen_same words m files part.0 l.0 part.1 l.1 part.2 l.2 in part.3 (subst IsBuilt (sym same.unit) l.3))
    w.1

long_not_unknown : (words : List (List ℕ)) (m : Map) (files : Files) (word : List ℕ) → IsTooLong words m files → NamesUnknown words m files word → ⊥
long_not_unknown words m files word l n = chosen_known words m files l.0 l.1 word l.2 n

long_not_refused : (words : List (List ℕ)) (m : Map) (files : Files) (s : Status) → IsTooLong words m files → IsRefused words m files s → ⊥
long_not_refused words m files s l r = chosen_unrefused words m files l.0 l.1 s l.2 r

refused_same : (words : List (List ℕ)) (m : Map) (files : Files) (s t : Status) → IsRefused words m files s → IsRefused words m files t → s ≡ t
refused_same words m files s t a b = refusal_same files s t a.2 b.2

unknown_same : (words : List (List ℕ)) (m : Map) (files : Files) (v w : List ℕ) → NamesUnknown words m files v → NamesUnknown words m files w → v ≡ w
unknown_same words m files v w a b = (asked_same words a.0 b.0 v w a.2 b.2).1

-- a limit, either of the source or of the text
abbrev IsLimited : List (List ℕ) → Map → Files → LimitName → ℕ → Type 0
IsLimited words m files what most = IsRefused words m files (Limit what most) ⊎ ((what ≡ FileBytes) × (most ≡ 67108864) × IsTooLong words m files)

module _ (words : List (List ℕ)) (m : Map) (files : Files) where
  install_not_limited : (what : LimitName) (most : ℕ) → CanInstall words m files → IsLimited words m files what most → ⊥
  install_not_limited what most i l = ⊎_elim (λ r. chosen_unrefused words m files i.0 i.1 _ i.2.chooses r) (λ long. install_not_long words m files i long.2) l

  more_not_limited : (what : LimitName) (most : ℕ) → WantsMore words m files → IsLimited words m files what most → ⊥
  more_not_limited what most w l = ⊎_elim (λ r. more_not_refused words m files _ w r) (λ long. more_not_long words m files w long.2) l

  unknown_not_limited : (what : LimitName) (most : ℕ) (word : List ℕ) → NamesUnknown words m files word → IsLimited words m files what most → ⊥
  unknown_not_limited what most word n l = ⊎_elim (λ r. unknown_unrefused words m files word _ n r) (λ long. long_not_unknown words m files word long.2 n) l

  refused_not_limited : (folder : List ℕ) (why : SourceWhy) (what : LimitName) (most : ℕ) → IsRefused words m files (SourceRefused folder why) → IsLimited words m files what most → ⊥
  refused_not_limited folder why what most r l =
      ⊎_elim
      (λ other. let e : SourceRefused folder why ≡ Limit what most = refused_same words m files _ _ r other in cc)
      (λ long. long_not_refused words m files _ long.2 r)
      l

  limits_same : (what other : LimitName) (most more : ℕ) → IsLimited words m files what most → IsLimited words m files other more → Limit what most ≡ Limit other more
  limits_same what other most more a b =
      ⊎_elim
      (λ r. ⊎_elim (λ s. refused_same words m files _ _ r s) (λ long. absurd (long_not_refused words m files _ long.2 r)) b)
      (λ long. ⊎_elim
      (λ s. absurd (long_not_refused words m files _ long.2 s))
      (λ again. let names = long.0 ∙ sym again.0 in let counts = long.1 ∙ sym again.1 in λ i. Limit (names i) (counts i))
      b)
      a

  asked_of_install : CanInstall words m files → IsAsked words
  asked_of_install i = asked_by words i.0 i.2.chooses.word i.2.chooses.asks

  asked_of_unknown : (word : List ℕ) → NamesUnknown words m files word → IsAsked words
  asked_of_unknown word n = asked_by words n.0 word n.2

  asked_of_limit : (what : LimitName) (most : ℕ) → IsLimited words m files what most → IsAsked words
  asked_of_limit what most l = ⊎_elim (λ r. r.0) (λ long. asked_by words long.2.0 long.2.2.word long.2.2.asks) l

pub only_answer : (words : List (List ℕ)) (m : Map) (files : Files) (r : Status) → IsAnswer words m files r → (answer : Status) → IsPlainAnswer answer → IsAnswer words m files answer → IsAnswerOrFault answer r
only_answer words m files Done a Done p b = inl refl
only_answer words m files Done a NotBuilt p b = absurd (install_not_more words m files a b)
only_answer words m files Done a Usage p b = absurd (b (asked_of_install words m files a))
only_answer words m files Done a (SourceRefused place cause) p b = absurd (chosen_unrefused words m files a.0 a.1 _ a.2.chooses b)
only_answer words m files Done a (Unknown w) p b = absurd (chosen_known words m files a.0 a.1 w a.2.chooses b)
only_answer words m files Done a (Limit other more) p b = absurd (install_not_limited words m files other more a b)
only_answer words m files Done a (FolderFault after) p b = absurd p
only_answer words m files Done a SourceFault p b = absurd p
only_answer words m files Done a (SinkFault committed) p b = absurd p
only_answer words m files Done a (NoMemory after) p b = absurd p
only_answer words m files NotBuilt a Done p b = absurd (install_not_more words m files b a)
only_answer words m files NotBuilt a NotBuilt p b = inl refl
only_answer words m files NotBuilt a Usage p b = absurd (b (a.0))
only_answer words m files NotBuilt a (SourceRefused place cause) p b = absurd (more_not_refused words m files _ a b)
only_answer words m files NotBuilt a (Unknown w) p b = absurd (more_not_unknown words m files w a b)
only_answer words m files NotBuilt a (Limit other more) p b = absurd (more_not_limited words m files other more a b)
only_answer words m files NotBuilt a (FolderFault after) p b = absurd p
only_answer words m files NotBuilt a SourceFault p b = absurd p
only_answer words m files NotBuilt a (SinkFault committed) p b = absurd p
only_answer words m files NotBuilt a (NoMemory after) p b = absurd p
only_answer words m files Usage a Done p b = absurd (a (asked_of_install words m files b))
only_answer words m files Usage a NotBuilt p b = absurd (a (b.0))
only_answer words m files Usage a Usage p b = inl refl
only_answer words m files Usage a (SourceRefused place cause) p b = absurd (a (b.0))
only_answer words m files Usage a (Unknown w) p b = absurd (a (asked_of_unknown words m files w b))
only_answer words m files Usage a (Limit other more) p b = absurd (a (asked_of_limit words m files other more b))
only_answer words m files Usage a (FolderFault after) p b = absurd p
only_answer words m files Usage a SourceFault p b = absurd p
only_answer words m files Usage a (SinkFault committed) p b = absurd p
only_answer words m files Usage a (NoMemory after) p b = absurd p
only_answer words m files (SourceRefused folder why) a Done p b = absurd (chosen_unrefused words m files b.0 b.1 _ b.2.chooses a)
only_answer words m files (SourceRefused folder why) a NotBuilt p b = absurd (more_not_refused words m files _ b a)
only_answer words m files (SourceRefused folder why) a Usage p b = absurd (b (a.0))
only_answer words m files (SourceRefused folder why) a (SourceRefused place cause) p b = inl (refused_same words m files _ _ a b)
only_answer words m files (SourceRefused folder why) a (Unknown w) p b = absurd (unknown_unrefused words m files w _ b a)
only_answer words m files (SourceRefused folder why) a (Limit other more) p b = absurd (refused_not_limited words m files folder why other more a b)
only_answer words m files (SourceRefused folder why) a (FolderFault after) p b = absurd p
only_answer words m files (SourceRefused folder why) a SourceFault p b = absurd p
only_answer words m files (SourceRefused folder why) a (SinkFault committed) p b = absurd p
only_answer words m files (SourceRefused folder why) a (NoMemory after) p b = absurd p
only_answer words m files (Unknown v) a Done p b = absurd (chosen_known words m files b.0 b.1 v b.2.chooses a)
only_answer words m files (Unknown v) a NotBuilt p b = absurd (more_not_unknown words m files v b a)
only_answer words m files (Unknown v) a Usage p b = absurd (b (asked_of_unknown words m files v a))
only_answer words m files (Unknown v) a (SourceRefused place cause) p b = absurd (unknown_unrefused words m files v _ a b)
only_answer words m files (Unknown v) a (Unknown w) p b = inl (ap (λ (x : List ℕ). Unknown x) (unknown_same words m files v w a b))
only_answer words m files (Unknown v) a (Limit other more) p b = absurd (unknown_not_limited words m files other more v a b)
only_answer words m files (Unknown v) a (FolderFault after) p b = absurd p
only_answer words m files (Unknown v) a SourceFault p b = absurd p
only_answer words m files (Unknown v) a (SinkFault committed) p b = absurd p
only_answer words m files (Unknown v) a (NoMemory after) p b = absurd p
only_answer words m files (Limit what most) a Done p b = absurd (install_not_limited words m files what most b a)
only_answer words m files (Limit what most) a NotBuilt p b = absurd (more_not_limited words m files what most b a)
only_answer words m files (Limit what most) a Usage p b = absurd (b (asked_of_limit words m files what most a))
only_answer words m files (Limit what most) a (SourceRefused place cause) p b = absurd (refused_not_limited words m files place cause what most b a)
only_answer words m files (Limit what most) a (Unknown w) p b = absurd (unknown_not_limited words m files what most w b a)
only_answer words m files (Limit what most) a (Limit other more) p b = inl (limits_same words m files what other most more a b)
only_answer words m files (Limit what most) a (FolderFault after) p b = absurd p
only_answer words m files (Limit what most) a SourceFault p b = absurd p
only_answer words m files (Limit what most) a (SinkFault committed) p b = absurd p
only_answer words m files (Limit what most) a (NoMemory after) p b = absurd p
only_answer words m files (FolderFault after) a answer p b = inr (λ x. x)
only_answer words m files SourceFault a answer p b = inr (λ x. x)
only_answer words m files (SinkFault committed) a answer p b = inr (λ x. x)
only_answer words m files (NoMemory after) a answer p b = inr (λ x. x)
