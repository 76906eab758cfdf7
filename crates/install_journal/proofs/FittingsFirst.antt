-- The first path at which something stands that isn't in the plan, directly below one that is.
use Rattle.std.proofs.Common.{◌≡◌, ℕ, ◌+◌, ◌<◌, ◌≤◌, List, [], ◌∷◌, ◌++◌, length, get_or, Option, Some, None, ◌⊎◌, inl, inr, refl, sym, ◌∙◌, ap, subst, arith, length-append}
use Rattle.std.specs.Prelude.{IsSome}
use Rattle.std.proofs.lemmas.Bool.{cases_eq, cases_lt, false≢true}
use Rattle.std.proofs.lemmas.List.{get_or_default}
use Rattle.folder_core.specs.Crash.{IsImage}
use Rattle.folder_core.specs.Folder.{Map, Told, IsFormed, IsKid}
use Rattle.folder_core.specs.Name.{AreRising, AreThose}
use Rattle.folder_core.specs.PathOrder.{IsPathBefore}
use Rattle.folder_core.specs.Step.{OnTold, Step}
use Rattle.folder_core.specs.declared.node.Node.{Node}
use Rattle.install_journal.specs.Firsts.{IsFirst, Finds, IsEarlier}
use Rattle.install_journal.specs.Fitting.{AreInOrder, HasOldest, IsChildIfUncovered, IsBareChild, IsBare}
use Rattle.install_journal.specs.Looks.{Looks, OnlyLooks}
use Rattle.install_journal.specs.declared.plan.Oldest.{Oldest}
use Rattle.install_journal.proofs.Firsts.{is_some_dir}
use Rattle.install_journal.proofs.Runs.{step_same}
use Rattle.install_journal.proofs.FittingsOrder.{children_rise, no_oldest}
use Rattle.install_journal.proofs.Orders.{not_before_itself, one_way, finds_earlier}

pub stands_at : (stands : Option Node) → IsSome stands → (node : Node) × (stands ≡ Some node)
stands_at None none = absurd (false≢true none)
stands_at (Some node) some = (node, refl)

module _ (oldest : List Oldest) (m : Map) (above : List (List ℕ)) (formed : IsFormed m) where
  not_bare : (name : List ℕ) → (length above ≡ 64) ⊎ HasOldest oldest (above ++ name ∷ []) → ¬ (IsBareChild oldest m above (above ++ name ∷ []))
  not_bare name (inl full) bare =
      let node = stands_at (m (above ++ name ∷ [])) bare.stands in
      let short = (formed.paths (above ++ name ∷ []) node.0 node.1).short in
      absurd (omega (arith, full, short, length-append above (name ∷ [])))
  not_bare name (inr has) bare = bare.bare has

  module _ (names : List (List ℕ)) (those : AreThose (IsKid m above) names) where
    -- a child without an entry is one of those that are listed
    kid_at : (path : List (List ℕ)) → IsBareChild oldest m above path → (k : ℕ) × (k < length names) × (path ≡ above ++ get_or names k [] ∷ [])
    kid_at path bare =
        let stands : IsSome (m (above ++ bare.name ∷ [])) = subst (λ (p : List (List ℕ)). IsSome (m p)) bare.child bare.stands in
        let at = (those bare.name).1 (record { directory = is_some_dir m above bare.name formed stands; stands = stands }) in
        let same : get_or names at.0 [] ≡ bare.name = get_or_default names at.0 [] bare.name at.1 ∙ at.2 in
        (at.0, at.1, bare.child ∙ ap (λ (n : List ℕ). above ++ n ∷ []) (sym same))

    no_bare : ((k : ℕ) → k < length names → ¬ (IsBareChild oldest m above (above ++ get_or names k [] ∷ []))) → (path : List (List ℕ)) → ¬ (IsBareChild oldest m above path)
    no_bare none path bare = let at = kid_at path bare in none at.0 at.1 (subst (IsBareChild oldest m above) at.2 bare)

    module _ (rising : AreRising names) (place : ℕ) (below : place < length names)
        (none : (k : ℕ) → k < place → ¬ (IsBareChild oldest m above (above ++ get_or names k [] ∷ [])))
        (path : List (List ℕ)) (child : path ≡ above ++ get_or names place [] ∷ []) (bare : ¬ (HasOldest oldest path)) where
      none_before : (other : List (List ℕ)) (k : ℕ) → k < length names → other ≡ above ++ get_or names k [] ∷ [] → IsBareChild oldest m above other → ¬ (IsPathBefore other path)
      none_before other k under same is before = elim (cases_lt k place) [
        | inl earlier ↦ none k earlier (subst (IsBareChild oldest m above) same is)
        | inr later ↦ elim (cases_eq k place) [
          | inl here ↦
              let alike : other ≡ path = same ∙ ap (λ (n : ℕ). above ++ get_or names n [] ∷ []) here ∙ sym child in
              not_before_itself path (subst (λ (p : List (List ℕ)). IsPathBefore p path) alike before)
          | inr apart ↦
              let rises : IsPathBefore path other = subst (λ (p : List (List ℕ)). IsPathBefore p other) (sym child) (subst (IsPathBefore (above ++ get_or names place [] ∷ [])) (sym same) (children_rise above names rising place k (omega arith) under)) in
              one_way path other rises before
        ]
      ]

      first_bare : IsFirst (IsBareChild oldest m above) path
      first_bare = record {
        has = record {
          name = get_or names place [];
          child = child;
          stands = subst (λ (p : List (List ℕ)). IsSome (m p)) (sym child) ((those (get_or names place [])).0 (place, below, get_or_default names place (get_or names place []) [] below)).stands;
          bare = bare;
        };
        first = λ other is. let at = kid_at other is in none_before other at.0 at.1 at.2 is;
      }

pub covered_told : (told : Option Told) (oldest : List Oldest) (above : List (List ℕ)) → OnTold told (λ s. IsImage s s.now)
    → (name : List ℕ) (child : Option (List (List ℕ))) → child ≡ None → (AreInOrder oldest → IsChildIfUncovered oldest above name child)
    → OnTold told (λ s. AreInOrder oldest → ¬ (IsBareChild oldest s.now above (above ++ name ∷ [])))
covered_told None oldest above image name child is known = tt
covered_told (Some s) oldest above image name child is known = λ rising. not_bare oldest s.now above image.formed name (subst (IsChildIfUncovered oldest above name) is (known rising))

module _ (told : Option Told) (oldest : List Oldest) (above : List (List ℕ)) (names : List (List ℕ)) (place : ℕ)
    (image : OnTold told (λ s. IsImage s s.now)) (those : OnTold told (λ s. AreThose (IsKid s.now above) names))
    (none : (k : ℕ) → k < place → OnTold told (λ s. AreInOrder oldest → ¬ (IsBareChild oldest s.now above (above ++ get_or names k [] ∷ [])))) where
  pub none_told : length names ≤ place → OnTold told (λ s. AreInOrder oldest → Finds (IsBareChild oldest s.now above) None)
  none_told all = go told image those none
    where
      go : (told : Option Told) → OnTold told (λ s. IsImage s s.now) → OnTold told (λ s. AreThose (IsKid s.now above) names)
          → ((k : ℕ) → k < place → OnTold told (λ s. AreInOrder oldest → ¬ (IsBareChild oldest s.now above (above ++ get_or names k [] ∷ []))))
          → OnTold told (λ s. AreInOrder oldest → Finds (IsBareChild oldest s.now above) None)
      go None image those none = tt
      go (Some s) image those none = λ rising. no_bare oldest s.now above image.formed names those (λ k under. none k (omega (arith, under, all)) rising)

  pub some_told : AreRising names → place < length names → (name : List ℕ) (child : Option (List (List ℕ))) → name ≡ get_or names place [] → IsSome child → (AreInOrder oldest → IsChildIfUncovered oldest above name child)
      → OnTold told (λ s. AreInOrder oldest → Finds (IsBareChild oldest s.now above) child)
  some_told up below name None at some known = absurd (false≢true some)
  some_told up below name (Some path) at some known = go told image those none
    where
      go : (told : Option Told) → OnTold told (λ s. IsImage s s.now) → OnTold told (λ s. AreThose (IsKid s.now above) names)
          → ((k : ℕ) → k < place → OnTold told (λ s. AreInOrder oldest → ¬ (IsBareChild oldest s.now above (above ++ get_or names k [] ∷ []))))
          → OnTold told (λ s. AreInOrder oldest → Finds (IsBareChild oldest s.now above) (Some path))
      go None image those none = tt
      go (Some s) image those none = λ rising.
          first_bare oldest s.now above image.formed names those up place below (λ k under. none k under rising) path
          ((known rising).0 ∙ ap (λ (n : List ℕ). above ++ n ∷ []) at) (known rising).1

-- of two that are first among some, the earlier is first among both
pub finds_alike : (P Q : List (List ℕ) → Type 0) → ((path : List (List ℕ)) → P path → Q path) → ((path : List (List ℕ)) → Q path → P path) → (found : Option (List (List ℕ))) → Finds P found → Finds Q found
finds_alike P Q to back None finds = λ path has. finds path (back path has)
finds_alike P Q to back (Some path) finds = record { has = to path finds.has; first = λ other has. finds.first other (back other has) }

-- below one of the plan's first paths
pub record IsBareAmong (oldest : List Oldest) (m : Map) (count : ℕ) (path : List (List ℕ)) : Type 0 where
  pub place : ℕ
  pub below : place < count
  pub child : IsBareChild oldest m (get_or oldest place no_oldest).path path

module _ (oldest : List Oldest) (m : Map) where
  one_more : (count : ℕ) (path : List (List ℕ)) → IsBareAmong oldest m (count + 1) path → IsBareAmong oldest m count path ⊎ IsBareChild oldest m (get_or oldest count no_oldest).path path
  one_more count path bare = elim (cases_lt bare.place count) [
    | inl less ↦ inl (record { place = bare.place; below = less; child = bare.child })
    | inr more ↦
        let below = bare.below in
        let here : bare.place ≡ count = omega (arith, below, more) in
        inr (subst (λ (n : ℕ). IsBareChild oldest m (get_or oldest n no_oldest).path path) here bare.child)
  ]

  pub among_more : (count : ℕ) (a b found : Option (List (List ℕ))) → Finds (IsBareAmong oldest m count) a → Finds (IsBareChild oldest m (get_or oldest count no_oldest).path) b → IsEarlier a b found
      → Finds (IsBareAmong oldest m (count + 1)) found
  among_more count a b found first second is = finds_earlier (IsBareAmong oldest m count) (IsBareChild oldest m (get_or oldest count no_oldest).path) (IsBareAmong oldest m (count + 1))
      (λ path bare. let below = bare.below in record { place = bare.place; below = omega (arith, below); child = bare.child })
      (λ path child. record { place = count; below = omega arith; child = child })
      (λ path bare. (path, (one_more count path bare, not_before_itself path)))
      a b found first second is

  pub among_none : Finds (IsBareAmong oldest m 0) None
  among_none path bare = let below = bare.below in absurd (omega (arith, below))

  pub among_all : (count : ℕ) (found : Option (List (List ℕ))) → count ≡ length oldest → Finds (IsBareAmong oldest m count) found → Finds (IsBare oldest m) found
  among_all count found all finds = finds_alike (IsBareAmong oldest m count) (IsBare oldest m) to back found finds
    where
      to : (path : List (List ℕ)) → IsBareAmong oldest m count path → IsBare oldest m path
      to path bare =
          let below = bare.below in
          let under : bare.place < length oldest = omega (arith, below, all) in
          (get_or oldest bare.place no_oldest, ((bare.place, under, get_or_default oldest bare.place (get_or oldest bare.place no_oldest) no_oldest under), bare.child))

      back : (path : List (List ℕ)) → IsBare oldest m path → IsBareAmong oldest m count path
      back path (one, ((k, below, at), child)) =
          let same : get_or oldest k no_oldest ≡ one = get_or_default oldest k no_oldest one below ∙ at in
          record { place = k; below = omega (arith, below, all); child = subst (λ (o : Oldest). IsBareChild oldest m o.path path) (sym same) child }

looks_same_at : (told : Option Told) (since : ℕ → Map → Type 0) → Step told told (Looks since since)
looks_same_at told since = step_same told (Looks since since) (λ s. record {
  now = refl;
  synced = refl;
  touched = refl;
  time = record { later = omega arith; nothing_else = λ moment m earlier left. inl left; keeps = λ moment m earlier left. left };
})

-- before the first look
pub looks_same : {D : Type 0} (told : D → Option Told) (left_since : D → ℕ → Map → Type 0) (d : D) → OnlyLooks told left_since d d
looks_same told left_since d = looks_same_at (told d) (left_since d)

-- what is known now of what was told before
pub among_told : (told : Option Told) (oldest : List Oldest) (count : ℕ) (one : Oldest) (a b found : Option (List (List ℕ))) → count < length oldest → one ≡ get_or oldest count one
    → OnTold told (λ s. AreInOrder oldest → Finds (IsBareAmong oldest s.now count) a)
    → OnTold told (λ s. AreInOrder oldest → Finds (IsBareChild oldest s.now one.path) b)
    → IsEarlier a b found
    → OnTold told (λ s. AreInOrder oldest → Finds (IsBareAmong oldest s.now (count + 1)) found)
among_told None oldest count one a b found below at first second is = tt
among_told (Some s) oldest count one a b found below at first second is = λ rising.
    let same : one ≡ get_or oldest count no_oldest = at ∙ get_or_default oldest count one no_oldest below in
    among_more oldest s.now count a b found (first rising) (subst (λ (o : Oldest). Finds (IsBareChild oldest s.now o.path) b) same (second rising)) is

pub among_none_told : (told : Option Told) (oldest : List Oldest) → OnTold told (λ s. AreInOrder oldest → Finds (IsBareAmong oldest s.now 0) None)
among_none_told None oldest = tt
among_none_told (Some s) oldest = λ rising. among_none oldest s.now

pub among_all_told : (told : Option Told) (oldest : List Oldest) (count : ℕ) (found : Option (List (List ℕ))) → count ≡ length oldest
    → OnTold told (λ s. AreInOrder oldest → Finds (IsBareAmong oldest s.now count) found)
    → OnTold told (λ s. AreInOrder oldest → Finds (IsBare oldest s.now) found)
among_all_told None oldest count found all finds = tt
among_all_told (Some s) oldest count found all finds = λ rising. among_all oldest s.now count found all (finds rising)
