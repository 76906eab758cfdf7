-- What the journal didn't put there.
use Rattle.std.proofs.Common.{◌≡◌, ℕ, ◌<◌, ◌≤◌, Bool, false, List, [], ◌∷◌, ◌++◌, length, get_or, Option, Some, None, ◌⊎◌, inl, inr, ⊎_elim, refl, sym, ◌∙◌, ap, subst, arith, codes, append_assoc}
use Rattle.std.specs.Prelude.{IsSome, is_some}
use Rattle.std.proofs.lemmas.Bool.{false≢true}
use Rattle.std.proofs.lemmas.List.{get_or_default}
use Rattle.folder_core.specs.Folder.{Map, Told, IsFormed, IsKid}
use Rattle.folder_core.specs.Crash.{IsImage}
use Rattle.folder_core.specs.Name.{IsBefore, AreRising, AreThose}
use Rattle.folder_core.specs.Node.{entries_path}
use Rattle.folder_core.specs.PathOrder.{IsPathBefore}
use Rattle.folder_core.specs.Step.{OnTold, Step}
use Rattle.folder_core.specs.declared.node.Node.{Node}
use Rattle.folder_core.specs.declared.node.Node.TheVariants.{Dir}
use Rattle.install_journal.specs.Firsts.{IsFirst, Finds, IsEarlier}
use Rattle.install_journal.specs.Looks.{Looks, OnlyLooks}
use Rattle.install_journal.specs.Preparing.{IsChild, IsChildOf, IsStrayChild, IsBelowEntry, IsDamage, journal_path}
use Rattle.backup_store.specs.Places.{gate_path}
use Rattle.install_journal.proofs.Closings.{nothing_below_other}
use Rattle.install_journal.proofs.Firsts.{is_some_dir}
use Rattle.install_journal.proofs.Opens.{image_back}
use Rattle.install_journal.proofs.Orders.{before_below, finds_earlier, lower_place, not_above, not_before_itself}
use Rattle.install_journal.proofs.Runs.{on_each, on_both, step_then}

pub found_none : {X : Type 0} (found : Option X) (tested : Bool) → tested ≡ is_some found → tested ≡ false → found ≡ None
found_none None tested is nope = refl
found_none (Some x) tested is nope = absurd (false≢true (sym nope ∙ is))

looks_elapse : (a b d : ℕ → Map → Type 0) (s t u : Told) → Looks a b s t → Looks b d t u → Looks a d s u
looks_elapse a b d s t u first second = record {
  now = second.now ∙ first.now;
  synced = second.synced ∙ first.synced;
  touched = second.touched ∙ first.touched;
  time = record {
    later = omega (arith, first.time.later, second.time.later);
    nothing_else = λ moment m earlier left. ⊎_elim
        (λ had. ⊎_elim (λ was. inl was) (λ image. inr (image_back u t m (sym second.synced) (sym second.touched) image)) (first.time.nothing_else moment m earlier had))
        (λ image. inr image)
        (second.time.nothing_else moment m (omega (arith, earlier, first.time.later)) left);
    keeps = λ moment m earlier left. second.time.keeps moment m (omega (arith, earlier, first.time.later)) (first.time.keeps moment m earlier left);
  };
}

back_at : (a b : Option Told) (past since : ℕ → Map → Type 0) (P : Map → Type 0) → Step a b (Looks past since) → OnTold b (λ t. P t.now) → OnTold a (λ s. P s.now)
back_at None b past since P looks holds = tt
back_at (Some s) None past since P looks holds = absurd looks
back_at (Some s) (Some t) past since P looks holds = subst P looks.now holds

module _ {D : Type 0} (told : D → Option Told) (left_since : D → ℕ → Map → Type 0) where
  pub looks_then : (old mid new : D) → OnlyLooks told left_since old mid → OnlyLooks told left_since mid new → OnlyLooks told left_since old new
  looks_then old mid new first second = step_then (told old) (told mid) (told new) (Looks (left_since old) (left_since mid)) (Looks (left_since mid) (left_since new)) (Looks (left_since old) (left_since new))
      first second (λ s t u p q. looks_elapse (left_since old) (left_since mid) (left_since new) s t u p q)

  -- what holds of the map after looking held before
  pub looks_back : (old new : D) (P : Map → Type 0) → OnlyLooks told left_since old new → OnTold (told new) (λ t. P t.now) → OnTold (told old) (λ s. P s.now)
  looks_back old new P looks holds = back_at (told old) (told new) (left_since old) (left_since new) P looks holds

pub name_at : (names : List (List ℕ)) (place : ℕ) (name : List ℕ) → place < length names → name ≡ get_or names place name → name ≡ get_or names place []
name_at names place name below is = is ∙ get_or_default names place name [] below

none_below : (m : Map) (path : List (List ℕ)) (names : List (List ℕ)) → IsFormed m → AreThose (IsKid m path) names
    → ((place : ℕ) → place < length names → IsChild m (path ++ get_or names place [] ∷ []) None)
    → (name next : List ℕ) → IsSome (m ((path ++ name ∷ []) ++ next ∷ [])) → ⊥
none_below m path names formed those none name next some =
    let dir : m (path ++ name ∷ []) ≡ Some Dir = is_some_dir m (path ++ name ∷ []) next formed some in
    let stands : IsSome (m (path ++ name ∷ [])) = ap is_some dir in
    let kid : IsKid m path name = record { directory = is_some_dir m path name formed stands; stands = stands } in
    let at = (those name).1 kid in
    let same : get_or names at.0 [] ≡ name = get_or_default names at.0 [] name at.1 ∙ at.2 in
    let gone : m ((path ++ name ∷ []) ++ next ∷ []) ≡ None = subst (λ (n : List ℕ). m ((path ++ n ∷ []) ++ next ∷ []) ≡ None) same (none at.0 at.1 next) in
    false≢true (ap is_some (sym gone) ∙ some)

each_at : (told : Option Told) (P : ℕ → Told → Type 0) (count : ℕ) → ((place : ℕ) → place < count → OnTold told (P place)) → OnTold told (λ s. (place : ℕ) → place < count → P place s)
each_at None P count each = tt
each_at (Some s) P count each = each

pub below_none : (told : Option Told) (entries : List (List ℕ)) (names : List (List ℕ)) (place : ℕ) → entries ≡ entries_path → OnTold told (λ s. IsImage s s.now) → OnTold told (λ s. AreThose (IsKid s.now entries) names)
    → ((i : ℕ) → i < place → OnTold told (λ s. IsChild s.now (entries ++ get_or names i [] ∷ []) None)) → length names ≤ place
    → OnTold told (λ s. Finds (IsBelowEntry s.now) None)
below_none told entries names place is image those none all =
    on_each told (λ s. (IsImage s s.now × AreThose (IsKid s.now entries) names) × ((i : ℕ) → i < place → IsChild s.now (entries ++ get_or names i [] ∷ []) None)) (λ s. Finds (IsBelowEntry s.now) None)
    (λ s here path below.
    none_below s.now entries names here.0.0.formed here.0.1 (λ i under. here.1 i (omega arith)) below.1.0 below.1.1.0
    (subst (λ (p : List (List ℕ)). IsSome (s.now p)) (below.1.1.1 ∙ ap (λ (p : List (List ℕ)). (p ++ below.1.0 ∷ []) ++ below.1.1.0 ∷ []) (sym is)) below.0))
    (on_both told (λ s. IsImage s s.now × AreThose (IsKid s.now entries) names) (λ s. (i : ℕ) → i < place → IsChild s.now (entries ++ get_or names i [] ∷ []) None)
    (on_both told (λ s. IsImage s s.now) (λ s. AreThose (IsKid s.now entries) names) image those)
    (each_at told (λ i s. IsChild s.now (entries ++ get_or names i [] ∷ []) None) place none))

pub stray_none : (told : Option Told) (journal : List (List ℕ)) (names : List (List ℕ)) (place : ℕ) → journal ≡ journal_path → OnTold told (λ s. IsImage s s.now) → OnTold told (λ s. AreThose (IsKid s.now journal) names)
    → ((i : ℕ) → i < place → (get_or names i [] ≡ codes "undo") ⊎ (get_or names i [] ≡ codes "e")) → length names ≤ place
    → OnTold told (λ s. Finds (IsStrayChild s.now) None)
stray_none told journal names place is image those own all =
    on_each told (λ s. IsImage s s.now × AreThose (IsKid s.now journal) names) (λ s. Finds (IsStrayChild s.now) None)
    (λ s here path stray.
    let name = stray.1.0 in
    let some : IsSome (s.now (journal ++ name ∷ [])) = subst (λ (p : List (List ℕ)). IsSome (s.now p)) (stray.1.1.0 ∙ ap (λ (p : List (List ℕ)). p ++ name ∷ []) (sym is)) stray.0 in
    let at = (here.1 name).1 (record { directory = is_some_dir s.now journal name here.0.formed some; stands = some }) in
    let same : get_or names at.0 [] ≡ name = get_or_default names at.0 [] name at.1 ∙ at.2 in
    ⊎_elim (λ undo. stray.1.1.1.0 (sym same ∙ undo)) (λ e. stray.1.1.1.1 (sym same ∙ e)) (own at.0 (omega (arith, at.1))))
    (on_both told (λ s. IsImage s s.now) (λ s. AreThose (IsKid s.now journal) names) image those)

some_none : (stands : Option Node) → stands ≡ None → IsSome stands → ⊥
some_none stands none some = false≢true (ap is_some (sym none) ∙ some)

-- the child with the first name that isn't the journal's own is the first stray one
pub stray_some : (told : Option Told) (journal found : List (List ℕ)) (names : List (List ℕ)) (place : ℕ) → journal ≡ journal_path → OnTold told (λ s. IsImage s s.now) → AreRising names → OnTold told (λ s. AreThose (IsKid s.now journal) names)
    → ((i : ℕ) → i < place → (get_or names i [] ≡ codes "undo") ⊎ (get_or names i [] ≡ codes "e")) → place < length names → ¬ ((get_or names place [] ≡ codes "undo") ⊎ (get_or names place [] ≡ codes "e")) → found ≡ journal ++ get_or names place [] ∷ []
    → OnTold told (λ s. Finds (IsStrayChild s.now) (Some found))
stray_some told journal found names place is image rising those own below other same =
    on_each told (λ s. IsImage s s.now × AreThose (IsKid s.now journal) names) (λ s. Finds (IsStrayChild s.now) (Some found))
    (λ s here.
    let name = get_or names place [] in
    let at_name : found ≡ journal_path ++ name ∷ [] = same ∙ ap (λ (p : List (List ℕ)). p ++ name ∷ []) is in
    let kid = (here.1 name).0 (place, below, get_or_default names place name [] below) in
    record {
      has = (subst (λ (p : List (List ℕ)). IsSome (s.now p)) (sym same) kid.stands, (name, (at_name, ((λ undo. other (inl undo)), (λ e. other (inr e))))));
      first = λ path stray before.
          let next = stray.1.0 in
          let some : IsSome (s.now (journal ++ next ∷ [])) = subst (λ (p : List (List ℕ)). IsSome (s.now p)) (stray.1.1.0 ∙ ap (λ (p : List (List ℕ)). p ++ next ∷ []) (sym is)) stray.0 in
          let at = (here.1 next).1 (record { directory = is_some_dir s.now journal next here.0.formed some; stands = some }) in
          let as_next : get_or names at.0 [] ≡ next = get_or_default names at.0 [] next at.1 ∙ at.2 in
          let earlier : IsPathBefore (journal_path ++ next ∷ []) (journal_path ++ name ∷ []) =
          subst (λ (p : List (List ℕ)). IsPathBefore p (journal_path ++ name ∷ [])) stray.1.1.0 (subst (λ (p : List (List ℕ)). IsPathBefore path p) at_name before) in
          ⊎_elim
          (λ less. ⊎_elim (λ undo. stray.1.1.1.0 (sym as_next ∙ undo)) (λ e. stray.1.1.1.1 (sym as_next ∙ e))
          (own at.0 (lower_place names rising place at.0 at.1 (subst (λ (n : List ℕ). IsBefore n name) (sym as_next) less))))
          (λ tied. not_before_itself [] tied.1)
          (before_below journal_path next name [] [] earlier);
    })
    (on_both told (λ s. IsImage s s.now) (λ s. AreThose (IsKid s.now journal) names) image those)

-- the first child of the first entry that has one is the first path below an entry
first_below : (m : Map) (names : List (List ℕ)) (place : ℕ) (found : List (List ℕ)) → IsFormed m → AreRising names → AreThose (IsKid m entries_path) names
    → ((i : ℕ) → i < place → IsChild m (entries_path ++ get_or names i [] ∷ []) None) → place < length names → IsFirst (IsChildOf m (entries_path ++ get_or names place [] ∷ [])) found
    → IsFirst (IsBelowEntry m) found
first_below m names place found formed rising those none below child =
    let name = get_or names place [] in
    let at_found : found ≡ entries_path ++ name ∷ child.has.1.0 ∷ [] = child.has.1.1 in
    record {
      has = (child.has.0, (name, (child.has.1.0, at_found)));
      first = λ path under before.
          let other = under.1.0 in
          let next = under.1.1.0 in
          let deep : IsSome (m ((entries_path ++ other ∷ []) ++ next ∷ [])) = subst (λ (p : List (List ℕ)). IsSome (m p)) under.1.1.1 under.0 in
          let dir : m (entries_path ++ other ∷ []) ≡ Some Dir = is_some_dir m (entries_path ++ other ∷ []) next formed deep in
          let stands : IsSome (m (entries_path ++ other ∷ [])) = ap is_some dir in
          let at = (those other).1 (record { directory = is_some_dir m entries_path other formed stands; stands = stands }) in
          let as_other : get_or names at.0 [] ≡ other = get_or_default names at.0 [] other at.1 ∙ at.2 in
          let earlier : IsPathBefore (entries_path ++ other ∷ next ∷ []) (entries_path ++ name ∷ child.has.1.0 ∷ []) =
          subst (λ (p : List (List ℕ)). IsPathBefore p (entries_path ++ name ∷ child.has.1.0 ∷ [])) under.1.1.1 (subst (λ (p : List (List ℕ)). IsPathBefore path p) at_found before) in
          ⊎_elim
          (λ less.
          let lower = lower_place names rising place at.0 at.1 (subst (λ (n : List ℕ). IsBefore n name) (sym as_other) less) in
          some_none (m (entries_path ++ other ∷ next ∷ [])) (subst (λ (n : List ℕ). m (entries_path ++ n ∷ next ∷ []) ≡ None) as_other (none at.0 lower next)) deep)
          (λ tied. child.first path (under.0, (next, under.1.1.1 ∙ ap (λ (n : List ℕ). entries_path ++ n ∷ next ∷ []) tied.0)) before)
          (before_below entries_path other name (next ∷ []) (child.has.1.0 ∷ []) earlier);
    }

below_some : (told : Option Told) (entries found : List (List ℕ)) (names : List (List ℕ)) (place : ℕ) → entries ≡ entries_path → OnTold told (λ s. IsImage s s.now) → AreRising names → OnTold told (λ s. AreThose (IsKid s.now entries) names)
    → ((i : ℕ) → i < place → OnTold told (λ s. IsChild s.now (entries ++ get_or names i [] ∷ []) None)) → place < length names → OnTold told (λ s. IsChild s.now (entries ++ get_or names place [] ∷ []) (Some found))
    → OnTold told (λ s. Finds (IsBelowEntry s.now) (Some found))
below_some told entries found names place is image rising those none below child =
    on_each told (λ s. (IsImage s s.now × AreThose (IsKid s.now entries) names) × (((i : ℕ) → i < place → IsChild s.now (entries ++ get_or names i [] ∷ []) None) × IsChild s.now (entries ++ get_or names place [] ∷ []) (Some found))) (λ s. Finds (IsBelowEntry s.now) (Some found))
    (λ s here.
    first_below s.now names place found here.0.0.formed rising
    (subst (λ (p : List (List ℕ)). AreThose (IsKid s.now p) names) is here.0.1)
    (subst (λ (p : List (List ℕ)). (i : ℕ) → i < place → IsChild s.now (p ++ get_or names i [] ∷ []) None) is here.1.0) below
    (subst (λ (p : List (List ℕ)). IsChild s.now (p ++ get_or names place [] ∷ []) (Some found)) is here.1.1))
    (on_both told (λ s. IsImage s s.now × AreThose (IsKid s.now entries) names) (λ s. ((i : ℕ) → i < place → IsChild s.now (entries ++ get_or names i [] ∷ []) None) × IsChild s.now (entries ++ get_or names place [] ∷ []) (Some found))
    (on_both told (λ s. IsImage s s.now) (λ s. AreThose (IsKid s.now entries) names) image those)
    (on_both told (λ s. (i : ℕ) → i < place → IsChild s.now (entries ++ get_or names i [] ∷ []) None) (λ s. IsChild s.now (entries ++ get_or names place [] ∷ []) (Some found))
    (each_at told (λ i s. IsChild s.now (entries ++ get_or names i [] ∷ []) None) place none) child))

not_dir_none : (stands : Option Node) → stands ≡ None → ¬ (stands ≡ Some Dir)
not_dir_none stands none is = let f : ⊥ = cc in f

-- nothing stands below a path that has no child
pub no_child_below : (m : Map) (path : List (List ℕ)) → IsFormed m → ((name : List ℕ) → m (path ++ name ∷ []) ≡ None) → (name : List ℕ) (rest : List (List ℕ)) → m (path ++ name ∷ rest) ≡ None
no_child_below m path formed none name [] = none name
no_child_below m path formed none name (next ∷ rest) =
    ap m (sym (append_assoc path (name ∷ []) (next ∷ rest))) ∙ nothing_below_other m rest (path ++ name ∷ []) next formed (not_dir_none (m (path ++ name ∷ [])) (none name))

flat_none : (m : Map) → Finds (IsBelowEntry m) None → (name next : List ℕ) → m (entries_path ++ name ∷ next ∷ []) ≡ None
flat_none m finds name next = go (m (entries_path ++ name ∷ next ∷ [])) refl
  where
    go : (stands : Option Node) → m (entries_path ++ name ∷ next ∷ []) ≡ stands → m (entries_path ++ name ∷ next ∷ []) ≡ None
    go None at = at
    go (Some x) at = absurd (finds (entries_path ++ name ∷ next ∷ []) (ap is_some at, (name, (next, refl))))

pub below_told : (told : Option Told) (entries : List (List ℕ)) (found : Option (List (List ℕ))) (names : List (List ℕ)) (place : ℕ) → IsSome found → entries ≡ entries_path → OnTold told (λ s. IsImage s s.now) → AreRising names → OnTold told (λ s. AreThose (IsKid s.now entries) names)
    → ((i : ℕ) → i < place → OnTold told (λ s. IsChild s.now (entries ++ get_or names i [] ∷ []) None)) → place < length names → OnTold told (λ s. IsChild s.now (entries ++ get_or names place [] ∷ []) found)
    → OnTold told (λ s. Finds (IsBelowEntry s.now) found)
below_told told entries None names place some is image rising those none below child = absurd (false≢true some)
below_told told entries (Some found) names place some is image rising those none below child = below_some told entries found names place is image rising those none below child

-- where something stands below a path, a child of the path stands
child_stands : (m : Map) (path : List (List ℕ)) (name : List ℕ) (rest : List (List ℕ)) → IsFormed m → IsSome (m (path ++ name ∷ rest)) → IsSome (m (path ++ name ∷ []))
child_stands m path name [] formed some = some
child_stands m path name (next ∷ rest) formed some = go (m (path ++ name ∷ [])) refl
  where
    go : (stands : Option Node) → m (path ++ name ∷ []) ≡ stands → IsSome (m (path ++ name ∷ []))
    go None at = absurd (some_none (m (path ++ name ∷ next ∷ rest))
        (ap m (sym (append_assoc path (name ∷ []) (next ∷ rest))) ∙ nothing_below_other m rest (path ++ name ∷ []) next formed (not_dir_none (m (path ++ name ∷ [])) at)) some)
    go (Some x) at = ap is_some at

abbrev IsBelowOne : Map → List (List ℕ) → Type 0
IsBelowOne m path = IsChildOf m gate_path path ⊎ IsBelowEntry m path

-- each damage has a stray child, a child of the gate or one of an entry at it or before it
damage_covers : (m : Map) → IsFormed m → (path : List (List ℕ)) → IsDamage m path → (at : List (List ℕ)) × ((IsStrayChild m at ⊎ IsBelowOne m at) × (¬ (IsPathBefore path at)))
damage_covers m formed path damage = ⊎_elim
    (λ stray. (path, (inl (damage.stands, stray), not_before_itself path)))
    (λ deeper. ⊎_elim
    (λ below.
    let some : IsSome (m (gate_path ++ below.0 ∷ below.1)) = subst (λ (p : List (List ℕ)). IsSome (m p)) below.2 damage.stands in (
      gate_path ++ below.0 ∷ [],
      (
        inr (inl (child_stands m gate_path below.0 below.1 formed some, (below.0, refl))),
        λ before. not_above (gate_path ++ below.0 ∷ []) below.1 (subst (λ (p : List (List ℕ)). IsPathBefore p (gate_path ++ below.0 ∷ [])) below.2 before),
      ),
    ))
    (λ entry.
    let below = entry.1 in
    let over : List (List ℕ) = entries_path ++ entry.0 ∷ [] in
    let some : IsSome (m (over ++ below.0 ∷ below.1)) = subst (λ (p : List (List ℕ)). IsSome (m p)) below.2 damage.stands in (
      over ++ below.0 ∷ [],
      (
        inr (inr (child_stands m over below.0 below.1 formed some, (entry.0, (below.0, refl)))),
        λ before. not_above (over ++ below.0 ∷ []) below.1 (subst (λ (p : List (List ℕ)). IsPathBefore p (over ++ below.0 ∷ [])) below.2 before),
      ),
    ))
    deeper)
    damage.place

below_damage : (m : Map) (path : List (List ℕ)) → IsBelowOne m path → IsDamage m path
below_damage m path below = ⊎_elim
    (λ child. record { stands = child.0; place = inr (inl (child.1.0, [], child.1.1)) })
    (λ entry. record { stands = entry.0; place = inr (inr (entry.1.0, (entry.1.1.0, [], entry.1.1.1))) })
    below

child_finds : (m : Map) (path : List (List ℕ)) (found : Option (List (List ℕ))) → IsChild m path found → Finds (IsChildOf m path) found
child_finds m path None none = λ child is. some_none (m child) (ap m is.1.1 ∙ none is.1.0) is.0
child_finds m path (Some child) first = first

damage_of : (m : Map) (a b d inner r : Option (List (List ℕ))) → IsFormed m → Finds (IsStrayChild m) a → IsChild m gate_path b → Finds (IsBelowEntry m) d → IsEarlier a inner r → IsEarlier b d inner → Finds (IsDamage m) r
damage_of m a b d inner r formed stray child below one two =
    let deeper : Finds (IsBelowOne m) inner = finds_earlier (IsChildOf m gate_path) (IsBelowEntry m) (IsBelowOne m)
    (λ path is. inl is) (λ path is. inr is) (λ path is. (path, (is, not_before_itself path))) b d inner (child_finds m gate_path b child) below two in
    finds_earlier (IsStrayChild m) (IsBelowOne m) (IsDamage m) (λ path is. record { stands = is.0; place = inl is.1 }) (below_damage m) (damage_covers m formed) a inner r stray deeper one

pub damage_told : (told : Option Told) (a b d inner r : Option (List (List ℕ))) → OnTold told (λ s. IsImage s s.now) → OnTold told (λ s. Finds (IsStrayChild s.now) a) → OnTold told (λ s. IsChild s.now gate_path b) → OnTold told (λ s. Finds (IsBelowEntry s.now) d)
    → IsEarlier a inner r → IsEarlier b d inner → OnTold told (λ s. Finds (IsDamage s.now) r)
damage_told None a b d inner r image stray child below one two = tt
damage_told (Some s) a b d inner r image stray child below one two = damage_of s.now a b d inner r image.formed stray child below one two

-- without damage nothing stands below the gate
pub gate_free : (m : Map) → Finds (IsDamage m) None → (name : List ℕ) (rest : List (List ℕ)) → m (gate_path ++ name ∷ rest) ≡ None
gate_free m finds name rest = go (m (gate_path ++ name ∷ rest)) refl
  where
    go : (stands : Option Node) → m (gate_path ++ name ∷ rest) ≡ stands → m (gate_path ++ name ∷ rest) ≡ None
    go None at = at
    go (Some x) at = absurd (finds (gate_path ++ name ∷ rest) (record { stands = ap is_some at; place = inr (inl (name, rest, refl)) }))

-- and nothing below a child of the entries' directory
pub entries_flat : (m : Map) → Finds (IsDamage m) None → (name next : List ℕ) → m (entries_path ++ name ∷ next ∷ []) ≡ None
entries_flat m finds name next = go (m (entries_path ++ name ∷ next ∷ [])) refl
  where
    go : (stands : Option Node) → m (entries_path ++ name ∷ next ∷ []) ≡ stands → m (entries_path ++ name ∷ next ∷ []) ≡ None
    go None at = at
    go (Some x) at = absurd (finds (entries_path ++ name ∷ next ∷ []) (record { stands = ap is_some at; place = inr (inr (name, (next, [], refl))) }))
