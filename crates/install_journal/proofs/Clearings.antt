-- What is in the directory of the entries is removed.
use Rattle.std.proofs.Common.{◌≡◌, ℕ, ◌<◌, ◌≤◌, List, [], ◌∷◌, ◌++◌, length, get_or, Option, Some, None, ◌⊎◌, inl, inr, ⊎_elim, refl, sym, ◌∙◌, ap, subst, arith}
use Rattle.std.specs.Prelude.{IsSome, is_some}
use Rattle.std.proofs.lemmas.List.{get_or_default}
use Rattle.folder_core.specs.Folder.{Map, Told, IsFormed, IsKid, CanSet, SameBut, set_at}
use Rattle.folder_core.specs.Crash.{IsImage}
use Rattle.folder_core.specs.Name.{AreThose}
use Rattle.folder_core.specs.Node.{entries_path}
use Rattle.folder_core.specs.Step.{OnTold, Step}
use Rattle.folder_core.specs.declared.node.Node.{Node}
use Rattle.folder_core.specs.declared.node.Node.TheVariants.{Dir}
use Rattle.folder_core.proofs.Maps.{same_path, changed_here, changed_other, parent-push, push_some}
use Rattle.install_journal.specs.Preparing.{IsLeft, HasFlatEntries, HasNoEntries, SparesGate, journal_path}
use Rattle.backup_store.specs.Places.{gate_path}
use Rattle.install_journal.proofs.Closings.{nothing_below_other}
use Rattle.install_journal.proofs.Firsts.{is_some_dir}
use Rattle.install_journal.proofs.Runs.{on_each, on_both, step_on, step_then, step_same}

-- Nothing is put anywhere.
abbrev pub OnlyLoses : Map → Map → Type 0
OnlyLoses a b = (path : List (List ℕ)) → (b path ≡ a path) ⊎ (b path ≡ None)

pub loses_itself : (told : Option Told) → Step told told (λ s t. OnlyLoses s.now t.now)
loses_itself told = step_same told (λ s t. OnlyLoses s.now t.now) (λ s path. inl refl)

pub loses_same : (a b : Option Told) → Step a b (λ s t. t.now ≡ s.now) → Step a b (λ s t. OnlyLoses s.now t.now)
loses_same None None same = tt
loses_same None (Some t) same = absurd same
loses_same (Some s) None same = absurd same
loses_same (Some s) (Some t) same = λ path. inl (ap (λ (m : Map). m path) same)

lose_one : (a b : Map) (path : List (List ℕ)) → b ≡ set_at a path None → OnlyLoses a b
lose_one a b path is place = elim (same_path place path) [
  | inl here ↦ inr (ap (λ (m : Map). m place) is ∙ changed_here a path None place here)
  | inr apart ↦ inl (ap (λ (m : Map). m place) is ∙ changed_other a path None place apart)
]

lose_more : (a b d : Map) → OnlyLoses a b → OnlyLoses b d → OnlyLoses a d
lose_more a b d first second path = ⊎_elim (λ same. ⊎_elim (λ was. inl (same ∙ was)) (λ none. inr (same ∙ none)) (first path)) (λ none. inr none) (second path)

pub loses_then : (a b d : Option Told) (path : List (List ℕ)) → Step a b (λ s t. OnlyLoses s.now t.now) → Step b d (λ s t. t.now ≡ set_at s.now path None) → Step a d (λ s t. OnlyLoses s.now t.now)
loses_then a b d path first second = step_then a b d (λ s t. OnlyLoses s.now t.now) (λ s t. t.now ≡ set_at s.now path None) (λ s t. OnlyLoses s.now t.now) first second
    (λ s t u p q. lose_more s.now t.now u.now p (lose_one t.now u.now path q))

stays_none : (a b : Map) (path : List (List ℕ)) → OnlyLoses a b → a path ≡ None → b path ≡ None
stays_none a b path loses none = ⊎_elim (λ same. same ∙ none) (λ gone. gone) (loses path)

no_dir : (stands : Option Node) → stands ≡ None → ¬ (stands ≡ Some Dir)
no_dir stands none is = let f : ⊥ = cc in f

flat_below : (m : Map) (name next : List ℕ) (rest : List (List ℕ)) → IsFormed m → HasFlatEntries m → m ((entries_path ++ name ∷ []) ++ next ∷ rest) ≡ None
flat_below m name next [] formed flat = flat name next
flat_below m name next (more ∷ rest) formed flat =
    nothing_below_other m rest (entries_path ++ name ∷ next ∷ []) more formed (no_dir (m (entries_path ++ name ∷ next ∷ [])) (flat name next))

pub can_clear : (fn now : Option Told) (entries path : List (List ℕ)) (name : List ℕ) → entries ≡ entries_path → path ≡ entries ++ name ∷ []
    → OnTold fn (λ s. HasFlatEntries s.now) → Step fn now (λ s t. OnlyLoses s.now t.now) → OnTold now (λ t. IsImage t t.now) → OnTold now (λ t. t.now entries_path ≡ Some Dir)
    → OnTold now (λ t. CanSet t.now path)
can_clear fn now entries path name is at flat loses image directory =
    let here : path ≡ entries_path ++ name ∷ [] = at ∙ ap (λ (p : List (List ℕ)). p ++ name ∷ []) is in
    let still : OnTold now (λ t. HasFlatEntries t.now) = step_on fn now (λ s. HasFlatEntries s.now) (λ t. HasFlatEntries t.now) (λ s t. OnlyLoses s.now t.now) flat loses (λ s t f l a b. stays_none s.now t.now _ l (f a b)) in
    on_each now (λ t. (IsImage t t.now × (t.now entries_path ≡ Some Dir)) × HasFlatEntries t.now) (λ t. CanSet t.now path)
    (λ t all. subst (CanSet t.now) (sym here) (record {
      not_root = push_some (entries_path ++ name ∷ []) entries_path name refl;
      parent = ap t.now (parent-push (entries_path ++ name ∷ []) entries_path name refl) ∙ all.0.1;
      nothing_below = λ next rest. flat_below t.now name next rest all.0.0.formed all.1;
    }))
    (on_both now (λ t. IsImage t t.now × (t.now entries_path ≡ Some Dir)) (λ t. HasFlatEntries t.now) (on_both now (λ t. IsImage t t.now) (λ t. t.now entries_path ≡ Some Dir) image directory) still)

pub inside_entries : (entries path : List (List ℕ)) (name : List ℕ) → entries ≡ entries_path → path ≡ entries ++ name ∷ [] → ¬ (IsLeft path)
inside_entries entries path name is at left =
    let here : path ≡ entries_path ++ name ∷ [] = at ∙ ap (λ (p : List (List ℕ)). p ++ name ∷ []) is in
    ⊎_elim (λ outside. outside _ here) (λ more. ⊎_elim (λ gate. let e = sym here ∙ gate in let f : ⊥ = cc in f) (λ foreign. foreign.not_entry name here) more) left

pub directory_stays : (a b : Option Told) (entries path : List (List ℕ)) (name : List ℕ) → entries ≡ entries_path → path ≡ entries ++ name ∷ [] → OnTold a (λ t. t.now entries_path ≡ Some Dir) → Step a b (λ s t. SameBut path s.now t.now) → OnTold b (λ t. t.now entries_path ≡ Some Dir)
directory_stays a b entries path name is at directory but = step_on a b (λ t. t.now entries_path ≡ Some Dir) (λ t. t.now entries_path ≡ Some Dir) (λ s t. SameBut path s.now t.now) directory but
    (λ s t dir same. same entries_path (λ e. let here = at ∙ ap (λ (p : List (List ℕ)). p ++ name ∷ []) is in let f : ⊥ = cc in f) ∙ dir)

-- what was removed stays so
pub gone_stays : (a b : Option Told) (place path : List (List ℕ)) → OnTold a (λ t. t.now place ≡ None) → Step a b (λ s t. t.now ≡ set_at s.now path None) → OnTold b (λ t. t.now place ≡ None)
gone_stays a b place path gone set = step_on a b (λ t. t.now place ≡ None) (λ t. t.now place ≡ None) (λ s t. t.now ≡ set_at s.now path None) gone set
    (λ s t none is. stays_none s.now t.now place (lose_one s.now t.now path is) none)

pub gone_here : (a b : Option Told) (place path : List (List ℕ)) → place ≡ path → Step a b (λ s t. t.now ≡ set_at s.now path None) → OnTold b (λ t. t.now place ≡ None)
gone_here None None place path is set = tt
gone_here None (Some t) place path is set = absurd set
gone_here (Some s) None place path is set = tt
gone_here (Some s) (Some t) place path is set = ap (λ (m : Map). m place) set ∙ changed_here s.now path None place is

each_told : (told : Option Told) (P : ℕ → Told → Type 0) (count : ℕ) → ((place : ℕ) → place < count → OnTold told (P place)) → OnTold told (λ s. (place : ℕ) → place < count → P place s)
each_told None P count each = tt
each_told (Some s) P count each = each

pub none_or : (stands : Option Node) → (IsSome stands → ⊥) → stands ≡ None
none_or None nope = refl
none_or (Some node) nope = absurd (nope refl)

pub all_gone : (fn now : Option Told) (entries : List (List ℕ)) (names : List (List ℕ)) (place : ℕ) → entries ≡ entries_path
    → OnTold fn (λ s. IsImage s s.now) → OnTold fn (λ s. AreThose (IsKid s.now entries) names) → Step fn now (λ s t. OnlyLoses s.now t.now)
    → ((i : ℕ) → i < place → OnTold now (λ t. t.now (entries ++ get_or names i [] ∷ []) ≡ None)) → length names ≤ place
    → OnTold now (λ t. t.now entries_path ≡ Some Dir)
    → OnTold now (λ t. HasNoEntries t.now)
all_gone fn now entries names place is image those loses gone all directory =
    let lost : OnTold now (λ t. (name : List ℕ) → (t.now (entries ++ name ∷ []) ≡ None) ⊎ ((i : ℕ) × ((i < length names) × (get_or names i [] ≡ name)))) =
    step_on fn now (λ s. IsImage s s.now × AreThose (IsKid s.now entries) names) (λ t. (name : List ℕ) → (t.now (entries ++ name ∷ []) ≡ None) ⊎ ((i : ℕ) × ((i < length names) × (get_or names i [] ≡ name)))) (λ s t. OnlyLoses s.now t.now)
    (on_both fn (λ s. IsImage s s.now) (λ s. AreThose (IsKid s.now entries) names) image those) loses
    (λ s t here lose name. kid_or_none s.now t.now entries names name here.0.formed here.1 lose (s.now (entries ++ name ∷ [])) refl) in
    on_each now (λ t. ((t.now entries_path ≡ Some Dir) × ((i : ℕ) → i < place → t.now (entries ++ get_or names i [] ∷ []) ≡ None)) × ((name : List ℕ) → (t.now (entries ++ name ∷ []) ≡ None) ⊎ ((i : ℕ) × ((i < length names) × (get_or names i [] ≡ name))))) (λ t. HasNoEntries t.now)
    (λ t both. record {
      directory = both.0.0;
      none = λ name. subst (λ (p : List (List ℕ)). t.now (p ++ name ∷ []) ≡ None) is
          (⊎_elim (λ none. none) (λ at. subst (λ (n : List ℕ). t.now (entries ++ n ∷ []) ≡ None) at.1.1 (both.0.1 at.0 (omega (arith, at.1.0)))) (both.1 name));
    })
    (on_both now (λ t. (t.now entries_path ≡ Some Dir) × ((i : ℕ) → i < place → t.now (entries ++ get_or names i [] ∷ []) ≡ None)) (λ t. (name : List ℕ) → (t.now (entries ++ name ∷ []) ≡ None) ⊎ ((i : ℕ) × ((i < length names) × (get_or names i [] ≡ name))))
    (on_both now (λ t. t.now entries_path ≡ Some Dir) (λ t. (i : ℕ) → i < place → t.now (entries ++ get_or names i [] ∷ []) ≡ None) directory
    (each_told now (λ i t. t.now (entries ++ get_or names i [] ∷ []) ≡ None) place gone)) lost)
  where
    kid_or_none : (a b : Map) (entries names : List (List ℕ)) (name : List ℕ) → IsFormed a → AreThose (IsKid a entries) names → OnlyLoses a b → (stands : Option Node) → a (entries ++ name ∷ []) ≡ stands
        → (b (entries ++ name ∷ []) ≡ None) ⊎ ((i : ℕ) × ((i < length names) × (get_or names i [] ≡ name)))
    kid_or_none a b entries names name formed those lose None at = inl (stays_none a b (entries ++ name ∷ []) lose at)
    kid_or_none a b entries names name formed those lose (Some x) at =
        let some : IsSome (a (entries ++ name ∷ [])) = ap is_some at in
        let has = (those name).1 (record { directory = is_some_dir a entries name formed some; stands = some }) in
        inr (has.0, (has.1, get_or_default names has.0 [] name has.1 ∙ has.2))

spares_but : (a b : Map) (entries path : List (List ℕ)) (name : List ℕ) → entries ≡ entries_path → path ≡ entries ++ name ∷ [] → SameBut path a b → SparesGate a b
spares_but a b entries path name is at but = record {
  journal = but journal_path (λ e. let here = at ∙ ap (λ (p : List (List ℕ)). p ++ name ∷ []) is in let f : ⊥ = cc in f);
  below = λ next rest none. but (gate_path ++ next ∷ rest) (λ e. let here = at ∙ ap (λ (p : List (List ℕ)). p ++ name ∷ []) is in let f : ⊥ = cc in f) ∙ none;
}

spares_more : (a b d : Map) → SparesGate a b → SparesGate b d → SparesGate a d
spares_more a b d first second = record {
  journal = second.journal ∙ first.journal;
  below = λ name rest none. second.below name rest (first.below name rest none);
}

pub spares_then : (a b d : Option Told) (entries path : List (List ℕ)) (name : List ℕ) → entries ≡ entries_path → path ≡ entries ++ name ∷ [] → Step a b (λ s t. SparesGate s.now t.now) → Step b d (λ s t. SameBut path s.now t.now) → Step a d (λ s t. SparesGate s.now t.now)
spares_then a b d entries path name is at first but = step_then a b d (λ s t. SparesGate s.now t.now) (λ s t. SameBut path s.now t.now) (λ s t. SparesGate s.now t.now) first but
    (λ s t u p q. spares_more s.now t.now u.now p (spares_but t.now u.now entries path name is at q))

spares_same_now : (a b : Map) → b ≡ a → SparesGate a b
spares_same_now a b same = record { journal = ap (λ (m : Map). m journal_path) same; below = λ name rest none. ap (λ (m : Map). m (gate_path ++ name ∷ rest)) same ∙ none }

pub spares_same : (a b : Option Told) → Step a b (λ s t. t.now ≡ s.now) → Step a b (λ s t. SparesGate s.now t.now)
spares_same None None same = tt
spares_same None (Some t) same = absurd same
spares_same (Some s) None same = absurd same
spares_same (Some s) (Some t) same = spares_same_now s.now t.now same
