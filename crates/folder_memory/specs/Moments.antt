-- The moments of a folder in memory: the laws of the trait need them here.
use Rattle.std.specs.Prelude.{◌≡◌, ℕ, ◌+◌, ◌≤◌, List, [], ◌∷◌, ◌++◌, length, fold, Contains}
use Rattle.std.proofs.Common.{zero, suc, refl, sym, ◌∙◌, subst, arith}
use Rattle.std.proofs.lemmas.List.{take_all}
use Rattle.std.proofs.lemmas.List.Sums.{fold_push}
use Rattle.folder_core.specs.Folder.{Map, Told, IsFormed}
use Rattle.folder_core.specs.Crash.{IsImage}
use Rattle.folder_core.proofs.Maps.{changed_other}
use Rattle.folder_memory.specs.State.{first_state, after_event, state_of, LeftSince}
use Rattle.folder_memory.specs.declared.history.Event.{Event}
use Rattle.folder_memory.specs.declared.history.Event.TheVariants.{Set, Sync}

abbrev Place : Type 0
Place = List (List ℕ)

pub contains_middle : {T : Type 0} (front : List T) (x : T) (rest : List T) → Contains (front ++ x ∷ rest) x
contains_middle [] x rest = (0, omega arith, refl)
contains_middle (y ∷ front) x rest = let there = contains_middle front x rest in (suc there.0, omega (arith, there.1), there.2)

pub contains_front : {T : Type 0} (xs ys : List T) (x : T) → Contains xs x → Contains (xs ++ ys) x
contains_front [] ys x (k, below, at) = absurd (omega arith)
contains_front (y ∷ xs) ys x (zero, below, at) = (0, omega arith, at)
contains_front (y ∷ xs) ys x (suc k, below, at) = let there = contains_front xs ys x (k, omega arith, at) in (suc there.0, omega (arith, there.1), there.2)

-- What wasn't touched since the last sync stands as it stood then.
abbrev pub Untouched : Told → Type 0
Untouched s = (path : Place) → ¬ (Contains s.touched path) → s.now path ≡ s.synced path

untouched_after : (s : Told) (event : Event) → Untouched s → Untouched (after_event s event)
untouched_after s (Set touch) same path not_touched =
    changed_other s.now touch.path touch.node path (λ is. not_touched (subst (λ p. Contains (s.touched ++ touch.path ∷ []) p) (sym is) (contains_middle s.touched touch.path [])))
    ∙ same path (λ has. not_touched (contains_front s.touched (touch.path ∷ []) path has))
untouched_after s Sync same path not_touched = refl

untouched_from : (s : Told) (events : List Event) → Untouched s → Untouched (fold after_event s events)
untouched_from s [] same = same
untouched_from s (event ∷ events) same = untouched_from (after_event s event) events (untouched_after s event same)

pub untouched_since : (events : List Event) → Untouched (state_of events)
untouched_since events = untouched_from first_state events (λ path not_touched. refl)

moment_after : (s : Told) (event : Event) → (after_event s event).moment ≡ s.moment + 1
moment_after s (Set touch) = refl
moment_after s Sync = refl

moment_from : (s : Told) (events : List Event) → (fold after_event s events).moment ≡ s.moment + length events
moment_from s [] = omega arith
moment_from s (event ∷ events) = omega (arith, moment_from (after_event s event) events, moment_after s event)

-- the moment is the number of calls so far
pub moment_of : (events : List Event) → (state_of events).moment ≡ length events
moment_of events = omega (arith, moment_from first_state events)

pub state_of-push : (events : List Event) (event : Event) → state_of (events ++ event ∷ []) ≡ after_event (state_of events) event
state_of-push events event = fold_push after_event first_state events event

pub image_now : (events : List Event) → IsFormed (state_of events).now → IsImage (state_of events) (state_of events).now
image_now events formed = record { formed = formed; untouched = λ path not_touched. untouched_since events path not_touched }

pub counts_now : (events : List Event) (moment : ℕ) (m : Map) → moment ≤ (state_of events).moment → IsImage (state_of events) m → LeftSince events moment m
counts_now events moment m earlier image =
    (length events, omega (arith, earlier, moment_of events), omega arith, subst (λ es. IsImage (state_of es) m) (sym (take_all (length events) events (omega arith))) image)

pub only_now : (events : List Event) (m : Map) → LeftSince events (state_of events).moment m → IsImage (state_of events) m
only_now events m (k, later, within, image) =
    subst (λ es. IsImage (state_of es) m) (take_all k events (omega (arith, later, moment_of events))) image
