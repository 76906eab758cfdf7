-- What is kept over the calls of a change, for those who make them: `begin` gives what `KeepsOld` says, each call that
-- restores the same keeps it, and a call that leaves the old or the new turns it into that.
use Rattle.std.proofs.Common.{◌≡◌, ℕ, suc, ◌+◌, ◌<◌, ◌≤◌, List, [], ◌∷◌, length, get_or, drop, Option, Some, None, inl, inr, ⊎_elim, sym, ◌∙◌, ap, subst}
use Rattle.std.specs.Prelude.{Result, Ok, Err, OnOk, false}
use Rattle.std.specs.Result.{is_err}
use Rattle.std.proofs.lemmas.Bool.{false≢true}
use Rattle.std.proofs.Math.Numerals.{add-one}
use Rattle.std.proofs.Math.Seq.{drop-cons}
use Rattle.std.specs.Bool.{⊤}
use Rattle.folder_core.specs.Crash.{IsImage, AllImages, LeavesOnly, EachLeft}
use Rattle.folder_core.specs.Folder.{Map, Told, set_at}
use Rattle.folder_core.specs.Step.{OnTold, Step}
use Rattle.folder_core.specs.declared.node.Touch.{Touch}
use Rattle.folder_core.proofs.Moments.{holds_now, images_now, weaker}
use Rattle.journal_caller.specs.Calls.{AreTouches, CanSetInTurn, IsOnTheWay, IsLeftOrOld, IsLeftOldOrNew, KeepsOld, set_in_turn}
use Rattle.install_journal.specs.Closing.{OldOrNew}
use Rattle.install_journal.specs.Overlay.{SameOutside}
use Rattle.install_journal.specs.Restored.{IsSettled, RestoresLike, RestoresSame, RestoresTo}
use Rattle.install_journal.proofs.Counting.{restored_same, restores_then as restores_again, same_outside_sym, same_outside_then}
use Rattle.install_journal.proofs.Runs.{on_told, on_each, on_both, at_told, Ran, more}
use Rattle.install_journal.proofs.Undoings.{can_same, set_same}

-- what is promised at Ok, where there is no error
pub at_ok : {X E : Type 0} (result : Result X E) (P : Type 0) → is_err result ≡ false → OnOk result P → P
at_ok (Ok x) P none p = p
at_ok (Err e) P none p = absurd (false≢true (sym none))

-- ---- touches in turn

turn_same : (touches : List Touch) (a b : Map) → SameOutside b a → SameOutside (set_in_turn touches b) (set_in_turn touches a)
turn_same [] a b same = same
turn_same (touch ∷ touches) a b same = turn_same touches (set_at a touch.path touch.node) (set_at b touch.path touch.node) (set_same a b touch.path touch.node same)

can_turn_same : (touches : List Touch) (a b : Map) → AreTouches touches → SameOutside b a → CanSetInTurn touches a → CanSetInTurn touches b
can_turn_same [] a b are same can = tt
can_turn_same (touch ∷ touches) a b are same can =
    (can_same a b touch.path are.0.outside same can.0, can_turn_same touches (set_at a touch.path touch.node) (set_at b touch.path touch.node) are.1 (set_same a b touch.path touch.node same) can.1)

-- before the first touch
pub on_the_way : (touches : List Touch) (s t : Told) → AreTouches touches → SameOutside t.now s.now → CanSetInTurn touches s.now → IsOnTheWay touches touches s t
on_the_way touches s t are same can = record {
  leads = turn_same touches s.now t.now same;
  can_set = can_turn_same touches s.now t.now are same can;
}

-- after one touch more
pub further_on : (touches rest : List Touch) (touch : Touch) (s t u : Told) → AreTouches rest → IsOnTheWay touches (touch ∷ rest) s t → SameOutside u.now (set_at t.now touch.path touch.node) → IsOnTheWay touches rest s u
further_on touches rest touch s t u are way sets = record {
  leads = same_outside_then (set_in_turn rest u.now) (set_in_turn rest (set_at t.now touch.path touch.node)) (set_in_turn touches s.now)
      (turn_same rest (set_at t.now touch.path touch.node) u.now sets) way.leads;
  can_set = can_turn_same rest (set_at t.now touch.path touch.node) u.now are sets way.can_set.1;
}

-- after the last touch
pub there : (touches rest : List Touch) (s t : Told) → rest ≡ [] → IsOnTheWay touches rest s t → SameOutside t.now (set_in_turn touches s.now)
there touches rest s t none way = subst (λ (l : List Touch). SameOutside (set_in_turn l t.now) (set_in_turn touches s.now)) none way.leads

-- the touch at a place, and those behind it
pub split_at : (touches : List Touch) (place : ℕ) (touch : Touch) → place < length touches → touch ≡ get_or touches place touch → drop place touches ≡ touch ∷ drop (place + 1) touches
split_at touches place touch below is =
    drop-cons touches place touch below ∙ ap (λ (x : Touch). x ∷ drop (suc place) touches) (sym is) ∙ ap (λ (n : ℕ). touch ∷ drop n touches) (sym (add-one place))

-- ---- what crashes leave

-- what restores to the installation of a moment, and then to the same
restores_on : (a b m : Map) → RestoresTo a b → RestoresLike b m → RestoresTo a m
restores_on a b m first like = record { restores = like.restores a first.restores; foreign = λ path is. like.foreign path is ∙ first.foreign path is }

restores_now : (a b d : Option Told) (R : Told → Told → Told → Type 0)
    → OnTold a (λ s. Step a b (R s))
    → OnTold b (λ t. IsImage t t.now)
    → OnTold a (λ s. AllImages (RestoresTo s.now) b)
    → OnTold b (λ t. AllImages (RestoresLike t.now) d)
    → OnTold a (λ s. AllImages (RestoresTo s.now) d)
restores_now None b d R leads image each like = tt
restores_now (Some s) None d R leads image each like = absurd leads
restores_now (Some s) (Some t) d R leads image each like = λ m left. restores_on s.now t.now m (each t.now image) (like m left)

step_at : (a b : Option Told) (s : Told) (R : Told → Told → Type 0) → a ≡ Some s → Step a b R → OnTold b (R s)
step_at None b s R is step = absurd (let no : ⊥ = cc in no)
step_at (Some t) None s R is step = absurd step
step_at (Some t) (Some u) s R is step = subst (λ (x : Told). R x u) (let same : t ≡ s = cc in same) step

-- What is settled is so for each map with the same installation.
pub settled_same : (a b : Map) (t : Told) → SameOutside a b → IsSettled a t → IsSettled b t
settled_same a b t same settled = record {
  now = same_outside_then t.now a b settled.now same;
  restores = λ m image. restored_same m a b (same_outside_sym a b same) (settled.restores m image);
  closed = settled.closed;
}

module _ {D : Type 0} (told : D → Option Told) (left_since : D → ℕ → Map → Type 0) where
  abbrev Counts : D → Type 0
  Counts d = OnTold (told d) (λ t. (moment : ℕ) (m : Map) → moment ≤ t.moment → IsImage t m → left_since d moment m)

  -- what stands after `old` restores to the installation of then
  abbrev NowRestores : Told → Told → Type 0
  NowRestores s t = RestoresTo s.now t.now

  now_restores : (old mid : D) (s : Told) → told old ≡ Some s → KeepsOld told left_since old mid → OnTold (told mid) (λ t. IsImage t t.now) → OnTold (told mid) (NowRestores s)
  now_restores old mid s is keeps image = go (told mid) image (at_told (told old) s (λ t. AllImages (RestoresTo t.now) (told mid)) is keeps.restores)
    where
      go : (b : Option Told) → OnTold b (λ t. IsImage t t.now) → AllImages (RestoresTo s.now) b → OnTold b (NowRestores s)
      go None here each = tt
      go (Some t) here each = each t.now here

  ran_so_far : (old mid : D) (s : Told) → told old ≡ Some s → KeepsOld told left_since old mid → OnTold (told mid) (λ t. IsImage t t.now) → Ran told left_since old mid (NowRestores s) (IsLeftOrOld s)
  ran_so_far old mid s is keeps image = record {
    holds = now_restores old mid s is keeps image;
    leaves = at_told (told old) s (λ t. LeavesOnly told left_since old mid (IsLeftOrOld t)) is keeps.leaves;
  }

  -- a call more that restores the same
  pub keeps_on : (old mid new : D) → KeepsOld told left_since old mid
      → OnTold (told mid) (λ t. IsImage t t.now)
      → Counts new
      → Step (told mid) (told new) (λ s t. ⊤)
      → RestoresSame told left_since mid new
      → KeepsOld told left_since old new
  keeps_on old mid new keeps image counts tells same = record {
    leaves = on_told (told old) _ (λ s is.
        (more told left_since old mid new (NowRestores s) (λ t. ⊤) (IsLeftOrOld s) (λ t u. ⊤) (λ t m. RestoresLike t.now m)
        (ran_so_far old mid s is keeps image) tells same (λ t u restores call. tt) (λ t m restores like. inr (restores_on s.now t.now m restores like))).leaves);
    restores = restores_now (told old) (told mid) (told new) (λ s t u. EachLeft t.moment u.moment (left_since old) (left_since mid) (IsLeftOrOld s)) keeps.leaves image keeps.restores
        (on_each (told mid) _ (λ t. AllImages (RestoresLike t.now) (told new)) (λ t leaves. images_now told left_since mid new (RestoresLike t.now) counts leaves) same);
  }

  -- a call more that leaves the old or the new
  pub old_or_new : (old mid new : D) (wanted : Map → Map) → KeepsOld told left_since old mid
      → OnTold (told mid) (λ t. IsImage t t.now)
      → Step (told old) (told mid) (λ s t. SameOutside t.now (wanted s.now))
      → Step (told mid) (told new) (λ s t. ⊤)
      → OnTold (told mid) (λ t. LeavesOnly told left_since mid new (OldOrNew t.now))
      → OnTold (told old) (λ s. LeavesOnly told left_since old new (IsLeftOldOrNew (wanted s.now) s))
  old_or_new old mid new wanted keeps image comes tells leaves = on_told (told old) _ (λ s is.
      let ran = ran_so_far old mid s is keeps image in
      (more told left_since old mid new (λ t. NowRestores s t × SameOutside t.now (wanted s.now)) (λ t. ⊤) (IsLeftOldOrNew (wanted s.now) s) (λ t u. ⊤) (λ t m. OldOrNew t.now m)
      (record {
        holds = on_both (told mid) (NowRestores s) (λ t. SameOutside t.now (wanted s.now)) ran.holds (step_at (told old) (told mid) s (λ s t. SameOutside t.now (wanted s.now)) is comes);
        leaves = weaker told left_since old mid (IsLeftOrOld s) (IsLeftOldOrNew (wanted s.now) s) (λ m left. inl left) ran.leaves;
      })
      tells leaves (λ t u restores call. tt)
      (λ t m here either. ⊎_elim (λ like. inl (inr (restores_on s.now t.now m here.0 like)))
      (λ now. inr (restored_same m t.now (wanted s.now) (same_outside_sym t.now (wanted s.now) here.1) now.restores, (λ path is. now.foreign path is ∙ here.0.foreign path is))) either)).leaves)

  -- the old is left, the old or the new
  pub left_at_most : (old new : D) (wanted : Map → Map) → OnTold (told old) (λ s. LeavesOnly told left_since old new (IsLeftOrOld s))
      → OnTold (told old) (λ s. LeavesOnly told left_since old new (IsLeftOldOrNew (wanted s.now) s))
  left_at_most old new wanted leaves = on_each (told old) _ _ (λ s each. weaker told left_since old new (IsLeftOrOld s) (IsLeftOldOrNew (wanted s.now) s) (λ m left. inl left) each) leaves

  -- two calls that restore the same are one
  pub restores_then : (old mid new : D) → RestoresSame told left_since old mid
      → OnTold (told mid) (λ t. IsImage t t.now)
      → Counts mid
      → Step (told mid) (told new) (λ s t. ⊤)
      → RestoresSame told left_since mid new
      → RestoresSame told left_since old new
  restores_then old mid new first image counts tells second = on_told (told old) _ (λ s is.
      let leaves : LeavesOnly told left_since old mid (RestoresLike s.now) = at_told (told old) s (λ t. LeavesOnly told left_since old mid (RestoresLike t.now)) is first in
      (more told left_since old mid new (λ t. RestoresLike s.now t.now) (λ t. ⊤) (RestoresLike s.now) (λ t u. ⊤) (λ t m. RestoresLike t.now m)
      (record { holds = holds_now (told mid) (RestoresLike s.now) image (images_now told left_since old mid (RestoresLike s.now) counts leaves); leaves = leaves })
      tells second (λ t u like call. tt) (λ t m like more. restores_again s.now t.now m like more)).leaves)

  -- the old is the old or the new
  pub old_at_most : (old new : D) → RestoresSame told left_since old new → OnTold (told old) (λ s. LeavesOnly told left_since old new (OldOrNew s.now))
  old_at_most old new same = on_each (told old) _ _ (λ s leaves. weaker told left_since old new (RestoresLike s.now) (OldOrNew s.now) (λ m like. inl like) leaves) same
