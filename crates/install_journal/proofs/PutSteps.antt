-- A plan's paths are emptied, and its nodes set.
use Rattle.std.proofs.Common.{◌≡◌, ◌≢◌, ℕ, ◌+◌, ◌-◌, ◌<◌, ◌≤◌, List, length, Option, Some, None, inl, inr, ⊎_elim, refl, sym, ◌∙◌, ap, subst, arith}
use Rattle.std.proofs.lemmas.Bool.{cases_order}
use Rattle.folder_core.specs.Folder.{Map, Told, CanSet, NothingBelow, SameBut, set_at}
use Rattle.folder_core.specs.Crash.{IsImage, Touches}
use Rattle.folder_core.specs.Path.{parent}
use Rattle.folder_core.specs.declared.node.Node.{Node}
use Rattle.folder_core.specs.declared.node.Node.TheVariants.{File, Dir, Link}
use Rattle.folder_core.proofs.Maps.{same_path, changed_here, changed_other}
use Rattle.backup_store.specs.Held.{HoldsEntry, CanRestore, IsDamaged}
use Rattle.backup_store.specs.Places.{entry_path}
use Rattle.backup_store.specs.PuttingBack.{HasRoomBack, PutsBack, TouchesRestored}
use Rattle.backup_store.specs.declared.entry.Entry.{Entry}
use Rattle.install_journal.specs.Overlay.{entry_at, overlay, Covers}
use Rattle.install_journal.specs.Plan.{IsOldest, kind_of}
use Rattle.install_journal.specs.Restored.{AreCounted}
use Rattle.install_journal.specs.Restoring.{HasPath, IsUnderway, KeepsTo, AreBare, IsSetBack, AreSetBack}
use Rattle.install_journal.specs.declared.plan.Oldest.{Oldest}
use Rattle.install_journal.specs.declared.plan.OldKind.{OldKind}
use Rattle.install_journal.specs.declared.plan.OldKind.TheVariants.{Nothing}
use Rattle.install_journal.specs.declared.plan.Plan.{Plan}
use Rattle.install_journal.proofs.Counting.{counted_one}
use Rattle.install_journal.proofs.Overlaying.{same_map, entry_uncovered}
use Rattle.install_journal.proofs.Overlays.{covers_or_not, overlay_uncovered}
use Rattle.install_journal.proofs.PlanOrder.{IsAt, at_contained, contained_at, at_one, parent_lower, path_one}
use Rattle.install_journal.proofs.Restorings.{underway_keeps, keeps_touches, set_back_same, covered_has, at_has, at_covered, at_not_root, now_same, bare_below}
use Rattle.install_journal.proofs.Unique.{holds_one_path, holds_one_node}

-- The plan is underway, and nothing stands at its paths from this place on.
pub record AreGone (plan : Plan) (first : ℕ) (s : Told) : Type 0 where
  pub underway : IsUnderway plan s
  pub gone : (place : ℕ) (oldest : Oldest) → first ≤ place → IsAt plan.oldest place oldest → s.now oldest.path ≡ None

-- The plan is underway, so many of its nodes are set, and nothing stands at the other paths.
pub record AreSet (plan : Plan) (count : ℕ) (s : Told) : Type 0 where
  pub underway : IsUnderway plan s
  pub set : (place : ℕ) (oldest : Oldest) → place < count → IsAt plan.oldest place oldest → IsSetBack s oldest.path
  pub bare : (place : ℕ) (oldest : Oldest) → count ≤ place → IsAt plan.oldest place oldest → s.now oldest.path ≡ None

pub gone_first : (plan : Plan) (s : Told) (first : ℕ) → length plan.oldest ≤ first → IsUnderway plan s → AreGone plan first s
gone_first plan s first all underway = record {
  underway = underway;
  gone = λ place oldest from at. absurd (omega (arith, at.below));
}

pub gone_next : (plan : Plan) (s t : Told) (place : ℕ) (oldest : Oldest) → IsAt plan.oldest place oldest → AreGone plan (place + 1) s
    → Touches oldest.path s t → SameBut oldest.path s.now t.now → t.now oldest.path ≡ None → AreGone plan place t
gone_next plan s t place oldest at had touches same none = record {
  underway = underway_keeps plan s t had.underway (keeps_touches plan s t oldest.path (at_has plan s had.underway place oldest at) touches);
  gone = λ other next from next_at. elim (same_path next.path oldest.path) [
    | inl here ↦ ap t.now here ∙ none
    | inr apart ↦ same next.path apart ∙ had.gone other next
        (⊎_elim (λ is. absurd (apart (ap (λ (o : Oldest). o.path) (at_one plan.oldest other place next oldest next_at at (sym is))))) (λ either. ⊎_elim (λ lt. omega (arith, lt)) (λ gt. absurd (omega arith)) either) (cases_order place other))
        next_at
  ];
}

pub gone_room : (plan : Plan) (s : Told) (place : ℕ) (oldest : Oldest) → IsAt plan.oldest place oldest → AreGone plan (place + 1) s → IsImage s s.now → NothingBelow s.now oldest.path
gone_room plan s place oldest at had image = bare_below plan s had.underway image place oldest at (λ other next next_at higher. had.gone other next (omega arith) next_at)

pub gone_all : (plan : Plan) (s : Told) (first : ℕ) → first ≤ 0 → AreGone plan first s → AreBare plan s
gone_all plan s first none had = record {
  underway = had.underway;
  bare = λ path has.
      let at = at_contained plan.oldest has.0 has.1.0 in
      ap s.now (sym has.1.1) ∙ had.gone at.0 has.0 (omega arith) at.1;
}

pub bare_set : (plan : Plan) (s : Told) → AreBare plan s → AreSet plan 0 s
bare_set plan s bare = record {
  underway = bare.underway;
  set = λ place oldest none at. absurd (omega arith);
  bare = λ place oldest from at. bare.bare oldest.path (at_has plan s bare.underway place oldest at);
}

was_nothing : (kind : OldKind) (stands : Option Node) → kind ≡ Nothing → kind ≡ kind_of stands → stands ≡ None
was_nothing kind None is same = refl
was_nothing kind (Some (File mode blob)) is same = cc
was_nothing kind (Some Dir) is same = cc
was_nothing kind (Some (Link target)) is same = cc

was_some : (kind : OldKind) (stands : Option Node) → kind ≢ Nothing → kind ≡ kind_of stands → (node : Node) × (stands ≡ Some node)
was_some kind None other same = absurd (other same)
was_some kind (Some node) other same = (node, refl)

module _ (plan : Plan) (s : Told) (underway : IsUnderway plan s) (place : ℕ) (oldest : Oldest) (at : IsAt plan.oldest place oldest) where
  abbrev entries : List Entry
  entries = underway.is_plan.gathered.entries

  abbrev before : Option Node
  before = (entry_at entries (oldest.number.0 - 1)).before

  is_oldest : IsOldest entries oldest
  is_oldest = underway.is_plan.gathered.oldest oldest (contained_at plan.oldest place oldest at)

  old_before : overlay entries s.synced oldest.path ≡ before
  old_before = is_oldest.first s.synced

  set_back : s.now oldest.path ≡ before → IsSetBack s oldest.path
  set_back is others counted =
      let same = counted_one s.synced others entries counted underway.is_plan.gathered.sound.counted in
      is ∙ sym old_before ∙ ap (λ (l : List Entry). overlay l s.synced oldest.path) (sym same)

  module _ (image : IsImage s s.now) where
    can_restore : CanRestore s.now oldest.number.0 oldest.path before
    can_restore =
        let number : oldest.number.0 - 1 + 1 ≡ oldest.number.0 = omega (arith, is_oldest.from_one) in
        let held : HoldsEntry s.synced (oldest.number.0 - 1 + 1) (entry_at entries (oldest.number.0 - 1)).path before =
        underway.is_plan.gathered.sound.counted.holds (oldest.number.0 - 1) (omega (arith, is_oldest.from_one, is_oldest.most)) in
        let holds : HoldsEntry s.synced oldest.number.0 oldest.path before =
        subst (λ (p : List (List ℕ)). HoldsEntry s.synced oldest.number.0 p before) is_oldest.path
        (subst (λ (n : ℕ). HoldsEntry s.synced n (entry_at entries (oldest.number.0 - 1)).path before) number held) in
        let here : s.now (entry_path oldest.number.0) ≡ s.synced (entry_path oldest.number.0) =
        now_same plan s underway image (entry_path oldest.number.0) (entry_uncovered entries s.synced underway.is_plan.gathered.sound.counted underway.is_plan.can_overlay oldest.number.0) in
        record {
          holds = record { entry = holds.entry; file = (holds.file.0, here ∙ holds.file.1) };
          outside = underway.is_plan.can_overlay.outside oldest.path (at_covered plan s underway place oldest at);
        }

    pub undamaged : ¬ (IsDamaged s.now oldest.number.0)
    undamaged damaged = damaged oldest.path before can_restore

    same_path_of : (path : List (List ℕ)) (stands : Option Node) → CanRestore s.now oldest.number.0 path stands → path ≡ oldest.path
    same_path_of path stands can = holds_one_path s.now oldest.number.0 path oldest.path stands before can.holds can_restore.holds

    same_node_of : (path : List (List ℕ)) (stands : Option Node) → CanRestore s.now oldest.number.0 path stands → stands ≡ before
    same_node_of path stands can = holds_one_node s.now oldest.number.0 path oldest.path stands before can.holds can_restore.holds

    pub keeps_restored : (t : Told) → TouchesRestored oldest.number.0 s t → KeepsTo plan s t
    keeps_restored t touches = record {
      synced = touches.synced;
      touched = λ path has. ⊎_elim (λ old. inl old)
          (λ own. inr (subst (HasPath plan) (sym (same_path_of path own.0 own.1)) (at_has plan s underway place oldest at)))
          (touches.touched path has);
    }

    put_now : (m : Map) → PutsBack oldest.number.0 s.now m → m ≡ set_at s.now oldest.path before
    put_now m puts =
        puts.puts
        ∙ ap (λ (p : List (List ℕ)). set_at s.now p puts.before) (same_path_of puts.path puts.before puts.entry)
        ∙ ap (λ (b : Option Node). set_at s.now oldest.path b) (same_node_of puts.path puts.before puts.entry)

-- the node at this place is nothing, and nothing stands there
pub set_skip : (plan : Plan) (s : Told) (place : ℕ) (oldest : Oldest) → IsAt plan.oldest place oldest → AreSet plan place s → oldest.kind ≡ Nothing → AreSet plan (place + 1) s
set_skip plan s place oldest at had nothing = record {
  underway = had.underway;
  set = λ other next lower next_at. elim (cases_order other place) [
    | inl is ↦ subst (λ (o : Oldest). IsSetBack s o.path) (sym (at_one plan.oldest other place next oldest next_at at is))
        (set_back plan s had.underway place oldest at (had.bare place oldest (omega arith) at
        ∙ sym (was_nothing oldest.kind (before plan s had.underway place oldest at) nothing (is_oldest plan s had.underway place oldest at).kind)))
    | inr apart ↦ had.set other next (⊎_elim (λ lt. lt) (λ gt. absurd (omega arith)) apart) next_at
  ];
  bare = λ other next higher next_at. had.bare other next (omega arith) next_at;
}

module _ (plan : Plan) (s : Told) (place : ℕ) (oldest : Oldest) (at : IsAt plan.oldest place oldest) (had : AreSet plan place s) (image : IsImage s s.now) where
  abbrev made : Map
  made = overlay had.underway.is_plan.gathered.entries s.synced

  made_now : (path : List (List ℕ)) → IsSetBack s path → s.now path ≡ made path
  made_now path set = set had.underway.is_plan.gathered.entries had.underway.is_plan.gathered.sound.counted

  parent_now : made (parent oldest.path) ≡ Some Dir → s.now (parent oldest.path) ≡ Some Dir
  parent_now above = elim (covers_or_not had.underway.is_plan.gathered.entries (parent oldest.path)) [
    | inl covers ↦
        let upper = covered_has plan s had.underway (parent oldest.path) covers in
        let upper_at = at_contained plan.oldest upper.0 upper.1.0 in
        let lower = parent_lower plan.oldest had.underway.is_plan.gathered.rising upper_at.0 place upper.0 oldest upper_at.1 at (at_not_root plan s had.underway place oldest at) upper.1.1 in
        let set = had.set upper_at.0 upper.0 lower upper_at.1 in
        ap s.now (sym upper.1.1) ∙ made_now upper.0.path set ∙ ap made upper.1.1 ∙ above
    | inr none ↦ now_same plan s had.underway image (parent oldest.path) none ∙ sym (overlay_uncovered had.underway.is_plan.gathered.entries s.synced (parent oldest.path) none) ∙ above
  ]

  pub set_room : oldest.kind ≢ Nothing → HasRoomBack s.now oldest.number.0
  set_room some path stands can =
      let root = at_not_root plan s had.underway place oldest at in
      let node = was_some oldest.kind (before plan s had.underway place oldest at) some (is_oldest plan s had.underway place oldest at).kind in
      let above : made (parent oldest.path) ≡ Some Dir = had.underway.is_plan.can_overlay.formed.parents oldest.path node.0 root (old_before plan s had.underway place oldest at ∙ node.1) in
      let room : CanSet s.now oldest.path = record {
        not_root = root;
        parent = parent_now above;
        nothing_below = bare_below plan s had.underway image place oldest at (λ other next next_at higher. had.bare other next (omega arith) next_at);
      } in
      subst (CanSet s.now) (sym (same_path_of plan s had.underway place oldest at image path stands can)) room

  pub set_next : (t : Told) → TouchesRestored oldest.number.0 s t → PutsBack oldest.number.0 s.now t.now → AreSet plan (place + 1) t
  set_next t touches puts =
      let keeps = keeps_restored plan s had.underway place oldest at image t touches in
      let underway = underway_keeps plan s t had.underway keeps in
      let now = put_now plan s had.underway place oldest at image t.now puts in
      let elsewhere : (path : List (List ℕ)) → path ≢ oldest.path → t.now path ≡ s.now path = λ path apart.
      ap (λ (m : Map). m path) now ∙ changed_other s.now oldest.path (before plan s had.underway place oldest at) path apart in
      let here : IsSetBack t oldest.path = λ others counted.
      ap (λ (m : Map). m oldest.path) now ∙ changed_here s.now oldest.path (before plan s had.underway place oldest at) oldest.path refl
      ∙ sym (old_before plan s had.underway place oldest at)
      ∙ ap (λ (l : List Entry). overlay l s.synced oldest.path) (sym (counted_one s.synced others had.underway.is_plan.gathered.entries (subst (λ (m : Map). AreCounted m others) keeps.synced counted) had.underway.is_plan.gathered.sound.counted))
      ∙ ap (λ (m : Map). overlay others m oldest.path) (sym keeps.synced) in
      record {
        underway = underway;
        set = λ other next lower next_at. elim (cases_order other place) [
          | inl is ↦ subst (λ (o : Oldest). IsSetBack t o.path) (sym (at_one plan.oldest other place next oldest next_at at is)) here
          | inr apart ↦
              let less : other < place = ⊎_elim (λ lt. lt) (λ gt. absurd (omega arith)) apart in
              set_back_same s t next.path keeps.synced
              (elsewhere next.path (λ e. let one = path_one plan.oldest had.underway.is_plan.gathered.rising other place next oldest next_at at e in absurd (omega arith)))
              (had.set other next less next_at)
        ];
        bare = λ other next higher next_at.
            elsewhere next.path (λ e. let one = path_one plan.oldest had.underway.is_plan.gathered.rising other place next oldest next_at at e in absurd (omega arith))
            ∙ had.bare other next (omega arith) next_at;
      }

pub set_all : (plan : Plan) (s : Told) (count : ℕ) → length plan.oldest ≤ count → AreSet plan count s → IsImage s s.now → AreSetBack plan s
set_all plan s count all had image = record {
  underway = had.underway;
  set = λ path others counted. elim (covers_or_not others path) [
    | inl covers ↦
        let same = counted_one s.synced others had.underway.is_plan.gathered.entries counted had.underway.is_plan.gathered.sound.counted in
        let has = covered_has plan s had.underway path (subst (λ (l : List Entry). Covers l path) same covers) in
        let at = at_contained plan.oldest has.0 has.1.0 in
        ap s.now (sym has.1.1) ∙ had.set at.0 has.0 (omega (arith, at.1.below)) at.1 others counted ∙ ap (overlay others s.synced) has.1.1
    | inr none ↦
        let same = counted_one s.synced others had.underway.is_plan.gathered.entries counted had.underway.is_plan.gathered.sound.counted in
        now_same plan s had.underway image path (λ covers. none (subst (λ (l : List Entry). Covers l path) (sym same) covers))
        ∙ sym (overlay_uncovered others s.synced path none)
  ];
}

pub set_back_now : (plan : Plan) (s : Told) (done : AreSetBack plan s) → s.now ≡ overlay done.underway.is_plan.gathered.entries s.synced
set_back_now plan s done = same_map s.now (overlay done.underway.is_plan.gathered.entries s.synced)
    (λ path. done.set path done.underway.is_plan.gathered.entries done.underway.is_plan.gathered.sound.counted)
