-- How far the keeping of an entry came, and what a crash leaves of it.
use Rattle.std.proofs.Common.{◌≡◌, ◌≢◌, ◌⊎◌, inl, inr, ⊎_elim, ℕ, zero, suc, ◌+◌, ◌^◌, ◌<◌, ◌≤◌, List, [], ◌∷◌, ◌++◌, length, Option, Some, None, Contains, refl, sym, ◌∙◌, ap, subst, arith, length-append}
use Rattle.std.proofs.lemmas.List.{append_assoc}
use Rattle.folder_core.specs.Folder.{Map, Told, IsFormed, CanSet, NothingBelow, SameBut, set_at}
use Rattle.folder_core.specs.Crash.{IsImage, AllImages, Elapses, EachLeft}
use Rattle.folder_core.specs.Step.{OnTold, Step}
use Rattle.folder_core.specs.Node.{entries_path}
use Rattle.folder_core.specs.Path.{parent}
use Rattle.folder_core.specs.declared.node.Node.{Node}
use Rattle.folder_core.specs.declared.node.Node.TheVariants.{File, Dir}
use Rattle.folder_core.specs.declared.node.Touch.{Touch}
use Rattle.folder_core.proofs.Maps.{changed_here, changed_other, IsFormed-set_at, front_last, parent-push, push_some}
use Rattle.backup_store.specs.Entry.{IsEntry}
use Rattle.backup_store.specs.EntryText.{entry_text}
use Rattle.backup_store.specs.Held.{mark_text}
use Rattle.backup_store.specs.Keeping.{HasNoMark, HasRoom, SameButEntry, IsUnmarked, IsWritten, LeavesEntry, IsBegun, HasCome, IsKept, IsCounted}
use Rattle.backup_store.specs.Places.{entry_path, mark_path}
use Rattle.backup_store.specs.Looking.{IsStill}
use Rattle.backup_store.specs.Settling.{IsTouchedImage, IsSettled, IsUnsettled, IsEntered, entry_touch, mark_touch}
use Rattle.std.proofs.lemmas.List.Elements.{Contains-append_right}
use Rattle.backup_store.proofs.Moments.{on_told, on_told_one, leaves_first, each_image}
use Rattle.backup_store.proofs.Names.{mark_is_path, mark_apart}
use Rattle.backup_store.proofs.SettlingLemmas.{touched_image}

some_or_none : {V : Type 0} (o : Option V) → (o ≡ None) ⊎ ((v : V) × (o ≡ Some v))
some_or_none None = inl refl
some_or_none (Some v) = inr (v, refl)

-- Below what isn't there nothing stands.
none_below : (m : Map) → IsFormed m → (path : List (List ℕ)) → m path ≡ None → (depth : ℕ) (name : List ℕ) (rest : List (List ℕ)) → length rest ≤ depth → m (path ++ name ∷ rest) ≡ None
none_below m formed path none depth name [] short = ⊎_elim
    (λ absent. absent)
    (λ there.
    let above = formed.parents (path ++ name ∷ []) there.0 (push_some (path ++ name ∷ []) path name refl) there.1 in
    let same : m path ≡ Some Dir = ap m (sym (parent-push (path ++ name ∷ []) path name refl)) ∙ above in
    absurd (let no_node : ⊥ = cc in no_node))
    (some_or_none (m (path ++ name ∷ [])))
none_below m formed path none zero name (next ∷ rest) short = absurd (omega arith)
none_below m formed path none (suc depth) name (next ∷ rest) short = ⊎_elim
    (λ absent. absent)
    (λ there.
    let place = path ++ name ∷ next ∷ rest in
    let cut = front_last (next ∷ rest) (λ e. cc) in
    let front = parent (next ∷ rest) in
    let whole : place ≡ (path ++ name ∷ front) ++ cut.0 ∷ [] = ap (λ (l : List (List ℕ)). path ++ name ∷ l) cut.1 ∙ sym (append_assoc path (name ∷ front) (cut.0 ∷ [])) in
    let above = formed.parents place there.0 (push_some place (path ++ name ∷ front) cut.0 whole) there.1 in
    let same : m (path ++ name ∷ front) ≡ Some Dir = ap m (sym (parent-push place (path ++ name ∷ front) cut.0 whole)) ∙ above in
    let counted : length (next ∷ rest) ≡ length front + 1 = ap length cut.1 ∙ length-append front (cut.0 ∷ []) in
    let absent = none_below m formed path none depth name front (omega (arith, counted)) in
    absurd (let no_node : ⊥ = cc in no_node))
    (some_or_none (m (path ++ name ∷ next ∷ rest)))

pub nothing_below : (m : Map) (path : List (List ℕ)) → IsFormed m → m path ≡ None → NothingBelow m path
nothing_below m path formed none name rest = none_below m formed path none (length rest) name rest (omega arith)

pub can_mark_now : (k : ℕ) (s : Told) → IsFormed s.now → HasRoom s k → HasNoMark k s.now → CanSet s.now (mark_path k)
can_mark_now k s formed room none = record {
  not_root = λ e. cc;
  parent = room.directory;
  nothing_below = nothing_below s.now (mark_path k) formed none;
}

-- Where no image has a mark, none was touched and none was synced.
pub record IsClear (k : ℕ) (s : Told) : Type 0 where
  pub untouched : ¬ (Contains s.touched (mark_path k))
  pub unsynced : HasNoMark k s.synced
  pub now : HasNoMark k s.now

pub clear_mark : (k : ℕ) (s : Told) → k < 2 ^ 32 → IsImage s s.now → HasRoom s k → ((m : Map) → IsImage s m → HasNoMark k m) → IsClear k s
clear_mark k s small image room none =
    let now = none s.now image in
    let marked : Map = set_at s.now (mark_path k) (Some Dir) in
    let formed : IsFormed marked = IsFormed-set_at s.now (mark_path k) (Some Dir) image.formed (can_mark_now k s image.formed room now) (mark_is_path k small) tt tt in
    let untouched : ¬ (Contains s.touched (mark_path k)) = λ has.
    let with_mark : IsImage s marked = record {
      formed = formed;
      untouched = λ place apart. changed_other s.now (mark_path k) (Some Dir) place (λ is. apart (subst (λ p. Contains s.touched p) (sym is) has)) ∙ image.untouched place apart;
    } in
    let gone = none marked with_mark in
    let there = changed_here s.now (mark_path k) (Some Dir) (mark_path k) refl in
    let no_node : ⊥ = cc in no_node
    in
    record { untouched = untouched; unsynced = sym (image.untouched (mark_path k) untouched) ∙ now; now = now }

-- and the way back
pub no_mark_images : (k : ℕ) (s : Told) → ¬ (Contains s.touched (mark_path k)) → HasNoMark k s.synced → (m : Map) → IsImage s m → HasNoMark k m
no_mark_images k s untouched unsynced m image = image.untouched (mark_path k) untouched ∙ unsynced

-- a crash before the first sync
pub unmarked : (k : ℕ) (s : Told) (m : Map) → IsClear k s → IsTouchedImage (entry_path k) s m → IsUnmarked s k m
unmarked k s m clear image = record {
  no_mark = image.untouched (mark_path k) apart ∙ clear.unsynced;
  image = image;
}
  where
    apart : ¬ (Contains (entry_path k ∷ s.touched) (mark_path k))
    apart (zero, below, at) = mark_apart k (sym at)
    apart (suc n, below, at) = clear.untouched (n, omega arith, at)

-- The file of the entry stands, and but for the mark the map is as it was then.
pub written : (k : ℕ) (path : List (List ℕ)) (s : Told) (now m : Map) → IsEntry path (s.now path) → now ≡ set_at s.now (entry_path k) (Some (File 420 (entry_text path (s.now path))))
    → IsFormed m → SameBut (mark_path k) now m → IsWritten s k path m
written k path s now m entry now_is formed same = record {
  formed = formed;
  elsewhere = λ place not_entry not_mark. same place not_mark ∙ ap (λ (f : Map). f place) now_is ∙ changed_other s.now (entry_path k) file place not_entry;
  holds = record {
    entry = entry;
    file = (420, same (entry_path k) (λ is. mark_apart k (sym is)) ∙ ap (λ (f : Map). f (entry_path k)) now_is ∙ changed_here s.now (entry_path k) file (entry_path k) refl);
  };
}
  where
    file : Option Node
    file = Some (File 420 (entry_text path (s.now path)))

still_image : (s t : Told) (m : Map) → IsStill s t → IsImage t m → IsImage s m
still_image s t m still image = record {
  formed = image.formed;
  untouched = λ place apart. image.untouched place (λ has. apart (subst (λ l. Contains l place) still.touched has)) ∙ ap (λ (f : Map). f place) still.synced;
}

still_touched : (path : List (List ℕ)) (s t : Told) (m : Map) → IsStill s t → IsTouchedImage path t m → IsTouchedImage path s m
still_touched path s t m still image = record {
  formed = image.formed;
  untouched = λ place apart. image.untouched place (λ has. apart (subst (λ l. Contains (path ∷ l) place) still.touched has)) ∙ ap (λ (f : Map). f place) still.synced;
}

-- At a settled folder a crash leaves what stands.
settled_image : (touch : Touch) (s t : Told) (m : Map) → IsSettled touch s t → IsImage t m → (place : List (List ℕ)) → m place ≡ t.now place
settled_image touch s t m settled image place =
    image.untouched place (λ has. no_place (subst (λ l. Contains l place) settled.touched has)) ∙ ap (λ (f : Map). f place) settled.synced
  where
    no_place : ¬ (Contains {X = List (List ℕ)} [] place)
    no_place (n, below, at) = omega arith

pub begun_still : (k : ℕ) (s t : Told) → HasNoMark k s.now → IsStill s t → IsBegun s k t
begun_still k s t none still = record {
  touches = record {
    synced = still.synced;
    touched = λ place has. inl (subst (λ l. Contains l place) still.touched has);
    kept = λ place has. subst (λ l. Contains l place) (sym still.touched) has;
  };
  no_mark = ap (λ (f : Map). f (mark_path k)) still.now ∙ none;
}

pub begun : (k : ℕ) (touch : Touch) (s t u : Told) → touch.path ≡ entry_path k → HasNoMark k s.now → IsStill s t → IsUnsettled touch t u → IsBegun s k u
begun k touch s t u at none still unsettled = record {
  touches = record {
    synced = unsettled.touches.synced ∙ still.synced;
    touched = λ place has. ⊎_elim
        (λ old. inl (subst (λ l. Contains l place) still.touched old))
        (λ is. inr (is ∙ at))
        (unsettled.touches.touched place has);
    kept = λ place has. unsettled.touches.kept place (subst (λ l. Contains l place) (sym still.touched) has);
  };
  no_mark = unsettled.elsewhere (mark_path k) (λ is. mark_apart k (is ∙ at)) ∙ ap (λ (f : Map). f (mark_path k)) still.now ∙ none;
}

-- A `set` and a `sync` that went well, or not.
abbrev pub IsEither : Touch → Told → Told → Type 0
IsEither touch s t = IsSettled touch s t ⊎ IsUnsettled touch s t

-- what stands before the entry's file is written
pub record IsReady (k : ℕ) (path : List (List ℕ)) (touch : Touch) (s : Told) : Type 0 where
  pub clear : IsClear k s
  pub entry : IsEntry path (s.now path)
  pub touch_is : touch ≡ entry_touch k path (s.now path)

pub leaves_entered : (k : ℕ) (path : List (List ℕ)) (touch : Touch) (s t u : Told) → IsReady k path touch s × IsStill s t → IsEither touch t u
    → (m : Map) → IsTouchedImage touch.path t m ⊎ IsImage u m → LeavesEntry s k path m
leaves_entered k path touch s t u (ready, still) either m (inl image) =
    inl (unmarked k s m ready.clear (subst (λ p. IsTouchedImage p s m) (ap (λ (x : Touch). x.path) ready.touch_is) (still_touched touch.path s t m still image)))
leaves_entered k path touch s t u (ready, still) (inr unsettled) m (inr image) =
    inl (unmarked k s m ready.clear (subst (λ p. IsTouchedImage p s m) (ap (λ (x : Touch). x.path) ready.touch_is) (still_touched touch.path s t m still (touched_image touch.path t u m unsettled.touches image))))
leaves_entered k path touch s t u (ready, still) (inl settled) m (inr image) =
    inr (written k path s u.now m ready.entry (entered_now k path touch s t u ready still settled) image.formed (λ place apart. settled_image touch t u m settled image place))
  where
    entered_now : (k : ℕ) (path : List (List ℕ)) (touch : Touch) (s t u : Told) → IsReady k path touch s → IsStill s t → IsSettled touch t u → u.now ≡ set_at s.now (entry_path k) (Some (File 420 (entry_text path (s.now path))))
    entered_now k path touch s t u ready still settled =
        settled.now ∙ ap (λ (x : Touch). set_at t.now x.path x.node) ready.touch_is ∙ ap (λ (f : Map). set_at f (entry_path k) (Some (File 420 (entry_text path (s.now path))))) still.now

-- No image has a mark once the entry's file is there, or isn't.
pub no_mark_entered : (k : ℕ) (path : List (List ℕ)) (touch : Touch) (s t u : Told) → IsReady k path touch s × IsStill s t → IsEither touch t u
    → (m : Map) → IsImage u m → HasNoMark k m
no_mark_entered k path touch s t u (ready, still) (inr unsettled) m image =
    (unmarked k s m ready.clear (subst (λ p. IsTouchedImage p s m) (ap (λ (x : Touch). x.path) ready.touch_is) (still_touched touch.path s t m still (touched_image touch.path t u m unsettled.touches image)))).no_mark
no_mark_entered k path touch s t u (ready, still) (inl settled) m image =
    settled_image touch t u m settled image (mark_path k)
    ∙ ap (λ (f : Map). f (mark_path k)) settled.now
    ∙ changed_other t.now touch.path touch.node (mark_path k) (λ is. mark_apart k (is ∙ ap (λ (x : Touch). x.path) ready.touch_is))
    ∙ ap (λ (f : Map). f (mark_path k)) still.now
    ∙ ready.clear.now

-- The mark may be put behind the entry's file.
pub can_mark : (k : ℕ) (path : List (List ℕ)) (s u : Told) → HasRoom s k → HasNoMark k s.now → IsEntered s k path u → IsFormed u.now → CanSet u.now (mark_path k)
can_mark k path s u room none entered formed = record {
  not_root = λ e. cc;
  parent = ap (λ (f : Map). f entries_path) entered.settled.now ∙ changed_other s.now (entry_path k) file entries_path (λ is. apart is) ∙ room.directory;
  nothing_below = nothing_below u.now (mark_path k) formed
      (ap (λ (f : Map). f (mark_path k)) entered.settled.now ∙ changed_other s.now (entry_path k) file (mark_path k) (mark_apart k) ∙ none);
}
  where
    file : Option Node
    file = Some (File 420 (entry_text path (s.now path)))

    apart : entries_path ≢ entry_path k
    apart is = cc

marked_same : (k : ℕ) (u v : Told) → IsEither (mark_touch k) u v → SameBut (mark_path k) u.now v.now
marked_same k u v (inl settled) place apart = ap (λ (f : Map). f place) settled.now ∙ changed_other u.now (mark_path k) (Some (File 420 mark_text)) place apart
marked_same k u v (inr unsettled) place apart = unsettled.elsewhere place apart

pub marked_elsewhere : (k : ℕ) (path : List (List ℕ)) (s u v : Told) → IsEntered s k path u → IsEither (mark_touch k) u v → SameButEntry k s.now v.now
marked_elsewhere k path s u v entered either place not_entry not_mark =
    marked_same k u v either place not_mark
    ∙ ap (λ (f : Map). f place) entered.settled.now
    ∙ changed_other s.now (entry_path k) (Some (File 420 (entry_text path (s.now path)))) place not_entry

nothing_touched : (place : List (List ℕ)) → ¬ (Contains {X = List (List ℕ)} [] place)
nothing_touched place (n, below, at) = omega arith

-- what a crash may leave where the mark has been touched behind a settled entry
marked_image : (k : ℕ) (path : List (List ℕ)) (s u : Told) (m : Map) → IsEntered s k path u → IsTouchedImage (mark_path k) u m → IsWritten s k path m
marked_image k path s u m entered image =
    written k path s u.now m entered.entry entered.settled.now image.formed
    (λ place apart. image.untouched place (only place apart) ∙ ap (λ (f : Map). f place) entered.settled.synced)
  where
    only : (place : List (List ℕ)) → place ≢ mark_path k → ¬ (Contains (mark_path k ∷ u.touched) place)
    only place apart (zero, below, at) = apart (sym at)
    only place apart (suc n, below, at) = nothing_touched place (subst (λ l. Contains l place) entered.settled.touched (n, omega arith, at))

pub leaves_marked : (k : ℕ) (path : List (List ℕ)) (s u v : Told) → IsEntered s k path u → IsEither (mark_touch k) u v
    → (m : Map) → IsTouchedImage (mark_path k) u m ⊎ IsImage v m → LeavesEntry s k path m
leaves_marked k path s u v entered either m (inl image) = inr (marked_image k path s u m entered image)
leaves_marked k path s u v entered (inr unsettled) m (inr image) = inr (marked_image k path s u m entered (touched_image (mark_path k) u v m unsettled.touches image))
leaves_marked k path s u v entered (inl settled) m (inr image) =
    inr (written k path s u.now m entered.entry entered.settled.now image.formed
    (λ place apart. settled_image (mark_touch k) u v m settled image place ∙ marked_same k u v (inl settled) place apart))

pub come_marked : (k : ℕ) (path : List (List ℕ)) (s u v : Told) → IsEntered s k path u × IsFormed u.now → IsEither (mark_touch k) u v × IsFormed v.now → HasCome s k path v
come_marked k path s u v (entered, formed_u) (inl settled, formed_v) = inr (record {
  written = subst (λ (f : Map). IsWritten s k path f) (sym settled.synced)
      (written k path s u.now v.now entered.entry entered.settled.now formed_v (marked_same k u v (inl settled)));
  touched = λ place has. absurd (nothing_touched place (subst (λ l. Contains l place) settled.touched has));
})
come_marked k path s u v (entered, formed_u) (inr unsettled, formed_v) = inr (record {
  written = subst (λ (f : Map). IsWritten s k path f) (sym (unsettled.touches.synced ∙ entered.settled.synced))
      (written k path s u.now u.now entered.entry entered.settled.now formed_u (λ place apart. refl));
  touched = λ place has. ⊎_elim
      (λ old. absurd (nothing_touched place (subst (λ l. Contains l place) entered.settled.touched old)))
      (λ is. is)
      (unsettled.touches.touched place has);
})

pub kept_marked : (k : ℕ) (path : List (List ℕ)) (s u v : Told) → IsEntered s k path u → IsSettled (mark_touch k) u v → IsKept s k path v
kept_marked k path s u v entered settled = record {
  elsewhere = marked_elsewhere k path s u v entered (inl settled);
  entry = marked_same k u v (inl settled) (entry_path k) (λ is. mark_apart k (sym is)) ∙ ap (λ (f : Map). f (entry_path k)) entered.settled.now
      ∙ changed_here s.now (entry_path k) (Some (File 420 (entry_text path (s.now path)))) (entry_path k) refl;
  mark = ap (λ (f : Map). f (mark_path k)) settled.now ∙ changed_here u.now (mark_path k) (Some (File 420 mark_text)) (mark_path k) refl;
  synced = settled.synced;
  settled = settled.touched;
}

pub counted_marked : (k : ℕ) (path : List (List ℕ)) (s u v : Told) → IsEntered s k path u → IsSettled (mark_touch k) u v → (m : Map) → IsImage v m → IsCounted s k path m
counted_marked k path s u v entered settled m image =
    let kept = kept_marked k path s u v entered settled in
    let same = settled_image (mark_touch k) u v m settled image in
    record {
      counts = (420, same (mark_path k) ∙ kept.mark);
      holds = record { entry = entered.entry; file = (420, same (entry_path k) ∙ kept.entry) };
    }

pub images_still : (old new : Option Told) (P : Map → Type 0) → AllImages P old → Step old new IsStill → AllImages P new
images_still None None P each still = λ m none. absurd none
images_still None (Some t) P each still = absurd still
images_still (Some s) None P each still = absurd still
images_still (Some s) (Some t) P each still = λ m image. each m (still_image s t m still image)

-- before anything is written
pub still_leaves : (k : ℕ) (path : List (List ℕ)) (old new : Option Told) (past since : ℕ → Map → Type 0)
    → OnTold old (λ s. (m : Map) → past s.moment m → IsImage s m) → AllImages (HasNoMark k) old → Step old new IsStill
    → Step old new (λ s t. Elapses s.moment t.moment past since (IsImage t))
    → OnTold old (λ s. Step old new (λ before t. EachLeft before.moment t.moment past since (LeavesEntry s k path)))
still_leaves k path old new past since only each still time =
    leaves_first old new past since (λ s m. LeavesEntry s k path m) (λ s t m. IsImage t m) (λ s t. ((m : Map) → IsImage s m → LeavesEntry s k path m) × IsStill s t)
    only had (λ s t both m image. both.0 m (still_image s t m both.1 image))
    (on_told old new (λ s. (m : Map) → IsImage s m → LeavesEntry s k path m) IsStill (λ s t. ((m : Map) → IsImage s m → LeavesEntry s k path m) × IsStill s t) (λ s t a b. (a, b)) had still)
    time
  where
    touched_too : (s : Told) (m : Map) → IsImage s m → IsTouchedImage (entry_path k) s m
    touched_too s m image = record { formed = image.formed; untouched = λ place apart. image.untouched place (λ has. apart (Contains-append_right (entry_path k ∷ []) s.touched place has)) }

    had : OnTold old (λ s. (m : Map) → IsImage s m → LeavesEntry s k path m)
    had = on_told_one old (λ s. (m : Map) → IsImage s m → HasNoMark k m) (λ s. (m : Map) → IsImage s m → LeavesEntry s k path m)
        (λ s none m image. inl (record { no_mark = none m image; image = touched_too s m image }))
        (each_image old (HasNoMark k) each)

-- what holds before the entry's file is written
pub ready : (k : ℕ) (path : List (List ℕ)) (touch : Touch) (old new : Option Told) → k < 2 ^ 32
    → OnTold old (λ s. IsImage s s.now) → OnTold old (λ s. HasRoom s k) → AllImages (HasNoMark k) old
    → OnTold old (λ s. IsEntry path (s.now path)) → OnTold old (λ s. touch ≡ entry_touch k path (s.now path)) → Step old new IsStill
    → Step old new (λ s t. IsReady k path touch s × IsStill s t)
ready k path touch old new small image room each entry touch_is still =
    on_told old new (IsReady k path touch) IsStill (λ s t. IsReady k path touch s × IsStill s t) (λ s t a b. (a, b)) (facts old image room each entry touch_is) still
  where
    facts : (old : Option Told) → OnTold old (λ s. IsImage s s.now) → OnTold old (λ s. HasRoom s k) → AllImages (HasNoMark k) old
        → OnTold old (λ s. IsEntry path (s.now path)) → OnTold old (λ s. touch ≡ entry_touch k path (s.now path)) → OnTold old (IsReady k path touch)
    facts None image room each entry touch_is = tt
    facts (Some s) image room each entry touch_is = record { clear = clear_mark k s small image room each; entry = entry; touch_is = touch_is }
