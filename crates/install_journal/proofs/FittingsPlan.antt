-- What a plan says of the entries: whether they can be put back, and what shows that they can't.
use Rattle.std.proofs.Common.{◌≡◌, ◌≢◌, ◌⊎◌, ℕ, ◌-◌, List, [], ◌∷◌, ◌++◌, Option, Some, None, inl, inr, ⊎_elim, refl, sym, ◌∙◌, ap, subst, arith, append_assoc}
use Rattle.std.specs.List.{Contains}
use Rattle.std.specs.Option.{IfSome}
use Rattle.std.specs.Prelude.{IsSome, is_some}
use Rattle.std.proofs.lemmas.Bool.{false≢true}
use Rattle.folder_core.specs.Crash.{IsImage}
use Rattle.folder_core.specs.Folder.{Map, Told, IsFormed}
use Rattle.folder_core.specs.Node.{IsNode, IsSmallAt}
use Rattle.folder_core.specs.Path.{IsPath, parent}
use Rattle.folder_core.specs.PathOrder.{IsPathBefore}
use Rattle.folder_core.specs.Step.{OnTold}
use Rattle.folder_core.specs.declared.node.Node.{Node}
use Rattle.folder_core.specs.declared.node.Node.TheVariants.{File, Dir, Link}
use Rattle.folder_core.proofs.Maps.{front_last}
use Rattle.folder_core.proofs.PathOrder.{above_first}
use Rattle.backup_store.specs.Entry.{IsOldNode}
use Rattle.backup_store.specs.declared.entry.Entry.{Entry}
use Rattle.install_journal.specs.Broken.{AreSound, IsUncovered, IsLoose}
use Rattle.install_journal.specs.Firsts.{Finds}
use Rattle.install_journal.specs.Fitting.{AreInOrder, HasOldest, IsBare, WillBeDirectory, IsLooseHere}
use Rattle.install_journal.specs.Overlay.{overlay, Covers, entry_at}
use Rattle.install_journal.specs.Plan.{kind_of, IsOldest, IsGathered, FitsOrShows}
use Rattle.install_journal.specs.Restored.{CanOverlay}
use Rattle.install_journal.specs.declared.plan.Oldest.{Oldest}
use Rattle.install_journal.specs.declared.plan.OldKind.TheVariants.{Nothing, Directory}
use Rattle.install_journal.specs.declared.plan.Plan.{Plan}
use Rattle.install_journal.proofs.Closings.{nothing_below_other}
use Rattle.install_journal.proofs.Counting.{counted_one}
use Rattle.install_journal.proofs.FittingsFirst.{stands_at, finds_alike}
use Rattle.folder_core.proofs.PathOrder.{path_cmp_total}
use Rattle.install_journal.proofs.Overlays.{covers_or_not, overlay_uncovered}

kind_nothing : (old : Option Node) → kind_of old ≡ Nothing → old ≡ None
kind_nothing None is = refl
kind_nothing (Some (File mode blob)) is = absurd (let no : ⊥ = cc in no)
kind_nothing (Some Dir) is = absurd (let no : ⊥ = cc in no)
kind_nothing (Some (Link target)) is = absurd (let no : ⊥ = cc in no)

kind_directory : (old : Option Node) → kind_of old ≡ Directory → old ≡ Some Dir
kind_directory None is = absurd (let no : ⊥ = cc in no)
kind_directory (Some (File mode blob)) is = absurd (let no : ⊥ = cc in no)
kind_directory (Some Dir) is = refl
kind_directory (Some (Link target)) is = absurd (let no : ⊥ = cc in no)

dir_or_not : (stands : Option Node) → (stands ≡ Some Dir) ⊎ (stands ≢ Some Dir)
dir_or_not None = inr (λ is. cc)
dir_or_not (Some (File mode blob)) = inr (λ is. cc)
dir_or_not (Some Dir) = inl refl
dir_or_not (Some (Link target)) = inr (λ is. cc)

none_or_some : (stands : Option Node) → (stands ≡ None) ⊎ IsSome stands
none_or_some None = inl refl
none_or_some (Some node) = inr refl

not_some : (stands : Option Node) → stands ≡ None → ¬ (IsSome stands)
not_some stands none some = false≢true (ap is_some (sym none) ∙ some)

-- a directory stands above what stands
stands_above : (m : Map) (path : List (List ℕ)) (next : List ℕ) (rest : List (List ℕ)) → IsFormed m → IsSome (m (path ++ next ∷ rest)) → IsSome (m path)
stands_above m path next rest formed some = elim (dir_or_not (m path)) [
  | inl dir ↦ ap is_some dir
  | inr other ↦ absurd (not_some (m (path ++ next ∷ rest)) (nothing_below_other m rest path next formed other) some)
]

node_of_old : (node : Node) → IsOldNode node → IsNode node
node_of_old (File mode blob) old = old.0
node_of_old Dir old = tt
node_of_old (Link target) old = old.0

small_of_old : (path : List (List ℕ)) (node : Node) → IsOldNode node → IsSmallAt path node
small_of_old path (File mode blob) old = λ outside. old.1
small_of_old path Dir old = tt
small_of_old path (Link target) old = tt

module _ (plan : Plan) (m : Map) (gathered : IsGathered plan m) (formed : IsFormed m) where
  has_oldest : (path : List (List ℕ)) → Covers gathered.entries path → HasOldest plan.oldest path
  has_oldest path covers = (gathered.covers path).0 covers

  is_covered : (path : List (List ℕ)) → HasOldest plan.oldest path → Covers gathered.entries path
  is_covered path has = (gathered.covers path).1 has

  bare_is_uncovered : (path : List (List ℕ)) → IsBare plan.oldest m path → IsUncovered gathered.entries m path
  bare_is_uncovered path (one, (has, bare)) = record {
    stands = bare.stands;
    uncovered = λ covers. bare.bare (has_oldest path covers);
    above = one.path;
    covered = is_covered one.path (one, (has, refl));
    below = (bare.name, [], bare.child);
  }

  child_is_bare : (above : List (List ℕ)) (name : List ℕ) → Covers gathered.entries above → IsSome (m (above ++ name ∷ [])) → ¬ (Covers gathered.entries (above ++ name ∷ [])) → IsBare plan.oldest m (above ++ name ∷ [])
  child_is_bare above name covers stands none =
      let has = has_oldest above covers in (
        has.0,
        (
          has.1.0,
          record {
            name = name;
            child = ap (λ (p : List (List ℕ)). p ++ name ∷ []) (sym has.1.1);
            stands = stands;
            bare = λ there. none (is_covered (above ++ name ∷ []) there);
          },
        ),
      )

  -- what is uncovered has such a path above it, or is one, directly below a covered one
  abbrev HasBare : List (List ℕ) → Type 0
  HasBare place = (path : List (List ℕ)) × (IsBare plan.oldest m path × ((path ≡ place) ⊎ IsPathBefore path place))

  bare_above : (rest : List (List ℕ)) (above : List (List ℕ)) (name : List ℕ) → Covers gathered.entries above → IsSome (m (above ++ name ∷ rest)) → ¬ (Covers gathered.entries (above ++ name ∷ rest)) → HasBare (above ++ name ∷ rest)
  bare_above [] above name covers stands none = (above ++ name ∷ [], (child_is_bare above name covers stands none, inl refl))
  bare_above (next ∷ rest) above name covers stands none =
      let same : (above ++ name ∷ []) ++ next ∷ rest ≡ above ++ name ∷ next ∷ rest = append_assoc above (name ∷ []) (next ∷ rest) in
      let there : IsSome (m ((above ++ name ∷ []) ++ next ∷ rest)) = subst (λ (p : List (List ℕ)). IsSome (m p)) (sym same) stands in
      elim (covers_or_not gathered.entries (above ++ name ∷ [])) [
        | inl has ↦ subst HasBare same (bare_above rest (above ++ name ∷ []) next has there (λ deeper. none (subst (Covers gathered.entries) same deeper)))
        | inr lacks ↦ (
          above ++ name ∷ [],
          (
            child_is_bare above name covers (stands_above m (above ++ name ∷ []) next rest formed there) lacks,
            inr (subst (IsPathBefore (above ++ name ∷ [])) same (above_first (above ++ name ∷ []) next rest)),
          ),
        )
      ]

  has_bare : (path : List (List ℕ)) → IsUncovered gathered.entries m path → HasBare path
  has_bare path is =
      let same : path ≡ is.above ++ is.below.0 ∷ is.below.1 = is.below.2 in
      subst HasBare (sym same) (bare_above is.below.1 is.above is.below.0 is.covered (subst (λ (p : List (List ℕ)). IsSome (m p)) same is.stands) (λ covers. is.uncovered (subst (Covers gathered.entries) (sym same) covers)))

  finds_uncovered : (found : Option (List (List ℕ))) → Finds (IsBare plan.oldest m) found → Finds (IsUncovered gathered.entries m) found
  finds_uncovered None finds = λ path is. let has = has_bare path is in finds has.0 has.1.0
  finds_uncovered (Some path) finds = record {
    has = bare_is_uncovered path finds.has;
    first = λ other is before.
        let has = has_bare other is in
        ⊎_elim
        (λ same. finds.first has.0 has.1.0 (subst (λ (p : List (List ℕ)). IsPathBefore p path) (sym same) before))
        (λ less. finds.first has.0 has.1.0 (path_cmp_total.trans has.0 other path less before))
        has.1.1;
  }

  kind_put : (one : Oldest) → Contains plan.oldest one → one.kind ≡ kind_of (overlay gathered.entries m one.path)
  kind_put one has = let is = gathered.oldest one has in is.kind ∙ ap kind_of (sym (is.first m))

  kind_there : (one : Oldest) (path : List (List ℕ)) → Contains plan.oldest one → one.path ≡ path → one.kind ≡ kind_of (overlay gathered.entries m path)
  kind_there one path has at = kind_put one has ∙ ap (λ (p : List (List ℕ)). kind_of (overlay gathered.entries m p)) at

  will_be : (path : List (List ℕ)) → overlay gathered.entries m path ≡ Some Dir → WillBeDirectory plan.oldest m path
  will_be path dir = elim (covers_or_not gathered.entries path) [
    | inl covers ↦
        let has = has_oldest path covers in
        inl (record { one = has.0; has = has.1.0; at = has.1.1; kind = kind_there has.0 path has.1.0 has.1.1 ∙ ap kind_of dir })
    | inr none ↦ inr (λ has. none (is_covered path has), sym (overlay_uncovered gathered.entries m path none) ∙ dir)
  ]

  is_put : (path : List (List ℕ)) → WillBeDirectory plan.oldest m path → overlay gathered.entries m path ≡ Some Dir
  is_put path (inl puts) = kind_directory (overlay gathered.entries m path) (sym (kind_there puts.one path puts.has puts.at) ∙ puts.kind)
  is_put path (inr stays) = overlay_uncovered gathered.entries m path (λ covers. stays.0 (has_oldest path covers)) ∙ stays.1

  here_is_loose : (path : List (List ℕ)) → IsLooseHere plan.oldest m path → IsLoose gathered.entries m path
  here_is_loose path (one, (has, (at, loose))) = record {
    not_root = λ root. gathered.sound.not_root (subst (Covers gathered.entries) root (is_covered path (one, (has, at))));
    stands = ⊎_elim (λ none. absurd (loose.some (kind_there one path has at ∙ ap kind_of none))) (λ some. some) (none_or_some (overlay gathered.entries m path));
    parent = λ dir. loose.parent (subst (λ (p : List (List ℕ)). WillBeDirectory plan.oldest m (parent p)) (sym at) (will_be (parent path) dir));
  }

  -- where nothing is uncovered
  module _ (all : (path : List (List ℕ)) → ¬ (IsUncovered gathered.entries m path)) where
    uncovered_is_firm : (path : List (List ℕ)) → IsLoose gathered.entries m path → ¬ (Covers gathered.entries path) → ⊥
    uncovered_is_firm path loose none =
        let stands : IsSome (m path) = subst IsSome (overlay_uncovered gathered.entries m path none) loose.stands in
        let node = stands_at (m path) stands in
        let dir : m (parent path) ≡ Some Dir = formed.parents path node.0 loose.not_root node.1 in
        let last = front_last path loose.not_root in
        elim (covers_or_not gathered.entries (parent path)) [
          | inl covers ↦ all path (record { stands = stands; uncovered = none; above = parent path; covered = covers; below = (last.0, [], last.1) })
          | inr lacks ↦ loose.parent (overlay_uncovered gathered.entries m (parent path) lacks ∙ dir)
        ]

    loose_is_here : (path : List (List ℕ)) → IsLoose gathered.entries m path → IsLooseHere plan.oldest m path
    loose_is_here path loose = elim (covers_or_not gathered.entries path) [
      | inl covers ↦
          let has = has_oldest path covers in (
            has.0,
            (
              has.1.0,
              (
                has.1.1,
                record {
                  some = λ nothing. not_some (overlay gathered.entries m path) (kind_nothing (overlay gathered.entries m path) (sym (kind_there has.0 path has.1.0 has.1.1) ∙ nothing)) loose.stands;
                  parent = λ will. loose.parent (is_put (parent path) (subst (λ (p : List (List ℕ)). WillBeDirectory plan.oldest m (parent p)) has.1.1 will));
                },
              ),
            ),
          )
      | inr none ↦ absurd (uncovered_is_firm path loose none)
    ]

    finds_loose : (found : Option (List (List ℕ))) → Finds (IsLooseHere plan.oldest m) found → Finds (IsLoose gathered.entries m) found
    finds_loose found finds = finds_alike (IsLooseHere plan.oldest m) (IsLoose gathered.entries m) here_is_loose loose_is_here found finds

    -- and nothing is loose
    module _ (firm : (path : List (List ℕ)) → ¬ (IsLoose gathered.entries m path)) where
      parents_put : (path : List (List ℕ)) (node : Node) → path ≢ [] → overlay gathered.entries m path ≡ Some node → overlay gathered.entries m (parent path) ≡ Some Dir
      parents_put path node some is = ⊎_elim (λ dir. dir) (λ other. absurd (firm path (record { not_root = some; stands = ap is_some is; parent = other }))) (dir_or_not (overlay gathered.entries m (parent path)))

      put_old : (one : Oldest) (path : List (List ℕ)) (node : Node) → IsOldest gathered.entries one → one.path ≡ path → overlay gathered.entries m path ≡ Some node → IsPath path × IsOldNode node
      put_old one path node is at put =
          let place = one.number.0 - 1 in
          let from = is.from_one in
          let most = is.most in
          let holds = gathered.sound.counted.holds place (omega (arith, from, most)) in
          let before : (entry_at gathered.entries place).before ≡ Some node = sym (is.first m) ∙ ap (overlay gathered.entries m) at ∙ put in
          (subst IsPath (is.path ∙ at) holds.entry.is_path, subst (λ (o : Option Node). IfSome o IsOldNode) before holds.entry.old)

      put_or_stays : (path : List (List ℕ)) (node : Node) → overlay gathered.entries m path ≡ Some node → (IsPath path × IsOldNode node) ⊎ (m path ≡ Some node)
      put_or_stays path node put = elim (covers_or_not gathered.entries path) [
        | inl covers ↦ let has = has_oldest path covers in inl (put_old has.0 path node (gathered.oldest has.0 has.1.0) has.1.1 put)
        | inr none ↦ inr (sym (overlay_uncovered gathered.entries m path none) ∙ put)
      ]

      formed_put : IsFormed (overlay gathered.entries m)
      formed_put = record {
        root = overlay_uncovered gathered.entries m [] gathered.sound.not_root ∙ formed.root;
        parents = parents_put;
        paths = λ path node is. ⊎_elim (λ old. old.0) (λ stays. formed.paths path node stays) (put_or_stays path node is);
        nodes = λ path node is. ⊎_elim (λ old. node_of_old node old.1) (λ stays. formed.nodes path node stays) (put_or_stays path node is);
        small = λ path node is. ⊎_elim (λ old. small_of_old path node old.1) (λ stays. formed.small path node stays) (put_or_stays path node is);
      }

      can_overlay : CanOverlay gathered.entries m
      can_overlay = record {
        not_root = gathered.sound.not_root;
        outside = gathered.sound.outside;
        none_below = λ path place covers below none. ⊎_elim (λ nothing. nothing) (λ some. absurd (all place (record { stands = some; uncovered = none; above = path; covered = covers; below = below }))) (none_or_some (m place));
        formed = formed_put;
      }

    fits : (found : Option (List (List ℕ))) → Finds (IsLoose gathered.entries m) found → FitsOrShows gathered.entries m found
    fits None finds = can_overlay finds
    fits (Some path) finds = inr (all, finds)

  all_sound : (found : Option (List (List ℕ))) → FitsOrShows gathered.entries m found → (entries : List Entry) → AreSound m entries → FitsOrShows entries m found
  all_sound found fit entries sound = subst (λ (l : List Entry). FitsOrShows l m found) (counted_one m gathered.entries entries gathered.sound.counted sound.counted) fit

  shows_uncovered : (found : Option (List (List ℕ))) → IsSome found → Finds (IsUncovered gathered.entries m) found → FitsOrShows gathered.entries m found
  shows_uncovered None some finds = absurd (false≢true some)
  shows_uncovered (Some path) some finds = inl finds

module _ (told : Option Told) (plan : Plan) (oldest : List Oldest) (same : oldest ≡ plan.oldest) (image : OnTold told (λ s. IsImage s s.now)) (gathered : OnTold told (λ s. IsGathered plan s.now)) where
  pub uncovered_told : (found : Option (List (List ℕ))) → IsSome found → OnTold told (λ s. AreInOrder oldest → Finds (IsBare oldest s.now) found)
      → OnTold told (λ s. (entries : List Entry) → AreSound s.now entries → FitsOrShows entries s.now found)
  uncovered_told found some finds = go told image gathered finds
    where
      go : (told : Option Told) → OnTold told (λ s. IsImage s s.now) → OnTold told (λ s. IsGathered plan s.now) → OnTold told (λ s. AreInOrder oldest → Finds (IsBare oldest s.now) found)
          → OnTold told (λ s. (entries : List Entry) → AreSound s.now entries → FitsOrShows entries s.now found)
      go None image gathered finds = tt
      go (Some s) image gathered finds =
          let first : Finds (IsBare plan.oldest s.now) found = subst (λ (l : List Oldest). AreInOrder l → Finds (IsBare l s.now) found) same finds gathered.rising in
          all_sound plan s.now gathered image.formed found (shows_uncovered plan s.now gathered image.formed found some (finds_uncovered plan s.now gathered image.formed found first))

  pub fits_told : (found : Option (List (List ℕ))) → OnTold told (λ s. AreInOrder oldest → Finds (IsBare oldest s.now) None) → OnTold told (λ s. AreInOrder oldest → Finds (IsLooseHere oldest s.now) found)
      → OnTold told (λ s. (entries : List Entry) → AreSound s.now entries → FitsOrShows entries s.now found)
  fits_told found none finds = go told image gathered none finds
    where
      go : (told : Option Told) → OnTold told (λ s. IsImage s s.now) → OnTold told (λ s. IsGathered plan s.now) → OnTold told (λ s. AreInOrder oldest → Finds (IsBare oldest s.now) None)
          → OnTold told (λ s. AreInOrder oldest → Finds (IsLooseHere oldest s.now) found)
          → OnTold told (λ s. (entries : List Entry) → AreSound s.now entries → FitsOrShows entries s.now found)
      go None image gathered none finds = tt
      go (Some s) image gathered none finds =
          let all : Finds (IsBare plan.oldest s.now) None = subst (λ (l : List Oldest). AreInOrder l → Finds (IsBare l s.now) None) same none gathered.rising in
          let first : Finds (IsLooseHere plan.oldest s.now) found = subst (λ (l : List Oldest). AreInOrder l → Finds (IsLooseHere l s.now) found) same finds gathered.rising in
          let covered = finds_uncovered plan s.now gathered image.formed None all in
          all_sound plan s.now gathered image.formed found (fits plan s.now gathered image.formed covered found (finds_loose plan s.now gathered image.formed covered found first))
