-- What is put back where no directory will be.
use Rattle.std.proofs.Common.{◌≡◌, ◌≢◌, ◌↔◌, ℕ, ◌<◌, ◌≤◌, Bool, true, false, not, List, length, get_or, Option, Some, None, inl, inr, refl, sym, ◌∙◌, ap, subst, arith}
use Rattle.std.specs.List.{Contains}
use Rattle.std.specs.Prelude.{IsTrue}
use Rattle.std.proofs.lemmas.Bool.{cases_eq, cases_lt, false≢true}
use Rattle.std.proofs.lemmas.List.{get_or_default}
use Rattle.folder_core.specs.Folder.{Map, Told}
use Rattle.folder_core.specs.Path.{parent}
use Rattle.folder_core.specs.PathOrder.{IsPathBefore}
use Rattle.folder_core.specs.Step.{OnTold}
use Rattle.folder_core.specs.declared.node.Node.{Node}
use Rattle.folder_core.specs.declared.node.Node.TheVariants.{Dir}
use Rattle.install_journal.specs.Firsts.{Finds}
use Rattle.install_journal.specs.Fitting.{AreInOrder, HasOldest, WillBeDirectory, HangsLoose, IsLooseHere}
use Rattle.install_journal.specs.declared.plan.Oldest.{Oldest}
use Rattle.install_journal.specs.declared.plan.OldKind.TheVariants.{Nothing, Directory}
use Rattle.install_journal.proofs.FittingsOrder.{one_of_path, oldest_rise, no_oldest}
use Rattle.install_journal.proofs.Orders.{not_before_itself, one_way}

not_directory : (oldest : List Oldest) (m : Map) (path : List (List ℕ)) (one : Oldest) → AreInOrder oldest → Contains oldest one × (one.path ≡ path) → one.kind ≢ Directory → ¬ (WillBeDirectory oldest m path)
not_directory oldest m path one rising has other (inl puts) =
    other (ap (λ (o : Oldest). o.kind) (one_of_path oldest rising one puts.one has.0 puts.has (has.1 ∙ sym puts.at)) ∙ puts.kind)
not_directory oldest m path one rising has other (inr stays) = stays.0 (one, (has.0, has.1))

pub other_kind_told : (told : Option Told) (oldest : List Oldest) (path : List (List ℕ)) (one : Oldest) → (AreInOrder oldest → Contains oldest one × (one.path ≡ path)) → one.kind ≢ Directory
    → OnTold told (λ s. AreInOrder oldest → IsTrue false ↔ WillBeDirectory oldest s.now path)
other_kind_told None oldest path one has other = tt
other_kind_told (Some s) oldest path one has other = λ rising. (
  λ nope. absurd (false≢true nope),
  λ will. absurd (not_directory oldest s.now path one rising (has rising) other will),
)

stays_directory : (oldest : List Oldest) (m : Map) (path : List (List ℕ)) → ¬ (HasOldest oldest path) → WillBeDirectory oldest m path → m path ≡ Some Dir
stays_directory oldest m path none (inl puts) = absurd (none (puts.one, (puts.has, puts.at)))
stays_directory oldest m path none (inr stays) = stays.1

pub looked_told : (told : Option Told) (oldest : List Oldest) (path : List (List ℕ)) (stands : Option Node) (tested : Bool) → (AreInOrder oldest → ¬ (HasOldest oldest path))
    → OnTold told (λ s. s.now path ≡ stands) → IsTrue tested ↔ (stands ≡ Some Dir)
    → OnTold told (λ s. AreInOrder oldest → IsTrue tested ↔ WillBeDirectory oldest s.now path)
looked_told None oldest path stands tested none found is = tt
looked_told (Some s) oldest path stands tested none found is = λ rising. (
  λ holds. inr (none rising, found ∙ is.0 holds),
  λ will. is.1 (sym found ∙ stays_directory oldest s.now path (none rising) will),
)

loose_or_not : (oldest : List Oldest) (m : Map) (one : Oldest) (directory : Bool) → one.kind ≢ Nothing → IsTrue directory ↔ WillBeDirectory oldest m (parent one.path) → IsTrue (not directory) ↔ HangsLoose oldest m one
loose_or_not oldest m one true some is = (λ nope. absurd (false≢true nope), λ loose. absurd (loose.parent (is.0 refl)))
loose_or_not oldest m one false some is = (λ nope. record { some = some; parent = λ will. absurd (false≢true (is.1 will)) }, λ loose. refl)

pub loose_told : (told : Option Told) (oldest : List Oldest) (one : Oldest) (above : List (List ℕ)) (directory : Bool) → one.kind ≢ Nothing → above ≡ parent one.path
    → OnTold told (λ s. AreInOrder oldest → IsTrue directory ↔ WillBeDirectory oldest s.now above)
    → OnTold told (λ s. AreInOrder oldest → IsTrue (not directory) ↔ HangsLoose oldest s.now one)
loose_told None oldest one above directory some is known = tt
loose_told (Some s) oldest one above directory some is known = λ rising.
    loose_or_not oldest s.now one directory some (subst (λ (p : List (List ℕ)). IsTrue directory ↔ WillBeDirectory oldest s.now p) is (known rising))

pub firm_told : (told : Option Told) (oldest : List Oldest) (one : Oldest) (loose : Bool) → loose ≡ false
    → OnTold told (λ s. AreInOrder oldest → IsTrue loose ↔ HangsLoose oldest s.now one)
    → OnTold told (λ s. AreInOrder oldest → ¬ (HangsLoose oldest s.now one))
firm_told None oldest one loose is known = tt
firm_told (Some s) oldest one loose is known = λ rising hangs. false≢true (sym is ∙ (known rising).1 hangs)

module _ (oldest : List Oldest) (m : Map) where
  none_loose : ((k : ℕ) → k < length oldest → ¬ (HangsLoose oldest m (get_or oldest k no_oldest))) → (path : List (List ℕ)) → ¬ (IsLooseHere oldest m path)
  none_loose none path (one, ((k, below, at), loose)) =
      none k below (subst (HangsLoose oldest m) (sym (get_or_default oldest k no_oldest one below ∙ at)) loose.1)

  module _ (rising : AreInOrder oldest) (place : ℕ) (below : place < length oldest) (none : (k : ℕ) → k < place → ¬ (HangsLoose oldest m (get_or oldest k no_oldest)))
      (path : List (List ℕ)) (here : (get_or oldest place no_oldest).path ≡ path) where
    not_earlier : (k : ℕ) → k < length oldest → HangsLoose oldest m (get_or oldest k no_oldest) → ¬ (IsPathBefore (get_or oldest k no_oldest).path path)
    not_earlier k under loose before = elim (cases_lt k place) [
      | inl less ↦ none k less loose
      | inr more ↦ elim (cases_eq k place) [
        | inl same ↦ not_before_itself path (subst (λ (p : List (List ℕ)). IsPathBefore p path) (ap (λ (n : ℕ). (get_or oldest n no_oldest).path) same ∙ here) before)
        | inr apart ↦
            let rises : IsPathBefore path (get_or oldest k no_oldest).path = subst (λ (p : List (List ℕ)). IsPathBefore p (get_or oldest k no_oldest).path) here (oldest_rise oldest rising place k (omega arith) under) in
            one_way path (get_or oldest k no_oldest).path rises before
      ]
    ]

    first_hangs : HangsLoose oldest m (get_or oldest place no_oldest) → Finds (IsLooseHere oldest m) (Some path)
    first_hangs loose = record {
      has = (get_or oldest place no_oldest, ((place, below, get_or_default oldest place (get_or oldest place no_oldest) no_oldest below), (here, loose)));
      first = λ other is before.
          let k = is.1.0.0 in
          let same : get_or oldest k no_oldest ≡ is.0 = get_or_default oldest k no_oldest is.0 is.1.0.1 ∙ is.1.0.2 in
          not_earlier k is.1.0.1 (subst (HangsLoose oldest m) (sym same) is.1.1.1) (subst (λ (p : List (List ℕ)). IsPathBefore p path) (sym (ap (λ (o : Oldest). o.path) same ∙ is.1.1.0)) before);
    }

module _ (told : Option Told) (oldest : List Oldest) (place : ℕ) (none : (k : ℕ) → k < place → OnTold told (λ s. AreInOrder oldest → ¬ (HangsLoose oldest s.now (get_or oldest k no_oldest)))) where
  pub none_loose_told : length oldest ≤ place → OnTold told (λ s. AreInOrder oldest → Finds (IsLooseHere oldest s.now) None)
  none_loose_told all = go told none
    where
      go : (told : Option Told) → ((k : ℕ) → k < place → OnTold told (λ s. AreInOrder oldest → ¬ (HangsLoose oldest s.now (get_or oldest k no_oldest)))) → OnTold told (λ s. AreInOrder oldest → Finds (IsLooseHere oldest s.now) None)
      go None none = tt
      go (Some s) none = λ rising. none_loose oldest s.now (λ k under. none k (omega (arith, under, all)) rising)

  pub one_loose_told : (one : Oldest) (path : List (List ℕ)) (loose : Bool) → place < length oldest → one ≡ get_or oldest place one → path ≡ one.path → loose ≡ true
      → OnTold told (λ s. AreInOrder oldest → IsTrue loose ↔ HangsLoose oldest s.now one)
      → OnTold told (λ s. AreInOrder oldest → Finds (IsLooseHere oldest s.now) (Some path))
  one_loose_told one path loose below at is hangs known = go told none known
    where
      same : one ≡ get_or oldest place no_oldest
      same = at ∙ get_or_default oldest place one no_oldest below

      go : (told : Option Told) → ((k : ℕ) → k < place → OnTold told (λ s. AreInOrder oldest → ¬ (HangsLoose oldest s.now (get_or oldest k no_oldest))))
          → OnTold told (λ s. AreInOrder oldest → IsTrue loose ↔ HangsLoose oldest s.now one)
          → OnTold told (λ s. AreInOrder oldest → Finds (IsLooseHere oldest s.now) (Some path))
      go None none known = tt
      go (Some s) none known = λ rising.
          first_hangs oldest s.now rising place below (λ k under. none k under rising) path (ap (λ (o : Oldest). o.path) (sym same) ∙ sym is)
          (subst (HangsLoose oldest s.now) same ((known rising).0 hangs))
