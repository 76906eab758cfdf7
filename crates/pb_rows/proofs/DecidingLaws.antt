-- What the tests on units decide.
use Rattle.std.proofs.Common.{◌≡◌, ◌⊎◌, ◌&&◌, Bool, true, IsTrue, IfSome, Option, Some, None, List, Any, refl}
use Rattle.std.specs.Bool.{Decides}
use Rattle.std.specs.List.{list_any}
use Rattle.std.specs.Ordering.{is_lt, is_eq}
use Rattle.std.specs.Str.{bytes_eq}
use Rattle.std.specs.declared.cmp.Ordering.{Ordering}
use Rattle.std.specs.declared.cmp.Ordering.TheVariants.{Less, Equal, Greater}
use Rattle.std.proofs.lemmas.Bool.Decides.{Decides-and, Decides-or, Decides-like}
use Rattle.std.proofs.lemmas.List.Folds.{Any-from_list_any, list_any-from_Any}
use Rattle.std.proofs.lemmas.Slice.Eq.{bytes_eq-Decides}
use Rattle.osgi_version.specs.Holds.{Holds, IsBelowCeiling}
use Rattle.osgi_version.specs.VersionOrder.{version_cmp}
use Rattle.osgi_version.specs.declared.range.Ceiling.{Ceiling}
use Rattle.osgi_version.specs.declared.range.Range.{Range}
use Rattle.osgi_version.specs.declared.version.Version.{Version}
use Rattle.osgi_version.proofs.VersionOrderLaws.{version_cmp-equal, version_cmp-same}
use Rattle.unit_model.specs.Matches.{Answers, Matches}
use Rattle.unit_model.specs.declared.name.UnitName.{UnitName}
use Rattle.unit_model.specs.declared.provided.Provided.{Provided}
use Rattle.unit_model.specs.declared.required.Required.{Required}
use Rattle.unit_model.specs.declared.unit.Unit.{Unit as Package}
use Rattle.pb_rows.specs.Deciding.{same_name, is_up_to, is_below, holds_version, answers, matches}

Decides-is_lt : (o : Ordering) → Decides (is_lt o) (o ≡ Less)
Decides-is_lt Less = (λ e. refl, λ e. refl)
Decides-is_lt Equal = (λ e. cc, λ e. cc)
Decides-is_lt Greater = (λ e. cc, λ e. cc)

Decides-is_eq : (o : Ordering) → Decides (is_eq o) (o ≡ Equal)
Decides-is_eq Less = (λ e. cc, λ e. cc)
Decides-is_eq Equal = (λ e. refl, λ e. refl)
Decides-is_eq Greater = (λ e. cc, λ e. cc)

Decides-same_version : (v w : Version) → Decides (is_eq (version_cmp v w)) (v ≡ w)
Decides-same_version v w =
    Decides-like (is_eq (version_cmp v w)) (version_cmp-equal v w) (λ e. rw e (version_cmp-same w)) (Decides-is_eq (version_cmp v w))

Decides-included : (b : Bool) → Decides b (IsTrue b)
Decides-included b = (λ e. e, λ t. t)

Decides-is_up_to : (v w : Version) (included : Bool) → Decides (is_up_to v w included) ((version_cmp v w ≡ Less) ⊎ ((v ≡ w) × IsTrue included))
Decides-is_up_to v w included =
    Decides-or (is_lt (version_cmp v w)) (is_eq (version_cmp v w) && included) (Decides-is_lt (version_cmp v w))
    (Decides-and (is_eq (version_cmp v w)) included (Decides-same_version v w) (Decides-included included))

Decides-is_below : (v : Version) (c : Option Ceiling) → Decides (is_below v c) (IfSome c (IsBelowCeiling v))
Decides-is_below v None = (λ e. tt, λ t. refl)
Decides-is_below v (Some c) = Decides-is_up_to v c.version c.included

Decides-holds_version : (r : Range) (v : Version) → Decides (holds_version r v) (Holds r v)
Decides-holds_version r v =
    Decides-like (holds_version r v) (λ both. record { floor = both.0; ceiling = both.1 }) (λ h. (h.floor, h.ceiling))
    (Decides-and (is_up_to r.floor v r.floor_included) (is_below v r.ceiling) (Decides-is_up_to r.floor v r.floor_included) (Decides-is_below v r.ceiling))

Decides-answers : (r : Required) (p : Provided) → Decides (answers r p) (Answers r p)
Decides-answers r p =
    Decides-like (answers r p) (λ all. record { namespace = all.0; name = all.1.0; version = all.1.1 }) (λ a. (a.namespace, (a.name, a.version)))
    (Decides-and (bytes_eq p.namespace r.namespace) (bytes_eq p.name r.name && holds_version r.range p.version) (bytes_eq-Decides p.namespace r.namespace)
    (Decides-and (bytes_eq p.name r.name) (holds_version r.range p.version) (bytes_eq-Decides p.name r.name) (Decides-holds_version r.range p.version)))

Decides-Any : {X : Type 0} (p : X → Bool) (P : X → Type 0) → ((x : X) → Decides (p x) (P x)) → (xs : List X) → Decides (list_any p xs) (Any P xs)
Decides-Any p P each xs = (
  λ e. let a = Any-from_list_any p xs e in (a.0, a.1, a.2, a.3, (each a.1).0 a.4),
  λ a. list_any-from_Any p xs (a.0, a.1, a.2, a.3, (each a.1).1 a.4),
)

pub Decides-matches : (r : Required) (u : Package) → Decides (matches r u) (Matches r u)
Decides-matches r u = Decides-Any (answers r) (Answers r) (Decides-answers r) u.provided

pub Decides-same_name : (a b : UnitName) → Decides (same_name a b) (a ≡ b)
Decides-same_name a b =
    Decides-like (same_name a b)
    (λ both. let id : a.id ≡ b.id = both.0 in let version : a.version ≡ b.version = both.1 in λ i. record { id = id i; version = version i })
    (λ e. (λ i. (e i).id, λ i. (e i).version))
    (Decides-and (bytes_eq a.id b.id) (is_eq (version_cmp a.version b.version)) (bytes_eq-Decides a.id b.id) (Decides-same_version a.version b.version))

pub true_from : (b : Bool) → b ≡ true → IsTrue b
true_from b e = e

pub from_true : (b : Bool) → IsTrue b → b ≡ true
from_true b t = t
