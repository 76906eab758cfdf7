-- Nodes put one after the other: the map that a front of them leads to, and the paths that stay as they were.
use Rattle.std.proofs.Common.{◌≡◌, ◌≢◌, ℕ, suc, ◌+◌, ◌<◌, List, [], ◌∷◌, ◌++◌, length, take, drop, Option, Some, None, get_or, refl, sym, ap, ◌∙◌, subst, arith}
use Rattle.std.proofs.Math.Seq.{take-suc}
use Rattle.std.proofs.lemmas.List.{take-append-drop, length-drop, drop_more}
use Rattle.std.proofs.lemmas.List.Elements.{All-get_or}
use Rattle.folder_core.specs.Folder.{Told, Map, IsFormed, SameBut, set_at}
use Rattle.folder_core.specs.Step.{OnTold, Step}
use Rattle.folder_core.specs.declared.node.Node.{Node}
use Rattle.folder_core.specs.declared.node.Touch.{Touch}
use Rattle.unit_model.specs.declared.unit.Unit.{Unit}
use Rattle.director_core.specs.FirstInstall.{first_touches}
use Rattle.director_core.specs.Laid.{CanLay, AreNodes, IsBare, IsBegun, SameElsewhere, bare, laid}
use Rattle.director_core.proofs.Maps.{map_bare}
use Rattle.director_source.proofs.Steps.{step_then}

laid_append : (front rest : List Touch) (m : Map) → laid (front ++ rest) m ≡ laid rest (laid front m)
laid_append [] rest m = refl
laid_append (touch ∷ front) rest m = laid_append front rest (set_at m touch.path touch.node)

-- ---- one node more

pub set_as : (a b : Option Told) (path : List (List ℕ)) (copied own : Option Node) → copied ≡ own
    → Step a b (λ s t. t.now ≡ set_at s.now path copied)
    → Step a b (λ s t. t.now ≡ set_at s.now path own)
set_as a b path copied own e step =
    let P : Option Node → Type 0 = λ n. Step a b (λ s t. t.now ≡ set_at s.now path n) in
    subst P e step

laid_more : (touches : List Touch) (i : ℕ) (touch : Touch) (m n o : Map) → i < length touches → touch ≡ get_or touches i touch
    → n ≡ laid (take i touches) m → o ≡ set_at n touch.path touch.node → o ≡ laid (take (i + 1) touches) m
laid_more touches i touch m n o inside is before after =
    let next : i + 1 ≡ suc i = omega arith in
    let more : take (i + 1) touches ≡ take i touches ++ touch ∷ [] =
    ap (λ (k : ℕ). take k touches) next ∙ (take-suc touches i touch inside ∙ ap (λ (x : Touch). take i touches ++ x ∷ []) (sym is)) in
    let all : laid (take (i + 1) touches) m ≡ set_at (laid (take i touches) m) touch.path touch.node =
    ap (λ (ts : List Touch). laid ts m) more ∙ laid_append (take i touches) (touch ∷ []) m in
    after ∙ (ap (λ (x : Map). set_at x touch.path touch.node) before ∙ sym all)

pub front_laid : (a b c : Option Told) (touches : List Touch) (i : ℕ) (touch : Touch) → i < length touches → touch ≡ get_or touches i touch
    → Step a b (λ s t. t.now ≡ laid (take i touches) s.now)
    → Step b c (λ s t. t.now ≡ set_at s.now touch.path touch.node)
    → Step a c (λ s t. t.now ≡ laid (take (i + 1) touches) s.now)
front_laid a b c touches i touch inside is before after =
    step_then a b c (λ s t. t.now ≡ laid (take i touches) s.now) (λ s t. t.now ≡ set_at s.now touch.path touch.node) (λ s t. t.now ≡ laid (take (i + 1) touches) s.now) before after
    (λ s t u p q. laid_more touches i touch s.now t.now u.now inside is p q)

pub kept_elsewhere : (a b c : Option Told) (touches : List Touch) (i : ℕ) (touch : Touch) → i < length touches → touch ≡ get_or touches i touch
    → Step a b (λ s t. SameElsewhere touches s.now t.now)
    → Step b c (λ s t. SameBut touch.path s.now t.now)
    → Step a c (λ s t. SameElsewhere touches s.now t.now)
kept_elsewhere a b c touches i touch inside is before after =
    step_then a b c (λ s t. SameElsewhere touches s.now t.now) (λ s t. SameBut touch.path s.now t.now) (λ s t. SameElsewhere touches s.now t.now) before after
    (λ s t u p q path apart.
    let P : Touch → Type 0 = λ x. x.path ≢ path in
    let other : touch.path ≢ path = subst P (sym is) (All-get_or P touches i touch inside apart) in
    q path (λ same. other (sym same)) ∙ p path apart)

next_left : (touches : List Touch) (i : ℕ) (touch : Touch) → i < length touches → touch ≡ get_or touches i touch → drop i touches ≡ touch ∷ drop (i + 1) touches
next_left touches i touch inside is = drop_more touches i touch inside ∙ ap (λ (x : Touch). x ∷ drop (i + 1) touches) (sym is)

-- the nodes that are left may be put, and lead to the map that all of them lead to
abbrev pub Leads : List Touch → ℕ → Map → Map → Type 0
Leads touches i old now = CanLay (drop i touches) now × (laid (drop i touches) now ≡ laid touches old)

leads_more : (touches : List Touch) (i : ℕ) (touch : Touch) (m n o : Map) → i < length touches → touch ≡ get_or touches i touch
    → Leads touches i m n → o ≡ set_at n touch.path touch.node → Leads touches (i + 1) m o
leads_more touches i touch m n o inside is leads after =
    let P : List Touch → Type 0 = λ ts. CanLay ts n × (laid ts n ≡ laid touches m) in
    let here : P (touch ∷ drop (i + 1) touches) = subst P (next_left touches i touch inside is) leads in
    let Q : Map → Type 0 = λ x. CanLay (drop (i + 1) touches) x × (laid (drop (i + 1) touches) x ≡ laid touches m) in
    subst Q (sym after) (here.0.1, here.1)

pub rest_laid : (a b c : Option Told) (touches : List Touch) (i : ℕ) (touch : Touch) → i < length touches → touch ≡ get_or touches i touch
    → Step a b (λ s t. Leads touches i s.now t.now)
    → Step b c (λ s t. t.now ≡ set_at s.now touch.path touch.node)
    → Step a c (λ s t. Leads touches (i + 1) s.now t.now)
rest_laid a b c touches i touch inside is before after =
    step_then a b c (λ s t. Leads touches i s.now t.now) (λ s t. t.now ≡ set_at s.now touch.path touch.node) (λ s t. Leads touches (i + 1) s.now t.now) before after
    (λ s t u p q. leads_more touches i touch s.now t.now u.now inside is p q)

pub nodes_left : (touches : List Touch) (i : ℕ) (touch : Touch) → i < length touches → touch ≡ get_or touches i touch → AreNodes (drop i touches) → AreNodes (drop (i + 1) touches)
nodes_left touches i touch inside is nodes =
    let here : AreNodes (touch ∷ drop (i + 1) touches) = subst AreNodes (next_left touches i touch inside is) nodes in
    here.1

-- ---- no memory for the next node

rest_left : (touches : List Touch) (i : ℕ) → i < length touches → drop i touches ≢ []
rest_left touches i inside none =
    let count = length-drop i touches in
    let zero_left : length (drop i touches) ≡ 0 = ap (λ (ts : List Touch). length ts) none in
    omega (arith, inside, count, zero_left)

pub begun : (a b c : Option Told) (touches : List Touch) (i : ℕ) → i < length touches
    → Step a b (λ s t. t.now ≡ laid (take i touches) s.now)
    → Step b c (λ s t. (t.now ≡ s.now) × (t.touched ≡ s.touched))
    → Step a c (λ s t. IsBegun touches s.now t.now)
begun a b c touches i inside before refused =
    step_then a b c (λ s t. t.now ≡ laid (take i touches) s.now) (λ s t. (t.now ≡ s.now) × (t.touched ≡ s.touched)) (λ s t. IsBegun touches s.now t.now) before refused
    (λ s t u p q. (take i touches, drop i touches, take-append-drop i touches, rest_left touches i inside, q.0 ∙ p))

-- ---- the first install

pub first_elsewhere : (a b : Option Told) (touches : List Touch) (profile : List ℕ) (unit : Unit) → touches ≡ first_touches profile unit
    → Step a b (λ s t. SameElsewhere touches s.now t.now)
    → Step a b (λ s t. SameElsewhere (first_touches profile unit) s.now t.now)
first_elsewhere a b touches profile unit e kept =
    let P : List Touch → Type 0 = λ ts. Step a b (λ s t. SameElsewhere ts s.now t.now) in
    subst P e kept

pub synced_elsewhere : (a b c : Option Told) (touches : List Touch) (profile : List ℕ) (unit : Unit) → touches ≡ first_touches profile unit
    → Step a b (λ s t. SameElsewhere touches s.now t.now)
    → Step b c (λ s t. t.now ≡ s.now)
    → Step a c (λ s t. SameElsewhere (first_touches profile unit) s.now t.now)
synced_elsewhere a b c touches profile unit e kept stays =
    step_then a b c (λ s t. SameElsewhere (first_touches profile unit) s.now t.now) (λ s t. t.now ≡ s.now) (λ s t. SameElsewhere (first_touches profile unit) s.now t.now)
    (first_elsewhere a b touches profile unit e kept) stays
    (λ s t u p q path apart. ap (λ (m : Map). m path) q ∙ p path apart)

pub first_begun : (a b : Option Told) (touches : List Touch) (profile : List ℕ) (unit : Unit) → touches ≡ first_touches profile unit
    → OnTold a (λ s. IsFormed s.now) → OnTold a (λ s. IsBare s.now)
    → Step a b (λ s t. IsBegun touches s.now t.now)
    → Step a b (λ s t. IsBegun (first_touches profile unit) bare t.now)
first_begun None None touches profile unit e formed is_bare h = tt
first_begun None (Some t) touches profile unit e formed is_bare h = absurd h
first_begun (Some s) None touches profile unit e formed is_bare h = absurd h
first_begun (Some s) (Some t) touches profile unit e formed is_bare h =
    (h.0, h.1, h.2 ∙ e, h.3, h.4 ∙ ap (λ (m : Map). laid h.0 m) (map_bare s.now formed is_bare))
