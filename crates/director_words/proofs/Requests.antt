-- What the values of a request say of it, by its command, and that words ask for one request at most.
use Rattle.std.proofs.Common.{◌≡◌, ℕ, List, Option, Some, None, arith, ap₂, Result, Ok, Err, ◌⊎◌, ⊎_elim, inl, refl, ap, sym, ◌∙◌, subst, IsErrAnd}
use Rattle.std.proofs.lemmas.Fmt.{decimal_injective}
use Rattle.director_words.specs.Command.{command_named}
use Rattle.director_words.specs.Values.{values_found}
use Rattle.director_words.specs.declared.command.Syntax.{Syntax}
use Rattle.director_words.specs.Pair.{IsPair}
use Rattle.director_words.specs.Root.{IsRootWord}
use Rattle.director_words.specs.Request.{Asks, DenotesBudget, HasNumber, HasPlan, HasProfile, HasValues, verb_of}
use Rattle.director_words.specs.declared.command.Verb.{Verb}
use Rattle.director_words.specs.declared.command.Verb.TheVariants as verb
use Rattle.director_words.specs.declared.fields.Plan.{Plan}
use Rattle.director_words.specs.declared.values.Values.{Values}
use Rattle.director_words.specs.declared.request.RequestFault.{RequestFault}
use Rattle.director_words.specs.declared.request.RequestFault.TheVariants as fault
use Rattle.director_words.specs.declared.request.Request.{Request}
use Rattle.director_words.specs.declared.request.Request.TheVariants.{Install, Remove, Update, SetEnv, Revert, Show, History, Verify, Recover, Check, Script, Trial}

-- the request is made of a plan whose words each have the form
abbrev pub IsMadeOf : (List ℕ → Type 0) → (Plan → Request) → Values → Request → Type 0
IsMadeOf Form make values request =
    (plan : Plan) × HasPlan Form values plan.profile plan.budget plan.operands × (request ≡ make plan)

abbrev pub install : Plan → Request
install plan = Install plan.profile plan.budget plan.operands

abbrev pub remove : Plan → Request
remove plan = Remove plan.profile plan.budget plan.operands

abbrev pub update : Plan → Request
update plan = Update plan.profile plan.budget plan.operands

abbrev pub set_env : Plan → Request
set_env plan = SetEnv plan.profile plan.budget plan.operands

abbrev pub IsMadeBy : Verb → Values → Request → Type 0
IsMadeBy verb.Install = IsMadeOf IsRootWord install
IsMadeBy verb.Remove = IsMadeOf IsRootWord remove
IsMadeBy verb.Update = IsMadeOf IsRootWord update
IsMadeBy verb.SetEnv = IsMadeOf IsPair set_env
IsMadeBy verb.Revert = λ values request. (profile : List ℕ) × (number : ℕ) × HasProfile values profile × HasNumber values number × (request ≡ Revert profile number)
IsMadeBy verb.Show = λ values request. (profile : List ℕ) × HasProfile values profile × (request ≡ Show profile)
IsMadeBy verb.History = λ values request. (profile : List ℕ) × HasProfile values profile × (request ≡ History profile)
IsMadeBy verb.Verify = λ values request. request ≡ Verify
IsMadeBy verb.Recover = λ values request. request ≡ Recover
IsMadeBy verb.Check = λ values request. request ≡ Check
IsMadeBy verb.Script = λ values request. request ≡ Script
IsMadeBy verb.Trial = λ values request. (size : ℕ) × HasNumber values size × (request ≡ Trial size)

made : (values : Values) (request : Request) → HasValues values request → IsMadeBy (verb_of request) values request
made values (Install profile budget roots) h = (record { profile = profile; budget = budget; operands = roots }, h, refl)
made values (Remove profile budget roots) h = (record { profile = profile; budget = budget; operands = roots }, h, refl)
made values (Update profile budget roots) h = (record { profile = profile; budget = budget; operands = roots }, h, refl)
made values (SetEnv profile budget pairs) h = (record { profile = profile; budget = budget; operands = pairs }, h, refl)
made values (Revert profile number) h = (profile, number, h.0, h.1, refl)
made values (Show profile) h = (profile, h, refl)
made values (History profile) h = (profile, h, refl)
made values Verify h = refl
made values Recover h = refl
made values Check h = refl
made values Script h = refl
made values (Trial size) h = (size, h.0, refl)

-- a request of this command with these values is made so
pub made_by : (verb : Verb) (values : Values) (request : Request) → verb_of request ≡ verb → HasValues values request → IsMadeBy verb values request
made_by verb values request e h =
    let Made : Verb → Type 0 = λ v. IsMadeBy v values request in
    subst Made e (made values request h)

-- the plan that was read is that of any request with the values
pub only_plan : (make : Plan → Request) (read : Result Plan RequestFault) (plan asked : Plan) (request : Request) → read ≡ Ok plan → request ≡ make asked → (read ≡ Ok asked) ⊎ (read ≡ Err fault.NoMemory)
    → let answer : Result Request RequestFault = Ok (make plan) in (answer ≡ Ok request) ⊎ (answer ≡ Err fault.NoMemory)
only_plan make read plan asked request is made =
    ⊎_elim (λ e. let same : plan ≡ asked = cc in inl (ap (λ p. Ok (make p)) same ∙ ap (λ r. Ok r) (sym made))) (λ e. absurd (cc))

-- where values of a request gave no plan, memory ran out
pub no_plan : (read : Result Plan RequestFault) (why : RequestFault) (asked : Plan) → read ≡ Err why → (read ≡ Ok asked) ⊎ (read ≡ Err fault.NoMemory) → why ≡ fault.NoMemory
no_plan read why asked is = ⊎_elim (λ e. absurd (cc)) (λ e. cc)

-- the answer that passes on why there was no plan
pub passed_on : (answer : Result Request RequestFault) (why : RequestFault) → IsErrAnd answer (λ e. e ≡ why) → why ≡ fault.NoMemory → answer ≡ Err fault.NoMemory
passed_on (Ok request) why is none = absurd is
passed_on (Err e) why is none = ap (λ f. Err f) (is ∙ none)

same_number : (values : Values) (m n : ℕ) → HasNumber values m → HasNumber values n → m ≡ n
same_number values m n a b =
    let word : a.0 ≡ b.0 = cc (sym a.1 ∙ b.1) in
    decimal_injective m n (omega (arith, a.2.1)) (omega (arith, b.2.1)) (sym a.2.0 ∙ word ∙ b.2.0)

same_budget : (word : Option (List ℕ)) (m n : ℕ) → DenotesBudget word m → DenotesBudget word n → m ≡ n
same_budget None m n a b = a ∙ sym b
same_budget (Some word) m n a b = decimal_injective m n (omega (arith, a.0.1)) (omega (arith, b.0.1)) (sym a.0.0 ∙ b.0.0)

same_profile : (values : Values) (p q : List ℕ) → HasProfile values p → HasProfile values q → p ≡ q
same_profile values p q a b = cc (sym a.0 ∙ b.0)

same_plan : (Form : List ℕ → Type 0) (values : Values) (p q : Plan) → HasPlan Form values p.profile p.budget p.operands → HasPlan Form values q.profile q.budget q.operands → p ≡ q
same_plan Form values p q a b =
    let profile : p.profile ≡ q.profile = same_profile values p.profile q.profile a.0 b.0 in
    let budget : p.budget ≡ q.budget = same_budget values.budget p.budget q.budget a.1 b.1 in
    let operands : p.operands ≡ q.operands = a.2.0 ∙ sym b.2.0 in
    ap (λ x. record p { profile = x }) profile
    ∙ ap (λ x. record { profile = q.profile; budget = x; operands = p.operands }) budget
    ∙ ap (λ x. record { profile = q.profile; budget = q.budget; operands = x }) operands

same_made : (verb : Verb) (values : Values) (r s : Request) → IsMadeBy verb values r → IsMadeBy verb values s → r ≡ s
same_made verb.Install values r s a b = a.2 ∙ ap install (same_plan IsRootWord values a.0 b.0 a.1 b.1) ∙ sym b.2
same_made verb.Remove values r s a b = a.2 ∙ ap remove (same_plan IsRootWord values a.0 b.0 a.1 b.1) ∙ sym b.2
same_made verb.Update values r s a b = a.2 ∙ ap update (same_plan IsRootWord values a.0 b.0 a.1 b.1) ∙ sym b.2
same_made verb.SetEnv values r s a b = a.2 ∙ ap set_env (same_plan IsPair values a.0 b.0 a.1 b.1) ∙ sym b.2
same_made verb.Revert values r s a b =
    a.4 ∙ ap₂ Revert (same_profile values a.0 b.0 a.2 b.2) (same_number values a.1 b.1 a.3 b.3) ∙ sym b.4
same_made verb.Show values r s a b = a.2 ∙ ap Show (same_profile values a.0 b.0 a.1 b.1) ∙ sym b.2
same_made verb.History values r s a b = a.2 ∙ ap History (same_profile values a.0 b.0 a.1 b.1) ∙ sym b.2
same_made verb.Verify values r s a b = a ∙ sym b
same_made verb.Recover values r s a b = a ∙ sym b
same_made verb.Check values r s a b = a ∙ sym b
same_made verb.Script values r s a b = a ∙ sym b
same_made verb.Trial values r s a b = a.2 ∙ ap Trial (same_number values a.0 b.0 a.1 b.1) ∙ sym b.2

-- words ask for one request at most
pub same_request : (words : List (List ℕ)) (r s : Request) → Asks words r → Asks words s → r ≡ s
same_request words r s a b =
    let name : a.name ≡ b.name = cc (sym a.first ∙ b.first) in
    let named : command_named a.name ≡ Some b.syntax = ap command_named name ∙ b.command in
    let syntax : a.syntax ≡ b.syntax = cc (sym a.command ∙ named) in
    let values : values_found a.name a.syntax words ≡ values_found b.name b.syntax words = ap₂ (λ n x. values_found n x words) name syntax in
    let Has : Values → Type 0 = λ v. HasValues v r in
    let verb : verb_of r ≡ b.syntax.verb = a.verb ∙ ap (λ (x : Syntax). x.verb) syntax in
    let found = values_found b.name b.syntax words in
    same_made b.syntax.verb found r s (made_by b.syntax.verb found r verb (subst Has values a.values)) (made_by b.syntax.verb found s b.verb b.values)
