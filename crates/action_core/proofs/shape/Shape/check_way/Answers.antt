use Rattle.std.proofs.Common.{◌≡◌, ◌≢◌, List, ℕ, Some, None, sym, ◌∙◌, ap}
use Rattle.std.proofs.lemmas.Result.{IfErr-weaker, on_ok_weaker}
use Rattle.folder_core.specs.Path.{path_eqb}
use Rattle.action_core.specs.Standing.{map_of, site_of}
use Rattle.action_core.specs.Tests.{through_link, way}
use Rattle.action_core.specs.declared.fault.ActionFault.TheVariants.{InstallFolder, NoMemory}
use Rattle.action_core.proofs.Tested.{way_install, way_links, first_of-same}
use Rattle.action_core.proofs.shape.Shape.check_way.Goals as goal

pub returns-then-eq-clause-refused : goal.returns-then-eq-clause-refused
returns-then-eq-clause-refused c = λ other.
    way_install (site_of c.args.self.now) (map_of c.args.self.now) c.args.path.now c.names.ensures.path.short (ap (λ (p : List (List ℕ)). path_eqb p c.args.self.now.install) (sym c.names.ensures.value) ∙ ap (path_eqb c.names.result.now) (sym c.names-2.ensures.value) ∙ sym c.eq.ensures ∙ c.if-eq.true)
    ∙ ap (λ (p : List (List ℕ)). Some (InstallFolder p)) (sym c.in_ok-copy.ensures)

links : (c : goal.After-check_links) → way (site_of c.args.self.now) (map_of c.args.self.now) c.args.path.now ≡ through_link (map_of c.args.self.now) c.args.path.now
links c =
    way_links (site_of c.args.self.now) (map_of c.args.self.now) c.args.path.now c.names.ensures.path.short (ap (λ (p : List (List ℕ)). path_eqb p c.args.self.now.install) (sym c.names.ensures.value) ∙ ap (path_eqb c.names.result.now) (sym c.names-2.ensures.value) ∙ sym c.eq.ensures ∙ c.if-eq.false)
    ∙ first_of-same (through_link (map_of c.args.self.now) c.args.path.now)

pub returns-clause-passed : goal.returns-clause-passed
returns-clause-passed c = on_ok_weaker c.check_links.result (λ (passed : through_link (map_of c.args.self.now) c.args.path.now ≡ None). links c ∙ passed) c.check_links.ensures.passed

pub returns-clause-refused : goal.returns-clause-refused
returns-clause-refused c = IfErr-weaker c.check_links.result
    (λ fault. fault ≢ NoMemory → through_link (map_of c.args.self.now) c.args.path.now ≡ Some fault)
    (λ fault. fault ≢ NoMemory → way (site_of c.args.self.now) (map_of c.args.self.now) c.args.path.now ≡ Some fault)
    (λ fault refused other. links c ∙ refused other) c.check_links.ensures.refused
