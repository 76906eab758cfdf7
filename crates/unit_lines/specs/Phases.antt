-- The phases, with their names and in their order.
use Rattle.std.specs.Prelude.{ℕ, List, [], ◌∷◌, codes}
use Rattle.case_table.specs.Rows.{Row}
use Rattle.unit_model.specs.declared.phase.Phase.{Phase}
use Rattle.unit_model.specs.declared.phase.Phase.TheVariants.{Collect, Unconfigure, Uninstall, Install, Configure}

abbrev pub phase_name : Phase → List ℕ
phase_name Collect = codes "collect"
phase_name Unconfigure = codes "unconfigure"
phase_name Uninstall = codes "uninstall"
phase_name Install = codes "install"
phase_name Configure = codes "configure"

abbrev pub phase_place : Phase → ℕ
phase_place Collect = 0
phase_place Unconfigure = 1
phase_place Uninstall = 2
phase_place Install = 3
phase_place Configure = 4

abbrev pub phases : List (List ℕ × Phase)
phases =
    (codes "collect", Collect)
    ∷ (codes "unconfigure", Unconfigure)
    ∷ (codes "uninstall", Uninstall)
    ∷ (codes "install", Install)
    ∷ (codes "configure", Configure)
    ∷ []

abbrev pub phase_rows : List Row
phase_rows =
    (codes "collect", 0)
    ∷ (codes "unconfigure", 1)
    ∷ (codes "uninstall", 2)
    ∷ (codes "install", 3)
    ∷ (codes "configure", 4)
    ∷ []
