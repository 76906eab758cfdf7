-- What a call does to a map and to the paths that are noted for it.
use Rattle.std.specs.Prelude.{◌≡◌, ℕ, ◌==◌, List, [], ◌++◌, Contains, Result, Ok, if◌then◌else◌}
use Rattle.folder_core.specs.Folder.{Map}
use Rattle.folder_core.specs.Path.{IsBelow}
use Rattle.folder_core.specs.declared.node.Touch.{Touch}
use Rattle.instr_parser.specs.declared.call.Call.{Call}
use Rattle.action_core.specs.Places.{Site, places_of, place_at, names_at, text_at, flag_at, mode_at}
use Rattle.action_core.specs.Rows.{mkdir, rmdir, remove, copy, cleanupcopy, chmod, ln}
use Rattle.action_core.specs.Standing.{IsUnder, IsAtOrBelow, SameNear, map_of, site_of, under_in}
use Rattle.action_core.specs.declared.fault.ActionFault.{ActionFault}
use Rattle.action_core.specs.declared.shape.Shape.{Shape}
use Rattle.action_core.specs.declared.step.Step.{Step}

-- what stands at or below a path
abbrev pub Under : Type 0
Under = List (List ℕ) → List Touch

-- the rows of the table of actions, by the code of the kind
abbrev pub row : ℕ → Site → Call → Map → Under → List (List (List ℕ)) → Result (List Step) ActionFault
row kind site call m under noted =
    if kind == 0 then mkdir site m (place_at site call 0)
    else if kind == 1 then rmdir site m (under (place_at site call 0)) (place_at site call 0)
    else if kind == 2 then remove site m (under (place_at site call 0)) (place_at site call 0)
    else if kind == 3 then copy site m (under (place_at site call 1)) (place_at site call 1) (place_at site call 2) (flag_at call 3)
    else if kind == 4 then cleanupcopy (under (place_at site call 2)) noted
    else if kind == 5 then chmod site m (place_at site call 4 ++ names_at call 5) (mode_at call 6)
    else if kind == 6 then ln site m (place_at site call 4 ++ names_at call 8) (text_at call 7)
    else Ok []

abbrev pub effect : Site → Call → Map → Under → List (List (List ℕ)) → Result (List Step) ActionFault
effect site call m under noted = row call.kind.0 site call m under noted

-- The call has this effect on the map, where these paths are noted for its unit, source and target: the steps that it
-- does, one after the other, or its refusal.
pub record HasEffect (site : Site) (call : Call) (m : Map) (noted : List (List (List ℕ))) (outcome : Result (List Step) ActionFault) : Type 0 where
  pub under : Under
  pub stands : (place : List (List ℕ)) → Contains (places_of site call) place → IsUnder m place (under place)
  pub answers : effect site call m under noted ≡ outcome

-- The shape holds what the map has at, above and below each place of the call. The paths that it has as noted for the call
-- are at or below its target, and below the folder of the profile.
pub record StandsFor (shape : Shape) (call : Call) (m : Map) : Type 0 where
  pub near : (place : List (List ℕ)) → Contains (places_of (site_of shape) call) place → SameNear place m (map_of shape)
  pub noted_at : (path : List (List ℕ)) → Contains shape.noted path → IsAtOrBelow (place_at (site_of shape) call 2) path
  pub noted_in : (path : List (List ℕ)) → Contains shape.noted path → IsBelow shape.install path

-- what the shape says of the call
unfoldable pub shape_effect : Shape → Call → Result (List Step) ActionFault
shape_effect shape call = effect (site_of shape) call (map_of shape) (under_in shape.nodes) shape.noted
