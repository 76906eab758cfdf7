use Rattle.std.proofs.Common.{IsTrue, [], ◌∷◌, ◌++◌}
use Rattle.std.specs.BTreeSet.{contains}
use Rattle.std.specs.Ordering.{nat_cmp}
use Rattle.std.specs.Cmp.Lexicographic.{slice_cmp}
use Rattle.std.proofs.lemmas.Result.{IfOk-weaker}
use Rattle.folder_core.specs.Name.{AreThose}
use Rattle.folder_memory.specs.Places.{HasFrom}
use Rattle.folder_memory.proofs.places.kids_of.Goals as goal

pub returns-clause-names : goal.returns-clause-names
returns-clause-names g c =
    IfOk-weaker c.rising.result (AreThose (λ name. IsTrue (contains (slice_cmp nat_cmp) c.in_ok-names.names name))) (AreThose (λ name. HasFrom c.args.places.now (c.args.path.now ++ name ∷ [])))
    (λ names those name. (λ had. (c.in_ok-names.ensures name).0 ((those name).0 had), λ has. (those name).1 ((c.in_ok-names.ensures name).1 has))) c.rising.ensures.names
