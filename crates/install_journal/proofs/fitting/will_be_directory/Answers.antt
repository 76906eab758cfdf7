use Rattle.std.proofs.Common.{arith}
use Rattle.install_journal.proofs.FittingsFirst.{looks_same}
use Rattle.install_journal.proofs.FittingsLoose.{other_kind_told, looked_told}
use Rattle.install_journal.proofs.fitting.will_be_directory.Goals as goal

pub returns-in_default : goal.returns-in_default
returns-in_default g c = record {
  found = other_kind_told (g.F.Folder.told c.args.folder.now) c.args.oldest.now c.args.path.now c.in-Some.one.now c.in-Some.ensures c.in_default.not-Directory;
  looks = looks_same g.F.Folder.told g.F.Folder.left_since c.args.folder.now;
  cause = record { later = omega arith; failed = λ no. let f : ⊥ = cc in absurd f };
}

pub returns-in_ok-stands-in-None-clause-found : goal.returns-in_ok-stands-in-None-clause-found
returns-in_ok-stands-in-None-clause-found g c =
    looked_told (g.F.Folder.told c.args.folder.now) c.args.oldest.now c.args.path.now c.in_ok-stands-in-None.stands c.is_directory.result c.in-None.ensures c.in_ok-stands-in-None.ensures.found c.is_directory.ensures
