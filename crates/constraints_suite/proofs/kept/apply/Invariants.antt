use Rattle.constraints_suite.proofs.kept.apply.Given as goal

abbrev pub ghosts-make_change : goal.ghosts-make_change
ghosts-make_change a = record { name = a.blank.name; parts = a.blank.parts }
