use Rattle.p2_planner.proofs.attempt.answer_of.Given as goal

-- the counter's ledger is new
abbrev pub ghosts-solved : goal.ghosts-solved
ghosts-solved a = record { name = a.blank.name; parts = a.blank.parts }
