use Rattle.std.proofs.Common.{arith}
use Rattle.pb_solver.proofs.SearchLaws.{conflict_unwanted, same_itself}
use Rattle.pb_solver.proofs.SpendingLaws.{fewer_longer}
use Rattle.pb_solver.proofs.search.Search.take_conflict.Goals as goal

pub returns-in_default-clause-turn : goal.returns-in_default-clause-turn
returns-in_default-clause-turn g c = record {
  holds = c.requires.holds;
  same = same_itself c.args.self.now;
  ends = record {
    found = c.requires.conflict;
    undecided = c.in_default.ensures;
    not_wanted = conflict_unwanted c.args.self.now c.args.conflict c.requires.holds c.requires.conflict;
  };
}

pub returns-then-len-self-clause-turn : goal.returns-then-len-self-clause-turn
returns-then-len-self-clause-turn g c = record {
  holds = c.requires.holds;
  same = same_itself c.args.self.now;
  ends = record {
    decided = c.in-Some.ensures.0;
    all = omega (arith, c.requires.holds.most, c.len.ensures, c.if-len-self.true);
    not_wanted = conflict_unwanted c.args.self.now c.args.conflict c.requires.holds c.requires.conflict;
  };
}

pub returns-clause-turn : goal.returns-clause-turn
returns-clause-turn g c = record {
  settled = c.in_ok-learn.ensures.holds;
  same = c.in_ok-learn.ensures.same;
  fewer = fewer_longer c.args.self.now c.learn.new.self c.in_ok-learn.ensures.same (omega (arith, c.len.ensures, c.if-len-self.false)) c.in_ok-learn.ensures.lines;
}
