use Rattle.pb_rows.specs.Deciding.{matches, same_name}
use Rattle.pb_rows.proofs.DecidingLaws.{Decides-matches, Decides-same_name, true_from, from_true}
use Rattle.pb_rows.proofs.laws.tests_decide.Goals as goal

pub returns : goal.returns
returns c = record {
  matches = λ r u. (λ t. (Decides-matches r u).0 (from_true (matches r u) t), λ m. true_from (matches r u) ((Decides-matches r u).1 m));
  name = λ a b. (λ t. (Decides-same_name a b).0 (from_true (same_name a b) t), λ e. true_from (same_name a b) ((Decides-same_name a b).1 e));
}
