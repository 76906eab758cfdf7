use Rattle.deriv_check.specs.EvidenceForm.{IsEvidence}
use Rattle.constraints_suite.proofs.evidence.kept_of.Goals as goal

pub new-requires : goal.new-requires
new-requires c =
    let form : IsEvidence c.in_ok-evidence.evidence = c.in_ok-evidence.ensures.exact.form in
    record {
      labels = form.problem.few_labels;
      constraints = form.problem.few_constraints;
      normal = λ k d h. (form.problem.constraints k d h).normal;
    }
