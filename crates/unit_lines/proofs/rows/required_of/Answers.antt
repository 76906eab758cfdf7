use Rattle.unit_lines.proofs.rows.required_of.Goals as goal

pub returns-in_default : goal.returns-in_default
returns-in_default c = λ r form same.
    let none = rw c.in_default.is at c.in_ok-asked.ensures in
    none (record { min = r.min; max = r.max; greedy = r.greedy }) (record { min = form.min; max = form.max }) (cc)
