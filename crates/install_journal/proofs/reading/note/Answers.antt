use Rattle.std.proofs.Common.{◌+◌, ◌∙◌, ap, refl, sym}
use Rattle.std.specs.BTreeMap.{get}
use Rattle.folder_core.specs.PathOrder.{path_cmp}
use Rattle.install_journal.specs.Plan.{kind_of}
use Rattle.install_journal.specs.declared.reading.First.{First}
use Rattle.install_journal.specs.declared.reading.Gathered.{Gathered}
use Rattle.install_journal.proofs.Damages.{found_none}
use Rattle.install_journal.proofs.Readings.{noted_first, noted_again}
use Rattle.install_journal.proofs.reading.note.Goals as goal
use Rattle.install_journal.proofs.reading.note.Goals.{then-not-contains_key+in_ok-insert, else-not-contains_key}

pub returns-clause-noted : goal.returns-clause-noted
returns-clause-noted c = λ entries noted.
    let old : Gathered = c.args.gathered.now in
    let new : Gathered = record { count = c.if-not-contains_key.gathered.count + 1; firsts = c.if-not-contains_key.gathered.firsts } in
    let first : First = record { number = record { 0 = old.count + 1 }; kind = c.kind_of-kind.result } in
    elim c.if-not-contains_key.branch [
      | then-not-contains_key+in_ok-insert w ↦
          noted_first entries c.args.entry old new first (ap (λ (g : Gathered). g.count + 1) w.gathered-is)
          (found_none (get path_cmp old.firsts c.args.entry.path) c.contains_key.result c.contains_key.ensures w.if-not-contains_key.true)
          (λ path. ap (λ (g : Gathered). get path_cmp g.firsts path) w.gathered-is ∙ w.in_ok-insert.ensures.updates.0 path)
          refl (c.kind_of-kind.ensures ∙ ap kind_of c.as_ref.ensures.value) noted
      | else-not-contains_key w ↦
          noted_again entries c.args.entry old new (ap (λ (g : Gathered). g.count + 1) w.gathered-is) (ap (λ (g : Gathered). g.firsts) w.gathered-is)
          (sym c.contains_key.ensures ∙ w.if-not-contains_key.false) noted
    ]
