use Rattle.std.proofs.Common.{◌≡◌, get_or, sym, ap, ◌∙◌, arith, option_map, le_refl}
use Rattle.osgi_version.specs.VersionReading.{progress_in}
use Rattle.osgi_version.proofs.VersionViews.{qualifier-step, step-InQualifier, step-ToQualifier}
use Rattle.osgi_version.proofs.reading.Reading.step.Goals as goal

pub returns-in-InQualifier-2-clause-steps : goal.returns-in-InQualifier-2-clause-steps
returns-in-InQualifier-2-clause-steps c =
    let text = c.args.text.now in
    let r = c.args.self in
    let ended : r.end ≡ c.args.at = c.requires.reading.goes_on c.in-InQualifier.is in
    let ordered = c.requires.reading.ordered in
    ap (option_map (progress_in text)) c.qualifier_byte-in-InQualifier-2.ensures
    ∙ (qualifier-step text r r.start c.args.at (omega arith) c.requires.inside
    ∙ step-InQualifier text r c.args.at (get_or text c.args.at 0) c.in-InQualifier.is ended (sym c.if-is_white-2.ensures))

pub returns-in-ToQualifier-clause-steps : goal.returns-in-ToQualifier-clause-steps
returns-in-ToQualifier-clause-steps c =
    let text = c.args.text.now in
    let r = c.args.self in
    ap (option_map (progress_in text)) c.qualifier_byte.ensures
    ∙ (qualifier-step text r c.args.at c.args.at (le_refl _) c.requires.inside
    ∙ step-ToQualifier text r c.args.at (get_or text c.args.at 0) c.in-ToQualifier.is)
