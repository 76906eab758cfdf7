-- The order of names by version.
use Rattle.std.proofs.Common.{◌≡◌, true, false, refl, ap, ◌∙◌}
use Rattle.std.specs.Ordering.{is_gt, ordering_reverse}
use Rattle.std.specs.Cmp.{IsTotalOrder}
use Rattle.std.specs.declared.cmp.Ordering.{Ordering}
use Rattle.std.specs.declared.cmp.Ordering.TheVariants.{Less, Equal, Greater}
use Rattle.std.proofs.lemmas.Cmp.{on_total, then_total, nat_list_cmp_total, upto, tied_itself}
use Rattle.osgi_version.proofs.VersionOrderLaws.{version_cmp-total}
use Rattle.unit_model.specs.declared.name.UnitName.{UnitName}
use Rattle.unit_catalog.specs.Greatest.{by_version, IsUpTo}

pub by_version-total : IsTotalOrder by_version
by_version-total = then_total (on_total (λ (n : UnitName). n.version) version_cmp-total) (on_total (λ (n : UnitName). n.id) nat_list_cmp_total)

turned : (o : Ordering) → is_gt o ≡ true → is_gt (ordering_reverse o) ≡ false
turned Less e = absurd (cc)
turned Equal e = absurd (cc)
turned Greater e = refl

pub up_to_greater : (a b : UnitName) → is_gt (by_version a b) ≡ true → IsUpTo b a
up_to_greater a b above = ap is_gt (by_version-total.antisymm b a) ∙ turned (by_version a b) above

pub up_to_itself : (a : UnitName) → IsUpTo a a
up_to_itself a = ap is_gt (tied_itself by_version-total a)

pub up_to_both : (a b c : UnitName) → IsUpTo a b → IsUpTo b c → IsUpTo a c
up_to_both a b c first second = upto by_version-total a b c first second
