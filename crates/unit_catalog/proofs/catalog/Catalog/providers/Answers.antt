use Rattle.unit_catalog.proofs.Following.{provided_led}
use Rattle.unit_catalog.proofs.catalog.Catalog.providers.Goals as goal

pub providers_of-requires : goal.providers_of-requires
providers_of-requires c = rw c.as_slice.ensures.value (provided_led c.self.inside.units.items c.self.inside.indexes c.self.invariant.indexed)
