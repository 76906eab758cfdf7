-- What is seen of members.
use Rattle.std.specs.Prelude.{ℕ, List}
use Rattle.unit_model.specs.declared.unit.Unit.{Unit as Package}
use Rattle.unit_catalog.specs.Order.{units_at}
use Rattle.pb_encode.specs.declared.members.Members.{Members}

-- the units
abbrev pub units_of : Members → List Package
units_of members = units_at members.catalog.now members.numbers.now

-- their numbers
abbrev pub numbers_of : Members → List ℕ
numbers_of members = members.numbers.now
