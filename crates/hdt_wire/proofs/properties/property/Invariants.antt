use Rattle.std.proofs.Common.{◌≡◌, length}
use Rattle.std.specs.Option.{option_copied}
use Rattle.std.specs.List.{slice_split}
use Rattle.hdt_wire.specs.Property.{is_byte, property_value}
use Rattle.hdt_wire.proofs.PropertyItems.{counted}
use Rattle.hdt_wire.proofs.properties.property.Given as goal

abbrev pub invariant-pieces : goal.invariant-pieces
invariant-pieces l = counted l.fn.key (option_copied l.found) (slice_split (is_byte 59) l.rest)
    ≡ property_value l.fn.text l.fn.key

abbrev pub decreases-pieces : goal.decreases-pieces
decreases-pieces l = length l.rest
