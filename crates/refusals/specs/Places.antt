-- The rooms that a value of the type `Room` stands for.
use Rattle.spec.specs.Refusals.{room}
use Rattle.spec.specs.Refusals as definitions
use Rattle.refusals.specs.declared.room.Room.{Room}

abbrev pub places_of : Room → definitions.Room
places_of r = room r.numbers r.bytes r.inputs r.words r.scores
