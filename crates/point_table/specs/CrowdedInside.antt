-- What the fields of `Crowded` stand for.
use Rattle.std.specs.Prelude.{◌+◌, ◌≤◌, length, vec_capacity}
use Rattle.point_table.specs.Crowded.{Crowd, AreRising}
use Rattle.point_table.specs.declared.crowded.Crowded.TheInside.{Inside}

abbrev pub crowd_of : Inside → Crowd
crowd_of c = record { names = c.names.items; room = c.room }

-- the names are in order, and the vector has the capacity for the promised room
pub record IsCrowded (c : Inside) : Type 0 where
  pub rising : AreRising c.names.items
  pub room : length c.names.items + c.room ≤ vec_capacity c.names
