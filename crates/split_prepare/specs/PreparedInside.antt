-- The value of a prepared split, given by its fields.
use Rattle.std.specs.Prelude.{map}
use Rattle.std.specs.Arc.{arc_value}
use Rattle.split_prepare.specs.declared.prepared.Prepared.TheInside.{Inside}
use Rattle.split_prepare.specs.Prepared.{PreparedView, IsPrepared}

-- the rows that were cut are the base of the bucket, which the ticket shares
abbrev pub seen : Inside → PreparedView
seen p = record { number = p.number; name = p.name; width = p.width; base = (arc_value p.bucket).base; children = map arc_value p.children.items }

abbrev pub IsWhole : Inside → Type 0
IsWhole p = IsPrepared (seen p)
