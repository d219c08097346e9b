-- The objects that rows represent.
use Rattle.std.specs.Prelude.{List, map}
use Rattle.zorder.specs.declared.points.Placed.{Placed}
use Rattle.zorder.specs.Key.{point_of}
use Rattle.bucket_versions.specs.declared.row.Row.{Row}

-- the object with the row's id, at the point of the row's key
abbrev pub placed_of : Row → Placed
placed_of r = record { id = r.id; at = point_of r.key }

-- the objects of rows, in the order of the rows
abbrev pub objects_of : List Row → List Placed
objects_of rows = map placed_of rows
