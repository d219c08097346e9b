-- Found objects, and the order in which a browse returns them.
use Rattle.std.specs.Prelude.{◌≡◌, Bool, List, [], ◌∷◌, if◌then◌else◌}
use Rattle.std.specs.declared.cmp.Ordering.{Ordering}
use Rattle.std.specs.Ordering.{nat_cmp, ordering_then, is_lt}
use Rattle.zorder.specs.declared.points.Point.{Point}
use Rattle.zorder.specs.declared.points.Placed.{Placed}
use Rattle.zorder.specs.Distance.{distance}
use Rattle.zorder.specs.Key.{point_of}
use Rattle.bucket_versions.specs.declared.row.Row.{Row}
use Rattle.browse_query.specs.declared.found.Found.{Found}

-- the object of a row, with its squared distance
abbrev pub found_of : Point → Row → Found
found_of p r = record { distance = distance (point_of r.key) p; id = r.id; key = r.key }

-- the object without its distance
abbrev pub object_of : Found → Placed
object_of c = record { id = c.id; at = point_of c.key }

-- the distance is the squared distance to this point
abbrev pub IsMeasured : Point → Found → Type 0
IsMeasured p c = c.distance ≡ distance (point_of c.key) p

-- the order by distance, then by id, and then by key
abbrev pub found_cmp : Found → Found → Ordering
found_cmp c d = ordering_then (nat_cmp c.distance d.distance) (ordering_then (nat_cmp c.id d.id) (nat_cmp c.key d.key))

-- whether the first one comes before the second
abbrev pub comes_before : Found → Found → Bool
comes_before c d = is_lt (found_cmp c d)

-- a list in order with one more
abbrev pub with_found : Found → List Found → List Found
with_found c [] = c ∷ []
with_found c (d ∷ ds) = if comes_before d c then d ∷ with_found c ds else c ∷ d ∷ ds

-- the list in order
abbrev pub in_order : List Found → List Found
in_order [] = []
in_order (c ∷ cs) = with_found c (in_order cs)
