-- The region of a name, and how two regions lie to each other.
use Rattle.std.specs.Prelude.{◌-◌, nat_le, Bool, ◌&&◌, IsTrue, List}
use Rattle.zorder.specs.declared.points.Point.{Point}
use Rattle.zorder.specs.declared.points.Region.{Region}
use Rattle.zorder.specs.Key.{point_of}
use Rattle.zorder.specs.Region.{has_point}
use Rattle.zorder.specs.Name.{first_key}
use Rattle.zorder.specs.Tile.{next_key}
use Rattle.prefix_names.specs.declared.key_boxes.KeyBox.{KeyBox}

-- the region of a name: its corners are the points of the name's first and last key
abbrev pub region_of : List Bool → Region
region_of name = record { lo = point_of (first_key name); hi = point_of (next_key name - 1) }

-- the box between the points of two keys
abbrev pub box_of : KeyBox → Region
box_of b = record { lo = point_of b.lo; hi = point_of b.hi }

-- some point is in both regions
abbrev pub SharePoint : Region → Region → Type 0
SharePoint a b = (p : Point) × IsTrue (has_point a p) × IsTrue (has_point b p)

-- every point of the first region is in the second
abbrev pub AllPointsIn : Region → Region → Type 0
AllPointsIn a b = (p : Point) → IsTrue (has_point a p) → IsTrue (has_point b p)

-- on each axis, neither interval begins after the end of the other
abbrev pub meet : Region → Region → Bool
meet a b = (nat_le a.lo.x b.hi.x && nat_le b.lo.x a.hi.x) && (nat_le a.lo.y b.hi.y && nat_le b.lo.y a.hi.y)

-- on each axis, the second interval contains the first
abbrev pub lies_in : Region → Region → Bool
lies_in a b = (nat_le b.lo.x a.lo.x && nat_le a.hi.x b.hi.x) && (nat_le b.lo.y a.lo.y && nat_le a.hi.y b.hi.y)
