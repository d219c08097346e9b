-- The text of the objects in a box.
use Rattle.std.specs.Prelude.{ℕ, List, [], ◌++◌, codes, if◌then◌else◌}
use Rattle.std.specs.List.{filter, flat_map}
use Rattle.std.specs.Fmt.{decimal}
use Rattle.zorder.specs.Region.{has_point}
use Rattle.zorder.specs.declared.points.Region.{Region}
use Rattle.plain_list.specs.declared.world.Member.{Member}

-- the first line
abbrev pub object_title : List ℕ
object_title = codes "id,x,y,moment\n"

-- the line of an object: its id, its point, and the moment of its position
abbrev pub object_line : Member → List ℕ
object_line m = decimal m.id ++ codes "," ++ decimal m.at.x ++ codes "," ++ decimal m.at.y ++ codes "," ++ decimal m.moment ++ codes "\n"

-- the line of an object in the box; an object outside the box has none
abbrev pub line_in : Region → Member → List ℕ
line_in region m = if has_point region m.at then object_line m else []

-- the title, and a line for each object that is in the box, in the order of the objects
unfoldable pub objects_text : Region → List Member → List ℕ
objects_text region objects = object_title ++ flat_map object_line (filter (λ (m : Member). has_point region m.at) objects)
