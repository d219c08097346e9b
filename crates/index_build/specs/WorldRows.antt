-- The rows of a world's objects.
use Rattle.zorder.specs.declared.points.Placed.{Placed}
use Rattle.plain_list.specs.declared.world.Member.{Member}
use Rattle.plain_list.specs.World.{placed_of}
use Rattle.zorder.specs.Key.{key_of}
use Rattle.bucket_versions.specs.declared.row.Row.{Row}

-- the row of an object
abbrev pub bucket_row : Placed → Row
bucket_row m = record { key = key_of m.at; id = m.id }

-- the row of a member, without its moment
abbrev pub member_row : Member → Row
member_row m = bucket_row (placed_of m)
