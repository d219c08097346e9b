use Rattle.std.proofs.Common.{◌≡◌, map, take}
use Rattle.std.specs.Arc.{arc_value}
use Rattle.zorder.specs.Tile.{children}
use Rattle.split_prepare.specs.Cut.{cut_out}
use Rattle.split_prepare.proofs.cuts.cut.Given as goal

-- so far, the buckets of the first children
abbrev pub invariant-loop-place : goal.invariant-loop-place
invariant-loop-place l = map arc_value l.buckets.items ≡ map (cut_out l.bucket.base) (take l.place (children l.width l.name))
