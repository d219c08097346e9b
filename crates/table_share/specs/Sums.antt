-- Two numbers that summarize all objects.
use Rattle.std.specs.Prelude.{ℕ, ◌+◌, ◌-◌, ◌%◌, ◌^◌, min, List, length}
use Rattle.std.specs.List.{sum_by}
use Rattle.zorder.specs.Key.{key_of}
use Rattle.zorder.specs.declared.points.Placed.{Placed}
use Rattle.bucket_versions.specs.declared.row.Row.{Row}
use Rattle.table_share.specs.declared.sums.Sums.{Sums}

-- the sum of the keys of the points
abbrev pub key_sum : List Placed → ℕ
key_sum places = sum_by (λ (m : Placed). key_of m.at) places

-- the number of objects, and the sum of their keys modulo 2^64
abbrev pub sums_of : List Placed → Sums
sums_of places = record { points = length places; sum = key_sum places % 2 ^ 64 }

-- the numbers with one more row
abbrev pub with_row : Sums → Row → Sums
with_row sums r = record { points = min (sums.points + 1) (2 ^ 64 - 1); sum = (sums.sum + r.key) % 2 ^ 64 }
