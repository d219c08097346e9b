-- A world whose objects are distributed over shards by their ids.
use Rattle.std.specs.Prelude.{◌≡◌, ◌≢◌, ℕ, ◌*◌, ◌/◌, ◌%◌, ◌^◌, ◌<◌, List, [], ◌∷◌, length, replicate, slice_index_or, None}
use Rattle.std.specs.List.{flat_map}
use Rattle.plain_list.specs.Places.{IsRising}
use Rattle.plain_list.specs.World.{World, places_of, position_of, IsWorld}
use Rattle.plain_list.specs.Answer.{with_member}

-- the number of shards
unfoldable pub most_shards : ℕ
most_shards = 2048

-- the index of the shard for an id
unfoldable pub shard_of : ℕ → ℕ
shard_of id = ((id * 11400714819323198485) % 2 ^ 64) / 2 ^ 53

-- the world with these objects added
abbrev pub with_all : World → World → World
with_all [] world = world
with_all (m ∷ ms) world = with_member m (with_all ms world)

-- the world of the objects of all shards, in the order of ids
abbrev pub joined : List World → World
joined [] = []
joined (shard ∷ shards) = with_all shard (joined shards)

-- the objects of all shards, one shard after the other
abbrev pub in_turn : List World → World
in_turn shards = flat_map (λ (shard : World). shard) shards

-- a shard has only objects whose ids belong to its index, in the order of ids
pub record IsShard (index : ℕ) (members : World) : Type 0 where
  pub rising : IsRising (places_of members)
  pub others : (id : ℕ) → shard_of id ≢ index → position_of members id ≡ None

-- either no shard or all 2,048, and `size` is the number of their objects
pub record AreShards (shards : List World) (size : ℕ) : Type 0 where
  pub world : IsWorld (joined shards)
  pub len : size ≡ length (joined shards)
  pub count : 0 < length shards → length shards ≡ most_shards
  pub each : (index : ℕ) → IsShard index (slice_index_or shards index [])

-- if there were no shards, all shards are now there and empty; else they are unchanged
pub record AreMade (old new : List World) : Type 0 where
  pub made : length old ≡ 0 → new ≡ replicate most_shards []
  pub kept : 0 < length old → new ≡ old
