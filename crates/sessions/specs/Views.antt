-- What a snapshot of the index represents, and what a copy of the objects has.
use Rattle.std.specs.Prelude.{◌≡◌, ℕ, List}
use Rattle.plain_list.specs.History.{world_after, call_count}
use Rattle.plain_list.specs.World.{World, IsWorld}
use Rattle.index_layer.specs.Leaves.{Leaf}
use Rattle.index_layer.specs.Stands.{Stands}
use Rattle.book_lock.specs.Pass.{Known}
use Rattle.sessions.specs.Opens.{leaves_seen, places_seen}

-- These leaves represent the objects after all that a pass has seen, with the leaf names of that time. The place is that
-- of the last call that was seen.
pub record IsView (w : ℕ) (leaves : List Leaf) (place : ℕ) (pass : Known) : Type 0 where
  pub place_is : place ≡ call_count pass.seen
  pub world : IsWorld (world_after pass.origin.world pass.seen)
  pub stands : Stands leaves (places_seen pass) (leaves_seen w pass)

-- These are the objects after all that a pass has seen. The place is that of the last call that was seen.
pub record IsWorldAt (world : World) (place : ℕ) (pass : Known) : Type 0 where
  pub place_is : place ≡ call_count pass.seen
  pub world_is : world ≡ world_after pass.origin.world pass.seen
  pub is_world : IsWorld world
