-- Copies of a store's objects and leaves.
use Rattle.std.specs.Prelude.{◌≡◌, ℕ, List}
use Rattle.plain_list.specs.History.{world_after}
use Rattle.plain_list.specs.State.{ComesBySplits}
use Rattle.plain_list.specs.World.{IsWorld}
use Rattle.index_layer.specs.Leaves.{Leaf, names_of}
use Rattle.point_table.specs.Sized.{StandsBySize}
use Rattle.commit_book.specs.declared.book.rotation.Content.{Content}
use Rattle.book_lock.specs.Pass.{Known}
use Rattle.sessions.specs.Opens.{leaves_seen}

-- Copies of the objects after all that a pass has seen, and of the leaf names of that time.
pub record IsContent (w : ℕ) (content : Content) (pass : Known) : Type 0 where
  pub world : content.world ≡ world_after pass.origin.world pass.seen
  pub leaves : content.leaves ≡ leaves_seen w pass
  pub comes : ComesBySplits w content.leaves
  pub is_world : IsWorld content.world

-- Copies of the objects after all that a pass has seen, and of the names of the leaves that the bucket size requires for
-- them. These leaves represent the objects.
pub record IsContentAnew (w : ℕ) (leaves : List Leaf) (content : Content) (pass : Known) : Type 0 where
  pub world : content.world ≡ world_after pass.origin.world pass.seen
  pub leaves_are : content.leaves ≡ names_of leaves
  pub stands : StandsBySize w pass.origin.bucket content.world leaves
  pub comes : ComesBySplits w content.leaves
  pub is_world : IsWorld content.world
