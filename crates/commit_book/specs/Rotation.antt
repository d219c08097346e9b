-- A book that continues on another log.
use Rattle.std.specs.Prelude.{◌≡◌, ℕ, Bool, List, [], Some}
use Rattle.index_layer.specs.Leaves.{Leaf, names_of}
use Rattle.plain_list.specs.History.{world_after}
use Rattle.plain_list.specs.State.{state_after}
use Rattle.point_table.specs.Sized.{StandsBySize}
use Rattle.split_log.specs.LogView.{LogView}
use Rattle.recovery.specs.declared.seen.Seen.{Seen}
use Rattle.kept_log.specs.Kept.{found_state}
use Rattle.commit_book.specs.BookView.{BookView, first_log}

-- the content found in a log has the objects and the leaves of a book
pub record HasContent {D : Type 0} (w : ℕ) (b : BookView D) (seen : Seen) : Type 0 where
  pub world : seen.world ≡ world_after b.opening.world b.entries
  pub leaves : seen.leaves ≡ (state_after w b.opening b.entries).leaves

-- the content found in a log has the objects of a book, and fresh leaves that the bucket size requires for them
pub record HasContentAnew {D : Type 0} (w : ℕ) (b : BookView D) (leaves : List Leaf) (seen : Seen) : Type 0 where
  pub world : seen.world ≡ world_after b.opening.world b.entries
  pub leaves_are : seen.leaves ≡ names_of leaves
  pub stands : StandsBySize w b.bucket (world_after b.opening.world b.entries) leaves

-- A book of these leaves and bucket size on a log opened on this drive: it begins at the state found, with no entry. `kept`
-- is whether it keeps the list of its entries.
abbrev pub book_on : {D : Type 0} → Bool → Seen → LogView D → D → List Leaf → ℕ → BookView D
book_on kept seen log start leaves bucket = record {
  leaves = leaves;
  opening = found_state seen;
  entries = [];
  bucket = bucket;
  log = Some (first_log log start);
  kept = kept;
}

-- the same leaves, bucket size and kind of history on such a log
abbrev pub rotated : {D : Type 0} → Seen → LogView D → D → BookView D → BookView D
rotated seen log start b = book_on b.kept seen log start b.leaves b.bucket
