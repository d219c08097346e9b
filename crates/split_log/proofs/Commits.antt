-- What a crash leaves of the three calls that set a commit byte.
use Rattle.std.proofs.Common.{◌≡◌, inl, inr, ⊎_elim, ℕ, List, [], ◌∷◌, ◌++◌, length, get_or, Some, Result, sym, ◌∙◌, ap, subst, arith}
use Rattle.disk_trait.specs.declared.disk.DiskFault.{DiskFault}
use Rattle.disk_trait.specs.Drive.{Drive, KeepsLaws, Writes, Syncs, Torn, Holds, Only}
use Rattle.disk_trait.specs.Moments.{LeavesOnly, LeavesNow}
use Rattle.disk_trait.proofs.Stretches.{started, goes_on}
use Rattle.cell_format.specs.declared.cell.Cell.{Cell}
use Rattle.cell_format.specs.Spelling.{newest}
use Rattle.split_log.specs.LogText.{front_of, behind_first, HoldsCells, HoldsAllOrNone, IsStaged, IsLog}
use Rattle.split_log.specs.Commit.{IsUncommitted}
use Rattle.split_log.proofs.Torn.{marked, torn_mark, written_mark}
use Rattle.split_log.proofs.Cells.{length-front_of, staged-either, text_of_more}

-- One stretch of moments after the other.
pub joined : (old mid new : Drive) (P Q R : List ℕ → Type 0) → ((c : List ℕ) → P c → R c) → ((c : List ℕ) → Q c → R c) → LeavesOnly old mid P → LeavesOnly mid new Q
    → LeavesOnly old new R
joined old mid new P Q R by_first by_second first second = record {
  later = omega (arith, first.later, second.later);
  each = λ c left. ⊎_elim (λ earlier. by_first c (first.each c earlier)) (by_second c) (second.before old.clock c first.later left);
  before = λ t c le left.
      ⊎_elim (λ earlier. ⊎_elim (λ was. inl was) (λ p. inr (by_first c p)) (first.before t c le earlier)) (λ q. inr (by_second c q))
      (second.before t c (omega (arith, le, first.later)) left);
}

-- A weaker predicate holds of each image too.
pub widened : (old new : Drive) (P Q : List ℕ → Type 0) → ((c : List ℕ) → P c → Q c) → LeavesOnly old new P → LeavesOnly old new Q
widened old new P Q more leaves = record {
  later = leaves.later;
  each = λ c left. more c (leaves.each c left);
  before = λ t c le left. ⊎_elim (λ earlier. inl earlier) (λ p. inr (more c p)) (leaves.before t c le left);
}

-- The cells alone are one of the two cases.
pub only-none : (w : ℕ) (cells more : List Cell) (old new : Drive) → LeavesOnly old new (HoldsCells newest w cells) → LeavesOnly old new (HoldsAllOrNone w cells more)
only-none w cells more old new leaves = widened old new (HoldsCells newest w cells) (HoldsAllOrNone w cells more) (λ c holds. inl holds) leaves

-- A stretch that leaves the cells alone, before a stretch that leaves either.
pub none-then : (w : ℕ) (cells more : List Cell) (old mid new : Drive) → LeavesOnly old mid (HoldsCells newest w cells) → LeavesOnly mid new (HoldsAllOrNone w cells more)
    → LeavesOnly old new (HoldsAllOrNone w cells more)
none-then w cells more old mid new first second =
    joined old mid new (HoldsCells newest w cells) (HoldsAllOrNone w cells more) (HoldsAllOrNone w cells more) (λ c holds. inl holds) (λ c either. either) first second

module _ (w at : ℕ) (cells more : List Cell) (d0 : Drive) (ready : IsUncommitted w at cells more d0) (laws : KeepsLaws d0) where
  long : length (front_of newest w cells) ≡ at
  long = length-front_of newest w cells ∙ sym ready.at_is

  module _ (d1 : Drive) (result1 : Result (Unit {0}) DiskFault) (first : Syncs d0 d1 result1) where
    -- The first sync leaves the cells alone.
    pub synced : LeavesOnly d0 d1 (HoldsCells newest w cells)
    synced =
        goes_on d0 d0 d1 (HoldsCells newest w cells) (started d0 (HoldsCells newest w cells) laws ready.alone) first.time
        (λ c left. ready.alone c (first.crash c left))

    pub synced-either : LeavesOnly d0 d1 (HoldsAllOrNone w cells more)
    synced-either = only-none w cells more d0 d1 synced

    module _ (fixed : (xs : List ℕ) → d0.bytes ≡ Some xs → Only xs d1.images) where
      only_staged : Only (marked (front_of newest w cells) ready.staged.commit_byte (behind_first more)) d1.images
      only_staged c left = fixed ready.bytes ready.told c left ∙ ready.staged.text

      module _ (d2 : Drive) (result2 : Result (Unit {0}) DiskFault) (second : Writes d1 d2 at (1 ∷ []) result2) where
        -- From the write on, all cells are there, whatever that commit byte is.
        pub now_staged : LeavesNow d2 (IsStaged w cells more)
        now_staged c left =
            let from = second.crash c left in
            let torn : Torn at 1 (marked (front_of newest w cells) ready.staged.commit_byte (behind_first more)) c =
            subst (λ f. Torn at 1 f c) (only_staged from.0 from.1) from.2 in
            record { commit_byte = get_or c at 0; text = torn_mark (front_of newest w cells) at long ready.staged.commit_byte (behind_first more) c torn }

        now_either : LeavesNow d2 (HoldsAllOrNone w cells more)
        now_either c left = staged-either w cells more c ready.cells_fit ready.more_fit ready.some (now_staged c left)

        pub committing : LeavesOnly d0 d2 (HoldsAllOrNone w cells more)
        committing = goes_on d0 d1 d2 (HoldsAllOrNone w cells more) synced-either second.time now_either

        module _ (d3 : Drive) (result3 : Result (Unit {0}) DiskFault) (third : Syncs d2 d3 result3) where
          pub still_staged : LeavesNow d3 (IsStaged w cells more)
          still_staged c left = now_staged c (third.crash c left)

          pub done : LeavesOnly d0 d3 (HoldsAllOrNone w cells more)
          done = goes_on d0 d2 d3 (HoldsAllOrNone w cells more) committing third.time (λ c left. now_either c (third.crash c left))

          -- After all three calls the log has the cells.
          pub committed : ((xs : List ℕ) → d1.bytes ≡ Some xs → (ys : List ℕ) × (d2.bytes ≡ Some ys) × Holds xs at (1 ∷ []) ys)
              → ((xs : List ℕ) → d2.bytes ≡ Some xs → Only xs d3.images) → IsLog w (cells ++ more) d3
          committed mark_written all_fixed =
              let (ys, told, holds) = mark_written _ (first.bytes ∙ ready.told ∙ ap Some ready.staged.text) in
              let is_set : ys ≡ marked (front_of newest w cells) 1 (behind_first more) =
              written_mark (front_of newest w cells) at long ready.staged.commit_byte 1 (behind_first more) ys holds in
              record {
                bytes = ys;
                told = third.bytes ∙ told;
                text = text_of_more w cells more ys ready.cells_fit ready.more_fit ready.some is_set;
                durable = all_fixed ys told;
              }
