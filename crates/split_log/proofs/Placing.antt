-- What a crash leaves of the write of cells after the last commit byte of a log, and of the calls that set that byte.
use Rattle.std.proofs.Common.{◌≡◌, ℕ, ◌+◌, List, [], ◌∷◌, ◌++◌, length, drop, Some, Result, sym, ◌∙◌, ap, subst, arith, length-append}
use Rattle.std.proofs.lemmas.List.{append-nil}
use Rattle.disk_trait.specs.declared.disk.DiskFault.{DiskFault}
use Rattle.disk_trait.specs.Drive.{Drive, KeepsLaws, Writes, Torn, Holds}
use Rattle.disk_trait.specs.Moments.{LeavesOnly, LeavesNow}
use Rattle.disk_trait.proofs.Stretches.{started, goes_on}
use Rattle.cell_format.specs.declared.cell.Cell.{Cell}
use Rattle.cell_format.specs.Spelling.{newest}
use Rattle.split_log.specs.LogText.{front_of, HoldsCells, HoldsAllOrNone, IsLog}
use Rattle.split_log.specs.Append.{IsReady}
use Rattle.split_log.specs.Commit.{IsUncommitted, StandsAfter}
use Rattle.split_log.proofs.Torn.{marked, torn_behind, written_behind}
use Rattle.split_log.proofs.Cells.{length-front_of, holds_front}
use Rattle.split_log.proofs.Commits.{joined, only-none, none-then}

-- A crash leaves the cells of a log.
pub before_all : (w : ℕ) (cells : List Cell) (drive : Drive) → KeepsLaws drive → IsLog w cells drive → LeavesOnly drive drive (HoldsCells newest w cells)
before_all w cells drive laws log =
    started drive (HoldsCells newest w cells) laws (λ c left. holds_front w cells log.bytes [] c log.text (log.durable c left ∙ sym (append-nil log.bytes)))

module _ (w : ℕ) (cells more : List Cell) (piece : List ℕ) (at : ℕ) (d0 : Drive) (ready : IsReady w cells more piece d0) (laws : KeepsLaws d0)
    (whole : (xs : List ℕ) → d0.bytes ≡ Some xs → length xs ≡ at + 1) where
  long : length (front_of newest w cells) ≡ at
  long =
      let log = ready.log in
      omega (arith, whole log.bytes log.told, ap length log.text.text, length-append (front_of newest w cells) (log.text.commit_byte ∷ []))

  module _ (d1 : Drive) (result1 : Result (Unit {0}) DiskFault) (first : Writes d0 d1 (at + 1) piece result1) where
    now_written : LeavesNow d1 (HoldsCells newest w cells)
    now_written c left =
        let log = ready.log in
        let from = first.crash c left in
        let torn : Torn (at + 1) (length piece) (marked (front_of newest w cells) log.text.commit_byte []) c =
        subst (λ f. Torn (at + 1) (length piece) f c) (log.durable from.0 from.1 ∙ log.text.text) from.2 in
        let parts : c ≡ log.bytes ++ drop (at + 1) c =
        torn_behind (front_of newest w cells) at long log.text.commit_byte (length piece) c torn ∙ ap (λ (l : List ℕ). l ++ drop (at + 1) c) (sym log.text.text) in
        holds_front w cells log.bytes (drop (at + 1) c) c log.text parts

    -- The write leaves the cells alone, whether it failed or not.
    pub written : LeavesOnly d0 d1 (HoldsCells newest w cells)
    written = goes_on d0 d0 d1 (HoldsCells newest w cells) (before_all w cells d0 laws ready.log) first.time now_written

    pub written-either : LeavesOnly d0 d1 (HoldsAllOrNone w cells more)
    written-either = only-none w cells more d0 d1 written

    -- If the write succeeded, the cells are after the commit byte.
    pub uncommitted : ((xs : List ℕ) → d0.bytes ≡ Some xs → (ys : List ℕ) × (d1.bytes ≡ Some ys) × Holds xs (at + 1) piece ys) → IsUncommitted w at cells more d1
    uncommitted stands =
        let log = ready.log in
        let (ys, told, holds) = stands log.bytes log.told in
        let holds_text : Holds (marked (front_of newest w cells) log.text.commit_byte []) (at + 1) piece ys = subst (λ f. Holds f (at + 1) piece ys) log.text.text holds in
        record {
          cells_fit = log.text.cells_fit;
          more_fit = ready.fits;
          some = ready.some;
          at_is = sym long ∙ length-front_of newest w cells;
          bytes = ys;
          told = told;
          staged = record {
            commit_byte = log.text.commit_byte;
            text = written_behind (front_of newest w cells) at long log.text.commit_byte piece ys holds_text ∙ ap (marked (front_of newest w cells) log.text.commit_byte) ready.piece_is;
          };
          alone = now_written;
        }

    -- Then the cells were committed, or a call of that failed.
    module _ (d2 : Drive) where
      pub placing : LeavesOnly d1 d2 (HoldsAllOrNone w cells more) → LeavesOnly d0 d2 (HoldsAllOrNone w cells more)
      placing after = none-then w cells more d0 d1 d2 written after

      pub unplaced : (went_well : ℕ) → StandsAfter w cells more went_well d1 d2 → StandsAfter w cells more went_well d0 d2
      unplaced went_well after = record {
        unstaged = λ few.
            joined d0 d1 d2 (HoldsCells newest w cells) (HoldsCells newest w cells) (HoldsCells newest w cells) (λ c holds. holds) (λ c holds. holds) written (after.unstaged few);
        staged = after.staged;
      }
