-- What a crash leaves between a small file and a log of all cells.
use Rattle.std.proofs.Common.{◌≡◌, inl, inr, ℕ, ◌≤◌, List, [], ◌∷◌, length, Option, Some, is_some, refl, sym, ◌∙◌, ap, subst, arith, length-append, ◌⊎◌}
use Rattle.cell_format.specs.declared.cell.Cell.{Cell}
use Rattle.cell_format.specs.Spelling.{newest}
use Rattle.causes.specs.Causes.{Rose}
use Rattle.disk_trait.specs.Drive.{Drive, HasNoMore, StopsAfter, SameFile}
use Rattle.disk_trait.specs.Moments.{LeavesOnly}
use Rattle.disk_trait.proofs.Told.{told_before}
use Rattle.split_log.specs.LogText.{HoldsCells, HoldsAllOrNone, IsLog, front_of}
use Rattle.split_log.proofs.Cells.{length-front_of}
use Rattle.split_log.proofs.Commits.{joined}
use Rattle.log_state.specs.Recovers.{Recovers, IsLegalCells}
use Rattle.recovery.specs.Calls.{AllWentWell, EndsAtFault, StopsAtFault}
use Rattle.recovery.specs.Making.{IsSmall, Makes, KeepsSmall, FailsToMake}
use Rattle.recovery.proofs.CallLemmas.{well-none, well-then, ends-then}
use Rattle.recovery.proofs.HeadLemmas.{index_version}
use Rattle.log_compact.specs.Staging.{IsEmpty}
use Rattle.log_compact.specs.Compacting.{IsCompacted, FailsToCompact, IsOnWay, KeepsOnWay}

some_same : (a b : List ℕ) → ◌≡◌ {A = Option (List ℕ)} (Some a) (Some b) → a ≡ b
some_same a b e = cc e

recovers : (w : ℕ) (cells : List Cell) (c : List ℕ) → HoldsCells newest w cells c → IsLegalCells w cells → Recovers w cells c
recovers w cells c holds legal = record { version = 2; known = inr refl; holds = holds; legal = legal }

by_holding : (w : ℕ) (cells : List Cell) → IsLegalCells w cells → (c : List ℕ) → HoldsAllOrNone w [] cells c → IsOnWay w cells c
by_holding w cells legal c (inl none) = inr (inl (recovers w [] c none refl, index_version newest w [] c none))
by_holding w cells legal c (inr all) = inr (inr (recovers w cells c all legal, index_version newest w cells c all))

-- A small file at first, and then a log of none of the cells, or of all.
module _ (w : ℕ) (cells : List Cell) (legal : IsLegalCells w cells) (old mid new : Drive) where
  small-then : LeavesOnly old mid IsSmall → LeavesOnly mid new (HoldsAllOrNone w [] cells) → LeavesOnly old new (IsOnWay w cells)
  small-then first second =
      joined old mid new IsSmall (HoldsAllOrNone w [] cells) (IsOnWay w cells) (λ c small. inl small) (by_holding w cells legal) first second

  module _ (made : Makes w old mid) (kept : KeepsSmall old mid) (leaves : IsLog w [] mid → LeavesOnly mid new (HoldsAllOrNone w [] cells)) where
    -- While the cells are written, and after that.
    pub kept-on_way : mid.faults ≤ new.faults → SameFile mid new → KeepsOnWay w cells old new
    kept-on_way later file = record {
      on_way = λ bytes told small. small-then (kept.small small) (leaves (made.log bytes told).1);
      in_use = λ bytes told long. absurd (omega (arith, long, (made.log bytes told).0));
      later = omega (arith, kept.later, later);
      file = λ all told. kept.file all (file all told);
    }

  pub compacted : Makes w old mid → (IsLog w [] mid → IsLog w cells new) → is_some new.bytes ≡ is_some mid.bytes → new.faults ≡ mid.faults → AllWentWell mid new → IsCompacted w cells old new
  compacted made written told_on same calls = record {
    log = λ bytes told. ((made.log bytes told).0, written (made.log bytes told).1);
    told = told_on ∙ made.told;
    synced = λ xs now.
        let (bytes, before) = told_before old.bytes new.bytes xs (told_on ∙ made.told) now in
        let log = written (made.log bytes before).1 in
        λ c left. log.durable c left ∙ some_same log.bytes xs (sym log.told ∙ now);
    same = same ∙ made.same;
    calls = well-then old mid new (record { count = 2; calls = made.calls }) calls;
  }

  -- The drive failed while the cells were written.
  pub failed-after : Makes w old mid → is_some new.bytes ≡ is_some mid.bytes → Rose mid.faults new.faults → EndsAtFault mid new → FailsToCompact old new
  failed-after made told_on rose ended = record {
    rose = subst (λ (n : ℕ). Rose n new.faults) made.same rose;
    told = told_on ∙ made.told;
    calls = inr (ends-then old mid new (record { count = 2; calls = made.calls }) ended);
  }

-- The drive failed while the log of no cells was created.
pub failed-making : (old new : Drive) → FailsToMake old new → FailsToCompact old new
failed-making old new fails = record { rose = fails.rose; told = fails.told; calls = by_case fails.calls }
  where
    by_case : HasNoMore old.calls new.calls ⊎ ((went_well : ℕ) × StopsAfter 1 went_well old new) → StopsAtFault old new
    by_case (inl none) = inl (well-none old new none)
    by_case (inr (k, stops)) = inr (record { went_well = k; calls = stops.calls })

-- A log of no cells has 17 bytes.
pub made-empty : (w : ℕ) (old new : Drive) → Makes w old new → IsEmpty new
made-empty w old new made xs told =
    let (bytes, before) = told_before old.bytes new.bytes xs made.told told in
    let log = (made.log bytes before).1 in
    omega (
      arith,
      ap length (some_same xs log.bytes (sym told ∙ log.told) ∙ log.text.text),
      length-append (front_of newest w []) (log.text.commit_byte ∷ []),
      length-front_of newest w [],
    )
