-- No command on a log tells that its words aren't accepted.
use Rattle.std.proofs.Common.{◌≡◌, ◌⊎◌, inl, inr, ℕ, Bool, List}
use Rattle.cell_format.specs.declared.cell.Cell.{Cell}
use Rattle.plain_list.specs.World.{World}
use Rattle.io_edge.specs.Streams.{Output}
use Rattle.disk_trait.specs.Drive.{Drive}
use Rattle.run_ends.specs.Ends.{Targets}
use Rattle.run_ends.specs.Ending.{EndsRefused}
use Rattle.run_ends.proofs.Ends.{not-usage, not-written}
use Rattle.log_run.specs.Making.{IsMakingCause, MakesOrRefuses, EndsMaking}
use Rattle.log_run.specs.Checking.{TellsLog, IsCheckingCause, TellsCells}
use Rattle.log_run.specs.Compacting.{RefusesFile, WritesAnew, WritesOrRefuses, EndsCompacting}

pub not-told : (text : ℕ → List Cell → List ℕ) (file : List ℕ) (old new : Drive) (status : ℕ) (before after : Output) → TellsLog text file old new status before after → status ≡ 2 → ⊥
not-told text file old new status before after tells two = by_end tells.ends
  where
    by_end : TellsCells text old status before after ⊎ EndsRefused (IsCheckingCause old new) status before after → ⊥
    by_end (inl (w, cells, found, wrote)) = not-written _ status before after wrote two
    by_end (inr refused) = not-usage (IsCheckingCause old new) status before after (λ c. c) refused two

pub not-made : {D : Type 0} (file : List ℕ) (w : ℕ) (old new : Targets D) (status : ℕ) → EndsMaking file w old new status → status ≡ 2 → ⊥
not-made file w old new status makes two = by_end makes.ends
  where
    by_end : MakesOrRefuses w old.drive new.drive status old.output new.output → ⊥
    by_end (inl (made, wrote)) = not-written _ status old.output new.output wrote two
    by_end (inr refused) = not-usage (IsMakingCause old.drive new.drive) status old.output new.output (λ c. c) refused two

not-anew : (w : ℕ) (world : World) (leaves : List (List Bool)) (old new : Drive) (status : ℕ) (before after : Output) → WritesOrRefuses w world leaves old new status before after → status ≡ 2 → ⊥
not-anew w world leaves old new status before after (inl (made, wrote)) two = not-written _ status before after wrote two
not-anew w world leaves old new status before after (inr refused) two = not-usage (IsMakingCause old new) status before after (λ c. c) refused two

pub not-compacted : {D : Type 0} (file name : List ℕ) (old new : Targets D) (status : ℕ) → EndsCompacting file name old new status → status ≡ 2 → ⊥
not-compacted file name old new status compacts two = by_end compacts.ends
  where
    by_end : RefusesFile old new status ⊎ WritesAnew file name old new status → ⊥
    by_end (inl unread) = not-usage (IsCheckingCause old.drive new.drive) status old.output new.output (λ c. c) unread.refused two
    by_end (inr read) = not-anew _ _ _ old.other_drive new.other_drive status old.output new.output read.ends.ends two
