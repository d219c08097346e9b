-- `watch` never says that its words aren't accepted.
use Rattle.std.proofs.Common.{◌≡◌, ◌⊎◌, inl, inr, ℕ, List}
use Rattle.io_edge.specs.Streams.{Input}
use Rattle.run_ends.specs.declared.refusals.Refusal.TheVariants as refusal
use Rattle.run_ends.specs.Ends.{Targets}
use Rattle.run_ends.specs.Ending.{EndsRefused}
use Rattle.run_ends.specs.Tables.{IsTableCause}
use Rattle.run_ends.proofs.Ends.{not-usage, not-written}
use Rattle.log_run.specs.Checking.{TellsCells}
use Rattle.fence_watch.specs.declared.fences.Fence.{Fence}
use Rattle.watch_run.specs.FenceRows.{fences_of_text}
use Rattle.watch_run.specs.WatchLines.{watched_text}
use Rattle.watch_run.specs.Watching.{EndsWatching, GoesAlong, IsWatchingCause}

other-usage : refusal.Usage ≡ refusal.LongEvents → ⊥
other-usage e = cc e

not-along : {D : Type 0} (fences : List Fence) (file : List ℕ) (old new : Targets D) (status : ℕ) → EndsWatching fences file old new status → status ≡ 2 → ⊥
not-along fences file old new status ends two = by_end ends.ends
  where
    by_end : TellsCells (watched_text fences) old.drive status old.output new.output ⊎ EndsRefused (IsWatchingCause fences old.drive new.drive) status old.output new.output → ⊥
    by_end (inl (w, cells, found, wrote)) = not-written _ status old.output new.output wrote two
    by_end (inr refused) = not-usage (IsWatchingCause fences old.drive new.drive) status old.output new.output (λ cause. elim cause [ inl c ↦ c | inr c ↦ other-usage c.0 ]) refused two

pub not-watched : {D : Type 0} (file : List ℕ) (before after : Input) (old new : Targets D) (status : ℕ) → GoesAlong file before after old new status → status ≡ 2 → ⊥
not-watched file before after old new status (inl unfenced) two = not-usage (IsTableCause fences_of_text before after) status old.output new.output (λ c. c) unfenced.refused two
not-watched file before after old new status (inr fenced) two = not-along fenced.fences file old new status fenced.ends two
