-- `follow` never says that its words aren't accepted.
use Rattle.std.proofs.Common.{◌≡◌, ◌⊎◌, inl, inr, ℕ, List}
use Rattle.cell_format.specs.declared.cell.Cell.{Cell}
use Rattle.io_edge.specs.Streams.{Output}
use Rattle.disk_trait.specs.Drive.{Drive}
use Rattle.follower.specs.declared.turns.Turn.{Turn}
use Rattle.follow_run.specs.TurnRows.{turns_of_text}
use Rattle.run_ends.specs.Ends.{Ends, Done, Targets}
use Rattle.run_ends.specs.Tables.{IsTableCause}
use Rattle.run_ends.proofs.Ends.{not-usage, not-written}
use Rattle.follow_run.specs.Leading.{IsLeaderCause}
use Rattle.follow_run.specs.Replica.{IsReplicaCause, IsUnopened, PlaysTurns, EndsTurns, StopsTurns}
use Rattle.follow_run.specs.Following.{RefusesLeader, FollowsLeader, GivesNoTurns, GivesTurns, Follows}

not-turned : (w : ℕ) (cells : List Cell) (first : ℕ) (turns : List Turn) (made opened : ℕ) (old new : Drive) (status : ℕ) (before after : Output) → EndsTurns w cells first turns made opened old new status before after → status ≡ 2 → ⊥
not-turned w cells first turns made opened old new status before after (inl tells) two = not-written _ status before after tells.wrote two
not-turned w cells first turns made opened old new status before after (inr refused) two = not-usage (StopsTurns w cells first turns made opened old new) status before after (λ c. c.cause) refused two

not-copied : (w : ℕ) (cells : List Cell) (turns : List Turn) (old new : Drive) (status : ℕ) (before after : Output)
    → IsUnopened w cells old new status before after ⊎ PlaysTurns w cells turns old new status before after → status ≡ 2 → ⊥
not-copied w cells turns old new status before after (inl unopened) two = not-usage (IsReplicaCause w cells old new) status before after (λ c. c) unopened.refused two
not-copied w cells turns old new status before after (inr plays) two = not-turned w cells plays.first turns plays.made plays.opened old new status before after plays.ends two

not-led : {D : Type 0} (file name : List ℕ) (turns : List Turn) (old new : Targets D) (status : ℕ) → RefusesLeader old new status ⊎ FollowsLeader file name turns old new status → status ≡ 2 → ⊥
not-led file name turns old new status (inl unread) two = not-usage (IsLeaderCause old.drive new.drive) status old.output new.output (λ c. c) unread.refused two
not-led file name turns old new status (inr read) two = not-copied read.width read.cells turns old.other_drive new.other_drive status old.output new.output read.ends.ends two

pub not-followed : {S D : Type 0} (file name : List ℕ) (done : Done (Ends S D)) → Follows file name done → done.status ≡ 2 → ⊥
not-followed file name done follows two = by_goes follows.goes.goes
  where
    by_goes : GivesNoTurns done.old.input done.new.input done.old.to done.new.to done.status ⊎ GivesTurns file name done.old.input done.new.input done.old.to done.new.to done.status → ⊥
    by_goes (inl none) = not-usage (IsTableCause turns_of_text done.old.input done.new.input) done.status done.old.to.output done.new.to.output (λ c. c) none.refused two
    by_goes (inr given) = not-led file name given.turns done.old.to done.new.to done.status given.ends.ends two
