-- Lanes whose passes were joined, and what the lanes leave.
use Rattle.std.specs.Prelude.{◌≡◌, ℕ, ◌+◌, Bool, true, false, List, [], ◌∷◌, ◌++◌, length, ⊤, Ok}
use Rattle.csv_rows.specs.declared.rows.InRow.{InRow}
use Rattle.atomic_table.specs.Seated.{TableId}
use Rattle.book_lock.specs.Pass.{Known}
use Rattle.book_lock.specs.Own.{times}
use Rattle.book_lock.specs.declared.origin.Origin.{Origin}
use Rattle.sessions.specs.declared.faults.Settled.{Settled}
use Rattle.sessions.specs.declared.store.lanes.Lane.{Lane}
use Rattle.sessions.specs.Settles.{Settles}
use Rattle.lane_history.specs.Lanes.{HaveAllPlayed, TakesIn, GoesOn, AreCalmLanes}
use Rattle.play_run.specs.declared.lanes.LaneEnd.{LaneEnd}
use Rattle.play_run.specs.inside.Dealt.{sessions_to}

-- the lane has a pass of this lock, with one part
pub record IsIdle {I D O P : Type 0} (lock : TableId) (lane : Lane I D O P) : Type 0 where
  pub lock_is : lane.pass.lock ≡ lock
  pub off : lane.pass.holds ≡ false
  pub parts : lane.pass.parts ≡ 1

abbrev pub AreIdle : {I D O P : Type 0} → TableId → List (Lane I D O P) → Type 0
AreIdle lock [] = ⊤
AreIdle lock (lane ∷ lanes) = IsIdle lock lane × AreIdle lock lanes

-- what the lanes leave, the last lane first
abbrev pub end_of : {I D O P : Type 0} → Lane I D O P → LaneEnd
end_of lane = record { session = lane.session; kept = lane.kept }

abbrev pub ends_of : {I D O P : Type 0} → List (Lane I D O P) → List LaneEnd
ends_of [] = []
ends_of (lane ∷ lanes) = ends_of lanes ++ end_of lane ∷ []

-- the passes of these lanes were taken in
pub record Takes {I D O P : Type 0} (old new : Known) (lanes : List (Lane I D O P)) : Type 0 where
  pub taken : TakesIn old.origin lanes new
  pub lock : new.lock ≡ old.lock
  pub off : new.holds ≡ false
  pub parts : new.parts ≡ old.parts + length lanes

-- if true, no lane had a fault and the splits at the end were settled; false says nothing
abbrev pub IsDone : {I D O P : Type 0} → ℕ → List (Lane I D O P) → Known → Known → Bool → Type 0
IsDone w lanes pass last true = AreCalmLanes lanes × ((settled : Settled) × (pass.parts ≡ 65536) × Settles w pass last (Ok settled))
IsDone w lanes pass last false = ⊤

-- lanes of all sessions ran, their passes were joined, and the splits at the end may have been settled
pub record HasRun (I D O P : Type 0) (w : ℕ) (origin : Origin) (rows : List InRow) (ends : List LaneEnd) (last : Known) (done : Bool) : Type 0 where
  pub lanes : List (Lane I D O P)
  pub played : HaveAllPlayed w origin rows (sessions_to 16 rows) lanes
  pub pass : Known
  pub joined : TakesIn origin lanes pass
  pub goes_on : GoesOn w lanes pass last
  pub ends_are : ends ≡ ends_of lanes
  pub is_done : IsDone w lanes pass last done

-- memory ran out before any lane ran
pub record HasNotRun (last : Known) (done : Bool) : Type 0 where
  pub own : (p : ℕ) → times p last.own ≡ 0
  pub not_done : done ≡ false

-- all parts are joined again
pub record HasAllParts (old last : Known) : Type 0 where
  pub lock : last.lock ≡ old.lock
  pub off : last.holds ≡ false
  pub parts : last.parts ≡ 65536
  pub origin : last.origin ≡ old.origin
