-- Lanes that were played on one store, and the pass that took theirs in.
use Rattle.std.specs.Prelude.{◌≡◌, ◌≢◌, ◌⊎◌, ℕ, ◌+◌, ◌<◌, List, [], ◌∷◌, length, None, Result, ⊤}
use mathlib.Core.List.{IsPrefix}
use Rattle.plain_list.specs.declared.ops.Op.{Op}
use Rattle.csv_rows.specs.declared.rows.InRow.{InRow}
use Rattle.book_lock.specs.Pass.{Known}
use Rattle.book_lock.specs.Own.{times, once_below}
use Rattle.book_lock.specs.declared.origin.Origin.{Origin}
use Rattle.commit_book.specs.declared.faults.BookFault.{BookFault}
use Rattle.sessions.specs.declared.faults.Settled.{Settled}
use Rattle.sessions.specs.declared.store.lanes.Lane.{Lane}
use Rattle.sessions.specs.Lanes.{PlaysLane}
use Rattle.sessions.specs.Settles.{Settles}
use Rattle.sessions.specs.Steps.{all_parts}
use Rattle.lane_history.specs.SessionRows.{session_rows}

-- a lane with the rows of a session was played, from a pass of this origin that had seen nothing and owned nothing
pub record HasPlayedLane {I D O P : Type 0} (w : ℕ) (origin : Origin) (session : ℕ) (rows : List (ℕ × Op)) (lane : Lane I D O P) : Type 0 where
  pub old : Lane I D O P
  pub session_is : old.session ≡ session
  pub rows_are : old.rows.items ≡ rows
  pub seen : old.pass.seen ≡ []
  pub own : old.pass.own ≡ []
  pub begins : old.pass.origin ≡ origin
  pub plays : PlaysLane w old lane

-- for each of these sessions, in order, a lane was played
abbrev pub HaveAllPlayed : {I D O P : Type 0} → ℕ → Origin → List InRow → List ℕ → List (Lane I D O P) → Type 0
HaveAllPlayed w origin rows [] [] = ⊤
HaveAllPlayed w origin rows [] (lane ∷ lanes) = ⊥
HaveAllPlayed w origin rows (s ∷ sessions) [] = ⊥
HaveAllPlayed w origin rows (s ∷ sessions) (lane ∷ lanes) = HasPlayedLane w origin s (session_rows rows s) lane × HaveAllPlayed w origin rows sessions lanes

-- the numbers are above `least`, and they rise strictly
abbrev pub RiseFrom : ℕ → List ℕ → Type 0
RiseFrom least [] = ⊤
RiseFrom least (s ∷ sessions) = (least < s) × RiseFrom s sessions

-- each session that has a row occurs exactly once; sessions without rows may occur too
pub record AreSessions (rows : List InRow) (sessions : List ℕ) : Type 0 where
  pub rise : RiseFrom 0 sessions
  pub all : (s : ℕ) → session_rows rows s ≢ [] → 0 < times s sessions

-- how many times the lanes own a position
abbrev pub owned_by : {I D O P : Type 0} → ℕ → List (Lane I D O P) → ℕ
owned_by p [] = 0
owned_by p (lane ∷ lanes) = times p lane.pass.own + owned_by p lanes

-- each lane's pass has seen a prefix of this history
abbrev pub HaveSeen : {I D O P : Type 0} → List (Lane I D O P) → Known → Type 0
HaveSeen [] pass = ⊤
HaveSeen (lane ∷ lanes) pass = IsPrefix lane.pass.seen pass.seen × HaveSeen lanes pass

-- a pass that had seen nothing and owned nothing took in the lanes' passes
pub record TakesIn {I D O P : Type 0} (origin : Origin) (lanes : List (Lane I D O P)) (pass : Known) : Type 0 where
  pub begins : pass.origin ≡ origin
  pub seen : HaveSeen lanes pass
  pub owned : (p : ℕ) → times p pass.own ≡ owned_by p lanes

-- no lane had a fault
abbrev pub AreCalmLanes : {I D O P : Type 0} → List (Lane I D O P) → Type 0
AreCalmLanes [] = ⊤
AreCalmLanes (lane ∷ lanes) = (lane.fault ≡ None) × AreCalmLanes lanes

-- no lane had a fault, and a pass with all parts tried to settle the splits at the end
pub record SettlesAfter {I D O P : Type 0} (w : ℕ) (lanes : List (Lane I D O P)) (pass last : Known) : Type 0 where
  pub calm : AreCalmLanes lanes
  pub all : pass.parts ≡ all_parts
  pub result : Result Settled BookFault
  pub settles : Settles w pass last result

-- the pass is unchanged, or the splits at the end were settled from it
abbrev pub GoesOn : {I D O P : Type 0} → ℕ → List (Lane I D O P) → Known → Known → Type 0
GoesOn w lanes pass last = (last ≡ pass) ⊎ SettlesAfter w lanes pass last

-- the pass owns each entry of the whole history exactly once
abbrev pub OwnsAll : Known → Type 0
OwnsAll pass = (p : ℕ) → times p pass.own ≡ once_below p (length pass.seen)

-- Lanes of the sessions of these rows were played on a store of this origin. One pass took theirs in, and may have
-- settled the splits. The last pass has the whole history.
pub record IsPlayedOut {I D O P : Type 0} (w : ℕ) (origin : Origin) (rows : List InRow) (sessions : List ℕ) (lanes : List (Lane I D O P)) (last : Known) : Type 0 where
  pub sessions_are : AreSessions rows sessions
  pub played : HaveAllPlayed w origin rows sessions lanes
  pub pass : Known
  pub joined : TakesIn origin lanes pass
  pub goes_on : GoesOn w lanes pass last
  pub whole : OwnsAll last
