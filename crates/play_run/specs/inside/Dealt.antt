-- Lanes of sessions as they are dealt, before they run and after.
use Rattle.std.specs.Prelude.{◌≡◌, ℕ, zero, suc, ◌+◌, ◌≤◌, List, [], ◌∷◌, ◌++◌, length, vec_len, vec_capacity, get_or, take, ◌<◌, None, false, ⊤}
use Rattle.plain_list.specs.declared.ops.Op.{Op}
use Rattle.csv_rows.specs.declared.rows.InRow.{InRow}
use Rattle.atomic_table.specs.Seated.{TableId}
use Rattle.book_lock.specs.Pass.{Known}
use Rattle.book_lock.specs.declared.origin.Origin.{Origin}
use Rattle.sessions.specs.declared.store.lanes.Lane.{Lane}
use Rattle.lane_history.specs.SessionRows.{session_rows}

-- at index s - 1 are the rows of session s among the first n rows
pub record AreParted {V : Type 0} (items : V → List (ℕ × Op)) (rows : List InRow) (n : ℕ) (own : List V) : Type 0 where
  pub size : length own ≡ 16
  pub each : (s : ℕ) (d : V) → s < 16 → items (get_or own s d) ≡ session_rows (take n rows) (suc s)

-- at index s - 1 are the rows of session s, if s is above n
pub record AreLeft {V : Type 0} (items : V → List (ℕ × Op)) (rows : List InRow) (n : ℕ) (own : List V) : Type 0 where
  pub size : length own ≡ 16
  pub each : (s : ℕ) (d : V) → n ≤ s → s < 16 → items (get_or own s d) ≡ session_rows rows (suc s)

-- the number, if there are rows
abbrev pub one_if : ℕ → List (ℕ × Op) → List ℕ
one_if s [] = []
one_if s (r ∷ rows) = s ∷ []

-- the sessions from 1 to this number that have a row
abbrev pub sessions_to : ℕ → List InRow → List ℕ
sessions_to zero rows = []
sessions_to (suc n) rows = sessions_to n rows ++ one_if (suc n) (session_rows rows (suc n))

-- a pass that has seen nothing and owns nothing
abbrev pub fresh_pass : TableId → Origin → ℕ → Known
fresh_pass lock origin parts = record { lock = lock; seen = []; own = []; origin = origin; parts = parts; holds = false }

-- a lane of a session with these rows, ready to run
pub record IsDealt {I D O P : Type 0} (lock : TableId) (origin : Origin) (s : ℕ) (own : List (ℕ × Op)) (lane : Lane I D O P) : Type 0 where
  pub session_is : lane.session ≡ s
  pub rows_are : lane.rows.items ≡ own
  pub pass_is : lane.pass ≡ fresh_pass lock origin 1
  pub kept : lane.kept.items ≡ []
  pub room : vec_len lane.kept + length lane.rows.items ≤ vec_capacity lane.kept
  pub fault : lane.fault ≡ None

abbrev pub AreDealt : {I D O P : Type 0} → TableId → Origin → List InRow → List ℕ → List (Lane I D O P) → Type 0
AreDealt lock origin rows [] [] = ⊤
AreDealt lock origin rows [] (lane ∷ lanes) = ⊥
AreDealt lock origin rows (s ∷ sessions) [] = ⊥
AreDealt lock origin rows (s ∷ sessions) (lane ∷ lanes) = IsDealt lock origin s (session_rows rows s) lane × AreDealt lock origin rows sessions lanes

-- one more lane, whose pass was split off
pub record AddsLane {I D O P : Type 0} (s : ℕ) (own : List (ℕ × Op)) (old new : Known) (before after : List (Lane I D O P)) : Type 0 where
  pub lane : Lane I D O P
  pub lanes : after ≡ before ++ lane ∷ []
  pub dealt : IsDealt old.lock old.origin s own lane
  pub pass : new ≡ record old { parts = new.parts }
  pub parts : new.parts + 1 ≡ old.parts

-- the sessions from 1 to this number have their lanes, and this pass has the remaining parts
pub record HasDealt {I D O P : Type 0} (lock : TableId) (rows : List InRow) (n : ℕ) (lanes : List (Lane I D O P)) (pass : Known) : Type 0 where
  pub dealt : AreDealt lock pass.origin rows (sessions_to n rows) lanes
  pub pass_is : pass ≡ fresh_pass lock pass.origin pass.parts
  pub whole : pass.parts + length lanes ≡ 65536
