-- What a client is to contracts.
use Rattle.std.specs.Prelude.{◌≡◌, ℕ, ◌+◌, ◌-◌, ◌^◌, min, Bool, false, [], length, Option, Some, None}
use Rattle.atomic_table.specs.Seated.{TableId}
use Rattle.book_lock.specs.Ends.{longer}
use Rattle.book_lock.specs.Own.{merge}
use Rattle.book_lock.specs.Pass.{Known}
use Rattle.plain_list.specs.History.{world_after}
use Rattle.plain_list.specs.World.{World}
use Rattle.plain_list.specs.declared.object_changes.Change.{Change}
use Rattle.commit_book.specs.Room.{has_no_room}
use Rattle.sessions.specs.Rooms.{cells_where_at}
use Rattle.sessions.specs.Shared.{moves_of}

-- The pass belongs to this lock, and doesn't hold it.
abbrev pub IsFree : TableId → Known → Type 0
IsFree lock pass = (pass.lock ≡ lock) × (pass.holds ≡ false)

-- The pass has the same lock and as many parts. It holds the lock if and only if it did before.
abbrev pub KeepsPass : Known → Known → Type 0
KeepsPass old new = (new.lock ≡ old.lock) × (new.holds ≡ old.holds) × (new.parts ≡ old.parts)

-- The objects after all that a pass has seen, with their moments.
abbrev pub world_seen : Known → World
world_seen pass = world_after pass.origin.world pass.seen

-- Whether there are too many entries or log records for a further split. `kept` is whether the list of entries is kept.
abbrev pub is_near : Bool → Option ℕ → ℕ → Bool
is_near kept None events = has_no_room kept 0 events
is_near kept (Some cells) events = has_no_room kept cells events

-- Whether there are too many after the history that a pass has seen, if no fresh log has replaced the log.
abbrev pub is_near_end : Known → Bool
is_near_end pass = is_near pass.origin.kept (cells_where_at pass.origin pass.seen) (length pass.seen)

-- Whether there are too many next to so many cells, if there is a log. If no fresh log may replace it, the history
-- determines the number (`near-exact`, proofs/Near).
pub record IsNearEnd (pass : Known) (near : Bool) : Type 0 where
  pub cells : Option ℕ
  pub counted : moves_of pass.origin ≡ false → cells ≡ cells_where_at pass.origin pass.seen
  pub near_is : near ≡ is_near pass.origin.kept cells (length pass.seen)

-- A client: its pass, its session, the number of its next row, and the place of its last call that was answered, or 0, with
-- what that call has changed.
pub record Caller : Type 0 where
  pub pass : Known
  pub session : ℕ
  pub row : ℕ
  pub place : ℕ
  pub change : Option Change

-- What no call changes of a client: its store, its parts, its session, and what its history began from.
abbrev pub Keeps : Caller → Caller → Type 0
Keeps old new = (new.pass.lock ≡ old.pass.lock) × (new.pass.parts ≡ old.pass.parts) × (new.session ≡ old.session) × (new.pass.origin ≡ old.pass.origin)

-- The number of the row after this one.
abbrev pub next_row : ℕ → ℕ
next_row row = min (row + 1) (2 ^ 32 - 1)

-- A client after one more call, with this pass, this place of its last answer, and this change.
abbrev pub has_asked : Caller → Known → ℕ → Option Change → Caller
has_asked old pass place change = record { pass = pass; session = old.session; row = next_row old.row; place = place; change = change }

-- A client that has given one of its parts to another.
abbrev pub without_part : Caller → Caller
without_part old = record old { pass = record old.pass { parts = old.pass.parts - 1 } }

-- The client that got this part. It has seen the same, and has made no call yet.
abbrev pub with_part_of : Caller → ℕ → Caller
with_part_of old session = record { pass = record old.pass { own = []; parts = 1 }; session = session; row = 0; place = 0; change = None }

-- A client that has given so many of its parts to another.
abbrev pub without_parts : ℕ → Caller → Caller
without_parts n old = record old { pass = record old.pass { parts = old.pass.parts - n } }

-- The client that got these parts. It has seen the same, and has made no call yet.
abbrev pub with_parts_of : ℕ → Caller → ℕ → Caller
with_parts_of n old session = record { pass = record old.pass { own = []; parts = n }; session = session; row = 0; place = 0; change = None }

-- A client to which another client's pass was joined. It has seen what either has seen, and has the entries and the parts
-- of both.
abbrev pub has_joined : Caller → Known → Caller
has_joined old other = record old { pass = record old.pass { seen = longer old.pass.seen other.seen; own = merge other.own old.pass.own; parts = old.pass.parts + other.parts } }
