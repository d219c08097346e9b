-- The limits of a history of either kind.
use Rattle.std.proofs.Common.{◌<◌, ◌≤◌, Bool, true, false, arith}
use Rattle.commit_book.specs.IsBook.{most_events}
use Rattle.commit_book.specs.Room.{most_events_to_begin}

pub most-le : (kept : Bool) → most_events kept ≤ 1152921504606846976
most-le true = omega arith
most-le false = omega arith

-- a history with room for a split has room for an entry
pub begin-less : (kept : Bool) → most_events_to_begin kept < most_events kept
begin-less true = omega arith
begin-less false = omega arith
