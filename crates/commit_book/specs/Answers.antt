-- What the calls of a book return.
use Rattle.std.specs.Prelude.{◌≡◌, ℕ, Bool, true, false, List, [], ◌∷◌, ◌++◌, drop, Option, ⊤}
use Rattle.std.specs.List.{list_all}
use Rattle.plain_list.specs.declared.ops.Op.{Op}
use Rattle.plain_list.specs.declared.ops.Op.TheVariants.{Put, Move, Remove, Find, Within, Near}
use Rattle.plain_list.specs.declared.ops.Answer.{Answer}
use Rattle.plain_list.specs.declared.entries.Entry.{Entry}
use Rattle.plain_list.specs.declared.entries.Entry.TheVariants.{Call, Begin, Install, Abandon, Fail}
use Rattle.plain_list.specs.Answer.{answer_of}
use Rattle.plain_list.specs.History.{world_after, call_count}
use Rattle.plain_list.specs.State.{state_after}
use Rattle.plain_list.specs.Size.{full_leaf}
use Rattle.commit_book.specs.BookView.{BookView}
use Rattle.point_table.specs.Changes.{AreSettled}
pub use Rattle.point_table.specs.Updates.{IsUpdate}

-- an operation that is answered from a snapshot: a box or a k-nearest query
abbrev pub IsQuery : Op → Type 0
IsQuery (Within region) = ⊤
IsQuery (Near at k) = ⊤
IsQuery _ = ⊥

-- whether an operation changes no world: it is a find or a query
abbrev pub is_ask : Op → Bool
is_ask (Put id at moment) = false
is_ask (Move id at moment) = false
is_ask (Remove id) = false
is_ask (Find id) = true
is_ask (Within region) = true
is_ask (Near at k) = true

-- whether an entry leaves every world unchanged
abbrev pub is_still : Entry → Bool
is_still (Call session row op) = is_ask op
is_still (Begin number name) = true
is_still (Install number) = true
is_still (Abandon number) = true
is_still (Fail cell lost) = true

-- whether each entry after the first `events` leaves every world unchanged
abbrev pub is_still_since : ℕ → List Entry → Bool
is_still_since events entries = list_all is_still (drop events entries)

-- the history has one more entry, that of this call, and the place is the call's number
pub record Notes {D : Type 0} (old new : BookView D) (session row : ℕ) (op : Op) (place : ℕ) : Type 0 where
  pub entries : new.entries ≡ old.entries ++ Call session row op ∷ []
  pub place_is : place ≡ call_count new.entries

-- The answer of the world after the history so far, and the leaf to split next. A leaf that changed has no delta,
-- unless its split is open.
pub record Replies {D : Type 0} (w : ℕ) (old new : BookView D) (session row : ℕ) (op : Op) (place : ℕ) (answer : Answer) (full : Option (List Bool)) : Type 0 where
  pub notes : Notes old new session row op place
  pub answer_is : answer ≡ answer_of (world_after old.opening.world old.entries) op
  pub full_is : full ≡ full_leaf w new.bucket (state_after w new.opening new.entries)
  pub settled : AreSettled (state_after w old.opening old.entries).splits old.leaves new.leaves
