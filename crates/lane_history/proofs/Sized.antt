-- Where the splits at the end ended well, each leaf is sized or there was no room.
use Rattle.std.proofs.Common.{◌≡◌, ◌⊎◌, inl, inr, ℕ, ◌+◌, ◌<◌, Bool, true, false, not, ◌||◌, cond, List, [], length, Option, Some, None, Ok, Err, refl, sym, ap, subst, ◌∙◌}
use mathlib.Core.Bool.{true≢false}
use Rattle.std.specs.Prelude.{nat_lt}
use Rattle.std.specs.Option.{option_map}
use Rattle.std.proofs.lemmas.Bool.{ltb-true}
use Rattle.plain_list.specs.declared.entries.Entry.{Entry}
use Rattle.plain_list.specs.World.{World}
use Rattle.plain_list.specs.History.{world_after, failed_cell}
use Rattle.plain_list.specs.State.{State, is_leaf, state_after}
use Rattle.plain_list.specs.Size.{full_leaf, IsSized}
use Rattle.plain_list.proofs.Histories.{state_after-world}
use Rattle.commit_book.specs.Refusals.{IsRefusedBy, IsMemoryOrDisk, first_of, closed_refusal, room_refusal, leaf_refusal, split_number, most_events_to_begin}
use Rattle.commit_book.specs.declared.faults.BookFault.{BookFault}
use Rattle.commit_book.specs.declared.faults.BookFault.TheVariants as book
use Rattle.commit_book.proofs.SizedLeaves.{sized-none}
use Rattle.book_lock.specs.Pass.{Known}
use Rattle.book_lock.specs.declared.origin.Origin.{Origin}
use Rattle.sessions.specs.Shared.{start_of, moves_of}
use Rattle.sessions.specs.Steps.{all_parts, cells_at}
use Rattle.sessions.specs.Splits.{begin_cause, state_of}
use Rattle.sessions.specs.Settles.{SettleEnds}
use Rattle.sessions.specs.declared.faults.Settled.{Settled}
use Rattle.sessions.specs.declared.faults.Settled.TheVariants.{Small, Room}
use Rattle.lane_history.proofs.Steps.{begins-exact}
use Rattle.lane_history.proofs.Tidy.{end-seen}

sized-full : (w size : ℕ) (o : State) (h : List Entry) → (state_after w o h).splits ≡ [] → full_leaf w size (state_after w o h) ≡ None → IsSized w size (world_after o.world h) (state_after w o h).leaves
sized-full w size o h ended none =
    let s = state_after w o h in
    subst (λ (world : World). IsSized w size world s.leaves) (state_after-world w o h) (sized-none w size s.world s.splits s.leaves ended none)

-- a begin that was refused for want of room
abbrev is_room : BookFault → Bool
is_room (book.Room cells events) = true
is_room (book.Disk cell) = false
is_room (book.Closed cell) = false
is_room book.HistoryFull = false
is_room book.LogFull = false
is_room book.Memory = false
is_room (book.Splitting number) = false
is_room book.Deep = false
is_room book.NoLeaf = false
is_room (book.Stale number) = false
is_room (book.NotOpen number) = false

-- whether a cause is want of room
abbrev for_room : Option BookFault → Bool
for_room None = false
for_room (Some cause) = is_room cause

map-other : (f : ℕ → BookFault) (o : Option ℕ) → ((n : ℕ) → is_room (f n) ≡ false) → for_room (option_map f o) ≡ false
map-other f None other = refl
map-other f (Some n) other = other n

if-other : (b : Bool) (cause : BookFault) (rest : Option BookFault) → is_room cause ≡ false → for_room rest ≡ false → for_room (cond b (Some cause) rest) ≡ false
if-other true cause rest this more = this
if-other false cause rest this more = more

leaf-other : (w : ℕ) (s : State) (name : List Bool) → for_room (leaf_refusal w s name) ≡ false
leaf-other w s name =
    if-other (not (is_leaf s.leaves name)) book.NoLeaf (cond (nat_lt 64 (length name + w)) (Some book.Deep) (option_map book.Splitting (split_number s.splits name))) refl
    (if-other (nat_lt 64 (length name + w)) book.Deep (option_map book.Splitting (split_number s.splits name)) refl (map-other book.Splitting (split_number s.splits name) (λ n. refl)))

room-cause : (a b c : Option BookFault) → for_room a ≡ false → for_room c ≡ false → for_room (first_of a (first_of b c)) ≡ true → for_room b ≡ true
room-cause (Some cause) b c first last is = absurd (true≢false (sym is ∙ first))
room-cause None (Some cause) c first last is = is
room-cause None None c first last is = absurd (true≢false (sym is ∙ last))

closed-other : (h : List Entry) → for_room (closed_refusal h) ≡ false
closed-other h = map-other book.Closed (failed_cell h) (λ n. refl)

past-room : (kept : Bool) (cells events : ℕ) → for_room (room_refusal kept cells events) ≡ true → (most_events_to_begin kept < events) ⊎ (16000000 < cells)
past-room kept cells events is = by_tests (nat_lt 16000000 cells) (nat_lt (most_events_to_begin kept) events) refl refl is
  where
    by_tests : (a b : Bool) → nat_lt 16000000 cells ≡ a → nat_lt (most_events_to_begin kept) events ≡ b → for_room (cond (a || b) (Some (book.Room cells events)) None) ≡ true → (most_events_to_begin kept < events) ⊎ (16000000 < cells)
    by_tests true b many other is = inr (ltb-true 16000000 cells many)
    by_tests false true few many is = inl (ltb-true (most_events_to_begin kept) events many)
    by_tests false false few less is = absurd (true≢false (sym is))

refused-room : (cause : Option BookFault) (cells events : ℕ) → IsRefusedBy {A = ℕ} IsMemoryOrDisk cause (Err (book.Room cells events)) → for_room cause ≡ true
refused-room None cells events (inl memory) = absurd (cc memory)
refused-room None cells events (inr disk) = absurd disk
refused-room (Some cause) cells events is = let same : book.Room cells events ≡ cause = cc is in ap is_room (sym same)

pub ended-sized : (w : ℕ) (origin : Origin) (mid last : Known) (s : Settled) → mid.origin ≡ origin → moves_of origin ≡ false → mid.parts ≡ all_parts → SettleEnds w mid last (Ok s) → (state_after w (start_of origin) last.seen).splits ≡ []
    → IsSized w origin.bucket (world_after origin.world last.seen) (state_after w (start_of origin) last.seen).leaves ⊎ ((most_events_to_begin origin.kept < length last.seen) ⊎ (16000000 < cells_at origin last.seen))
ended-sized w origin mid last Small from still all (tells, same) ended =
    let none : full_leaf w origin.bucket (state_after w (start_of origin) last.seen) ≡ None =
    (λ i. full_leaf w (sym from i).bucket (state_after w (start_of (sym from i)) (same i).seen)) ∙ sym tells.1 in
    inl (sized-full w origin.bucket (start_of origin) last.seen ended none)
ended-sized w origin mid last Room from still all (name, full, cells, events, begins) ended =
    let seen : begins.before ≡ last.seen = begins.alone all ∙ sym (end-seen w mid last Room all (name, full, cells, events, begins)) in
    let there = cells_at mid.origin begins.before in
    let cause = refused-room (begin_cause w mid.origin name there begins.before) cells events (begins-exact w name mid last (Err (book.Room cells events)) (ap moves_of from ∙ still) begins) in
    let room = room-cause (closed_refusal begins.before) (room_refusal mid.origin.kept there (length begins.before)) (leaf_refusal w (state_of w mid.origin begins.before) name)
    (closed-other begins.before) (leaf-other w (state_of w mid.origin begins.before) name) cause in
    inr (subst (λ (z : Origin × List Entry). (most_events_to_begin z.0.kept < length z.1) ⊎ (16000000 < cells_at z.0 z.1)) (λ i. (from i, seen i)) (past-room mid.origin.kept there (length begins.before) room))
