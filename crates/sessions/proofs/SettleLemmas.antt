-- Splits while nobody else calls.
use Rattle.std.proofs.Common.{◌≡◌, inl, inr, ℕ, ◌+◌, ◌≤◌, ◌==◌, ◌||◌, nat_lt, Bool, true, false, cond, List, [], ◌∷◌, ◌++◌, length, Option, Some, None, Ok, Err, refl, sym, ap, subst, ◌∙◌, arith, length-append}
use Rattle.std.specs.Option.{option_map}
use Rattle.std.proofs.lemmas.Bool.Decides.{Decides-eqb}
use borrow.Author.Tests.{ltb-false}
use Rattle.plain_list.specs.World.{World}
use Rattle.plain_list.specs.declared.entries.Entry.{Entry}
use Rattle.plain_list.specs.declared.entries.Entry.TheVariants.{Begin}
use Rattle.plain_list.specs.History.{world_after}
use Rattle.log_state.specs.Changes.{cells_of}
use Rattle.log_state.proofs.CellCounts.{cells-few}
use Rattle.log_state.proofs.PlacedChanges.{cells_of-append}
use Rattle.kept_log.specs.Counts.{count_after}
use Rattle.kept_log.specs.Journal.{failed_cell}
use Rattle.kept_log.proofs.InJournal.{failed_cell-push, has_failed-none}
use Rattle.commit_book.specs.IsBook.{most_events}
use Rattle.commit_book.specs.Refusals.{IsRefusedBy, IsDisk, IsMemoryOrDisk, first_of, closed_refusal, room_refusal, leaf_refusal, call_refusal, end_refusal, most_cells, most_events_to_begin}
use Rattle.commit_book.specs.declared.faults.BookFault.{BookFault}
use Rattle.commit_book.specs.declared.faults.BookFault.TheVariants as book
use Rattle.commit_book.proofs.RefusalLemmas.{going_on, number-none, leaf-split}
use Rattle.commit_book.proofs.SplitCalls.{full_leaf-free}
use Rattle.book_lock.specs.Pass.{Known}
use Rattle.book_lock.specs.declared.origin.Origin.{Origin}
use Rattle.sessions.specs.Calls.{next_full}
use Rattle.sessions.specs.Shared.{first_cells, moves_of}
use Rattle.sessions.specs.Steps.{all_parts, IsCount, cells_at}
use Rattle.sessions.specs.Splits.{BeginsSplit, GivesUp, RanOut, NotInstalled, SplitEnds, begin_cause, state_of}
use Rattle.sessions.specs.Settles.{SplitsAll, IsNextFault, IsNoRoom, IsSettleFault, SplitFault}
use Rattle.sessions.specs.declared.faults.Split.{Split}
use Rattle.sessions.specs.declared.faults.Split.TheVariants.{Installed, NotSplit}
use Rattle.sessions.proofs.StepLemmas.{first-none}
use Rattle.sessions.proofs.CallLemmas.{AreCauses, call-causes, causes-first, causes-if, causes-none, refused-cause}

memory-next : (moves : Bool) (fault : BookFault) → fault ≡ book.Memory → IsNextFault moves fault
memory-next moves fault is = subst (IsNextFault moves) (sym is) tt

disk-next : (moves : Bool) (fault : BookFault) → IsDisk fault → IsNextFault moves fault
disk-next moves (book.Disk cell) is = tt
disk-next moves (book.Closed cell) is = tt
disk-next moves book.HistoryFull is = is
disk-next moves book.LogFull is = absurd is
disk-next moves book.Memory is = tt
disk-next moves (book.Room cells events) is = tt
disk-next moves (book.Splitting number) is = is
disk-next moves book.Deep is = is
disk-next moves book.NoLeaf is = is
disk-next moves (book.Stale number) is = is
disk-next moves (book.NotOpen number) is = is

free-next : (moves : Bool) (fault : BookFault) → IsMemoryOrDisk fault → IsNextFault moves fault
free-next moves fault (inl memory) = memory-next moves fault memory
free-next moves fault (inr disk) = disk-next moves fault disk

-- the begin of the next leaf's split is refused for want of room alone
begin-room : (w : ℕ) (old : Known) (name : List Bool) (cells : ℕ) (before : List Entry) → before ≡ old.seen → closed_refusal old.seen ≡ None → next_full w old ≡ Some name
    → begin_cause w old.origin name cells before ≡ room_refusal old.origin.kept cells (length before)
begin-room w old name cells before same unclosed full =
    let s = state_of w old.origin old.seen in
    let free = full_leaf-free w old.origin.bucket s name full in
    let room = room_refusal old.origin.kept cells (length before) in
    (λ i. first_of (closed_refusal (same i)) (first_of room (leaf_refusal w (state_of w old.origin (same i)) name)))
    ∙ (λ i. first_of (unclosed i) (first_of room (leaf_refusal w s name)))
    ∙ ap (first_of room) (leaf-split w s name free.leaf free.short ∙ ap (option_map book.Splitting) (number-none s.splits name free.free))
    ∙ first-none room

room-next : (moves kept : Bool) (cells events : ℕ) → AreCauses (IsNextFault moves) (room_refusal kept cells events)
room-next moves kept cells events = causes-if (IsNextFault moves) (nat_lt 16000000 cells || nat_lt (most_events_to_begin kept) events) (book.Room cells events) tt

-- where there was room
pub has-room : (kept : Bool) (cells events : ℕ) → room_refusal kept cells events ≡ None → (events ≤ most_events_to_begin kept) × (cells ≤ 16000000)
has-room kept cells events none = by_tests (nat_lt 16000000 cells) (nat_lt (most_events_to_begin kept) events) refl refl none
  where
    by_tests : (a b : Bool) → nat_lt 16000000 cells ≡ a → nat_lt (most_events_to_begin kept) events ≡ b → cond (a || b) (Some (book.Room cells events)) None ≡ None → (events ≤ most_events_to_begin kept) × (cells ≤ 16000000)
    by_tests true b is other none = absurd (cc)
    by_tests false true other is none = absurd (cc)
    by_tests false false few less none = (ltb-false (most_events_to_begin kept) events less, ltb-false 16000000 cells few)

-- one entry behind that there is room for an end
cells-next : (first : Option ℕ) (world : World) (before : List Entry) (e : Entry) → count_after first world (before ++ e ∷ []) ≤ count_after first world before + 1
cells-next None world before e = omega arith
cells-next (Some n) world before e =
    let more : length (cells_of world (before ++ e ∷ [])) ≡ length (cells_of world before) + length (cells_of (world_after world before) (e ∷ [])) =
    ap length (cells_of-append world before (e ∷ [])) ∙ length-append (cells_of world before) (cells_of (world_after world before) (e ∷ [])) in
    let few = cells-few (world_after world before) (e ∷ []) in
    omega arith

pub cells-added : (origin : Origin) (before : List Entry) (e : Entry) → cells_at origin (before ++ e ∷ []) ≤ cells_at origin before + 1
cells-added origin before e = cells-next (first_cells origin) origin.world before e

not-equal : (a b : ℕ) → a + 1 ≤ b → (a == b) ≡ false
not-equal a b less = by_test (a == b) refl
  where
    by_test : (t : Bool) → (a == b) ≡ t → t ≡ false
    by_test false is = refl
    by_test true is = let same : a ≡ b = (Decides-eqb a b).0 is in absurd (omega arith)

below-most : (kept : Bool) (n : ℕ) → n ≤ most_events_to_begin kept → n + 1 + 1 ≤ most_events kept
below-most true n few = omega arith
below-most false n few = omega arith

-- so no call is refused there
call-free : (kept : Bool) (before after : List Entry) (number : ℕ) (name : List Bool) → after ≡ before ++ Begin number name ∷ [] → failed_cell before ≡ None → length before ≤ most_events_to_begin kept → call_refusal kept after ≡ None
call-free kept before after number name is going few =
    let below = below-most kept (length before) few in
    let unclosed : failed_cell after ≡ None = ap failed_cell is ∙ failed_cell-push before (Begin number name) (has_failed-none before going) in
    let count : length after ≡ length before + 1 = ap length is ∙ length-append before (Begin number name ∷ []) in
    let events : (length after == most_events kept) ≡ false = not-equal (length after) (most_events kept) (omega arith) in
    λ i. first_of (option_map book.Closed (unclosed i)) (cond (events i) (Some book.HistoryFull) None)

-- nor is an end, if the log has room
end-free : (kept : Bool) (after : List Entry) (cells : ℕ) → call_refusal kept after ≡ None → cells ≤ 16000001 → end_refusal kept cells after ≡ None
end-free kept after cells free less =
    let full : (cells == most_cells) ≡ false = not-equal cells most_cells (omega arith) in
    λ i. first_of (free i) (cond (full i) (Some book.LogFull) None)

-- what was done was refused for no cause
pub allowed : (cause : Option BookFault) (number : ℕ) → IsRefusedBy IsMemoryOrDisk cause (Ok number) → cause ≡ None
allowed None number refused = refl
allowed (Some cause) number refused = absurd (cc refused)

module _ (w : ℕ) (old mid : Known) (number : ℕ) (name : List Bool) (all : old.parts ≡ all_parts) (unclosed : closed_refusal old.seen ≡ None) (full : next_full w old ≡ Some name) (begins : BeginsSplit w name old mid (Ok number)) where
  begun-room : (length begins.before ≤ most_events_to_begin old.origin.kept) × (begins.cells ≤ 16000000)
  begun-room =
      has-room old.origin.kept begins.cells (length begins.before)
      (sym (begin-room w old name begins.cells begins.before (begins.alone all) unclosed full) ∙ allowed (begin_cause w old.origin name begins.cells begins.before) number begins.refused)

  going : failed_cell begins.before ≡ None
  going = going_on begins.before (ap closed_refusal (begins.alone all) ∙ unclosed)

  mid-seen : mid.seen ≡ begins.before ++ Begin number name ∷ []
  mid-seen = ap (λ (k : Known). k.seen) begins.leaves

  mid-origin : mid.origin ≡ old.origin
  mid-origin = ap (λ (k : Known). k.origin) begins.leaves

  mid-parts : mid.parts ≡ all_parts
  mid-parts = ap (λ (k : Known). k.parts) begins.leaves ∙ all

  abbrev moves : Bool
  moves = moves_of old.origin

  calls-free : (origin : Origin) (after : List Entry) → origin ≡ mid.origin → after ≡ mid.seen → call_refusal origin.kept after ≡ None
  calls-free origin after from same =
      ap (λ (o : Origin). call_refusal o.kept after) (from ∙ mid-origin) ∙ call-free old.origin.kept begins.before after number name (same ∙ mid-seen) going begun-room.0

  -- the end of the split is refused for no cause, if no fresh log may replace the log
  ends-free : (origin : Origin) (after : List Entry) (cells : ℕ) → origin ≡ mid.origin → after ≡ mid.seen → IsCount origin after cells → moves ≡ false → end_refusal origin.kept cells after ≡ None
  ends-free origin after cells from same counted still =
      let is : after ≡ begins.before ++ Begin number name ∷ [] = same ∙ mid-seen in
      let few : begins.cells ≤ 16000000 = begun-room.1 in
      let first : begins.cells ≡ cells_at old.origin begins.before = begins.counted still in
      let next = cells-added old.origin begins.before (Begin number name) in
      let last : cells ≡ cells_at old.origin (begins.before ++ Begin number name ∷ []) = counted (ap moves_of (from ∙ mid-origin) ∙ still) ∙ (λ i. cells_at ((from ∙ mid-origin) i) (is i)) in
      end-free origin.kept after cells (calls-free origin after from same) (omega arith)

  -- and else because the log is full
  ends-causes : (origin : Origin) (after : List Entry) (cells : ℕ) → origin ≡ mid.origin → after ≡ mid.seen → IsCount origin after cells → AreCauses (IsNextFault moves) (end_refusal origin.kept cells after)
  ends-causes origin after cells from same counted = by_moves moves refl
    where
      by_moves : (m : Bool) → moves ≡ m → AreCauses (IsNextFault m) (end_refusal origin.kept cells after)
      by_moves true is =
          causes-first (IsNextFault true) (call_refusal origin.kept after) (cond (cells == most_cells) (Some book.LogFull) None)
          (subst (AreCauses (IsNextFault true)) (sym (calls-free origin after from same)) (causes-none (IsNextFault true))) (causes-if (IsNextFault true) (cells == most_cells) book.LogFull refl)
      by_moves false is = subst (AreCauses (IsNextFault false)) (sym (ends-free origin after cells from same counted is)) (causes-none (IsNextFault false))

  gives-next : (seen new : Known) (fault : BookFault) → seen.seen ≡ mid.seen → seen.origin ≡ mid.origin → seen.parts ≡ mid.parts → GivesUp w number seen new fault → IsNextFault moves fault
  gives-next seen new fault same origin parts (inl (memory, step)) = memory-next moves fault memory
  gives-next seen new fault same origin parts (inr ends) =
      let step = ends.step in
      refused-cause (Unit {0}) IsDisk (IsNextFault moves) (end_refusal seen.origin.kept step.cells step.before) fault
      (ends-causes seen.origin step.before step.cells origin (step.alone (parts ∙ mid-parts) ∙ same) step.counted) (disk-next moves fault) step.refused

  ran-next : (seen new : Known) (fault : BookFault) → RanOut w number mid seen → GivesUp w number seen new fault → IsNextFault moves fault
  ran-next seen new fault (inl same) gives = gives-next seen new fault (ap (λ (k : Known). k.seen) same) (ap (λ (k : Known). k.origin) same) (ap (λ (k : Known). k.parts) same) gives
  ran-next seen new fault (inr ends) gives =
      let step = ends.step in
      gives-next seen new fault (ap (λ (k : Known). k.seen) step.leaves ∙ step.alone mid-parts) (ap (λ (k : Known). k.origin) step.leaves) (ap (λ (k : Known). k.parts) step.leaves) gives

  not-next : (new : Known) (fault : BookFault) → NotInstalled w number mid new fault → IsNextFault moves fault
  not-next new fault (inl (lasting, ends)) =
      let step = ends.step in
      refused-cause (Unit {0}) IsMemoryOrDisk (IsNextFault moves) (end_refusal mid.origin.kept step.cells step.before) fault
      (ends-causes mid.origin step.before step.cells refl (step.alone mid-parts) step.counted) (free-next moves fault) step.refused
  not-next new fault (inr (seen, ran, gives)) = ran-next seen new fault ran gives

-- nothing but want of room or memory, or the drive, comes in the way
pub next-fault : (w : ℕ) (name : List Bool) (old new : Known) (split : Split) → old.parts ≡ all_parts → closed_refusal old.seen ≡ None → next_full w old ≡ Some name → SplitEnds w name old new split → SplitFault (IsNextFault (moves_of old.origin)) split
next-fault w name old new (Installed number) all unclosed full ends = tt
next-fault w name old new (NotSplit fault) all unclosed full (inl step) =
    let moves = moves_of old.origin in
    refused-cause ℕ IsMemoryOrDisk (IsNextFault moves) (begin_cause w old.origin name step.cells step.before) fault
    (subst (AreCauses (IsNextFault moves)) (sym (begin-room w old name step.cells step.before (step.alone all) unclosed full)) (room-next moves old.origin.kept step.cells (length step.before))) (free-next moves fault) step.refused
next-fault w name old new (NotSplit fault) all unclosed full (inr (number, mid, begins, not)) = not-next w old mid number name all unclosed full begins new fault not

-- no end of a split is refused for want of room
end-causes : (kept : Bool) (cells : ℕ) (before : List Entry) → AreCauses IsNoRoom (end_refusal kept cells before)
end-causes kept cells before =
    causes-first IsNoRoom (call_refusal kept before) (cond (cells == most_cells) (Some book.LogFull) None) (call-causes IsNoRoom kept before (λ n. tt) tt) (causes-if IsNoRoom (cells == most_cells) book.LogFull tt)

memory-room : (fault : BookFault) → fault ≡ book.Memory → IsNoRoom fault
memory-room fault is = subst IsNoRoom (sym is) tt

disk-room : (fault : BookFault) → IsDisk fault → IsNoRoom fault
disk-room (book.Disk cell) is = tt
disk-room (book.Closed cell) is = tt
disk-room book.HistoryFull is = tt
disk-room book.LogFull is = tt
disk-room book.Memory is = tt
disk-room (book.Room cells events) is = is
disk-room (book.Splitting number) is = tt
disk-room book.Deep is = tt
disk-room book.NoLeaf is = tt
disk-room (book.Stale number) is = tt
disk-room (book.NotOpen number) is = tt

free-room : (fault : BookFault) → IsMemoryOrDisk fault → IsNoRoom fault
free-room fault (inl memory) = memory-room fault memory
free-room fault (inr disk) = disk-room fault disk

not-room : (w number : ℕ) (mid new : Known) (fault : BookFault) → NotInstalled w number mid new fault → IsNoRoom fault
not-room w number mid new fault (inl (lasting, ends)) =
    let step = ends.step in
    refused-cause (Unit {0}) IsMemoryOrDisk IsNoRoom (end_refusal mid.origin.kept step.cells step.before) fault (end-causes mid.origin.kept step.cells step.before) (free-room fault) step.refused
not-room w number mid new fault (inr (seen, ran, inl (memory, step))) = memory-room fault memory
not-room w number mid new fault (inr (seen, ran, inr ends)) =
    let step = ends.step in
    refused-cause (Unit {0}) IsDisk IsNoRoom (end_refusal seen.origin.kept step.cells step.before) fault (end-causes seen.origin.kept step.cells step.before) (disk-room fault) step.refused

-- want of room is that of the begin
pub room-begin : (w : ℕ) (name : List Bool) (old new : Known) (cells events : ℕ) → SplitEnds w name old new (NotSplit (book.Room cells events)) → BeginsSplit w name old new (Err (book.Room cells events))
room-begin w name old new cells events (inl step) = step
room-begin w name old new cells events (inr (number, mid, begins, not)) = absurd (not-room w number mid new (book.Room cells events) not)

-- what may fail otherwise
pub next-settles : (moves : Bool) (fault : BookFault) → IsNoRoom fault → IsNextFault moves fault → IsSettleFault moves fault
next-settles moves (book.Disk cell) room next = next
next-settles moves (book.Closed cell) room next = next
next-settles moves book.HistoryFull room next = next
next-settles moves book.LogFull room next = next
next-settles moves book.Memory room next = next
next-settles moves (book.Room cells events) room next = room
next-settles moves (book.Splitting number) room next = next
next-settles moves book.Deep room next = next
next-settles moves book.NoLeaf room next = next
next-settles moves (book.Stale number) room next = next
next-settles moves (book.NotOpen number) room next = next

-- one split more
pub splits-more : (w : ℕ) (old mid new : Known) (numbers : List ℕ) (number : ℕ) (name : List Bool) → SplitsAll w old numbers mid → next_full w mid ≡ Some name → SplitEnds w name mid new (Installed number) → SplitsAll w old (numbers ++ number ∷ []) new
splits-more w old mid new [] number name all full ends =
    (name, new, subst (λ (k : Known). next_full w k ≡ Some name) all full, subst (λ (k : Known). SplitEnds w name k new (Installed number)) all ends, refl)
splits-more w old mid new (n ∷ numbers) number name (first, next, is, one, rest) full ends = (first, next, is, one, splits-more w next mid new numbers number name rest full ends)
