-- What a call of a store that has all parts answers, and which objects it leaves.
use Rattle.std.proofs.Common.{◌≡◌, ◌∙◌, inl, inr, ℕ, ◌+◌, Bool, List, [], ◌∷◌, length, Option, Some, None, Result, Ok, Err, refl, ap}
use Rattle.plain_list.specs.declared.ops.Op.{Op}
use Rattle.plain_list.specs.declared.entries.Entry.{Entry}
use Rattle.plain_list.specs.declared.entries.Entry.TheVariants.{Call, Begin, Install, Abandon, Fail}
use Rattle.plain_list.specs.declared.entries.Lost.{Lost}
use Rattle.plain_list.specs.declared.entries.Lost.TheVariants as lost
use Rattle.plain_list.specs.Answer.{answer_of}
use Rattle.plain_list.specs.History.{world_after, world_step}
use Rattle.plain_list.specs.Batch.{answers_to, batch_calls, batch_fails}
use Rattle.plain_list.proofs.Batches.{batch_calls-world, batch_fails-are, fails-world}
use Rattle.plain_list.proofs.Histories.{world_after-append}
use Rattle.commit_book.specs.declared.book.Done.{Done}
use Rattle.commit_book.specs.declared.book.batches.BatchDone.{BatchDone}
use Rattle.commit_book.specs.declared.faults.BookFault.{BookFault}
use Rattle.commit_book.specs.declared.faults.BookFault.TheVariants as book
use Rattle.commit_book.specs.Answers.{IsQuery}
use Rattle.commit_book.proofs.BookSteps.{query_keeps}
use Rattle.book_lock.specs.Pass.{Known}
use Rattle.sessions.specs.declared.faults.CallFault.{CallFault}
use Rattle.sessions.specs.declared.faults.CallFault.TheVariants as call
use Rattle.sessions.specs.declared.faults.Split.{Split}
use Rattle.sessions.specs.declared.faults.Split.TheVariants.{Installed, NotSplit}
use Rattle.sessions.specs.Batches.{Applied, has_added_all}
use Rattle.sessions.specs.Calls.{Called, IsAnswered, call_fault}
use Rattle.sessions.specs.Lanes.{Tries}
use Rattle.sessions.specs.Runs.{HasLooked}
use Rattle.sessions.specs.Splits.{BeginsSplit, InstallsSplit, AbandonsSplit, RanOut, GivesUp, NotInstalled, SplitEnds, state_of}
use Rattle.sessions.specs.Steps.{all_parts, has_added, has_seen, Leaves}
use Rattle.sessions.specs.Syncs.{SyncsPass}
use Rattle.commit_book.specs.Syncs.{lost_sync}
use Rattle.commit_book.specs.Moves.{lost_stop}
use Rattle.disk_trait.specs.Drive.{Drive}
use Rattle.store_file.specs.declared.moving.Rotation.{Rotation}
use Rattle.store_file.specs.declared.moving.Rotation.TheVariants as turned
use Rattle.store_file.specs.declared.moving.NotRotatedOver.{NotRotatedOver}
use Rattle.store_file.specs.declared.moving.NotRotatedOver.TheVariants as over
use Rattle.store_file.specs.Moving.{RotatesAbove}
use Rattle.store_client.specs.Asked.{Asked, Follows}
use Rattle.store_client.specs.Batches.{Applies, FollowsAll, TriesEach, first_row}
use Rattle.store_client.specs.Caller.{Caller, world_seen}
use Rattle.store_client.specs.Tending.{OrStops, StopsFor}
use Rattle.store_client.specs.declared.batches.Replies.{Replies}
use Rattle.store_client.specs.declared.client.Reply.{Reply}
use Rattle.pisrakun.specs.Now.{DoesAllNow, DoesNow}

-- the pass has as many parts, and sees the same objects
pub record SeesSame (old new : Known) : Type 0 where
  pub parts : new.parts ≡ old.parts
  pub world : world_seen new ≡ world_seen old

same-later : (a b c : Known) → SeesSame a b → SeesSame b c → SeesSame a c
same-later a b c one two = record { parts = two.parts ∙ one.parts; world = two.world ∙ one.world }

same-as : (old new : Known) → new ≡ old → SeesSame old new
same-as old new is = record { parts = ap (λ (k : Known). k.parts) is; world = ap world_seen is }

-- one entry more, after all that the pass has seen
world-added : (old new : Known) (before : List Entry) (e : Entry) → before ≡ old.seen → new ≡ has_added old before e → world_seen new ≡ world_step (world_seen old) e
world-added old new before e here is =
    ap world_seen is ∙ world_after-append old.origin.world before (e ∷ []) ∙ ap (λ (h : List Entry). world_step (world_after old.origin.world h) e) here

added : (old new : Known) (before : List Entry) (e : Entry) → before ≡ old.seen → world_step (world_seen old) e ≡ world_seen old → new ≡ has_added old before e → SeesSame old new
added old new before e here quiet is = record { parts = ap (λ (k : Known). k.parts) is; world = world-added old new before e here is ∙ quiet }

seen : (old new : Known) (before : List Entry) → before ≡ old.seen → new ≡ has_seen old before → SeesSame old new
seen old new before here is = record { parts = ap (λ (k : Known). k.parts) is; world = ap world_seen is ∙ ap (λ (h : List Entry). world_after old.origin.world h) here }

-- a step whose entry changes no object
leaves-same : {A : Type 0} (entry : A → Entry) (lose : List Entry → Lost) (old : Known) (before : List Entry) (new : Known) (result : Result A BookFault) → ((value : A) → world_step (world_seen old) (entry value) ≡ world_seen old) → before ≡ old.seen
    → Leaves entry lose old before new result → SeesSame old new
leaves-same entry lose old before new (Ok value) quiet here is = added old new before (entry value) here (quiet value) is
leaves-same entry lose old before new (Err (book.Disk cell)) quiet here is = added old new before (Fail cell (lose before)) here refl is
leaves-same entry lose old before new (Err (book.Closed cell)) quiet here is = seen old new before here is
leaves-same entry lose old before new (Err book.HistoryFull) quiet here is = seen old new before here is
leaves-same entry lose old before new (Err book.LogFull) quiet here is = seen old new before here is
leaves-same entry lose old before new (Err book.Memory) quiet here is = seen old new before here is
leaves-same entry lose old before new (Err (book.Room cells events)) quiet here is = seen old new before here is
leaves-same entry lose old before new (Err (book.Splitting number)) quiet here is = seen old new before here is
leaves-same entry lose old before new (Err book.Deep) quiet here is = seen old new before here is
leaves-same entry lose old before new (Err book.NoLeaf) quiet here is = seen old new before here is
leaves-same entry lose old before new (Err (book.Stale number)) quiet here is = seen old new before here is
leaves-same entry lose old before new (Err (book.NotOpen number)) quiet here is = seen old new before here is

begins-same : (w : ℕ) (name : List Bool) (old new : Known) (r : Result ℕ BookFault) → old.parts ≡ all_parts → BeginsSplit w name old new r → SeesSame old new
begins-same w name old new r all step =
    leaves-same (λ (number : ℕ). Begin number name) (λ (before : List Entry). lost.Begin ((state_of w old.origin before).begun + 1) name) old step.before new r (λ number. refl) (step.alone all) step.leaves

installs-same : (w number : ℕ) (old new : Known) (r : Result (Unit {0}) BookFault) → old.parts ≡ all_parts → InstallsSplit w number old new r → SeesSame old new
installs-same w number old new r all ends =
    leaves-same (λ (done : Unit {0}). Install number) (λ (before : List Entry). lost.Install number) old ends.step.before new r (λ done. refl) (ends.step.alone all) ends.step.leaves

abandons-same : (w number : ℕ) (old new : Known) (r : Result (Unit {0}) BookFault) → old.parts ≡ all_parts → AbandonsSplit w number old new r → SeesSame old new
abandons-same w number old new r all ends =
    leaves-same (λ (done : Unit {0}). Abandon number) (λ (before : List Entry). lost.Abandon number) old ends.step.before new r (λ done. refl) (ends.step.alone all) ends.step.leaves

gives-same : (w number : ℕ) (old new : Known) (fault : BookFault) → old.parts ≡ all_parts → GivesUp w number old new fault → SeesSame old new
gives-same w number old new fault all (inl (memory, step)) = abandons-same w number old new (Ok tt) all step
gives-same w number old new fault all (inr step) = abandons-same w number old new (Err fault) all step

ran-same : (w number : ℕ) (mid now : Known) → mid.parts ≡ all_parts → RanOut w number mid now → SeesSame mid now
ran-same w number mid now all (inl same) = same-as mid now same
ran-same w number mid now all (inr step) = installs-same w number mid now (Err book.Memory) all step

not-same : (w number : ℕ) (mid new : Known) (fault : BookFault) → mid.parts ≡ all_parts → NotInstalled w number mid new fault → SeesSame mid new
not-same w number mid new fault all (inl (lasting, step)) = installs-same w number mid new (Err fault) all step
not-same w number mid new fault all (inr (now, ran, gives)) =
    let one = ran-same w number mid now all ran in same-later mid now new one (gives-same w number now new fault (one.parts ∙ all) gives)

split-same : (w : ℕ) (name : List Bool) (old new : Known) (split : Split) → old.parts ≡ all_parts → SplitEnds w name old new split → SeesSame old new
split-same w name old new (Installed number) all (mid, begins, step) =
    let one = begins-same w name old mid (Ok number) all begins in same-later old mid new one (installs-same w number mid new (Ok tt) (one.parts ∙ all) step)
split-same w name old new (NotSplit fault) all (inl step) = begins-same w name old new (Err fault) all step
split-same w name old new (NotSplit fault) all (inr (number, mid, begins, not)) =
    let one = begins-same w name old mid (Ok number) all begins in same-later old mid new one (not-same w number mid new fault (one.parts ∙ all) not)

tries-same : (w : ℕ) (full : Option (List Bool)) (mid new : Known) (split : Option Split) → mid.parts ≡ all_parts → Tries w full mid new split → SeesSame mid new
tries-same w None mid new split all (none, is) = same-as mid new is
tries-same w (Some name) mid new split all (s, is, ends) = split-same w name mid new s all ends

-- no cause of the book is told as want of memory after the call's place
no-cause : {place : ℕ} (cause : BookFault) → call.Memory (Some place) ≡ call_fault cause → ⊥
no-cause (book.Closed cell) is = cc is
no-cause (book.Disk cell) is = cc is
no-cause book.HistoryFull is = cc is
no-cause book.LogFull is = cc is
no-cause book.Memory is = cc is
no-cause (book.Room cells events) is = cc is
no-cause (book.Splitting number) is = cc is
no-cause book.Deep is = cc is
no-cause book.NoLeaf is = cc is
no-cause (book.Stale number) is = cc is
no-cause (book.NotOpen number) is = cc is

is-query : (op : Op) (cause : Option BookFault) (place : ℕ) → IsAnswered op cause (Err (call.Memory (Some place))) → IsQuery op
is-query op None place is = is
is-query op (Some cause) place is = absurd (no-cause {place = place} cause (cc is))

refused-same : (w session row : ℕ) (op : Op) (old new : Known) (fault : CallFault) → old.parts ≡ all_parts → (called : Called w session row op old new (Err fault)) → SeesSame old new
refused-same w session row op old new (call.Closed cell) all called = seen old new called.before (called.alone all) called.leaves
refused-same w session row op old new (call.Disk cell) all called = added old new called.before (Fail cell (lost.Call session row op)) (called.alone all) refl called.leaves.0
refused-same w session row op old new call.HistoryFull all called = seen old new called.before (called.alone all) called.leaves
refused-same w session row op old new call.LogFull all called = seen old new called.before (called.alone all) called.leaves
refused-same w session row op old new (call.Memory None) all called = seen old new called.before (called.alone all) called.leaves
refused-same w session row op old new (call.Memory (Some place)) all called =
    added old new called.before (Call session row op) (called.alone all) (query_keeps op (world_seen old) (is-query op _ place called.answered)) called.leaves.0

-- a store that was stopped before a call sees the same objects
stops-same : (old new : Known) (fault : CallFault) → old.parts ≡ all_parts → StopsFor old new fault → SeesSame old new
stops-same old new fault all (cell, is, stops) = added old new stops.before (Fail stops.number stops.lost) (stops.alone all) refl stops.added

module _ (w : ℕ) (op : Op) (old new : Caller) (all : old.pass.parts ≡ all_parts) where
  by-told : (mid : Known) (told : Result Done CallFault) (result : Result Reply CallFault) → OrStops (Called w old.session old.row op old.pass mid) old.pass mid told → Follows w mid new.pass told result → DoesNow (λ (reply : Reply). reply.answer) op old new result
  by-told mid (Ok done) (Ok reply) called follows =
      let here = called.alone all in
      let parts : mid.parts ≡ all_parts = ap (λ (k : Known). k.parts) called.leaves.0 ∙ all in (
        follows.1 ∙ called.leaves.1.replies.answer_is ∙ ap (λ (h : List Entry). answer_of (world_after old.pass.origin.world h) op) here,
        (tries-same w done.full mid new.pass reply.split parts follows.2).world ∙ world-added old.pass mid called.before (Call old.session old.row op) here called.leaves.0,
      )
  by-told mid (Err fault) (Err told) (inl called) follows =
      ap world_seen follows.1 ∙ (refused-same w old.session old.row op old.pass mid fault all called).world
  by-told mid (Err fault) (Err told) (inr stops) follows =
      ap world_seen follows.1 ∙ (stops-same old.pass mid fault all stops).world
  by-told mid (Ok done) (Err told) called follows = absurd follows
  by-told mid (Err fault) (Ok reply) called follows = absurd follows

  pub does-now : (result : Result Reply CallFault) → Asked w op old new result → DoesNow (λ (reply : Reply). reply.answer) op old new result
  does-now result asked = by-told asked.mid asked.told result asked.called asked.follows

-- the pass has looked, and nobody else calls
looked-same : (old new : Known) → old.parts ≡ all_parts → HasLooked old new → SeesSame old new
looked-same old new all looked = seen old new new.seen (looked.alone all) looked.pass_is

each-same : (w : ℕ) (old new : Known) (names : List (List Bool)) → old.parts ≡ all_parts → TriesEach w old names new → SeesSame old new
each-same w old new [] all looked = looked-same old new all looked
each-same w old new (name ∷ names) all (mid, end, split, looked, full, ends, tries) =
    let one = looked-same old mid all looked in
    let two = split-same w name mid end split (one.parts ∙ all) ends in
    same-later old mid new one (same-later mid end new two (each-same w end new names (two.parts ∙ one.parts ∙ all) tries))

-- entries more, after all that the pass has seen
all-added : (old new : Known) (before es : List Entry) → before ≡ old.seen → new ≡ has_added_all old before es → world_seen new ≡ world_after (world_seen old) es
all-added old new before es here is =
    ap world_seen is ∙ world_after-append old.origin.world before es ∙ ap (λ (h : List Entry). world_after (world_after old.origin.world h) es) here

batch-refused-same : (w session row : ℕ) (ops : List Op) (old new : Known) (fault : CallFault) → old.parts ≡ all_parts → Applied w session row ops old new (Err fault) → world_seen new ≡ world_seen old
batch-refused-same w session row ops old new (call.Closed cell) all applied = (seen old new applied.before (applied.alone all) applied.leaves).world
batch-refused-same w session row ops old new (call.Disk cell) all applied =
    let world = world_after old.origin.world applied.before in
    all-added old new applied.before (batch_fails cell world session row ops) (applied.alone all) applied.leaves.added
    ∙ fails-world (world_seen old) (batch_fails cell world session row ops) (batch_fails-are cell world session row ops)
batch-refused-same w session row ops old new call.HistoryFull all applied = (seen old new applied.before (applied.alone all) applied.leaves).world
batch-refused-same w session row ops old new call.LogFull all applied = (seen old new applied.before (applied.alone all) applied.leaves).world
batch-refused-same w session row ops old new (call.Memory place) all applied = (seen old new applied.before (applied.alone all) applied.leaves).world

module _ (w : ℕ) (ops : List Op) (old new : Caller) (all : old.pass.parts ≡ all_parts) where
  batch-by-told : (mid : Known) (row : ℕ) (told : Result BatchDone CallFault) (result : Result Replies CallFault) → OrStops (Applied w old.session row ops old.pass mid) old.pass mid told → FollowsAll w (length ops) mid new.pass told result → DoesAllNow ops old new result
  batch-by-told mid row (Ok done) (Ok replies) applied (place, answers, next, tries, some) =
      let here = applied.alone all in
      let parts : mid.parts ≡ all_parts = ap (λ (k : Known). k.parts) applied.leaves.0 ∙ all in
      let one = tries-same w done.full mid next replies.split parts tries in
      let two = each-same w next new.pass some.names (one.parts ∙ parts) some.tries in (
        answers ∙ applied.leaves.1.answers_are ∙ ap (λ (h : List Entry). answers_to (world_after old.pass.origin.world h) ops) here,
        two.world ∙ one.world ∙ all-added old.pass mid applied.before (batch_calls old.session row ops) here applied.leaves.0 ∙ batch_calls-world (world_seen old.pass) old.session row ops,
      )
  batch-by-told mid row (Err fault) (Err told) (inl applied) follows =
      ap world_seen follows.1 ∙ batch-refused-same w old.session row ops old.pass mid fault all applied
  batch-by-told mid row (Err fault) (Err told) (inr stops) follows =
      ap world_seen follows.1 ∙ (stops-same old.pass mid fault all stops).world
  batch-by-told mid row (Ok done) (Err told) applied follows = absurd follows
  batch-by-told mid row (Err fault) (Ok replies) applied follows = absurd follows

  pub does-all-now : (result : Result Replies CallFault) → Applies w ops old new result → DoesAllNow ops old new result
  does-all-now result applies = batch-by-told applies.mid (first_row old.row (length ops)) applies.told result applies.applied applies.follows

-- A sync sees the same objects.
pub syncs-same : (old new : Known) (r : Result ℕ BookFault) → old.parts ≡ all_parts → SyncsPass old new r → SeesSame old new
syncs-same old new (Ok place) all is = seen old new is.before (is.alone all) is.leaves.0
syncs-same old new (Err (book.Disk cell)) all is = added old new is.before (Fail cell lost_sync) (is.alone all) refl is.leaves
syncs-same old new (Err (book.Closed cell)) all is = seen old new is.before (is.alone all) is.leaves
syncs-same old new (Err book.HistoryFull) all is = seen old new is.before (is.alone all) is.leaves
syncs-same old new (Err book.LogFull) all is = seen old new is.before (is.alone all) is.leaves
syncs-same old new (Err book.Memory) all is = seen old new is.before (is.alone all) is.leaves
syncs-same old new (Err (book.Room cells events)) all is = seen old new is.before (is.alone all) is.leaves
syncs-same old new (Err (book.Splitting number)) all is = seen old new is.before (is.alone all) is.leaves
syncs-same old new (Err book.Deep) all is = seen old new is.before (is.alone all) is.leaves
syncs-same old new (Err book.NoLeaf) all is = seen old new is.before (is.alone all) is.leaves
syncs-same old new (Err (book.Stale number)) all is = seen old new is.before (is.alone all) is.leaves
syncs-same old new (Err (book.NotOpen number)) all is = seen old new is.before (is.alone all) is.leaves

-- A store that continues over its second file, or doesn't, has the same objects.
pub rotates-same : {D : Type 0} (drive : D → Drive) (w records : ℕ) (old new : Known) (r : Result Rotation NotRotatedOver) → old.parts ≡ all_parts → RotatesAbove drive w records old new r → SeesSame old new
rotates-same drive w records old new (Ok turned.Enough) all is = looked-same old new all is.looked
rotates-same drive w records old new (Ok turned.NoSpare) all is = looked-same old new all is.looked
rotates-same drive w records old new (Ok turned.Done) all is = looked-same old new all is.looked
rotates-same drive w records old new (Err (over.Stays cause)) all is = looked-same old new all is.looked
rotates-same drive w records old new (Err over.Unsynced) all is = syncs-same old new (Err (book.Disk is.cell)) all is.syncs
rotates-same drive w records old new (Err over.SpareFailed) all is = added old new is.before.entries (Fail is.cell lost_stop) (is.alone all) refl is.added
rotates-same drive w records old new (Err over.FirstFailed) all is = added old new is.before.entries (Fail is.cell lost_stop) (is.alone all) refl is.added
