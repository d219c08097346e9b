-- The objects behind a lock are a world.
use Rattle.std.proofs.Common.{◌≡◌, ℕ, ◌+◌, Bool, true, false, cond, List, [], ◌∷◌, ◌++◌, Option, Some, None, refl, sym, subst, ap, ◌∙◌}
use Rattle.std.specs.Prelude.{⊤, Ok, Err, Result}
use Rattle.plain_list.specs.declared.ops.Op.{Op}
use Rattle.plain_list.specs.declared.entries.Entry.{Entry}
use Rattle.plain_list.specs.declared.entries.Entry.TheVariants.{Call, Begin, Install, Abandon, Fail}
use Rattle.plain_list.specs.declared.entries.Lost.{Lost}
use Rattle.plain_list.specs.World.{World, places_of, IsWorld}
use Rattle.std.specs.List.{AllByRecursion}
use Rattle.plain_list.specs.Answer.{FitsOp, answer_of, after_of, is_change}
use Rattle.plain_list.specs.Batch.{batch_calls, batch_fails}
use Rattle.plain_list.specs.History.{world_after, world_step}
use Rattle.plain_list.proofs.Histories.{world_after-append}
use Rattle.plain_list.proofs.Worlds.{IsWorld-after_of}
use Rattle.disk_trait.specs.Drive.{Drive}
use Rattle.commit_book.specs.Batches.{RepliesAll, LeavesRefusedAll}
use Rattle.commit_book.specs.declared.book.batches.BatchDone.{BatchDone}
use Rattle.commit_book.specs.BookView.{BookView}
use Rattle.commit_book.specs.Refusals.{LeavesRefused}
use Rattle.commit_book.specs.declared.faults.BookFault.{BookFault}
use Rattle.commit_book.specs.declared.faults.BookFault.TheVariants as book
use Rattle.std.specs.Prelude.{IfOk, IfErr, OnOk}
use Rattle.index_layer.specs.Leaves.{Leaf}
use Rattle.split_prepare.specs.declared.ticket.SplitTicket.{SplitTicket}
use Rattle.commit_book.specs.SplitSteps.{Begins, Installs, Abandons}
use Rattle.commit_book.specs.Syncs.{Syncs, lost_sync}
use Rattle.plain_list.specs.declared.entries.Lost.TheVariants as lost
use Rattle.index_layer.specs.Stands.{Stands}
use Rattle.commit_book.specs.Answers.{Notes, Replies, IsQuery}
use Rattle.commit_book.proofs.BookSteps.{query_keeps}
use Rattle.commit_book.specs.declared.book.Done.{Done}
use Rattle.commit_book.specs.declared.book.Snapshot.{Snapshot}
use Rattle.kept_log.specs.KeptView.{KeptView}
use Rattle.kept_log.specs.Journal.{IsSinceIn, IsMovedFromIn, moves_in, written_in}
use Rattle.split_log.specs.LogView.{LogView}
use Rattle.recovery.specs.declared.seen.Seen.{Seen}
use Rattle.commit_book.specs.IsBook.{SameOrigin, SameMoved}
use Rattle.commit_book.specs.Moves.{StopsBook, lost_stop, with_fresh_log}
use Rattle.sessions.specs.Shared.{HasWorld, StartsAs, IsShared}

-- an entry whose operation fits
abbrev pub EntryFits : Entry → Type 0
EntryFits (Call session row op) = FitsOp op
EntryFits (Begin number name) = ⊤
EntryFits (Install number) = ⊤
EntryFits (Abandon number) = ⊤
EntryFits (Fail cell lost) = ⊤

IsWorld-step : (world : World) (e : Entry) → EntryFits e → IsWorld world → IsWorld (world_step world e)
IsWorld-step world (Call session row op) fits is = IsWorld-after_of world op fits is
IsWorld-step world (Begin number name) fits is = is
IsWorld-step world (Install number) fits is = is
IsWorld-step world (Abandon number) fits is = is
IsWorld-step world (Fail cell lost) fits is = is

-- a book with one entry more
pub world_more : {D : Type 0} (old new : BookView D) (e : Entry) → EntryFits e → new.opening ≡ old.opening → new.entries ≡ old.entries ++ e ∷ [] → HasWorld old → HasWorld new
world_more old new e fits opening entries has =
    let after : world_after new.opening.world new.entries ≡ world_step (world_after old.opening.world old.entries) e =
    (λ i. world_after (opening i).world (entries i)) ∙ world_after-append old.opening.world old.entries (e ∷ []) in
    record { world = subst IsWorld (sym after) (IsWorld-step (world_after old.opening.world old.entries) e fits has.world) }

-- several entries, and a book with them
IsWorld-steps : (world : World) (es : List Entry) → AllByRecursion EntryFits es → IsWorld world → IsWorld (world_after world es)
IsWorld-steps world [] fits is = is
IsWorld-steps world (e ∷ es) fits is = IsWorld-steps (world_step world e) es fits.1 (IsWorld-step world e fits.0 is)

world_more_all : {D : Type 0} (old new : BookView D) (es : List Entry) → AllByRecursion EntryFits es → new.opening ≡ old.opening → new.entries ≡ old.entries ++ es → HasWorld old → HasWorld new
world_more_all old new es fits opening entries has =
    let after : world_after new.opening.world new.entries ≡ world_after (world_after old.opening.world old.entries) es =
    (λ i. world_after (opening i).world (entries i)) ∙ world_after-append old.opening.world old.entries es in
    record { world = subst IsWorld (sym after) (IsWorld-steps (world_after old.opening.world old.entries) es fits has.world) }

calls-fit : (session row : ℕ) (ops : List Op) → AllByRecursion FitsOp ops → AllByRecursion EntryFits (batch_calls session row ops)
calls-fit session row [] fit = tt
calls-fit session row (op ∷ ops) fit = (fit.0, calls-fit session (row + 1) ops fit.1)

fails-fit : (cell : ℕ) (world : World) (session row : ℕ) (ops : List Op) → AllByRecursion EntryFits (batch_fails cell world session row ops)
fails-fit cell world session row [] = tt
fails-fit cell world session row (op ∷ ops) = go (is_change (answer_of world op)) (fails-fit cell (after_of world op) session (row + 1) ops)
  where
    go : (b : Bool) → AllByRecursion EntryFits (batch_fails cell (after_of world op) session (row + 1) ops)
        → AllByRecursion EntryFits (cond b (Fail cell (lost.Call session row op) ∷ []) [] ++ batch_fails cell (after_of world op) session (row + 1) ops)
    go true rest = (tt, rest)
    go false rest = rest

-- a book that a refused call leaves
pub world_refused : {D : Type 0} (drive : D → Drive) (lost : Lost) (old new : BookView D) (fault : BookFault) → new.opening ≡ old.opening → HasWorld old → LeavesRefused drive lost old new fault → HasWorld new
world_refused drive lost old new (book.Disk cell) opening has left = world_more old new (Fail cell lost) tt opening left.entries has
world_refused drive lost old new (book.Closed cell) opening has left = subst HasWorld (sym left) has
world_refused drive lost old new book.HistoryFull opening has left = subst HasWorld (sym left) has
world_refused drive lost old new book.LogFull opening has left = subst HasWorld (sym left) has
world_refused drive lost old new book.Memory opening has left = subst HasWorld (sym left) has
world_refused drive lost old new (book.Room cells events) opening has left = subst HasWorld (sym left) has
world_refused drive lost old new (book.Splitting number) opening has left = subst HasWorld (sym left) has
world_refused drive lost old new book.Deep opening has left = subst HasWorld (sym left) has
world_refused drive lost old new book.NoLeaf opening has left = subst HasWorld (sym left) has
world_refused drive lost old new (book.Stale number) opening has left = subst HasWorld (sym left) has
world_refused drive lost old new (book.NotOpen number) opening has left = subst HasWorld (sym left) has

pub update_world : {D : Type 0} (w : ℕ) (drive : D → Drive) (old new : BookView D) (session row : ℕ) (op : Op) (r : Result Done BookFault) → IfOk r (λ d. Replies w old new session row op d.place d.answer d.full)
    → IfErr r (LeavesRefused drive (lost.Call session row op) old new) → new.opening ≡ old.opening → FitsOp op → HasWorld old → HasWorld new
update_world w drive old new session row op (Ok d) ok err opening fits has = world_more old new (Call session row op) fits opening ok.notes.entries has
update_world w drive old new session row op (Err fault) ok err opening fits has = world_refused drive (lost.Call session row op) old new fault opening has err

pub batch_world : {D : Type 0} (w : ℕ) (drive : D → Drive) (old new : BookView D) (session row : ℕ) (ops : List Op) (r : Result BatchDone BookFault) → IfOk r (λ d. RepliesAll w old new session row ops d.place d.answers.items d.full)
    → IfErr r (LeavesRefusedAll drive session row ops old new) → new.opening ≡ old.opening → AllByRecursion FitsOp ops → HasWorld old → HasWorld new
batch_world w drive old new session row ops (Ok d) ok err opening fit has = world_more_all old new (batch_calls session row ops) (calls-fit session row ops fit) opening ok.entries has
batch_world w drive old new session row ops (Err (book.Disk cell)) ok err opening fit has =
    let list = world_after old.opening.world old.entries in world_more_all old new (batch_fails cell list session row ops) (fails-fit cell list session row ops) opening err.entries has
batch_world w drive old new session row ops (Err (book.Closed cell)) ok err opening fit has = subst HasWorld (sym err) has
batch_world w drive old new session row ops (Err book.HistoryFull) ok err opening fit has = subst HasWorld (sym err) has
batch_world w drive old new session row ops (Err book.LogFull) ok err opening fit has = subst HasWorld (sym err) has
batch_world w drive old new session row ops (Err book.Memory) ok err opening fit has = subst HasWorld (sym err) has
batch_world w drive old new session row ops (Err (book.Room cells events)) ok err opening fit has = subst HasWorld (sym err) has
batch_world w drive old new session row ops (Err (book.Splitting number)) ok err opening fit has = subst HasWorld (sym err) has
batch_world w drive old new session row ops (Err book.Deep) ok err opening fit has = subst HasWorld (sym err) has
batch_world w drive old new session row ops (Err book.NoLeaf) ok err opening fit has = subst HasWorld (sym err) has
batch_world w drive old new session row ops (Err (book.Stale number)) ok err opening fit has = subst HasWorld (sym err) has
batch_world w drive old new session row ops (Err (book.NotOpen number)) ok err opening fit has = subst HasWorld (sym err) has

pub snapshot_world : {I D P : Type 0} (old new : BookView D) (session row : ℕ) (op : Op) (r : Result (Snapshot I P) BookFault) → IfOk r (λ s. Notes old new session row op s.place)
    → IfErr r (λ _. new ≡ old) → new.opening ≡ old.opening → FitsOp op → HasWorld old → HasWorld new
snapshot_world old new session row op (Ok s) ok err opening fits has = world_more old new (Call session row op) fits opening ok.entries has
snapshot_world old new session row op (Err fault) ok err opening fits has = subst HasWorld (sym err) has

pub note_world : {D : Type 0} (old new : BookView D) (session row : ℕ) (op : Op) (r : Result ℕ BookFault) → IfOk r (λ place. Notes old new session row op place)
    → IfErr r (λ _. new ≡ old) → new.opening ≡ old.opening → FitsOp op → HasWorld old → HasWorld new
note_world old new session row op (Ok place) ok err opening fits has = world_more old new (Call session row op) fits opening ok.entries has
note_world old new session row op (Err fault) ok err opening fits has = subst HasWorld (sym err) has

pub begin_world : {D : Type 0} (w n : ℕ) (drive : D → Drive) (old new : BookView D) (name : List Bool) (r : Result SplitTicket BookFault) → IfOk r (λ t. Begins w old new name t)
    → IfErr r (LeavesRefused drive (lost.Begin n name) old new) → new.opening ≡ old.opening → HasWorld old → HasWorld new
begin_world w n drive old new name (Ok t) ok err opening has = world_more old new (Begin t.number name) tt opening ok.entries has
begin_world w n drive old new name (Err fault) ok err opening has = world_refused drive (lost.Begin n name) old new fault opening has err

pub install_world : {D A : Type 0} (w n : ℕ) (drive : D → Drive) (old new : BookView D) (name : List Bool) (r : Result A BookFault) → OnOk r (Installs w old new n name)
    → IfErr r (LeavesRefused drive (lost.Install n) old new) → new.opening ≡ old.opening → HasWorld old → HasWorld new
install_world w n drive old new name (Ok t) ok err opening has = world_more old new (Install n) tt opening ok.entries has
install_world w n drive old new name (Err fault) ok err opening has = world_refused drive (lost.Install n) old new fault opening has err

pub abandon_world : {D A : Type 0} (n : ℕ) (drive : D → Drive) (old new : BookView D) (r : Result A BookFault) → OnOk r (Abandons old new n)
    → IfErr r (LeavesRefused drive (lost.Abandon n) old new) → new.opening ≡ old.opening → HasWorld old → HasWorld new
abandon_world n drive old new (Ok t) ok err opening has = world_more old new (Abandon n) tt opening ok.entries has
abandon_world n drive old new (Err fault) ok err opening has = world_refused drive (lost.Abandon n) old new fault opening has err

-- and a sync
pub sync_world : {D : Type 0} (drive : D → Drive) (old new : BookView D) (r : Result ℕ BookFault) → IfOk r (Syncs old new) → IfErr r (LeavesRefused drive lost_sync old new) → new.opening ≡ old.opening → HasWorld old → HasWorld new
sync_world drive old new (Ok place) ok err opening has = record { world = subst IsWorld (λ i. world_after (sym opening i).world (sym ok.entries i)) has.world }
sync_world drive old new (Err fault) ok err opening has = world_refused drive lost_sync old new fault opening has err

-- a query leaves the world
pub snapshot_stands : {I D P : Type 0} (leaves : I → List Leaf) (names : List (List Bool)) (old new : BookView D) (session row : ℕ) (op : Op) (r : Result (Snapshot I P) BookFault) → IsQuery op → new.opening ≡ old.opening
    → IfOk r (λ s. Notes old new session row op s.place) → IfOk r (λ s. Stands (leaves s.index) (places_of (world_after new.opening.world new.entries)) names) → IfOk r (λ s. Stands (leaves s.index) (places_of (world_after old.opening.world old.entries)) names)
snapshot_stands leaves names old new session row op (Ok s) query opening ok index =
    let world : world_after new.opening.world new.entries ≡ world_after old.opening.world old.entries =
    (λ i. world_after (opening i).world (ok.entries i)) ∙ world_after-append old.opening.world old.entries (Call session row op ∷ []) ∙ query_keeps op (world_after old.opening.world old.entries) query in
    subst (λ (w : World). Stands (leaves s.index) (places_of w) names) world index
snapshot_stands leaves names old new session row op (Err fault) query opening ok index = tt

-- no call changes over which drive the log was opened
starts_still : {D : Type 0} (drive : D → Drive) (unlogged : Type 0) (Is : Drive → Bool → Bool → Type 0) (old new : Option (KeptView D)) → IsSinceIn old new → StartsAs drive unlogged Is old → StartsAs drive unlogged Is new
starts_still drive unlogged Is None None since starts = starts
starts_still drive unlogged Is (Some old) (Some new) since starts =
    let from = subst (λ (d : _). Is (drive d) old.at_sync old.moves) (sym since.start) starts in
    let waits = subst (λ (waits : Bool). Is (drive new.start) waits old.moves) (sym since.at_sync) from in
    subst (λ (moves : Bool). Is (drive new.start) new.at_sync moves) (sym since.moves) waits
starts_still drive unlogged Is None (Some new) since starts = absurd since
starts_still drive unlogged Is (Some old) None since starts = absurd since

-- nor does a fresh log change it
starts_moved : {D : Type 0} (drive : D → Drive) (unlogged : Type 0) (Is : Drive → Bool → Bool → Type 0) (old new : Option (KeptView D)) → IsMovedFromIn old new → StartsAs drive unlogged Is old → StartsAs drive unlogged Is new
starts_moved drive unlogged Is None None from starts = starts
starts_moved drive unlogged Is (Some old) (Some new) from starts =
    let on = subst (λ (d : _). Is (drive d) old.at_sync old.moves) (sym from.start) starts in
    let waits = subst (λ (waits : Bool). Is (drive new.start) waits old.moves) (sym from.at_sync) on in
    subst (λ (moves : Bool). Is (drive new.start) new.at_sync moves) (sym from.moves) waits
starts_moved drive unlogged Is None (Some new) from starts = absurd from
starts_moved drive unlogged Is (Some old) None from starts = absurd from

-- so it is as every book behind a lock
pub shared_still : {D : Type 0} (drive : D → Drive) (unlogged : Type 0) (Is : Drive → Bool → Bool → Type 0) (old new : BookView D) → SameOrigin old new → StartsAs drive unlogged Is old.log → HasWorld new → IsShared drive unlogged Is new
shared_still drive unlogged Is old new same starts has = record { has = has; start = starts_still drive unlogged Is old.log new.log same.log starts }

-- no call changes whether a fresh log may replace the log
since_moves : {D : Type 0} (old new : Option (KeptView D)) → IsSinceIn old new → moves_in new ≡ moves_in old
since_moves None None since = refl
since_moves (Some old) (Some new) since = since.moves
since_moves None (Some new) since = absurd since
since_moves (Some old) None since = absurd since

moved_moves : {D : Type 0} (old new : Option (KeptView D)) → IsMovedFromIn old new → moves_in new ≡ moves_in old
moved_moves None None from = refl
moved_moves (Some old) (Some new) from = from.moves
moved_moves None (Some new) from = absurd from
moved_moves (Some old) None from = absurd from

-- so if a second drive is kept, one still may, after a call and after a fresh log
pub spare_still : {D S : Type 0} (b old new : BookView D) → old ≡ b → SameOrigin old new → (S → moves_in b.log ≡ true) → S → moves_in new.log ≡ true
spare_still b old new is same may spare = since_moves old.log new.log same.log ∙ ap (λ (b : BookView _). moves_in b.log) is ∙ may spare

pub spare_moved : {D S : Type 0} (b old new : BookView D) → old ≡ b → SameMoved old new → (S → moves_in b.log ≡ true) → S → moves_in new.log ≡ true
spare_moved b old new is same may spare = moved_moves old.log new.log same.log ∙ ap (λ (b : BookView _). moves_in b.log) is ∙ may spare

-- a fresh log leaves the entries
pub moved_entries : {D E : Type 0} {A : Type 0} (w : ℕ) (seen : Seen) (log : LogView D) (start : D) (old new : BookView D) (Q : E → Type 0) (r : Result A E) → IfOk r (λ _. new ≡ with_fresh_log w seen log start old)
    → IfErr r (λ e. (new ≡ old) × Q e) → new.entries ≡ old.entries
moved_entries w seen log start old new Q (Ok value) moved back = ap (λ (b : BookView _). b.entries) moved
moved_entries w seen log start old new Q (Err e) moved back = ap (λ (b : BookView _). b.entries) back.0

pub moved_shared : {D : Type 0} (drive : D → Drive) (unlogged : Type 0) (Is : Drive → Bool → Bool → Type 0) (old new : BookView D) → SameMoved old new → new.entries ≡ old.entries → IsShared drive unlogged Is old → IsShared drive unlogged Is new
moved_shared drive unlogged Is old new same entries held = record {
  has = record { world = subst IsWorld (λ i. world_after (sym same.opening i).world (sym entries i)) held.has.world };
  start = starts_moved drive unlogged Is old.log new.log same.log held.start;
}

-- and a book that is stopped
pub stop_world : {D A : Type 0} (old new : BookView D) (r : Result A BookFault) → IfOk r (λ _. StopsBook old new) → IfErr r (λ _. new ≡ old) → new.opening ≡ old.opening → HasWorld old → HasWorld new
stop_world old new (Ok value) ok err opening has = world_more old new (Fail (written_in old.log) lost_stop) tt opening ok.entries has
stop_world old new (Err fault) ok err opening has = subst HasWorld (sym err) has

-- of every book nothing is known
pub any_start : {D : Type 0} (drive : D → Drive) (log : Option (KeptView D)) → StartsAs drive ⊤ (λ d waits moves. ⊤) log
any_start drive None = tt
any_start drive (Some log) = tt
