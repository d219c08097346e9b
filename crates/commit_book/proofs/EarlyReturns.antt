-- What a call that comes back early leaves.
use Rattle.std.proofs.Common.{◌≡◌, ℕ, ◌+◌, Bool, true, false, cond, not, List, length, Option, None, Some, Result, Ok, Err, refl, sym, subst}
use Rattle.std.specs.Result.{IsErr}
use Rattle.std.specs.Prelude.{IsErrAnd, IfErr, IfOk, ◌==◌, ◌&&◌, nat_lt, is_some, ⊤}
use Rattle.std.specs.Option.{option_map}
use mathlib.Core.Bool.{true≢false}
use Rattle.bucket_versions.specs.declared.row.Row.{Row}
use Rattle.plain_list.specs.declared.entries.Entry.{Entry}
use Rattle.plain_list.specs.declared.entries.Lost.{Lost}
use Rattle.plain_list.specs.declared.ops.Op.{Op}
use Rattle.plain_list.specs.Answer.{answer_of, is_change}
use Rattle.plain_list.specs.History.{world_after, failed_cell}
use Rattle.plain_list.specs.State.{State, is_leaf, split_name, state_after}
use Rattle.disk_trait.specs.Drive.{Drive}
use Rattle.kept_log.specs.KeptView.{KeptView}
use Rattle.kept_log.specs.Journal.{IsSinceIn, cells_in}
use Rattle.commit_book.specs.BookView.{BookView}
use Rattle.commit_book.specs.IsBook.{IsBook, AreBooks, most_events}
use Rattle.commit_book.specs.Refusals.{IsRefusedBy, IsNoFault, IsDisk, LeavesRefused, first_of, closed_refusal, events_refusal, call_refusal, end_refusal, update_refusal, room_refusal, leaf_refusal, begin_refusal, install_refusal, abandon_refusal, has_no_room, has_base, is_open, split_number, most_cells}
use Rattle.commit_book.specs.declared.faults.BookFault.{BookFault}
use Rattle.commit_book.specs.declared.faults.BookFault.TheVariants.{Closed, Disk, HistoryFull, LogFull, Memory, Room, Splitting, Deep, NoLeaf, Stale, NotOpen}

-- a log that nobody touched has the same opening
pub since-same : {D : Type 0} (log : Option (KeptView D)) → IsSinceIn log log
since-same None = tt
since-same (Some kept) = record { start = refl; first = refl; at_sync = refl; moves = refl; earlier = refl }

-- a book that stayed as it was
pub same_books : {D : Type 0} (drive : D → Drive) (w : ℕ) (old new : BookView D) → new ≡ old → IsBook drive w old → AreBooks drive w old new
same_books drive w old new same is =
    subst (λ (b : BookView _). AreBooks drive w old b) (sym same) (record { before = is; after = is; origin = record { opening = refl; bucket = refl; log = since-same old.log; kept = refl } })

pub if_any : {B : Type 0} (r : Result B BookFault) (P : Type 0) → P → IfErr r (λ _. P)
if_any (Ok x) P p = tt
if_any (Err e) P p = p

-- a call that failed has handed out nothing
pub never_ok : {A E : Type 0} (r : Result A E) (P : A → Type 0) → IsErr r → IfOk r P
never_ok (Ok x) P is = absurd (true≢false (sym is))
never_ok (Err e) P is = tt

-- the refusal of a check, handed on
pub hands_on : (A : Type 0) {B : Type 0} (IsFree : BookFault → Type 0) (o : Option BookFault) (fault : BookFault) (r : Result B BookFault) → IsRefusedBy {A = A} IsNoFault o (Err fault) → IsErrAnd r (λ e. e ≡ fault)
    → IsRefusedBy IsFree o r
hands_on A IsFree o fault (Ok x) is err = absurd err
hands_on A IsFree (Some cause) fault (Err e) is err = cc (err, is)
hands_on A IsFree None fault (Err e) is err = absurd is

-- the refusal of the first of two checks, handed on
pub hands_first : (A : Type 0) {B : Type 0} (first later : Option BookFault) (fault : BookFault) (r : Result B BookFault) → IsRefusedBy {A = A} IsNoFault first (Err fault) → IsErrAnd r (λ e. e ≡ fault)
    → IsRefusedBy IsNoFault (first_of first later) r
hands_first A first later fault (Ok x) is err = absurd err
hands_first A (Some cause) later fault (Err e) is err = cc (err, is)
hands_first A None later fault (Err e) is err = absurd is

-- want of memory, where nothing else comes in the way
pub no_memory : {B : Type 0} (IsFree : BookFault → Type 0) (o : Option BookFault) (r : Result B BookFault) → IsFree Memory → o ≡ None → IsErrAnd r (λ e. e ≡ Memory) → IsRefusedBy IsFree o r
no_memory IsFree o (Ok x) free none err = absurd err
no_memory IsFree o (Err e) free none err = rw none (subst IsFree (sym err) free)

-- and nothing did
pub done_freely : {B : Type 0} (IsFree : BookFault → Type 0) (o : Option BookFault) (value : B) → o ≡ None → IsRefusedBy IsFree o (Ok value)
done_freely IsFree o value none = rw none tt

-- where the drive failed, nothing else came in the way
pub lost_freely : (A : Type 0) (o : Option BookFault) (cell : ℕ) → o ≡ None → IsRefusedBy {A = A} IsDisk o (Err (Disk cell))
lost_freely A o cell none = rw none tt

-- a cause that isn't the drive's
abbrev pub IsCalm : BookFault → Type 0
IsCalm (Disk cell) = ⊥
IsCalm _ = ⊤

-- no cause, or one that isn't the drive's
abbrev pub IsCalmIf : Option BookFault → Type 0
IsCalmIf (Some cause) = IsCalm cause
IsCalmIf None = ⊤

calm-first : (first later : Option BookFault) → IsCalmIf first → IsCalmIf later → IsCalmIf (first_of first later)
calm-first (Some cause) later one other = one
calm-first None later one other = other

calm-if : (b : Bool) (cause : BookFault) → IsCalm cause → IsCalmIf (cond b (Some cause) None)
calm-if true cause calm = calm
calm-if false cause calm = tt

calm-unless : (b : Bool) (cause : BookFault) → IsCalm cause → IsCalmIf (cond b None (Some cause))
calm-unless true cause calm = tt
calm-unless false cause calm = calm

calm-closed : (o : Option ℕ) → IsCalmIf (option_map Closed o)
calm-closed (Some cell) = tt
calm-closed None = tt

calm-splitting : (o : Option ℕ) → IsCalmIf (option_map Splitting o)
calm-splitting (Some number) = tt
calm-splitting None = tt

calm-leaf : (leaf deep : Bool) (o : Option ℕ) → IsCalmIf (cond (not leaf) (Some NoLeaf) (cond deep (Some Deep) (option_map Splitting o)))
calm-leaf false deep o = tt
calm-leaf true true o = tt
calm-leaf true false o = calm-splitting o

calm-call : (kept : Bool) (entries : List Entry) → IsCalmIf (call_refusal kept entries)
calm-call kept entries =
    calm-first (closed_refusal entries) (events_refusal kept entries) (calm-closed (failed_cell entries)) (calm-if (length entries == most_events kept) HistoryFull tt)

calm-end : (kept : Bool) (cells : ℕ) (entries : List Entry) → IsCalmIf (end_refusal kept cells entries)
calm-end kept cells entries =
    calm-first (call_refusal kept entries) (cond (cells == most_cells) (Some LogFull) None) (calm-call kept entries) (calm-if (cells == most_cells) LogFull tt)

pub calm-update : {D : Type 0} (b : BookView D) (op : Op) → IsCalmIf (update_refusal b op)
calm-update b op =
    let many = (cells_in b.log == most_cells) && is_change (answer_of (world_after b.opening.world b.entries) op) in
    calm-first (call_refusal b.kept b.entries) (cond many (Some LogFull) None) (calm-call b.kept b.entries) (calm-if many LogFull tt)

pub calm-begin : {D : Type 0} (w : ℕ) (b : BookView D) (name : List Bool) → IsCalmIf (begin_refusal w b name)
calm-begin w b name =
    let s : State = state_after w b.opening b.entries in
    let cells = cells_in b.log in
    let n = length b.entries in
    calm-first (closed_refusal b.entries) (first_of (room_refusal b.kept cells n) (leaf_refusal w s name)) (calm-closed (failed_cell b.entries))
    (calm-first (room_refusal b.kept cells n) (leaf_refusal w s name) (calm-if (has_no_room b.kept cells n) (Room cells n) tt)
    (calm-leaf (is_leaf s.leaves name) (nat_lt 64 (length name + w)) (split_number s.splits name)))

pub calm-install : {D : Type 0} (w : ℕ) (b : BookView D) (number : ℕ) (name : List Bool) (base : List Row) → IsCalmIf (install_refusal w b number name base)
calm-install w b number name base =
    let it = is_open (state_after w b.opening b.entries).splits number name && has_base b.leaves name base in
    calm-first (end_refusal b.kept (cells_in b.log) b.entries) (cond it None (Some (Stale number))) (calm-end b.kept (cells_in b.log) b.entries) (calm-unless it (Stale number) tt)

pub calm-abandon : {D : Type 0} (w : ℕ) (b : BookView D) (number : ℕ) → IsCalmIf (abandon_refusal w b number)
calm-abandon w b number =
    let it = is_some (split_name (state_after w b.opening b.entries).splits number) in
    calm-first (end_refusal b.kept (cells_in b.log) b.entries) (cond it None (Some (NotOpen number))) (calm-end b.kept (cells_in b.log) b.entries) (calm-unless it (NotOpen number) tt)

module _ {D : Type 0} (drive : D → Drive) (lost : Lost) (old new : BookView D) (same : new ≡ old) where
  -- a refusal by such a cause leaves the book as it was
  leaves-calm : (cause : BookFault) → IsCalm cause → LeavesRefused drive lost old new cause
  leaves-calm (Closed cell) calm = same
  leaves-calm (Disk cell) calm = absurd calm
  leaves-calm HistoryFull calm = same
  leaves-calm LogFull calm = same
  leaves-calm Memory calm = same
  leaves-calm (Room cells events) calm = same
  leaves-calm (Splitting number) calm = same
  leaves-calm Deep calm = same
  leaves-calm NoLeaf calm = same
  leaves-calm (Stale number) calm = same
  leaves-calm (NotOpen number) calm = same

  -- the refusal of a check, handed on
  pub leaves-checked : (A : Type 0) {B : Type 0} (o : Option BookFault) (fault : BookFault) (r : Result B BookFault) → IsCalmIf o → IsRefusedBy {A = A} IsNoFault o (Err fault) → IsErrAnd r (λ e. e ≡ fault)
      → IfErr r (LeavesRefused drive lost old new)
  leaves-checked A o fault (Ok x) calm is err = absurd err
  leaves-checked A (Some cause) fault (Err e) calm is err = subst (LeavesRefused drive lost old new) (cc (err, is)) (leaves-calm cause calm)
  leaves-checked A None fault (Err e) calm is err = absurd is

  -- want of memory
  pub leaves-memory : {B : Type 0} (r : Result B BookFault) → IsErrAnd r (λ e. e ≡ Memory) → IfErr r (LeavesRefused drive lost old new)
  leaves-memory (Ok x) err = absurd err
  leaves-memory (Err e) err = subst (LeavesRefused drive lost old new) (sym err) same
