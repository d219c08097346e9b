-- What the steps of a pass add to its own positions, in a history that begins with all that it has seen.
use Rattle.std.proofs.Common.{◌≡◌, ◌⊎◌, inl, inr, ℕ, ◌+◌, ◌≤◌, ◌==◌, Bool, false, ◌||◌, cond, List, [], ◌∷◌, ◌++◌, length, take, Option, Some, None, Result, Ok, Err, refl, sym, ap, subst, ◌∙◌, arith, length-append, ne_eqb}
use mathlib.Core.List.{IsPrefix}
use Rattle.std.specs.Prelude.{nat_lt, if◌then◌else◌}
use Rattle.std.specs.Option.{option_map}
use Rattle.std.proofs.Math.Seq.{take-append_seam}
use Rattle.std.proofs.lemmas.Bool.{le-ltb}
use Rattle.plain_list.specs.declared.entries.Entry.{Entry}
use Rattle.plain_list.specs.declared.entries.Entry.TheVariants.{Fail, Call, Begin, Install, Abandon}
use Rattle.plain_list.specs.declared.entries.Lost.{Lost}
use Rattle.plain_list.specs.declared.entries.Lost.TheVariants as lost
use Rattle.plain_list.specs.History.{failed_cell}
use Rattle.commit_book.specs.IsBook.{most_events}
use Rattle.commit_book.specs.Refusals.{IsRefusedBy, IsDisk, IsMemoryOrDisk, first_of, closed_refusal, room_refusal, end_refusal, leaf_refusal, has_no_room, most_cells, most_events_to_begin}
use Rattle.commit_book.specs.declared.faults.BookFault.{BookFault}
use Rattle.commit_book.specs.declared.faults.BookFault.TheVariants as book
use Rattle.book_lock.specs.Pass.{Known}
use Rattle.book_lock.specs.declared.origin.Origin.{Origin}
use Rattle.book_lock.proofs.Histories.{get_prefix, get_last, prefix_trans}
use Rattle.sessions.specs.Shared.{moves_of}
use Rattle.sessions.specs.Steps.{IsStep, Leaves, has_added, has_seen, cells_at}
use Rattle.sessions.specs.Splits.{BeginsSplit, IsLasting, IsNextSplit, begin_cause, state_of}
use Rattle.sessions.proofs.SettleLemmas.{allowed, has-room}
use Rattle.sessions.proofs.Exact.{step-exact}
use Rattle.lane_history.specs.Settled.{IsBounded}
use Rattle.lane_history.proofs.Gains.{Puts, Idles}

-- 1 where so many entries and cells leave no room for the begin of a split
abbrev pub bad : Origin → List Entry → ℕ → ℕ
bad origin h p = if has_no_room origin.kept (cells_at origin (take p h)) p then 1 else 0

-- no append failed, and the history is far from its limits
pub record IsCalm (origin : Origin) (h : List Entry) : Type 0 where
  pub going : failed_cell h ≡ None
  pub bounded : IsBounded origin h

pub take-prefix : (g h : List Entry) → IsPrefix g h → take (length g) h ≡ g
take-prefix g h (t, e) = subst (λ (l : List Entry). take (length g) l ≡ g) e (take-append_seam g t)

pub seen-added : (old new : Known) (before : List Entry) (e : Entry) → new ≡ has_added old before e → new.seen ≡ before ++ e ∷ []
seen-added old new before e is = ap (λ (k : Known). k.seen) is

pub length-added : (old new : Known) (before : List Entry) (e : Entry) → new ≡ has_added old before e → length new.seen ≡ length before + 1
length-added old new before e is = ap length (seen-added old new before e is) ∙ length-append before (e ∷ [])

-- an entry that was added stands in the history
pub puts-added : (h : List Entry) (old new : Known) (before : List Entry) (e : Entry) → new ≡ has_added old before e → IsPrefix new.seen h → Puts h old.own new.own (length before) e
puts-added h old new before e is pre = record {
  own_is = ap (λ (k : Known). k.own) is;
  entry_is = get_prefix (before ++ e ∷ []) h (length before) e (subst (λ (l : List Entry). IsPrefix l h) (seen-added old new before e is) pre) (get_last before e);
}

pub before-added : (h : List Entry) (old new : Known) (before : List Entry) (e : Entry) → new ≡ has_added old before e → IsPrefix new.seen h → IsPrefix before h
before-added h old new before e is pre = prefix_trans before (before ++ e ∷ []) h (e ∷ [], refl) (subst (λ (l : List Entry). IsPrefix l h) (seen-added old new before e is) pre)

pub before-seen : (h : List Entry) (old new : Known) (before : List Entry) → new ≡ has_seen old before → IsPrefix new.seen h → IsPrefix before h
before-seen h old new before is pre = subst (λ (l : List Entry). IsPrefix l h) (ap (λ (k : Known). k.seen) is) pre

own-seen : (h : List Entry) (old new : Known) (before : List Entry) → new ≡ has_seen old before → Idles h old.own new.own
own-seen h old new before is = inl (ap (λ (k : Known). k.own) is)

own-fail : (h : List Entry) (old new : Known) (before : List Entry) (cell : ℕ) (step : Lost) → new ≡ has_added old before (Fail cell step) → IsPrefix new.seen h → Idles h old.own new.own
own-fail h old new before cell step is pre = inr (length before, cell, step, puts-added h old new before (Fail cell step) is pre)

module _ {A : Type 0} (entry : A → Entry) (lost : List Entry → Lost) (h : List Entry) (old : Known) (before : List Entry) (new : Known) where
  -- a step that wasn't done adds nothing, or a failed append
  pub left-idle : (fault : BookFault) → Leaves entry lost old before new (Err fault) → IsPrefix new.seen h → Idles h old.own new.own
  left-idle (book.Disk cell) is pre = own-fail h old new before cell (lost before) is pre
  left-idle (book.Closed cell) is pre = own-seen h old new before is
  left-idle book.HistoryFull is pre = own-seen h old new before is
  left-idle book.LogFull is pre = own-seen h old new before is
  left-idle book.Memory is pre = own-seen h old new before is
  left-idle (book.Room cells events) is pre = own-seen h old new before is
  left-idle (book.Splitting number) is pre = own-seen h old new before is
  left-idle book.Deep is pre = own-seen h old new before is
  left-idle book.NoLeaf is pre = own-seen h old new before is
  left-idle (book.Stale number) is pre = own-seen h old new before is
  left-idle (book.NotOpen number) is pre = own-seen h old new before is

  -- nothing more was seen then, or a failed append
  pub left-seen : (fault : BookFault) → Leaves entry lost old before new (Err fault) → (new.seen ≡ before) ⊎ ((cell : ℕ) × (new.seen ≡ before ++ Fail cell (lost before) ∷ []))
  left-seen (book.Disk cell) is = inr (cell, ap (λ (k : Known). k.seen) is)
  left-seen (book.Closed cell) is = inl (ap (λ (k : Known). k.seen) is)
  left-seen book.HistoryFull is = inl (ap (λ (k : Known). k.seen) is)
  left-seen book.LogFull is = inl (ap (λ (k : Known). k.seen) is)
  left-seen book.Memory is = inl (ap (λ (k : Known). k.seen) is)
  left-seen (book.Room cells events) is = inl (ap (λ (k : Known). k.seen) is)
  left-seen (book.Splitting number) is = inl (ap (λ (k : Known). k.seen) is)
  left-seen book.Deep is = inl (ap (λ (k : Known). k.seen) is)
  left-seen book.NoLeaf is = inl (ap (λ (k : Known). k.seen) is)
  left-seen (book.Stale number) is = inl (ap (λ (k : Known). k.seen) is)
  left-seen (book.NotOpen number) is = inl (ap (λ (k : Known). k.seen) is)

  -- the history began with this when the step wasn't done
  pub left-before : (fault : BookFault) → Leaves entry lost old before new (Err fault) → IsPrefix new.seen h → IsPrefix before h
  left-before (book.Disk cell) is pre = before-added h old new before (Fail cell (lost before)) is pre
  left-before (book.Closed cell) is pre = before-seen h old new before is pre
  left-before book.HistoryFull is pre = before-seen h old new before is pre
  left-before book.LogFull is pre = before-seen h old new before is pre
  left-before book.Memory is pre = before-seen h old new before is pre
  left-before (book.Room cells events) is pre = before-seen h old new before is pre
  left-before (book.Splitting number) is pre = before-seen h old new before is pre
  left-before book.Deep is pre = before-seen h old new before is pre
  left-before book.NoLeaf is pre = before-seen h old new before is pre
  left-before (book.Stale number) is pre = before-seen h old new before is pre
  left-before (book.NotOpen number) is pre = before-seen h old new before is pre

  -- where the drive failed
  pub left-disk : (fault : BookFault) → IsDisk fault → Leaves entry lost old before new (Err fault) → (cell : ℕ) × (new ≡ has_added old before (Fail cell (lost before)))
  left-disk (book.Disk cell) disk is = (cell, is)
  left-disk (book.Closed cell) disk is = absurd disk
  left-disk book.HistoryFull disk is = absurd disk
  left-disk book.LogFull disk is = absurd disk
  left-disk book.Memory disk is = absurd disk
  left-disk (book.Room cells events) disk is = absurd disk
  left-disk (book.Splitting number) disk is = absurd disk
  left-disk book.Deep disk is = absurd disk
  left-disk book.NoLeaf disk is = absurd disk
  left-disk (book.Stale number) disk is = absurd disk
  left-disk (book.NotOpen number) disk is = absurd disk

-- no append failed in a beginning of a history in which none failed
going-front : (g t : List Entry) → failed_cell (g ++ t) ≡ None → failed_cell g ≡ None
going-front [] t none = refl
going-front (Fail cell step ∷ g) t none = absurd (cc none)
going-front (Call session row op ∷ g) t none = going-front g t none
going-front (Begin number name ∷ g) t none = going-front g t none
going-front (Install number ∷ g) t none = going-front g t none
going-front (Abandon number ∷ g) t none = going-front g t none

pub going-begin : (g h : List Entry) → IsPrefix g h → failed_cell h ≡ None → failed_cell g ≡ None
going-begin g h (t, e) none = going-front g t (ap failed_cell e ∙ none)

going-last : (g : List Entry) (cell : ℕ) (step : Lost) → failed_cell (g ++ Fail cell step ∷ []) ≡ None → ⊥
going-last [] cell step none = cc none
going-last (Fail other lost ∷ g) cell step none = cc none
going-last (Call session row op ∷ g) cell step none = going-last g cell step none
going-last (Begin number name ∷ g) cell step none = going-last g cell step none
going-last (Install number ∷ g) cell step none = going-last g cell step none
going-last (Abandon number ∷ g) cell step none = going-last g cell step none

-- in a calm history no end of a split is refused
calm-end : (origin : Origin) (h before : List Entry) → IsCalm origin h → IsPrefix before h → end_refusal origin.kept (cells_at origin before) before ≡ None
calm-end origin h before calm pre =
    let cells = cells_at origin before in
    let going : failed_cell before ≡ None = going-begin before h pre calm.going in
    let short = calm.bounded.short before pre in
    let few = calm.bounded.few before pre in
    let events : (length before == most_events origin.kept) ≡ false = ne_eqb (length before) (most_events origin.kept) (λ (e : length before ≡ most_events origin.kept). omega arith) in
    let full : (cells == most_cells) ≡ false = ne_eqb cells most_cells (λ (e : cells ≡ most_cells). omega arith) in
    λ i. first_of (first_of (option_map book.Closed (going i)) (cond (events i) (Some book.HistoryFull) None)) (cond (full i) (Some book.LogFull) None)

-- so an end that isn't done fails the history's calm, unless the fault is free to come and no failure of the drive
pub calm-not : {A : Type 0} (IsFree : BookFault → Type 0) (entry : A → Entry) (lost : List Entry → Lost) (P : List Entry → A → Type 0) (origin : Origin) (h : List Entry) (old new : Known) (fault : BookFault) → old.origin ≡ origin → moves_of origin ≡ false
    → IsStep IsFree (λ (cells : ℕ) (before : List Entry). end_refusal old.origin.kept cells before) entry lost P old new (Err fault) → (IsFree fault → IsDisk fault) → IsPrefix new.seen h → IsCalm origin h → ⊥
calm-not {A} IsFree entry lost P origin h old new fault from still step disk pre calm =
    let before = left-before entry lost h old step.before new fault step.leaves pre in
    let none : end_refusal old.origin.kept (cells_at old.origin step.before) step.before ≡ None = ap (λ (o : Origin). end_refusal o.kept (cells_at o step.before) step.before) from ∙ calm-end origin h step.before calm before in
    let refused : IsRefusedBy {A = A} IsFree (end_refusal old.origin.kept (cells_at old.origin step.before) step.before) (Err fault) =
    step-exact IsFree (λ (cells : ℕ) (g : List Entry). end_refusal old.origin.kept cells g) entry lost P old new (Err fault) (ap moves_of from ∙ still) step in
    let free : IsFree fault = subst (λ (o : Option BookFault). IsRefusedBy {A = A} IsFree o (Err fault)) none refused in
    let (cell, is) = left-disk entry lost h old step.before new fault (disk free) step.leaves in
    going-last step.before cell (lost step.before) (ap failed_cell (sym (seen-added old new step.before (Fail cell (lost step.before)) is)) ∙ going-begin new.seen h pre calm.going)

pub lasting-disk : (fault : BookFault) → IsLasting fault → IsMemoryOrDisk fault → IsDisk fault
lasting-disk fault lasting (inl memory) = absurd (subst IsLasting memory lasting)
lasting-disk fault lasting (inr disk) = disk

-- where no fresh log may replace the log, the history determines why no split began
pub begins-exact : (w : ℕ) (name : List Bool) (old new : Known) (result : Result ℕ BookFault) → moves_of old.origin ≡ false → (begins : BeginsSplit w name old new result)
    → IsRefusedBy IsMemoryOrDisk (begin_cause w old.origin name (cells_at old.origin begins.before) begins.before) result
begins-exact w name old new result still begins =
    step-exact IsMemoryOrDisk (begin_cause w old.origin name) (λ (number : ℕ). Begin number name) (λ (h : List Entry). lost.Begin ((state_of w old.origin h).begun + 1) name) (IsNextSplit w old.origin) old new result still begins

-- where a split began there was room
no-cause : (a b c : Option BookFault) → first_of a (first_of b c) ≡ None → b ≡ None
no-cause None None c none = refl
no-cause None (Some cause) c none = absurd (cc none)
no-cause (Some cause) b c none = absurd (cc none)

not-bad : (origin : Origin) (h before : List Entry) → IsPrefix before h → length before ≤ most_events_to_begin origin.kept → cells_at origin before ≤ 16000000 → bad origin h (length before) ≡ 0
not-bad origin h before pre less few =
    let cells : nat_lt 16000000 (cells_at origin before) ≡ false = le-ltb 16000000 (cells_at origin before) few in
    let events : nat_lt (most_events_to_begin origin.kept) (length before) ≡ false = le-ltb (most_events_to_begin origin.kept) (length before) less in
    ap (λ (g : List Entry). cond (has_no_room origin.kept (cells_at origin g) (length before)) 1 0) (take-prefix before h pre) ∙ (λ i. cond (cells i || events i) 1 0)

pub begun-room : (w : ℕ) (origin : Origin) (h : List Entry) (name : List Bool) (old new : Known) (number : ℕ) → old.origin ≡ origin → moves_of origin ≡ false → (begins : BeginsSplit w name old new (Ok number)) → IsPrefix new.seen h
    → bad origin h (length begins.before) ≡ 0
begun-room w origin h name old new number from still begins pre =
    let cells = cells_at old.origin begins.before in
    let none : begin_cause w old.origin name cells begins.before ≡ None = allowed (begin_cause w old.origin name cells begins.before) number (begins-exact w name old new (Ok number) (ap moves_of from ∙ still) begins) in
    let room = has-room old.origin.kept cells (length begins.before) (no-cause (closed_refusal begins.before) (room_refusal old.origin.kept cells (length begins.before)) (leaf_refusal w (state_of w old.origin begins.before) name) none) in
    let few : cells_at origin begins.before ≤ 16000000 = subst (λ (o : Origin). cells_at o begins.before ≤ 16000000) from room.1 in
    let less : length begins.before ≤ most_events_to_begin origin.kept = subst (λ (o : Origin). length begins.before ≤ most_events_to_begin o.kept) from room.0 in
    not-bad origin h begins.before (before-added h old new begins.before (Begin number name) begins.leaves pre) less few
