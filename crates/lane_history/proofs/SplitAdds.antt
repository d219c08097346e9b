-- Splits add no call, and a step of theirs that is lost was possible.
use Rattle.std.proofs.Common.{◌≡◌, inl, inr, ℕ, ◌+◌, Bool, true, false, cond, not, List, [], ◌∷◌, length, Option, Some, None, Result, Ok, Err, refl, ap, subst}
use Rattle.std.proofs.lemmas.Bool.{eq-eqb, ltb-false, le-leb, and_from}
use Rattle.std.specs.Prelude.{◌&&◌, IsTrue, nat_lt, nat_le, ◌==◌}
use Rattle.std.specs.Option.{option_map}
use mathlib.Core.List.{IsPrefix}
use Rattle.plain_list.specs.declared.entries.Entry.{Entry}
use Rattle.plain_list.specs.declared.entries.Entry.TheVariants.{Fail, Begin, Install, Abandon}
use Rattle.plain_list.specs.declared.entries.Lost.{Lost}
use Rattle.plain_list.specs.declared.entries.Lost.TheVariants as lost
use Rattle.plain_list.specs.Played.{calls_of}
use Rattle.plain_list.specs.State.{State, is_leaf, is_splitting, may_split}
use Rattle.plain_list.specs.declared.ops.Op.{Op}
use Rattle.plain_list.specs.Answer.{answer_of, is_change}
use Rattle.plain_list.specs.History.{world_after, failed_cell}
use Rattle.commit_book.specs.Refusals.{IsRefusedBy, IsDisk, IsMemoryOrDisk, first_of, closed_refusal, events_refusal, call_refusal, end_refusal, room_refusal, leaf_refusal, split_number, has_no_room, most_cells}
use Rattle.commit_book.specs.IsBook.{most_events}
use Rattle.commit_book.specs.declared.faults.BookFault.{BookFault}
use Rattle.commit_book.specs.declared.faults.BookFault.TheVariants.{Closed, Disk, HistoryFull, LogFull, Memory, Room, Splitting, Deep, NoLeaf, Stale, NotOpen}
use Rattle.book_lock.specs.Pass.{Known}
use Rattle.book_lock.specs.declared.origin.Origin.{Origin}
use Rattle.sessions.specs.Shared.{start_of}
use Rattle.sessions.specs.Steps.{Leaves}
use Rattle.sessions.specs.Calls.{call_cause}
use Rattle.sessions.specs.Splits.{begin_cause, state_of, BeginsSplit, InstallsSplit, AbandonsSplit, GivesUp, RanOut, NotInstalled, SplitEnds}
use Rattle.sessions.specs.Settles.{SplitsAll, SettleEnds}
use Rattle.sessions.specs.Lanes.{Tries}
use Rattle.sessions.specs.declared.faults.Split.{Split}
use Rattle.sessions.specs.declared.faults.Split.TheVariants.{Installed, NotSplit}
use Rattle.sessions.specs.declared.faults.Settled.{Settled}
use Rattle.sessions.specs.declared.faults.Settled.TheVariants as settled
use Rattle.commit_book.proofs.RefusalLemmas.{splitting-none}
use Rattle.sessions.specs.declared.store.lanes.Lane.{Lane}
use Rattle.lane_history.specs.Lanes.{GoesOn}
use Rattle.lane_history.specs.LostSteps.{IsSplitStep}
use Rattle.lane_history.proofs.Adds.{LostSo, AddsQuiet, quiet-one, quiet-seen, quiet-same, quiet-trans, adds-origin}

-- a step of a split that was lost behind a pass of this origin
abbrev pub SplitLost : ℕ → Known → List Entry → Lost → Type 0
SplitLost w pass before l = IsSplitStep w (start_of pass.origin) before l

module _ {A : Type 0} (Step : List Entry → Lost → Type 0) (entry : A → Entry) (lost : List Entry → Lost) (old new : Known) (before : List Entry) (later : IsPrefix old.seen before) where
  pub step-quiet : (r : Result A BookFault) → ((a : A) → LostSo Step before (entry a)) → ((a : A) (t : ℕ) → calls_of t (entry a ∷ []) ≡ []) → ((cell : ℕ) → r ≡ Err (Disk cell) → Step before (lost before) × (failed_cell before ≡ None))
      → Leaves entry lost old before new r → AddsQuiet Step old new
  step-quiet (Ok a) so quiet loses is = quiet-one Step old new before (entry a) later (so a) (quiet a) is
  step-quiet (Err (Disk cell)) so quiet loses is = quiet-one Step old new before (Fail cell (lost before)) later (loses cell refl) (λ t. refl) is
  step-quiet (Err (Closed cell)) so quiet loses is = quiet-seen Step old new before later is
  step-quiet (Err HistoryFull) so quiet loses is = quiet-seen Step old new before later is
  step-quiet (Err LogFull) so quiet loses is = quiet-seen Step old new before later is
  step-quiet (Err Memory) so quiet loses is = quiet-seen Step old new before later is
  step-quiet (Err (Room cells events)) so quiet loses is = quiet-seen Step old new before later is
  step-quiet (Err (Splitting number)) so quiet loses is = quiet-seen Step old new before later is
  step-quiet (Err Deep) so quiet loses is = quiet-seen Step old new before later is
  step-quiet (Err NoLeaf) so quiet loses is = quiet-seen Step old new before later is
  step-quiet (Err (Stale number)) so quiet loses is = quiet-seen Step old new before later is
  step-quiet (Err (NotOpen number)) so quiet loses is = quiet-seen Step old new before later is

-- the drive's failure is no cause of a refusal
module _ (cell : ℕ) where
  abbrev pub NoDisk : Option BookFault → Type 0
  NoDisk o = o ≡ Some (Disk cell) → ⊥

  none-disk : NoDisk None
  none-disk is = cc is

  first-disk : (a b : Option BookFault) → NoDisk a → NoDisk b → NoDisk (first_of a b)
  first-disk (Some x) b never other is = never is
  first-disk None b never other is = other is

  closed-disk : (o : Option ℕ) → NoDisk (option_map Closed o)
  closed-disk (Some n) is = cc is
  closed-disk None is = cc is

  splitting-disk : (o : Option ℕ) → NoDisk (option_map Splitting o)
  splitting-disk (Some n) is = cc is
  splitting-disk None is = cc is

  cond-disk : (b : Bool) (x : BookFault) (o : Option BookFault) → (x ≡ Disk cell → ⊥) → NoDisk o → NoDisk (cond b (Some x) o)
  cond-disk true x o never other is = let e : x ≡ Disk cell = cc is in never e
  cond-disk false x o never other is = other is

  leaf-disk : (w : ℕ) (s : State) (name : List Bool) → NoDisk (leaf_refusal w s name)
  leaf-disk w s name = cond-disk (not (is_leaf s.leaves name)) NoLeaf _ (λ e. cc e) (cond-disk (nat_lt 64 (length name + w)) Deep _ (λ e. cc e) (splitting-disk (split_number s.splits name)))

  begin-disk : (w : ℕ) (origin : Origin) (name : List Bool) (cells : ℕ) (before : List Entry) → NoDisk (begin_cause w origin name cells before)
  begin-disk w origin name cells before =
      first-disk (closed_refusal before) _ (closed-disk (failed_cell before))
      (first-disk (room_refusal origin.kept cells (length before)) _ (cond-disk (has_no_room origin.kept cells (length before)) (Room cells (length before)) None (λ e. cc e) none-disk) (leaf-disk w (state_of w origin before) name))

  call-disk : (kept : Bool) (before : List Entry) → NoDisk (call_refusal kept before)
  call-disk kept before = first-disk (closed_refusal before) (events_refusal kept before) (closed-disk (failed_cell before)) (cond-disk (length before == most_events kept) HistoryFull None (λ e. cc e) none-disk)

  pub call_cause-disk : (origin : Origin) (op : Op) (cells : ℕ) (before : List Entry) → NoDisk (call_cause origin op cells before)
  call_cause-disk origin op cells before =
      first-disk (call_refusal origin.kept before) _ (call-disk origin.kept before) (cond-disk ((cells == most_cells) && is_change (answer_of (world_after origin.world before) op)) LogFull None (λ e. cc e) none-disk)

  end-disk : (kept : Bool) (cells : ℕ) (before : List Entry) → NoDisk (end_refusal kept cells before)
  end-disk kept cells before = first-disk (call_refusal kept before) _ (call-disk kept before) (cond-disk (cells == most_cells) LogFull None (λ e. cc e) none-disk)

  -- so a step that meets it is refused for no cause
  no-cause : (A : Type 0) (IsFree : BookFault → Type 0) (cause : Option BookFault) → NoDisk cause → IsRefusedBy {A = A} IsFree cause (Err (Disk cell)) → cause ≡ None
  no-cause A IsFree None never refused = refl
  no-cause A IsFree (Some c) never refused = let e : c ≡ Disk cell = cc refused in absurd (never (ap (λ (x : BookFault). Some x) e))

pub first-front : (a b : Option BookFault) → first_of a b ≡ None → a ≡ None
first-front (Some x) b is = absurd (cc is)
first-front None b is = refl

first-none : (a b : Option BookFault) → first_of a b ≡ None → b ≡ None
first-none (Some x) b is = absurd (cc is)
first-none None b is = is

-- where a step isn't refused for an append that failed, none has failed
pub not-closed : (before : List Entry) → closed_refusal before ≡ None → failed_cell before ≡ None
not-closed before none = by_cell (failed_cell before) none
  where
    by_cell : (o : Option ℕ) → option_map Closed o ≡ None → o ≡ None
    by_cell (Some n) none = absurd (cc none)
    by_cell None none = refl

-- a leaf that is refused for no cause may be split
leaf-may : (w : ℕ) (s : State) (name : List Bool) → leaf_refusal w s name ≡ None → IsTrue (may_split w s name)
leaf-may w s name none = by_tests (is_leaf s.leaves name) (nat_lt 64 (length name + w)) refl none
  where
    by_tests : (a b : Bool) → nat_lt 64 (length name + w) ≡ b → cond (not a) (Some NoLeaf) (cond b (Some Deep) (option_map Splitting (split_number s.splits name))) ≡ None → (a && nat_le (length name + w) 64) ≡ true
    by_tests true false short none = le-leb (length name + w) 64 (ltb-false 64 (length name + w) short)
    by_tests true true short none = absurd (cc none)
    by_tests false b short none = absurd (cc none)

-- and has no open split
leaf-free : (w : ℕ) (s : State) (name : List Bool) → leaf_refusal w s name ≡ None → IsTrue (not (is_splitting s.splits name))
leaf-free w s name none = ap not (splitting-none s.splits name (by_tests (is_leaf s.leaves name) (nat_lt 64 (length name + w)) (split_number s.splits name) none))
  where
    by_tests : (a b : Bool) (o : Option ℕ) → cond (not a) (Some NoLeaf) (cond b (Some Deep) (option_map Splitting o)) ≡ None → o ≡ None
    by_tests true false None none = refl
    by_tests true false (Some n) none = absurd (cc none)
    by_tests true true o none = absurd (cc none)
    by_tests false b o none = absurd (cc none)

-- the begin of a split
pub begins-quiet : (w : ℕ) (name : List Bool) (old new : Known) (r : Result ℕ BookFault) → BeginsSplit w name old new r → AddsQuiet (SplitLost w old) old new
begins-quiet w name old new r step =
    step-quiet (SplitLost w old) (λ number. Begin number name) (λ before. lost.Begin ((state_of w old.origin before).begun + 1) name) old new step.before step.later r (λ number. tt) (λ number t. refl) loses step.leaves
  where
    loses : (cell : ℕ) → r ≡ Err (Disk cell) → SplitLost w old step.before (lost.Begin ((state_of w old.origin step.before).begun + 1) name) × (failed_cell step.before ≡ None)
    loses cell is =
        let s = state_of w old.origin step.before in
        let refused : IsRefusedBy IsMemoryOrDisk (begin_cause w old.origin name step.cells step.before) (Err (Disk cell)) = subst (λ (x : Result ℕ BookFault). IsRefusedBy IsMemoryOrDisk (begin_cause w old.origin name step.cells step.before) x) is step.refused in
        let none = no-cause cell ℕ IsMemoryOrDisk (begin_cause w old.origin name step.cells step.before) (begin-disk cell w old.origin name step.cells step.before) refused in
        let leaf : leaf_refusal w s name ≡ None = first-none (room_refusal old.origin.kept step.cells (length step.before)) (leaf_refusal w s name) (first-none (closed_refusal step.before) _ none) in (
          and_from _ (not (is_splitting s.splits name)) (and_from _ (may_split w s name) (eq-eqb (s.begun + 1) (s.begun + 1) refl) (leaf-may w s name leaf)) (leaf-free w s name leaf),
          not-closed step.before (first-front (closed_refusal step.before) _ none),
        )

-- behind the end of a split that was lost no append had failed
end-sound : (IsFree : BookFault → Type 0) (r : Result (Unit {0}) BookFault) (kept : Bool) (cells : ℕ) (before : List Entry) (cell : ℕ) → r ≡ Err (Disk cell)
    → IsRefusedBy IsFree (end_refusal kept cells before) r → failed_cell before ≡ None
end-sound IsFree r kept cells before cell is refused =
    let none = no-cause cell (Unit {0}) IsFree (end_refusal kept cells before) (end-disk cell kept cells before) (subst (λ (x : Result (Unit {0}) BookFault). IsRefusedBy IsFree (end_refusal kept cells before) x) is refused) in
    not-closed before (first-front (closed_refusal before) _ (first-front (call_refusal kept before) _ none))

-- its end
pub installs-quiet : (w number : ℕ) (old new : Known) (r : Result (Unit {0}) BookFault) → InstallsSplit w number old new r → AddsQuiet (SplitLost w old) old new
installs-quiet w number old new r ends =
    step-quiet (SplitLost w old) (λ (done : Unit {0}). Install number) (λ before. lost.Install number) old new ends.step.before ends.step.later r (λ done. tt) (λ done t. refl)
    (λ cell is. (ends.is_open, end-sound IsMemoryOrDisk r old.origin.kept ends.step.cells ends.step.before cell is ends.step.refused)) ends.step.leaves

pub abandons-quiet : (w number : ℕ) (old new : Known) (r : Result (Unit {0}) BookFault) → AbandonsSplit w number old new r → AddsQuiet (SplitLost w old) old new
abandons-quiet w number old new r ends =
    step-quiet (SplitLost w old) (λ (done : Unit {0}). Abandon number) (λ before. lost.Abandon number) old new ends.step.before ends.step.later r (λ done. tt) (λ done t. refl)
    (λ cell is. (ends.is_open, end-sound IsDisk r old.origin.kept ends.step.cells ends.step.before cell is ends.step.refused)) ends.step.leaves

-- one after the other
pub quiet-then : (w : ℕ) (old mid new : Known) → AddsQuiet (SplitLost w old) old mid → AddsQuiet (SplitLost w mid) mid new → AddsQuiet (SplitLost w old) old new
quiet-then w old mid new a b = quiet-trans (SplitLost w old) old mid new a (subst (λ (o : Origin). AddsQuiet (IsSplitStep w (start_of o)) mid new) (adds-origin (SplitLost w old) old mid a.entries a.adds) b)

gives-quiet : (w number : ℕ) (old new : Known) (fault : BookFault) → GivesUp w number old new fault → AddsQuiet (SplitLost w old) old new
gives-quiet w number old new fault (inl (memory, ends)) = abandons-quiet w number old new (Ok tt) ends
gives-quiet w number old new fault (inr ends) = abandons-quiet w number old new (Err fault) ends

ran-quiet : (w number : ℕ) (mid seen : Known) → RanOut w number mid seen → AddsQuiet (SplitLost w mid) mid seen
ran-quiet w number mid seen (inl same) = quiet-same (SplitLost w mid) mid seen same
ran-quiet w number mid seen (inr ends) = installs-quiet w number mid seen (Err Memory) ends

not-quiet : (w number : ℕ) (mid new : Known) (fault : BookFault) → NotInstalled w number mid new fault → AddsQuiet (SplitLost w mid) mid new
not-quiet w number mid new fault (inl (lasting, ends)) = installs-quiet w number mid new (Err fault) ends
not-quiet w number mid new fault (inr (seen, ran, gives)) = quiet-then w mid seen new (ran-quiet w number mid seen ran) (gives-quiet w number seen new fault gives)

pub split-quiet : (w : ℕ) (name : List Bool) (old new : Known) (split : Split) → SplitEnds w name old new split → AddsQuiet (SplitLost w old) old new
split-quiet w name old new (Installed number) (mid, begins, installs) = quiet-then w old mid new (begins-quiet w name old mid (Ok number) begins) (installs-quiet w number mid new (Ok tt) installs)
split-quiet w name old new (NotSplit fault) (inl begins) = begins-quiet w name old new (Err fault) begins
split-quiet w name old new (NotSplit fault) (inr (number, mid, begins, left)) = quiet-then w old mid new (begins-quiet w name old mid (Ok number) begins) (not-quiet w number mid new fault left)

pub tries-quiet : (w : ℕ) (full : Option (List Bool)) (mid new : Known) (split : Option Split) → Tries w full mid new split → AddsQuiet (SplitLost w mid) mid new
tries-quiet w None mid new split (is, same) = quiet-same (SplitLost w mid) mid new same
tries-quiet w (Some name) mid new split (s, is, ends) = split-quiet w name mid new s ends

all-quiet : (w : ℕ) (old new : Known) (numbers : List ℕ) → SplitsAll w old numbers new → AddsQuiet (SplitLost w old) old new
all-quiet w old new [] same = quiet-same (SplitLost w old) old new same
all-quiet w old new (number ∷ numbers) (name, mid, full, ends, rest) = quiet-then w old mid new (split-quiet w name old mid (Installed number) ends) (all-quiet w mid new numbers rest)

ends-quiet : (w : ℕ) (mid new : Known) (r : Result Settled BookFault) → SettleEnds w mid new r → AddsQuiet (SplitLost w mid) mid new
ends-quiet w mid new (Ok settled.Small) (tells, same) = quiet-same (SplitLost w mid) mid new same
ends-quiet w mid new (Ok settled.Room) (name, full, cells, events, begins) = begins-quiet w name mid new (Err (Room cells events)) begins
ends-quiet w mid new (Err fault) (inl (tells, same)) = quiet-same (SplitLost w mid) mid new same
ends-quiet w mid new (Err fault) (inr (name, full, is, ends)) = split-quiet w name mid new (NotSplit fault) ends

-- so what goes on behind the lanes adds none
pub goes-quiet : {I D O P : Type 0} (w : ℕ) (lanes : List (Lane I D O P)) (pass last : Known) → GoesOn w lanes pass last → AddsQuiet (SplitLost w pass) pass last
goes-quiet w lanes pass last (inl same) = quiet-same (SplitLost w pass) pass last same
goes-quiet w lanes pass last (inr after) =
    let settles = after.settles in
    quiet-then w pass settles.mid last (all-quiet w pass settles.mid settles.numbers settles.splits) (ends-quiet w settles.mid last after.result settles.ends)
