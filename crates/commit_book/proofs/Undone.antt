-- What a step that was tried makes of a book.
use Rattle.std.proofs.Common.{◌≡◌, ℕ, ◌-◌, ◌<◌, ◌≤◌, Bool, true, false, List, [], ◌∷◌, ◌++◌, length, Option, None, Some, Ok, Err, inl, inr, refl, sym, ap, subst, ◌∙◌, arith}
use Rattle.std.specs.Prelude.{◌==◌}
use mathlib.Core.Bool.{true≢false}
use Rattle.bucket_versions.specs.Told.{Told}
use Rattle.bucket_versions.specs.declared.commit.Undone.{Undone}
use Rattle.bucket_versions.specs.declared.commit.Undone.TheVariants as undone
use Rattle.cell_format.specs.declared.cell.Cell.{Cell}
use Rattle.plain_list.specs.declared.ops.Op.{Op}
use Rattle.plain_list.specs.declared.ops.Answer.{Answer}
use Rattle.plain_list.specs.declared.entries.Entry.{Entry}
use Rattle.plain_list.specs.declared.entries.Entry.TheVariants.{Call, Fail}
use Rattle.plain_list.specs.declared.entries.Lost.{Lost}
use Rattle.plain_list.specs.declared.entries.Lost.TheVariants as lost
use Rattle.plain_list.specs.Answer.{answer_of, is_change}
use Rattle.plain_list.specs.History.{world_after, failed_cell}
use Rattle.plain_list.specs.State.{State, OpenSplit, IsLegal}
use Rattle.disk_trait.specs.Drive.{Drive, KeepsLaws}
use Rattle.log_state.specs.Changes.{lost_cells}
use Rattle.kept_log.specs.KeptView.{KeptView}
use Rattle.kept_log.specs.Journal.{cells_in, written_in, KeepsIn, RoseIn, LeavesEither, IsSinceIn}
use Rattle.kept_log.proofs.InJournal.{in-call, leaves-quiet}
use Rattle.kept_log.proofs.Waiting.{in-failed, in-most}
use Rattle.point_table.specs.TableView.{TableView}
use Rattle.point_table.specs.Updates.{TellsIf}
use Rattle.commit_book.specs.BookInside.{IsInside, book_of}
use Rattle.commit_book.specs.Events.{Events, with_entry}
use Rattle.commit_book.specs.IsBook.{most_events}
use Rattle.commit_book.specs.Refusals.{WouldChange, LeavesRefused, IsRefusedBy, IsMemoryOrDisk, most_cells}
use Rattle.commit_book.specs.declared.faults.BookFault.{BookFault}
use Rattle.commit_book.specs.SplitsView.{SplitsView}
use Rattle.commit_book.specs.Steps.{entry_of, fault_of, IsStep, CanStep, EndsStep, Takes, Loses}
use Rattle.commit_book.specs.declared.book.Book.TheInside.{Inside}
use Rattle.commit_book.specs.declared.steps.Step.{Step}
use Rattle.commit_book.proofs.BookStates.{inside-fail}
use Rattle.commit_book.proofs.EarlyReturns.{since-same}
use Rattle.commit_book.proofs.Limits.{most-le}
use Rattle.commit_book.proofs.UpdateCalls.{fewer_cells}

-- a book that took memory, or had none, with room for an entry of each open split
pub inside-reserved : {I D P : Type 0} (drive : D → Drive) (w : ℕ) (o : State) (b : Inside I D P) (splits : SplitsView) (history : Events) (n : ℕ) → IsInside drive w o b
    → splits.splits ≡ b.splits.splits → splits.begun ≡ b.splits.begun → history ≡ record b.history { room = n } → (failed_cell b.history.entries ≡ None → length b.splits.splits ≤ n)
    → IsInside {I = I} {P = P} drive w o (record { table = b.table; splits = splits; history = history; journal = b.journal; opening = b.opening })
inside-reserved {I = I} {P = P} drive w o b splits history n inside opens begun same enough =
    subst (λ (v : Events). IsInside {I = I} {P = P} drive w o (record { table = b.table; splits = splits; history = v; journal = b.journal; opening = b.opening })) (sym same) (record {
      opening = inside.opening;
      legal = inside.legal;
      world = inside.world;
      names = inside.names;
      splits = opens ∙ inside.splits;
      begun = begun ∙ inside.begun;
      bases = inside.bases;
      begins = inside.begins;
      few = inside.few;
      room = λ none. subst (λ (os : List OpenSplit). length os ≤ n) (sym opens) (enough none);
      on_log = inside.on_log;
    })

-- a step with a cell may be tried at a book that is going on and has room for it
pub can_step : {I D P : Type 0} (drive : D → Drive) (w : ℕ) (o : State) (b : Inside I D P) (events : Events) (step : Lost) (cell : Cell) → lost_cells step ≡ cell ∷ [] → IsInside drive w o b
    → failed_cell b.history.entries ≡ None → (cells_in b.journal == most_cells) ≡ false → events.entries ≡ b.history.entries → 0 < events.room → CanStep step events b.journal
can_step drive w o b events step cell has inside going room same promised = record {
  cell = cell;
  cell_is = has;
  going = in-failed drive w o b.history.entries b.journal inside.on_log ∙ going;
  room = fewer_cells (cells_in b.journal) (in-most drive w o b.history.entries b.journal inside.on_log) room;
  promised = promised;
  few = omega (arith, ap length same, inside.few, most-le b.history.kept);
}

module _ {I D P : Type 0} (drive : D → Drive) (w : ℕ) (o : State) (old : Inside I D P) (inside : IsInside drive w o old) (going : failed_cell old.history.entries ≡ None) where
  abbrev pub h : List Entry
  h = old.history.entries

  -- a book whose step was lost, or wasn't taken
  pub inside-undone : (A : Type 0) (table : TableView) (splits : SplitsView) (opening : State) (n : ℕ) (why : Undone) (a b : Step D) → length h < most_events old.history.kept → IsStep w o h a.lost
      → a.history.now ≡ record { entries = h; room = n; kept = old.history.kept } → a.journal.now ≡ old.journal → length old.splits.splits ≤ n
      → table ≡ old.table → splits.splits ≡ old.splits.splits → splits.begun ≡ old.splits.begun
      → Told {A = A} (Takes drive) (Loses drive) a b (Err why) → IsInside {I = I} {P = P} drive w o (record { table = table; splits = splits; history = b.history.now; journal = b.journal.now; opening = opening })
  inside-undone A table splits opening n undone.Lost a b few step events log room same opens begun told =
      let ends : EndsStep drive a.lost (Fail (written_in a.journal.now) a.lost) (record { entries = h; room = n; kept = old.history.kept }) b.history.now a.journal.now b.journal.now =
      subst (λ (v : Events). EndsStep drive a.lost (Fail (written_in a.journal.now) a.lost) v b.history.now a.journal.now b.journal.now) events told.ends in
      let entries : b.history.now.entries ≡ h ++ Fail (written_in a.journal.now) a.lost ∷ [] = ap (λ (v : Events). v.entries) ends.events in
      let kept = ends.keeps w o step (subst (λ (l : Option (KeptView D)). KeepsIn drive w o h l) (sym log) inside.on_log) in
      inside-fail drive w o old _ inside going (subst (λ (g : List Entry). KeepsIn drive w o g b.journal.now) (sym entries) kept) (subst (λ (l : Option (KeptView D)). IsSinceIn l b.journal.now) log ends.since)
      (ap (λ (v : Events). v.kept) ends.events) (written_in a.journal.now) a.lost few entries
      (ap (λ (t : TableView). t.world) same) (ap (λ (t : TableView). t.leaves) same) opens begun
  inside-undone A table splits opening n undone.Memory a b few step events log room same opens begun told =
      let entries : b.history.now.entries ≡ h = ap (λ (s : Step D). s.history.now.entries) told ∙ ap (λ (v : Events). v.entries) events in
      let rooms : b.history.now.room ≡ n = ap (λ (s : Step D). s.history.now.room) told ∙ ap (λ (v : Events). v.room) events in
      let kind : b.history.now.kept ≡ old.history.kept = ap (λ (s : Step D). s.history.now.kept) told ∙ ap (λ (v : Events). v.kept) events in
      let journal : b.journal.now ≡ old.journal = ap (λ (s : Step D). s.journal.now) told ∙ log in
      record {
        opening = inside.opening;
        legal = rw entries inside.legal;
        world = rw entries (ap (λ (t : TableView). t.world) same ∙ inside.world);
        names = rw (entries, same) inside.names;
        splits = rw entries (opens ∙ inside.splits);
        begun = rw entries (begun ∙ inside.begun);
        bases = rw (entries, same) inside.bases;
        begins = rw (entries, journal, kind) inside.begins;
        few = rw (entries, kind) inside.few;
        room = λ _. omega (arith, ap length opens, room, rooms);
        on_log = rw (entries, journal) inside.on_log;
      }

  -- at every moment of it a crash leaves the cells that stood there, or these and the step's own
  pub moments-undone : (A : Type 0) → ((d : D) → KeepsLaws (drive d)) → (n : ℕ) (why : Undone) (a b : Step D) → IsStep w o h a.lost → a.history.now ≡ record { entries = h; room = n; kept = old.history.kept } → a.journal.now ≡ old.journal
      → Told {A = A} (Takes drive) (Loses drive) a b (Err why) → LeavesEither drive w o h (entry_of a.lost) old.journal b.journal.now
  moments-undone A laws n undone.Lost a b step events log told =
      let ends : EndsStep drive a.lost (Fail (written_in a.journal.now) a.lost) (record { entries = h; room = n; kept = old.history.kept }) b.history.now a.journal.now b.journal.now =
      subst (λ (v : Events). EndsStep drive a.lost (Fail (written_in a.journal.now) a.lost) v b.history.now a.journal.now b.journal.now) events told.ends in
      subst (λ (l : Option (KeptView D)). LeavesEither drive w o h (entry_of a.lost) l b.journal.now) log
      (ends.any_moment w o step (subst (λ (l : Option (KeptView D)). KeepsIn drive w o h l) (sym log) inside.on_log))
  moments-undone A laws n undone.Memory a b step events log told =
      subst (λ (l : Option (KeptView D)). LeavesEither drive w o h (entry_of a.lost) old.journal l) (sym (ap (λ (s : Step D). s.journal.now) told ∙ log))
      (leaves-quiet drive w o h (entry_of a.lost) old.journal laws inside.on_log going)

  -- where the drive failed the book is closed, and else it is as it was
  pub refused-undone : (A : Type 0) (table : TableView) (n cell : ℕ) (why : Undone) (a b : Step D) → a.history.now ≡ record { entries = h; room = n; kept = old.history.kept } → a.journal.now ≡ old.journal → table ≡ old.table
      → WouldChange (book_of old) a.lost → cell ≡ written_in b.journal.now → Told {A = A} (Takes drive) (Loses drive) a b (Err why)
      → LeavesRefused drive a.lost (book_of old) (record { leaves = table.leaves; opening = old.opening; entries = b.history.now.entries; bucket = table.size; log = b.journal.now; kept = b.history.now.kept }) (fault_of why cell)
  refused-undone A table n cell undone.Lost a b events log same change cell_is told =
      let at : cell ≡ written_in a.journal.now = cell_is ∙ told.written in
      record {
        entries =
            ap (λ (v : Events). v.entries) told.ends.events ∙ ap (λ (v : Events). v.entries ++ Fail (written_in a.journal.now) a.lost ∷ []) events
            ∙ ap (λ m. h ++ Fail m a.lost ∷ []) (sym at);
        cell_is = at ∙ ap (λ (l : Option (KeptView D)). written_in l) log;
        leaves = ap (λ (t : TableView). t.leaves) same;
        rose = subst (λ (l : Option (KeptView D)). RoseIn drive l b.journal.now) log told.rose;
        change = change;
      }
  refused-undone A table n cell undone.Memory a b events log same change cell_is told =
      let entries : b.history.now.entries ≡ h = ap (λ (s : Step D). s.history.now.entries) told ∙ ap (λ (v : Events). v.entries) events in
      let kind : b.history.now.kept ≡ old.history.kept = ap (λ (s : Step D). s.history.now.kept) told ∙ ap (λ (v : Events). v.kept) events in
      let journal : b.journal.now ≡ old.journal = ap (λ (s : Step D). s.journal.now) told ∙ log in
      λ i. record { leaves = (same i).leaves; opening = old.opening; entries = entries i; bucket = (same i).size; log = journal i; kept = kind i }

  -- a step that was taken
  pub record Taken (step : Lost) (n : ℕ) (events : Events) (log : Option (KeptView D)) : Type 0 where
    pub entries : events.entries ≡ h ++ entry_of step ∷ []
    pub room : events.room ≡ n - 1
    pub kept : events.kept ≡ old.history.kept
    pub keeps : KeepsIn drive w o events.entries log
    pub since : IsSinceIn old.journal log
    pub moments : LeavesEither drive w o h (entry_of step) old.journal log

  pub taken : (n : ℕ) (a b : Step D) → IsStep w o h a.lost → a.history.now ≡ record { entries = h; room = n; kept = old.history.kept } → a.journal.now ≡ old.journal → Takes drive a b → Taken a.lost n b.history.now b.journal.now
  taken n a b step events log told =
      let ends : EndsStep drive a.lost (entry_of a.lost) (record { entries = h; room = n; kept = old.history.kept }) b.history.now a.journal.now b.journal.now =
      subst (λ (v : Events). EndsStep drive a.lost (entry_of a.lost) v b.history.now a.journal.now b.journal.now) events told.ends in
      let entries : b.history.now.entries ≡ h ++ entry_of a.lost ∷ [] = ap (λ (v : Events). v.entries) ends.events in
      let kept = subst (λ (l : Option (KeptView D)). KeepsIn drive w o h l) (sym log) inside.on_log in
      record {
        entries = entries;
        room = ap (λ (v : Events). v.room) ends.events;
        kept = ap (λ (v : Events). v.kept) ends.events;
        keeps = subst (λ (g : List Entry). KeepsIn drive w o g b.journal.now) (sym entries) (ends.keeps w o step kept);
        since = subst (λ (l : Option (KeptView D)). IsSinceIn l b.journal.now) log ends.since;
        moments = subst (λ (l : Option (KeptView D)). LeavesEither drive w o h (entry_of a.lost) l b.journal.now) log (ends.any_moment w o step kept);
      }

  -- a call that was noted, with its cell or without one
  pub noted : ((d : D) → KeepsLaws (drive d)) → (session row : ℕ) (op : Op) (n : ℕ) (change : Bool) (answer : Answer) (a b : Step D) (events : Events)
      → (is_change (answer_of (world_after o.world h) op) ≡ true → IsStep w o h a.lost) → IsLegal w o (h ++ Call session row op ∷ []) → a.lost ≡ lost.Call session row op
      → a.history.now ≡ record { entries = h; room = n; kept = old.history.kept } → a.journal.now ≡ old.journal → is_change (answer_of (world_after o.world h) op) ≡ change → is_change answer ≡ change
      → TellsIf (Takes drive) (Loses drive) change a b (Ok answer) → (is_change answer ≡ true → events ≡ b.history.now)
      → (is_change answer ≡ false → events ≡ with_entry (Call session row op) b.history.now)
      → Taken (lost.Call session row op) n events b.journal.now
  noted laws session row op n true answer a b events step legal is_call before log now same told kept quiet =
      let it = taken n a b (step now) before log told in
      let last : Taken (lost.Call session row op) n b.history.now b.journal.now = subst (λ (l : Lost). Taken l n b.history.now b.journal.now) is_call it in
      subst (λ (v : Events). Taken (lost.Call session row op) n v b.journal.now) (sym (kept same)) last
  noted laws session row op n false answer a b events step legal is_call before log now same told kept quiet =
      let pushed : events ≡ record { entries = h ++ Call session row op ∷ []; room = n - 1; kept = old.history.kept } =
      quiet same ∙ ap (λ (s : Step D). with_entry (Call session row op) s.history.now) told ∙ ap (with_entry (Call session row op)) before in
      let journal : b.journal.now ≡ old.journal = ap (λ (s : Step D). s.journal.now) told ∙ log in
      let entries : events.entries ≡ h ++ Call session row op ∷ [] = ap (λ (v : Events). v.entries) pushed in
      record {
        entries = entries;
        room = ap (λ (v : Events). v.room) pushed;
        kept = ap (λ (v : Events). v.kept) pushed;
        keeps = rw (entries, journal) (in-call drive w o h session row op old.journal legal now inside.on_log);
        since = subst (λ (l : Option (KeptView D)). IsSinceIn old.journal l) (sym journal) (since-same old.journal);
        moments = rw journal (leaves-quiet drive w o h (Call session row op) old.journal laws inside.on_log going);
      }

-- an update that wasn't made would have been a change
pub would_change : {C : Type 0} (A : Type 0) (done lost : C → C → Type 0) (change : Bool) (a b : C) (why : Undone) → TellsIf {A = A} done lost change a b (Err why) → (change ≡ true) × Told {A = A} done lost a b (Err why)
would_change A done lost true a b why told = (refl, told)
would_change A done lost false a b why told = absurd told

-- one that was made, and is none, took no step
pub quiet_told : {C A : Type 0} (done lost : C → C → Type 0) (change : Bool) (a b : C) (answer : A) → change ≡ false → TellsIf done lost change a b (Ok answer) → b ≡ a
quiet_told done lost true a b answer none told = absurd (true≢false none)
quiet_told done lost false a b answer none told = told

-- a step that was lost, or wasn't taken, behind a check that was passed
pub refused_freely : (A : Type 0) (o : Option BookFault) (why : Undone) (cell : ℕ) → o ≡ None → IsRefusedBy {A = A} IsMemoryOrDisk o (Err (fault_of why cell))
refused_freely A (Some cause) why cell none = cc none
refused_freely A None undone.Lost cell none = inr tt
refused_freely A None undone.Memory cell none = inl refl

-- it leaves the opening of the log
pub since-undone : {D : Type 0} (drive : D → Drive) (A : Type 0) (log : Option (KeptView D)) (why : Undone) (a b : Step D) → a.journal.now ≡ log → Told {A = A} (Takes drive) (Loses drive) a b (Err why)
    → IsSinceIn log b.journal.now
since-undone drive A log undone.Lost a b before told = subst (λ (l : Option (KeptView _)). IsSinceIn l b.journal.now) before told.ends.since
since-undone drive A log undone.Memory a b before told =
    subst (λ (l : Option (KeptView _)). IsSinceIn log l) (sym (ap (λ (s : Step _). s.journal.now) told ∙ before)) (since-same log)

-- and so does an update that was made
pub since-told : {D A : Type 0} (drive : D → Drive) (change : Bool) (log : Option (KeptView D)) (answer : A) (a b : Step D) → a.journal.now ≡ log → TellsIf (Takes drive) (Loses drive) change a b (Ok answer)
    → IsSinceIn log b.journal.now
since-told drive true log answer a b before told = subst (λ (l : Option (KeptView _)). IsSinceIn l b.journal.now) before told.ends.since
since-told drive false log answer a b before told =
    subst (λ (l : Option (KeptView _)). IsSinceIn log l) (sym (ap (λ (s : Step _). s.journal.now) told ∙ before)) (since-same log)

-- and the kind of the history
pub kind-undone : {D : Type 0} (drive : D → Drive) (A : Type 0) (events : Events) (why : Undone) (a b : Step D) → a.history.now ≡ events → Told {A = A} (Takes drive) (Loses drive) a b (Err why)
    → b.history.now.kept ≡ events.kept
kind-undone drive A events undone.Lost a b before told = ap (λ (v : Events). v.kept) told.ends.events ∙ ap (λ (v : Events). v.kept) before
kind-undone drive A events undone.Memory a b before told = ap (λ (s : Step _). s.history.now.kept) told ∙ ap (λ (v : Events). v.kept) before

pub kind-told : {D A : Type 0} (drive : D → Drive) (change : Bool) (events : Events) (answer : A) (a b : Step D) → a.history.now ≡ events → TellsIf (Takes drive) (Loses drive) change a b (Ok answer)
    → b.history.now.kept ≡ events.kept
kind-told drive true events answer a b before told = ap (λ (v : Events). v.kept) told.ends.events ∙ ap (λ (v : Events). v.kept) before
kind-told drive false events answer a b before told = ap (λ (s : Step _). s.history.now.kept) told ∙ ap (λ (v : Events). v.kept) before

pub kind-quiet : (change : Bool) (e : Entry) (old new : Events) → (change ≡ true → new ≡ old) → (change ≡ false → new ≡ with_entry e old) → new.kept ≡ old.kept
kind-quiet true e old new noted quiet = ap (λ (v : Events). v.kept) (noted refl)
kind-quiet false e old new noted quiet = ap (λ (v : Events). v.kept) (quiet refl)
