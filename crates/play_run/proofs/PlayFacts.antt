-- What the ways that a play goes tell of its status.
use Rattle.std.proofs.Common.{◌≡◌, ◌⊎◌, inl, inr, ◌∙◌, ℕ, List, Option, Some, None, Result, Ok, Err, refl, sym, ap, subst, ⊎_elim}
use Rattle.causes.specs.Causes.{Rose}
use Rattle.disk_trait.specs.Drive.{Drive}
use Rattle.plain_list.specs.declared.entries.Entry.{Entry}
use Rattle.csv_rows.specs.declared.rows.InRow.{InRow}
use Rattle.io_edge.specs.Streams.{Input}
use Rattle.run_ends.specs.declared.refusals.Refusal.{Refusal}
use Rattle.run_ends.specs.declared.refusals.Refusal.TheVariants as refusal
use Rattle.play_run.specs.declared.reports.Report.{Report}
use Rattle.play_run.specs.declared.reports.Report.TheVariants as reports
use Rattle.run_ends.specs.Ends.{Ends, Done, Targets}
use Rattle.play_run.specs.Origin.{Origin}
use Rattle.run_ends.specs.Judged.{judged}
use Rattle.run_ends.specs.Status.{status_of}
use Rattle.run_ends.specs.Ending.{EndsRefused}
use Rattle.run_ends.specs.LogFaults.{log_refusal}
use Rattle.run_ends.specs.Inputs.{IsInputCause}
use Rattle.play_run.specs.Playing.{IsGood, FollowsLog, HasNoBook, IsStop, EndsRows, PlaysRows, IsInputUnread, IsRead, Goes, Plays}

err-same : (rows : Result (List InRow) Refusal) (a b : Refusal) → rows ≡ Err a → rows ≡ Err b → a ≡ b
err-same rows a b first second = cc (first, second)

ok-err : (rows : Result (List InRow) Refusal) (l : List InRow) (a : Refusal) → rows ≡ Ok l → rows ≡ Err a → ⊥
ok-err rows l a first second = cc (first, second)

-- how a play ends that read no rows: the source failed, memory ran out, or the bytes give a refusal
abbrev EndsUnread : Input → Input → ℕ → List ℕ → Type 0
EndsUnread old new status bytes = ((status ≡ 5) × Rose old.faults new.faults) ⊎ ((status ≡ 9) ⊎ ((why : Refusal) × (judged bytes ≡ Err why) × (status ≡ status_of why)))

input-status : (old new : Input) (why : Refusal) (bytes : List ℕ) → old.left ≡ Some bytes → IsInputCause old new why → EndsUnread old new (status_of why) bytes
input-status old new refusal.Source bytes told c = inl (refl, c)
input-status old new refusal.Memory bytes told c = inr (inl refl)
input-status old new refusal.Header bytes told c = inr (inr (_, c bytes told, refl))
input-status old new (refusal.Csv row) bytes told c = inr (inr (_, c bytes told, refl))
input-status old new (refusal.Field row column) bytes told c = inr (inr (_, c bytes told, refl))
input-status old new refusal.LongInput bytes told c = inr (inr (_, c bytes told, refl))
input-status old new refusal.ManyRows bytes told c = inr (inr (_, c bytes told, refl))
input-status old new refusal.Usage bytes told c = absurd c
input-status old new refusal.NotLog bytes told c = absurd c
input-status old new (refusal.OldLog version w) bytes told c = absurd c
input-status old new (refusal.Damaged cell cause) bytes told c = absurd c
input-status old new (refusal.Disk cell) bytes told c = absurd c
input-status old new refusal.LongLog bytes told c = absurd c
input-status old new refusal.LongEvents bytes told c = absurd c
input-status old new (refusal.InUse len) bytes told c = absurd c
input-status old new (refusal.Strange cell) bytes told c = absurd c

unread-status : {D : Type 0} (before after : Input) (old new : Targets D) (status : ℕ) (h : List Entry) → IsInputUnread before after old new status h → (bytes : List ℕ) → before.left ≡ Some bytes → EndsUnread before after status bytes
unread-status before after old new status h unread bytes told =
    let (why, cause, refuses) = unread.refused in subst (λ (n : ℕ). EndsUnread before after n bytes) (sym refuses.status_is) (input-status before after why bytes told cause)

plays-input : {S D : Type 0} (log : Option (List ℕ)) (size : ℕ) (old new : Ends S D) (status : ℕ) (h : List Entry) → Goes log size old.input new.input old.to new.to status h → (bytes : List ℕ) (why : Refusal) → old.input.left ≡ Some bytes → judged bytes ≡ Err why
    → (status ≡ status_of why) ⊎ ((status ≡ 5) ⊎ (status ≡ 9))
plays-input log size old new status h (inr read) bytes why told bad = absurd (ok-err (judged bytes) read.rows why (read.read.rows_are bytes told) bad)
plays-input log size old new status h (inl unread) bytes why told bad = by_end (unread-status old.input new.input old.to new.to status h unread bytes told)
  where
    by_end : EndsUnread old.input new.input status bytes → (status ≡ status_of why) ⊎ ((status ≡ 5) ⊎ (status ≡ 9))
    by_end (inl (five, rose)) = inr (inl five)
    by_end (inr (inl nine)) = inr (inr nine)
    by_end (inr (inr (r, gives, is))) = inl (is ∙ ap status_of (err-same (judged bytes) r why gives bad))

-- good input and no fault of the source: rows are read, or memory ran out
read-or-memory : {S D : Type 0} (log : Option (List ℕ)) (size : ℕ) (old new : Ends S D) (status : ℕ) (h : List Entry) → Goes log size old.input new.input old.to new.to status h → (bytes : List ℕ) (rows : List InRow) → old.input.left ≡ Some bytes → judged bytes ≡ Ok rows
    → (Rose old.input.faults new.input.faults → ⊥) → IsRead log size old.input new.input old.to new.to status h ⊎ (status ≡ 9)
read-or-memory log size old new status h (inr read) bytes rows told good calm = inl read
read-or-memory log size old new status h (inl unread) bytes rows told good calm = by_end (unread-status old.input new.input old.to new.to status h unread bytes told)
  where
    by_end : EndsUnread old.input new.input status bytes → IsRead log size old.input new.input old.to new.to status h ⊎ (status ≡ 9)
    by_end (inl (five, rose)) = absurd (calm rose)
    by_end (inr (inl nine)) = inr nine
    by_end (inr (inr (r, gives, is))) = absurd (ok-err (judged bytes) rows r good gives)

-- over a log
module _ {D : Type 0} (report : Report) (size : ℕ) (rows : List InRow) (old new : Targets D) (status : ℕ) (h : List Entry) where
  no-book-memory : (log : Option (List ℕ)) → IsGood log old.drive new.drive → (why : Refusal) → HasNoBook log old new why → why ≡ refusal.Memory
  no-book-memory None good why none = none.0
  no-book-memory (Some file) good why none = none.whole good

  stop-status : (log : Option (List ℕ)) (from : Origin) → IsGood log old.drive new.drive → (why : Refusal) → IsStop log from rows old.drive new.drive h why → status_of why ≡ 9
  stop-status log from good refusal.Memory stop = refl
  stop-status None from good (refusal.Disk (Some cell)) stop = absurd stop
  stop-status (Some file) from good (refusal.Disk (Some cell)) stop = absurd (good.calm stop.rose)
  stop-status log from good (refusal.Disk None) stop = absurd stop
  stop-status log from good refusal.Usage stop = absurd stop
  stop-status log from good refusal.Header stop = absurd stop
  stop-status log from good (refusal.Csv row) stop = absurd stop
  stop-status log from good (refusal.Field row column) stop = absurd stop
  stop-status log from good refusal.NotLog stop = absurd stop
  stop-status log from good (refusal.OldLog version w) stop = absurd stop
  stop-status log from good (refusal.Damaged cell cause) stop = absurd stop
  stop-status log from good refusal.Source stop = absurd stop
  stop-status log from good refusal.LongInput stop = absurd stop
  stop-status log from good refusal.ManyRows stop = absurd stop
  stop-status log from good refusal.LongLog stop = absurd stop
  stop-status log from good refusal.LongEvents stop = absurd stop
  stop-status log from good (refusal.InUse len) stop = absurd stop
  stop-status log from good (refusal.Strange cell) stop = absurd stop

  pub rows-done : (log : Option (List ℕ)) → PlaysRows report log size rows old new status h → (Rose old.output.faults new.output.faults → ⊥) → IsGood log old.drive new.drive → (status ≡ 0) ⊎ (status ≡ 9)
  rows-done log (inl unopened) quiet good = let (why, none, refuses) = unopened.refused in inr (refuses.status_is ∙ ap status_of (no-book-memory log good why none))
  rows-done log (inr answered) quiet good = by_end answered.ends
    where
      by_end : EndsRows (IsStop log answered.from rows old.drive new.drive h) status old.output new.output → (status ≡ 0) ⊎ (status ≡ 9)
      by_end (inl (all, same)) = inl all
      by_end (inr (inl (six, rose))) = absurd (quiet rose)
      by_end (inr (inr (why, stop, refuses))) = inr (refuses.status_is ∙ stop-status log answered.from good why stop)

  pub rows-log : (log : Option (List ℕ)) → PlaysRows report log size rows old new status h → FollowsLog log old.drive new.drive status
  rows-log None plays = tt
  rows-log (Some file) (inl unopened) = λ bytes fault told shown at calm.
      let (why, none, refuses) = unopened.refused in
      ⊎_elim (λ is. inl (refuses.status_is ∙ ap status_of is)) (λ memory. inr (refuses.status_is ∙ ap status_of memory)) (none.exact bytes fault told shown at calm)
  rows-log (Some file) (inr answered) = λ bytes fault told shown at calm. absurd (answered.book bytes fault told shown at)

pub nine-log : (log : Option (List ℕ)) (old new : Drive) (status : ℕ) → status ≡ 9 → FollowsLog log old new status
nine-log None old new status nine = tt
nine-log (Some file) old new status nine = λ bytes fault told shown at calm. inr nine

-- what is promised of a play
pub plays-of : {S D : Type 0} (log : Option (List ℕ)) (size : ℕ) (done : Done (Ends S D)) → done.new.to.other ≡ done.old.to.other → Goes log size done.old.input done.new.input done.old.to done.new.to done.status done.history → Plays log size done
plays-of log size done other goes = record {
  goes = goes;
  other = other;
  input = plays-input log size done.old done.new done.status done.history goes;
  follows = λ bytes rows told good calm. followed (read-or-memory log size done.old done.new done.status done.history goes bytes rows told good calm);
  complete = λ bytes rows told good calm quiet sound. all_lines (read-or-memory log size done.old done.new done.status done.history goes bytes rows told good calm) quiet sound;
}
  where
    followed : IsRead log size done.old.input done.new.input done.old.to done.new.to done.status done.history ⊎ (done.status ≡ 9) → FollowsLog log done.old.to.drive done.new.to.drive done.status
    followed (inl read) = rows-log reports.Lines size read.rows done.old.to done.new.to done.status done.history log read.plays
    followed (inr nine) = nine-log log done.old.to.drive done.new.to.drive done.status nine

    all_lines : IsRead log size done.old.input done.new.input done.old.to done.new.to done.status done.history ⊎ (done.status ≡ 9) → (Rose done.old.to.output.faults done.new.to.output.faults → ⊥) → IsGood log done.old.to.drive done.new.to.drive → (done.status ≡ 0) ⊎ (done.status ≡ 9)
    all_lines (inl read) quiet good = rows-done reports.Lines size read.rows done.old.to done.new.to done.status done.history log read.plays quiet good
    all_lines (inr nine) quiet good = inr nine
