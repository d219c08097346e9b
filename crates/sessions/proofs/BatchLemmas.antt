-- Batches, as their passes know them.
use Rattle.std.proofs.Common.{◌≡◌, inl, inr, ℕ, zero, suc, ◌+◌, ◌-◌, ◌<◌, ◌≤◌, Bool, true, false, cond, List, [], ◌∷◌, ◌++◌, length, take, Option, Some, None, Result, Ok, Err, refl, sym, ap, subst, ◌∙◌, arith, append_assoc, length-append}
use Rattle.std.proofs.lemmas.List.{append-nil, length-take-le}
use Rattle.std.specs.Prelude.{IfErr, IfOk, nat_lt}
use Rattle.std.specs.List.{AllByRecursion, list_any, range_with_len}
use mathlib.Core.List.{IsPrefix}
use Rattle.plain_list.specs.declared.ops.Op.{Op}
use Rattle.plain_list.specs.declared.entries.Entry.{Entry}
use Rattle.plain_list.specs.declared.entries.Entry.TheVariants.{Call, Fail}
use Rattle.plain_list.specs.declared.entries.Lost.TheVariants as lost
use Rattle.plain_list.specs.Answer.{answer_of, after_of, is_change}
use Rattle.plain_list.specs.Batch.{answers_to, batch_calls, batch_fails}
use Rattle.plain_list.specs.History.{world_after, call_count, failed_cell}
use Rattle.plain_list.specs.World.{World}
use Rattle.disk_trait.specs.Drive.{Drive}
use Rattle.kept_log.specs.Journal.{cells_in}
use Rattle.commit_book.specs.Batches.{RepliesAll, LeavesRefusedAll, batch_refusal, most_changes}
use Rattle.commit_book.specs.BookView.{BookView}
use Rattle.commit_book.specs.IsBook.{AreBooks, most_events}
use Rattle.commit_book.specs.Refusals.{IsRefusedBy, IsMemoryOrDisk, IsDisk, closed_refusal, most_cells}
use Rattle.commit_book.specs.declared.book.batches.BatchDone.{BatchDone}
use Rattle.commit_book.specs.declared.faults.BookFault.{BookFault}
use Rattle.commit_book.specs.declared.faults.BookFault.TheVariants as book
use Rattle.book_lock.specs.Pass.{Known}
use Rattle.book_lock.specs.declared.origin.Origin.{Origin}
use Rattle.sessions.specs.Batches.{Applied, BatchLeaves, EndsNone, HasLost, IsApplied, MayFail, MayNoteAll, batch_cause, has_added_all, has_given_all}
use Rattle.sessions.specs.Calls.{IsCallFault, call_fault}
use Rattle.sessions.specs.Shared.{origin_of, waits_in}
use Rattle.sessions.specs.Splits.{SamePass}
use Rattle.sessions.specs.Steps.{WasTaken, IsCount, has_seen}
use Rattle.sessions.specs.declared.faults.CallFault.{CallFault}
use Rattle.sessions.specs.declared.faults.CallFault.TheVariants as call
use Rattle.sessions.proofs.CallLemmas.{AreCauses, causes-first, causes-if, causes-map, free-call, full-seen, refused-cause}
use Rattle.sessions.proofs.StepLemmas.{count-taken, written-all, prefix-later, same-seen}

-- One more number in a row of numbers.
pub range_with_len-suc : (a n : ℕ) → range_with_len a (suc n) ≡ range_with_len a n ++ (a + n) ∷ []
range_with_len-suc a zero = ap (λ (x : ℕ). x ∷ []) (omega arith)
range_with_len-suc a (suc n) = let more = range_with_len-suc (a + 1) n in let same : a + 1 + n ≡ a + suc n = omega arith in ap (λ (l : List ℕ). a ∷ l) (more ∙ ap (λ (x : ℕ). range_with_len (a + 1) n ++ x ∷ []) same)

-- A pass has noted one entry more of those from `first` on.
pub noted-more : (took mid new : Known) (entries : List Entry) (first at : ℕ) → first ≤ at → at ≤ length entries → mid ≡ record took { seen = take at entries; own = took.own ++ range_with_len first (at - first) }
    → new ≡ record mid { seen = take (length mid.seen + 1) entries; own = mid.own ++ length mid.seen ∷ [] } → new ≡ record took { seen = take (at + 1) entries; own = took.own ++ range_with_len first (at + 1 - first) }
noted-more took mid new entries first at from below mid_is new_is =
    let count : length mid.seen ≡ at = ap (λ (k : Known). length k.seen) mid_is ∙ length-take-le at entries below in
    let more : at + 1 - first ≡ suc (at - first) = omega arith in
    let here : first + (at - first) ≡ at = omega arith in
    let range : range_with_len first (at - first) ++ at ∷ [] ≡ range_with_len first (at + 1 - first) =
    ap (λ (x : ℕ). range_with_len first (at - first) ++ x ∷ []) (sym here) ∙ sym (range_with_len-suc first (at - first)) ∙ sym (ap (range_with_len first) more) in
    let own : mid.own ++ length mid.seen ∷ [] ≡ took.own ++ range_with_len first (at + 1 - first) =
    (λ i. (mid_is i).own ++ count i ∷ []) ∙ append_assoc took.own (range_with_len first (at - first)) (at ∷ []) ∙ ap (λ (l : List ℕ). took.own ++ l) range in
    new_is ∙ (λ i. record (mid_is i) { seen = take (count i + 1) entries; own = own i })

-- The entry at a position after those that were seen, and those after it.
pub next-new : (seen es : List Entry) (at : ℕ) → AllByRecursion EndsNone es → length seen ≤ at → at < length (seen ++ es) → (e : Entry) × (rest : List Entry) × (seen ++ es ≡ take at (seen ++ es) ++ e ∷ rest) × EndsNone e
next-new [] [] at all from below = absurd (omega arith)
next-new [] (e ∷ es) zero all from below = (e, es, refl, all.0)
next-new [] (e ∷ es) (suc at) all from below =
    let t = next-new [] es at all.1 (omega arith) (omega arith) in
    (t.0, t.1, ap (λ (l : List Entry). e ∷ l) t.2, t.3)
next-new (x ∷ seen) es zero all from below = absurd (omega arith)
next-new (x ∷ seen) es (suc at) all from below =
    let t = next-new seen es at all (omega arith) (omega arith) in
    (t.0, t.1, ap (λ (l : List Entry). x ∷ l) t.2, t.3)

-- A call and a failed append end no split.
calls-end : (session row : ℕ) (ops : List Op) → AllByRecursion EndsNone (batch_calls session row ops)
calls-end session row [] = tt
calls-end session row (op ∷ ops) = (call-ends, calls-end session (row + 1) ops)
  where
    call-ends : EndsNone (Call session row op)
    call-ends n (inl is) = absurd (cc is)
    call-ends n (inr is) = absurd (cc is)

fails-end : (cell : ℕ) (world : World) (session row : ℕ) (ops : List Op) → AllByRecursion EndsNone (batch_fails cell world session row ops)
fails-end cell world session row [] = tt
fails-end cell world session row (op ∷ ops) = go (is_change (answer_of world op)) (fails-end cell (after_of world op) session (row + 1) ops)
  where
    fail-ends : EndsNone (Fail cell (lost.Call session row op))
    fail-ends n (inl is) = absurd (cc is)
    fail-ends n (inr is) = absurd (cc is)

    go : (b : Bool) → AllByRecursion EndsNone (batch_fails cell (after_of world op) session (row + 1) ops)
        → AllByRecursion EndsNone (cond b (Fail cell (lost.Call session row op) ∷ []) [] ++ batch_fails cell (after_of world op) session (row + 1) ops)
    go true rest = (fail-ends, rest)
    go false rest = rest

-- The pass after its lock was given back, by the entries that were added.
all-added : (old took back : Known) (entries es : List Entry) → old.holds ≡ false → took ≡ record old { seen = took.seen; holds = true } → entries ≡ took.seen ++ es → back ≡ has_given_all took entries → back ≡ has_added_all old took.seen es
all-added old took back entries es off took_is entries_is back_is =
    let long = ap length entries_is ∙ length-append took.seen es in
    let count : length entries - length took.seen ≡ length es = omega arith in
    back_is ∙ (λ i. record (took_is i) { seen = entries_is i; own = (took_is i).own ++ range_with_len (length took.seen) (count i); holds = sym off i })

all-seen : (old took back : Known) (entries : List Entry) → old.holds ≡ false → took ≡ record old { seen = took.seen; holds = true } → entries ≡ took.seen → back ≡ has_given_all took entries → back ≡ has_seen old took.seen
all-seen old took back entries off took_is entries_is back_is =
    all-added old took back entries [] off took_is (entries_is ∙ sym (append-nil took.seen)) back_is
    ∙ (λ i. record old { seen = append-nil took.seen i; own = append-nil old.own i })

-- No cause of a batch is one that a call doesn't know.
batch-causes : (origin : Origin) (ops : List Op) (cells : ℕ) (before : List Entry) → AreCauses IsCallFault (batch_cause origin ops cells before)
batch-causes origin ops cells before =
    causes-first IsCallFault (closed_refusal before) _ (causes-map IsCallFault book.Closed (failed_cell before) (λ n. tt))
    (causes-first IsCallFault _ _ (causes-if IsCallFault (nat_lt (most_events origin.kept) (length before + length ops)) book.HistoryFull tt) (causes-if IsCallFault (nat_lt most_cells (cells + most_changes ops)) book.LogFull tt))

disk-fails : (fault : BookFault) → IsDisk fault → MayFail (call_fault fault)
disk-fails (book.Disk cell) is = tt
disk-fails (book.Closed cell) is = absurd is
disk-fails book.HistoryFull is = absurd is
disk-fails book.LogFull is = absurd is
disk-fails book.Memory is = absurd is
disk-fails (book.Room cells events) is = absurd is
disk-fails (book.Splitting number) is = absurd is
disk-fails book.Deep is = absurd is
disk-fails book.NoLeaf is = absurd is
disk-fails (book.Stale number) is = absurd is
disk-fails (book.NotOpen number) is = absurd is

free-fails : (fault : BookFault) → IsMemoryOrDisk fault → MayFail (call_fault fault)
free-fails fault (inl memory) = subst (λ (f : BookFault). MayFail (call_fault f)) (sym memory) tt
free-fails fault (inr disk) = disk-fails fault disk

applied-none : (cause : Option BookFault) (done : BatchDone) → IsRefusedBy {A = BatchDone} IsMemoryOrDisk cause (Ok done) → IsApplied cause (Ok done)
applied-none None done refused = tt
applied-none (Some cause) done refused = absurd (cc refused)

applied-some : (cause : Option BookFault) (fault : BookFault) → IsRefusedBy {A = BatchDone} IsMemoryOrDisk cause (Err fault) → IsApplied cause (Err (call_fault fault))
applied-some None fault refused = free-fails fault refused
applied-some (Some cause) fault refused = let same : fault ≡ cause = cc refused in ap (λ (f : BookFault). Err (call_fault f)) same

module _ {D : Type 0} (drive : D → Drive) (w : ℕ) (b mid : BookView D) (old took back : Known) (session row : ℕ) (ops : List Op) (was : WasTaken drive b old took) (books : AreBooks drive w b mid) where
  behind : (es : List Entry) → mid.entries ≡ b.entries ++ es → mid.entries ≡ took.seen ++ es
  behind es is = is ∙ ap (λ (l : List Entry). l ++ es) was.entries

  kept : mid ≡ b → mid.entries ≡ took.seen
  kept is = ap (λ (x : BookView D). x.entries) is ∙ was.entries

  none-new : mid ≡ b → MayNoteAll took.seen mid.entries
  none-new is = ([], kept is ∙ sym (append-nil took.seen), tt)

  -- the new entries may be noted
  pub may-note-all : (r : Result BatchDone BookFault) → IfOk r (λ d. RepliesAll w b mid session row ops d.place d.answers.items d.full) → IfErr r (LeavesRefusedAll drive session row ops b mid) → MayNoteAll took.seen mid.entries
  may-note-all (Ok d) ok err = (batch_calls session row ops, behind (batch_calls session row ops) ok.entries, calls-end session row ops)
  may-note-all (Err (book.Disk cell)) ok err =
      let es : List Entry = batch_fails cell (world_after b.opening.world b.entries) session row ops in
      (es, behind es err.entries, fails-end cell (world_after b.opening.world b.entries) session row ops)
  may-note-all (Err (book.Closed cell)) ok err = none-new err
  may-note-all (Err book.HistoryFull) ok err = none-new err
  may-note-all (Err book.LogFull) ok err = none-new err
  may-note-all (Err book.Memory) ok err = none-new err
  may-note-all (Err (book.Room cells events)) ok err = none-new err
  may-note-all (Err (book.Splitting number)) ok err = none-new err
  may-note-all (Err book.Deep) ok err = none-new err
  may-note-all (Err book.NoLeaf) ok err = none-new err
  may-note-all (Err (book.Stale number)) ok err = none-new err
  may-note-all (Err (book.NotOpen number)) ok err = none-new err

  world-is : world_after b.opening.world b.entries ≡ world_after old.origin.world took.seen
  world-is = λ i. world_after (was.origin i).world (was.entries i)

  counted-at : IsCount old.origin took.seen (cells_in b.log)
  counted-at = count-taken drive w b old took books.before was

  refused-at : (r : Result BatchDone BookFault) → IsRefusedBy IsMemoryOrDisk (batch_refusal b ops) r → IsRefusedBy IsMemoryOrDisk (batch_cause old.origin ops (cells_in b.log) took.seen) r
  refused-at r refused = subst (λ (o : Option BookFault). IsRefusedBy IsMemoryOrDisk o r) (λ i. batch_cause (was.origin i) ops (cells_in b.log) (was.entries i)) refused

  -- the fault is one that a call knows
  pub batch-fault : (fault : BookFault) → IsRefusedBy {A = BatchDone} IsMemoryOrDisk (batch_refusal b ops) (Err fault) → IsCallFault fault
  batch-fault fault refused = refused-cause BatchDone IsMemoryOrDisk IsCallFault (batch_cause (origin_of drive b) ops (cells_in b.log) b.entries) fault (batch-causes (origin_of drive b) ops (cells_in b.log) b.entries) (free-call fault) refused

  added-all : (es : List Entry) → mid.entries ≡ b.entries ++ es → back ≡ has_given_all took mid.entries → back ≡ has_added_all old took.seen es
  added-all es is given = all-added old took back mid.entries es was.off was.took_is (behind es is) given

  seen-all : mid ≡ b → back ≡ has_given_all took mid.entries → back ≡ has_seen old took.seen
  seen-all is given = all-seen old took back mid.entries was.off was.took_is (kept is) given

  lost-all : (cell : ℕ) → LeavesRefusedAll drive session row ops b mid (book.Disk cell) → back ≡ has_given_all took mid.entries → HasLost session row ops old back took.seen cell
  lost-all cell err given = record {
    added =
        added-all (batch_fails cell (world_after b.opening.world b.entries) session row ops) err.entries given
        ∙ ap (λ (list : World). has_added_all old took.seen (batch_fails cell list session row ops)) world-is;
    cell_is = λ once still. err.cell_is ∙ written-all drive w b books.before (ap waits_in was.origin ∙ once) ∙ counted-at still;
    change = subst (λ (list : World). list_any is_change (answers_to list ops) ≡ true) world-is err.change;
  }

  left-all : (fault : BookFault) → IsCallFault fault → LeavesRefusedAll drive session row ops b mid fault → back ≡ has_given_all took mid.entries → BatchLeaves w session row ops old took.seen back (Err (call_fault fault))
  left-all (book.Disk cell) is err given = lost-all cell err given
  left-all (book.Closed cell) is err given = seen-all err given
  left-all book.HistoryFull is err given = seen-all err given
  left-all book.LogFull is err given = seen-all err given
  left-all book.Memory is err given = seen-all err given
  left-all (book.Room cells events) is err given = absurd is
  left-all (book.Splitting number) is err given = absurd is
  left-all book.Deep is err given = absurd is
  left-all book.NoLeaf is err given = absurd is
  left-all (book.Stale number) is err given = absurd is
  left-all (book.NotOpen number) is err given = absurd is

  -- a batch that was done
  pub applied-ok : (d : BatchDone) → RepliesAll w b mid session row ops d.place d.answers.items d.full → IsRefusedBy {A = BatchDone} IsMemoryOrDisk (batch_refusal b ops) (Ok d) → back ≡ has_given_all took mid.entries
      → Applied w session row ops old back (Ok d)
  applied-ok d ok refused given =
      let seen : back.seen ≡ mid.entries = ap (λ (k : Known). k.seen) given in
      let origin : back.origin ≡ old.origin = ap (λ (k : Known). k.origin) given ∙ ap (λ (k : Known). k.origin) was.took_is in
      record {
        before = took.seen;
        later = was.later;
        alone = was.alone;
        cells = cells_in b.log;
        counted = counted-at;
        answered = applied-none (batch_cause old.origin ops (cells_in b.log) took.seen) d (refused-at (Ok d) refused);
        leaves = (
          added-all (batch_calls session row ops) ok.entries given,
          record {
            place_is = ok.place_is ∙ ap call_count (sym seen);
            answers_are = ok.answers_are ∙ ap (λ (list : World). answers_to list ops) world-is;
            full_is = ok.full_is ∙ full-seen drive w b mid old back was.origin books seen origin;
          },
        );
      }

  -- a batch that was refused, or that failed
  pub applied-err : (fault : BookFault) → LeavesRefusedAll drive session row ops b mid fault → IsRefusedBy {A = BatchDone} IsMemoryOrDisk (batch_refusal b ops) (Err fault) → back ≡ has_given_all took mid.entries
      → Applied w session row ops old back (Err (call_fault fault))
  applied-err fault err refused given = record {
    before = took.seen;
    later = was.later;
    alone = was.alone;
    cells = cells_in b.log;
    counted = counted-at;
    answered = applied-some (batch_cause old.origin ops (cells_in b.log) took.seen) fault (refused-at (Err fault) refused);
    leaves = left-all fault (batch-fault fault refused) err given;
  }

-- A batch leaves the pass with more seen and own.
same-all : (old new : Known) (before es : List Entry) → IsPrefix old.seen before → new ≡ has_added_all old before es → SamePass old new
same-all old new before es later is = (
  prefix-later old.seen before new.seen later (es, sym (ap (λ (k : Known). k.seen) is)),
  is ∙ (λ i. record old { seen = sym (ap (λ (k : Known). k.seen) is) i; own = sym (ap (λ (k : Known). k.own) is) i }),
)

leaves-same-all : (w session row : ℕ) (ops : List Op) (old : Known) (before : List Entry) (new : Known) (result : Result BatchDone CallFault) → IsPrefix old.seen before → BatchLeaves w session row ops old before new result → SamePass old new
leaves-same-all w session row ops old before new (Ok done) later (is, done_is) = same-all old new before (batch_calls session row ops) later is
leaves-same-all w session row ops old before new (Err (call.Disk cell)) later lost = same-all old new before (batch_fails cell (world_after old.origin.world before) session row ops) later lost.added
leaves-same-all w session row ops old before new (Err (call.Closed cell)) later is = same-seen old new before later is
leaves-same-all w session row ops old before new (Err call.HistoryFull) later is = same-seen old new before later is
leaves-same-all w session row ops old before new (Err call.LogFull) later is = same-seen old new before later is
leaves-same-all w session row ops old before new (Err (call.Memory place)) later is = same-seen old new before later is

pub applied-same : (w session row : ℕ) (ops : List Op) (old new : Known) (result : Result BatchDone CallFault) → Applied w session row ops old new result → SamePass old new
applied-same w session row ops old new result applied = leaves-same-all w session row ops old applied.before new result applied.later applied.leaves
