-- What a lane adds: calls of its session, a prefix of its rows.
use Rattle.std.proofs.Common.{◌≡◌, ◌≢◌, ◌⊎◌, inl, inr, ℕ, true, List, [], ◌∷◌, ◌++◌, length, Option, Some, None, Ok, Err, refl, sym, ap, subst, ◌∙◌, append_assoc, arith}
use Rattle.std.specs.Prelude.{⊤}
use mathlib.Core.List.{IsPrefix, append-nil}
use Rattle.plain_list.specs.declared.ops.Op.{Op}
use Rattle.plain_list.specs.declared.entries.Entry.{Entry}
use Rattle.plain_list.specs.declared.entries.Entry.TheVariants.{Fail, Call}
use Rattle.plain_list.specs.declared.entries.Lost.{Lost}
use Rattle.plain_list.specs.declared.entries.Lost.TheVariants as lost
use Rattle.plain_list.specs.Answer.{answer_of, is_change}
use Rattle.plain_list.specs.History.{world_after, call_count, failed_cell}
use Rattle.plain_list.specs.Played.{calls_of}
use Rattle.book_lock.specs.Pass.{Known}
use Rattle.book_lock.specs.Own.{Owns, IsBelow}
use Rattle.book_lock.specs.declared.origin.Origin.{Origin}
use Rattle.book_lock.proofs.Histories.{prefix_trans}
use Rattle.commit_book.specs.declared.book.Done.{Done}
use Rattle.commit_book.specs.declared.faults.BookFault.{BookFault}
use Rattle.commit_book.specs.declared.faults.BookFault.TheVariants as book
use Rattle.commit_book.specs.Refusals.{closed_refusal, call_refusal}
use Rattle.sessions.specs.Shared.{start_of}
use Rattle.sessions.specs.Calls.{Called, IsAnswered, call_cause}
use Rattle.sessions.specs.Lanes.{KeepsRow, KeepsAll, Stops}
use Rattle.sessions.specs.declared.faults.CallFault.{CallFault}
use Rattle.sessions.specs.declared.faults.CallFault.TheVariants.{Closed, Disk, HistoryFull, LogFull, Memory}
use Rattle.sessions.specs.declared.store.lanes.Lane.{Lane}
use Rattle.sessions.specs.declared.store.lanes.KeptRow.{KeptRow}
use Rattle.lane_history.specs.Lanes.{HasPlayedLane}
use Rattle.lane_history.specs.LostSteps.{IsSplitStep}
use Rattle.lane_history.proofs.OwnEntries.{own_entries}
use Rattle.lane_history.proofs.CallsOf.{calls-one, calls-other}
use Rattle.lane_history.proofs.Adds.{AddsOf, AddsQuiet, IsAdded, own_of, quiet-of, quiet-seen, quiet-one, quiet-same, calls-trans, adds-one, adds-later, adds-origin, adds-below, adds-own, adds-at, of-weaken}
use Rattle.lane_history.proofs.SplitAdds.{SplitLost, tries-quiet, NoDisk, call_cause-disk, first-front, not-closed}

pub calls-then : (w s : ℕ) (xs ys : List (ℕ × Op)) (old mid new : Known) → AddsOf (SplitLost w old) s xs old mid → AddsOf (SplitLost w mid) s ys mid new → AddsOf (SplitLost w old) s (xs ++ ys) old new
calls-then w s xs ys old mid new a b = calls-trans (SplitLost w old) s xs ys old mid new a (subst (λ (o : Origin). AddsOf (IsSplitStep w (start_of o)) s ys mid new) (adds-origin (SplitLost w old) old mid a.entries a.adds) b)

call-adds : (w s row : ℕ) (op : Op) (old mid : Known) (done : Done) → Called w s row op old mid (Ok done) → AddsOf (SplitLost w old) s ((row, op) ∷ []) old mid
call-adds w s row op old mid done c = record {
  entries = Call s row op ∷ [];
  adds = adds-one (SplitLost w old) old mid c.before (Call s row op) c.later tt c.leaves.0;
  mine = calls-one s row op;
  others = λ t apart. calls-other s t row op apart;
}

keeps-adds : (w s : ℕ) (old new : Known) (r : ℕ × Op) (k : KeptRow) → KeepsRow w s old new r k → AddsOf (SplitLost w old) s (r ∷ []) old new
keeps-adds w s old new r k keeps =
    calls-then w s (r ∷ []) [] old keeps.mid new (call-adds w s r.0 r.1 old keeps.mid keeps.done keeps.called) (quiet-of (SplitLost w keeps.mid) s keeps.mid new (tries-quiet w keeps.done.full keeps.mid new k.split keeps.tries))

pub all-adds : (w s : ℕ) (old new : Known) (rows : List (ℕ × Op)) (kept : List KeptRow) → KeepsAll w s old rows kept new → AddsOf (SplitLost w old) s rows old new
all-adds w s old new [] [] same = quiet-of (SplitLost w old) s old new (quiet-same (SplitLost w old) old new same)
all-adds w s old new [] (k ∷ kept) all = absurd all
all-adds w s old new (r ∷ rows) [] all = absurd all
all-adds w s old new (r ∷ rows) (k ∷ kept) (mid, one, rest) = calls-then w s (r ∷ []) rows old mid new (keeps-adds w s old mid r k one) (all-adds w s mid new rows kept rest)

-- a call of the lane that was lost is the next of its rows, and would be a change; or a step of a split was lost
abbrev pub LaneLost : ℕ → Origin → ℕ → List (ℕ × Op) → List (ℕ × Op) → List Entry → Lost → Type 0
LaneLost w o s rows calls before (lost.Call t row op) = (t ≡ s) × ((more : List (ℕ × Op)) × (rows ≡ calls ++ (row, op) ∷ more)) × (is_change (answer_of (world_after o.world before) op) ≡ true)
LaneLost w o s rows calls before (lost.Begin number name) = IsSplitStep w (start_of o) before (lost.Begin number name)
LaneLost w o s rows calls before (lost.Install number) = IsSplitStep w (start_of o) before (lost.Install number)
LaneLost w o s rows calls before (lost.Abandon number) = IsSplitStep w (start_of o) before (lost.Abandon number)

split-lane : (w : ℕ) (o : Origin) (s : ℕ) (rows calls : List (ℕ × Op)) (before : List Entry) (l : Lost) → IsSplitStep w (start_of o) before l → LaneLost w o s rows calls before l
split-lane w o s rows calls before (lost.Call t row op) is = absurd is
split-lane w o s rows calls before (lost.Begin number name) is = is
split-lane w o s rows calls before (lost.Install number) is = is
split-lane w o s rows calls before (lost.Abandon number) is = is

-- behind a call that was lost no append had failed
answered-none : (op : Op) (cause : Option BookFault) (cell : ℕ) → NoDisk cell cause → IsAnswered op cause (Err (Disk cell)) → cause ≡ None
answered-none op None cell never is = refl
answered-none op (Some (book.Disk n)) cell never is = let same : n ≡ cell = cc is in absurd (never (ap (λ (m : ℕ). Some (book.Disk m)) same))
answered-none op (Some (book.Closed n)) cell never is = absurd (cc is)
answered-none op (Some book.HistoryFull) cell never is = absurd (cc is)
answered-none op (Some book.LogFull) cell never is = absurd (cc is)
answered-none op (Some book.Memory) cell never is = absurd (cc is)
answered-none op (Some (book.Room cells events)) cell never is = absurd (cc is)
answered-none op (Some (book.Splitting number)) cell never is = absurd (cc is)
answered-none op (Some book.Deep) cell never is = absurd (cc is)
answered-none op (Some book.NoLeaf) cell never is = absurd (cc is)
answered-none op (Some (book.Stale number)) cell never is = absurd (cc is)
answered-none op (Some (book.NotOpen number)) cell never is = absurd (cc is)

call-sound : (w s row : ℕ) (op : Op) (old new : Known) (cell : ℕ) (c : Called w s row op old new (Err (Disk cell))) → failed_cell c.before ≡ None
call-sound w s row op old new cell c =
    let none = answered-none op (call_cause old.origin op c.cells c.before) cell (call_cause-disk cell old.origin op c.cells c.before) c.answered in
    not-closed c.before (first-front (closed_refusal c.before) _ (first-front (call_refusal old.origin.kept c.before) _ none))

-- how a lane ends behind the rows that it kept: with a call more that it didn't keep, or none
record StopsWith (w s : ℕ) (rows front : List (ℕ × Op)) (mid new : Known) (fault : Option CallFault) : Type 0 where
  pub extra : List (ℕ × Op)
  pub front_is : IsPrefix (front ++ extra) rows
  pub adds : AddsOf (LaneLost w mid.origin s rows (front ++ extra)) s extra mid new
  pub calm : fault ≡ None → front ++ extra ≡ rows

module _ (w s : ℕ) (rows front rest : List (ℕ × Op)) (r : ℕ × Op) (mid new : Known) (whole : rows ≡ front ++ r ∷ rest) where
  abbrev Lane0 : List Entry → Lost → Type 0
  Lane0 = LaneLost w mid.origin s rows (front ++ [])

  stop-none : (fault : CallFault) → AddsQuiet Lane0 mid new → StopsWith w s rows front mid new (Some fault)
  stop-none fault quiet = record {
    extra = [];
    front_is = (r ∷ rest, ap (λ (l : List (ℕ × Op)). l ++ r ∷ rest) (append-nil front) ∙ sym whole);
    adds = quiet-of Lane0 s mid new quiet;
    calm = λ none. absurd (cc none);
  }

  stop-fault : (fault : CallFault) → Called w s r.0 r.1 mid new (Err fault) → StopsWith w s rows front mid new (Some fault)
  stop-fault (Closed cell) c = stop-none (Closed cell) (quiet-seen Lane0 mid new c.before c.later c.leaves)
  stop-fault (Disk cell) c = stop-none (Disk cell)
      (quiet-one Lane0 mid new c.before (Fail cell (lost.Call s r.0 r.1)) c.later
      ((refl, (rest, whole ∙ sym (ap (λ (l : List (ℕ × Op)). l ++ r ∷ rest) (append-nil front))), c.leaves.1), call-sound w s r.0 r.1 mid new cell c) (λ t. refl) c.leaves.0)
  stop-fault HistoryFull c = stop-none HistoryFull (quiet-seen Lane0 mid new c.before c.later c.leaves)
  stop-fault LogFull c = stop-none LogFull (quiet-seen Lane0 mid new c.before c.later c.leaves)
  stop-fault (Memory None) c = stop-none (Memory None) (quiet-seen Lane0 mid new c.before c.later c.leaves)
  stop-fault (Memory (Some place)) c = record {
    extra = r ∷ [];
    front_is = (rest, append_assoc front (r ∷ []) rest ∙ sym whole);
    adds = record {
      entries = Call s r.0 r.1 ∷ [];
      adds = adds-one (LaneLost w mid.origin s rows (front ++ r ∷ [])) mid new c.before (Call s r.0 r.1) c.later tt c.leaves.0;
      mine = calls-one s r.0 r.1;
      others = λ t apart. calls-other s t r.0 r.1 apart;
    };
    calm = λ none. absurd (cc none);
  }

stops-with : (w s : ℕ) (rows front rest : List (ℕ × Op)) (mid new : Known) (fault : Option CallFault) → rows ≡ front ++ rest → Stops w s mid new rest fault → StopsWith w s rows front mid new fault
stops-with w s rows front [] mid new None whole same = record {
  extra = [];
  front_is = ([], append-nil (front ++ []) ∙ sym whole);
  adds = quiet-of (LaneLost w mid.origin s rows (front ++ [])) s mid new (quiet-same (LaneLost w mid.origin s rows (front ++ [])) mid new same);
  calm = λ none. sym whole;
}
stops-with w s rows front [] mid new (Some fault) whole stops = absurd stops
stops-with w s rows front (r ∷ rest) mid new None whole stops = absurd stops
stops-with w s rows front (r ∷ rest) mid new (Some fault) whole stops = stop-fault w s rows front rest r mid new whole fault stops

-- What a played lane has added: its calls are a prefix of its rows, and all of them where it met no fault.
pub record IsLane {I D O P : Type 0} (w : ℕ) (origin : Origin) (s : ℕ) (rows : List (ℕ × Op)) (lane : Lane I D O P) : Type 0 where
  pub calls : List (ℕ × Op)
  pub front : IsPrefix calls rows
  pub calm : lane.fault ≡ None → calls ≡ rows
  pub below : IsBelow (length lane.pass.seen) lane.pass.own
  pub mine : calls_of s (own_of lane.pass) ≡ calls
  pub others : (t : ℕ) → t ≢ s → calls_of t (own_of lane.pass) ≡ []
  pub added : (p : ℕ) → Owns lane.pass.own p → IsAdded (LaneLost w origin s rows calls) lane.pass.seen p

module _ {I D O P : Type 0} (w : ℕ) (origin : Origin) (s : ℕ) (rows : List (ℕ × Op)) (lane : Lane I D O P) (played : HasPlayedLane w origin s rows lane) where
  abbrev Old : Known
  Old = played.old.pass

  own-none-at : (p : ℕ) → Owns Old.own p → ⊥
  own-none-at p owns = let e : Owns [] p = subst (λ (own : List ℕ). Owns own p) played.own owns in omega arith

  own-nothing : own_of Old ≡ []
  own-nothing = λ i. own_entries 0 (played.own i) (played.seen i)

  kept-keeps : KeepsAll w s Old played.plays.front lane.kept.items played.plays.mid
  kept-keeps = subst (λ (t : ℕ). KeepsAll w t Old played.plays.front lane.kept.items played.plays.mid) played.session_is played.plays.keeps

  kept-adds : AddsOf (SplitLost w Old) s played.plays.front Old played.plays.mid
  kept-adds = all-adds w s Old played.plays.mid played.plays.front lane.kept.items kept-keeps

  same-mid : played.plays.mid.origin ≡ Old.origin
  same-mid = adds-origin (SplitLost w Old) Old played.plays.mid kept-adds.entries kept-adds.adds

  stopped : StopsWith w s rows played.plays.front played.plays.mid lane.pass lane.fault
  stopped = stops-with w s rows played.plays.front played.plays.rest played.plays.mid lane.pass lane.fault (sym played.rows_are ∙ played.plays.whole)
      (subst (λ (t : ℕ). Stops w t played.plays.mid lane.pass played.plays.rest lane.fault) played.session_is played.plays.stops)

  abbrev Calls : List (ℕ × Op)
  Calls = played.plays.front ++ stopped.extra

  whole-adds : AddsOf (LaneLost w origin s rows Calls) s Calls Old lane.pass
  whole-adds = calls-trans (LaneLost w origin s rows Calls) s played.plays.front stopped.extra Old played.plays.mid lane.pass
      (of-weaken (IsSplitStep w (start_of origin)) (LaneLost w origin s rows Calls) (split-lane w origin s rows Calls) s played.plays.front Old played.plays.mid
      (subst (λ (o : Origin). AddsOf (IsSplitStep w (start_of o)) s played.plays.front Old played.plays.mid) played.begins kept-adds))
      (subst (λ (o : Origin). AddsOf (LaneLost w o s rows Calls) s stopped.extra played.plays.mid lane.pass) (same-mid ∙ played.begins) stopped.adds)

  old-below : IsBelow (length Old.seen) Old.own
  old-below p owns = absurd (own-none-at p owns)

  own-is : own_of lane.pass ≡ whole-adds.entries
  own-is = adds-own (LaneLost w origin s rows Calls) Old lane.pass whole-adds.entries whole-adds.adds old-below ∙ ap (λ (l : List Entry). l ++ whole-adds.entries) own-nothing

  pub is-lane : IsLane w origin s rows lane
  is-lane = record {
    calls = Calls;
    front = stopped.front_is;
    calm = stopped.calm;
    below = adds-below (LaneLost w origin s rows Calls) Old lane.pass whole-adds.entries whole-adds.adds old-below;
    mine = ap (calls_of s) own-is ∙ whole-adds.mine;
    others = λ t apart. ap (calls_of t) own-is ∙ whole-adds.others t apart;
    added = λ p owns. by_owner p (adds-at (LaneLost w origin s rows Calls) Old lane.pass whole-adds.entries whole-adds.adds p owns);
  }
    where
      by_owner : (p : ℕ) → Owns Old.own p ⊎ IsAdded (LaneLost w origin s rows Calls) lane.pass.seen p → IsAdded (LaneLost w origin s rows Calls) lane.pass.seen p
      by_owner p (inl owns) = absurd (own-none-at p owns)
      by_owner p (inr added) = added

-- where a kept row's call stands
pub record StoodAt (origin : Origin) (s : ℕ) (h : List Entry) (r : ℕ × Op) (k : KeptRow) : Type 0 where
  pub before : List Entry
  pub stands : IsPrefix (before ++ Call s r.0 r.1 ∷ []) h
  pub row_is : k.row ≡ r.0
  pub place_is : k.place ≡ call_count (before ++ Call s r.0 r.1 ∷ [])
  pub answer_is : k.answer ≡ answer_of (world_after origin.world before) r.1

abbrev pub HaveStood : Origin → ℕ → List Entry → List (ℕ × Op) → List KeptRow → Type 0
HaveStood origin s h [] [] = ⊤
HaveStood origin s h [] (k ∷ kept) = ⊥
HaveStood origin s h (r ∷ rows) [] = ⊥
HaveStood origin s h (r ∷ rows) (k ∷ kept) = StoodAt origin s h r k × HaveStood origin s h rows kept

keeps-stood : (w s : ℕ) (origin : Origin) (h : List Entry) (old new : Known) (r : ℕ × Op) (k : KeptRow) → old.origin ≡ origin → IsPrefix new.seen h → KeepsRow w s old new r k → StoodAt origin s h r k
keeps-stood w s origin h old new r k same later keeps =
    let c = keeps.called in
    let seen : keeps.mid.seen ≡ c.before ++ Call s r.0 r.1 ∷ [] = ap (λ (p : Known). p.seen) c.leaves.0 in
    let quiet = tries-quiet w keeps.done.full keeps.mid new k.split keeps.tries in
    let further : IsPrefix keeps.mid.seen h = prefix_trans keeps.mid.seen new.seen h (adds-later (SplitLost w keeps.mid) keeps.mid new quiet.entries quiet.adds) later in
    record {
      before = c.before;
      stands = subst (λ (l : List Entry). IsPrefix l h) seen further;
      row_is = keeps.row_is;
      place_is = keeps.place_is ∙ c.leaves.1.replies.place_is ∙ ap call_count seen;
      answer_is = keeps.answer_is ∙ c.leaves.1.replies.answer_is ∙ ap (λ (o : Origin). answer_of (world_after o.world c.before) r.1) same;
    }

all-stood : (w s : ℕ) (origin : Origin) (h : List Entry) (old new : Known) (rows : List (ℕ × Op)) (kept : List KeptRow) → old.origin ≡ origin → IsPrefix new.seen h → KeepsAll w s old rows kept new → HaveStood origin s h rows kept
all-stood w s origin h old new [] [] same later all = tt
all-stood w s origin h old new [] (k ∷ kept) same later all = absurd all
all-stood w s origin h old new (r ∷ rows) [] same later all = absurd all
all-stood w s origin h old new (r ∷ rows) (k ∷ kept) same later (mid, one, rest) =
    let first = keeps-adds w s old mid r k one in
    let after = all-adds w s mid new rows kept rest in (
      keeps-stood w s origin h old mid r k same (prefix_trans mid.seen new.seen h (adds-later (SplitLost w mid) mid new after.entries after.adds) later) one,
      all-stood w s origin h mid new rows kept (adds-origin (SplitLost w old) old mid first.entries first.adds ∙ same) later rest,
    )

-- each kept row of a lane stands in what its pass has seen
pub lane-stood : {I D O P : Type 0} (w : ℕ) (origin : Origin) (s : ℕ) (rows : List (ℕ × Op)) (lane : Lane I D O P) (played : HasPlayedLane w origin s rows lane) (h : List Entry) → IsPrefix lane.pass.seen h → HaveStood origin s h played.plays.front lane.kept.items
lane-stood w origin s rows lane played h later =
    let stop = stopped w origin s rows lane played in
    all-stood w s origin h played.old.pass played.plays.mid played.plays.front lane.kept.items played.begins
    (prefix_trans played.plays.mid.seen lane.pass.seen h (adds-later _ played.plays.mid lane.pass stop.adds.entries stop.adds.adds) later) (kept-keeps w origin s rows lane played)
