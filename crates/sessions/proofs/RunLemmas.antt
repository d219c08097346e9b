-- Runs of queries, as their passes know them.
use Rattle.std.proofs.Common.{◌≡◌, ℕ, ◌+◌, ◌<◌, ◌≤◌, true, false, List, [], ◌∷◌, ◌++◌, length, drop, take, map, get_or, set, Option, Some, None, Result, Ok, Err, refl, sym, ap, subst, ◌∙◌, arith, append_assoc}
use mathlib.Core.List.{IsPrefix}
use Rattle.std.specs.Prelude.{slice_index_or, vec_len, vec_capacity}
use Rattle.std.proofs.lemmas.List.{append-nil, take_at, get_or_at, set_at, map-append, length-drop, length-append, length-take-le}
use Rattle.plain_list.specs.declared.ops.Op.{Op}
use Rattle.plain_list.specs.declared.ops.Answer.{Answer}
use Rattle.plain_list.specs.declared.entries.Entry.{Entry}
use Rattle.plain_list.specs.declared.entries.Entry.TheVariants.{Call}
use Rattle.plain_list.specs.declared.entries.Lost.TheVariants as lost
use Rattle.plain_list.specs.Answer.{answer_of}
use Rattle.plain_list.specs.History.{world_after, call_count}
use Rattle.plain_list.specs.World.{World}
use Rattle.plain_list.proofs.Histories.{world_after-append}
use Rattle.index_layer.specs.Leaves.{Leaf}
use Rattle.disk_trait.specs.Drive.{Drive}
use Rattle.commit_book.specs.BookView.{BookView}
use Rattle.commit_book.specs.IsBook.{AreBooks}
use Rattle.commit_book.specs.Answers.{IsQuery, Notes, is_still_since}
use Rattle.commit_book.specs.Refusals.{IsRefusedBy, IsMemory, call_refusal}
use Rattle.commit_book.specs.declared.book.Done.{Done}
use Rattle.commit_book.specs.declared.faults.BookFault.{BookFault}
use Rattle.commit_book.specs.declared.faults.BookFault.TheVariants as book
use Rattle.commit_book.proofs.BookSteps.{query_keeps}
use Rattle.commit_book.proofs.StillWorlds.{world_after-since}
use Rattle.book_lock.specs.Pass.{Known}
use Rattle.sessions.specs.Steps.{cells_at, has_added, has_seen, has_given, Leaves, WasTaken}
use Rattle.sessions.specs.Calls.{Called, CallLeaves, call_fault}
use Rattle.sessions.specs.Lanes.{KeepsRow, KeepsAll, Stops, PlaysRows, PlaysOn, StopsOn}
use Rattle.sessions.specs.Runs.{AreQueries, Answers, AnswersIn, EndsNoting, HasLooked, IsLeft, IsOut, Noting, NotesRows, Sees, Stood, freed, unplaced}
use Rattle.sessions.specs.Standing.{OfWorld}
use Rattle.sessions.specs.declared.faults.CallFault.{CallFault}
use Rattle.sessions.specs.declared.faults.CallFault.TheVariants.{Closed, Disk, HistoryFull, LogFull, Memory}
use Rattle.sessions.specs.declared.store.lanes.Lane.{Lane}
use Rattle.sessions.specs.declared.store.lanes.KeptRow.{KeptRow}
use Rattle.sessions.proofs.Origins.{same-origin}
use Rattle.sessions.proofs.StepLemmas.{prefix-later, sees}
use Rattle.sessions.proofs.CallLemmas.{IsCalm, answered-ok, answered-err, cause-is, told-query, memory-comes, look-calm, calm-loses, fault-leaves}
use Rattle.sessions.proofs.LaneLemmas.{rows-one, rows-then, rows-none, row-next}

-- looking twice
pub looked-twice : (a b c : Known) → HasLooked a b → HasLooked b c → HasLooked a c
looked-twice a b c one two = record {
  later = prefix-later a.seen b.seen c.seen one.later two.later;
  alone = λ all. two.alone (ap (λ (k : Known). k.parts) one.pass_is ∙ all) ∙ one.alone all;
  pass_is = two.pass_is ∙ ap (λ (k : Known). has_seen k c.seen) one.pass_is;
}

-- a book that was taken is given back as it was
pub looked-back : {D : Type 0} (drive : D → Drive) (b : BookView D) (old took back : Known) (entries : List Entry) → WasTaken drive b old took → back ≡ has_given took false entries → HasLooked old back
looked-back drive b old took back entries was given =
    let is : back ≡ has_seen old took.seen = sees old took back entries was.off was.took_is given in
    let seen : back.seen ≡ took.seen = ap (λ (k : Known). k.seen) is in
    record {
      later = subst (IsPrefix old.seen) (sym seen) was.later;
      alone = λ all. seen ∙ was.alone all;
      pass_is = is ∙ ap (has_seen old) (sym seen);
    }

looked-leaves : (w session row : ℕ) (op : Op) (old : Known) (seen before : List Entry) (new : Known) (result : Result Done CallFault) → CallLeaves w session row op (has_seen old seen) before new result → CallLeaves w session row op old before new result
looked-leaves w session row op old seen before new (Ok done) (is, has) = (is, record { replies = record { place_is = has.replies.place_is; answer_is = has.replies.answer_is }; full_is = has.full_is })
looked-leaves w session row op old seen before new (Err (Closed cell)) is = is
looked-leaves w session row op old seen before new (Err (Disk cell)) is = is
looked-leaves w session row op old seen before new (Err HistoryFull) is = is
looked-leaves w session row op old seen before new (Err LogFull) is = is
looked-leaves w session row op old seen before new (Err (Memory None)) is = is
looked-leaves w session row op old seen before new (Err (Memory (Some place))) is = is

-- a call behind what was seen in between is one behind what was seen before
looked-called : (w session row : ℕ) (op : Op) (a b new : Known) (result : Result Done CallFault) → HasLooked a b → Called w session row op b new result → Called w session row op a new result
looked-called w session row op a b new result looked called =
    let c : Called w session row op (has_seen a b.seen) new result = subst (λ (k : Known). Called w session row op k new result) looked.pass_is called in
    record {
      before = c.before;
      later = prefix-later a.seen b.seen c.before looked.later c.later;
      alone = λ all. c.alone all ∙ looked.alone all;
      cells = c.cells;
      counted = c.counted;
      answered = c.answered;
      leaves = looked-leaves w session row op a b.seen c.before new result c.leaves;
    }

-- so are rows of which one was played
looked-rows : (w session : ℕ) (a b new : Known) (before after : List KeptRow) (rows rest : List (ℕ × Op)) → HasLooked a b → length rest < length rows → PlaysRows w session b new before after rows rest → PlaysRows w session a new before after rows rest
looked-rows w session a b new before after rows rest looked less plays = record {
  front = plays.front;
  added = plays.added;
  rows_are = plays.rows_are;
  kept_are = plays.kept_are;
  keeps = all plays.front plays.added (omega (arith, less, ap length plays.rows_are, length-append plays.front rest)) plays.keeps;
}
  where
    all : (front : List (ℕ × Op)) (added : List KeptRow) → 0 < length front → KeepsAll w session b front added new → KeepsAll w session a front added new
    all [] added some keeps = absurd (omega (arith, some))
    all (r ∷ front) [] some keeps = absurd keeps
    all (r ∷ front) (k ∷ added) some (mid, one, more) = (
      mid,
      record {
        mid = one.mid;
        done = one.done;
        called = looked-called w session r.0 r.1 a b one.mid (Ok one.done) looked one.called;
        row_is = one.row_is;
        place_is = one.place_is;
        answer_is = one.answer_is;
        tries = one.tries;
      },
      more,
    )

-- what a stopped lane has kept and met, where it has looked before
looked-stop : (w session : ℕ) (a b mid new : Known) (before after : List KeptRow) (rows rest : List (ℕ × Op)) (fault : Option CallFault) → HasLooked a b → 0 < length rows → PlaysRows w session b mid before after rows rest → Stops w session mid new rest fault
    → (first : Known) × PlaysRows w session a first before after rows rest × Stops w session first new rest fault
looked-stop w session a b mid new before after rows rest fault looked some plays stops = by plays.front plays.added plays.rows_are plays.kept_are plays.keeps
  where
    -- none was kept, and the next was called behind what was seen
    none : (rest : List (ℕ × Op)) (fault : Option CallFault) → 0 < length rest → Stops w session b new rest fault → Stops w session a new rest fault
    none [] fault some stops = absurd (omega (arith, some))
    none (r ∷ rest) None some stops = absurd stops
    none (r ∷ rest) (Some fault) some called = looked-called w session r.0 r.1 a b new (Err fault) looked called

    by : (front : List (ℕ × Op)) (added : List KeptRow) → rows ≡ front ++ rest → after ≡ before ++ added → KeepsAll w session b front added mid
        → (first : Known) × PlaysRows w session a first before after rows rest × Stops w session first new rest fault
    by [] [] rows_are kept_are keeps = (
      a,
      record { front = []; added = []; rows_are = rows_are; kept_are = kept_are; keeps = refl },
      none rest fault (subst (λ (l : List (ℕ × Op)). 0 < length l) rows_are some) (subst (λ (k : Known). Stops w session k new rest fault) keeps stops),
    )
    by [] (k ∷ added) rows_are kept_are keeps = absurd keeps
    by (r ∷ front) added rows_are kept_are keeps = (
      mid,
      looked-rows w session a b mid before after rows rest looked (omega (arith, ap length rows_are, length-append front rest)) plays,
      stops,
    )

module _ {I D O P : Type 0} (w i : ℕ) (old mid new : Lane I D O P) (left : IsLeft old mid) where
  -- one goes on from a lane of which a run was left
  pub left-plays : (j : ℕ) → i < j → PlaysOn w i j mid new → PlaysOn w i j old new
  left-plays j less plays =
      let room = left.room in
      let room' = plays.room in
      let within : j ≤ length old.rows.items = subst (λ (rows : List (ℕ × Op)). j ≤ length rows) left.rows plays.within in
      record {
        session = plays.session ∙ left.session;
        rows = plays.rows ∙ left.rows;
        fault = plays.fault;
        within = within;
        count = plays.count ∙ ap (λ (n : ℕ). n + j) left.count;
        room = omega arith;
        plays = looked-rows w old.session old.pass mid.pass new.pass old.kept.items new.kept.items (drop i old.rows.items) (drop j old.rows.items) left.pass
            (omega (arith, less, within, length-drop i old.rows.items, length-drop j old.rows.items))
            (subst (λ (rows : List (ℕ × Op)). PlaysRows w old.session mid.pass new.pass old.kept.items new.kept.items (drop i rows) (drop j rows)) left.rows
            (subst (λ (kept : List KeptRow). PlaysRows w old.session mid.pass new.pass kept new.kept.items (drop i mid.rows.items) (drop j mid.rows.items)) left.kept
            (subst (λ (session : ℕ). PlaysRows w session mid.pass new.pass mid.kept.items new.kept.items (drop i mid.rows.items) (drop j mid.rows.items)) left.session plays.plays)));
      }

  pub left-stops : i < length old.rows.items → StopsOn w i mid new → StopsOn w i old new
  left-stops within stop =
      let plays : PlaysRows w old.session mid.pass stop.mid old.kept.items new.kept.items (drop i old.rows.items) stop.rest =
      subst (λ (rows : List (ℕ × Op)). PlaysRows w old.session mid.pass stop.mid old.kept.items new.kept.items (drop i rows) stop.rest) left.rows
      (subst (λ (kept : List KeptRow). PlaysRows w old.session mid.pass stop.mid kept new.kept.items (drop i mid.rows.items) stop.rest) left.kept
      (subst (λ (session : ℕ). PlaysRows w session mid.pass stop.mid mid.kept.items new.kept.items (drop i mid.rows.items) stop.rest) left.session stop.plays)) in
      let stops : Stops w old.session stop.mid new.pass stop.rest new.fault = subst (λ (session : ℕ). Stops w session stop.mid new.pass stop.rest new.fault) left.session stop.stops in
      let both = looked-stop w old.session old.pass mid.pass stop.mid new.pass old.kept.items new.kept.items (drop i old.rows.items) stop.rest new.fault left.pass (omega (arith, within, length-drop i old.rows.items)) plays stops in
      record {
        session = stop.session ∙ left.session;
        rows = stop.rows ∙ left.rows;
        mid = both.0;
        rest = stop.rest;
        plays = both.1;
        stops = both.2;
      }

-- where nothing was added and the drive didn't fail, the pass has seen what was there
calm-seen : (A : Type 0) (session row : ℕ) (op : Op) (old : Known) (before : List Entry) (new : Known) (fault : BookFault) → IsCalm fault → new ≡ has_seen old before
    → Leaves {A = A} (λ value. Call session row op) (λ h. lost.Call session row op) old before new (Err fault)
calm-seen A session row op old before new (book.Disk cell) calm is = absurd calm
calm-seen A session row op old before new (book.Closed cell) calm is = is
calm-seen A session row op old before new book.HistoryFull calm is = is
calm-seen A session row op old before new book.LogFull calm is = is
calm-seen A session row op old before new book.Memory calm is = is
calm-seen A session row op old before new (book.Room cells events) calm is = is
calm-seen A session row op old before new (book.Splitting number) calm is = is
calm-seen A session row op old before new book.Deep calm is = is
calm-seen A session row op old before new book.NoLeaf calm is = is
calm-seen A session row op old before new (book.Stale number) calm is = is
calm-seen A session row op old before new (book.NotOpen number) calm is = is

module _ {D : Type 0} (drive : D → Drive) (w session row : ℕ) (op : Op) (b : BookView D) (pass : Known) (query : IsQuery op) (out : IsOut drive b pass) where
  note-cause : call_refusal b.kept b.entries ≡ call_refusal pass.origin.kept pass.seen
  note-cause i = call_refusal (out.origin i).kept (out.entries i)

  -- a query that was answered before is called where it is noted
  pub note-ok : (mid : BookView D) (next : Known) (place : ℕ) (answer : Answer) → Notes b mid session row op place → IsRefusedBy {A = ℕ} IsMemory (call_refusal b.kept b.entries) (Ok place)
      → next ≡ has_added (freed pass) pass.seen (Call session row op) → answer ≡ answer_of (world_after pass.origin.world pass.seen) op
      → Called w session row op (freed pass) next (Ok (record { place = place; answer = answer; full = None }))
  note-ok mid next place answer notes refused next_is answer_is =
      let done : Done = record { place = place; answer = answer; full = None } in
      let seen : mid.entries ≡ next.seen = notes.entries ∙ ap (λ (h : List Entry). h ++ Call session row op ∷ []) out.entries ∙ sym (ap (λ (k : Known). k.seen) next_is) in
      record {
        before = pass.seen;
        later = ([], append-nil pass.seen);
        alone = λ all. refl;
        cells = cells_at pass.origin pass.seen;
        counted = λ still. refl;
        answered = cause-is op (freed pass) query (Ok done) (cells_at pass.origin pass.seen) pass.seen
            (answered-ok IsMemory op (call_refusal pass.origin.kept pass.seen) place (Ok done) (subst (λ (o : Option BookFault). IsRefusedBy {A = ℕ} IsMemory o (Ok place)) note-cause refused) tt);
        leaves = (next_is, record { replies = record { place_is = notes.place_is ∙ ap call_count seen; answer_is = answer_is }; full_is = sym (told-query w op next query) });
      }

  pub note-err : (fault : BookFault) → IsRefusedBy {A = ℕ} IsMemory (call_refusal b.kept b.entries) (Err fault) → Called w session row op (freed pass) (freed pass) (Err (call_fault fault))
  note-err fault refused =
      let refused' : IsRefusedBy {A = ℕ} IsMemory (call_refusal pass.origin.kept pass.seen) (Err fault) = subst (λ (o : Option BookFault). IsRefusedBy {A = ℕ} IsMemory o (Err fault)) note-cause refused in
      let calm : IsCalm fault = look-calm ℕ pass.origin.kept pass.seen fault refused' in
      record {
        before = pass.seen;
        later = ([], append-nil pass.seen);
        alone = λ all. refl;
        cells = cells_at pass.origin pass.seen;
        counted = λ still. refl;
        answered = cause-is op (freed pass) query (Err (call_fault fault)) (cells_at pass.origin pass.seen) pass.seen (answered-err ℕ IsMemory op (call_refusal pass.origin.kept pass.seen) fault (memory-comes op fault) refused');
        leaves = fault-leaves ℕ w session row op (freed pass) pass.seen (freed pass) fault (calm-seen ℕ session row op (freed pass) pass.seen (freed pass) fault calm refl)
            (calm-loses ℕ (world_after pass.origin.world pass.seen) op fault calm);
      }

-- the first of the rows that are still to come
first-front : (rows : List (ℕ × Op)) (k end : ℕ) (r : ℕ × Op) (front : List (ℕ × Op)) → k < end → end ≤ length rows → r ≡ slice_index_or rows k r → drop k rows ≡ front ++ drop end rows
    → (others : List (ℕ × Op)) × (front ≡ r ∷ others) × (drop (k + 1) rows ≡ others ++ drop end rows)
first-front rows k end r [] less most is rows_are = absurd (omega (arith, ap length rows_are, length-drop k rows, length-drop end rows, less, most))
first-front rows k end r (x ∷ others) less most is rows_are =
    let next : r ∷ drop (k + 1) rows ≡ x ∷ (others ++ drop end rows) = sym (row-next rows k r (omega (arith, less, most)) is) ∙ rows_are in
    (others, cc next, cc next)

-- none is still to come
no-front : (rows : List (ℕ × Op)) (end : ℕ) (front : List (ℕ × Op)) → drop end rows ≡ front ++ drop end rows → front ≡ []
no-front rows end [] rows_are = refl
no-front rows end (x ∷ front) rows_are = absurd (omega (arith, ap length rows_are, length-append front (drop end rows)))

module _ {I D O P : Type 0} (w i k end base : ℕ) (world : World) (old mid : Lane I D O P) (so_far : Noting w i k end base world old mid) where
  module _ (r : ℕ × Op) (less : k < end) (most : end ≤ length old.rows.items) (is : r ≡ slice_index_or mid.rows.items k r) where
    next-front : (others : List (ℕ × Op)) × (so_far.front ≡ r ∷ others) × (drop (k + 1) old.rows.items ≡ others ++ drop end old.rows.items)
    next-front = first-front old.rows.items k end r so_far.front less most (subst (λ (rows : List (ℕ × Op)). r ≡ slice_index_or rows k r) so_far.rows is) so_far.rows_are

    -- what is kept of the next row, which has no place yet
    next-kept : mid.kept.items ≡ so_far.placed ++ unplaced world r ∷ map (unplaced world) next-front.0
    next-kept = so_far.kept_are ∙ ap (λ (front : List (ℕ × Op)). so_far.placed ++ map (unplaced world) front) next-front.1

    pub next-is : (at : ℕ) (d : KeptRow) → at + i ≡ base + k → get_or mid.kept.items at d ≡ unplaced world r
    next-is at d at_is =
        ap (λ (l : List KeptRow). get_or l at d) next-kept ∙ get_or_at so_far.placed (unplaced world r) (map (unplaced world) next-front.0) d at (omega (arith, so_far.placed_is, at_is))

    -- the row has its place
    pub noting-more : (new : Lane I D O P) (at place : ℕ) → at + i ≡ base + k → new.session ≡ mid.session → new.rows.items ≡ mid.rows.items → new.fault ≡ mid.fault → new.pass.lock ≡ mid.pass.lock → vec_len new.kept ≡ vec_len mid.kept
        → vec_capacity mid.kept ≤ vec_capacity new.kept → new.kept.items ≡ set mid.kept.items at (record (unplaced world r) { place = place })
        → Called w mid.session r.0 r.1 (freed mid.pass) (freed new.pass) (Ok (record { place = place; answer = answer_of world r.1; full = None }))
        → world_after new.pass.origin.world new.pass.seen ≡ world → Noting w i (k + 1) end base world old new
    noting-more new at place at_is session rows fault lock_is count room kept called world_is =
        let kept_row : KeptRow = record (unplaced world r) { place = place } in
        let one : KeepsRow w old.session (freed mid.pass) (freed new.pass) r kept_row =
        subst (λ (session : ℕ). KeepsRow w session (freed mid.pass) (freed new.pass) r kept_row) so_far.session
        (record { mid = freed new.pass; done = record { place = place; answer = answer_of world r.1; full = None }; called = called; row_is = refl; place_is = refl; answer_is = refl; tries = (refl, refl) }) in
        let left = drop (k + 1) old.rows.items in
        let next : drop k old.rows.items ≡ r ∷ left = row-next old.rows.items k r (omega (arith, less, most)) (subst (λ (rows : List (ℕ × Op)). r ≡ slice_index_or rows k r) so_far.rows is) in
        let front = next-front.0 in
        record {
          session = session ∙ so_far.session;
          rows = rows ∙ so_far.rows;
          fault = fault ∙ so_far.fault;
          lock_is = lock_is ∙ so_far.lock_is;
          count = count ∙ so_far.count;
          room = let room' = so_far.room in omega arith;
          placed = so_far.placed ++ kept_row ∷ [];
          front = front;
          rows_are = next-front.2;
          kept_are = kept ∙ ap (λ (l : List KeptRow). set l at kept_row) next-kept ∙ set_at so_far.placed (unplaced world r) (map (unplaced world) front) kept_row at (omega (arith, so_far.placed_is, at_is))
              ∙ sym (append_assoc so_far.placed (kept_row ∷ []) (map (unplaced world) front));
          placed_is = omega (arith, so_far.placed_is, length-append so_far.placed (kept_row ∷ []));
          plays = rows-then w old.session (freed old.pass) (freed mid.pass) (freed new.pass) (take base old.kept.items) so_far.placed (so_far.placed ++ kept_row ∷ []) (drop i old.rows.items) (drop k old.rows.items) left so_far.plays
              (subst (λ (rows : List (ℕ × Op)). PlaysRows w old.session (freed mid.pass) (freed new.pass) so_far.placed (so_far.placed ++ kept_row ∷ []) rows left) (sym next)
              (rows-one w old.session (freed mid.pass) (freed new.pass) so_far.placed r left kept_row one));
          world_is = world_is;
        }

    -- the row is refused
    pub noting-stops : (fault : CallFault) → Called w mid.session r.0 r.1 (freed mid.pass) (freed mid.pass) (Err fault) → Stops w old.session (freed mid.pass) (freed mid.pass) (drop k old.rows.items) (Some fault)
    noting-stops fault called =
        subst (λ (rows : List (ℕ × Op)). Stops w old.session (freed mid.pass) (freed mid.pass) rows (Some fault)) (sym (row-next old.rows.items k r (omega (arith, less, most)) (subst (λ (rows : List (ℕ × Op)). r ≡ slice_index_or rows k r) so_far.rows is)))
        (subst (λ (session : ℕ). Called w session r.0 r.1 (freed mid.pass) (freed mid.pass) (Err fault)) so_far.session called)

  -- what is kept in front of it
  pub noting-kept : (at : ℕ) → at + i ≡ base + k → take at mid.kept.items ≡ so_far.placed
  noting-kept at at_is = ap (take at) so_far.kept_are ∙ take_at so_far.placed (map (unplaced world) so_far.front) at (omega (arith, so_far.placed_is, at_is))

-- a row more was answered
pub answers-more : {I D O P : Type 0} (leaves : List Leaf) (i k : ℕ) (old mid new : Lane I D O P) (r : ℕ × Op) (answer : Answer) → k < length old.rows.items → r ≡ slice_index_or mid.rows.items k r → Answers leaves i k old mid
    → OfWorld leaves (λ world. answer ≡ answer_of world r.1) → new.session ≡ mid.session → new.rows.items ≡ mid.rows.items → new.pass ≡ mid.pass → new.fault ≡ mid.fault → vec_len new.kept ≡ vec_len mid.kept + 1
    → vec_capacity mid.kept ≤ vec_capacity new.kept → new.kept.items ≡ mid.kept.items ++ record { row = r.0; place = 0; answer = answer; split = None } ∷ [] → Answers leaves i (k + 1) old new
answers-more leaves i k old mid new r answer within is so_far answered session rows pass fault count room kept = record {
  session = session ∙ so_far.session;
  rows = rows ∙ so_far.rows;
  pass = pass ∙ so_far.pass;
  fault = fault ∙ so_far.fault;
  count = omega (arith, count, so_far.count);
  room = let room' = so_far.room in omega (arith, room, room');
  answers = λ world names is_world stands.
      let here : AnswersIn world i k old.kept.items mid = so_far.answers world names is_world stands in
      let same : answer ≡ answer_of world r.1 = answered world names is_world stands in
      let next : drop k old.rows.items ≡ r ∷ drop (k + 1) old.rows.items = row-next old.rows.items k r within (subst (λ (l : List (ℕ × Op)). r ≡ slice_index_or l k r) so_far.rows is) in
      let before : drop i old.rows.items ≡ here.front ++ drop k old.rows.items = subst (λ (l : List (ℕ × Op)). drop i l ≡ here.front ++ drop k l) so_far.rows here.rows_are in
      let front = here.front ++ r ∷ [] in
      let rows_are : drop i old.rows.items ≡ front ++ drop (k + 1) old.rows.items =
      before ∙ ap (λ (l : List (ℕ × Op)). here.front ++ l) next ∙ sym (append_assoc here.front (r ∷ []) (drop (k + 1) old.rows.items)) in
      record {
        front = front;
        rows_are = subst (λ (l : List (ℕ × Op)). drop i l ≡ front ++ drop (k + 1) l) (sym (rows ∙ so_far.rows)) rows_are;
        kept_are = kept ∙ ap (λ (a : Answer). mid.kept.items ++ record { row = r.0; place = 0; answer = a; split = None } ∷ []) same ∙ ap (λ (l : List KeptRow). l ++ unplaced world r ∷ []) here.kept_are
            ∙ append_assoc old.kept.items (map (unplaced world) here.front) (unplaced world r ∷ []) ∙ ap (λ (l : List KeptRow). old.kept.items ++ l) (sym (map-append (unplaced world) here.front (r ∷ [])));
      };
}

-- before a row was noted
pub noting-none : {I D O P : Type 0} (w i end base : ℕ) (world : World) (old : Lane I D O P) → old.fault ≡ None → base ≤ length old.kept.items → AnswersIn world i end (take base old.kept.items) old
    → world_after old.pass.origin.world old.pass.seen ≡ world → Noting w i i end base world old old
noting-none w i end base world old fault within answers world_is = record {
  session = refl;
  rows = refl;
  fault = fault;
  lock_is = refl;
  count = refl;
  room = omega arith;
  placed = take base old.kept.items;
  front = answers.front;
  rows_are = answers.rows_are;
  kept_are = answers.kept_are;
  placed_is = ap (λ (n : ℕ). n + i) (length-take-le base old.kept.items within);
  plays = rows-none w old.session (freed old.pass) (take base old.kept.items) (drop i old.rows.items);
  world_is = world_is;
}

-- or one was refused
pub noting-refused : {I D O P : Type 0} (w i k end base at : ℕ) (world : World) (old mid new : Lane I D O P) (fault : CallFault) → Noting w i k end base world old mid → at + i ≡ base + k
    → Stops w old.session (freed mid.pass) (freed mid.pass) (drop k old.rows.items) (Some fault) → new.session ≡ mid.session → new.rows.items ≡ mid.rows.items → new.pass ≡ mid.pass → new.fault ≡ Some fault
    → new.kept.items ≡ take at mid.kept.items → vec_capacity mid.kept ≤ vec_capacity new.kept → NotesRows w i end base old new
noting-refused w i k end base at world old mid new fault so_far at_is stops session rows pass fault_is kept room =
    let placed : new.kept.items ≡ so_far.placed = kept ∙ noting-kept w i k end base world old mid so_far at at_is in
    record {
      session = session ∙ so_far.session;
      rows = rows ∙ so_far.rows;
      lock_is = ap (λ (k : Known). k.lock) pass ∙ so_far.lock_is;
      count = λ calm. absurd (cc (calm, fault_is));
      room = let room' = so_far.room in omega (arith, room, room');
      rest = drop k old.rows.items;
      plays = subst (λ (p : Known). PlaysRows w old.session (freed old.pass) (freed p) (take base old.kept.items) new.kept.items (drop i old.rows.items) (drop k old.rows.items)) (sym pass)
          (subst (λ (l : List KeptRow). PlaysRows w old.session (freed old.pass) (freed mid.pass) (take base old.kept.items) l (drop i old.rows.items) (drop k old.rows.items)) (sym placed) so_far.plays);
      ends = subst (λ (f : Option CallFault). EndsNoting w old.session (freed new.pass) (drop end old.rows.items) (drop k old.rows.items) f) (sym fault_is)
          (subst (λ (p : Known). Stops w old.session (freed p) (freed p) (drop k old.rows.items) (Some fault)) (sym pass) stops);
    }

-- a row of a run is a query
pub query-at : (i k end : ℕ) (rows others : List (ℕ × Op)) (r : ℕ × Op) → AreQueries i end rows → i ≤ k → k < end → others ≡ rows → r ≡ slice_index_or others k r → IsQuery r.1
query-at i k end rows others r all from to same is = subst (λ (x : ℕ × Op). IsQuery x.1) (sym (is ∙ ap (λ (l : List (ℕ × Op)). slice_index_or l k r) same)) (all.queries k r from to)

-- what a note leaves of the pass
pub record HasNoted {D : Type 0} (drive : D → Drive) (next : BookView D) (pass back : Known) (e : Entry) : Type 0 where
  pub out : IsOut drive next back
  pub added : freed back ≡ has_added (freed pass) pass.seen e
  pub world : world_after back.origin.world back.seen ≡ world_after pass.origin.world pass.seen
  pub lock_is : back.lock ≡ pass.lock

pub note-pass : {D : Type 0} (drive : D → Drive) (w : ℕ) (b next : BookView D) (pass back : Known) (session row : ℕ) (op : Op) (place : ℕ) → IsOut drive b pass → Notes b next session row op place → AreBooks drive w b next → IsQuery op
    → back ≡ record pass { seen = next.entries; own = pass.own ++ length pass.seen ∷ [] } → HasNoted drive next pass back (Call session row op)
note-pass drive w b next pass back session row op place out notes books query is =
    let e : Entry = Call session row op in
    let entries : next.entries ≡ pass.seen ++ e ∷ [] = notes.entries ∙ ap (λ (h : List Entry). h ++ e ∷ []) out.entries in
    record {
      out = record {
        on = ap (λ (k : Known). k.holds) is ∙ out.on;
        entries = sym (ap (λ (k : Known). k.seen) is);
        origin = same-origin drive b next books.origin ∙ out.origin ∙ sym (ap (λ (k : Known). k.origin) is);
      };
      added = ap freed is ∙ (λ i. record (freed pass) { seen = entries i; own = pass.own ++ length pass.seen ∷ [] });
      world = (λ i. world_after (is i).origin.world (is i).seen) ∙ ap (world_after pass.origin.world) entries ∙ world_after-append pass.origin.world pass.seen (e ∷ []) ∙ query_keeps op (world_after pass.origin.world pass.seen) query;
      lock_is = ap (λ (k : Known). k.lock) is;
    }

-- the world that a pass had seen is that of a book that was taken later, where nothing changed it
pub still-world : {D : Type 0} (drive : D → Drive) (b : BookView D) (old took : Known) (leaves : List Leaf) (events : ℕ) → WasTaken drive b old took → Sees leaves events old → is_still_since events b.entries ≡ true
    → world_after took.origin.world took.seen ≡ world_after old.origin.world old.seen
still-world drive b old took leaves events was sees still =
    (λ i. world_after (was.took_is i).origin.world took.seen) ∙ world_after-since old.origin.world old.seen took.seen was.later ((λ i. is_still_since (sym sees.events_is i) (sym was.entries i)) ∙ still)

-- the answers are in the world at which they were noted
pub answers-still : {I D O P : Type 0} (world now : World) (i j : ℕ) (before : List KeptRow) (old new : Lane I D O P) → now ≡ world → new.rows.items ≡ old.rows.items → new.kept.items ≡ old.kept.items → AnswersIn world i j before old → AnswersIn now i j before new
answers-still world now i j before old new same rows kept answers = record {
  front = answers.front;
  rows_are = subst (λ (l : List (ℕ × Op)). drop i l ≡ answers.front ++ drop j l) (sym rows) answers.rows_are;
  kept_are = kept ∙ subst (λ (list : World). old.kept.items ≡ before ++ map (unplaced list) answers.front) (sym same) answers.kept_are;
}

module _ {I D O P B : Type 0} (drive : B → Drive) (b : BookView B) (w i end base : ℕ) (start old : Lane I D O P) (took : Known) (stood : Stood base start old) (was : WasTaken drive b old.pass took) where
  -- what it has seen in between
  looked-on : HasLooked start.pass (freed took)
  looked-on = looked-twice start.pass old.pass (freed took) stood.pass (looked-back drive b old.pass took (freed took) [] was refl)

  module _ (noted : Lane I D O P) (notes : NotesRows w i end base (record old { pass = took }) noted) (within : end ≤ length old.rows.items) (less : i < end) where
    played : PlaysRows w start.session (freed took) (freed noted.pass) start.kept.items noted.kept.items (drop i start.rows.items) notes.rest
    played =
        subst (λ (rows : List (ℕ × Op)). PlaysRows w start.session (freed took) (freed noted.pass) start.kept.items noted.kept.items (drop i rows) notes.rest) stood.rows
        (subst (λ (kept : List KeptRow). PlaysRows w start.session (freed took) (freed noted.pass) kept noted.kept.items (drop i old.rows.items) notes.rest) stood.kept
        (subst (λ (session : ℕ). PlaysRows w session (freed took) (freed noted.pass) (take base old.kept.items) noted.kept.items (drop i old.rows.items) notes.rest) stood.session notes.plays))

    pub run-played : (new : Lane I D O P) → vec_len old.kept + i ≡ base + end → noted.fault ≡ None → new.session ≡ noted.session → new.rows.items ≡ noted.rows.items → new.fault ≡ noted.fault → new.pass ≡ freed noted.pass
        → new.kept.items ≡ noted.kept.items → vec_len new.kept ≡ vec_len noted.kept → vec_capacity noted.kept ≤ vec_capacity new.kept → PlaysOn w i end start new
    run-played new count calm session rows fault pass kept len room =
        let long : end ≤ length start.rows.items = subst (λ (l : List (ℕ × Op)). end ≤ length l) stood.rows within in
        let rest : notes.rest ≡ drop end start.rows.items =
        subst (λ (f : Option CallFault). EndsNoting w old.session (freed noted.pass) (drop end old.rows.items) notes.rest f) calm notes.ends ∙ ap (drop end) stood.rows in
        let here : PlaysRows w start.session (freed took) (freed noted.pass) start.kept.items noted.kept.items (drop i start.rows.items) (drop end start.rows.items) =
        subst (λ (l : List (ℕ × Op)). PlaysRows w start.session (freed took) (freed noted.pass) start.kept.items noted.kept.items (drop i start.rows.items) l) rest played in
        let behind : PlaysRows w start.session start.pass (freed noted.pass) start.kept.items noted.kept.items (drop i start.rows.items) (drop end start.rows.items) =
        looked-rows w start.session start.pass (freed took) (freed noted.pass) start.kept.items noted.kept.items (drop i start.rows.items) (drop end start.rows.items) looked-on
        (omega (arith, less, long, length-drop i start.rows.items, length-drop end start.rows.items)) here in
        record {
          session = session ∙ notes.session ∙ stood.session;
          rows = rows ∙ notes.rows ∙ stood.rows;
          fault = fault ∙ calm;
          within = long;
          count = let same = notes.count calm in let base_is = stood.base_is in omega (arith, len, same, base_is, count);
          room = let room' = notes.room in let room'' = stood.room in omega (arith, room, room', room'');
          plays = subst (λ (k : Known). PlaysRows w start.session start.pass k start.kept.items new.kept.items (drop i start.rows.items) (drop end start.rows.items)) (sym pass)
              (subst (λ (l : List KeptRow). PlaysRows w start.session start.pass (freed noted.pass) start.kept.items l (drop i start.rows.items) (drop end start.rows.items)) (sym kept) behind);
        }

    pub run-refused : (new : Lane I D O P) (fault : CallFault) → noted.fault ≡ Some fault → new.session ≡ noted.session → new.rows.items ≡ noted.rows.items → new.fault ≡ noted.fault → new.pass ≡ freed noted.pass → new.kept.items ≡ noted.kept.items
        → StopsOn w i start new
    run-refused new fault is session rows fault_is pass kept =
        let long : end ≤ length start.rows.items = subst (λ (l : List (ℕ × Op)). end ≤ length l) stood.rows within in
        let stops : Stops w start.session (freed noted.pass) (freed noted.pass) notes.rest (Some fault) =
        subst (λ (session : ℕ). Stops w session (freed noted.pass) (freed noted.pass) notes.rest (Some fault)) stood.session
        (subst (λ (f : Option CallFault). EndsNoting w old.session (freed noted.pass) (drop end old.rows.items) notes.rest f) is notes.ends) in
        let both = looked-stop w start.session start.pass (freed took) (freed noted.pass) (freed noted.pass) start.kept.items noted.kept.items (drop i start.rows.items) notes.rest (Some fault) looked-on
        (omega (arith, less, long, length-drop i start.rows.items)) played stops in
        record {
          session = session ∙ notes.session ∙ stood.session;
          rows = rows ∙ notes.rows ∙ stood.rows;
          mid = both.0;
          rest = notes.rest;
          plays = subst (λ (l : List KeptRow). PlaysRows w start.session start.pass both.0 start.kept.items l (drop i start.rows.items) notes.rest) (sym kept) both.1;
          stops = subst (λ (f : Option CallFault). Stops w start.session both.0 new.pass notes.rest f) (sym (fault_is ∙ is)) (subst (λ (k : Known). Stops w start.session both.0 k notes.rest (Some fault)) (sym pass) both.2);
        }

-- a lane of which nothing was answered
pub none-answered : {I D O P : Type 0} (leaves : List Leaf) (events i : ℕ) (pass : Known) (old new : Lane I D O P) → Sees leaves events pass → Answers leaves i i old new → (new.kept.items ≡ old.kept.items) × (vec_len new.kept ≡ vec_len old.kept)
none-answered leaves events i pass old new sees answers =
    let here = answers.answers (world_after pass.origin.world pass.seen) sees.names sees.world sees.stands in
    let none : here.front ≡ [] = no-front new.rows.items i here.front here.rows_are in
    let count = answers.count in
    (here.kept_are ∙ ap (λ (front : List (ℕ × Op)). old.kept.items ++ map (unplaced (world_after pass.origin.world pass.seen)) front) none ∙ append-nil old.kept.items, omega arith)

-- a lane of which some were answered, and what it kept before
pub some-answered : {I D O P : Type 0} (leaves : List Leaf) (events i j base : ℕ) (pass : Known) (old new : Lane I D O P) → Sees leaves events pass → Answers leaves i j old new → length old.kept.items ≡ base
    → (take base new.kept.items ≡ old.kept.items) × AnswersIn (world_after pass.origin.world pass.seen) i j (take base new.kept.items) new
some-answered leaves events i j base pass old new sees answers long =
    let world = world_after pass.origin.world pass.seen in
    let here : AnswersIn world i j old.kept.items new = answers.answers world sees.names sees.world sees.stands in
    let before : take base new.kept.items ≡ old.kept.items = ap (take base) here.kept_are ∙ take_at old.kept.items (map (unplaced world) here.front) base long in
    (before, subst (λ (l : List KeptRow). AnswersIn world i j l new) (sym before) here)
