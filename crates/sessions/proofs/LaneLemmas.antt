-- Lanes, row by row.
use Rattle.std.proofs.Common.{◌≡◌, ℕ, ◌+◌, ◌<◌, ◌≤◌, List, [], ◌∷◌, ◌++◌, length, drop, Option, Some, Ok, Err, refl, sym, ap, subst, ◌∙◌, arith, append_assoc}
use Rattle.std.specs.Prelude.{slice_index_or}
use Rattle.std.proofs.lemmas.List.{append-nil, drop_more}
use Rattle.plain_list.specs.declared.ops.Op.{Op}
use Rattle.atomic_table.specs.Seated.{TableId}
use Rattle.book_lock.specs.Pass.{Known}
use Rattle.commit_book.specs.declared.book.Done.{Done}
use Rattle.sessions.specs.declared.faults.CallFault.{CallFault}
use Rattle.sessions.specs.declared.faults.Split.{Split}
use Rattle.sessions.specs.declared.store.lanes.Lane.{Lane}
use Rattle.sessions.specs.declared.store.lanes.KeptRow.{KeptRow}
use Rattle.sessions.specs.Calls.{Called}
use Rattle.sessions.specs.Splits.{SamePass}
use Rattle.sessions.specs.Lanes.{IsReadyLane, Tries, KeepsRow, KeepsAll, Stops, PlaysLane, PlaysRows, PlaysOn, StopsOn}
use Rattle.sessions.proofs.LanePasses.{all-same}

-- rows behind those that were kept
keeps-then : (w session : ℕ) (old mid new : Known) (rows : List (ℕ × Op)) (kept : List KeptRow) (later : List (ℕ × Op)) (more : List KeptRow)
    → KeepsAll w session old rows kept mid → KeepsAll w session mid later more new → KeepsAll w session old (rows ++ later) (kept ++ more) new
keeps-then w session old mid new [] [] later more all next = subst (λ (o : Known). KeepsAll w session o later more new) all next
keeps-then w session old mid new [] (k ∷ kept) later more all next = absurd all
keeps-then w session old mid new (r ∷ rows) [] later more all next = absurd all
keeps-then w session old mid new (r ∷ rows) (k ∷ kept) later more (first, one, rest) next = (first, one, keeps-then w session first mid new rows kept later more rest next)

module _ (w session : ℕ) where
  pub rows-none : (pass : Known) (kept : List KeptRow) (rows : List (ℕ × Op)) → PlaysRows w session pass pass kept kept rows rows
  rows-none pass kept rows = record { front = []; added = []; rows_are = refl; kept_are = sym (append-nil kept); keeps = refl }

  pub rows-one : (old new : Known) (kept : List KeptRow) (r : ℕ × Op) (rest : List (ℕ × Op)) (k : KeptRow) → KeepsRow w session old new r k → PlaysRows w session old new kept (kept ++ k ∷ []) (r ∷ rest) rest
  rows-one old new kept r rest k one = record { front = r ∷ []; added = k ∷ []; rows_are = refl; kept_are = refl; keeps = (new, one, refl) }

  pub rows-then : (old mid new : Known) (before between after : List KeptRow) (rows others rest : List (ℕ × Op))
      → PlaysRows w session old mid before between rows others → PlaysRows w session mid new between after others rest → PlaysRows w session old new before after rows rest
  rows-then old mid new before between after rows others rest one two = record {
    front = one.front ++ two.front;
    added = one.added ++ two.added;
    rows_are = one.rows_are ∙ ap (λ (l : List (ℕ × Op)). one.front ++ l) two.rows_are ∙ sym (append_assoc one.front two.front rest);
    kept_are = two.kept_are ∙ ap (λ (l : List KeptRow). l ++ two.added) one.kept_are ∙ append_assoc before one.added two.added;
    keeps = keeps-then w session old mid new one.front one.added two.front two.added one.keeps two.keeps;
  }

-- it is the first of those that are left
pub row-next : (rows : List (ℕ × Op)) (i : ℕ) (r : ℕ × Op) → i < length rows → r ≡ slice_index_or rows i r → drop i rows ≡ r ∷ drop (i + 1) rows
row-next rows i r within is = drop_more rows i r within ∙ ap (λ (x : ℕ × Op). x ∷ drop (i + 1) rows) (sym is)

module _ {I D O P : Type 0} (w : ℕ) where
  -- a row was called, and what is kept of it
  pub row-plays : (i : ℕ) (old : Lane I D O P) (mid new : Known) (after : List KeptRow) (r : ℕ × Op) (done : Done) (split : Option Split) → i < length old.rows.items → r ≡ slice_index_or old.rows.items i r
      → Called w old.session r.0 r.1 old.pass mid (Ok done) → Tries w done.full mid new split → after ≡ old.kept.items ++ record { row = r.0; place = done.place; answer = done.answer; split = split } ∷ []
      → PlaysRows w old.session old.pass new old.kept.items after (drop i old.rows.items) (drop (i + 1) old.rows.items)
  row-plays i old mid new after r done split within is called tries after_is =
      let k : KeptRow = record { row = r.0; place = done.place; answer = done.answer; split = split } in
      let one : KeepsRow w old.session old.pass new r k = record { mid = mid; done = done; called = called; row_is = refl; place_is = refl; answer_is = refl; tries = tries } in
      subst (λ (l : List KeptRow). PlaysRows w old.session old.pass new old.kept.items l (drop i old.rows.items) (drop (i + 1) old.rows.items)) (sym after_is)
      (subst (λ (l : List (ℕ × Op)). PlaysRows w old.session old.pass new old.kept.items (old.kept.items ++ k ∷ []) l (drop (i + 1) old.rows.items)) (sym (row-next old.rows.items i r within is))
      (rows-one w old.session old.pass new old.kept.items r (drop (i + 1) old.rows.items) k one))

  -- a row was refused
  pub row-stops : (i : ℕ) (old : Lane I D O P) (new : Known) (r : ℕ × Op) (fault : CallFault) → i < length old.rows.items → r ≡ slice_index_or old.rows.items i r → Called w old.session r.0 r.1 old.pass new (Err fault) →
      StopsOn w i old (record old { pass = new; fault = Some fault })
  row-stops i old new r fault within is called = record {
    session = refl;
    rows = refl;
    mid = old.pass;
    rest = drop i old.rows.items;
    plays = rows-none w old.session old.pass old.kept.items (drop i old.rows.items);
    stops = subst (λ (l : List (ℕ × Op)). Stops w old.session old.pass new l (Some fault)) (sym (row-next old.rows.items i r within is)) called;
  }

  -- a pass of a lane that plays on
  pub goes-same : (i j : ℕ) (old new : Lane I D O P) → PlaysOn w i j old new → SamePass old.pass new.pass
  goes-same i j old new plays = all-same w old.session old.pass plays.plays.front plays.plays.added new.pass plays.plays.keeps

  -- what one plays whose lane has played so far
  behind : (i j : ℕ) (old mid : Lane I D O P) (new : Known) (after : List KeptRow) (rest : List (ℕ × Op)) → PlaysOn w i j old mid → PlaysRows w mid.session mid.pass new mid.kept.items after (drop j mid.rows.items) rest
      → PlaysRows w old.session old.pass new old.kept.items after (drop i old.rows.items) rest
  behind i j old mid new after rest plays more =
      rows-then w old.session old.pass mid.pass new old.kept.items mid.kept.items after (drop i old.rows.items) (drop j old.rows.items) rest plays.plays
      (subst (λ (rows : List (ℕ × Op)). PlaysRows w old.session mid.pass new mid.kept.items after (drop j rows) rest) plays.rows
      (subst (λ (session : ℕ). PlaysRows w session mid.pass new mid.kept.items after (drop j mid.rows.items) rest) plays.session more))

  pub plays-more : (i j k : ℕ) (old mid new : Lane I D O P) → PlaysOn w i j old mid → PlaysOn w j k mid new → PlaysOn w i k old new
  plays-more i j k old mid new plays more =
      let count = plays.count in
      let count' = more.count in
      let room = plays.room in
      let room' = more.room in
      record {
        session = more.session ∙ plays.session;
        rows = more.rows ∙ plays.rows;
        fault = more.fault;
        within = subst (λ (rows : List (ℕ × Op)). k ≤ length rows) plays.rows more.within;
        count = omega arith;
        room = omega arith;
        plays = behind i j old mid new.pass new.kept.items (drop k old.rows.items) plays (subst (λ (rows : List (ℕ × Op)). PlaysRows w mid.session mid.pass new.pass mid.kept.items new.kept.items (drop j mid.rows.items) (drop k rows)) plays.rows more.plays);
      }

  -- the next row was refused
  pub plays-stop : (i j : ℕ) (old mid new : Lane I D O P) → PlaysOn w i j old mid → StopsOn w j mid new → StopsOn w i old new
  plays-stop i j old mid new plays stop = record {
    session = stop.session ∙ plays.session;
    rows = stop.rows ∙ plays.rows;
    mid = stop.mid;
    rest = stop.rest;
    plays = behind i j old mid stop.mid new.kept.items stop.rest plays stop.plays;
    stops = subst (λ (session : ℕ). Stops w session stop.mid new.pass stop.rest new.fault) plays.session stop.stops;
  }

  -- so a lane was played from its first row on
  pub stopped : (lock : TableId) (old new : Lane I D O P) → IsReadyLane lock old → StopsOn w 0 old new → PlaysLane w old new
  stopped lock old new ready stop = record {
    session = stop.session;
    rows = stop.rows;
    front = stop.plays.front;
    rest = stop.rest;
    mid = stop.mid;
    whole = stop.plays.rows_are;
    keeps = subst (λ (kept : List KeptRow). KeepsAll w old.session old.pass stop.plays.front kept stop.mid) (sym (stop.plays.kept_are ∙ ap (λ (kept : List KeptRow). kept ++ stop.plays.added) ready.kept)) stop.plays.keeps;
    stops = stop.stops;
  }
