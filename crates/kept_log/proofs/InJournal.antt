-- What an append does to each history that a journal keeps, and the cell that a history's failed append names.
use Rattle.std.specs.Prelude.{map}
use Rattle.std.proofs.Common.{◌≡◌, ◌⊎◌, inl, inr, ℕ, ◌≤◌, true, false, List, [], ◌∷◌, ◌++◌, Option, Some, None, is_some, refl, sym, ◌∙◌, ap, subst, arith, cond}
use Rattle.std.proofs.lemmas.Bool.{true≢false}
use Rattle.std.proofs.lemmas.List.{append-nil, append_assoc, append_cancel_left, map-append}
use Rattle.causes.specs.Causes.{Rose}
use Rattle.cell_format.specs.declared.cell.Cell.{Cell}
use Rattle.plain_list.specs.declared.entries.Entry.{Entry}
use Rattle.plain_list.specs.declared.entries.Entry.TheVariants.{Fail, Call, Begin, Install, Abandon}
use Rattle.plain_list.specs.declared.ops.Op.{Op}
use Rattle.plain_list.specs.World.{World}
use Rattle.plain_list.specs.Answer.{answer_of, is_change}
use Rattle.plain_list.specs.History.{world_after, failed_cell}
use Rattle.plain_list.specs.State.{State, is_fail, IsLegal}
use Rattle.plain_list.proofs.Histories.{has_failed, failed_cell-none, failed_cell-append}
pub use Rattle.plain_list.proofs.Histories.{has_failed-none, failed_cell-push}
use Rattle.disk_trait.specs.Drive.{Drive, KeepsLaws}
use Rattle.disk_trait.specs.Moments.{LeavesOnly}
use Rattle.split_log.specs.LogView.{most_cells}
use Rattle.log_state.specs.Recovers.{Recovers}
use Rattle.log_state.specs.Changes.{cells_of, failed_cells}
use Rattle.log_state.proofs.PlacedChanges.{cells_of-append, failed_cells-none as failed_cells-sound}
use Rattle.kept_log.specs.KeptView.{KeptView, Earlier}
use Rattle.kept_log.specs.Moved.{lessen, lessen_cell, own_state, own_entries, own_view}
use Rattle.kept_log.specs.Kept.{StartsWith, IsOpened}
use Rattle.kept_log.specs.Journal.{KeepsIn, KeepsFrom, KeepsWaiting, AreWritten, RecoversWith, OfOwn, OwnAllOrNone, Added, AddedAll, LeavesEither, LeavesAllOrNone}
use Rattle.kept_log.proofs.LesserNumbers.{lessen-fail}
use Rattle.kept_log.proofs.OwnHistory.{own-cells, own-legal}
use Rattle.kept_log.proofs.StepCells.{call-no_cells}
use Rattle.kept_log.proofs.Starting.{kept-opened}
use Rattle.kept_log.proofs.Waiting.{at-once-keeps, are-written, in-failed}
use Rattle.kept_log.proofs.Adding.{sound-push}

-- If no cell is named, none was lost.
pub failed_cells-none : (h : List Entry) → failed_cell h ≡ None → failed_cells h ≡ []
failed_cells-none h none = failed_cells-sound h (has_failed-none h none)

-- An entry that is no failed append names no cell.
going_cell : (e : Entry) → is_fail e ≡ false → failed_cell (e ∷ []) ≡ None
going_cell e going = failed_cell-none (e ∷ []) (ap (λ b. cond b true false) going)

-- An entry that has a cell names none either.
pub with_cell : (world : World) (e : Entry) (cell : Cell) → cells_of world (e ∷ []) ≡ cell ∷ [] → failed_cell (e ∷ []) ≡ None
with_cell world (Fail number lost) cell one = absurd (cc one)
with_cell world (Call session row op) cell one = refl
with_cell world (Begin number name) cell one = refl
with_cell world (Install number) cell one = refl
with_cell world (Abandon number) cell one = refl

-- If no cell is named, no fault count need rise.
pub unnamed : {A : Type 0} (cell : Option ℕ) → cell ≡ None → is_some cell ≡ true → A
unnamed None none told = absurd (true≢false (sym told))
unnamed (Some number) none told = absurd (cc none)

-- If no cell is named, no number is.
pub no_number : {A : Type 0} (cell : Option ℕ) (n : ℕ) → cell ≡ None → cell ≡ Some n → A
no_number cell n none some = absurd (cc (none, some))

-- Two names of one cell are one number.
pub same_number : (n number : ℕ) → Some n ≡ Some number → n ≡ number
same_number n number same = cc same

-- A count that rose since later has risen.
pub rose_since : (a b c : ℕ) → a ≤ b → Rose b c → Rose a c
rose_since a b c before rose = omega (arith, before, rose)

-- An entry without a cell changes nothing that a log keeps.
own-quiet : {D : Type 0} (drive : D → Drive) (w : ℕ) (s : State) (h : List Entry) (e : Entry) (log : KeptView D) → IsLegal w s (h ++ e ∷ [])
    → cells_of (world_after s.world h) (e ∷ []) ≡ []
    → is_fail e ≡ false → KeepsWaiting drive w s h log → KeepsWaiting drive w s (h ++ e ∷ []) log
own-quiet drive w s h e log legal none going kept =
    let sound : has_failed h ≡ false = sound-push w s h e legal going in
    let unfailed : failed_cell (h ++ e ∷ []) ≡ None = failed_cell-push h e sound ∙ going_cell e going in
    let failed : log.failed ≡ None = kept.failed ∙ failed_cell-none h sound in
    record {
      written = kept.written;
      keeps = kept.keeps;
      cells = cells_of-append s.world h (e ∷ []) ∙ ap (λ l. cells_of s.world h ++ l) none ∙ append-nil (cells_of s.world h) ∙ kept.cells;
      failed = failed ∙ sym unfailed;
      lost = unnamed log.failed failed;
      at_once = λ once.
          let (none, lost) = kept.at_once once in
          (none, lost ∙ failed_cells-none h (failed_cell-none h sound) ∙ sym (failed_cells-none (h ++ e ∷ []) unfailed));
      most = kept.most;
    }

quiet-from : {D : Type 0} (drive : D → Drive) (w : ℕ) (s : State) (h : List Entry) (e : Entry) (log : KeptView D) (earlier : Option (Earlier D)) → IsLegal w s (h ++ e ∷ [])
    → cells_of (world_after s.world h) (e ∷ []) ≡ []
    → is_fail e ≡ false → KeepsFrom drive w s h log earlier → KeepsFrom drive w s (h ++ e ∷ []) log earlier
quiet-from drive w s h e log None legal none going kept = own-quiet drive w s h e log legal none going kept
quiet-from drive w s h e log (Some b) legal none going kept =
    let n = b.skipped in
    let own : List Entry = own_entries b kept.after in
    let pushed : own_entries b (kept.after ++ e ∷ []) ≡ own ++ lessen n e ∷ [] = map-append (lessen n) kept.after (e ∷ []) in
    record {
      moves = kept.moves;
      after = kept.after ++ e ∷ [];
      parts = ap (λ (l : List Entry). l ++ e ∷ []) kept.parts ∙ append_assoc b.entries kept.after (e ∷ []);
      rests = kept.rests;
      begun = kept.begun;
      sound = kept.sound;
      keeps = subst (λ (l : List Entry). KeepsWaiting drive w (own_state w s b) l (own_view b log)) (sym pushed)
          (own-quiet drive w (own_state w s b) own (lessen n e) (own_view b log)
          (own-legal w s h (e ∷ []) b kept.after kept.parts kept.rests kept.begun legal)
          (own-cells w s h (e ∷ []) b kept.after kept.parts ∙ ap (map (lessen_cell n)) none)
          (lessen-fail n e ∙ going) kept.keeps);
    }

-- The same, if there is a log.
pub in-quiet : {D : Type 0} (drive : D → Drive) (w : ℕ) (s : State) (h : List Entry) (e : Entry) (log : Option (KeptView D)) → IsLegal w s (h ++ e ∷ [])
    → cells_of (world_after s.world h) (e ∷ []) ≡ []
    → is_fail e ≡ false → KeepsIn drive w s h log → KeepsIn drive w s (h ++ e ∷ []) log
in-quiet drive w s h e None legal none going kept = failed_cell-push h e (sound-push w s h e legal going) ∙ going_cell e going
in-quiet drive w s h e (Some log) legal none going kept = quiet-from drive w s h e log log.earlier legal none going kept

-- A call that changes nothing has no cell.
pub in-call : {D : Type 0} (drive : D → Drive) (w : ℕ) (s : State) (h : List Entry) (session row : ℕ) (op : Op) (log : Option (KeptView D))
    → IsLegal w s (h ++ Call session row op ∷ [])
    → is_change (answer_of (world_after s.world h) op) ≡ false → KeepsIn drive w s h log → KeepsIn drive w s (h ++ Call session row op ∷ []) log
in-call drive w s h session row op log legal none =
    in-quiet drive w s h (Call session row op) log legal (call-no_cells (world_after s.world h) session row op none) refl

-- A log that was just opened keeps the empty history.
pub in-opened : {D : Type 0} (drive : D → Drive) (w : ℕ) (s : State) (log : KeptView D) → log.cells ≡ log.first → IsOpened w s (drive log.start) (drive log.disk)
    → log.cells ≤ most_cells → log.failed ≡ None → log.waiting ≡ [] → KeepsWaiting drive w s [] log
in-opened drive w s log first opened most sound = at-once-keeps drive w s [] log (record {
  keeps = kept-opened drive w s log first opened;
  failed = sound;
  named = λ n. no_number None n refl;
  most = most;
  later = omega (arith, opened.same);
  rose = λ still. unnamed None refl;
  calm = λ none. opened.same;
  well = λ none. opened.calls;
  stopped = λ still. unnamed None refl;
  file = opened.file;
  told = opened.told;
  from = λ bytes told.
      let (cells, recovers, is_log) = opened.log bytes told in
      record { cells = cells; recovers = recovers; state = opened.state bytes cells told recovers };
})

-- Without a log nothing is added, and nothing need be kept.
pub added-none : {D : Type 0} (drive : D → Drive) (cell : Cell) → Added drive cell None None
added-none drive cell = record {
  count = omega arith;
  calls = λ once. tt;
  keeps = λ w s h e next kept. failed_cell-push h e (has_failed-none h kept) ∙ with_cell (world_after s.world h) e cell next.cells;
}

pub all-added-none : {D : Type 0} (drive : D → Drive) (more : List Cell) → AddedAll drive more None None
all-added-none drive more = record {
  count = omega arith;
  calls = λ once. tt;
  keeps = λ w s h es next kept. failed_cell-append h es (has_failed-none h kept) ∙ next.sound;
}

-- If nothing is written, a crash leaves the cells that the file has.
pub own-still : {D : Type 0} (drive : D → Drive) (w : ℕ) (s : State) (h es : List Entry) (log now : KeptView D) → now.disk ≡ log.disk → ((d : D) → KeepsLaws (drive d))
    → KeepsWaiting drive w s h log → log.failed ≡ None → OwnAllOrNone drive w s h es log now
own-still {D = D} drive w s h es log now same laws kept none = λ first written starts are. subst (λ (d : D). LeavesOnly (drive log.disk) (drive d) (RecoversWith w first written s.world (h ++ es))) (sym same) (record {
  later = omega arith;
  each = λ c left. inl (stands first written starts are c ((laws log.disk).only_now c left));
  before = λ t c early left. inl left;
})
  where
    kept_cells : List Cell
    kept_cells = cells_of s.world kept.written

    placed : (first : List Cell) (c : List ℕ) → Recovers w (first ++ kept_cells) c ⊎ Recovers w (first ++ (kept_cells ++ failed_cells kept.written)) c → Recovers w (first ++ kept_cells) c
    placed first c (inl all) = all
    placed first c (inr more) =
        subst (λ (l : List Cell). Recovers w (first ++ l) c)
        (ap (λ (l : List Cell). kept_cells ++ l) (failed_cells-none kept.written (sym kept.keeps.failed ∙ none)) ∙ append-nil kept_cells) more

    stands : (first written : List Cell) → StartsWith w first (drive log.start) → AreWritten s h log written → (c : List ℕ) → (drive log.disk).images c → Recovers w (first ++ written) c
    stands first written starts are c left =
        subst (λ (l : List Cell). Recovers w (first ++ l) c) (sym (are-written drive w s h log kept written are))
        (placed first c ((kept.keeps.keeps.since first starts).history.at_end c left))

still-from : {D : Type 0} (drive : D → Drive) (w : ℕ) (s : State) (h es : List Entry) (log : KeptView D) (earlier : Option (Earlier D)) → ((d : D) → KeepsLaws (drive d))
    → KeepsFrom drive w s h log earlier → log.failed ≡ None → OfOwn w s h es (OwnAllOrNone drive w) log log earlier
still-from drive w s h es log None laws kept none = own-still drive w s h es log log refl laws kept none
still-from drive w s h es log (Some e) laws kept none = λ after parts.
    own-still drive w (own_state w s e) (own_entries e after) (own_entries e es) (own_view e log) (own_view e log) refl laws
    (subst (λ (l : List Entry). KeepsWaiting drive w (own_state w s e) (own_entries e l) (own_view e log)) (append_cancel_left e.entries kept.after after (sym kept.parts ∙ parts)) kept.keeps) none

pub leaves-still : {D : Type 0} (drive : D → Drive) (w : ℕ) (s : State) (h es : List Entry) (log : Option (KeptView D)) → ((d : D) → KeepsLaws (drive d))
    → KeepsIn drive w s h log → failed_cell h ≡ None → LeavesAllOrNone drive w s h es log log
leaves-still drive w s h es None laws kept none = tt
leaves-still drive w s h es (Some log) laws kept none = still-from drive w s h es log log.earlier laws kept (in-failed drive w s h (Some log) kept ∙ none)

pub leaves-quiet : {D : Type 0} (drive : D → Drive) (w : ℕ) (s : State) (h : List Entry) (e : Entry) (log : Option (KeptView D)) → ((d : D) → KeepsLaws (drive d))
    → KeepsIn drive w s h log → failed_cell h ≡ None → LeavesEither drive w s h e log log
leaves-quiet drive w s h e log laws kept none = leaves-still drive w s h (e ∷ []) log laws kept none
