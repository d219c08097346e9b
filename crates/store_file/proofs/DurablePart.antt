-- The entries of a history whose records don't wait for a sync, and what the file of its log has of them.
use Rattle.std.proofs.Common.{◌≡◌, ◌⊎◌, inl, inr, ◌∙◌, ℕ, ◌≤◌, Bool, true, false, List, [], ◌∷◌, ◌++◌, length, map, cond, Option, Some, None, refl, sym, ap, subst, arith, append_assoc}
use Rattle.std.proofs.lemmas.List.{length-map}
use Rattle.std.specs.Prelude.{◌&&◌}
use Rattle.std.specs.Cmp.{first_so, second_so}
use Rattle.std.specs.Cmp.Derive.{both_true}
use Rattle.cell_format.specs.declared.cell.Cell.{Cell}
use Rattle.cell_format.specs.declared.cell.Cell.TheVariants as cell
use Rattle.disk_trait.specs.Drive.{Drive}
use Rattle.plain_list.specs.declared.ops.Op.{Op}
use Rattle.plain_list.specs.declared.ops.Op.TheVariants as op
use Rattle.plain_list.specs.declared.entries.Entry.{Entry}
use Rattle.plain_list.specs.declared.entries.Entry.TheVariants.{Fail, Call, Begin, Install, Abandon}
use Rattle.plain_list.specs.World.{World}
use Rattle.plain_list.specs.Answer.{answer_of, after_of, is_change}
use Rattle.plain_list.specs.History.{world_after, world_step, failed_cell}
use Rattle.plain_list.specs.State.{State, IsLegal, are_fails, is_fail, is_free, is_legal_history, is_possible, step}
use Rattle.plain_list.proofs.Histories.{failed_cell-append, has_failed-none}
use Rattle.log_state.specs.Changes.{cells_of, change_cells, failed_cells}
use Rattle.log_state.proofs.PlacedChanges.{failed_cells-none}
use Rattle.kept_log.specs.KeptView.{Earlier, KeptView}
use Rattle.kept_log.specs.Moved.{lessen, lessen_cell, own_entries, own_state, own_view}
use Rattle.kept_log.specs.Journal.{KeepsFrom, KeepsIn, KeepsLog, KeepsMoved, KeepsWaiting}
use Rattle.kept_log.proofs.LesserNumbers.{failed_cell-less}
use Rattle.kept_log.proofs.OwnHistory.{own-cells}
use Rattle.kept_log.proofs.Waiting.{at-once-keeps, keeps-alike}
use Rattle.store_file.specs.Crashes.{IsDurablePart}

-- A history in two parts, of which the first has the cells `a` and the second has the cells `b`.
record InTwo (world : World) (h : List Entry) (a b : List Cell) : Type 0 where
  part : List Entry
  rest : List Entry
  parts : h ≡ part ++ rest
  front : cells_of world part ≡ a
  back : cells_of (world_after world part) rest ≡ b

-- Of at most one cell all or none is in front of a cut.
module _ (rest b : List Cell) where
  cut-one : (own a : List Cell) → length own ≤ 1 → own ++ rest ≡ a ++ b → (a ≡ []) ⊎ ((more : List Cell) × (a ≡ own ++ more) × (rest ≡ more ++ b))
  cut-one own [] few is = inl refl
  cut-one [] (c ∷ a) few is = inr (c ∷ a, refl, is)
  cut-one (d ∷ []) (c ∷ a) few is =
      let head : c ≡ d = sym (cc is) in
      let tail : rest ≡ a ++ b = cc is in
      inr (a, (λ i. head i ∷ a), tail)
  cut-one (d ∷ e ∷ own) (c ∷ a) few is = absurd (omega (arith, few))

change-one : (t : Bool) (o : Op) → length (cond t (change_cells o) []) ≤ 1
change-one true (op.Put id at moment) = omega arith
change-one true (op.Move id at moment) = omega arith
change-one true (op.Remove id) = omega arith
change-one true (op.Find id) = omega arith
change-one true (op.Within region) = omega arith
change-one true (op.Near at k) = omega arith
change-one false o = omega arith

module _ (world : World) (e : Entry) (own : List Cell) (few : length own ≤ 1) (next : (g : List Entry) → cells_of world (e ∷ g) ≡ own ++ cells_of (world_step world e) g) where
  cut-at : (h : List Entry) (a b : List Cell) → ((more : List Cell) → cells_of (world_step world e) h ≡ more ++ b → InTwo (world_step world e) h more b) → cells_of world (e ∷ h) ≡ a ++ b → InTwo world (e ∷ h) a b
  cut-at h a b later is = by_side (cut-one (cells_of (world_step world e) h) b own a few (sym (next h) ∙ is))
    where
      by_side : (a ≡ []) ⊎ ((more : List Cell) × (a ≡ own ++ more) × (cells_of (world_step world e) h ≡ more ++ b)) → InTwo world (e ∷ h) a b
      by_side (inl none) = record { part = []; rest = e ∷ h; parts = refl; front = sym none; back = is ∙ ap (λ (l : List Cell). l ++ b) none }
      by_side (inr one) =
          let it = later one.0 one.2 in
          record {
            part = e ∷ it.part;
            rest = it.rest;
            parts = ap (λ (l : List Entry). e ∷ l) it.parts;
            front = next it.part ∙ ap (λ (l : List Cell). own ++ l) it.front ∙ sym one.1;
            back = it.back;
          }

-- Each cut of a history's cells is one of the history.
in-two : (world : World) (h : List Entry) (a b : List Cell) → cells_of world h ≡ a ++ b → InTwo world h a b
in-two world [] [] b is = record { part = []; rest = []; parts = refl; front = refl; back = is }
in-two world [] (c ∷ a) b is = absurd (cc is)
in-two world (Fail number lost ∷ h) a b is = cut-at world (Fail number lost) [] (omega arith) (λ g. refl) h a b (λ more. in-two world h more b) is
in-two world (Call session row o ∷ h) a b is =
    cut-at world (Call session row o) (cond (is_change (answer_of world o)) (change_cells o) []) (change-one (is_change (answer_of world o)) o) (λ g. refl) h a b (λ more. in-two (after_of world o) h more b) is
in-two world (Begin number name ∷ h) a b is = cut-at world (Begin number name) (cell.Begin number name ∷ []) (omega arith) (λ g. refl) h a b (λ more. in-two world h more b) is
in-two world (Install number ∷ h) a b is = cut-at world (Install number) (cell.Install number ∷ []) (omega arith) (λ g. refl) h a b (λ more. in-two world h more b) is
in-two world (Abandon number ∷ h) a b is = cut-at world (Abandon number) (cell.Abandon number ∷ []) (omega arith) (λ g. refl) h a b (λ more. in-two world h more b) is

-- A cut of a list after a function is one of the list.
cut-map : {A : Type 0} (f : A → A) (l front back : List A) → map f l ≡ front ++ back → (one two : List A) × (l ≡ one ++ two) × (map f one ≡ front) × (map f two ≡ back)
cut-map f l [] back is = ([], l, refl, refl, is)
cut-map f [] (x ∷ front) back is = absurd (cc is)
cut-map f (a ∷ l) (x ∷ front) back is =
    let head : f a ≡ x = cc is in
    let tail : map f l ≡ front ++ back = cc is in
    let it = cut-map f l front back tail in
    (a ∷ it.0, it.1, ap (λ m. a ∷ m) it.2, (λ i. head i ∷ it.3 i), it.4)

-- The first entries of a history without a failed append have none.
front-sound : (h g : List Entry) → failed_cell (h ++ g) ≡ None → failed_cell h ≡ None
front-sound [] g none = refl
front-sound (Fail number lost ∷ h) g none = none
front-sound (Call session row o ∷ h) g none = front-sound h g none
front-sound (Begin number name ∷ h) g none = front-sound h g none
front-sound (Install number ∷ h) g none = front-sound h g none
front-sound (Abandon number ∷ h) g none = front-sound h g none

fails-front : (h g : List Entry) → are_fails (h ++ g) ≡ true → are_fails h ≡ true
fails-front [] g all = refl
fails-front (e ∷ h) g all = both_true (first_so (is_fail e) (are_fails (h ++ g)) all) (fails-front h g (second_so (is_fail e) (are_fails (h ++ g)) all))

-- The first entries of a legal history are legal.
legal-front : (w : ℕ) (s : State) (h g : List Entry) → is_legal_history w s (h ++ g) ≡ true → is_legal_history w s h ≡ true
legal-front w s [] g legal = refl
legal-front w s (e ∷ h) g legal =
    let rest : Bool = cond (is_fail e) (are_fails (h ++ g)) (is_legal_history w (step w s e) (h ++ g)) in
    both_true (first_so (is_possible w s e && is_free s e) rest legal) (by_test (is_fail e) (legal-front w (step w s e) h g) (second_so (is_possible w s e && is_free s e) rest legal))
  where
    by_test : (t : Bool) → (is_legal_history w (step w s e) (h ++ g) ≡ true → is_legal_history w (step w s e) h ≡ true)
        → cond t (are_fails (h ++ g)) (is_legal_history w (step w s e) (h ++ g)) ≡ true → cond t (are_fails h) (is_legal_history w (step w s e) h) ≡ true
    by_test true later all = fails-front h g all
    by_test false later more = later more

-- The log without the cells that wait.
abbrev pub written-log : {D : Type 0} → KeptView D → KeptView D
written-log log = record log { waiting = [] }

module _ {D : Type 0} (drive : D → Drive) (w : ℕ) where
  written-keeps : (s : State) (h : List Entry) (log : KeptView D) → KeepsLog drive w s h log → KeepsLog drive w s h (written-log log)
  written-keeps s h log kept = record {
    keeps = record { count = kept.keeps.count; since = kept.keeps.since; text = kept.keeps.text };
    failed = kept.failed;
    named = kept.named;
    most = kept.most;
    later = kept.later;
    rose = kept.rose;
    calm = kept.calm;
    well = kept.well;
    stopped = kept.stopped;
    file = kept.file;
    told = kept.told;
    from = kept.from;
  }

  -- The log by itself keeps the first entries of the history, which have the cells that don't wait.
  record OwnWritten (s : State) (h : List Entry) (log : KeptView D) : Type 0 where
    two : (written : List Cell) × InTwo s.world h written log.waiting
    keeps : KeepsWaiting drive w s two.1.part (written-log log)

  own-written : (s : State) (h : List Entry) (log : KeptView D) → KeepsWaiting drive w s h log → failed_cell h ≡ None → OwnWritten s h log
  own-written s h log kept sound =
      let two = in-two s.world h (cells_of s.world kept.written) log.waiting kept.cells in
      let part_sound : failed_cell two.part ≡ None = front-sound two.part two.rest (ap failed_cell (sym two.parts) ∙ sound) in
      let written_sound : failed_cell kept.written ≡ None = sym kept.keeps.failed ∙ kept.failed ∙ sound in
      let lost : failed_cells two.part ≡ failed_cells kept.written =
      failed_cells-none two.part (has_failed-none two.part part_sound) ∙ sym (failed_cells-none kept.written (has_failed-none kept.written written_sound)) in
      record {
        two = (cells_of s.world kept.written, two);
        keeps = at-once-keeps drive w s two.part (written-log log)
            (written-keeps s two.part log (keeps-alike drive w s kept.written two.part log two.front lost (part_sound ∙ sym written_sound) kept.keeps)) refl;
      }

  own-written-sound : (s : State) (h : List Entry) (e : Earlier D) (log : KeptView D) (kept : KeepsMoved drive w s h e log) → failed_cell h ≡ None → failed_cell (own_entries e kept.after) ≡ None
  own-written-sound s h e log kept sound =
      failed_cell-less e.skipped kept.after ∙ sym (failed_cell-append e.entries kept.after (has_failed-none e.entries kept.sound)) ∙ ap failed_cell (sym kept.parts) ∙ sound

  -- The first entries, which have the cells that don't wait. The log without the others keeps them.
  pub record KeepsPart (s : State) (h : List Entry) (log : KeptView D) (earlier : Option (Earlier D)) : Type 0 where
    pub part : List Entry
    pub is_part : IsDurablePart s.world h (length log.waiting) part
    pub keeps : KeepsFrom drive w s part (written-log log) earlier

  module _ (s : State) (h : List Entry) (log : KeptView D) (sound : failed_cell h ≡ None) where
    part-own : KeepsWaiting drive w s h log → KeepsPart s h log None
    part-own kept =
        let own = own-written s h log kept sound in
        record { part = own.two.1.part; is_part = record { rest = own.two.1.rest; parts = own.two.1.parts; count = ap length own.two.1.back }; keeps = own.keeps }

    part-moved : (e : Earlier D) → KeepsMoved drive w s h e log → KeepsPart s h log (Some e)
    part-moved e kept =
        let own = own-written (own_state w s e) (own_entries e kept.after) (own_view e log) kept.keeps (own-written-sound s h e log kept sound) in
        let two = own.two.1 in
        let cut = cut-map (lessen e.skipped) kept.after two.part two.rest two.parts in
        record {
          part = e.entries ++ cut.0;
          is_part = record {
            rest = cut.1;
            parts = kept.parts ∙ ap (λ (l : List Entry). e.entries ++ l) cut.2 ∙ sym (append_assoc e.entries cut.0 cut.1);
            count =
                sym (length-map (cells_of (world_after s.world (e.entries ++ cut.0)) cut.1) (lessen_cell e.skipped))
                ∙ ap length (sym (own-cells w s (e.entries ++ cut.0) cut.1 e cut.0 refl))
                ∙ (λ i. length (cells_of (world_after (own_state w s e).world (cut.3 i)) (cut.4 i)))
                ∙ ap length two.back;
          };
          keeps = record {
            moves = kept.moves;
            after = cut.0;
            parts = refl;
            rests = kept.rests;
            begun = kept.begun;
            sound = kept.sound;
            keeps = subst (λ (l : List Entry). KeepsWaiting drive w (own_state w s e) l (own_view e (written-log log))) (sym cut.3) own.keeps;
          };
        }

    part-from : (earlier : Option (Earlier D)) → KeepsFrom drive w s h log earlier → KeepsPart s h log earlier
    part-from None kept = part-own kept
    part-from (Some e) kept = part-moved e kept

    -- So the log's file has those entries, whether the log has replaced another one or not.
    pub durable-part : KeepsIn drive w s h (Some log) → KeepsPart s h log log.earlier
    durable-part kept = part-from log.earlier kept

    pub part-sound : (part : List Entry) → IsDurablePart s.world h (length log.waiting) part → failed_cell part ≡ None
    part-sound part is = front-sound part is.rest (ap failed_cell (sym is.parts) ∙ sound)

    pub part-legal : IsLegal w s h → (part : List Entry) → IsDurablePart s.world h (length log.waiting) part → IsLegal w s part
    part-legal legal part is = legal-front w s part is.rest (subst (IsLegal w s) is.parts legal)
