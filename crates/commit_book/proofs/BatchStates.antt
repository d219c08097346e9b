-- A book keeps what holds of it through a batch.
use Rattle.std.proofs.Common.{◌≡◌, ◌⊎◌, inl, inr, ℕ, ◌+◌, ◌≤◌, Bool, true, false, List, [], ◌∷◌, ◌++◌, length, length-append, append_assoc, Option, Some, None, refl, sym, ap, subst, ◌∙◌, arith}
use Rattle.std.proofs.lemmas.List.{append-nil}
use Rattle.std.specs.Prelude.{◌||◌}
use Rattle.std.specs.List.{list_any}
use mathlib.Core.Bool.{true≢false}
use Rattle.zorder.specs.declared.points.Placed.{Placed}
use Rattle.cell_format.specs.declared.cell.Cell.{Cell}
use Rattle.index_layer.specs.Leaves.{Leaf, names_of}
use Rattle.plain_list.specs.declared.ops.Op.{Op}
use Rattle.plain_list.specs.declared.entries.Entry.{Entry}
use Rattle.plain_list.specs.declared.entries.Entry.TheVariants.{Begin, Call}
use Rattle.plain_list.specs.World.{World, places_of}
use Rattle.plain_list.specs.Answer.{answer_of, after_of, is_change}
use Rattle.plain_list.specs.Batch.{answers_to, after_all, batch_calls, batch_fails}
use Rattle.plain_list.specs.History.{world_after, failed_cell}
use Rattle.plain_list.specs.State.{State, OpenSplit, IsLegal, split_name, is_splitting, state_after}
use Rattle.plain_list.proofs.Batches.{batch_calls-state, batch_calls-length, batch_calls-sound, legal-batch_calls, batch_fails-are, batch_fails-length, legal-batch_fails, failed_cell-batch_fails, state_after-fails}
use Rattle.plain_list.proofs.Histories.{has_failed, has_failed-none, failed_cell-append, state_after-append, world_after-append, is_legal-push}
use Rattle.plain_list.proofs.SplitStates.{splitting-found}
use Rattle.disk_trait.specs.Drive.{Drive}
use Rattle.log_state.specs.Changes.{cells_of}
use Rattle.kept_log.specs.KeptView.{KeptView}
use Rattle.kept_log.specs.Journal.{KeepsIn, IsSinceIn}
use Rattle.kept_log.specs.Steps.{AreNext}
use Rattle.kept_log.specs.Counts.{first_in, count_after}
use Rattle.kept_log.proofs.InJournal.{in-call}
use Rattle.point_table.specs.Changes.{bases_of}
use Rattle.point_table.specs.TableView.{TableView}
use Rattle.commit_book.specs.BookInside.{IsInside}
use Rattle.commit_book.specs.IsBook.{most_events}
use Rattle.commit_book.specs.KeptBases.{KeepsBase, KeepsBases}
use Rattle.commit_book.specs.Room.{has_no_room, BeginsInRoom}
use Rattle.commit_book.specs.declared.book.Book.TheInside.{Inside}
use Rattle.commit_book.proofs.BatchLemmas.{batch_calls-no_begin, fails-no_begin, more_or_earlier}
use Rattle.commit_book.proofs.BookSteps.{same_names}
use Rattle.commit_book.proofs.KeptLemmas.{KeepsBase-bases}
use Rattle.commit_book.proofs.OnLog.{in-first}

-- entries that begin no split
abbrev pub NoBegin : List Entry → Type 0
NoBegin es = (before after : List Entry) (number : ℕ) (name : List Bool) → es ≡ before ++ Begin number name ∷ after → ⊥

-- each leaf whose split is open keeps its base past such entries, if they leave the splits as they are
pub KeepsBases-append : (w : ℕ) (o : State) (h es : List Entry) (old new : List Leaf) → NoBegin es → (state_after w o (h ++ es)).splits ≡ (state_after w o h).splits
    → ((number : ℕ) (name : List Bool) → split_name (state_after w o h).splits number ≡ Some name → (places : List Placed) → KeepsBase old places name → KeepsBase new places name)
    → KeepsBases w o old h → KeepsBases w o new (h ++ es)
KeepsBases-append w o h es old new none splits keeps kept before after number name same now = by_place (more_or_earlier h es before after (Begin number name) same)
  where
    by_place : ((rest : List Entry) × (es ≡ rest ++ Begin number name ∷ after)) ⊎ ((rest : List Entry) × (h ≡ before ++ Begin number name ∷ rest)) → KeepsBase new (places_of (world_after o.world before)) name
    by_place (inl among) = absurd (none among.0 after number name among.1)
    by_place (inr earlier) =
        let was : split_name (state_after w o h).splits number ≡ Some name = ap (λ (os : List OpenSplit). split_name os number) (sym splits) ∙ now in
        keeps number name was (places_of (world_after o.world before)) (kept before earlier.0 number name earlier.1 was)

-- and each begin stays within room
pub BeginsInRoom-append : (k l : Bool) (old new : Option ℕ) (world : World) (h es : List Entry) → NoBegin es → l ≡ k → new ≡ old → BeginsInRoom k old world h → BeginsInRoom l new world (h ++ es)
BeginsInRoom-append k l old new world h es none kind same kept before after number name there = by_place (more_or_earlier h es before after (Begin number name) there)
  where
    by_place : ((rest : List Entry) × (es ≡ rest ++ Begin number name ∷ after)) ⊎ ((rest : List Entry) × (h ≡ before ++ Begin number name ∷ rest)) → has_no_room l (count_after new world before) (length before) ≡ false
    by_place (inl among) = absurd (none among.0 after number name among.1)
    by_place (inr earlier) = (λ i. has_no_room (kind i) (count_after (same i) world before) (length before)) ∙ kept before earlier.0 number name earlier.1

-- the calls of a batch may come next, with the records of their changes
pub calls_next : (w : ℕ) (o : State) (h : List Entry) (session row : ℕ) (ops : List Op) (cells : List Cell) → IsLegal w o h → failed_cell h ≡ None → cells ≡ cells_of (world_after o.world h) (batch_calls session row ops)
    → AreNext w o h (batch_calls session row ops) cells
calls_next w o h session row ops cells legal going same = record {
  legal = legal-batch_calls w o h session row ops (has_failed-none h going) legal;
  sound = batch_calls-sound session row ops;
  cells = sym same;
}

-- a log keeps a history with the calls of a batch that changes nothing
pub in-calls : {D : Type 0} (drive : D → Drive) (w : ℕ) (o : State) (h : List Entry) (session row : ℕ) (ops : List Op) (log : Option (KeptView D)) → IsLegal w o h → failed_cell h ≡ None
    → list_any is_change (answers_to (world_after o.world h) ops) ≡ false → KeepsIn drive w o h log → KeepsIn drive w o (h ++ batch_calls session row ops) log
in-calls drive w o h session row [] log legal going none kept = subst (λ (g : List Entry). KeepsIn drive w o g log) (sym (append-nil h)) kept
in-calls drive w o h session row (op ∷ ops) log legal going none kept =
    subst (λ (g : List Entry). KeepsIn drive w o g log) (append_assoc h (call ∷ []) (batch_calls session (row + 1) ops))
    (in-calls drive w o (h ++ call ∷ []) session (row + 1) ops log legal_one going_one (ap (λ (ms : World). list_any is_change (answers_to ms ops)) (world_after-append o.world h (call ∷ [])) ∙ parts.1)
    (in-call drive w o h session row op log legal_one parts.0 kept))
  where
    call : Entry
    call = Call session row op

    neither : (a b : Bool) → (a || b) ≡ false → (a ≡ false) × (b ≡ false)
    neither true b e = absurd (true≢false e)
    neither false b e = (refl, e)

    parts : (is_change (answer_of (world_after o.world h) op) ≡ false) × (list_any is_change (answers_to (after_of (world_after o.world h) op) ops) ≡ false)
    parts = neither _ _ none

    legal_one : IsLegal w o (h ++ call ∷ [])
    legal_one = is_legal-push w o h call (has_failed-none h going) legal refl

    going_one : failed_cell (h ++ call ∷ []) ≡ None
    going_one = failed_cell-append h (call ∷ []) (has_failed-none h going)

module _ {I D P : Type 0} (drive : D → Drive) (w : ℕ) (o : State) (old new : Inside I D P) (inside : IsInside drive w o old) (going : failed_cell old.history.entries ≡ None)
    (on_log : KeepsIn drive w o new.history.entries new.journal) (since : IsSinceIn old.journal new.journal) (kind : new.history.kept ≡ old.history.kept) (session row : ℕ) (ops : List Op) (few : length old.history.entries + length ops ≤ most_events old.history.kept) where
  abbrev pub h : List Entry
  h = old.history.entries

  abbrev pub s : State
  s = state_after w o h

  sound : has_failed h ≡ false
  sound = has_failed-none h going

  -- the calls of a batch
  pub inside-calls : new.history.entries ≡ h ++ batch_calls session row ops → length old.splits.splits ≤ new.history.room → new.table.world ≡ after_all old.table.world ops
      → bases_of old.splits.splits new.table.leaves ≡ bases_of old.splits.splits old.table.leaves → new.splits ≡ old.splits → IsInside drive w o new
  inside-calls entries room world bases splits =
      let es : List Entry = batch_calls session row ops in
      let after : state_after w o (h ++ es) ≡ record s { world = after_all s.world ops } = state_after-append w o h es ∙ batch_calls-state w s session row ops in
      record {
        opening = inside.opening;
        legal = rw entries (legal-batch_calls w o h session row ops sound inside.legal);
        world = rw entries (world ∙ ap (λ (ms : World). after_all ms ops) inside.world ∙ sym (ap (λ (t : State). t.world) after));
        names = rw entries (same_names old.splits.splits _ _ bases ∙ inside.names ∙ sym (ap (λ (t : State). t.leaves) after));
        splits = rw entries (ap (λ v. v.splits) splits ∙ inside.splits ∙ sym (ap (λ (t : State). t.splits) after));
        begun = rw entries (ap (λ v. v.begun) splits ∙ inside.begun ∙ sym (ap (λ (t : State). t.begun) after));
        bases = rw entries (KeepsBases-append w o h es old.table.leaves new.table.leaves (batch_calls-no_begin session row ops) (ap (λ (t : State). t.splits) after)
            (λ number name was ms kept.
            KeepsBase-bases old.splits.splits old.table.leaves new.table.leaves ms name bases (ap (λ (os : List OpenSplit). is_splitting os name) inside.splits ∙ splitting-found s.splits number name was) kept) inside.bases);
        begins = rw entries (BeginsInRoom-append old.history.kept new.history.kept (first_in old.journal) (first_in new.journal) o.world h es (batch_calls-no_begin session row ops) kind (in-first old.journal new.journal since) inside.begins);
        few = rw (entries, kind) (omega (arith, length-append h es, batch_calls-length session row ops, few));
        room = λ _. omega (arith, room, ap (λ v. length v.splits) splits);
        on_log = on_log;
      }

  -- the lost changes of a batch that has one
  pub inside-fails : (cell : ℕ) (ms : World) → list_any is_change (answers_to ms ops) ≡ true → new.history.entries ≡ h ++ batch_fails cell ms session row ops
      → new.table ≡ old.table → new.splits ≡ old.splits → IsInside drive w o new
  inside-fails cell ms some entries table splits =
      let es : List Entry = batch_fails cell ms session row ops in
      let are = batch_fails-are cell ms session row ops in
      let after : state_after w o (h ++ es) ≡ s = state_after-fails w o h es are in
      record {
        opening = inside.opening;
        legal = rw entries (legal-batch_fails w o h cell ms session row ops sound inside.legal);
        world = rw entries (ap (λ (t : TableView). t.world) table ∙ inside.world ∙ sym (ap (λ (t : State). t.world) after));
        names = rw entries (ap (λ (t : TableView). names_of t.leaves) table ∙ inside.names ∙ sym (ap (λ (t : State). t.leaves) after));
        splits = rw entries (ap (λ v. v.splits) splits ∙ inside.splits ∙ sym (ap (λ (t : State). t.splits) after));
        begun = rw entries (ap (λ v. v.begun) splits ∙ inside.begun ∙ sym (ap (λ (t : State). t.begun) after));
        bases = rw entries (KeepsBases-append w o h es old.table.leaves new.table.leaves (λ before later number name. fails-no_begin es before later number name are) (ap (λ (t : State). t.splits) after)
            (λ number name was places kept. subst (λ (t : TableView). KeepsBase t.leaves places name) (sym table) kept) inside.bases);
        begins = rw entries (BeginsInRoom-append old.history.kept new.history.kept (first_in old.journal) (first_in new.journal) o.world h es (λ before later number name. fails-no_begin es before later number name are) kind (in-first old.journal new.journal since) inside.begins);
        few = rw (entries, kind) (omega (arith, length-append h es, batch_fails-length cell ms session row ops, few));
        room = λ none. absurd (not_none (sym (failed_cell-batch_fails h cell ms session row ops sound some) ∙ ap failed_cell (sym entries) ∙ none));
        on_log = on_log;
      }
    where
      not_none : Some cell ≡ None → ⊥
      not_none is = cc is
