-- What the file of a book's log has, whatever number of fresh logs have replaced that log: what the history left, or what
-- its first entries left if records wait.
use Rattle.std.proofs.Common.{◌≡◌, ◌∙◌, ℕ, true, List, [], length, Option, Some, None, is_some, refl, sym, ap, subst}
use Rattle.disk_trait.specs.Drive.{Drive}
use Rattle.plain_list.specs.declared.entries.Entry.{Entry}
use Rattle.plain_list.specs.History.{failed_cell}
use Rattle.plain_list.specs.State.{State, state_after}
use Rattle.kept_log.specs.KeptView.{KeptView}
use Rattle.kept_log.specs.Journal.{KeepsIn, waiting_in}
use Rattle.commit_book.specs.BookView.{BookView}
use Rattle.commit_book.specs.IsBook.{IsBook}
use Rattle.sessions.specs.Shared.{origin_of, start_of}
use Rattle.store_file.specs.Crashes.{HasStateOf, IsDurablePart}
use Rattle.store_file.proofs.DurablePart.{KeepsPart, durable-part, part-legal, part-sound, written-log}
use Rattle.store_file.proofs.MovedAgain.{HasCellsOf, cells-in}

-- The drive has what these first entries of a history left. Those that follow have so many cells.
pub record HasPart (w : ℕ) (s : State) (h : List Entry) (waiting : ℕ) (drive : Drive) : Type 0 where
  pub part : List Entry
  pub is_part : IsDurablePart s.world h waiting part
  pub has : HasCellsOf w (state_after w s part) drive

pub part-as : (w waiting : ℕ) (drive : Drive) (s t : State) (g h : List Entry) → s ≡ t → g ≡ h → HasPart w s g waiting drive → HasPart w t h waiting drive
part-as w waiting drive s t g h one two part = subst (λ (x : State). HasPart w x h waiting drive) one (subst (λ (l : List Entry). HasPart w s l waiting drive) two part)

-- The cells of a drive have the objects and the leaves of their state.
pub has-state : (w : ℕ) (s : State) (drive : Drive) (has : HasCellsOf w s drive) → HasStateOf w s has.cells
has-state w s drive has = record { world = ap (λ (t : State). t.world) has.leave; leaves = ap (λ (t : State). t.leaves) has.leave }

-- A book began in the state of its origin.
pub book-opening : {D : Type 0} (drive : D → Drive) (w : ℕ) (b : BookView D) → IsBook drive w b → b.opening ≡ start_of (origin_of drive b)
book-opening drive w b is = λ i. record { world = b.opening.world; leaves = b.opening.leaves; splits = is.opening.rests i; begun = b.opening.begun }

-- No append has failed, and the bytes of the log's file are known.
module _ {D : Type 0} (drive : D → Drive) (w : ℕ) (b : BookView D) (is_book : IsBook drive w b) (sound : failed_cell b.entries ≡ None) (log : KeptView D) (is : b.log ≡ Some log) (told : is_some (drive log.disk).bytes ≡ true) where
  keeps-book : KeepsIn drive w b.opening b.entries (Some log)
  keeps-book = subst (KeepsIn drive w b.opening b.entries) is is_book.on_log

  -- If no record waits, the file has all that the history left.
  pub cells-book : waiting_in b.log ≡ [] → HasCellsOf w (state_after w b.opening b.entries) (drive log.disk)
  cells-book none = cells-in drive w b.opening b.entries log is_book.legal (sym (ap waiting_in is) ∙ none) sound told keeps-book

  kept-part : KeepsPart drive w b.opening b.entries log log.earlier
  kept-part = durable-part drive w b.opening b.entries log sound keeps-book

  -- Otherwise it has what the first entries left, without the last ones, which have as many cells as wait.
  pub part-book : HasPart w b.opening b.entries (length (waiting_in b.log)) (drive log.disk)
  part-book =
      let part = kept-part in
      record {
        part = part.part;
        is_part = subst (λ (l : Option (KeptView D)). IsDurablePart b.opening.world b.entries (length (waiting_in l)) part.part) (sym is) part.is_part;
        has = cells-in drive w b.opening part.part (written-log log) (part-legal drive w b.opening b.entries log sound is_book.legal part.part part.is_part) refl
            (part-sound drive w b.opening b.entries log sound part.part part.is_part) told part.keeps;
      }
