-- What a crash leaves of a store's file at the moment of a reply, and what the next opening finds, whatever number of fresh
-- logs have replaced the store's log.
use Rattle.std.proofs.Common.{◌≡◌, ◌∙◌, ℕ, true, List, [], length, Option, Some, None, is_some, sym, ap, subst}
use Rattle.atomic_table.specs.Seated.{TableId}
use Rattle.disk_trait.specs.Drive.{Drive}
use Rattle.disk_trait.specs.Moments.{LeavesNow}
use Rattle.plain_list.specs.History.{failed_cell}
use Rattle.plain_list.specs.State.{State, state_after}
use Rattle.plain_list.proofs.Histories.{state_after-world}
use Rattle.log_state.specs.Recovers.{Recovers}
use Rattle.kept_log.specs.KeptView.{KeptView}
use Rattle.kept_log.specs.Journal.{waiting_in}
use Rattle.book_lock.specs.Pass.{Known}
use Rattle.sessions.specs.Shared.{start_of}
use Rattle.sessions.specs.Syncs.{Stood, WasDurable}
use Rattle.store_file.specs.declared.either.Which.{Which}
use Rattle.store_file.specs.Again.{GoesOnFrom}
use Rattle.store_file.specs.Crashes.{BeginsIn, HasStateOf}
use Rattle.store_file.specs.Either.{chosen_of, other_of, OpensEither}
use Rattle.store_file.specs.Files.{IsUnmade}
use Rattle.store_file.specs.Opened.{OpensStore}
use Rattle.store_file.proofs.Again.{finds-image}
use Rattle.store_file.proofs.BookCells.{HasPart, book-opening, cells-book, has-state, part-as, part-book}
use Rattle.store_file.proofs.EitherFinds.{begins-in, either-has, in-one, log-leaves}
use Rattle.store_file.proofs.MovedAgain.{HasCellsOf}

-- A drive has cells of a state. A crash leaves them, and `image` is such a crash image.
module _ (w : ℕ) (s : State) (drive : Drive) (has : HasCellsOf w s drive) where
  pub cells-left : LeavesNow drive (Recovers w has.cells)
  cells-left = log-leaves w has.cells drive has.text has.legal

  module _ {E : Type 0} (other : E → Drive) (size : ℕ) (key : TableId) (next : Known) (number : ℕ) (newer : Option ℕ) (more : ℕ) (image : List ℕ) (left : drive.images image) where
    -- Any drive over the file that has this image opens a store with the objects and the leaves of the state.
    pub opens-in : (also : List ℕ) (new : Drive) → new.bytes ≡ Some image → OpensStore other w size also new key next number newer more → BeginsIn s next.origin
    opens-in also new holds again =
        begins-in other w size also new key next number newer more s again
        (subst (HasStateOf w s) (sym (finds-image w has.cells again.cells drive has.text image left (again.found.finds image holds))) (has-state w s drive has))

    -- The same of an opening of both files, if the other one is small or has a log of no cells.
    pub opens-either-in : (one_file two_file : List ℕ) (three four spare : E) (rest : List ℕ) → IsUnmade w rest → (side which : Which)
        → OpensEither other w size one_file two_file three four which key next number newer more spare
        → (other (chosen_of side three four)).bytes ≡ Some image → (other (other_of side three four)).bytes ≡ Some rest → BeginsIn s next.origin
    opens-either-in one_file two_file three four spare rest unmade side which again told others =
        begins-in other w size (chosen_of which one_file two_file) (other (chosen_of which three four)) key next number newer more s again.opens
        (either-has (HasStateOf w s) w image rest (in-one (HasStateOf w s) w image rest has.cells (has-state w s drive has) (cells-left image left) unmade)
        other size one_file two_file three four key next number newer more spare side which again told others)

-- When the pass gave the lock back, the log kept all that the pass had seen. No append had failed. The log may have
-- replaced others.
module _ {D : Type 0} (drive : D → Drive) (w : ℕ) (pass : Known) (stood : Stood drive w pass) (log : KeptView D) (is : stood.book.log ≡ Some log)
    (told : is_some (drive log.disk).bytes ≡ true) (good : failed_cell pass.seen ≡ None) where
  opening-stood : stood.book.opening ≡ start_of pass.origin
  opening-stood = book-opening drive w stood.book stood.is_book ∙ ap start_of stood.origin

  sound-stood : failed_cell stood.book.entries ≡ None
  sound-stood = ap failed_cell stood.entries ∙ good

  -- If no record waited, the log's file had cells of all that the pass had seen.
  pub cells-stood : waiting_in stood.book.log ≡ [] → HasCellsOf w (state_after w (start_of pass.origin) pass.seen) (drive log.disk)
  cells-stood none =
      subst (λ (s : State). HasCellsOf w s (drive log.disk)) (λ i. state_after w (opening-stood i) (stood.entries i))
      (cells-book drive w stood.book stood.is_book sound-stood log is told none)

  -- Otherwise it had cells of the first entries, without the last ones, which have as many cells as waited.
  pub part-stood : HasPart w (start_of pass.origin) pass.seen (length (waiting_in stood.book.log)) (drive log.disk)
  part-stood =
      part-as w (length (waiting_in stood.book.log)) (drive log.disk) stood.book.opening (start_of pass.origin) stood.book.entries pass.seen opening-stood stood.entries
      (part-book drive w stood.book stood.is_book sound-stood log is told)

-- A reply after which nothing waited.
module _ {D : Type 0} (drive : D → Drive) (w : ℕ) (pass : Known) (durable : WasDurable drive w pass) (log : KeptView D) (is : durable.stood.book.log ≡ Some log)
    (told : is_some (drive log.disk).bytes ≡ true) (good : failed_cell pass.seen ≡ None) where
  -- The state that all of the history left which the pass has seen.
  abbrev pub state-seen : State
  state-seen = state_after w (start_of pass.origin) pass.seen

  -- The log's file had cells of all of it.
  pub cells-durable : HasCellsOf w state-seen (drive log.disk)
  cells-durable = cells-stood drive w pass durable.stood log is told good durable.none_wait

  -- A crash at that moment left these cells.
  pub left-moved : LeavesNow (drive log.disk) (Recovers w cells-durable.cells)
  left-moved = cells-left w state-seen (drive log.disk) cells-durable

  -- They have the objects and the leaves of all of it.
  pub left-state : HasStateOf w state-seen cells-durable.cells
  left-state = has-state w state-seen (drive log.disk) cells-durable

  -- Any drive over the file whose bytes are a crash image of that moment.
  module _ {E : Type 0} (other : E → Drive) (size : ℕ) (key : TableId) (next : Known) (number : ℕ) (newer : Option ℕ) (more : ℕ) (image : List ℕ) (left : (drive log.disk).images image) where
    -- The next opening begins with the objects and the leaves of all of the history.
    pub finds-durable : (also : List ℕ) (new : Drive) → new.bytes ≡ Some image → OpensStore other w size also new key next number newer more → BeginsIn state-seen next.origin
    finds-durable = opens-in w state-seen (drive log.disk) cells-durable other size key next number newer more image left

    pub goes-on-durable : (also : List ℕ) (new : Drive) → new.bytes ≡ Some image → OpensStore other w size also new key next number newer more → GoesOnFrom pass.origin pass.seen next.origin
    goes-on-durable also new holds again = (finds-durable also new holds again).world ∙ state_after-world w (start_of pass.origin) pass.seen

    -- The same of an opening of both files, if the other one is small or has a log of no cells.
    pub either-finds-durable : (one_file two_file : List ℕ) (three four spare : E) (rest : List ℕ) → IsUnmade w rest → (side which : Which)
        → OpensEither other w size one_file two_file three four which key next number newer more spare
        → (other (chosen_of side three four)).bytes ≡ Some image → (other (other_of side three four)).bytes ≡ Some rest → BeginsIn state-seen next.origin
    either-finds-durable = opens-either-in w state-seen (drive log.disk) cells-durable other size key next number newer more image left
