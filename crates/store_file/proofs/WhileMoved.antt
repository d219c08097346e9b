-- What an opening of two files finds, wherever a crash came during a call of `rotate_above`. A fresh log on the second file
-- replaces a log on the first one.
use Rattle.std.proofs.Common.{◌≡◌, ◌⊎◌, inl, inr, ⊎_elim, ◌∙◌, ℕ, ◌+◌, Bool, true, List, [], ◌∷◌, Option, Some, None, is_some, refl, sym, ap, subst}
use Rattle.std.proofs.lemmas.List.{append-nil}
use Rattle.std.proofs.lemmas.Option.{same_Some}
use Rattle.std.specs.Option.{option_map}
use Rattle.std.specs.Prelude.{◌-◌}
use Rattle.atomic_table.specs.Seated.{TableId}
use Rattle.cell_format.specs.declared.cell.Cell.{Cell}
use Rattle.cell_format.specs.Spelling.{newest}
use Rattle.disk_trait.specs.Drive.{Drive}
use Rattle.disk_trait.specs.Moments.{LeavesNow, LeavesOnly}
use Rattle.plain_list.specs.declared.entries.Entry.{Entry}
use Rattle.plain_list.specs.declared.entries.Entry.TheVariants.{Begin, Fail, Install}
use Rattle.plain_list.specs.History.{failed_cell, world_after}
use Rattle.plain_list.specs.World.{World}
use Rattle.plain_list.specs.State.{State, empty_state, state_after, step}
use Rattle.plain_list.proofs.Histories.{state_after-append, state_after-world, world_after-append}
use Rattle.split_log.specs.LogText.{IsLog}
use Rattle.split_log.specs.LogView.{LogView}
use Rattle.split_log.proofs.Unique.{holds-same}
use Rattle.log_state.specs.Recovers.{Recovers, cells_after, state_of}
use Rattle.recovery.specs.Making.{IsSmall}
use Rattle.recovery.specs.declared.seen.Seen.{Seen}
use Rattle.kept_log.specs.KeptView.{KeptView}
use Rattle.kept_log.specs.Journal.{KeepsIn, log_in, moved_to, waiting_in}
use Rattle.log_compact.specs.Clearing.{Clears, FailsToClear, KeepsOrClears}
use Rattle.log_compact.specs.Compacting.{IsOnWay}
use Rattle.log_compact.specs.Fresh.{fresh_cells, inner_names, split_cells}
use Rattle.commit_book.specs.BookView.{BookView}
use Rattle.commit_book.specs.Moves.{lost_stop}
use Rattle.commit_book.specs.Rotation.{HasContent}
use Rattle.book_lock.specs.Pass.{Known}
use Rattle.sessions.specs.Shared.{origin_of, start_of}
use Rattle.store_file.specs.declared.either.Which.{Which}
use Rattle.store_file.specs.declared.either.Which.TheVariants as side
use Rattle.store_file.specs.declared.moving.NotMovedOver.TheVariants.{FirstFailed, SpareFailed}
use Rattle.store_file.specs.Again.{GoesOnFrom, IsBetween}
use Rattle.store_file.specs.Crashes.{BeginsIn, HasStateOf, IsMoment}
use Rattle.store_file.specs.Either.{chosen_of, other_of, MayGoBy, OpensEither}
use Rattle.store_file.specs.Files.{FindsCells}
use Rattle.store_file.specs.Moving.{MovesOver, Replaces, StopsStore}
use Rattle.store_file.specs.Rotated.{BeginsFresh}
use Rattle.store_file.proofs.Between.{between-clearing}
use Rattle.store_file.proofs.BookCells.{book-opening, cells-book, has-state}
use Rattle.store_file.proofs.EitherFinds.{begins-in, either-has, in-between, log-leaves, none-small, recovers-found, text-holds, unmade-found}
use Rattle.store_file.proofs.MovedAgain.{HasCellsOf}

-- A fresh log of a book's content was begun on a second drive. Before, the bytes of its file were known, and a crash left
-- at most 17.
module _ {D : Type 0} (drive : D → Drive) (w : ℕ) (b : BookView D) (spare : D) (seen : Seen) (start : D) (log : LogView D) (begins : BeginsFresh drive w spare seen start log) (content : HasContent w b seen)
    (bytes : List ℕ) (known : (drive spare).bytes ≡ Some bytes) (small : LeavesNow (drive spare) IsSmall) where
  text-begun : IsLog w (fresh_cells w seen.world seen.leaves) (drive start)
  text-begun = (begins.compacted.log bytes known).1

  leaves-begun : LeavesNow (drive start) (Recovers w (fresh_cells w seen.world seen.leaves))
  leaves-begun = log-leaves w (fresh_cells w seen.world seen.leaves) (drive start) text-begun begins.state.legal

  -- A crash leaves an image on the way to the fresh log, and then all of it.
  writing : LeavesOnly (drive spare) (drive start) (IsOnWay w (fresh_cells w seen.world seen.leaves))
  writing = begins.on_way.on_way bytes known small

  opening : LeavesOnly (drive start) (drive log.disk) (Recovers w (fresh_cells w seen.world seen.leaves))
  opening = begins.opened.ready.any_moment text-begun.bytes (fresh_cells w seen.world seen.leaves) text-begun.told leaves-begun

  text-opened : IsLog w (fresh_cells w seen.world seen.leaves) (drive log.disk)
  text-opened =
      let found = begins.opened.ready.log text-begun.bytes text-begun.told in
      let same : found.0 ≡ fresh_cells w seen.world seen.leaves =
      holds-same found.1.version newest w found.0 (fresh_cells w seen.world seen.leaves) text-begun.bytes found.1.holds
      (text-holds w (fresh_cells w seen.world seen.leaves) (drive start) text-begun) in
      subst (λ (l : List Cell). IsLog w l (drive log.disk)) same found.2

  -- The fresh log has the objects and the leaves of the history.
  state-fresh : HasStateOf w (state_after w b.opening b.entries) (fresh_cells w seen.world seen.leaves)
  state-fresh = record { world = begins.state.world_is ∙ content.world ∙ sym (state_after-world w b.opening b.entries); leaves = begins.state.leaves_are ∙ content.leaves }

  -- The drive of the first file had cells of a state.
  module _ (s : State) (first left : Drive) (has : HasCellsOf w s first) (one two : List ℕ) where
    between-moment : KeepsOrClears first left → IsMoment first (drive spare) (drive log.disk) left one two
        → IsBetween w has.cells (fresh_cells w seen.world seen.leaves) one two
    between-moment keeps (inl early) =
        let all = log-leaves w has.cells first has.text has.legal one early.0 in
        ⊎_elim (λ before. inl (all, writing.each two before)) (λ fresh. inr (inl all, fresh)) (opening.before (drive spare).clock two writing.later early.1)
    between-moment keeps (inr late) =
        between-clearing w has.cells (fresh_cells w seen.world seen.leaves) first has.text has.legal (drive log.disk) left text-opened begins.state.legal keeps one two late.0 late.1

    -- So an opening of both files begins with that state, or with the one that the history left.
    pub finds-between-moved : KeepsOrClears first left → IsMoment first (drive spare) (drive log.disk) left one two
        → {E : Type 0} (other : E → Drive) (size : ℕ) (one_file two_file : List ℕ) (three four : E) (key : TableId) (next : Known) (number : ℕ) (newer : Option ℕ) (more : ℕ) (rest : E) (side which : Which)
        → OpensEither other w size one_file two_file three four which key next number newer more rest → (other (chosen_of side three four)).bytes ≡ Some one → (other (other_of side three four)).bytes ≡ Some two
        → BeginsIn s next.origin ⊎ BeginsIn (state_after w b.opening b.entries) next.origin
    finds-between-moved keeps at other size one_file two_file three four key next number newer more rest side which again told others =
        let IsEither : List Cell → Type 0 = λ (cells : List Cell). HasStateOf w s cells ⊎ HasStateOf w (state_after w b.opening b.entries) cells in
        let begins = λ (t : State). begins-in other w size (chosen_of which one_file two_file) (other (chosen_of which three four)) key next number newer more t again.opens in
        ⊎_elim (λ first_has. inl (begins s first_has)) (λ all. inr (begins (state_after w b.opening b.entries) all))
        (either-has IsEither w one two
        (in-between IsEither w has.cells (fresh_cells w seen.world seen.leaves) (inl (has-state w s first has)) (inr state-fresh) one two (between-moment keeps at))
        other size one_file two_file three four key next number newer more rest side which again told others)

-- The log whose view is this one.
log-of : {D : Type 0} (log : Option (KeptView D)) (view : LogView D) → log_in log ≡ Some view → (kept : KeptView D) × (log ≡ Some kept) × (kept.disk ≡ view.disk)
log-of None view is = absurd (cc is)
log-of {D = D} (Some kept) view is = (kept, refl, ap (λ (v : LogView D). v.disk) (same_Some _ _ is))

-- The fresh log has replaced the log of a book. Then the first log was emptied, or its drive failed.
module _ {D : Type 0} (drive : D → Drive) (w : ℕ) (Came : ℕ → Drive → Drive → Type 0) (pass : Known) (before mid : BookView D) (spare first : D) (replaces : Replaces drive w Came before mid spare first)
    (origin : origin_of drive before ≡ pass.origin) (h : List Entry) (entries : before.entries ≡ h) where
  -- The first drive before, and the state that the history left.
  abbrev pub disk-before : D
  disk-before = replaces.takes.leaves.view.disk

  abbrev pub state-before : State
  state-before = state_after w (start_of pass.origin) h

  -- No append had failed.
  sound-before : failed_cell before.entries ≡ None
  sound-before = by_log before.log (subst (λ (v : BookView D). KeepsIn drive w v.opening v.entries v.log) replaces.takes.new_is replaces.takes.books.after.on_log)
    where
      by_log : (log : Option (KeptView D))
          → KeepsIn drive w before.opening before.entries (option_map (moved_to before.entries ((state_after w before.opening before.entries).begun - replaces.seen.begun) replaces.log replaces.start) log)
          → failed_cell before.entries ≡ None
      by_log None kept = kept
      by_log (Some log) kept = kept.sound

  opening-before : before.opening ≡ start_of pass.origin
  opening-before = book-opening drive w before replaces.takes.books.before ∙ ap start_of origin

  -- The bytes of the first file were known.
  module _ (told : is_some (drive disk-before).bytes ≡ true) where
    log-before : (kept : KeptView D) × (before.log ≡ Some kept) × (kept.disk ≡ disk-before)
    log-before = log-of before.log replaces.takes.leaves.view replaces.takes.leaves.view_is

    told-before : is_some (drive log-before.0.disk).bytes ≡ true
    told-before = ap (λ (d : D). is_some (drive d).bytes) log-before.2 ∙ told

    -- If no record waited, the first file had all that the history left.
    cells-before : waiting_in before.log ≡ [] → HasCellsOf w (state_after w before.opening before.entries) (drive disk-before)
    cells-before none =
        subst (λ (d : D). HasCellsOf w (state_after w before.opening before.entries) (drive d)) log-before.2
        (cells-book drive w before replaces.takes.books.before sound-before log-before.0 log-before.1 told-before none)

    -- A crash came at any moment of the call, and both files were opened. The first one may be either file of the opening.
    module _ (bytes : List ℕ) (known : (drive spare).bytes ≡ Some bytes) (small : LeavesNow (drive spare) IsSmall) (one two : List ℕ)
        (at : IsMoment (drive disk-before) (drive spare) (drive replaces.log.disk) (drive first) one two)
        {E : Type 0} (other : E → Drive) (size : ℕ) (one_file two_file : List ℕ) (three four : E) (key : TableId) (next : Known) (number : ℕ) (newer : Option ℕ) (more : ℕ) (rest : E) (side which : Which)
        (again : OpensEither other w size one_file two_file three four which key next number newer more rest)
        (holds : (other (chosen_of side three four)).bytes ≡ Some one) (holds_other : (other (other_of side three four)).bytes ≡ Some two) where
      finds-of : (s : State) → HasCellsOf w s (drive disk-before) → BeginsIn s next.origin ⊎ BeginsIn state-before next.origin
      finds-of s has =
          subst (λ (t : State). BeginsIn s next.origin ⊎ BeginsIn t next.origin) (λ i. state_after w (opening-before i) (entries i))
          (finds-between-moved drive w before spare replaces.seen replaces.start replaces.log replaces.begins replaces.content bytes known small s (drive disk-before) (drive first) has one two
          replaces.takes.leaves.keeps at other size one_file two_file three four key next number newer more rest side which again holds holds_other)

      -- If no record waited, the opening begins with all that the history left.
      pub finds-during : waiting_in before.log ≡ [] → BeginsIn state-before next.origin
      finds-during none =
          ⊎_elim (λ all. all) (λ all. all)
          (finds-of state-before (subst (λ (s : State). HasCellsOf w s (drive disk-before)) (λ i. state_after w (opening-before i) (entries i)) (cells-before none)))

-- `rotate_above` continued a store over its second file.
module _ {D : Type 0} (drive : D → Drive) (w records : ℕ) (old new : Known) (moves : MovesOver drive w records old new) where
  module _ (told : is_some (drive moves.replaces.takes.leaves.view.disk).bytes ≡ true) where
    -- The first file had all that the history left.
    cells-over : HasCellsOf w (state_after w moves.before.opening moves.before.entries) (drive moves.replaces.takes.leaves.view.disk)
    cells-over = cells-before drive w Clears new moves.before moves.stood.book moves.spare moves.first moves.replaces moves.origin new.seen moves.entries told moves.none_waited

    -- The first file has a log of no cells then, so it is ready for the next time.
    pub emptied-over : IsLog w [] (drive moves.first)
    emptied-over = moves.replaces.takes.leaves.came.log w cells-over.cells cells-over.text

    pub small-over : LeavesNow (drive moves.first) IsSmall
    small-over = none-small w (drive moves.first) emptied-over

    -- A crash came at any moment of the call, and then both files were opened.
    module _ (bytes : List ℕ) (known : (drive moves.spare).bytes ≡ Some bytes) (small : LeavesNow (drive moves.spare) IsSmall) (one two : List ℕ)
        (at : IsMoment (drive moves.replaces.takes.leaves.view.disk) (drive moves.spare) (drive moves.replaces.log.disk) (drive moves.first) one two)
        {E : Type 0} (other : E → Drive) (size : ℕ) (one_file two_file : List ℕ) (three four : E) (key : TableId) (next : Known) (number : ℕ) (newer : Option ℕ) (more : ℕ) (rest : E) (side which : Which)
        (again : OpensEither other w size one_file two_file three four which key next number newer more rest)
        (holds : (other (chosen_of side three four)).bytes ≡ Some one) (holds_other : (other (other_of side three four)).bytes ≡ Some two) where
      -- The opening begins with the objects and the leaves of all that the pass has seen.
      pub finds-over : BeginsIn (state_after w (start_of new.origin) new.seen) next.origin
      finds-over =
          finds-during drive w Clears new moves.before moves.stood.book moves.spare moves.first moves.replaces moves.origin new.seen moves.entries told bytes known small one two at
          other size one_file two_file three four key next number newer more rest side which again holds holds_other moves.none_waited

      pub goes-on-over : GoesOnFrom new.origin new.seen next.origin
      goes-on-over = finds-over.world ∙ state_after-world w (start_of new.origin) new.seen

-- The first drive failed while its log was emptied, so the store was stopped. The last entry has no record.
module _ {D : Type 0} (drive : D → Drive) (w records : ℕ) (old new : Known) (stops : StopsStore drive w records FirstFailed old new) where
  state-stopped : state_after w (start_of new.origin) stops.before.entries ≡ state_after w (start_of new.origin) new.seen
  state-stopped =
      sym (state_after-append w (start_of new.origin) stops.before.entries (Fail stops.cell lost_stop ∷ []))
      ∙ ap (λ (k : Known). state_after w (start_of new.origin) k.seen) (sym stops.added)

  module _ (told : is_some (drive stops.fails.replaces.takes.leaves.view.disk).bytes ≡ true) where
    module _ (bytes : List ℕ) (known : (drive stops.spare).bytes ≡ Some bytes) (small : LeavesNow (drive stops.spare) IsSmall) (one two : List ℕ)
        (at : IsMoment (drive stops.fails.replaces.takes.leaves.view.disk) (drive stops.spare) (drive stops.fails.replaces.log.disk) (drive stops.left) one two)
        {E : Type 0} (other : E → Drive) (size : ℕ) (one_file two_file : List ℕ) (three four : E) (key : TableId) (next : Known) (number : ℕ) (newer : Option ℕ) (more : ℕ) (rest : E) (side which : Which)
        (again : OpensEither other w size one_file two_file three four which key next number newer more rest)
        (holds : (other (chosen_of side three four)).bytes ≡ Some one) (holds_other : (other (other_of side three four)).bytes ≡ Some two) where
      -- An opening of both files begins with the same.
      pub finds-failed : BeginsIn (state_after w (start_of new.origin) new.seen) next.origin
      finds-failed =
          subst (λ (s : State). BeginsIn s next.origin) state-stopped
          (finds-during drive w (λ count. FailsToClear) new stops.before stops.fails.mid stops.spare stops.left stops.fails.replaces stops.origin stops.before.entries refl told bytes known small one two at
          other size one_file two_file three four key next number newer more rest side which again holds holds_other stops.none_waited)

-- A fresh log of no objects leaves none.
split-world : (w : ℕ) (s : State) (n : ℕ) (names : List (List Bool)) → (cells_after w s (split_cells n names)).world ≡ s.world
split-world w s n [] = refl
split-world w s n (name ∷ names) = split-world w (step w (step w s (Begin n name)) (Install n)) (n + 1) names

none-fresh : (w : ℕ) (world : World) (leaves : List (List Bool)) → [] ≡ world → (state_of w (fresh_cells w world leaves)).world ≡ world
none-fresh w world leaves none =
    subst (λ (l : World). (state_of w (fresh_cells w l leaves)).world ≡ l) none
    (ap (λ (l : List Cell). (state_of w l).world) (append-nil (split_cells 1 (inner_names w leaves))) ∙ split-world w empty_state 1 (inner_names w leaves))

-- One file has cells that leave these objects. The other one has none, or a fresh log of the same objects. Then an opening
-- of both begins with them.
module _ (w : ℕ) (world : World) (one two : List ℕ) (cells : List Cell) (has : (state_of w cells).world ≡ world) (recovers : Recovers w cells one)
    (may : (found : List Cell) → FindsCells w found two → (found ≡ []) ⊎ ((leaves : List (List Bool)) × (found ≡ fresh_cells w world leaves))) where
  first-world : (found : List Cell) → FindsCells w found one → (state_of w found).world ≡ world
  first-world found finds = ap (λ (l : List Cell). (state_of w l).world) (recovers-found w cells found one recovers finds) ∙ has

  second-world : (found other : List Cell) → FindsCells w found two → (state_of w other).world ≡ world → MayGoBy w found other → (state_of w found).world ≡ world
  second-world found other finds was (inr same) = sym same ∙ was
  second-world found other finds was (inl none) =
      let empty : [] ≡ world = ap (λ (l : List Cell). (state_of w l).world) (sym none) ∙ was in
      ⊎_elim (λ is. ap (λ (l : List Cell). (state_of w l).world) is ∙ empty)
      (λ fresh. ap (λ (l : List Cell). (state_of w l).world) fresh.1 ∙ none-fresh w world fresh.0 empty) (may found finds)

  module _ {E : Type 0} (other : E → Drive) (size : ℕ) (one_file two_file : List ℕ) (three four : E) (key : TableId) (next : Known) (number : ℕ) (newer : Option ℕ) (more : ℕ) (rest : E) where
    world-chosen : (side which : Which) (again : OpensEither other w size one_file two_file three four which key next number newer more rest)
        → (other (chosen_of side three four)).bytes ≡ Some one → (other (other_of side three four)).bytes ≡ Some two → (state_of w again.opens.cells).world ≡ world
    world-chosen side.First side.First again told others = first-world again.opens.cells (again.opens.found.finds one told)
    world-chosen side.First side.Second again told others =
        second-world again.opens.cells again.other (again.opens.found.finds two others) (first-world again.other (again.gives_up.finds.finds one told)) again.may
    world-chosen side.Second side.First again told others =
        second-world again.opens.cells again.other (again.opens.found.finds two others) (first-world again.other (again.gives_up.finds.finds one told)) again.may
    world-chosen side.Second side.Second again told others = first-world again.opens.cells (again.opens.found.finds one told)

-- The second drive failed while the fresh log was written, or the fresh log did not replace the store's log. So the store
-- was stopped, and its first drive is unchanged.
module _ {D : Type 0} (drive : D → Drive) (w records : ℕ) (old new : Known) (stops : StopsStore drive w records SpareFailed old new) (log : KeptView D) (is : stops.before.log ≡ Some log)
    (told : is_some (drive log.disk).bytes ≡ true) where
  cells-stopped : HasCellsOf w (state_after w stops.before.opening stops.before.entries) (drive log.disk)
  cells-stopped = cells-book drive w stops.before stops.fails.0.books.before stops.going log is told stops.none_waited

  abbrev world-stopped : World
  world-stopped = world_after stops.before.opening.world stops.before.entries

  world-seen : world-stopped ≡ world_after new.origin.world new.seen
  world-seen =
      (λ i. world_after (stops.origin i).world stops.before.entries) ∙ sym (world_after-append new.origin.world stops.before.entries (Fail stops.cell lost_stop ∷ []))
      ∙ ap (λ (k : Known). world_after new.origin.world k.seen) (sym stops.added)

  module _ (bytes : List ℕ) (known : (drive stops.spare).bytes ≡ Some bytes) (small : LeavesNow (drive stops.spare) IsSmall) (two : List ℕ) (later : (drive stops.left).since (drive stops.spare).clock two) where
    on-way-found : (leaves : List (List Bool)) → IsOnWay w (fresh_cells w world-stopped leaves) two → (found : List Cell) → FindsCells w found two
        → (found ≡ []) ⊎ ((leaves : List (List Bool)) × (found ≡ fresh_cells w world-stopped leaves))
    on-way-found leaves (inl few) found finds = inl (unmade-found w found two (inl few) finds)
    on-way-found leaves (inr (inl begun)) found finds = inl (recovers-found w [] found two begun.0 finds)
    on-way-found leaves (inr (inr all)) found finds = inr (leaves, recovers-found w (fresh_cells w world-stopped leaves) found two all.0 finds)

    spare-found : (found : List Cell) → FindsCells w found two → (found ≡ []) ⊎ ((leaves : List (List Bool)) × (found ≡ fresh_cells w world-stopped leaves))
    spare-found found finds = ⊎_elim
        (λ unsure. on-way-found unsure.1.leaves ((unsure.1.on_way.on_way bytes known small).each two later) found finds)
        (λ written. by_written written.seen written.start written.log written.begins written.content (subst (λ (d : D). (drive d).since (drive stops.spare).clock two) written.left_is later))
        stops.fails.1
      where
        by_written : (seen : Seen) (start : D) (fresh : LogView D) → BeginsFresh drive w stops.spare seen start fresh → HasContent w stops.before seen → (drive fresh.disk).since (drive stops.spare).clock two
            → (found ≡ []) ⊎ ((leaves : List (List Bool)) × (found ≡ fresh_cells w world-stopped leaves))
        by_written seen start fresh begins content since =
            let same : fresh_cells w seen.world seen.leaves ≡ fresh_cells w world-stopped seen.leaves = ap (λ (l : World). fresh_cells w l seen.leaves) content.world in
            let wrote = writing drive w stops.before stops.spare seen start fresh begins content bytes known small in
            ⊎_elim
            (λ before. on-way-found seen.leaves (subst (λ (l : List Cell). IsOnWay w l two) same (wrote.each two before)) found finds)
            (λ all. inr (seen.leaves, recovers-found w (fresh_cells w seen.world seen.leaves) found two all finds ∙ same))
            ((opening drive w stops.before stops.spare seen start fresh begins content bytes known small).before (drive stops.spare).clock two wrote.later since)

    -- An opening of both files begins with the objects of all that the pass has seen.
    module _ (one : List ℕ) (now : (drive log.disk).images one) {E : Type 0} (other : E → Drive) (size : ℕ) (one_file two_file : List ℕ) (three four : E) (key : TableId) (next : Known) (number : ℕ) (newer : Option ℕ) (more : ℕ) (rest : E)
        (side which : Which) (again : OpensEither other w size one_file two_file three four which key next number newer more rest)
        (holds : (other (chosen_of side three four)).bytes ≡ Some one) (holds_other : (other (other_of side three four)).bytes ≡ Some two) where
      pub goes-on-stopped : GoesOnFrom new.origin new.seen next.origin
      goes-on-stopped =
          let cells = cells-stopped in
          let left : LeavesNow (drive log.disk) (Recovers w cells.cells) = log-leaves w cells.cells (drive log.disk) cells.text cells.legal in
          let has : (state_of w cells.cells).world ≡ world-stopped = ap (λ (t : State). t.world) cells.leave ∙ state_after-world w stops.before.opening stops.before.entries in
          ap (λ (k : Known). k.origin.world) again.opens.pass_is
          ∙ world-chosen w world-stopped one two cells.cells has (left one now) spare-found other size one_file two_file three four key next number newer more rest side which again holds holds_other ∙ world-seen
