-- What the next opening of a file finds, after a store over it was closed.
use Rattle.std.proofs.Common.{◌≡◌, inl, inr, ◌∙◌, ℕ, ◌+◌, ◌*◌, ◌≤◌, Bool, true, false, List, [], ◌∷◌, ◌++◌, length, Option, Some, None, is_some, cond, refl, sym, ap, subst, arith, length-append}
use Rattle.std.proofs.lemmas.List.{append-nil}
use Rattle.std.proofs.lemmas.Option.{same_Some}
use Rattle.atomic_table.specs.Seated.{TableId}
use Rattle.cell_format.specs.declared.cell.Cell.{Cell}
use Rattle.cell_format.specs.Spelling.{newest}
use Rattle.disk_trait.specs.Drive.{Drive}
use Rattle.plain_list.specs.declared.ops.Op.{Op}
use Rattle.plain_list.specs.declared.ops.Op.TheVariants as op
use Rattle.plain_list.specs.declared.entries.Entry.{Entry}
use Rattle.plain_list.specs.declared.entries.Entry.TheVariants as entry
use Rattle.plain_list.specs.World.{World}
use Rattle.plain_list.specs.Answer.{answer_of, after_of, is_change, changed}
use Rattle.plain_list.specs.State.{State, empty_state, at_rest, step}
use Rattle.plain_list.proofs.Histories.{state_after-world}
use Rattle.plain_list.specs.History.{world_after, failed_cell}
use Rattle.split_log.specs.LogText.{IsLog, HoldsCells, front_of}
use Rattle.split_log.proofs.Cells.{length-front_of}
use Rattle.split_log.proofs.Unique.{holds-same}
use Rattle.log_state.specs.Recovers.{IsLegalCells, state_of, cells_after}
use Rattle.log_state.specs.Changes.{cells_of, change_cells}
use Rattle.log_state.proofs.LegalCells.{cells_after-append}
use Rattle.kept_log.specs.Kept.{renewed_state}
use Rattle.book_lock.specs.Pass.{Known}
use Rattle.book_lock.specs.declared.origin.Origin.{Origin}
use Rattle.book_lock.specs.declared.origin.LogStart.{LogStart}
use Rattle.sessions.specs.Shared.{start_of}
use Rattle.store_file.specs.Files.{FindsCells}
use Rattle.store_file.specs.Opened.{OpensStore}
use Rattle.store_file.specs.Closed.{ClosesStore}
use Rattle.store_file.specs.Again.{GoesOnFrom}
use Rattle.store_file.proofs.KeptCells.{cells-kept, legal-kept, some_of, state-kept, text-kept, world-kept}

same_either : {A : Type 0} (b : Bool) (x : A) → cond b x x ≡ x
same_either true x = refl
same_either false x = refl

-- The cells of a call change a world as the call does.
module _ (w : ℕ) (s : State) (world : World) (rest : List Cell) (last : World) (same : s.world ≡ world) where
  quiet : (o : Op) → after_of world o ≡ world → ((d : State) → d.world ≡ after_of world o → (cells_after w d rest).world ≡ last) → (cells_after w s rest).world ≡ last
  quiet o is on = on s (same ∙ sym is)

  by_test : (o : Op) (t : Bool) → is_change (answer_of world o) ≡ t → ((d : State) → d.world ≡ after_of world o → (cells_after w d rest).world ≡ last)
      → (cells_after w s (cond t (change_cells o) [] ++ rest)).world ≡ last
  by_test (op.Put id at moment) true is on = on (step w s (entry.Call 0 0 (op.Put id at moment))) (ap (λ l. after_of l (op.Put id at moment)) same)
  by_test (op.Move id at moment) true is on = on (step w s (entry.Call 0 0 (op.Move id at moment))) (ap (λ l. after_of l (op.Move id at moment)) same)
  by_test (op.Remove id) true is on = on (step w s (entry.Call 0 0 (op.Remove id))) (ap (λ l. after_of l (op.Remove id)) same)
  by_test (op.Find id) true is on = quiet (op.Find id) (same_either (is_change (answer_of world (op.Find id))) world) on
  by_test (op.Within region) true is on = quiet (op.Within region) (same_either (is_change (answer_of world (op.Within region))) world) on
  by_test (op.Near at k) true is on = quiet (op.Near at k) (same_either (is_change (answer_of world (op.Near at k))) world) on
  by_test o false is on = quiet o (ap (λ t. cond t (changed world o) world) is) on

-- The cells of a history change a world as the history does.
pub cells-world : (w : ℕ) (s : State) (world : World) (h : List Entry) → s.world ≡ world → (cells_after w s (cells_of world h)).world ≡ world_after world h
cells-world w s world [] same = same
cells-world w s world (entry.Call session row o ∷ h) same =
    by_test w s world (cells_of (after_of world o) h) (world_after (after_of world o) h) same o (is_change (answer_of world o)) refl (λ d is. cells-world w d (after_of world o) h is)
cells-world w s world (entry.Begin number name ∷ h) same = cells-world w (step w s (entry.Begin number name)) world h same
cells-world w s world (entry.Install number ∷ h) same = cells-world w (step w s (entry.Install number)) world h same
cells-world w s world (entry.Abandon number ∷ h) same = cells-world w (step w s (entry.Abandon number)) world h same
cells-world w s world (entry.Fail number lost ∷ h) same = cells-world w s world h same

-- If the cells take no bytes, there are no cells.
no-more : (cells : List Cell) → 32 * length cells ≤ 0 → [] ≡ cells
no-more [] few = refl
no-more (c ∷ cells) few = absurd (omega (arith, few))

text-length : (w : ℕ) (cells : List Cell) (drive : Drive) (log : IsLog w cells drive) → length log.bytes ≡ 17 + 32 * length cells
text-length w cells drive log =
    omega (arith, ap length log.text.text, length-append (front_of newest w cells) (log.text.commit_byte ∷ []), length-front_of newest w cells)

text-holds : (w : ℕ) (cells : List Cell) (drive : Drive) (log : IsLog w cells drive) → HoldsCells newest w cells log.bytes
text-holds w cells drive log = record { front = log.bytes; rest = []; parts = sym (append-nil log.bytes); text = log.text }

-- What is found in the text of cells is these cells.
finds-text : (w : ℕ) (cells found : List Cell) (drive : Drive) (log : IsLog w cells drive) → FindsCells w found log.bytes → found ≡ cells
finds-text w cells found drive log (inl small) = small.1 ∙ no-more cells (omega (arith, small.0, text-length w cells drive log))
finds-text w cells found drive log (inr long) = holds-same long.1.version newest w found cells log.bytes long.1.holds (text-holds w cells drive log)

-- What is found in a crash image of the text of cells is these cells.
pub finds-image : (w : ℕ) (cells found : List Cell) (drive : Drive) (log : IsLog w cells drive) (image : List ℕ) → drive.images image → FindsCells w found image → found ≡ cells
finds-image w cells found drive log image left finds = finds-text w cells found drive log (subst (λ (c : List ℕ). FindsCells w found c) (log.durable image left) finds)

module _ {D E : Type 0} (drive : D → Drive) (other : E → Drive) (w bucket size : ℕ) (file also : List ℕ) (old : Drive) (Is : Drive → Type 0) (lock key : TableId) (pass last next : Known) (points number : ℕ) (latest newer : Option ℕ) (records more : ℕ)
    (disk : D) (opened : OpensStore drive w bucket file old lock pass points latest records) (one : last.origin ≡ pass.origin) (told : is_some old.bytes ≡ true)
    (closed : ClosesStore drive w Is last disk) (good : failed_cell last.seen ≡ None) where
  -- The file is the text of the cells that the opening found and of the history's. A crash leaves that text.
  pub text-closed : IsLog w (opened.cells ++ cells_of pass.origin.world last.seen) (drive disk)
  text-closed =
      let start : LogStart = record { cells = length opened.cells; bytes = (drive opened.start).bytes; clock = (drive opened.start).clock; faults = (drive opened.start).faults; at_sync = false; moves = false } in
      let began : Some start ≡ last.origin.log = sym (ap (λ (k : Known). k.origin.log) opened.pass_is) ∙ sym (ap (λ (o : Origin). o.log) one) in
      let same = ap (λ (l : LogStart). l.bytes) (same_Some _ _ (began ∙ closed.began)) in
      let known = some_of (drive opened.start).bytes (opened.readies.told ∙ told) in
      let recovers = opened.found.recovers known.0 known.1 in
      let text = closed.keeps.keeps.text opened.cells known.0 (sym same ∙ known.1) recovers (closed.keeps.failed ∙ good) in
      subst (λ (o : Origin). IsLog w (opened.cells ++ cells_of o.world last.seen) (drive disk)) one
      (subst (λ (d : D). IsLog w (opened.cells ++ cells_of last.origin.world last.seen) (drive d)) closed.disk_is text)

  -- Any drive over the file whose bytes are a crash image of this drive.
  module _ (image : List ℕ) (left : (drive disk).images image) (new : Drive) (holds : new.bytes ≡ Some image) (again : OpensStore other w size also new key next number newer more) where
    -- The next opening finds these cells.
    pub finds-cells : again.cells ≡ opened.cells ++ cells_of pass.origin.world last.seen
    finds-cells = finds-image w (opened.cells ++ cells_of pass.origin.world last.seen) again.cells (drive disk) text-closed image left (again.found.finds image holds)

    -- The next opening begins with the objects that the last history left.
    pub finds-closed : GoesOnFrom pass.origin last.seen next.origin
    finds-closed =
        let first : pass.origin.world ≡ (state_of w opened.cells).world = ap (λ (k : Known). k.origin.world) opened.pass_is in
        let now : next.origin.world ≡ (state_of w again.cells).world = ap (λ (k : Known). k.origin.world) again.pass_is in
        now ∙ ap (λ (l : List Cell). (state_of w l).world) finds-cells
        ∙ ap (λ (s : State). s.world) (cells_after-append w empty_state opened.cells (cells_of pass.origin.world last.seen))
        ∙ cells-world w (state_of w opened.cells) pass.origin.world last.seen (sym first)

-- A store that was closed, whatever it began from: the opening of a file, or a rotation after others.
module _ {D : Type 0} (drive : D → Drive) (w : ℕ) (Is : Drive → Type 0) (last : Known) (disk : D) (closed : ClosesStore drive w Is last disk)
    (told : is_some (drive disk).bytes ≡ true) (good : failed_cell last.seen ≡ None) where
  pub told-last : is_some (drive closed.log.disk).bytes ≡ true
  told-last = ap (λ (d : D). is_some (drive d).bytes) closed.disk_is ∙ told

  -- The cells that its log had at the beginning, and then those of the history.
  abbrev pub cells-last : List Cell
  cells-last = cells-kept drive w (start_of last.origin) last.seen closed.log closed.keeps closed.legal told-last good

  -- The file is the text of these cells, and a crash leaves that text.
  pub text-last : IsLog w cells-last (drive disk)
  text-last =
      subst (λ (d : D). IsLog w cells-last (drive d)) closed.disk_is
      (text-kept drive w (start_of last.origin) last.seen closed.log closed.keeps closed.legal told-last good)

  pub legal-last : IsLegalCells w cells-last
  legal-last = legal-kept drive w (start_of last.origin) last.seen closed.log closed.keeps closed.legal told-last good

  -- These cells leave what the history left, with no open split.
  pub state-last : at_rest (state_of w cells-last) ≡ renewed_state w (start_of last.origin) last.seen
  state-last = state-kept drive w (start_of last.origin) last.seen closed.log closed.keeps closed.legal told-last good

  pub world-last : (state_of w cells-last).world ≡ world_after last.origin.world last.seen
  world-last = world-kept drive w (start_of last.origin) last.seen closed.log closed.keeps closed.legal told-last good

  -- Any drive over the file whose bytes are a crash image of this drive.
  module _ {E : Type 0} (other : E → Drive) (size : ℕ) (also : List ℕ) (key : TableId) (next : Known) (number : ℕ) (newer : Option ℕ) (more : ℕ)
      (image : List ℕ) (left : (drive disk).images image) (new : Drive) (holds : new.bytes ≡ Some image) (again : OpensStore other w size also new key next number newer more) where
    pub cells-found : again.cells ≡ cells-last
    cells-found = finds-image w cells-last again.cells (drive disk) text-last image left (again.found.finds image holds)

    -- The next opening begins with the objects, the leaves and the number of splits that the history left.
    pub finds-last : start_of next.origin ≡ renewed_state w (start_of last.origin) last.seen
    finds-last = ap (λ (k : Known). start_of k.origin) again.pass_is ∙ ap (λ (l : List Cell). at_rest (state_of w l)) cells-found ∙ state-last

    pub finds-last-world : GoesOnFrom last.origin last.seen next.origin
    finds-last-world = ap (λ (s : State). s.world) finds-last ∙ state_after-world w (start_of last.origin) last.seen
