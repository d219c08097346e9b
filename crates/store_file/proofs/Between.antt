-- What an opening of two files finds, wherever a crash came while a store continued from the first to the second.
use Rattle.std.proofs.Common.{◌≡◌, ◌⊎◌, inl, inr, ⊎_elim, ◌∙◌, ℕ, ◌+◌, ◌*◌, ◌≤◌, true, Bool, List, [], ◌∷◌, ◌++◌, length, Option, Some, is_some, refl, sym, ap, subst, arith, length-append}
use Rattle.std.proofs.lemmas.List.{append-nil}
use Rattle.std.specs.Prelude.{⊤, None}
use Rattle.atomic_table.specs.Seated.{TableId}
use Rattle.cell_format.specs.declared.cell.Cell.{Cell}
use Rattle.cell_format.specs.Spelling.{newest}
use Rattle.disk_trait.specs.Drive.{Drive}
use Rattle.disk_trait.specs.Moments.{LeavesNow}
use Rattle.plain_list.specs.World.{World}
use Rattle.plain_list.specs.History.{world_after, failed_cell}
use Rattle.plain_list.specs.State.{State, at_rest, empty_state, is_legal_history}
use Rattle.split_log.specs.LogText.{IsLog, HoldsCells, front_of}
use Rattle.split_log.proofs.Cells.{length-front_of}
use Rattle.split_log.proofs.Unique.{holds-same}
use Rattle.log_state.specs.Recovers.{Recovers, IsLegalCells, state_of}
use Rattle.log_state.specs.Changes.{cells_of}
use Rattle.log_state.proofs.LegalBehind.{legal_behind}
use Rattle.log_state.proofs.LegalCells.{cells_after-append}
use Rattle.recovery.specs.Making.{IsSmall}
use Rattle.log_compact.specs.Compacting.{IsOnWay, KeepsOnWay}
use Rattle.book_lock.specs.Pass.{Known}
use Rattle.book_lock.specs.declared.origin.Origin.{Origin}
use Rattle.sessions.specs.Shared.{start_of}
use Rattle.store_file.specs.declared.either.Which.{Which}
use Rattle.store_file.specs.declared.either.Which.TheVariants as side
use Rattle.store_file.specs.Again.{IsBetween}
use Rattle.store_file.specs.Closed.{ClosesStore}
use Rattle.log_compact.specs.Clearing.{KeepsOrClears}
use Rattle.store_file.specs.Either.{chosen_of, other_of, IsChosen, OpensEither}
use Rattle.store_file.specs.Files.{FindsCells}
use Rattle.store_file.specs.Opened.{OpensStore}
use Rattle.store_file.specs.Rotated.{RotatesTo, world_left, cells_left}
use Rattle.store_file.proofs.Again.{cells-world, text-closed, cells-last, text-last, legal-last, world-last}

-- The cells leave these objects.
abbrev HasObjects : ℕ → World → List Cell → Type 0
HasObjects w world cells = (state_of w cells).world ≡ world

none-by : (cells : List Cell) → length cells ≡ 0 → cells ≡ []
none-by [] is = refl
none-by (c ∷ cells) is = absurd (omega (arith, is))

-- If the chosen log has no cells, the other one has none.
rest-none : (which : Which) (cells other : List Cell) → IsChosen which (length cells) (length other) → cells ≡ [] → other ≡ []
rest-none side.First cells other (inl none) is = none-by other none
rest-none side.First cells other (inr some) is = absurd (omega (arith, some.0, ap length is))
rest-none side.Second cells other some is = absurd (omega (arith, some.0, ap length is))

-- If one of two logs leaves the objects, the chosen one does, unless it has cells that leave others.
chosen-has : (w : ℕ) (world : World) (which : Which) (cells other : List Cell) → IsChosen which (length cells) (length other) → HasObjects w world cells ⊎ (cells ≡ [])
    → HasObjects w world cells ⊎ HasObjects w world other → HasObjects w world cells
chosen-has w world which cells other chosen (inl has) one = has
chosen-has w world which cells other chosen (inr none) (inl has) = has
chosen-has w world which cells other chosen (inr none) (inr has) = subst (HasObjects w world) (rest-none which cells other chosen none ∙ sym none) has

-- Bytes that hold cells are at least 17 bytes, and 32 more for each cell.
holds-length : (v w : ℕ) (cells : List Cell) (bytes : List ℕ) → HoldsCells v w cells bytes → 17 + 32 * length cells ≤ length bytes
holds-length v w cells bytes holds =
    omega (
      arith,
      ap length holds.parts,
      length-append holds.front holds.rest,
      ap length holds.text.text,
      length-append (front_of v w cells) (holds.text.commit_byte ∷ []),
      length-front_of v w cells,
    )

-- What is found in an image is what the image recovers to.
image-finds : (w : ℕ) (cells found : List Cell) (image : List ℕ) → Recovers w cells image → FindsCells w found image → found ≡ cells
image-finds w cells found image recovers (inl small) =
    let long = holds-length recovers.version w cells image recovers.holds in
    small.1 ∙ sym (none-by cells (omega (arith, long, small.0)))
image-finds w cells found image recovers (inr long) = holds-same long.1.version recovers.version w found cells image long.1.holds recovers.holds

module _ (w : ℕ) (world : World) (cells fresh : List Cell) (has : HasObjects w world cells) (also : HasObjects w world fresh) (first second : List ℕ) where
  first-finds : IsBetween w cells fresh first second → (found : List Cell) → FindsCells w found first → HasObjects w world found ⊎ (found ≡ [])
  first-finds (inl writing) found finds = inl (subst (HasObjects w world) (sym (image-finds w cells found first writing.0 finds)) has)
  first-finds (inr clearing) found finds = ⊎_elim
      (λ all. inl (subst (HasObjects w world) (sym (image-finds w cells found first all finds)) has))
      (λ none. inr (image-finds w [] found first none finds)) clearing.0

  on-way-finds : IsOnWay w fresh second → (found : List Cell) → FindsCells w found second → HasObjects w world found ⊎ (found ≡ [])
  on-way-finds (inl small) found (inl is) = inr is.1
  on-way-finds (inl small) found (inr long) = absurd (omega (arith, small, long.0))
  on-way-finds (inr (inl none)) found finds = inr (image-finds w [] found second none.0 finds)
  on-way-finds (inr (inr all)) found finds = inl (subst (HasObjects w world) (sym (image-finds w fresh found second all.0 finds)) also)

  second-finds : IsBetween w cells fresh first second → (found : List Cell) → FindsCells w found second → HasObjects w world found ⊎ (found ≡ [])
  second-finds (inl writing) found finds = on-way-finds writing.1 found finds
  second-finds (inr clearing) found finds = inl (subst (HasObjects w world) (sym (image-finds w fresh found second clearing.1 finds)) also)

  one-has : IsBetween w cells fresh first second → (one two : List Cell) → FindsCells w one first → FindsCells w two second → HasObjects w world one ⊎ HasObjects w world two
  one-has (inl writing) one two finds others = inl (subst (HasObjects w world) (sym (image-finds w cells one first writing.0 finds)) has)
  one-has (inr clearing) one two finds others = inr (subst (HasObjects w world) (sym (image-finds w fresh two second clearing.1 others)) also)

  -- Either file may be the chosen one.
  module _ (between : IsBetween w cells fresh first second) (which : Which) (chosen other : List Cell) (is : IsChosen which (length chosen) (length other)) where
    first-chosen : FindsCells w chosen first → FindsCells w other second → HasObjects w world chosen
    first-chosen finds others = chosen-has w world which chosen other is (first-finds between chosen finds) (one-has between chosen other finds others)

    second-chosen : FindsCells w chosen second → FindsCells w other first → HasObjects w world chosen
    second-chosen finds others =
        chosen-has w world which chosen other is (second-finds between chosen finds) (⊎_elim (λ one. inr one) (λ two. inl two) (one-has between other chosen others finds))

module _ {E : Type 0} (drive : E → Drive) (w size : ℕ) (file also : List ℕ) (one two : E) (key : TableId) (next : Known) (number : ℕ) (newer : Option ℕ) (more : ℕ) (spare : E)
    (world : World) (cells fresh : List Cell) (has : (state_of w cells).world ≡ world) (fresh-has : (state_of w fresh).world ≡ world) (first second : List ℕ) (between : IsBetween w cells fresh first second) where
  by-sides : (old which : Which) (opened : OpensEither drive w size file also one two which key next number newer more spare)
      → (drive (chosen_of old one two)).bytes ≡ Some first → (drive (other_of old one two)).bytes ≡ Some second → (state_of w opened.opens.cells).world ≡ world
  by-sides side.First side.First opened told other =
      first-chosen w world cells fresh has fresh-has first second between side.First opened.opens.cells opened.other opened.chosen (opened.opens.found.finds first told) (opened.gives_up.finds.finds second other)
  by-sides side.First side.Second opened told other =
      second-chosen w world cells fresh has fresh-has first second between side.Second opened.opens.cells opened.other opened.chosen (opened.opens.found.finds second other) (opened.gives_up.finds.finds first told)
  by-sides side.Second side.First opened told other =
      second-chosen w world cells fresh has fresh-has first second between side.First opened.opens.cells opened.other opened.chosen (opened.opens.found.finds second other) (opened.gives_up.finds.finds first told)
  by-sides side.Second side.Second opened told other =
      first-chosen w world cells fresh has fresh-has first second between side.Second opened.opens.cells opened.other opened.chosen (opened.opens.found.finds first told) (opened.gives_up.finds.finds second other)

  -- Wherever the crash came, an opening of both files begins with these objects. The first file of the rotation may be
  -- either file of the opening.
  pub finds-between : (old which : Which) (opened : OpensEither drive w size file also one two which key next number newer more spare)
      → (drive (chosen_of old one two)).bytes ≡ Some first → (drive (other_of old one two)).bytes ≡ Some second → next.origin.world ≡ world
  finds-between old which opened told other = ap (λ (k : Known). k.origin.world) opened.opens.pass_is ∙ by-sides old which opened told other

-- A crash leaves the cells of a log whose file is the text of legal cells.
log-recovers : (w : ℕ) (cells : List Cell) (drive : Drive) → IsLog w cells drive → IsLegalCells w cells → LeavesNow drive (Recovers w cells)
log-recovers w cells drive log legal image left = record {
  version = newest;
  known = inr refl;
  holds = record { front = log.bytes; rest = []; parts = log.durable image left ∙ sym (append-nil log.bytes); text = log.text };
  legal = legal;
}

module _ (w : ℕ) (cells fresh : List Cell) (old : Drive) (log : IsLog w cells old) (legal : IsLegalCells w cells) where
  -- While the second file is written, the first one keeps its cells.
  pub between-writing : (spare now : Drive) (bytes : List ℕ) → spare.bytes ≡ Some bytes → LeavesNow spare IsSmall → KeepsOnWay w fresh spare now
      → (first second : List ℕ) → old.images first → now.since spare.clock second → IsBetween w cells fresh first second
  between-writing spare now bytes told small keeps first second left since = inl (log-recovers w cells old log legal first left, (keeps.on_way bytes told small).each second since)

  -- While the first file is cleared, the second one keeps its cells.
  pub between-clearing : (new now : Drive) → IsLog w fresh new → IsLegalCells w fresh → KeepsOrClears old now
      → (first second : List ℕ) → now.since old.clock first → new.images second → IsBetween w cells fresh first second
  between-clearing new now stands fresh_legal keeps first second since left = inr (
    ⊎_elim
        (λ none. inr (record { version = newest; known = inr refl; holds = none; legal = refl }))
        (λ all. inl (record { version = newest; known = inr refl; holds = all; legal = legal })) ((keeps w cells log).each first since),
    log-recovers w fresh new stands fresh_legal second left,
  )

-- A store that was opened over a file continues over a second one, with any leaves.
module _ {D : Type 0} (drive : D → Drive) (w bucket : ℕ) (file : List ℕ) (old : Drive) (lock : TableId) (pass last : Known) (points : ℕ) (latest : Option ℕ) (records : ℕ) (Are : List (List Bool) → Type 0) (disk spare : D) (origin : Origin) (count : ℕ)
    (opened : OpensStore drive w bucket file old lock pass points latest records) (one : last.origin ≡ pass.origin) (told : is_some old.bytes ≡ true) (to : RotatesTo drive w Are last disk spare origin count) where
  -- The cells of the first file, and those of the second one.
  abbrev pub cells-closed : List Cell
  cells-closed = opened.cells ++ cells_of pass.origin.world last.seen

  abbrev pub fresh-closed : List Cell
  fresh-closed = cells_left w last.origin last.seen origin.leaves

  log-closed : IsLog w cells-closed (drive disk)
  log-closed = text-closed drive drive w bucket bucket file file old (λ start. ⊤) lock lock pass last last points points latest latest records records disk opened one told to.closed to.good

  first-world : pass.origin.world ≡ (state_of w opened.cells).world
  first-world = ap (λ (k : Known). k.origin.world) opened.pass_is

  legal-closed : IsLegalCells w cells-closed
  legal-closed =
      let began : start_of last.origin ≡ at_rest (state_of w opened.cells) = ap start_of (one ∙ ap (λ (k : Known). k.origin) opened.pass_is) in
      subst (λ l. IsLegalCells w (opened.cells ++ cells_of l last.seen)) (sym first-world)
      (legal_behind w opened.cells last.seen opened.found.legal (subst (λ (s : State). is_legal_history w s last.seen ≡ true) began to.closed.legal))

  world-closed : (state_of w cells-closed).world ≡ world_left last.origin last.seen
  world-closed =
      ap (λ (s : State). s.world) (cells_after-append w empty_state opened.cells (cells_of pass.origin.world last.seen))
      ∙ cells-world w (state_of w opened.cells) pass.origin.world last.seen (sym first-world)
      ∙ ap (λ (o : Origin). world_after o.world last.seen) (sym one)

  -- What a crash leaves while the second file is written, and while the first one is cleared.
  pub between-written : (bytes : List ℕ) → (drive spare).bytes ≡ Some bytes → LeavesNow (drive spare) IsSmall → (first second : List ℕ) → (drive disk).images first → (drive to.start).since (drive spare).clock second
      → IsBetween w cells-closed fresh-closed first second
  between-written bytes known small = between-writing w cells-closed fresh-closed (drive disk) log-closed legal-closed (drive spare) (drive to.start) bytes known small to.on_way

  pub between-cleared : (bytes : List ℕ) → (drive spare).bytes ≡ Some bytes → (left : D) → KeepsOrClears (drive disk) (drive left) → (first second : List ℕ) → (drive left).since (drive disk).clock first
      → (drive to.start).images second → IsBetween w cells-closed fresh-closed first second
  between-cleared bytes known left keeps =
      between-clearing w cells-closed fresh-closed (drive disk) log-closed legal-closed (drive to.start) (drive left) (to.compacted.log bytes known).1 to.state.legal keeps

  -- An opening of both files begins with the objects that the history left.
  module _ {E : Type 0} (other : E → Drive) (size : ℕ) (one_file two_file : List ℕ) (three four : E) (key : TableId) (next : Known) (number : ℕ) (newer : Option ℕ) (more : ℕ) (left : E)
      (first second : List ℕ) (between : IsBetween w cells-closed fresh-closed first second) where
    pub finds-left : (side which : Which) (again : OpensEither other w size one_file two_file three four which key next number newer more left)
        → (other (chosen_of side three four)).bytes ≡ Some first → (other (other_of side three four)).bytes ≡ Some second → next.origin.world ≡ world_left last.origin last.seen
    finds-left = finds-between other w size one_file two_file three four key next number newer more left (world_left last.origin last.seen) cells-closed fresh-closed world-closed to.state.world_is first second between

-- The same for a store that begins after any earlier history (`text-last`, proofs/Again). The second file is written
-- with cells that leave the same objects, as those of `RotatesTo` do. Then the first file is cleared.
module _ {D : Type 0} (drive : D → Drive) (w : ℕ) (Is : Drive → Type 0) (last : Known) (disk : D) (closed : ClosesStore drive w Is last disk)
    (told : is_some (drive disk).bytes ≡ true) (good : failed_cell last.seen ≡ None) (fresh : List Cell) (legal : IsLegalCells w fresh)
    (world_is : (state_of w fresh).world ≡ world_after last.origin.world last.seen) where
  abbrev pub cells-stood : List Cell
  cells-stood = cells-last drive w Is last disk closed told good

  log-stood : IsLog w cells-stood (drive disk)
  log-stood = text-last drive w Is last disk closed told good

  legal-stood : IsLegalCells w cells-stood
  legal-stood = legal-last drive w Is last disk closed told good

  pub last-written : (spare now : Drive) (bytes : List ℕ) → spare.bytes ≡ Some bytes → LeavesNow spare IsSmall → KeepsOnWay w fresh spare now
      → (first second : List ℕ) → (drive disk).images first → now.since spare.clock second → IsBetween w cells-stood fresh first second
  last-written = between-writing w cells-stood fresh (drive disk) log-stood legal-stood

  pub last-cleared : (new now : Drive) → IsLog w fresh new → KeepsOrClears (drive disk) now
      → (first second : List ℕ) → now.since (drive disk).clock first → new.images second → IsBetween w cells-stood fresh first second
  last-cleared new now stands = between-clearing w cells-stood fresh (drive disk) log-stood legal-stood new now stands legal

  module _ {E : Type 0} (other : E → Drive) (size : ℕ) (one_file two_file : List ℕ) (three four : E) (key : TableId) (next : Known) (number : ℕ) (newer : Option ℕ) (more : ℕ) (left : E)
      (first second : List ℕ) (between : IsBetween w cells-stood fresh first second) where
    pub finds-last-left : (side which : Which) (again : OpensEither other w size one_file two_file three four which key next number newer more left)
        → (other (chosen_of side three four)).bytes ≡ Some first → (other (other_of side three four)).bytes ≡ Some second → next.origin.world ≡ world_after last.origin.world last.seen
    finds-last-left =
        finds-between other w size one_file two_file three four key next number newer more left (world_after last.origin.world last.seen) cells-stood fresh
        (world-last drive w Is last disk closed told good) world_is first second between
