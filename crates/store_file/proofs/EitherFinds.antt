-- What an opening of two files finds, if each image has cells of one kind or none, and one image has such cells.
use Rattle.std.proofs.Common.{◌≡◌, ◌⊎◌, inl, inr, ◌∙◌, ℕ, ◌+◌, ◌*◌, ◌≤◌, List, [], ◌∷◌, length, Option, Some, refl, sym, ap, subst, arith, length-append}
use Rattle.std.proofs.lemmas.List.{append-nil}
use Rattle.atomic_table.specs.Seated.{TableId}
use Rattle.cell_format.specs.declared.cell.Cell.{Cell}
use Rattle.cell_format.specs.Spelling.{newest}
use Rattle.disk_trait.specs.Drive.{Drive}
use Rattle.disk_trait.specs.Moments.{LeavesNow}
use Rattle.plain_list.specs.State.{State}
use Rattle.split_log.specs.LogText.{IsLog, HoldsCells, front_of}
use Rattle.split_log.proofs.Cells.{length-front_of}
use Rattle.split_log.proofs.Unique.{holds-same}
use Rattle.log_state.specs.Recovers.{Recovers, IsLegalCells}
use Rattle.recovery.specs.Making.{IsSmall}
use Rattle.log_compact.specs.Compacting.{IsOnWay}
use Rattle.book_lock.specs.Pass.{Known}
use Rattle.store_file.specs.declared.either.Which.{Which}
use Rattle.store_file.specs.declared.either.Which.TheVariants as side
use Rattle.store_file.specs.Again.{IsBetween}
use Rattle.store_file.specs.Crashes.{BeginsIn, HasStateOf}
use Rattle.store_file.specs.Either.{chosen_of, other_of, IsChosen, OpensEither}
use Rattle.store_file.specs.Files.{FindsCells, IsUnmade}
use Rattle.store_file.specs.Opened.{OpensStore}

none-by : (cells : List Cell) → length cells ≡ 0 → cells ≡ []
none-by [] is = refl
none-by (c ∷ cells) is = absurd (omega (arith, is))

-- If the chosen log has no cells, the other one has none.
rest-none : (which : Which) (cells other : List Cell) → IsChosen which (length cells) (length other) → cells ≡ [] → other ≡ []
rest-none side.First cells other (inl none) is = none-by other none
rest-none side.First cells other (inr some) is = absurd (omega (arith, some.0, ap length is))
rest-none side.Second cells other some is = absurd (omega (arith, some.0, ap length is))

-- Bytes that hold cells are at least 17 bytes, and 32 more for each cell.
holds-length : (v w : ℕ) (cells : List Cell) (bytes : List ℕ) → HoldsCells v w cells bytes → 17 + 32 * length cells ≤ length bytes
holds-length v w cells bytes holds =
    omega (
      arith,
      ap length holds.parts,
      length-append holds.front holds.rest,
      ap length holds.text.text,
      length-append (front_of v w cells) (holds.text.commit_byte ∷ []),
      length-front_of v w cells,
    )

-- What is found in an image is what the image recovers to.
pub recovers-found : (w : ℕ) (cells found : List Cell) (image : List ℕ) → Recovers w cells image → FindsCells w found image → found ≡ cells
recovers-found w cells found image recovers (inl small) =
    let long = holds-length recovers.version w cells image recovers.holds in
    small.1 ∙ sym (none-by cells (omega (arith, long, small.0)))
recovers-found w cells found image recovers (inr long) = holds-same long.1.version recovers.version w found cells image long.1.holds recovers.holds

-- In an image of a small file, or of a log of no cells, none are found.
pub unmade-found : (w : ℕ) (found : List Cell) (image : List ℕ) → IsUnmade w image → FindsCells w found image → found ≡ []
unmade-found w found image (inl small) (inl is) = is.1
unmade-found w found image (inl small) (inr long) = absurd (omega (arith, small, long.0))
unmade-found w found image (inr none) finds = recovers-found w [] found image none finds

-- The text of cells holds them.
pub text-holds : (w : ℕ) (cells : List Cell) (drive : Drive) (log : IsLog w cells drive) → HoldsCells newest w cells log.bytes
text-holds w cells drive log = record { front = log.bytes; rest = []; parts = sym (append-nil log.bytes); text = log.text }

-- A crash leaves at most 17 bytes of a log of no cells.
pub none-small : (w : ℕ) (drive : Drive) → IsLog w [] drive → LeavesNow drive IsSmall
none-small w drive log image left =
    omega (
      arith,
      ap length (log.durable image left),
      ap length log.text.text,
      length-append (front_of newest w []) (log.text.commit_byte ∷ []),
      length-front_of newest w [],
    )

-- A crash leaves the cells of a log whose file is the text of legal cells.
pub log-leaves : (w : ℕ) (cells : List Cell) (drive : Drive) → IsLog w cells drive → IsLegalCells w cells → LeavesNow drive (Recovers w cells)
log-leaves w cells drive log legal image left = record {
  version = newest;
  known = inr refl;
  holds = subst (HoldsCells newest w cells) (sym (log.durable image left)) (text-holds w cells drive log);
  legal = legal;
}

module _ (P : List Cell → Type 0) (w : ℕ) (first second : List ℕ) where
  -- Cells that are found in either image have the fact, or there are none. Those of one image have it.
  pub record FindIn : Type 0 where
    pub one : (found : List Cell) → FindsCells w found first → P found ⊎ (found ≡ [])
    pub two : (found : List Cell) → FindsCells w found second → P found ⊎ (found ≡ [])
    pub either : (found other : List Cell) → FindsCells w found first → FindsCells w other second → P found ⊎ P other

module _ (P : List Cell → Type 0) (w : ℕ) where
  -- If one of two logs has the fact, the chosen one has it, unless it has cells without it.
  chosen-has : (which : Which) (cells other : List Cell) → IsChosen which (length cells) (length other) → P cells ⊎ (cells ≡ []) → P cells ⊎ P other → P cells
  chosen-has which cells other chosen (inl has) one = has
  chosen-has which cells other chosen (inr none) (inl has) = has
  chosen-has which cells other chosen (inr none) (inr has) = subst P (rest-none which cells other chosen none ∙ sym none) has

  swapped : {A B : Type 0} → A ⊎ B → B ⊎ A
  swapped (inl a) = inr a
  swapped (inr b) = inl b

  -- The opening continues with cells that have the fact. The first image may be of either file of the opening.
  module _ (first second : List ℕ) (may : FindIn P w first second) {E : Type 0} (drive : E → Drive) (size : ℕ) (file also : List ℕ) (one two : E) (key : TableId) (next : Known) (number : ℕ) (newer : Option ℕ) (more : ℕ) (spare : E) where
    pub either-has : (old which : Which) (opened : OpensEither drive w size file also one two which key next number newer more spare)
        → (drive (chosen_of old one two)).bytes ≡ Some first → (drive (other_of old one two)).bytes ≡ Some second → P opened.opens.cells
    either-has side.First side.First opened told other =
        let one = opened.opens.found.finds first told in
        chosen-has side.First opened.opens.cells opened.other opened.chosen (may.one opened.opens.cells one) (may.either opened.opens.cells opened.other one (opened.gives_up.finds.finds second other))
    either-has side.First side.Second opened told other =
        let two = opened.opens.found.finds second other in
        chosen-has side.Second opened.opens.cells opened.other opened.chosen (may.two opened.opens.cells two) (swapped (may.either opened.other opened.opens.cells (opened.gives_up.finds.finds first told) two))
    either-has side.Second side.First opened told other =
        let two = opened.opens.found.finds second other in
        chosen-has side.First opened.opens.cells opened.other opened.chosen (may.two opened.opens.cells two) (swapped (may.either opened.other opened.opens.cells (opened.gives_up.finds.finds first told) two))
    either-has side.Second side.Second opened told other =
        let one = opened.opens.found.finds first told in
        chosen-has side.Second opened.opens.cells opened.other opened.chosen (may.one opened.opens.cells one) (may.either opened.opens.cells opened.other one (opened.gives_up.finds.finds second other))

  -- The cells of one image have the fact. The other image is that of a small file, or of a log of no cells.
  pub in-one : (first second : List ℕ) (cells : List Cell) → P cells → Recovers w cells first → IsUnmade w second → FindIn P w first second
  in-one first second cells has recovers unmade =
      let of : (found : List Cell) → FindsCells w found first → P found = λ found finds. subst P (sym (recovers-found w cells found first recovers finds)) has in
      record {
        one = λ found finds. inl (of found finds);
        two = λ found finds. inr (unmade-found w found second unmade finds);
        either = λ found other finds others. inl (of found finds);
      }

  -- Both images are between two logs with the fact.
  module _ (cells fresh : List Cell) (has : P cells) (also : P fresh) (first second : List ℕ) where
    of-cells : Recovers w cells first → (found : List Cell) → FindsCells w found first → P found
    of-cells recovers found finds = subst P (sym (recovers-found w cells found first recovers finds)) has

    of-fresh : Recovers w fresh second → (found : List Cell) → FindsCells w found second → P found
    of-fresh recovers found finds = subst P (sym (recovers-found w fresh found second recovers finds)) also

    on-way : IsOnWay w fresh second → (found : List Cell) → FindsCells w found second → P found ⊎ (found ≡ [])
    on-way (inl small) found finds = inr (unmade-found w found second (inl small) finds)
    on-way (inr (inl none)) found finds = inr (recovers-found w [] found second none.0 finds)
    on-way (inr (inr all)) found finds = inl (of-fresh all.0 found finds)

    all-or-none : Recovers w cells first ⊎ Recovers w [] first → (found : List Cell) → FindsCells w found first → P found ⊎ (found ≡ [])
    all-or-none (inl all) found finds = inl (of-cells all found finds)
    all-or-none (inr none) found finds = inr (recovers-found w [] found first none finds)

    pub in-between : IsBetween w cells fresh first second → FindIn P w first second
    in-between (inl writing) = record {
      one = λ found finds. inl (of-cells writing.0 found finds);
      two = on-way writing.1;
      either = λ found other finds others. inl (of-cells writing.0 found finds);
    }
    in-between (inr clearing) = record {
      one = all-or-none clearing.0;
      two = λ found finds. inl (of-fresh clearing.1 found finds);
      either = λ found other finds others. inr (of-fresh clearing.1 other others);
    }

-- A store that begins over cells of these objects and leaves has them in its origin.
pub begins-in : {E : Type 0} (drive : E → Drive) (w size : ℕ) (file : List ℕ) (old : Drive) (key : TableId) (next : Known) (number : ℕ) (newer : Option ℕ) (more : ℕ) (s : State)
    (opened : OpensStore drive w size file old key next number newer more) → HasStateOf w s opened.cells → BeginsIn s next.origin
begins-in drive w size file old key next number newer more s opened has = record {
  world = ap (λ (k : Known). k.origin.world) opened.pass_is ∙ has.world;
  leaves = ap (λ (k : Known). k.origin.leaves) opened.pass_is ∙ has.leaves;
}
