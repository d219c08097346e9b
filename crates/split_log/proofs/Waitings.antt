-- Cells that wait, and their text.
use Rattle.std.proofs.Common.{◌≡◌, inr, ℕ, zero, suc, ◌+◌, ◌*◌, ◌-◌, ◌<◌, ◌≤◌, List, [], ◌∷◌, ◌++◌, length, take, drop, Result, Ok, Err, if◌then◌else◌, is_ok, IsOk, refl, sym, ◌∙◌, ap, subst, arith, append_assoc, length-append}
use Rattle.std.proofs.lemmas.Bool.{true≢false}
use Rattle.std.proofs.lemmas.List.{take_at, drop_at, take-append-drop, length-take-le, append-nil, take_all}
use Rattle.std.proofs.lemmas.Grind.{flat_map-append}
use Rattle.std.specs.List.{flat_map, AllByRecursion}
use Rattle.cell_format.specs.declared.cell.Cell.{Cell}
use Rattle.cell_format.specs.Spelling.{newest, IsCell, spelling}
use Rattle.cell_format.specs.Decoding.{decoded}
use Rattle.cell_format.proofs.Decoded.{length-spelling, decoded-spelling}
use Rattle.split_log.specs.LogView.{most_cells}
use Rattle.split_log.specs.Waiting.{most_waiting, cell_or_other, spelled_cells, IsWaiting}
use Rattle.split_log.proofs.Cells.{length-cells, fit_more}

pub length-spelled : (count : ℕ) (text : List ℕ) → length (spelled_cells count text) ≡ count
length-spelled zero text = refl
length-spelled (suc n) text = ap suc (length-spelled n (drop 32 text))

-- The text of cells spells them.
pub spelled-text : (cells : List Cell) (rest : List ℕ) → AllByRecursion (IsCell newest) cells → spelled_cells (length cells) (flat_map spelling cells ++ rest) ≡ cells
spelled-text [] rest fits = refl
spelled-text (c ∷ cells) rest fits =
    let parts : flat_map spelling (c ∷ cells) ++ rest ≡ spelling c ++ (flat_map spelling cells ++ rest) = append_assoc (spelling c) (flat_map spelling cells) rest in
    let first : take 32 (flat_map spelling (c ∷ cells) ++ rest) ≡ spelling c = ap (take 32) parts ∙ take_at (spelling c) (flat_map spelling cells ++ rest) 32 (length-spelling c) in
    let others : drop 32 (flat_map spelling (c ∷ cells) ++ rest) ≡ flat_map spelling cells ++ rest = ap (drop 32) parts ∙ drop_at (spelling c) (flat_map spelling cells ++ rest) 32 (length-spelling c) in
    (λ i. cell_or_other (decoded newest (first i)) ∷ spelled_cells (length cells) (others i))
    ∙ (λ i. cell_or_other (decoded-spelling newest (inr refl) c fits.0 i) ∷ spelled-text cells rest fits.1 i)

module _ (cells : List Cell) (count : ℕ) (text : List ℕ) (long : length cells ≡ count) (fits : AllByRecursion (IsCell newest) cells) (is : text ≡ flat_map spelling cells ++ 0 ∷ []) where
  -- A text of cells is seen as these cells.
  pub waits-as : spelled_cells count text ≡ cells
  waits-as = ap (λ n. spelled_cells n text) (sym long) ∙ ap (spelled_cells (length cells)) is ∙ spelled-text cells (0 ∷ []) fits

  pub waits : (capacity : ℕ) → count ≤ most_cells → 32 * (most_waiting + 1) + 1 ≤ capacity → IsWaiting count text capacity
  waits capacity few room = record {
    fits = subst (AllByRecursion (IsCell newest)) (sym waits-as) fits;
    spelled = is ∙ ap (λ l. flat_map spelling l ++ 0 ∷ []) (sym waits-as);
    few = few;
    room = room;
  }

-- The first cells, and their text.
pub fit_first : (n : ℕ) (cells : List Cell) → AllByRecursion (IsCell newest) cells → AllByRecursion (IsCell newest) (take n cells)
fit_first zero cells fits = tt
fit_first (suc n) [] fits = tt
fit_first (suc n) (c ∷ cells) fits = (fits.0, fit_first n cells fits.1)

pub take-text : (n : ℕ) (cells : List Cell) (rest : List ℕ) → n ≤ length cells → take (32 * n) (flat_map spelling cells ++ rest) ≡ flat_map spelling (take n cells)
take-text n cells rest le =
    ap (λ l. take (32 * n) (flat_map spelling l ++ rest)) (sym (take-append-drop n cells))
    ∙ ap (λ l. take (32 * n) (l ++ rest)) (flat_map-append spelling (take n cells) (drop n cells))
    ∙ ap (take (32 * n)) (append_assoc (flat_map spelling (take n cells)) (flat_map spelling (drop n cells)) rest)
    ∙ take_at (flat_map spelling (take n cells)) (flat_map spelling (drop n cells) ++ rest) (32 * n)
    (length-cells (take n cells) ∙ ap (λ m. 32 * m) (length-take-le n cells le))

module _ (count : ℕ) (text : List ℕ) (capacity : ℕ) (waiting : IsWaiting count text capacity) where
  pub length-text : length text ≡ 32 * count + 1
  length-text =
      omega (arith, ap length waiting.spelled, length-append (flat_map spelling (spelled_cells count text)) (0 ∷ []), length-cells (spelled_cells count text), length-spelled count text)

  -- The text of the first cells.
  pub cut-first : (n : ℕ) → n ≤ count → take (32 * n) text ≡ flat_map spelling (take n (spelled_cells count text))
  cut-first n le =
      ap (take (32 * n)) waiting.spelled ∙ take-text n (spelled_cells count text) (0 ∷ []) (omega (arith, le, length-spelled count text))

  -- The text without its last byte.
  pub cut-all : take (32 * count) text ≡ flat_map spelling (spelled_cells count text)
  cut-all = cut-first count (omega arith) ∙ ap (flat_map spelling) (take_all count (spelled_cells count text) (omega (arith, length-spelled count text)))

  -- Without its last byte, the text leaves room for one more cell.
  pub room-left : (len cut : ℕ) → count ≤ most_waiting → len ≡ length text → cut + (len - 32 * count) ≡ len → 32 + cut < capacity
  room-left len cut few is kept = omega (arith, few, is, kept, length-text, waiting.room)

  -- The text of the first cells leaves room for a clear commit byte.
  pub room-behind : (n len most cut : ℕ) → n ≤ count → len ≡ length text → len ≤ most → cut + (len - 32 * n) ≡ len → cut < most
  room-behind n len most cut few is within kept = omega (arith, few, is, within, kept, length-text)

  -- One more cell, after the others.
  module _ (cell : Cell) (fits : IsCell newest cell) (text2 : List ℕ) (is : text2 ≡ (take (32 * count) text ++ spelling cell) ++ 0 ∷ []) where
    long-one : length (spelled_cells count text ++ cell ∷ []) ≡ count + 1
    long-one = omega (arith, length-append (spelled_cells count text) (cell ∷ []), length-spelled count text)

    all-fit-one : AllByRecursion (IsCell newest) (spelled_cells count text ++ cell ∷ [])
    all-fit-one = fit_more (spelled_cells count text) (cell ∷ []) waiting.fits (fits, tt)

    spelled-one : text2 ≡ flat_map spelling (spelled_cells count text ++ cell ∷ []) ++ 0 ∷ []
    spelled-one =
        is ∙ ap (λ l. (l ++ spelling cell) ++ 0 ∷ []) cut-all
        ∙ ap (λ l. (flat_map spelling (spelled_cells count text) ++ l) ++ 0 ∷ []) (sym (append-nil (spelling cell)))
        ∙ ap (λ l. l ++ 0 ∷ []) (sym (flat_map-append spelling (spelled_cells count text) (cell ∷ [])))

    pub waits-one : spelled_cells (count + 1) text2 ≡ spelled_cells count text ++ cell ∷ []
    waits-one = waits-as (spelled_cells count text ++ cell ∷ []) (count + 1) text2 long-one all-fit-one spelled-one

    pub keeps-one : (capacity2 : ℕ) → count ≤ most_waiting → capacity ≤ capacity2 → IsWaiting (count + 1) text2 capacity2
    keeps-one capacity2 few more = waits (spelled_cells count text ++ cell ∷ []) (count + 1) text2 long-one all-fit-one spelled-one capacity2 (omega (arith, few)) (omega (arith, waiting.room, more))

  -- The first cells alone.
  module _ (n : ℕ) (le : n ≤ count) (text2 : List ℕ) (is : text2 ≡ take (32 * n) text ++ 0 ∷ []) where
    long-first : length (take n (spelled_cells count text)) ≡ n
    long-first = length-take-le n (spelled_cells count text) (omega (arith, le, length-spelled count text))

    all-fit-first : AllByRecursion (IsCell newest) (take n (spelled_cells count text))
    all-fit-first = fit_first n (spelled_cells count text) waiting.fits

    spelled-first : text2 ≡ flat_map spelling (take n (spelled_cells count text)) ++ 0 ∷ []
    spelled-first = is ∙ ap (λ l. l ++ 0 ∷ []) (cut-first n le)

    pub waits-first : spelled_cells n text2 ≡ take n (spelled_cells count text)
    waits-first = waits-as (take n (spelled_cells count text)) n text2 long-first all-fit-first spelled-first

    pub keeps-first : (capacity2 : ℕ) → capacity2 ≡ capacity → IsWaiting n text2 capacity2
    keeps-first capacity2 same = waits (take n (spelled_cells count text)) n text2 long-first all-fit-first spelled-first capacity2 (omega (arith, le, waiting.few)) (omega (arith, waiting.room, same))

  -- These cells after the others.
  module _ (more : List Cell) (fits : AllByRecursion (IsCell newest) more) (text2 : List ℕ) (is : text2 ≡ take (32 * count) text ++ (flat_map spelling more ++ 0 ∷ [])) where
    long-both : length (spelled_cells count text ++ more) ≡ count + length more
    long-both = omega (arith, length-append (spelled_cells count text) more, length-spelled count text)

    all-fit-both : AllByRecursion (IsCell newest) (spelled_cells count text ++ more)
    all-fit-both = fit_more (spelled_cells count text) more waiting.fits fits

    spelled-both : text2 ≡ flat_map spelling (spelled_cells count text ++ more) ++ 0 ∷ []
    spelled-both =
        is ∙ ap (λ l. l ++ (flat_map spelling more ++ 0 ∷ [])) cut-all
        ∙ sym (append_assoc (flat_map spelling (spelled_cells count text)) (flat_map spelling more) (0 ∷ []))
        ∙ ap (λ l. l ++ 0 ∷ []) (sym (flat_map-append spelling (spelled_cells count text) more))

    pub waits-both : spelled_cells (count + length more) text2 ≡ spelled_cells count text ++ more
    waits-both = waits-as (spelled_cells count text ++ more) (count + length more) text2 long-both all-fit-both spelled-both

    pub keeps-both : (capacity2 : ℕ) → count + length more ≤ most_cells → 32 * (most_waiting + 1) + 1 ≤ capacity2 → IsWaiting (count + length more) text2 capacity2
    keeps-both capacity2 few room = waits (spelled_cells count text ++ more) (count + length more) text2 long-both all-fit-both spelled-both capacity2 few room

-- A call that must succeed did so.
pub ok-then : {A B E : Type 0} (r : Result B E) (a b : A) → IsOk r → (if is_ok r then a else b) ≡ a
ok-then (Ok x) a b is = refl
ok-then (Err e) a b is = absurd (true≢false (sym is))
