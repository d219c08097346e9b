-- What a crash leaves while the first commit byte of a log is cleared, and while the bytes after it are cut off.
use Rattle.std.proofs.Common.{◌≡◌, ◌≢◌, inl, inr, ℕ, ◌≤◌, List, [], ◌∷◌, ◌++◌, length, get_or, take, drop, Some, Option, Result, is_some, refl, sym, ◌∙◌, ap, subst, arith, append_assoc, length-append, length-take, take-append-drop}
use Rattle.std.proofs.lemmas.List.{append-nil, take_at}
use Rattle.std.proofs.lemmas.Bool.{cases_eq}
use Rattle.std.specs.List.{flat_map}
use Rattle.disk_trait.specs.declared.disk.DiskFault.{DiskFault}
use Rattle.disk_trait.specs.Drive.{Drive, KeepsLaws, Writes, Cuts, Syncs, Torn, Holds, Shortened, Only}
use Rattle.disk_trait.specs.Moments.{LeavesOnly, LeavesNow}
use Rattle.disk_trait.proofs.Stretches.{started, goes_on}
use Rattle.disk_trait.proofs.Told.{told_before}
use Rattle.cell_format.specs.declared.cell.Cell.{Cell}
use Rattle.cell_format.specs.Spelling.{newest, spelling, body_of, header_text}
use Rattle.split_log.specs.LogText.{front_of, IsLogText, IsLogOf, HoldsCells, HoldsAllOrNone, IsLog}
use Rattle.split_log.specs.LogView.{KeepsLog}
use Rattle.log_compact.specs.Clearing.{Clears, KeepsOrClears}
use Rattle.split_log.proofs.Torn.{marked, torn_mark, written_mark}
use Rattle.split_log.proofs.Cells.{length-front_of, length-log, holds_front}

-- The text before the first commit byte.
abbrev head : ℕ → List ℕ
head w = front_of newest w []

long : (w : ℕ) → length (head w) ≡ 16
long w = length-front_of newest w []

-- The text of cells is their head, a commit byte, and the rest. If there are cells, that byte is set.
record Begins (w : ℕ) (cells : List Cell) (bytes : List ℕ) : Type 0 where
  first : ℕ
  rest : List ℕ
  parts : bytes ≡ marked (head w) first rest
  set : cells ≢ [] → first ≡ 1

begins : (w : ℕ) (cells : List Cell) (bytes : List ℕ) → IsLogText newest w cells bytes → Begins w cells bytes
begins w [] bytes text = record { first = text.commit_byte; rest = []; parts = text.text; set = λ some. absurd (some refl) }
begins w (c ∷ cells) bytes text =
    let rest : List ℕ = body_of c ++ (flat_map spelling cells ++ text.commit_byte ∷ []) in
    record {
      first = 1;
      rest = rest;
      parts = text.text
          ∙ append_assoc (header_text newest w) (flat_map spelling (c ∷ cells)) (text.commit_byte ∷ [])
          ∙ ap (λ (l : List ℕ). header_text newest w ++ l) (append_assoc (spelling c) (flat_map spelling cells) (text.commit_byte ∷ []))
          ∙ ap (λ (l : List ℕ). l ++ 1 ∷ rest) (sym (append-nil (header_text newest w)));
      set = λ some. refl;
    }

-- After a clear commit byte there are no cells, whatever bytes follow.
empty_text : (w mark : ℕ) → mark ≢ 1 → IsLogText newest w [] (marked (head w) mark [])
empty_text w mark clear = record { cells_fit = tt; commit_byte = mark; clear = clear; text = refl }

no_cells : (w mark : ℕ) (rest c : List ℕ) → mark ≢ 1 → c ≡ marked (head w) mark rest → HoldsCells newest w [] c
no_cells w mark rest c clear e = holds_front w [] (marked (head w) mark []) rest c (empty_text w mark clear) (e ∙ sym (append_assoc (head w) (mark ∷ []) rest))

zero_clear : ◌≢◌ {A = ℕ} 0 1
zero_clear e = cc e

-- A torn write of the first commit byte leaves all cells or none.
torn_first : (w : ℕ) (cells : List Cell) (bytes c : List ℕ) → cells ≢ [] → IsLogText newest w cells bytes → Torn 16 1 bytes c → HoldsAllOrNone w [] cells c
torn_first w cells bytes c some text torn =
    let b = begins w cells bytes text in
    let is : c ≡ marked (head w) (get_or c 16 0) b.rest = torn_mark (head w) 16 (long w) b.first b.rest c (subst (λ (f : List ℕ). Torn 16 1 f c) b.parts torn) in
    elim (cases_eq (get_or c 16 0) 1) [
      | inl set ↦
          let same : c ≡ bytes = is ∙ ap (λ mark. marked (head w) mark b.rest) (set ∙ sym (b.set some)) ∙ sym b.parts in
          inr (holds_front w cells bytes [] c text (same ∙ sym (append-nil bytes)))
      | inr clear ↦ inl (no_cells w (get_or c 16 0) b.rest c clear is)
    ]

-- The first 17 bytes end with that byte.
first_bytes : (w mark : ℕ) (rest : List ℕ) → take 17 (marked (head w) mark rest) ≡ marked (head w) mark []
first_bytes w mark rest =
    ap (take 17) (sym (append_assoc (head w) (mark ∷ []) rest))
    ∙ take_at (marked (head w) mark []) rest 17 (omega (arith, length-append (head w) (mark ∷ []), long w))

-- A cut after a clear commit byte leaves no cells, however far it came.
cut_short : (w : ℕ) (rest c : List ℕ) → Shortened 17 (marked (head w) 0 rest) c → HoldsCells newest w [] c
cut_short w rest c cut =
    holds_front w [] (marked (head w) 0 []) (drop 17 c) c (empty_text w 0 zero_clear)
    (sym (take-append-drop 17 c) ∙ ap (λ (l : List ℕ). l ++ drop 17 c) (cut.before ∙ first_bytes w 0 rest))

-- Each of the four calls.
module _ (w : ℕ) (cells : List Cell) (d0 : Drive) (log : IsLog w cells d0) (laws : KeepsLaws d0) (some : cells ≢ []) where
  pub still_all : LeavesOnly d0 d0 (HoldsAllOrNone w [] cells)
  still_all = started d0 (HoldsAllOrNone w [] cells) laws (λ c left. inr (holds_front w cells log.bytes [] c log.text (log.durable c left ∙ sym (append-nil log.bytes))))

  module _ (d1 : Drive) (result1 : Result (Unit {0}) DiskFault) (first : Writes d0 d1 16 (0 ∷ []) result1) where
    written_now : LeavesNow d1 (HoldsAllOrNone w [] cells)
    written_now c left =
        let from = first.crash c left in
        torn_first w cells log.bytes c some log.text (subst (λ (f : List ℕ). Torn 16 1 f c) (log.durable from.0 from.1) from.2)

    pub written : LeavesOnly d0 d1 (HoldsAllOrNone w [] cells)
    written = goes_on d0 d0 d1 (HoldsAllOrNone w [] cells) still_all first.time written_now

    module _ (d2 : Drive) (result2 : Result (Unit {0}) DiskFault) (second : Syncs d1 d2 result2) where
      pub synced : LeavesOnly d0 d2 (HoldsAllOrNone w [] cells)
      synced = goes_on d0 d1 d2 (HoldsAllOrNone w [] cells) written second.time (λ c left. written_now c (second.crash c left))

-- What the file holds, if the calls went well.
module _ (w : ℕ) (cells : List Cell) (d0 : Drive) (log : IsLog w cells d0) (d1 : Drive)
    (done1 : (xs : List ℕ) → d0.bytes ≡ Some xs → (ys : List ℕ) × (d1.bytes ≡ Some ys) × Holds xs 16 (0 ∷ []) ys)
    (d2 : Drive) (kept : d2.bytes ≡ d1.bytes) (done2 : (xs : List ℕ) → d1.bytes ≡ Some xs → Only xs d2.images) where
  b : Begins w cells log.bytes
  b = begins w cells log.bytes log.text

  told1 : d1.bytes ≡ Some (marked (head w) 0 b.rest)
  told1 =
      let (ys, told, holds) = done1 log.bytes log.told in
      told ∙ ap Some (written_mark (head w) 16 (long w) b.first 0 b.rest ys (subst (λ (f : List ℕ). Holds f 16 (0 ∷ []) ys) b.parts holds))

  only2 : Only (marked (head w) 0 b.rest) d2.images
  only2 = done2 (marked (head w) 0 b.rest) told1

  module _ (d3 : Drive) (result3 : Result (Unit {0}) DiskFault) (third : Cuts d2 d3 17 result3) where
    -- From the cut on no crash leaves a cell.
    cut_now : LeavesNow d3 (HoldsCells newest w [])
    cut_now c left =
        let from = third.crash c left in
        cut_short w b.rest c (subst (λ (f : List ℕ). Shortened 17 f c) (only2 from.0 from.1) from.2)

    module _ (so_far : LeavesOnly d0 d2 (HoldsAllOrNone w [] cells)) where
      pub cut : LeavesOnly d0 d3 (HoldsAllOrNone w [] cells)
      cut = goes_on d0 d2 d3 (HoldsAllOrNone w [] cells) so_far third.time (λ c left. inl (cut_now c left))

      pub all_done : (d4 : Drive) (result4 : Result (Unit {0}) DiskFault) → Syncs d3 d4 result4 → LeavesOnly d0 d4 (HoldsAllOrNone w [] cells)
      all_done d4 result4 fourth = goes_on d0 d3 d4 (HoldsAllOrNone w [] cells) cut fourth.time (λ c left. inl (cut_now c (fourth.crash c left)))

  -- After all four calls the log has no cells.
  pub cleared : (d3 d4 : Drive) → ((xs : List ℕ) → d2.bytes ≡ Some xs → d3.bytes ≡ Some (take 17 xs)) → d4.bytes ≡ d3.bytes → ((xs : List ℕ) → d3.bytes ≡ Some xs → Only xs d4.images)
      → IsLog w [] d4
  cleared d3 d4 done3 kept4 done4 =
      let told3 : d3.bytes ≡ Some (marked (head w) 0 []) = done3 (marked (head w) 0 b.rest) (kept ∙ told1) ∙ ap Some (first_bytes w 0 b.rest) in
      record { bytes = marked (head w) 0 []; told = kept4 ∙ told3; text = empty_text w 0 zero_clear; durable = done4 (marked (head w) 0 []) told3 }

-- The write keeps the length of a file that has 17 bytes.
some_same : (a b : List ℕ) → ◌≡◌ {A = Option (List ℕ)} (Some a) (Some b) → a ≡ b
some_same a b e = cc e

pub still_within : (d0 d1 : Drive) → is_some d1.bytes ≡ is_some d0.bytes → ((xs : List ℕ) → d0.bytes ≡ Some xs → 17 ≤ length xs)
    → ((xs : List ℕ) → d0.bytes ≡ Some xs → (ys : List ℕ) × (d1.bytes ≡ Some ys) × Holds xs 16 (0 ∷ []) ys) → (ys : List ℕ) → d1.bytes ≡ Some ys → 17 ≤ length ys
still_within d0 d1 told within done ys now =
    let (xs, before) = told_before d0.bytes d1.bytes ys told now in
    let (zs, there, holds) = done xs before in
    omega (
      arith,
      ap length (some_same ys zs (sym now ∙ there) ∙ holds),
      length-append (take 16 xs ++ 0 ∷ []) (drop 17 xs),
      length-append (take 16 xs) (0 ∷ []),
      length-take 16 xs,
      within xs before,
    )

-- A log of some cells has them, and more than 17 bytes.
log-within : (count : ℕ) (drive : Drive) → KeepsLog count drive → (xs : List ℕ) → drive.bytes ≡ Some xs → 17 ≤ length xs
log-within count drive kept xs told = omega (arith, length-log count xs (kept.text xs told))

log-some : (count : ℕ) (drive : Drive) → KeepsLog count drive → (count ≡ 0 → ⊥) → (w : ℕ) (cells : List Cell) → IsLog w cells drive → cells ≢ []
log-some count drive kept some w cells log none =
    let is : IsLogOf 0 log.bytes = record { width = w; cells = cells; count_is = ap length none; text = log.text } in
    some (omega (arith, length-log 0 log.bytes is, length-log count log.bytes (kept.text log.bytes log.told)))

-- A log of no cells has none.
log-none : (count : ℕ) (drive : Drive) → KeepsLog count drive → count ≡ 0 → (w : ℕ) (cells : List Cell) → IsLog w cells drive → cells ≡ []
log-none count drive kept none w [] log = refl
log-none count drive kept none w (c ∷ cells) log =
    let is : IsLogOf (length (c ∷ cells)) log.bytes = record { width = w; cells = c ∷ cells; count_is = refl; text = log.text } in
    absurd (omega (arith, length-log (length (c ∷ cells)) log.bytes is, length-log count log.bytes (kept.text log.bytes log.told), none))

-- A log that is given back, and cleared or left unchanged.
module _ {D : Type 0} (drive : D → Drive) (disk back : D) (same : back ≡ disk) (count : ℕ) (kept : KeepsLog count (drive disk)) where
  pub back-within : (xs : List ℕ) → (drive back).bytes ≡ Some xs → 17 ≤ length xs
  back-within xs told = log-within count (drive disk) kept xs (subst (λ (d : D). (drive d).bytes ≡ Some xs) same told)

  pub some-clears : (count ≡ 0 → ⊥) → (new : Drive)
      → ((w : ℕ) (cells : List Cell) → cells ≢ [] → IsLog w cells (drive back) → LeavesOnly (drive back) new (HoldsAllOrNone w [] cells)) → KeepsOrClears (drive disk) new
  some-clears some new leaves w cells log =
      subst (λ (d : D). LeavesOnly (drive d) new (HoldsAllOrNone w [] cells)) same
      (leaves w cells (log-some count (drive disk) kept some w cells log) (subst (λ (d : D). IsLog w cells (drive d)) (sym same) log))

  pub none-clears : count ≡ 0 → Clears count (drive disk) (drive back)
  none-clears none =
      subst (λ (d : D). Clears count (drive disk) (drive d)) (sym same)
      (record {
        log = λ w cells log. subst (λ (l : List Cell). IsLog w l (drive disk)) (log-none count (drive disk) kept none w cells log) log;
        synced = kept.synced;
        told = refl;
        same = refl;
        calls = inl (none, λ all told. told);
        file = λ all told. told;
      })
