-- What a crash leaves while cells are written after the commit byte of an empty log.
use Rattle.std.proofs.Common.{◌≡◌, ℕ, ◌+◌, ◌*◌, ◌≤◌, List, [], ◌∷◌, ◌++◌, length, take, drop, Some, Option, Result, refl, sym, ◌∙◌, ap, arith, append_assoc, length-append, take-append-drop}
use Rattle.std.proofs.lemmas.List.{append-nil, take_at, take_all, drop_all, take-take}
use Rattle.std.specs.List.{flat_map}
use Rattle.disk_trait.specs.declared.disk.DiskFault.{DiskFault}
use Rattle.disk_trait.specs.Drive.{Drive, SameFile, KeepsLaws, Writes, Torn, Holds, MadeWell}
use Rattle.disk_trait.specs.Moments.{LeavesOnly, LeavesNow}
use Rattle.disk_trait.proofs.Stretches.{goes_on}
use Rattle.disk_trait.proofs.Told.{told_before}
use Rattle.cell_format.specs.declared.cell.Cell.{Cell}
use Rattle.cell_format.specs.Spelling.{newest, body_of, spelling}
use Rattle.cell_format.proofs.Decoded.{length-spelling}
use Rattle.split_log.specs.LogText.{front_of, behind_first, HoldsCells, IsLog, IsLogText}
use Rattle.split_log.specs.Commit.{IsUncommitted}
use Rattle.split_log.proofs.Cells.{length-front_of, length-cells, holds_front}
use Rattle.split_log.proofs.Kept.{leaves_now}
use Rattle.split_log.proofs.Placing.{before_all}
use Rattle.recovery.proofs.CallLemmas.{well-none, well-then}
use Rattle.log_compact.specs.Staging.{AreCells, staged, IsStaging, IsEmpty}

-- An empty log has 17 bytes.
length-empty : (w : ℕ) (bytes : List ℕ) → IsLogText newest w [] bytes → length bytes ≡ 17
length-empty w bytes text = omega (arith, ap length text.text, length-append (front_of newest w []) (text.commit_byte ∷ []), length-front_of newest w [])

-- A write after the first commit byte leaves no cell, however it is torn.
torn-alone : (w at n : ℕ) (f c : List ℕ) → 17 ≤ at → HoldsCells newest w [] f → Torn at n f c → HoldsCells newest w [] c
torn-alone w at n f c far holds torn =
    let long : length holds.front ≡ 17 = length-empty w holds.front holds.text in
    let cut : (l : List ℕ) → take 17 (take at l) ≡ take 17 l = λ l. take-take 17 at l far in
    let same : take 17 c ≡ take 17 f = sym (cut c) ∙ ap (take 17) torn.before ∙ cut f in
    let front : take 17 c ≡ holds.front = same ∙ ap (take 17) holds.parts ∙ take_at holds.front holds.rest 17 long in
    holds_front w [] holds.front (drop 17 c) c holds.text (sym (take-append-drop 17 c) ∙ ap (λ (l : List ℕ). l ++ drop 17 c) front)

-- A write at the end of a file.
held-past : (xs piece c : List ℕ) (at : ℕ) → length xs ≡ at → Holds xs at piece c → c ≡ xs ++ piece
held-past xs piece c at long holds =
    holds
    ∙ ap (λ (l : List ℕ). l ++ piece ++ drop (at + length piece) xs) (take_all at xs (omega (arith, long)))
    ∙ ap (λ (l : List ℕ). xs ++ piece ++ l) (drop_all (at + length piece) xs (omega (arith, long)))
    ∙ append-nil (xs ++ piece)

-- The number of bytes after the first commit byte.
pub length-behind_first : (cell : Cell) (cells : List Cell) → length (behind_first (cell ∷ cells)) ≡ 32 + 32 * length cells
length-behind_first cell cells =
    omega (arith, length-append (body_of cell) (flat_map spelling cells ++ 0 ∷ []), length-append (flat_map spelling cells) (0 ∷ []), length-cells cells, length-spelling cell)

-- A stretch of writes. The last one is torn or done.
module _ (start now next : Drive) (laws : KeepsLaws now) (at : ℕ) (piece : List ℕ) (result : Result (Unit {0}) DiskFault) (far : 17 ≤ at) (writes : Writes now next at piece result) where
  pub still-alone : (w : ℕ) → LeavesOnly start now (HoldsCells newest w []) → LeavesOnly start next (HoldsCells newest w [])
  still-alone w alone =
      let here : LeavesNow now (HoldsCells newest w []) = λ c left. alone.each c (laws.counts_now start.clock c alone.later left) in
      goes_on start now next (HoldsCells newest w []) alone writes.time
      (λ c left. let from = writes.crash c left in torn-alone w at (length piece) from.0 c far (here from.0 from.1) from.2)

  some_same : (a b : List ℕ) → ◌≡◌ {A = Option (List ℕ)} (Some a) (Some b) → a ≡ b
  some_same a b e = cc e

  module _ (done : (xs : List ℕ) → now.bytes ≡ Some xs → (ys : List ℕ) × (next.bytes ≡ Some ys) × Holds xs at piece ys)
      (whole : (xs : List ℕ) → now.bytes ≡ Some xs → length xs ≡ at) where
    more-bytes : (w mark : ℕ) (tail : List ℕ) → now.bytes ≡ Some (staged w mark tail) → next.bytes ≡ Some (staged w mark (tail ++ piece))
    more-bytes w mark tail told =
        let (ys, there, holds) = done (staged w mark tail) told in
        there ∙ ap Some (held-past (staged w mark tail) piece ys at (whole (staged w mark tail) told) holds ∙ append_assoc (front_of newest w []) (mark ∷ tail) piece)

    longer : (ys : List ℕ) → next.bytes ≡ Some ys → length ys ≡ at + length piece
    longer ys told =
        let (xs, before) = told_before now.bytes next.bytes ys writes.told told in
        let (zs, there, holds) = done xs before in
        omega (arith, ap length (some_same ys zs (sym told ∙ there) ∙ held-past xs piece zs at (whole xs before) holds), length-append xs piece, whole xs before)

    -- One more piece was written.
    pub staging-more : (all rest left : List Cell) (staging : IsStaging all rest at start now) → behind_first rest ≡ piece ++ behind_first left → (AreCells left → AreCells rest) → next.faults ≡ now.faults
        → MadeWell 1 now next → SameFile now next
        → IsStaging all left (at + length piece) start next
    staging-more all rest left staging parts fits same made file = record {
      sent = staging.sent ++ piece;
      parts = staging.parts ∙ ap (λ (l : List ℕ). staging.sent ++ l) parts ∙ sym (append_assoc staging.sent piece (behind_first left));
      at_is = omega (arith, staging.at_is, length-append staging.sent piece);
      whole = longer;
      bytes = λ w log. more-bytes w log.text.commit_byte staging.sent (staging.bytes w log);
      alone = λ w log. still-alone w (staging.alone w log);
      fits = λ ok. staging.fits (fits ok);
      told = writes.told ∙ staging.told;
      same = same ∙ staging.same;
      calls = well-then start now next staging.calls (record { count = 1; calls = made });
      file = λ seen told. staging.file seen (file seen told);
    }

-- Before the first piece nothing was written.
pub staging-none : (all : List Cell) (start : Drive) → KeepsLaws start → IsEmpty start → IsStaging all all 17 start start
staging-none all start laws empty = record {
  sent = [];
  parts = refl;
  at_is = refl;
  whole = empty;
  bytes = λ w log. log.told ∙ ap Some log.text.text;
  alone = λ w log. before_all w [] start laws log;
  fits = λ ok. ok;
  told = refl;
  same = refl;
  calls = well-none start start (λ all told. told);
  file = λ seen told. told;
}

-- After the last piece everything was written.
pub staged-all : (cell : Cell) (cells : List Cell) (at : ℕ) (start now : Drive) → KeepsLaws now → IsStaging (cell ∷ cells) [] at start now → (w : ℕ) → IsLog w [] start
    → IsUncommitted w 16 [] (cell ∷ cells) now
staged-all cell cells at start now laws staging w log = record {
  cells_fit = tt;
  more_fit = staging.fits tt;
  some = λ e. cc e;
  at_is = refl;
  bytes = staged w log.text.commit_byte staging.sent;
  told = staging.bytes w log;
  staged = record {
    commit_byte = log.text.commit_byte;
    text = ap (λ (l : List ℕ). staged w log.text.commit_byte l) (sym (append-nil staging.sent) ∙ sym staging.parts);
  };
  alone = leaves_now start now (HoldsCells newest w []) laws (staging.alone w log);
}
