-- The text of a log with more cells.
use Rattle.std.proofs.Common.{◌≡◌, ◌≢◌, inl, inr, ℕ, ◌+◌, ◌*◌, List, [], ◌∷◌, ◌++◌, length, refl, sym, ◌∙◌, ap, arith, append_assoc, length-append}
use Rattle.std.proofs.lemmas.List.{append-nil}
use Rattle.std.proofs.lemmas.Grind.{flat_map-append}
use Rattle.std.proofs.lemmas.Bool.{cases_eq}
use Rattle.std.specs.List.{flat_map, AllByRecursion}
use Rattle.cell_format.specs.declared.cell.Cell.{Cell}
use Rattle.cell_format.specs.Spelling.{newest, IsCell, spelling, header_text}
use Rattle.cell_format.proofs.Decoded.{length-spelling}
use Rattle.split_log.specs.LogText.{log_text, front_of, IsLogText, IsLogOf, behind_first, HoldsCells, HoldsAllOrNone, IsStaged}
use Rattle.split_log.proofs.Torn.{marked}

pub length-header : (v w : ℕ) → length (header_text v w) ≡ 16
unfolding header_text
length-header v w = refl

pub length-cells : (cells : List Cell) → length (flat_map spelling cells) ≡ 32 * length cells
length-cells [] = refl
length-cells (c ∷ cells) = omega (arith, length-append (spelling c) (flat_map spelling cells), length-spelling c, length-cells cells)

pub length-front_of : (v w : ℕ) (cells : List Cell) → length (front_of v w cells) ≡ 16 + 32 * length cells
length-front_of v w cells = omega (arith, length-append (header_text v w) (flat_map spelling cells), length-header v w, length-cells cells)

pub length-log : (count : ℕ) (bytes : List ℕ) → IsLogOf count bytes → length bytes ≡ 16 + 32 * count + 1
length-log count bytes of =
    omega (arith, ap length of.text.text, length-append (front_of newest of.width of.cells) (of.text.commit_byte ∷ []), length-front_of newest of.width of.cells, of.count_is)

pub fit_more : (cells more : List Cell) → AllByRecursion (IsCell newest) cells → AllByRecursion (IsCell newest) more → AllByRecursion (IsCell newest) (cells ++ more)
fit_more [] more all fit = fit
fit_more (c ∷ cells) more all fit = (all.0, fit_more cells more all.1 fit)

-- After a set commit byte it is the text of the cells, and a clear commit byte.
pub behind_first-text : (cell : Cell) (cells : List Cell) → 1 ∷ behind_first (cell ∷ cells) ≡ flat_map spelling (cell ∷ cells) ++ 0 ∷ []
behind_first-text cell cells = sym (append_assoc (spelling cell) (flat_map spelling cells) (0 ∷ []))

text_more : (w : ℕ) (cells more : List Cell) → more ≢ [] → marked (front_of newest w cells) 1 (behind_first more) ≡ log_text newest w (cells ++ more) 0
text_more w cells [] some = absurd (some refl)
text_more w cells (cell ∷ others) some =
    ap (λ (l : List ℕ). front_of newest w cells ++ l) (behind_first-text cell others)
    ∙ sym (append_assoc (front_of newest w cells) (flat_map spelling (cell ∷ others)) (0 ∷ []))
    ∙ ap (λ (l : List ℕ). l ++ 0 ∷ []) (append_assoc (header_text newest w) (flat_map spelling cells) (flat_map spelling (cell ∷ others)))
    ∙ ap (λ (l : List ℕ). header_text newest w ++ l ++ 0 ∷ []) (sym (flat_map-append spelling cells (cell ∷ others)))

-- If their commit byte is set, the cells after the others count.
pub text_of_more : (w : ℕ) (cells more : List Cell) (bytes : List ℕ) → AllByRecursion (IsCell newest) cells → AllByRecursion (IsCell newest) more → more ≢ []
    → bytes ≡ marked (front_of newest w cells) 1 (behind_first more) → IsLogText newest w (cells ++ more) bytes
text_of_more w cells more bytes all fit some e =
    record { cells_fit = fit_more cells more all fit; commit_byte = 0; clear = λ z. cc z; text = e ∙ text_more w cells more some }

-- The bytes hold the cells, whatever follows the text.
pub holds_front : (w : ℕ) (cells : List Cell) (file rest c : List ℕ) → IsLogText newest w cells file → c ≡ file ++ rest → HoldsCells newest w cells c
holds_front w cells file rest c text e = record { front = file; rest = rest; parts = e; text = text }

-- With more cells after them, the bytes hold all of these or none, whatever the commit byte is.
pub staged-either : (w : ℕ) (cells more : List Cell) (c : List ℕ) → AllByRecursion (IsCell newest) cells → AllByRecursion (IsCell newest) more → more ≢ []
    → IsStaged w cells more c → HoldsAllOrNone w cells more c
staged-either w cells more c all fit some staged = elim (cases_eq staged.commit_byte 1) [
  | inl set ↦
      let whole : c ≡ marked (front_of newest w cells) 1 (behind_first more) = staged.text ∙ ap (λ mark. marked (front_of newest w cells) mark (behind_first more)) set in
      inr (holds_front w (cells ++ more) c [] c (text_of_more w cells more c all fit some whole) (sym (append-nil c)))
  | inr clear ↦
      inl (holds_front w cells (marked (front_of newest w cells) staged.commit_byte []) (behind_first more) c (record { cells_fit = all; commit_byte = staged.commit_byte; clear = clear; text = refl })
      (staged.text ∙ sym (append_assoc (front_of newest w cells) (staged.commit_byte ∷ []) (behind_first more))))
]
