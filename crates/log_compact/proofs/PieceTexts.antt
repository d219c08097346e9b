-- What a piece of cells holds, and what is left of their text.
use Rattle.std.proofs.Common.{◌≡◌, ℕ, ◌+◌, ◌*◌, ◌-◌, ◌<◌, List, [], ◌∷◌, ◌++◌, length, take, sym, ◌∙◌, ap, arith, append_assoc, length-append}
use Rattle.std.proofs.lemmas.List.{append-nil}
use Rattle.std.proofs.lemmas.Slice.{take-put_mid}
use borrow.Rule.Slice.PartMut.{put_mid}
use Rattle.std.specs.List.{flat_map}
use Rattle.cell_format.specs.declared.cell.Cell.{Cell}
use Rattle.cell_format.specs.Spelling.{body_of, spelling}
use Rattle.cell_format.proofs.Decoded.{length-spelling}
use Rattle.split_log.specs.LogText.{behind_first}

-- The set commit byte of the next cell follows the bytes of the first cell.
pub behind_first-next : (cell next : Cell) (cells : List Cell) → behind_first (cell ∷ next ∷ cells) ≡ (body_of cell ++ 1 ∷ []) ++ behind_first (next ∷ cells)
behind_first-next cell next cells =
    ap (λ (l : List ℕ). body_of cell ++ l) (append_assoc (spelling next) (flat_map spelling cells) (0 ∷ []))
    ∙ sym (append_assoc (body_of cell) (1 ∷ []) (behind_first (next ∷ cells)))

length-part : (cell : Cell) (byte : ℕ) → length (body_of cell ++ byte ∷ []) ≡ 32
length-part cell byte = omega (arith, length-append (body_of cell) (byte ∷ []), length-spelling cell)

-- A piece with one more cell.
module _ (all piece new : List ℕ) (place : ℕ) (cell : Cell) (cells : List Cell) (long : length piece ≡ 65536) (within : place < 2048)
    (so_far : all ≡ take (32 * place) piece ++ behind_first (cell ∷ cells)) where
  taken : (byte n : ℕ) → new ≡ body_of cell ++ byte ∷ [] → n ≡ 32 * place + 32
      → take n (put_mid (32 * place) (32 * place + 32 - 32 * place) piece new) ≡ take (32 * place) piece ++ (body_of cell ++ byte ∷ [])
  taken byte n is e =
      take-put_mid (32 * place) (32 * place + 32 - 32 * place) piece new n (omega (arith, e, ap length is, length-part cell byte)) (omega (arith, long, within))
      ∙ ap (λ (l : List ℕ). take (32 * place) piece ++ l) is

  pub piece-more : (next : Cell) (rest : List Cell) → cells ≡ next ∷ rest → new ≡ body_of cell ++ 1 ∷ []
      → all ≡ take (32 * (place + 1)) (put_mid (32 * place) (32 * place + 32 - 32 * place) piece new) ++ behind_first (next ∷ rest)
  piece-more next rest are is =
      so_far
      ∙ ap (λ (l : List Cell). take (32 * place) piece ++ behind_first (cell ∷ l)) are
      ∙ ap (λ (l : List ℕ). take (32 * place) piece ++ l) (behind_first-next cell next rest)
      ∙ sym (append_assoc (take (32 * place) piece) (body_of cell ++ 1 ∷ []) (behind_first (next ∷ rest)))
      ∙ ap (λ (l : List ℕ). l ++ behind_first (next ∷ rest)) (sym (taken 1 (32 * (place + 1)) is (omega arith)))

  pub piece-last : cells ≡ [] → new ≡ body_of cell ++ 0 ∷ [] → all ≡ take (32 * place + 32) (put_mid (32 * place) (32 * place + 32 - 32 * place) piece new) ++ []
  piece-last none is =
      so_far
      ∙ ap (λ (l : List Cell). take (32 * place) piece ++ behind_first (cell ∷ l)) none
      ∙ sym (taken 0 (32 * place + 32) is (omega arith))
      ∙ sym (append-nil (take (32 * place + 32) (put_mid (32 * place) (32 * place + 32 - 32 * place) piece new)))
