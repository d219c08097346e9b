-- What an append of many cells writes, and what holds if there are no cells.
use Rattle.std.proofs.Common.{◌≡◌, ◌≢◌, ℕ, ◌*◌, ◌-◌, ◌≤◌, List, [], ◌∷◌, ◌++◌, length, take, drop, Result, Err, refl, sym, ◌∙◌, ap, subst, arith, length-append}
use Rattle.std.proofs.lemmas.List.{append-nil, take_all, nil_from_length}
use Rattle.std.specs.List.{flat_map, AllByRecursion}
use Rattle.disk_trait.specs.Drive.{Drive, MadeWell}
use Rattle.disk_trait.proofs.Calls.{made-none}
use Rattle.cell_format.specs.declared.cell.Cell.{Cell}
use Rattle.cell_format.specs.Spelling.{newest, IsCell, spelling}
use Rattle.split_log.specs.declared.log.AppendAllFault.{AppendAllFault}
use Rattle.split_log.specs.declared.log.AppendAllFault.TheVariants.{Disk}
use Rattle.split_log.specs.LogText.{IsLog, behind_first}
use Rattle.split_log.specs.Append.{IsReady, calls_to_add}
use Rattle.split_log.proofs.Cells.{behind_first-text, length-cells}

-- The text without its first byte.
abbrev pub behind_one : List ℕ → List ℕ
behind_one text = take (length text - 1) (drop 1 text)

pub some-cells : (more : List Cell) → (length more ≡ 0 → ⊥) → more ≢ []
some-cells more some e = some (ap length e)

-- The text of cells without its first commit byte is the text after that byte.
pub behind-text : (more : List Cell) (text : List ℕ) → more ≢ [] → text ≡ flat_map spelling more ++ 0 ∷ [] → behind_one text ≡ behind_first more
behind-text [] text some is = absurd (some refl)
behind-text (cell ∷ others) text some is =
    let less : length (1 ∷ behind_first (cell ∷ others)) - 1 ≡ length (behind_first (cell ∷ others)) = omega arith in
    ap behind_one (is ∙ sym (behind_first-text cell others))
    ∙ ap (λ n. take n (behind_first (cell ∷ others))) less
    ∙ take_all (length (behind_first (cell ∷ others))) (behind_first (cell ∷ others)) (omega arith)

-- The length of what is written.
pub length-behind : (more : List Cell) (text : List ℕ) → more ≢ [] → text ≡ flat_map spelling more ++ 0 ∷ [] → length (behind_one text) ≤ 32 * length more
length-behind [] text some is = absurd (some refl)
length-behind (cell ∷ others) text some is =
    let b : length (behind_one text) ≡ length (behind_first (cell ∷ others)) = ap length (behind-text (cell ∷ others) text some is) in
    let l : length (1 ∷ behind_first (cell ∷ others)) ≡ length (flat_map spelling (cell ∷ others) ++ 0 ∷ []) = ap length (behind_first-text cell others) in
    omega (arith, b, l, length-append (flat_map spelling (cell ∷ others)) (0 ∷ []), length-cells (cell ∷ others))

-- The piece may be written after the log.
pub ready-for : (w : ℕ) (before more : List Cell) (text : List ℕ) (drive : Drive) → IsLog w before drive → AllByRecursion (IsCell newest) more → (length more ≡ 0 → ⊥)
    → text ≡ flat_map spelling more ++ 0 ∷ [] → IsReady w before more (behind_one text) drive
ready-for w before more text drive log fits some is =
    let any = some-cells more some in
    record { log = log; fits = fits; some = any; piece_is = behind-text more text any is }

pub four-calls : (more : List Cell) (old new : Drive) → (length more ≡ 0 → ⊥) → MadeWell 4 old new → MadeWell (calls_to_add more) old new
four-calls [] old new some made = absurd (some refl)
four-calls (cell ∷ others) old new some made = made

module _ (more : List Cell) (none : length more ≡ 0) (drive : Drive) where
  -- An empty list takes no call and leaves the log unchanged.
  pub no-calls : MadeWell (calls_to_add more) drive drive
  no-calls = subst (λ (l : List Cell). MadeWell (calls_to_add l) drive drive) (sym (nil_from_length more none)) (made-none drive)

  pub none-added : (w : ℕ) (cells : List Cell) → IsLog w cells drive → IsLog w (cells ++ more) drive
  none-added w cells log = subst (λ (l : List Cell). IsLog w (cells ++ l) drive) (sym (nil_from_length more none)) (subst (λ (l : List Cell). IsLog w l drive) (sym (append-nil cells)) log)

pub same_first : (a b : ℕ) → ◌≡◌ {A = Result (Unit {0}) AppendAllFault} (Err (Disk a)) (Err (Disk b)) → b ≡ a
same_first a b e = cc e
