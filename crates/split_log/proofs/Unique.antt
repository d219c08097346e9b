-- Bytes hold the cells of at most one list.
use Rattle.std.proofs.Common.{◌≡◌, ◌≢◌, ℕ, List, [], ◌∷◌, ◌++◌, get_or, take, drop, refl, sym, ◌∙◌, ap, append_assoc}
use Rattle.std.proofs.lemmas.List.{take_at, drop_at}
use Rattle.std.specs.List.{flat_map, AllByRecursion}
use Rattle.cell_format.specs.declared.cell.Cell.{Cell}
use Rattle.cell_format.specs.Spelling.{newest, IsCell, spelling, header_text}
use Rattle.cell_format.proofs.Decoded.{same_cell, fits-newest, length-spelling}
use Rattle.split_log.proofs.Cells.{length-header}
use Rattle.split_log.specs.LogText.{HoldsCells}

-- The text of cells, then a commit byte, then any bytes.
abbrev before : List Cell → ℕ → List ℕ → List ℕ
before cells mark rest = flat_map spelling cells ++ mark ∷ rest

front : (c : Cell) (cells : List Cell) (mark : ℕ) (rest : List ℕ) → before (c ∷ cells) mark rest ≡ spelling c ++ before cells mark rest
front c cells mark rest = append_assoc (spelling c) (flat_map spelling cells) (mark ∷ rest)

same_cells : (first second : List Cell) (g h : ℕ) (r s : List ℕ) → AllByRecursion (IsCell newest) first → AllByRecursion (IsCell newest) second → g ≢ 1 → h ≢ 1 → before first g r ≡ before second h s → first ≡ second
same_cells [] [] g h r s af as_ ng nh e = refl
same_cells [] (d ∷ second) g h r s af as_ ng nh e = absurd (ng (ap (λ l. get_or l 0 0) e))
same_cells (c ∷ first) [] g h r s af as_ ng nh e = absurd (nh (sym (ap (λ l. get_or l 0 0) e)))
same_cells (c ∷ first) (d ∷ second) g h r s af as_ ng nh e =
    let parts : spelling c ++ before first g r ≡ spelling d ++ before second h s = sym (front c first g r) ∙ e ∙ front d second h s in
    let heads : spelling c ≡ spelling d =
    sym (take_at (spelling c) (before first g r) 32 (length-spelling c)) ∙ ap (take 32) parts ∙ take_at (spelling d) (before second h s) 32 (length-spelling d) in
    let tails : before first g r ≡ before second h s =
    sym (drop_at (spelling c) (before first g r) 32 (length-spelling c)) ∙ ap (drop 32) parts ∙ drop_at (spelling d) (before second h s) 32 (length-spelling d) in
    λ i. same_cell c d af.0 as_.0 heads i ∷ same_cells first second g h r s af.1 as_.1 ng nh tails i

-- Cells of any version are cells of the newest version.
all-newest : (v : ℕ) (cells : List Cell) → AllByRecursion (IsCell v) cells → AllByRecursion (IsCell newest) cells
all-newest v [] all = tt
all-newest v (c ∷ cells) all = (fits-newest v c all.0, all-newest v cells all.1)

-- Both readings find the same cells, whatever their versions.
pub holds-same : (v u w : ℕ) (first second : List Cell) (bytes : List ℕ) → HoldsCells v w first bytes → HoldsCells u w second bytes → first ≡ second
holds-same v u w first second bytes a b =
    let text : (n : ℕ) (cells : List Cell) (h : HoldsCells n w cells bytes) → bytes ≡ header_text n w ++ before cells h.text.commit_byte h.rest =
    λ n cells h. h.parts ∙ ap (λ (l : List ℕ). l ++ h.rest) h.text.text
    ∙ append_assoc (header_text n w ++ flat_map spelling cells) (h.text.commit_byte ∷ []) h.rest
    ∙ append_assoc (header_text n w) (flat_map spelling cells) (h.text.commit_byte ∷ h.rest) in
    let parts : header_text v w ++ before first a.text.commit_byte a.rest ≡ header_text u w ++ before second b.text.commit_byte b.rest = sym (text v first a) ∙ text u second b in
    let tails : before first a.text.commit_byte a.rest ≡ before second b.text.commit_byte b.rest =
    sym (drop_at (header_text v w) (before first a.text.commit_byte a.rest) 16 (length-header v w)) ∙ ap (drop 16) parts ∙ drop_at (header_text u w) (before second b.text.commit_byte b.rest) 16 (length-header u w) in
    same_cells first second a.text.commit_byte b.text.commit_byte a.rest b.rest (all-newest v first a.text.cells_fit) (all-newest u second b.text.cells_fit) a.text.clear b.text.clear tails
