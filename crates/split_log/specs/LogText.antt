-- The text of a log: a header, cells with their commit bytes set, and a clear commit byte.
use Rattle.std.specs.Prelude.{◌≡◌, ◌≢◌, ◌⊎◌, ℕ, List, [], ◌∷◌, ◌++◌, Some, length}
use Rattle.std.specs.List.{flat_map, AllByRecursion}
use Rattle.cell_format.specs.declared.cell.Cell.{Cell}
use Rattle.cell_format.specs.Spelling.{newest, IsCell, spelling, body_of, header_text}
use Rattle.disk_trait.specs.Drive.{Drive, Only}

-- The text before the last commit byte, for a log of this version and width.
abbrev pub front_of : ℕ → ℕ → List Cell → List ℕ
front_of version width cells = header_text version width ++ flat_map spelling cells

-- The whole text, with this commit byte at its end.
abbrev pub log_text : ℕ → ℕ → List Cell → ℕ → List ℕ
log_text version width cells commit_byte = header_text version width ++ flat_map spelling cells ++ commit_byte ∷ []

-- The bytes are the text of these cells.
pub record IsLogText (version width : ℕ) (cells : List Cell) (bytes : List ℕ) : Type 0 where
  pub cells_fit : AllByRecursion (IsCell version) cells
  pub commit_byte : ℕ
  pub clear : commit_byte ≢ 1
  pub text : bytes ≡ log_text version width cells commit_byte

-- The bytes are the text of `count` cells, in the newest version.
pub record IsLogOf (count : ℕ) (bytes : List ℕ) : Type 0 where
  pub width : ℕ
  pub cells : List Cell
  pub count_is : length cells ≡ count
  pub text : IsLogText newest width cells bytes

-- A prefix of the bytes is the text of these cells.
pub record HoldsCells (version width : ℕ) (cells : List Cell) (bytes : List ℕ) : Type 0 where
  pub front : List ℕ
  pub rest : List ℕ
  pub parts : bytes ≡ front ++ rest
  pub text : IsLogText version width cells front

-- The text of these cells after the commit byte of the first one. A clear commit byte follows the last cell.
abbrev pub behind_first : List Cell → List ℕ
behind_first [] = []
behind_first (cell ∷ cells) = body_of cell ++ (flat_map spelling cells ++ 0 ∷ [])

-- The bytes hold `cells` alone, or `cells` followed by all of `more`.
abbrev pub HoldsAllOrNone : ℕ → List Cell → List Cell → List ℕ → Type 0
HoldsAllOrNone width cells more bytes = HoldsCells newest width cells bytes ⊎ HoldsCells newest width (cells ++ more) bytes

-- The bytes hold the cells, with one more or without it.
abbrev pub HoldsEither : ℕ → List Cell → Cell → List ℕ → Type 0
HoldsEither width cells cell bytes = HoldsAllOrNone width cells (cell ∷ []) bytes

-- The bytes are the text of `cells`, then any commit byte, then the whole text of `more` with a clear commit byte at
-- its end.
pub record IsStaged (width : ℕ) (cells more : List Cell) (bytes : List ℕ) : Type 0 where
  pub commit_byte : ℕ
  pub text : bytes ≡ front_of newest width cells ++ commit_byte ∷ behind_first more

-- The file is the text of these cells in the newest version, and every crash leaves it so.
pub record IsLog (width : ℕ) (cells : List Cell) (drive : Drive) : Type 0 where
  pub bytes : List ℕ
  pub told : drive.bytes ≡ Some bytes
  pub text : IsLogText newest width cells bytes
  pub durable : Only bytes drive.images
