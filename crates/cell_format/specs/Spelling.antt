-- The one spelling of each record, and the header of a log.
use Rattle.std.specs.Prelude.{◌≡◌, ◌⊎◌, ℕ, ◌^◌, ◌<◌, ◌≤◌, Bool, List, [], ◌∷◌, ◌++◌, length, replicate, if◌then◌else◌, ◌==◌}
use Rattle.std.specs.Int.{to_be_bytes, w32, w64}
use Rattle.zorder.specs.declared.points.Point.{Point}
use Rattle.zorder.specs.Key.{IsPoint}
use Rattle.zorder.specs.Name.{first_key}
use Rattle.cell_format.specs.declared.cell.Cell.{Cell}
use Rattle.cell_format.specs.declared.cell.Cell.TheVariants.{Put, Move, Remove, Begin, Install, Abandon}

-- the version that is written; a log of an older version is read, but no record is appended to it
abbrev pub newest : ℕ
newest = 2

-- a version that is read
abbrev pub IsVersion : ℕ → Type 0
IsVersion v = (v ≡ 1) ⊎ (v ≡ 2)

-- how many moments a version of the log has: version 1 has only the moment 0
abbrev pub moments_of : ℕ → ℕ
moments_of version = if version == 1 then 1 else 2 ^ 64

-- the fields of a record fit into their bytes in this version
abbrev pub IsCell : ℕ → Cell → Type 0
IsCell v (Put id at moment) = (id < 2 ^ 64) × IsPoint at × (moment < moments_of v)
IsCell v (Move id at moment) = (id < 2 ^ 64) × IsPoint at × (moment < moments_of v)
IsCell v (Remove id) = id < 2 ^ 64
IsCell v (Begin number name) = (number < 2 ^ 64) × (length name ≤ 64)
IsCell v (Install number) = number < 2 ^ 64
IsCell v (Abandon number) = number < 2 ^ 64

-- the bytes of a record after the commit byte: its kind, a number, its other fields, and bytes that are 0
abbrev pub body : ℕ → ℕ → List ℕ → ℕ → List ℕ
body kind n fields zeros = kind ∷ (to_be_bytes w64 n ++ fields ++ replicate zeros 0)

abbrev pub point_bytes : Point → List ℕ
point_bytes p = to_be_bytes w32 p.x ++ to_be_bytes w32 p.y

abbrev pub position_bytes : Point → ℕ → List ℕ
position_bytes p moment = point_bytes p ++ to_be_bytes w64 moment

abbrev pub name_bytes : List Bool → List ℕ
name_bytes name = to_be_bytes w64 (first_key name) ++ length name ∷ []

-- the 31 bytes of a record after the commit byte; they are the same in each version that has the record
unfoldable pub body_of : Cell → List ℕ
body_of (Put id at moment) = body 1 id (position_bytes at moment) 6
body_of (Move id at moment) = body 2 id (position_bytes at moment) 6
body_of (Remove id) = body 3 id [] 22
body_of (Begin number name) = body 4 number (name_bytes name) 13
body_of (Install number) = body 5 number [] 22
body_of (Abandon number) = body 6 number [] 22

-- the 32 bytes of a record with the commit byte set
abbrev pub spelling : Cell → List ℕ
spelling cell = 1 ∷ body_of cell

-- the bytes spell the record in a log of this version
pub record Spells (version : ℕ) (cell : Cell) (bytes : List ℕ) : Type 0 where
  pub fits : IsCell version cell
  pub spelled : bytes ≡ spelling cell

-- the 16 bytes at the head of a log of this version and width
unfoldable pub header_text : ℕ → ℕ → List ℕ
header_text version width = 0x4d ∷ 0x44 ∷ 0x4c ∷ 0x4f ∷ 0x43 ∷ 0x4c ∷ 0x4f ∷ 0x47 ∷ version ∷ width ∷ replicate 6 0
