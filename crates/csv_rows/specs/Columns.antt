-- The columns of a row after its session: which words there are, what each of their columns may have, and what it
-- means.
use Rattle.std.specs.Prelude.{◌≡◌, ℕ, ◌≤◌, Bool, true, false, List, [], ◌∷◌, codes}
use Rattle.std.specs.Fmt.{decimal}
use Rattle.zorder.specs.declared.points.Point.{Point}
use Rattle.plain_list.specs.declared.ops.Op.{Op}
use Rattle.plain_list.specs.declared.ops.Op.TheVariants as op
use Rattle.csv_rows.specs.declared.columns.Columns.{Columns}
use Rattle.csv_rows.specs.declared.columns.Rule.{Rule}
use Rattle.csv_rows.specs.declared.columns.Rule.TheVariants.{Empty, Between}
use Rattle.csv_rows.specs.declared.columns.Word.{Word}
use Rattle.csv_rows.specs.declared.columns.Word.TheVariants.{Put, Move, Drop, Where, Box, Near}
use Rattle.csv_rows.specs.Numbers.{is_between}
pub use Rattle.csv_rows.specs.Numbers.{number}

-- the fields of the header
abbrev pub header_fields : List (List ℕ)
header_fields = codes "session" ∷ codes "op" ∷ codes "id" ∷ codes "x" ∷ codes "y" ∷ codes "a" ∷ codes "b" ∷ codes "moment" ∷ []

-- all words
abbrev pub words : List Word
words = Put ∷ Move ∷ Drop ∷ Where ∷ Box ∷ Near ∷ []

-- the spelling of a word
abbrev pub word_text : Word → List ℕ
word_text Put = codes "put"
word_text Move = codes "move"
word_text Drop = codes "drop"
word_text Where = codes "where"
word_text Box = codes "box"
word_text Near = codes "near"

-- the rules for sessions, ids, coordinates and moments
abbrev pub session_rule : Rule
session_rule = Between 1 16

abbrev pub id_rule : Rule
id_rule = Between 0 18446744073709551615

abbrev pub coordinate_rule : Rule
coordinate_rule = Between 0 4294967295

abbrev pub moment_rule : Rule
moment_rule = Between 0 18446744073709551615

-- the rules of a word's columns, if columns 4 and 5 have these numbers; a box's upper corner is not below its lower
-- corner
abbrev pub rules_of : Word → ℕ → ℕ → Columns Rule
rules_of Put x y = record { id = id_rule; x = coordinate_rule; y = coordinate_rule; a = Empty; b = Empty; moment = moment_rule }
rules_of Move x y = record { id = id_rule; x = coordinate_rule; y = coordinate_rule; a = Empty; b = Empty; moment = moment_rule }
rules_of Drop x y = record { id = id_rule; x = Empty; y = Empty; a = Empty; b = Empty; moment = Empty }
rules_of Where x y = record { id = id_rule; x = Empty; y = Empty; a = Empty; b = Empty; moment = Empty }
rules_of Box x y = record { id = Empty; x = coordinate_rule; y = coordinate_rule; a = Between x 4294967295; b = Between y 4294967295; moment = Empty }
rules_of Near x y = record { id = Empty; x = coordinate_rule; y = coordinate_rule; a = Between 1 2048; b = Empty; moment = Empty }

abbrev pub point_of : ℕ → ℕ → Point
point_of x y = record { x = x; y = y }

-- the operation that a word and its columns say
abbrev pub op_of : Word → Columns ℕ → Op
op_of Put c = op.Put c.id (point_of c.x c.y) c.moment
op_of Move c = op.Move c.id (point_of c.x c.y) c.moment
op_of Drop c = op.Remove c.id
op_of Where c = op.Find c.id
op_of Box c = op.Within (record { lo = point_of c.x c.y; hi = point_of c.a c.b })
op_of Near c = op.Near (point_of c.x c.y) c.a

-- the word of an operation
abbrev pub word_by : Op → Word
word_by (op.Put id at moment) = Put
word_by (op.Move id at moment) = Move
word_by (op.Remove id) = Drop
word_by (op.Find id) = Where
word_by (op.Within region) = Box
word_by (op.Near at k) = Near

-- the columns of an operation after its word; a column that stays empty is 0
abbrev pub columns_of : Op → Columns ℕ
columns_of (op.Put id at moment) = record { id = id; x = at.x; y = at.y; a = 0; b = 0; moment = moment }
columns_of (op.Move id at moment) = record { id = id; x = at.x; y = at.y; a = 0; b = 0; moment = moment }
columns_of (op.Remove id) = record { id = id; x = 0; y = 0; a = 0; b = 0; moment = 0 }
columns_of (op.Find id) = record { id = id; x = 0; y = 0; a = 0; b = 0; moment = 0 }
columns_of (op.Within region) = record { id = 0; x = region.lo.x; y = region.lo.y; a = region.hi.x; b = region.hi.y; moment = 0 }
columns_of (op.Near at k) = record { id = 0; x = at.x; y = at.y; a = k; b = 0; moment = 0 }

-- the columns from left to right
abbrev pub in_order : {T : Type 0} → Columns T → List T
in_order c = c.id ∷ c.x ∷ c.y ∷ c.a ∷ c.b ∷ c.moment ∷ []

-- whether a text keeps a rule
abbrev pub keeps : Rule → List ℕ → Bool
keeps Empty [] = true
keeps Empty (b ∷ text) = false
keeps (Between low high) text = is_between low high text

-- the text of a number in a column; a column without a number has no text
abbrev pub text_by : Rule → ℕ → List ℕ
text_by Empty n = []
text_by (Between low high) n = decimal n

-- a number that a text with this rule can say
abbrev pub Fits : Rule → ℕ → Type 0
Fits Empty n = n ≡ 0
Fits (Between low high) n = (low ≤ n) × (n ≤ high)

-- the numbers keep the rules of the word
pub record AreKept (word : Word) (c : Columns ℕ) : Type 0 where
  pub id : Fits (rules_of word c.x c.y).id c.id
  pub x : Fits (rules_of word c.x c.y).x c.x
  pub y : Fits (rules_of word c.x c.y).y c.y
  pub a : Fits (rules_of word c.x c.y).a c.a
  pub b : Fits (rules_of word c.x c.y).b c.b
  pub moment : Fits (rules_of word c.x c.y).moment c.moment

-- the texts of a word's columns, from left to right
abbrev pub column_texts : Word → Columns ℕ → List (List ℕ)
column_texts word c =
    let rules = rules_of word c.x c.y in text_by rules.id c.id ∷ text_by rules.x c.x ∷ text_by rules.y c.y ∷ text_by rules.a c.a ∷ text_by rules.b c.b ∷ text_by rules.moment c.moment ∷ []
