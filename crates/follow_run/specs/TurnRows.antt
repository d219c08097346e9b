-- The turns of a text.
use Rattle.std.specs.Prelude.{ℕ, List, [], ◌∷◌, if◌then◌else◌, Result, Ok, Err, codes}
use Rattle.std.specs.List.{fold}
use Rattle.csv_rows.specs.declared.columns.Rule.{Rule}
use Rattle.csv_rows.specs.declared.columns.Rule.TheVariants.{Empty, Between}
use Rattle.csv_rows.specs.declared.rows.RowsFault.{RowsFault}
use Rattle.csv_rows.specs.declared.rows.Wrong.{Wrong}
use Rattle.csv_rows.specs.declared.rows.Wrong.TheVariants.{Length, Column}
use Rattle.csv_rows.specs.Columns.{keeps, number, id_rule}
use Rattle.csv_rows.specs.Fields.{is_text}
use Rattle.csv_rows.specs.Tables.{Table, rows_of_text}
use Rattle.follower.specs.declared.turns.Turn.{Turn}
use Rattle.follower.specs.declared.turns.Turn.TheVariants.{Send, Arrive, Ack, Restart}
use Rattle.follower.specs.Follow.{packets_after, acks_after}

-- How many packets, and acknowledgements, these turns send.
abbrev pub packets_of : List Turn → ℕ
packets_of turns = fold packets_after 0 turns

abbrev pub acks_of : List Turn → ℕ
acks_of turns = fold acks_after 0 turns

-- A turn whose number keeps this rule.
abbrev pub numbered : Rule → List ℕ → (ℕ → Turn) → Result Turn Wrong
numbered rule field turn = if keeps rule field then Ok (turn (number field)) else Err (Column 2)

-- The turn of a word and a number, after so many packets and acknowledgements. Or the leftmost faulty column.
abbrev pub turn_by : (packets acks : ℕ) → (word field : List ℕ) → Result Turn Wrong
turn_by packets acks word field =
    if is_text word (codes "send") then numbered id_rule field Send
    else if is_text word (codes "arrive") then numbered (Between 1 packets) field Arrive
    else if is_text word (codes "ack") then numbered (Between 1 acks) field Ack
    else if is_text word (codes "restart") then numbered Empty field (λ n. Restart)
    else Err (Column 1)

-- The turn of a record's fields, after so many packets and acknowledgements. Or what is wrong with it: its length, or a
-- column.
abbrev pub turn_in : (packets acks : ℕ) → List (List ℕ) → Result Turn Wrong
turn_in packets acks (word ∷ field ∷ []) = turn_by packets acks word field
turn_in packets acks fields = Err Length

-- The turn of a record's fields after these turns.
abbrev pub turn_of : List Turn → List (List ℕ) → Result Turn Wrong
turn_of earlier fields = turn_in (packets_of earlier) (acks_of earlier) fields

-- How turns are read.
abbrev pub turn_table : Table Turn
turn_table = record { header = codes "turn" ∷ codes "number" ∷ []; most = 65536; row_of = turn_of }

-- The turns of a text, or the first faulty record.
abbrev pub turns_of_text : List ℕ → Result (List Turn) RowsFault
turns_of_text bytes = rows_of_text turn_table bytes
