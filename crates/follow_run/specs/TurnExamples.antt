-- Worked texts of turns.
use Rattle.std.specs.Prelude.{◌≡◌, ℕ, List, [], ◌∷◌, ◌++◌, codes, Ok, Err}
use Rattle.std.proofs.Common.{refl}
use Rattle.csv.specs.Machine.{next_record}
use Rattle.csv.specs.Reading.{records_from}
use Rattle.csv_rows.specs.declared.rows.RowsFault.TheVariants as fault
use Rattle.csv_rows.specs.Numbers.{is_between, is_number}
use Rattle.csv_rows.specs.Tables.{rows_of_text}
use Rattle.follower.specs.declared.turns.Turn.TheVariants.{Send, Arrive, Ack, Restart}
use Rattle.follow_run.specs.TurnRows.{turns_of_text}

abbrev header : List ℕ
header = codes "turn,number\n"

four_turns : turns_of_text (header ++ codes "send,0\narrive,1\nrestart,\nack,01\n") ≡ Ok (Send 0 ∷ Arrive 1 ∷ Restart ∷ Ack 1 ∷ [])
unfolding rows_of_text records_from next_record is_between is_number
four_turns = refl

-- An acknowledgement before any was sent, the packet 0, and a restart with a number.
early : turns_of_text (header ++ codes "ack,1\n") ≡ Err (fault.Field 1 2)
unfolding rows_of_text records_from next_record is_between is_number
early = refl

packet_0 : turns_of_text (header ++ codes "send,0\narrive,0\n") ≡ Err (fault.Field 2 2)
unfolding rows_of_text records_from next_record is_between is_number
packet_0 = refl

numbered_restart : turns_of_text (header ++ codes "restart,0\n") ≡ Err (fault.Field 1 2)
unfolding rows_of_text records_from next_record
numbered_restart = refl

other_word : turns_of_text (header ++ codes "sent,1\n") ≡ Err (fault.Field 1 1)
unfolding rows_of_text records_from next_record
other_word = refl

one_field : turns_of_text (header ++ codes "restart\n") ≡ Err (fault.Csv 1)
unfolding rows_of_text records_from next_record
one_field = refl
