-- Worked lines: two cells that come in the wrong order, one of them twice, a restart, and acknowledgements.
use Rattle.std.proofs.Common.{◌≡◌, List, [], ◌∷◌, codes, lit<}
use Rattle.std.proofs.lemmas.Fmt.{decimal_digit}
use Rattle.follower.specs.declared.turns.Turn.{Turn}
use Rattle.follower.specs.declared.turns.Turn.TheVariants.{Send, Arrive, Ack, Restart}
use Rattle.follower.specs.Follow.{reports, opened_with}
use Rattle.follow_run.specs.Lines.{reports_text}

abbrev turns : List Turn
turns = Send 0 ∷ Send 1 ∷ Arrive 2 ∷ Arrive 1 ∷ Arrive 1 ∷ Restart ∷ Arrive 2 ∷ Ack 1 ∷ Ack 4 ∷ []

told : reports_text (reports 2 (opened_with 0) turns)
    ≡ codes "turn,held,known\n1,0,0\n2,0,0\n3,0,0\n4,1,0\n5,1,0\n6,1,0\n7,2,0\n8,2,0\n9,2,2\n"
unfolding reports_text
told = simp (decimal_digit 0 (lit< tt), decimal_digit 1 (lit< tt), decimal_digit 2 (lit< tt), decimal_digit 3 (lit< tt), decimal_digit 4 (lit< tt), decimal_digit 5 (lit< tt), decimal_digit 6 (lit< tt), decimal_digit 7 (lit< tt), decimal_digit 8 (lit< tt), decimal_digit 9 (lit< tt))
