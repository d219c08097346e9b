-- A worked schedule over two cells: a packet that comes too early, one that comes twice, a restart, and
-- acknowledgements.
use Rattle.std.specs.Prelude.{◌≡◌, ℕ, List, [], ◌∷◌}
use Rattle.std.proofs.Common.{refl}
use Rattle.follower.specs.declared.turns.Turn.{Turn}
use Rattle.follower.specs.declared.turns.Turn.TheVariants.{Send, Arrive, Ack, Restart}
use Rattle.follower.specs.declared.turns.Report.{Report}
use Rattle.follower.specs.Follow.{reports, opened_with}

abbrev turns : List Turn
turns = Send 0 ∷ Send 1 ∷ Arrive 2 ∷ Arrive 1 ∷ Arrive 1 ∷ Restart ∷ Arrive 2 ∷ Ack 1 ∷ Ack 4 ∷ []

abbrev both : (held known : ℕ) → Report
both held known = record { held = held; known = known }

reported : reports 2 (opened_with 0) turns
    ≡ both 0 0 ∷ both 0 0 ∷ both 0 0 ∷ both 1 0 ∷ both 1 0 ∷ both 1 0 ∷ both 2 0 ∷ both 2 0 ∷ both 2 2 ∷ []
reported = refl

-- An acknowledgement that comes late changes nothing.
late : reports 2 (opened_with 0) (Send 0 ∷ Send 1 ∷ Arrive 1 ∷ Arrive 2 ∷ Ack 2 ∷ Ack 1 ∷ [])
    ≡ both 0 0 ∷ both 0 0 ∷ both 1 0 ∷ both 2 0 ∷ both 2 2 ∷ both 2 2 ∷ []
late = refl
