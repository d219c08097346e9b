-- Turns that were read one after the other.
use Rattle.std.proofs.Common.{◌≡◌, ◌≤◌, ◌<◌, ◌+◌, ℕ, Bool, true, false, cond, List, [], ◌∷◌, ◌++◌, length, Some, Ok, Err, refl, sym, subst, arith, length-append}
use Rattle.std.specs.List.{fold}
use Rattle.std.specs.Prelude.{codes}
use Rattle.csv.specs.Records.{field_at}
use Rattle.csv_rows.specs.declared.columns.Rule.{Rule}
use Rattle.csv_rows.specs.declared.columns.Rule.TheVariants.{Empty, Between}
use Rattle.csv_rows.specs.declared.rows.Wrong.TheVariants.{Column}
use Rattle.csv_rows.specs.Columns.{keeps, number, id_rule}
use Rattle.csv_rows.specs.Fields.{is_text}
use Rattle.csv_rows.proofs.NumbersFacts.{is_between-bounds}
use Rattle.csv_rows.proofs.TablesFacts.{table-keeps}
use Rattle.follower.specs.declared.turns.Turn.{Turn}
use Rattle.follower.specs.declared.turns.Turn.TheVariants.{Send, Arrive, Ack, Restart}
use Rattle.follower.specs.Follow.{AllNameSent, AreTurns, NamesSent, acks_after, packets_after}
use Rattle.follow_run.specs.TurnRows.{acks_of, numbered, packets_of, turn_by, turn_in, turn_of, turn_table, turns_of_text}

-- A record of two fields has only the fields at these two places.
pub two_fields : (fields : List (List ℕ)) (a b : List ℕ) → length fields ≡ 2 → field_at fields 0 ≡ Some a → field_at fields 1 ≡ Some b → fields ≡ a ∷ b ∷ []
unfolding field_at
two_fields (z0 ∷ z1 ∷ []) a b n h0 h1 = cc
two_fields [] a b n h0 h1 = cc h0
two_fields (z0 ∷ []) a b n h0 h1 = cc h1
two_fields (z0 ∷ z1 ∷ z2 ∷ fields) a b n h0 h1 = absurd (omega arith)

-- What one more turn sends.
packets-from : (n : ℕ) (turns : List Turn) (t : Turn) → fold packets_after n (turns ++ t ∷ []) ≡ packets_after (fold packets_after n turns) t
packets-from n [] t = refl
packets-from n (u ∷ turns) t = packets-from (packets_after n u) turns t

acks-from : (n : ℕ) (turns : List Turn) (t : Turn) → fold acks_after n (turns ++ t ∷ []) ≡ acks_after (fold acks_after n turns) t
acks-from n [] t = refl
acks-from n (u ∷ turns) t = acks-from (acks_after n u) turns t

pub packets-more : (turns : List Turn) (t : Turn) → packets_of (turns ++ t ∷ []) ≡ packets_after (packets_of turns) t
packets-more turns t = packets-from 0 turns t

pub acks-more : (turns : List Turn) (t : Turn) → acks_of (turns ++ t ∷ []) ≡ acks_after (acks_of turns) t
acks-more turns t = acks-from 0 turns t

-- Each turn sends at most one.
packets-step : (n : ℕ) (t : Turn) → packets_after n t ≤ n + 1
packets-step n (Send cell) = omega arith
packets-step n (Arrive packet) = omega arith
packets-step n (Ack number) = omega arith
packets-step n Restart = omega arith

acks-step : (n : ℕ) (t : Turn) → acks_after n t ≤ n + 1
acks-step n (Send cell) = omega arith
acks-step n (Arrive packet) = omega arith
acks-step n (Ack number) = omega arith
acks-step n Restart = omega arith

packets-few : (n : ℕ) (turns : List Turn) → fold packets_after n turns ≤ n + length turns
packets-few n [] = omega arith
packets-few n (t ∷ turns) = omega (arith, packets-few (packets_after n t) turns, packets-step n t)

acks-few : (n : ℕ) (turns : List Turn) → fold acks_after n turns ≤ n + length turns
acks-few n [] = omega arith
acks-few n (t ∷ turns) = omega (arith, acks-few (acks_after n t) turns, acks-step n t)

pub few-packets : (turns : List Turn) (sent : ℕ) → sent ≡ packets_of turns → length turns < 65536 → sent < 65536
few-packets turns sent is few = omega (arith, is, few, packets-few 0 turns)

pub few-acks : (turns : List Turn) (sent : ℕ) → sent ≡ acks_of turns → length turns < 65536 → sent < 65536
few-acks turns sent is few = omega (arith, is, few, acks-few 0 turns)

-- A turn whose number keeps a rule.
numbered-ok : (rule : Rule) (field : List ℕ) (turn : ℕ → Turn) (t : Turn) → numbered rule field turn ≡ Ok t → (keeps rule field ≡ true) × (t ≡ turn (number field))
numbered-ok rule field turn t e = by_test (keeps rule field) e
  where
    by_test : (b : Bool) → cond b (Ok (turn (number field))) (Err (Column 2)) ≡ Ok t → (b ≡ true) × (t ≡ turn (number field))
    by_test true is = let same : turn (number field) ≡ t = cc is in (refl, sym same)
    by_test false is = cc is

-- The turn of a word and a number names only what was sent.
names-by : (packets acks : ℕ) (word field : List ℕ) (t : Turn) → turn_by packets acks word field ≡ Ok t → NamesSent packets acks t
names-by packets acks word field t e = by_send (is_text word (codes "send")) e
  where
    by_restart : (b : Bool) → cond b (numbered Empty field (λ n. Restart)) (Err (Column 1)) ≡ Ok t → NamesSent packets acks t
    by_restart true is = subst (λ (u : Turn). NamesSent packets acks u) (sym (numbered-ok Empty field (λ n. Restart) t is).1) tt
    by_restart false is = cc is

    by_ack : (b : Bool) → cond b (numbered (Between 1 acks) field Ack) (cond (is_text word (codes "restart")) (numbered Empty field (λ n. Restart)) (Err (Column 1))) ≡ Ok t → NamesSent packets acks t
    by_ack true is =
        let it = numbered-ok (Between 1 acks) field Ack t is in
        subst (λ (u : Turn). NamesSent packets acks u) (sym it.1) (is_between-bounds 1 acks field it.0)
    by_ack false is = by_restart (is_text word (codes "restart")) is

    by_arrive : (b : Bool) → cond b (numbered (Between 1 packets) field Arrive) (cond (is_text word (codes "ack")) (numbered (Between 1 acks) field Ack) (cond (is_text word (codes "restart")) (numbered Empty field (λ n. Restart)) (Err (Column 1)))) ≡ Ok t
        → NamesSent packets acks t
    by_arrive true is =
        let it = numbered-ok (Between 1 packets) field Arrive t is in
        subst (λ (u : Turn). NamesSent packets acks u) (sym it.1) (is_between-bounds 1 packets field it.0)
    by_arrive false is = by_ack (is_text word (codes "ack")) is

    by_send : (b : Bool)
        → cond b (numbered id_rule field Send) (cond (is_text word (codes "arrive")) (numbered (Between 1 packets) field Arrive) (cond (is_text word (codes "ack")) (numbered (Between 1 acks) field Ack) (cond (is_text word (codes "restart")) (numbered Empty field (λ n. Restart)) (Err (Column 1))))) ≡ Ok t
        → NamesSent packets acks t
    by_send true is = subst (λ (u : Turn). NamesSent packets acks u) (sym (numbered-ok id_rule field Send t is).1) tt
    by_send false is = by_arrive (is_text word (codes "arrive")) is

names-sent : (packets acks : ℕ) (fields : List (List ℕ)) (t : Turn) → turn_in packets acks fields ≡ Ok t → NamesSent packets acks t
names-sent packets acks (word ∷ field ∷ []) t e = names-by packets acks word field t e
names-sent packets acks [] t e = cc e
names-sent packets acks (a ∷ []) t e = cc e
names-sent packets acks (a ∷ b ∷ c ∷ fields) t e = cc e

all-name-more : (packets acks : ℕ) (turns : List Turn) (t : Turn) → AllNameSent packets acks turns → NamesSent (fold packets_after packets turns) (fold acks_after acks turns) t → AllNameSent packets acks (turns ++ t ∷ [])
all-name-more packets acks [] t all last = (last, tt)
all-name-more packets acks (u ∷ turns) t all last = (all.0, all-name-more (packets_after packets u) (acks_after acks u) turns t all.1 last)

-- One more turn.
turns-more : (turns : List Turn) (fields : List (List ℕ)) (t : Turn) → length turns < 65536 → turn_of turns fields ≡ Ok t → AreTurns turns → AreTurns (turns ++ t ∷ [])
turns-more turns fields t few is good = record {
  each = all-name-more 0 0 turns t good.each (names-sent (packets_of turns) (acks_of turns) fields t is);
  most = omega (arith, few, length-append turns (t ∷ []));
}

-- The turns of a text name only what was sent.
pub read-turns : (bytes : List ℕ) (turns : List Turn) → turns_of_text bytes ≡ Ok turns → AreTurns turns
read-turns bytes turns is = table-keeps turn_table AreTurns turns-more bytes turns (record { each = tt; most = omega arith }) is
