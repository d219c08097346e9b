-- The plain machine of a follower.
use Rattle.std.proofs.Common.{◌≡◌, ℕ, ◌+◌, ◌-◌, ◌<◌, ◌≤◌, Bool, true, false, zero, suc, List, [], ◌∷◌, ◌++◌, length, refl, ap, arith, length-append}
use Rattle.std.specs.Prelude.{slice_index, if◌then◌else◌, ◌==◌, ◌&&◌, nat_lt}
use Rattle.std.specs.List.{AllByRecursion}
use Rattle.std.specs.Cmp.Derive.{both_true}
use Rattle.std.proofs.lemmas.Bool.{eq-eqb, lt-ltb}
use Rattle.follower.specs.declared.turns.Turn.{Turn}
use Rattle.follower.specs.declared.turns.Turn.TheVariants.{Send, Arrive, Ack, Restart}
use Rattle.follower.specs.Follow.{Following, cell_of, held_after, after_turn, IsSound, packets_after, acks_after}

grows : (b : Bool) (n : ℕ) → n ≤ (if b then n + 1 else n)
grows true n = omega arith
grows false n = omega arith

-- A packet loses no cell.
pub held-grows : (count packet held : ℕ) → held ≤ held_after count packet held
held-grows count packet held = grows ((packet == held) && nat_lt held count) held

-- The next cell is added.
pub held-next : (count packet held : ℕ) → packet ≡ held → held < count → held_after count packet held ≡ held + 1
held-next count packet held is below = ap (λ b. if b then held + 1 else held) (both_true (eq-eqb packet held is) (lt-ltb held count below))

all-read : (h : ℕ) (xs : List ℕ) (i : ℕ) → AllByRecursion (λ (a : ℕ). a ≤ h) xs → slice_index xs i ≤ h
all-read h [] zero all = omega arith
all-read h [] (suc i) all = omega arith
all-read h (x ∷ xs) zero all = all.0
all-read h (x ∷ xs) (suc i) all = all-read h xs i all.1

all_push : (P : ℕ → Type 0) (xs : List ℕ) (x : ℕ) → AllByRecursion P xs → P x → AllByRecursion P (xs ++ x ∷ [])
all_push P [] x all last = (last, tt)
all_push P (y ∷ xs) x all last = (all.0, all_push P xs x all.1 last)

all-up : (h k : ℕ) → h ≤ k → (xs : List ℕ) → AllByRecursion (λ (a : ℕ). a ≤ h) xs → AllByRecursion (λ (a : ℕ). a ≤ k) xs
all-up h k le [] all = tt
all-up h k le (x ∷ xs) all = (omega (arith, all.0, le), all-up h k le xs all.1)

-- After a turn at most as many cells are known to be held, and were acknowledged, as are held.
pub sound-after : (count : ℕ) (s : Following) (t : Turn) → IsSound s → IsSound (after_turn count s t)
sound-after count s (Send cell) sound = record { known = sound.known; acks = sound.acks }
sound-after count s (Arrive packet) sound =
    let held : ℕ = held_after count (cell_of packet s) s.held in
    let more : s.held ≤ held = held-grows count (cell_of packet s) s.held in
    record {
      known = omega (arith, sound.known, more);
      acks = all_push (λ (a : ℕ). a ≤ held) s.acks held (all-up s.held held more s.acks sound.acks) (omega arith);
    }
sound-after count s (Ack number) sound = record { known = omega (arith, sound.known, all-read s.held s.acks (number - 1) sound.acks); acks = sound.acks }
sound-after count s Restart sound = sound

-- How many packets, and acknowledgements, were sent after a turn.
pub packets-after : (count : ℕ) (s : Following) (t : Turn) → length (after_turn count s t).packets ≡ packets_after (length s.packets) t
packets-after count s (Send cell) = length-append s.packets (cell ∷ [])
packets-after count s (Arrive packet) = refl
packets-after count s (Ack number) = refl
packets-after count s Restart = refl

pub acks-after : (count : ℕ) (s : Following) (t : Turn) → length (after_turn count s t).acks ≡ acks_after (length s.acks) t
acks-after count s (Send cell) = refl
acks-after count s (Arrive packet) = length-append s.acks (held_after count (cell_of packet s) s.held ∷ [])
acks-after count s (Ack number) = refl
acks-after count s Restart = refl
