-- What a team of clients did, each in its own thread.
use Rattle.std.specs.Prelude.{◌≡◌, ℕ, ◌+◌, ◌-◌, ◌%◌, ◌<◌, List, [], ◌∷◌, length, map, reverse, slice_index_or}
use Rattle.std.specs.List.{All}
use mathlib.Core.List.{IsPrefix}
use Rattle.store_client.specs.Caller.{Caller, Keeps, has_joined, with_part_of}
pub use Rattle.store_client.specs.Caller.{without_parts}
use Rattle.store_client.specs.declared.crowd.Worker.{Worker}

module _ {I D O W P : Type 0} where
  -- A worker did its work, and kept its client.
  abbrev pub Did : (W → Caller → W → Caller → Type 0) → Worker I D O W P → Worker I D O W P → Type 0
  Did does old new = does old.work old.client new.work new.client × Keeps old.client new.client

  -- Each of a team did its work.
  abbrev pub AllDid : (W → Caller → W → Caller → Type 0) → List (Worker I D O W P) → List (Worker I D O W P) → Type 0
  AllDid does old new =
      (i : ℕ) (d : Worker I D O W P) → i < length old → does (slice_index_or old i d).work (slice_index_or old i d).client (slice_index_or new i d).work (slice_index_or new i d).client

  -- Each of a team kept its client.
  abbrev pub AllKept : List (Worker I D O W P) → List (Worker I D O W P) → Type 0
  AllKept old new = (i : ℕ) (d : Worker I D O W P) → i < length old → Keeps (slice_index_or old i d).client (slice_index_or new i d).client

-- A client that has given so many of its parts away, and one that has got so many. Apart from the parts, only what it has
-- seen and owns changed.
abbrev pub HasGiven : ℕ → Caller → Caller → Type 0
HasGiven n old new = (new.pass.lock ≡ old.pass.lock) × (new.pass.parts + n ≡ old.pass.parts) × (new.session ≡ old.session) × (new.pass.origin ≡ old.pass.origin)

abbrev pub HasTaken : ℕ → Caller → Caller → Type 0
HasTaken n old new = (new.pass.lock ≡ old.pass.lock) × (new.pass.parts ≡ old.pass.parts + n) × (new.session ≡ old.session) × (new.pass.origin ≡ old.pass.origin)

-- A client with one part of the same store.
abbrev pub IsHired : Caller → Caller → Type 0
IsHired boss hand = (hand.pass.lock ≡ boss.pass.lock) × (hand.pass.parts ≡ 1) × (hand.pass.origin ≡ boss.pass.origin)

-- The session of a worker after so many others. The sessions count from `first`, and continue at 0 after 255.
abbrev pub session_at : ℕ → ℕ → ℕ
session_at first i = (first + i) % 256

-- A client to which the passes of all of these were joined, one after another.
abbrev pub has_joined_all : List Caller → Caller → Caller
has_joined_all [] old = old
has_joined_all (hand ∷ hands) old = has_joined_all hands (has_joined old hand.pass)

-- What a team did that a client has hired and taken home again. For each work a client was split off, which did the work.
-- All of these clients were joined again. `hands` is what they are at their end.
pub record TeamDid {W : Type 0} (does : W → Caller → W → Caller → Type 0) (first : ℕ) (old new : Caller) (works done : List W) : Type 0 where
  pub hands : List Caller
  pub each : length hands ≡ length works
  pub all : length done ≡ length works
  pub did : (i : ℕ) (w : W) (c : Caller) → i < length works → does (slice_index_or works i w) (with_part_of old (session_at first i)) (slice_index_or done i w) (slice_index_or hands i c)
  pub kept : (i : ℕ) (c : Caller) → i < length works → Keeps (with_part_of old (session_at first i)) (slice_index_or hands i c)
  pub seen : All (λ (hand : Caller). IsPrefix hand.pass.seen new.pass.seen) hands
  pub later : IsPrefix old.pass.seen new.pass.seen
  pub joined : new ≡ has_joined_all hands (without_parts (length works) old)

module _ {I D O W P : Type 0} where
  -- A client has hired a worker for each work, the last one first. Each worker's client was split off from it.
  pub record HasHired (first : ℕ) (old new : Caller) (works : List W) (team : List (Worker I D O W P)) : Type 0 where
    pub works_are : works ≡ map (λ (hand : Worker I D O W P). hand.work) (reverse team)
    pub fresh : (i : ℕ) (hand : Worker I D O W P) → i < length team → (slice_index_or team i hand).client ≡ with_part_of old (session_at first (length team - 1 - i))
    pub given : new ≡ without_parts (length team) old

  -- A client has taken a team home, the last one first. The works are in the team's order, and the passes were joined in
  -- that order.
  pub record AreHome (old new : Caller) (team : List (Worker I D O W P)) (works : List W) : Type 0 where
    pub works_are : works ≡ map (λ (hand : Worker I D O W P). hand.work) (reverse team)
    pub joined : new ≡ has_joined_all (map (λ (hand : Worker I D O W P). hand.client) (reverse team)) old
    pub seen : All (λ (hand : Caller). IsPrefix hand.pass.seen new.pass.seen) (map (λ (hand : Worker I D O W P). hand.client) (reverse team))
    pub later : IsPrefix old.pass.seen new.pass.seen
