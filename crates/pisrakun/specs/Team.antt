-- What clients of a store did that it lent, and what a team did.
use Rattle.std.specs.Prelude.{◌≡◌, ℕ, ◌-◌, List}
use mathlib.Core.List.{IsPrefix}
use Rattle.sessions.specs.Steps.{all_parts}
use Rattle.store_client.specs.Caller.{Caller, Keeps, has_joined, without_parts, with_parts_of}
use Rattle.store_client.specs.Teams.{TeamDid}

-- the client that hires a team: it has all parts of the store but one, and has seen the same
abbrev pub boss_of : Caller → Caller
boss_of old = with_parts_of (all_parts - 1) old old.session

-- the store while that client has these parts
abbrev pub lent : Caller → Caller
lent old = without_parts (all_parts - 1) old

-- A client was split off, hired a hand for each work and took all home (`TeamDid`), and was joined again. It ends as `boss`.
pub record TeamWorked {W : Type 0} (does : W → Caller → W → Caller → Type 0) (first : ℕ) (old new : Caller) (works done : List W) : Type 0 where
  pub boss : Caller
  pub did : TeamDid does first (boss_of old) boss works done
  pub joined : new ≡ has_joined (lent old) boss.pass
  pub seen : IsPrefix boss.pass.seen new.pass.seen
  pub later : IsPrefix old.pass.seen new.pass.seen

-- A client was split off, an errand was done with it (`Done`), and it was joined again. It ends as `client`.
pub record DoneWith {A : Type 0} (Done : Caller → Caller → A → Type 0) (old new : Caller) (answer : A) : Type 0 where
  pub client : Caller
  pub done : Done (boss_of old) client answer
  pub kept : Keeps (boss_of old) client
  pub joined : new ≡ has_joined (lent old) client.pass
  pub seen : IsPrefix client.pass.seen new.pass.seen
  pub later : IsPrefix old.pass.seen new.pass.seen
