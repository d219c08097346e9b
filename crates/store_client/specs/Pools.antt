-- Clients of a pool, which threads share: who has one, and what is left when all are home.
use Rattle.std.specs.Prelude.{◌≡◌, ℕ, ◌+◌, ◌<◌, List, length, slice_index_or}
use mathlib.Core.List.{IsPrefix}
use Rattle.book_lock.specs.Pass.{Known}
use Rattle.store_client.specs.Caller.{Caller}

-- A client with one part of the store that lends it. It has seen all that the store had seen.
pub record IsGuest (lender : Known) (guest : Caller) : Type 0 where
  pub lock_is : guest.pass.lock ≡ lender.lock
  pub origin_is : guest.pass.origin ≡ lender.origin
  pub one_part : guest.pass.parts ≡ 1
  pub later : IsPrefix lender.seen guest.pass.seen

-- A caller's session, the number of its next row, the place of its last answer, and what that call has changed stay the same.
abbrev pub SameLabel : Caller → Caller → Type 0
SameLabel old new = (new.session ≡ old.session) × (new.row ≡ old.row) × (new.place ≡ old.place) × (new.change ≡ old.change)

-- A client to which this many parts came back. Apart from them, only what it has seen and owns changed.
pub record HasHome (n : ℕ) (old new : Caller) : Type 0 where
  pub lock_is : new.pass.lock ≡ old.pass.lock
  pub origin_is : new.pass.origin ≡ old.pass.origin
  pub parts_are : new.pass.parts ≡ old.pass.parts + n
  pub label : SameLabel old new
  pub later : IsPrefix old.pass.seen new.pass.seen

-- A client that lent guests, and has all of them back. Only what it has seen and owns changed.
pub record HasHosted (old new : Caller) : Type 0 where
  pub lock_is : new.pass.lock ≡ old.pass.lock
  pub origin_is : new.pass.origin ≡ old.pass.origin
  pub parts_are : new.pass.parts ≡ old.pass.parts
  pub label : SameLabel old new
  pub later : IsPrefix old.pass.seen new.pass.seen

-- Each of a crew did its work while such a store lent clients.
abbrev pub AllServed : {S : Type 0} → (S → Known → S → Type 0) → Known → List S → List S → Type 0
AllServed {S} does lender old new = (i : ℕ) (d : S) → i < length old → does (slice_index_or old i d) lender (slice_index_or new i d)
