-- A store that nobody has called.
use Rattle.std.specs.Prelude.{◌≡◌, ℕ, None}
use Rattle.book_lock.specs.Pass.{Known}
use Rattle.book_lock.specs.declared.origin.Origin.{Origin}
use Rattle.store_file.specs.Opened.{first_pass}
use Rattle.store_client.specs.Caller.{Caller}

-- it calls in this session next, and has made no call
abbrev pub IsNewIn : ℕ → Caller → Type 0
IsNewIn session store = (store.session ≡ session) × (store.row ≡ 0) × (store.place ≡ 0) × (store.change ≡ None)

-- a store with this pass that does so
abbrev pub new_in : ℕ → Known → Caller
new_in session pass = record { pass = pass; session = session; row = 0; place = 0; change = None }

-- its history is empty, it begins here, and it has all parts
abbrev pub IsFreshIn : Origin → Caller → Type 0
IsFreshIn origin store = store ≡ new_in 0 (first_pass store.pass.lock origin)
