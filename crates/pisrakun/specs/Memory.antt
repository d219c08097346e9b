-- A store in memory without objects.
use Rattle.std.specs.Prelude.{◌≡◌, ℕ, false, [], ◌∷◌, None}
use Rattle.atomic_table.specs.Seated.{TableId}
use Rattle.book_lock.specs.Pass.{Known}
use Rattle.book_lock.specs.declared.origin.Origin.{Origin}
use Rattle.store_file.specs.Opened.{first_pass}

-- where such a store begins: one leaf, no objects and no log, and its book keeps no list of its entries
abbrev pub empty_origin : ℕ → Origin
empty_origin bucket = record { world = []; leaves = [] ∷ []; begun = 0; log = None; bucket = bucket; kept = false }

-- the pass has all parts of the store, whose history is empty
abbrev pub BeginsEmpty : ℕ → TableId → Known → Type 0
BeginsEmpty bucket lock pass = pass ≡ first_pass lock (empty_origin bucket)
