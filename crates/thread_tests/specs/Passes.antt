-- What tests say about passes and rows.
use mathlib.Core.List.{IsPrefix}
use Rattle.std.specs.Prelude.{◌≡◌, ℕ, ⊤, ◌++◌, List, [], ◌∷◌, length}
use Rattle.plain_list.specs.declared.entries.Entry.{Entry}
use Rattle.plain_list.specs.declared.ops.Op.{Op}
use Rattle.plain_list.specs.Answer.{IsValid}
use Rattle.book_lock.specs.Pass.{Known}

-- The pass has seen an entry last, after all that it had seen, and owns its position.
abbrev pub HasAdded : Entry → Known → Known → Type 0
HasAdded entry old new = (before : List Entry) × IsPrefix old.seen before × (new.seen ≡ before ++ entry ∷ []) × (new.own ≡ old.own ++ length before ∷ [])

-- Each of these rows is valid.
abbrev pub AreValid : List (ℕ × Op) → Type 0
AreValid [] = ⊤
AreValid (row ∷ rows) = IsValid row.1 × AreValid rows
