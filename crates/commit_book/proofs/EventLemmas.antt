-- Entries with more at the end.
use Rattle.std.proofs.Common.{◌≡◌, ◌-◌, List, [], ◌∷◌, ◌++◌, length, length-append, append_assoc, arith}
use Rattle.plain_list.specs.declared.entries.Entry.{Entry}
use Rattle.commit_book.specs.Events.{Events, with_entry, with_entries}

-- more entries, and then others
pub with-more : (xs ys : List Entry) (v : Events) → with_entries ys (with_entries xs v) ≡ with_entries (xs ++ ys) v
with-more xs ys v = λ i. record { entries = append_assoc v.entries xs ys i; room = room i; kept = v.kept }
  where
    room : (v.room - length xs) - length ys ≡ v.room - length (xs ++ ys)
    room = omega (arith, length-append xs ys)

-- more entries, and then one
pub with-one : (xs : List Entry) (e : Entry) (v : Events) → with_entry e (with_entries xs v) ≡ with_entries (xs ++ e ∷ []) v
with-one xs e v = with-more xs (e ∷ []) v
