-- Worked values of the definitions.
use Rattle.std.specs.Prelude.{◌≡◌, [], ◌∷◌}
use Rattle.std.proofs.Common.{refl, inl, inr}
use Rattle.plain_list.specs.declared.entries.Entry.TheVariants.{Begin, Install, Abandon, Call}
use Rattle.plain_list.specs.declared.ops.Op.TheVariants.{Find}
use Rattle.book_lock.specs.Own.{times, once_below, merge}
use Rattle.book_lock.specs.Ends.{IsBegin, IsEnd, EndsSplit, longer, next_of}

two_lists : merge (1 ∷ 4 ∷ []) (0 ∷ 3 ∷ 5 ∷ []) ≡ 0 ∷ 1 ∷ 3 ∷ 4 ∷ 5 ∷ []
two_lists = refl

how_often : times 3 (0 ∷ 3 ∷ 5 ∷ 3 ∷ []) ≡ 2
how_often = refl

inside : once_below 4 5 ≡ 1
inside = refl

behind : once_below 5 5 ≡ 0
behind = refl

begun : IsBegin (Call 1 1 (Find 7) ∷ Begin 1 [] ∷ []) 1 1
begun = ([], refl)

ended : IsEnd (Begin 1 [] ∷ Install 1 ∷ []) 1 1
ended = (Install 1, refl, inl refl)

given_up : EndsSplit (Abandon 2) 2
given_up = inr refl

more : longer (Install 1 ∷ []) (Install 1 ∷ Install 2 ∷ []) ≡ Install 1 ∷ Install 2 ∷ []
more = refl

as_many : longer (Install 1 ∷ []) (Install 1 ∷ []) ≡ Install 1 ∷ []
as_many = refl

first_unseen : next_of (Begin 1 [] ∷ []) (Begin 1 [] ∷ Install 1 ∷ Install 2 ∷ []) ≡ Install 1
first_unseen = refl
