-- Leaves that a change leaves as they are, or without a delta.
use Rattle.std.proofs.Common.{◌≡◌, ◌⊎◌, inl, inr, Bool, true, false, cond, List, [], ◌∷◌, refl, sym, ap, ◌∙◌}
use Rattle.zorder.specs.SameName.{same_name, same_name-decides}
use Rattle.bucket_versions.specs.declared.row.Row.{Row}
use Rattle.bucket_versions.specs.Rows.{Rows}
use Rattle.index_layer.specs.Leaves.{Leaf, replaced}
use Rattle.plain_list.specs.State.{OpenSplit, is_splitting}
use Rattle.point_table.specs.Changes.{IsSettled, AreSettled}

pub settled_same : (splits : List OpenSplit) (leaves : List Leaf) → AreSettled splits leaves leaves
settled_same splits [] = tt
settled_same splits (l ∷ leaves) = (inl refl, settled_same splits leaves)

one_then : (splits : List OpenSplit) (old mid new : Leaf) → IsSettled splits old mid → IsSettled splits mid new → IsSettled splits old new
one_then splits old mid new first (inr later) = inr later
one_then splits old mid new (inl same) (inl again) = inl (again ∙ same)
one_then splits old mid new (inr (inl open_one)) (inl again) = inr (inl (ap (λ (l : Leaf). is_splitting splits l.name) again ∙ open_one))
one_then splits old mid new (inr (inr none)) (inl again) = inr (inr (ap (λ (l : Leaf). l.bucket.base) again ∙ none ∙ sym (ap (λ (l : Leaf). l.bucket.rows) again)))

-- one change after another
pub settled_then : (splits : List OpenSplit) (old mid new : List Leaf) → AreSettled splits old mid → AreSettled splits mid new → AreSettled splits old new
settled_then splits [] [] new first second = second
settled_then splits [] (m ∷ mid) new first second = absurd first
settled_then splits (o ∷ old) [] new first second = absurd first
settled_then splits (o ∷ old) (m ∷ mid) [] first second = absurd second
settled_then splits (o ∷ old) (m ∷ mid) (n ∷ new) first second = (one_then splits o m n first.0 second.0, settled_then splits old mid new first.1 second.1)

-- a bucket whose base is kept where a split is open, and else is its rows
pub open_or_none : (keeps is_open : Bool) (base rows : List Row) → keeps ≡ is_open → (is_open ≡ true) ⊎ (cond keeps base rows ≡ rows)
open_or_none true is_open base rows e = inl (sym e)
open_or_none false is_open base rows e = inr refl

-- such a bucket in the place of a leaf's
pub settled_replaced : (splits : List OpenSplit) (name : List Bool) (bucket : Rows) (leaves : List Leaf) → (is_splitting splits name ≡ true) ⊎ (bucket.base ≡ bucket.rows)
    → AreSettled splits leaves (replaced name bucket leaves)
settled_replaced splits name bucket [] is = tt
settled_replaced splits name bucket (l ∷ leaves) is = (by_test (same_name l.name name) refl is, settled_replaced splits name bucket leaves is)
  where
    by_test : (t : Bool) → same_name l.name name ≡ t → (is_splitting splits name ≡ true) ⊎ (bucket.base ≡ bucket.rows)
        → IsSettled splits l (cond t (record { name = l.name; bucket = bucket }) l)
    by_test false e is = inl refl
    by_test true e (inl open_one) = inr (inl (ap (is_splitting splits) ((same_name-decides l.name name).0 e) ∙ open_one))
    by_test true e (inr none) = inr (inr none)
