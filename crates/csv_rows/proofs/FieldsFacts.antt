-- The fields of a record by their places.
use Rattle.std.proofs.Common.{◌≡◌, ◌≤◌, ℕ, zero, suc, List, [], ◌∷◌, length, Some, None, arith}
use Rattle.csv.specs.Records.{field_at}

-- a place without a field is behind the last one
pub field_at-none : (fields : List (List ℕ)) (i : ℕ) → field_at fields i ≡ None → length fields ≤ i
unfolding field_at
field_at-none [] i e = omega arith
field_at-none (f ∷ fields) zero e = cc e
field_at-none (f ∷ fields) (suc i) e = omega (arith, field_at-none fields i e)

-- the fields that stand at eight places are all of eight
pub eight_fields : (fields : List (List ℕ)) (a b c d e f g h : List ℕ) → length fields ≡ 8
    → field_at fields 0 ≡ Some a → field_at fields 1 ≡ Some b → field_at fields 2 ≡ Some c → field_at fields 3 ≡ Some d → field_at fields 4 ≡ Some e → field_at fields 5 ≡ Some f → field_at fields 6 ≡ Some g → field_at fields 7 ≡ Some h
    → fields ≡ a ∷ b ∷ c ∷ d ∷ e ∷ f ∷ g ∷ h ∷ []
unfolding field_at
eight_fields (z0 ∷ z1 ∷ z2 ∷ z3 ∷ z4 ∷ z5 ∷ z6 ∷ z7 ∷ []) a b c d e f g h n h0 h1 h2 h3 h4 h5 h6 h7 = cc
eight_fields [] a b c d e f g h n h0 h1 h2 h3 h4 h5 h6 h7 = cc h0
eight_fields (z0 ∷ []) a b c d e f g h n h0 h1 h2 h3 h4 h5 h6 h7 = cc h1
eight_fields (z0 ∷ z1 ∷ []) a b c d e f g h n h0 h1 h2 h3 h4 h5 h6 h7 = cc h2
eight_fields (z0 ∷ z1 ∷ z2 ∷ []) a b c d e f g h n h0 h1 h2 h3 h4 h5 h6 h7 = cc h3
eight_fields (z0 ∷ z1 ∷ z2 ∷ z3 ∷ []) a b c d e f g h n h0 h1 h2 h3 h4 h5 h6 h7 = cc h4
eight_fields (z0 ∷ z1 ∷ z2 ∷ z3 ∷ z4 ∷ []) a b c d e f g h n h0 h1 h2 h3 h4 h5 h6 h7 = cc h5
eight_fields (z0 ∷ z1 ∷ z2 ∷ z3 ∷ z4 ∷ z5 ∷ []) a b c d e f g h n h0 h1 h2 h3 h4 h5 h6 h7 = cc h6
eight_fields (z0 ∷ z1 ∷ z2 ∷ z3 ∷ z4 ∷ z5 ∷ z6 ∷ []) a b c d e f g h n h0 h1 h2 h3 h4 h5 h6 h7 = cc h7
eight_fields (z0 ∷ z1 ∷ z2 ∷ z3 ∷ z4 ∷ z5 ∷ z6 ∷ z7 ∷ z8 ∷ fields) a b c d e f g h n h0 h1 h2 h3 h4 h5 h6 h7 = absurd (omega arith)
