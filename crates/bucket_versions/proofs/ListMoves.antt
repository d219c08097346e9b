-- A list in which one item comes in the stead of another one, and those between move by one.
use Rattle.std.proofs.Common.{◌≡◌, ◌∙◌, ℕ, zero, suc, ◌+◌, ◌<◌, List, [], ◌∷◌, ◌++◌, length, take, drop, refl, sym, ap, arith, append_assoc, subst}
use Rattle.std.specs.List.{insert, remove, slice_set}
use Rattle.std.proofs.lemmas.List.{take_at, take_all}
use borrow.Rule.Slice.PartMut.{put_mid, mid_of}

at_first : {X : Type 0} (i m : ℕ) (xs : List X) (r : X) → m ≡ suc i → put_mid 0 m (r ∷ xs) (drop 1 (mid_of 0 m (r ∷ xs)) ++ take 1 (mid_of 0 m (r ∷ xs))) ≡ insert xs i r
at_first {X} i m xs r e =
    let P : ℕ → Type 0 = λ n. put_mid 0 n (r ∷ xs) (drop 1 (mid_of 0 n (r ∷ xs)) ++ take 1 (mid_of 0 n (r ∷ xs))) ≡ insert xs i r in
    subst P (sym e) (append_assoc (take i xs) (r ∷ []) (drop i xs))

-- to a place behind
pub moved_later : {X : Type 0} (a m i : ℕ) (xs : List X) (r : X) → suc i ≡ a + m → 0 < m → i < length xs
    → put_mid a m (slice_set xs a r) (drop 1 (mid_of a m (slice_set xs a r)) ++ take 1 (mid_of a m (slice_set xs a r))) ≡ insert (remove xs a) i r
moved_later a m i [] r e some lt = absurd (omega (arith, lt))
moved_later zero m i (x ∷ xs) r e some lt = at_first i m xs r (omega (arith, e))
moved_later (suc a) m zero (x ∷ xs) r e some lt = absurd (omega (arith, e, some))
moved_later (suc a) m (suc i) (x ∷ xs) r e some lt = ap (λ l. x ∷ l) (moved_later a m i xs r (omega (arith, e)) some (omega (arith, lt)))

last_set : {X : Type 0} (o : ℕ) (xs : List X) (r : X) → o < length xs → drop o (take (suc o) (slice_set xs o r)) ≡ r ∷ []
last_set o [] r lt = absurd (omega (arith, lt))
last_set zero (x ∷ xs) r lt = refl
last_set (suc o) (x ∷ xs) r lt = last_set o xs r (omega (arith, lt))

front_set : {X : Type 0} (o : ℕ) (xs : List X) (r : X) → o < length xs → take o (take (suc o) (slice_set xs o r)) ≡ take o xs
front_set o [] r lt = absurd (omega (arith, lt))
front_set zero (x ∷ xs) r lt = refl
front_set (suc o) (x ∷ xs) r lt = ap (λ l. x ∷ l) (front_set o xs r (omega (arith, lt)))

back_set : {X : Type 0} (o : ℕ) (xs : List X) (r : X) → o < length xs → drop (suc o) (slice_set xs o r) ≡ drop (suc o) xs
back_set o [] r lt = absurd (omega (arith, lt))
back_set zero (x ∷ xs) r lt = refl
back_set (suc o) (x ∷ xs) r lt = back_set o xs r (omega (arith, lt))

to_first : {X : Type 0} (o m k : ℕ) (xs : List X) (r : X) → m ≡ suc o → k ≡ o → o < length xs
    → put_mid 0 m (slice_set xs o r) (drop k (mid_of 0 m (slice_set xs o r)) ++ take k (mid_of 0 m (slice_set xs o r))) ≡ insert (remove xs o) 0 r
to_first {X} o m k xs r e f lt =
    let P : ℕ → Type 0 = λ n. put_mid 0 n (slice_set xs o r) (drop k (mid_of 0 n (slice_set xs o r)) ++ take k (mid_of 0 n (slice_set xs o r))) ≡ insert (remove xs o) 0 r in
    let Q : ℕ → Type 0 = λ j. put_mid 0 (suc o) (slice_set xs o r) (drop j (mid_of 0 (suc o) (slice_set xs o r)) ++ take j (mid_of 0 (suc o) (slice_set xs o r))) ≡ insert (remove xs o) 0 r in
    subst P (sym e) (subst Q (sym f) (λ j. (last_set o xs r lt j ++ front_set o xs r lt j) ++ back_set o xs r lt j))

-- to a place before
pub moved_sooner : {X : Type 0} (b m o k : ℕ) (xs : List X) (r : X) → suc o ≡ b + m → suc k ≡ m → o < length xs
    → put_mid b m (slice_set xs o r) (drop k (mid_of b m (slice_set xs o r)) ++ take k (mid_of b m (slice_set xs o r))) ≡ insert (remove xs o) b r
moved_sooner b m o k [] r e f lt = absurd (omega (arith, lt))
moved_sooner zero m o k (x ∷ xs) r e f lt = to_first o m k (x ∷ xs) r (omega (arith, e)) (omega (arith, e, f)) lt
moved_sooner (suc b) m zero k (x ∷ xs) r e f lt = absurd (omega (arith, e, f))
moved_sooner (suc b) m (suc o) k (x ∷ xs) r e f lt = ap (λ l. x ∷ l) (moved_sooner b m o k xs r (omega (arith, e)) f (omega (arith, lt)))

first_gone : {X : Type 0} (m k : ℕ) (x : X) (xs rest : List X) → m ≡ suc k → length xs ≡ k
    → take k (put_mid 0 m (x ∷ xs) (drop 1 (mid_of 0 m (x ∷ xs)) ++ take 1 (mid_of 0 m (x ∷ xs))) ++ rest) ≡ xs
first_gone {X} m k x xs rest e long =
    let P : ℕ → Type 0 = λ n. take k (put_mid 0 n (x ∷ xs) (drop 1 (mid_of 0 n (x ∷ xs)) ++ take 1 (mid_of 0 n (x ∷ xs))) ++ rest) ≡ xs in
    let all : take k xs ≡ xs = take_all k xs (omega (arith, long)) in
    let apart : ((take k xs ++ x ∷ []) ++ drop k xs) ++ rest ≡ take k xs ++ (x ∷ drop k xs ++ rest) =
    ap (λ l. l ++ rest) (append_assoc (take k xs) (x ∷ []) (drop k xs)) ∙ append_assoc (take k xs) (x ∷ drop k xs) rest in
    subst P (sym e) (ap (take k) apart ∙ take_at (take k xs) (x ∷ drop k xs ++ rest) k (ap length all ∙ long) ∙ all)

-- all that stood there but one item, once that was moved behind them
pub moved_out : {X : Type 0} (p m k : ℕ) (xs rest : List X) → p + m ≡ suc k → length xs ≡ suc k → 0 < m
    → take k (put_mid p m xs (drop 1 (mid_of p m xs) ++ take 1 (mid_of p m xs)) ++ rest) ≡ remove xs p
moved_out p m k [] rest e long some = absurd (omega (arith, long))
moved_out zero m k (x ∷ xs) rest e long some = first_gone m k x xs rest (omega (arith, e)) (omega (arith, long))
moved_out (suc p) m zero (x ∷ xs) rest e long some = absurd (omega (arith, e, some))
moved_out (suc p) m (suc k) (x ∷ xs) rest e long some = ap (λ l. x ∷ l) (moved_out p m k xs rest (omega (arith, e)) (omega (arith, long)) some)
