-- Prefixes of one history.
use Rattle.std.proofs.Common.{◌≡◌, ◌⊎◌, ℕ, zero, suc, ◌<◌, ◌≤◌, List, [], ◌∷◌, ◌++◌, length, Bool, true, false, refl, sym, ap, ◌∙◌, subst, ⊎_elim, inl, inr, arith, length-append, append_assoc}
use Rattle.std.proofs.lemmas.Bool.{ltb-true}
use Rattle.std.proofs.lemmas.Bool.Decides.{nat_tests}
use Rattle.std.specs.Prelude.{Some, slice_get, if◌then◌else◌, nat_lt}
use mathlib.Core.List.{IsPrefix, append-nil}
use Rattle.plain_list.specs.declared.entries.Entry.{Entry}
use Rattle.book_lock.specs.Ends.{next_of, longer, shorter}

module _ {A : Type 0} where
  pub prefix_refl : (xs : List A) → IsPrefix xs xs
  prefix_refl xs = ([], append-nil xs)

  pub prefix_trans : (xs ys zs : List A) → IsPrefix xs ys → IsPrefix ys zs → IsPrefix xs zs
  prefix_trans xs ys zs p q = (p.0 ++ q.0, sym (append_assoc xs p.0 q.0) ∙ (ap (λ l. l ++ q.0) p.1 ∙ q.1))

  pub prefix_longer : (xs ys zs : List A) → IsPrefix xs ys → IsPrefix xs (ys ++ zs)
  prefix_longer xs ys zs p = prefix_trans xs ys (ys ++ zs) p (zs, refl)

  pub prefix_length : (xs ys : List A) → IsPrefix xs ys → length xs ≤ length ys
  prefix_length xs ys p = let e = ap length (sym p.1) ∙ length-append xs p.0 in omega arith

  pub prefix_whole : (xs ys : List A) → IsPrefix xs ys → length ys ≤ length xs → xs ≡ ys
  prefix_whole xs ys (t, e) le = go t e
    where
      go : (t : List A) → xs ++ t ≡ ys → xs ≡ ys
      go [] e = sym (append-nil xs) ∙ e
      go (x ∷ t) e = let l = ap length (sym e) ∙ length-append xs (x ∷ t) in absurd (omega arith)

  -- Of two prefixes of one list, the shorter is a prefix of the longer.
  pub prefix_of_two : (xs ys log : List A) → IsPrefix xs log → IsPrefix ys log → length xs ≤ length ys → IsPrefix xs ys
  prefix_of_two [] ys log p q le = (ys, refl)
  prefix_of_two (x ∷ xs) [] log p q le = absurd (omega arith)
  prefix_of_two (x ∷ xs) (y ∷ ys) [] p q le = absurd (cc (p.1))
  prefix_of_two (x ∷ xs) (y ∷ ys) (z ∷ zs) p q le =
      let head : x ≡ y = cc (p.1, q.1) in
      let more = prefix_of_two xs ys zs (p.0, cc (p.1)) (q.0, cc (q.1)) (omega arith) in
      (more.0, (λ i. head i ∷ more.1 i))

  pub get_prefix : (xs ys : List A) (k : ℕ) (x : A) → IsPrefix xs ys → slice_get xs k ≡ Some x → slice_get ys k ≡ Some x
  get_prefix xs ys k x (t, e) h = subst (λ l. slice_get l k ≡ Some x) e (front xs t k h)
    where
      front : (xs t : List A) (k : ℕ) → slice_get xs k ≡ Some x → slice_get (xs ++ t) k ≡ Some x
      front [] t k h = absurd (cc)
      front (y ∷ xs) t zero h = h
      front (y ∷ xs) t (suc k) h = front xs t k h

  pub get_below : (xs : List A) (k : ℕ) (x : A) → slice_get xs k ≡ Some x → k < length xs
  get_below [] k x h = absurd (cc)
  get_below (y ∷ xs) zero x h = omega arith
  get_below (y ∷ xs) (suc k) x h = let l = get_below xs k x h in omega arith

  pub get_last : (xs : List A) (e : A) → slice_get (xs ++ e ∷ []) (length xs) ≡ Some e
  get_last [] e = refl
  get_last (x ∷ xs) e = get_last xs e

  -- The entries of a list with one more.
  pub get_snoc : (xs : List A) (e : A) (k : ℕ) (x : A) → slice_get (xs ++ e ∷ []) k ≡ Some x → (slice_get xs k ≡ Some x) ⊎ ((k ≡ length xs) × (e ≡ x))
  get_snoc [] e zero x h = inr (refl, cc)
  get_snoc [] e (suc k) x h = absurd (cc)
  get_snoc (y ∷ xs) e zero x h = inl h
  get_snoc (y ∷ xs) e (suc k) x h = ⊎_elim (λ i. inl i) (λ t. inr (ap suc t.0, t.1)) (get_snoc xs e k x h)

pub next_of-after : (seen : List Entry) (e : Entry) (rest : List Entry) → next_of seen (seen ++ e ∷ rest) ≡ e
next_of-after [] e rest = refl
next_of-after (x ∷ xs) e rest = next_of-after xs e rest

pub longer_begins : (xs ys log : List Entry) → IsPrefix xs log → IsPrefix ys log → IsPrefix (longer xs ys) log × IsPrefix (shorter xs ys) log
longer_begins xs ys log p q = go (nat_lt (length xs) (length ys))
  where
    go : (b : Bool) → IsPrefix (if b then ys else xs) log × IsPrefix (if b then xs else ys) log
    go true = (q, p)
    go false = (p, q)

pub longer_length : (xs ys : List Entry) → (length xs ≤ length (longer xs ys)) × (length ys ≤ length (longer xs ys)) × (length (shorter xs ys) ≤ length (longer xs ys))
longer_length xs ys = go (nat_lt (length xs) (length ys)) refl
  where
    go : (b : Bool) → nat_lt (length xs) (length ys) ≡ b → (length xs ≤ length (if b then ys else xs)) × (length ys ≤ length (if b then ys else xs)) × (length (if b then xs else ys) ≤ length (if b then ys else xs))
    go true e = let lt = ltb-true _ _ e in (omega arith, omega arith, omega arith)
    go false e = let le : length ys ≤ length xs = grind (arith, nat_tests) in (omega arith, omega arith, omega arith)
