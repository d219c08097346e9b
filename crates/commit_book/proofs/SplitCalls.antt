-- A leaf that is full may be split.
use Rattle.std.proofs.Common.{◌≡◌, ℕ, ◌+◌, ◌≤◌, Bool, true, false, cond, not, List, [], ◌∷◌, length, Some, refl, sym, ap, subst, ◌∙◌}
use Rattle.std.specs.Prelude.{nat_lt, nat_le, ◌&&◌, ◌||◌}
use Rattle.std.specs.List.{find}
use Rattle.std.specs.Cmp.{first_so, second_so}
use Rattle.std.proofs.lemmas.Bool.{leb-true, not-true}
use Rattle.zorder.specs.SameName.{same_name, same_name-decides}
use Rattle.plain_list.specs.World.{places_of}
use Rattle.plain_list.specs.State.{State, is_splitting, is_leaf}
use Rattle.plain_list.specs.Size.{is_over, full_leaf}

-- a leaf that is full is one, has bits left, and no open split
pub record IsFree (w : ℕ) (s : State) (name : List Bool) : Type 0 where
  pub leaf : is_leaf s.leaves name ≡ true
  pub short : length name + w ≤ 64
  pub free : is_splitting s.splits name ≡ false

pub full_leaf-free : (w size : ℕ) (s : State) (name : List Bool) → full_leaf w size s ≡ Some name → IsFree w s name
full_leaf-free w size s name full = let parts = found s.leaves full in record { leaf = parts.0; short = parts.1; free = parts.2 }
  where
    same : (a b : List Bool) → Some a ≡ Some b → a ≡ b
    same a b e = cc e

    free_at : (n : List Bool) → (is_over w size (places_of s.world) n && not (is_splitting s.splits n)) ≡ true → (length n + w ≤ 64) × (is_splitting s.splits n ≡ false)
    free_at n e =
        let over = first_so (is_over w size (places_of s.world) n) (not (is_splitting s.splits n)) e in
        (leb-true (length n + w) 64 (second_so (nat_lt size _) (nat_le (length n + w) 64) over), not-true (is_splitting s.splits n) (second_so (is_over w size (places_of s.world) n) (not (is_splitting s.splits n)) e))

    or-true : (a b : Bool) → b ≡ true → (a || b) ≡ true
    or-true true b e = refl
    or-true false b e = e

    found : (names : List (List Bool)) → find (λ n. is_over w size (places_of s.world) n && not (is_splitting s.splits n)) names ≡ Some name
        → (is_leaf names name ≡ true) × (length name + w ≤ 64) × (is_splitting s.splits name ≡ false)
    found [] e = cc e
    found (n ∷ names) e = by_test (is_over w size (places_of s.world) n && not (is_splitting s.splits n)) refl e (found names)
      where
        by_test : (b : Bool) → (is_over w size (places_of s.world) n && not (is_splitting s.splits n)) ≡ b → cond b (Some n) (find (λ m. is_over w size (places_of s.world) m && not (is_splitting s.splits m)) names) ≡ Some name
            → (find (λ m. is_over w size (places_of s.world) m && not (is_splitting s.splits m)) names ≡ Some name → (is_leaf names name ≡ true) × (length name + w ≤ 64) × (is_splitting s.splits name ≡ false))
            → (is_leaf (n ∷ names) name ≡ true) × (length name + w ≤ 64) × (is_splitting s.splits name ≡ false)
        by_test true is here later =
            let one = same n name here in
            let parts = free_at n is in
            (ap (λ b. b || is_leaf names name) ((same_name-decides n name).1 one), subst (λ (m : List Bool). length m + w ≤ 64) one parts.0, ap (is_splitting s.splits) (sym one) ∙ parts.1)
        by_test false is there later = let rest = later there in (or-true (same_name n name) (is_leaf names name) rest.0, rest.1, rest.2)
