-- The names that are left during a walk over the leaves.
use Rattle.std.proofs.Common.{◌≡◌, ℕ, zero, suc, ◌+◌, ◌-◌, ◌%◌, ◌^◌, ◌<◌, ◌≤◌, Bool, true, false, ◌&&◌, ◌==◌, List, [], ◌∷◌, length, map, take, drop, get_or, cond, refl, sym, ◌∙◌, ap, arith, length-take}
use Rattle.std.specs.List.{filter}
use Rattle.std.proofs.lemmas.Bool.{eq-eqb, ne_eqb}
use Rattle.std.proofs.lemmas.Nat.{pow_pos}
use Rattle.std.proofs.lemmas.List.{drop_all, drop_more, take-take, length-map}
use Rattle.zorder.specs.Bits.{high_number}
use Rattle.zorder.specs.Key.{key_bits}
use Rattle.zorder.specs.Name.{first_key}
use Rattle.zorder.proofs.Ranges.{high_number-end, range-front}
use Rattle.log_compact.specs.Fresh.{proper_prefixes}
use Rattle.log_compact.specs.Walk.{is_first, left_at}

length-proper_prefixes : (name : List Bool) → length (proper_prefixes name) ≡ length name
length-proper_prefixes [] = refl
length-proper_prefixes (b ∷ name) = ap suc (length-map (proper_prefixes name) (λ (p : List Bool). b ∷ p) ∙ length-proper_prefixes name)

get_or-map_bit : (b : Bool) (names : List (List Bool)) (k : ℕ) → k < length names → get_or (map (λ p. b ∷ p) names) k [] ≡ b ∷ get_or names k []
get_or-map_bit b [] k lt = absurd (omega (arith, lt))
get_or-map_bit b (n ∷ names) zero lt = refl
get_or-map_bit b (n ∷ names) (suc k) lt = get_or-map_bit b names k (omega (arith, lt))

get_or-proper_prefixes : (name : List Bool) (k : ℕ) → k < length name → get_or (proper_prefixes name) k [] ≡ take k name
get_or-proper_prefixes [] k lt = absurd (omega (arith, lt))
get_or-proper_prefixes (b ∷ name) zero lt = refl
get_or-proper_prefixes (b ∷ name) (suc k) lt =
    get_or-map_bit b (proper_prefixes name) k (omega (arith, lt, length-proper_prefixes name)) ∙ ap (λ (l : List Bool). b ∷ l) (get_or-proper_prefixes name k (omega (arith, lt)))

-- The prefix of `k` bits is the next name, if it is one of the names.
pub left_at-next : (w : ℕ) (leaf : List Bool) (k : ℕ) → k < length leaf
    → left_at w leaf k ≡ cond (is_first w leaf (take k leaf)) (take k leaf ∷ left_at w leaf (k + 1)) (left_at w leaf (k + 1))
left_at-next w leaf k lt =
    ap (filter (is_first w leaf))
    (drop_more (proper_prefixes leaf) k [] (omega (arith, lt, length-proper_prefixes leaf))
    ∙ ap (λ (p : List Bool). p ∷ drop (k + 1) (proper_prefixes leaf)) (get_or-proper_prefixes leaf k lt))

pub left_at-none : (w : ℕ) (leaf : List Bool) (k : ℕ) → length leaf ≤ k → left_at w leaf k ≡ []
left_at-none w leaf k le = ap (filter (is_first w leaf)) (drop_all k (proper_prefixes leaf) (omega (arith, le, length-proper_prefixes leaf)))

-- The first bits of a name's first key are those of the name.
key_again : (name : List Bool) → length name ≤ 64 → take (length name) (key_bits (first_key name)) ≡ name
unfolding key_bits first_key
key_again name le =
    let fits : high_number 64 name < 2 ^ 64 = omega (arith, high_number-end 64 name le, pow_pos (64 - length name)) in
    range-front 64 (high_number 64 name) name le fits (omega arith) (omega (arith, pow_pos (64 - length name)))

pub first_bits-again : (name : List Bool) (k : ℕ) → length name ≤ 64 → k ≤ length name → take k (key_bits (first_key name)) ≡ take k name
first_bits-again name k short le =
    sym (take-take k (length name) (key_bits (first_key name)) le) ∙ ap (take k) (key_again name short)

-- The tests of a prefix.
module _ (w : ℕ) (leaf name : List Bool) (k : ℕ) (short : length leaf ≤ 64) (lt : k < length leaf) (is : name ≡ take k (key_bits (first_key leaf))) where
  name-is : name ≡ take k leaf
  name-is = is ∙ first_bits-again leaf k short (omega (arith, lt))

  pub long : length name ≡ k
  long = ap length name-is ∙ length-take k leaf ∙ (omega arith)

  next : left_at w leaf k ≡ cond (is_first w leaf name) (name ∷ left_at w leaf (k + 1)) (left_at w leaf (k + 1))
  next = left_at-next w leaf k lt ∙ ap (λ (n : List Bool). cond (is_first w leaf n) (n ∷ left_at w leaf (k + 1)) (left_at w leaf (k + 1))) (sym name-is)

  chosen : (t : Bool) → is_first w leaf name ≡ t → left_at w leaf k ≡ cond t (name ∷ left_at w leaf (k + 1)) (left_at w leaf (k + 1))
  chosen t e = next ∙ ap (λ b. cond b (name ∷ left_at w leaf (k + 1)) (left_at w leaf (k + 1))) e

  aligned : (b : Bool) → (k % w == 0) ≡ b → is_first w leaf name ≡ (b && (first_key name == first_key leaf))
  aligned b e = ap (λ n. (n % w == 0) && (first_key name == first_key leaf)) long ∙ ap (λ t. t && (first_key name == first_key leaf)) e

  -- The prefix is one of the names.
  pub is-next : k % w ≡ 0 → first_key name ≡ first_key leaf → left_at w leaf k ≡ name ∷ left_at w leaf (length name + 1)
  is-next at same =
      chosen true (aligned true (eq-eqb (k % w) 0 at) ∙ eq-eqb (first_key name) (first_key leaf) same)
      ∙ ap (λ n. name ∷ left_at w leaf (n + 1)) (sym long)

  -- The prefix isn't one of the names, because of its length or its key.
  pub not-aligned : (k % w ≡ 0 → ⊥) → left_at w leaf k ≡ left_at w leaf (k + 1)
  not-aligned off = chosen false (aligned false (ne_eqb (k % w) 0 off))

  pub not-first : k % w ≡ 0 → (first_key name ≡ first_key leaf → ⊥) → left_at w leaf k ≡ left_at w leaf (k + 1)
  not-first at other = chosen false (aligned true (eq-eqb (k % w) 0 at) ∙ ne_eqb (first_key name) (first_key leaf) other)
