-- The numbers of a name: which masks give them, and that they give the name back.
use Rattle.std.proofs.Common.{◌≡◌, ◌≢◌, ℕ, zero, suc, ◌+◌, ◌-◌, ◌*◌, ◌/◌, ◌%◌, ◌^◌, ◌<◌, ◌≤◌, inl, inr, Bool, true, false, ◌==◌, List, [], ◌∷◌, ◌++◌, length, take, refl, sym, ◌∙◌, ap, arith, subst}
use Rattle.std.specs.Prelude.{bit_and, bit_or}
use Rattle.std.proofs.Math.Nat.{mod-lt, mod-eq_of_lt, mul-mod_left, pow-succ'}
use Rattle.std.proofs.lemmas.Bool.{cases_lt, eq-eqb, eqb-true}
use Rattle.std.proofs.lemmas.Nat.{pow_pos, shr_split, or_shifted, shl_whole, mod-pow-add, div-mul-add}
use Rattle.std.proofs.lemmas.Nat.Bits.{and_high_mask, bit_at-lt, bit_at_cat_low, bit_at-zero}
use mir.Val.{bool_byte}
use Rattle.std.specs.Cmp.{both_ways}
use Rattle.std.specs.Int.{bit_at}
use Rattle.zorder.specs.Bits.{low_bits, high_number}
use Rattle.zorder.specs.Key.{key_bits, is_under}
use Rattle.zorder.specs.Name.{first_key, bits_of, inside_of, IsName, IsNoName, Named, high_number-low_bits, length-name}
use Rattle.zorder.proofs.Ranges.{high_number-end, high_number-multiple, range-front, under-range, range-under}
use Rattle.zorder.proofs.Places.{at_most}
use Rattle.zorder.proofs.Tiles.{first_left, first_right}

module _ (name : List Bool) (short : length name ≤ 64) where
  -- the first key of a name has no bit behind those of the name
  pub first_key-multiple : (q : ℕ) × (first_key name ≡ q * 2 ^ (64 - length name))
  unfolding first_key
  first_key-multiple = high_number-multiple 64 name short

  pub first_key-end : first_key name + 2 ^ (64 - length name) ≤ 2 ^ 64
  unfolding first_key
  first_key-end = high_number-end 64 name short

  pub first_key-lt : first_key name < 2 ^ 64
  first_key-lt = omega (arith, first_key-end, pow_pos (64 - length name))

  pub IsName-inside_of : IsName (inside_of name)
  IsName-inside_of =
      let (q, is) = first_key-multiple in
      record { len = short; fits = first_key-lt; unused = ap (λ n. n % 2 ^ (64 - length name)) is ∙ mul-mod_left q (2 ^ (64 - length name)) }

  pub bits_of-inside_of : bits_of (inside_of name) ≡ name
  unfolding key_bits first_key
  bits_of-inside_of =
      range-front 64 (high_number 64 name) name short (omega (arith, high_number-end 64 name short, pow_pos (64 - length name))) (omega arith) (omega (arith, pow_pos (64 - length name)))

  -- what two numbers stand for, where they are those of a name
  pub bits_of-made : (bits len : ℕ) → bits ≡ first_key name → len ≡ length name → bits_of (record { bits = bits; len = len }) ≡ name
  bits_of-made bits len eb el = (λ i. bits_of (record { bits = eb i; len = el i })) ∙ bits_of-inside_of

  pub IsName-made : (bits len : ℕ) → bits ≡ first_key name → len ≡ length name → IsName (record { bits = bits; len = len })
  IsName-made bits len eb el =
      let same : inside_of name ≡ record { bits = bits; len = len } = λ i. record { bits = sym eb i; len = sym el i } in
      subst IsName same IsName-inside_of

  -- a key is under a name exactly where the mask leaves the name's number of it
  pub is_under-mask : (k : ℕ) → k < 2 ^ 64 → is_under name k ≡ (bit_and k (2 ^ 64 - 2 ^ (64 - length name)) == first_key name)
  is_under-mask k fits =
      let m : ℕ = 64 - length name in
      let masked : bit_and k (2 ^ 64 - 2 ^ m) ≡ k / 2 ^ m * 2 ^ m = and_high_mask 64 m (omega arith) k fits in
      let (q, is) = first_key-multiple in
      both_ways _ _
      (λ e. let range = under-range name k short fits e in
      let rest : k - first_key name < 2 ^ m = omega (arith, range.0, range.1, pow_pos m) in
      let parts : k ≡ q * 2 ^ m + (k - first_key name) = omega (arith, range.0, is) in
      let quotient : k / 2 ^ m ≡ q = ap (λ n. n / 2 ^ m) parts ∙ div-mul-add q (2 ^ m) (k - first_key name) rest in
      eq-eqb _ _ (masked ∙ ap (λ n. n * 2 ^ m) quotient ∙ sym is))
      (λ e. let same : k / 2 ^ m * 2 ^ m ≡ first_key name = sym masked ∙ eqb-true _ _ e in
      let split = shr_split k m in
      let low : k % 2 ^ m < 2 ^ m = mod-lt k (pow_pos m) in
      range-under name k short fits (omega (arith, same, split)) (omega (arith, same, split, low)))

-- the number of a key's first bits is what the mask leaves of the key
pub first_key-take : (k len : ℕ) → len ≤ 64 → k < 2 ^ 64 → bit_and k (2 ^ 64 - 2 ^ (64 - len)) ≡ first_key (take len (key_bits k))
unfolding key_bits first_key
first_key-take k len le fits =
    let m : ℕ = 64 - len in
    let sum : high_number 64 (take len (low_bits 64 k)) + k % 2 ^ m ≡ k % 2 ^ 64 = high_number-low_bits 64 len k le in
    and_high_mask 64 m (omega arith) k fits ∙ (omega (arith, sum, mod-eq_of_lt fits, shr_split k m))

pub length-take_bits : (k len : ℕ) → len ≤ 64 → length (take len (key_bits k)) ≡ len
unfolding key_bits
length-take_bits k len le = length-name 64 len k le

bool_byte-le : (b : Bool) → bool_byte b ≤ 1
bool_byte-le true = omega arith
bool_byte-le false = omega arith

-- the number of a name with one bit more
pub first_key-child : (name : List Bool) (b : Bool) → length name + 1 ≤ 64 → first_key (name ++ b ∷ []) ≡ first_key name + bool_byte b * 2 ^ (63 - length name)
first_key-child name true room = first_right name room ∙ (omega arith)
first_key-child name false room = first_left name room ∙ (omega arith)

pub first_key-or : (name : List Bool) (b : Bool) → length name + 1 ≤ 64
    → bit_or (first_key name) (bool_byte b * 2 ^ (63 - length name) % 2 ^ 64) ≡ first_key (name ++ b ∷ [])
first_key-or name b room =
    let m : ℕ = 64 - length name in
    let (q, is) = first_key-multiple name (omega arith) in
    let small : bool_byte b < 2 ^ 1 = omega (arith, bool_byte-le b) in
    let whole : bool_byte b * 2 ^ (63 - length name) % 2 ^ 64 ≡ bool_byte b * 2 ^ (63 - length name) = shl_whole (bool_byte b) 1 (63 - length name) 64 small (omega arith) in
    let e : m ≡ suc (63 - length name) = omega (arith, room) in
    let double : 2 ^ m ≡ 2 * 2 ^ (63 - length name) = ap (λ k. 2 ^ k) e ∙ pow-succ' 2 (63 - length name) in
    let less : bool_byte b * 2 ^ (63 - length name) < 2 ^ m = omega (arith, double, at_most (bool_byte b) (2 ^ (63 - length name)) (omega (arith, bool_byte-le b)), pow_pos (63 - length name)) in
    (λ i. bit_or (is i) (whole i)) ∙ or_shifted q m (bool_byte b * 2 ^ (63 - length name)) less
    ∙ (λ i. sym is i + bool_byte b * 2 ^ (63 - length name)) ∙ sym (first_key-child name b room)

-- a number that has no bit behind the first so many
pub masked-unused : (bits len : ℕ) → len ≤ 64 → bits < 2 ^ 64 → bit_and bits (2 ^ 64 - 2 ^ (64 - len)) ≡ bits → bits % 2 ^ (64 - len) ≡ 0
masked-unused bits len le fits e =
    omega (arith, e, and_high_mask 64 (64 - len) (omega arith) bits fits, shr_split bits (64 - len))

pub unused-masked : (bits len : ℕ) → len ≤ 64 → bits < 2 ^ 64 → bits % 2 ^ (64 - len) ≡ 0 → bit_and bits (2 ^ 64 - 2 ^ (64 - len)) ≡ bits
unused-masked bits len le fits e =
    and_high_mask 64 (64 - len) (omega arith) bits fits ∙ (omega (arith, e, shr_split bits (64 - len)))

-- a number whose lowest bits are 0 has none of them set, and one whose lowest bits aren't has one
pub low-none : (n m i : ℕ) → n % 2 ^ m ≡ 0 → i < m → bit_at n i ≡ 0
low-none n m i e h =
    ap (λ k. bit_at k i) (sym (shr_split n m)) ∙ bit_at_cat_low (n / 2 ^ m) m (n % 2 ^ m) i h ∙ ap (λ k. bit_at k i) e ∙ bit_at-zero i

pub low-some : (n m : ℕ) → n % 2 ^ m ≢ 0 → (i : ℕ) × (i < m) × (bit_at n i ≡ 1)
low-some n zero h = absurd (h (omega arith))
low-some n (suc m) h =
    let one : suc m ≡ 1 + m = omega arith in
    let parts : n % 2 ^ suc m ≡ bit_at n m * 2 ^ m + n % 2 ^ m = ap (λ k. n % 2 ^ k) one ∙ mod-pow-add n 1 m in
    elim (cases_lt (bit_at n m) 1) [
      | inl l ↦
          let none : bit_at n m ≡ 0 = omega arith in
          let (i, less, set) = low-some n m (λ e. h (omega (arith, parts, ap (λ b. b * 2 ^ m) none, e))) in
          (i, omega (arith, less), set)
      | inr g ↦ (m, omega arith, omega (arith, g, bit_at-lt n m))
    ]

-- when two numbers are no name's, and when they are
pub no_name-stray : (bits len : ℕ) → len ≤ 64 → bits < 2 ^ 64 → bit_and bits (2 ^ 64 - 2 ^ (64 - len)) ≢ bits → IsNoName bits len
no_name-stray bits len le fits h =
    let (i, less, set) = low-some bits (64 - len) (λ e. h (unused-masked bits len le fits e)) in
    inr (i, omega (arith, less), set)

pub name-sound : (bits len : ℕ) → len ≤ 64 → bits < 2 ^ 64 → bit_and bits (2 ^ 64 - 2 ^ (64 - len)) ≡ bits → IsNoName bits len → ⊥
name-sound bits len le fits e (inl long) = omega arith
name-sound bits len le fits e (inr stray) =
    let (i, less, set) = stray in
    let none : bit_at bits i ≡ 0 = low-none bits (64 - len) i (masked-unused bits len le fits e) (omega (arith, less)) in
    omega (arith, none, set)

pub name-named : (bits len : ℕ) → len ≤ 64 → bits < 2 ^ 64 → bit_and bits (2 ^ 64 - 2 ^ (64 - len)) ≡ bits → Named bits len (bits_of (record { bits = bits; len = len }))
name-named bits len le fits e =
    record { front = refl; bits = sym (first_key-take bits len le fits) ∙ e; len = length-take_bits bits len le }
