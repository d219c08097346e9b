-- A step of two bits down a node of four children.
use Rattle.std.proofs.Common.{◌≡◌, ◌-◌, ◌==◌, ◌≤◌, ◌∙◌, ℕ, suc, Bool, true, false, List, ◌∷◌, length, refl, sym, ap, arith}
use Rattle.std.specs.Int.{bit_at}
use Rattle.zorder.specs.Bits.{low_bits}
use Rattle.bit_trie.specs.Tries.{Trie, height, name_at, bucket_at}
use Rattle.bit_trie.specs.Ways.{Fits}
use Rattle.quad_trie.specs.declared.node.Quad.{Quad}
use Rattle.quad_trie.specs.Nodes.{four, quarter_of}

-- the next two of so many last bits
pub two_bits : (left key : ℕ) (high low : Bool) → 2 ≤ left → high ≡ (bit_at key (left - 1) == 1) → low ≡ (bit_at key (left - 1 - 1) == 1) → low_bits left key ≡ high ∷ low ∷ low_bits (left - 2) key
two_bits left key high low some first second =
    let all : left ≡ suc (suc (left - 2)) = omega (arith, some) in
    let one : suc (left - 2) ≡ left - 1 = omega (arith, some) in
    let two : left - 2 ≡ left - 1 - 1 = omega (arith, some) in
    ap (λ (n : ℕ). low_bits n key) all
    ∙ (λ i. ((ap (λ (n : ℕ). bit_at key n == 1) one ∙ sym first) i) ∷ ((ap (λ (n : ℕ). bit_at key n == 1) two ∙ sym second) i) ∷ low_bits (left - 2) key)

module _ (q : Quad) (path : List Bool) where
  pub bucket-two : (high low : Bool) → bucket_at (high ∷ low ∷ path) (four q) ≡ bucket_at path (quarter_of q high low)
  bucket-two true true = refl
  bucket-two true false = refl
  bucket-two false true = refl
  bucket-two false false = refl

  pub name-two : (high low : Bool) → length (name_at (high ∷ low ∷ path) (four q)) ≡ suc (suc (length (name_at path (quarter_of q high low))))
  name-two true true = refl
  name-two true false = refl
  name-two false true = refl
  name-two false false = refl

-- a quarter is two bits lower
pub height-two : (q : Quad) (high low : Bool) → suc (suc (height (quarter_of q high low))) ≤ height (four q)
height-two q true true = omega arith
height-two q true false = omega arith
height-two q false true = omega arith
height-two q false false = omega arith

-- what is known behind a step of two bits
pub record Step (left key : ℕ) (t : Trie) (q : Quad) (high low : Bool) (u : Trie) : Type 0 where
  pub some : 2 ≤ left
  pub fits : Fits (left - 2) u
  pub is : t ≡ four q
  pub bits : low_bits left key ≡ high ∷ low ∷ low_bits (left - 2) key
  pub quarter : u ≡ quarter_of q high low

pub step : {left key : ℕ} {t : Trie} {q : Quad} {high low : Bool} {u : Trie} → Fits left t → t ≡ four q → high ≡ (bit_at key (left - 1) == 1) → low ≡ (bit_at key (left - 1 - 1) == 1)
    → u ≡ quarter_of q high low → Step left key t q high low u
step {left} {key} {t} {q} {high} {low} {u} fits is first second quarter =
    let few : suc (suc (height u)) ≤ left = omega (arith, fits.height, ap height is, height-two q high low, ap height quarter) in
    let some : 2 ≤ left = omega (arith, few) in
    record {
      some = some;
      fits = record { height = omega (arith, few); most = omega (arith, fits.most) };
      is = is;
      bits = two_bits left key high low some first second;
      quarter = quarter;
    }

pub bucket-step : {left key : ℕ} {t : Trie} {q : Quad} {high low : Bool} {u : Trie} → Step left key t q high low u → bucket_at (low_bits left key) t ≡ bucket_at (low_bits (left - 2) key) u
bucket-step {left} {key} {t} {q} {high} {low} s =
    (λ i. bucket_at (s.bits i) (s.is i)) ∙ bucket-two q (low_bits (left - 2) key) high low ∙ ap (bucket_at (low_bits (left - 2) key)) (sym s.quarter)

pub name-step : {left key : ℕ} {t : Trie} {q : Quad} {high low : Bool} {u : Trie} → Step left key t q high low u → length (name_at (low_bits left key) t) ≡ suc (suc (length (name_at (low_bits (left - 2) key) u)))
name-step {left} {key} {t} {q} {high} {low} s =
    (λ i. length (name_at (s.bits i) (s.is i))) ∙ name-two q (low_bits (left - 2) key) high low ∙ ap (λ (v : Trie). suc (suc (length (name_at (low_bits (left - 2) key) v)))) (sym s.quarter)
