-- The names of a name's children.
use Rattle.std.proofs.Common.{◌≡◌, ◌⊎◌, inl, inr, ℕ, zero, suc, ◌+◌, ◌-◌, ◌*◌, ◌%◌, ◌^◌, ◌<◌, ◌≤◌, Bool, true, false, List, [], ◌∷◌, ◌++◌, length, map, drop, Some, slice_get, refl, sym, ap, subst, ◌∙◌, arith, append_assoc, length-append}
use Rattle.std.specs.List.{AllByRecursion}
use Rattle.std.proofs.lemmas.Nat.{pow_pos}
use Rattle.zorder.specs.Width.{IsWidth}
use Rattle.zorder.specs.Name.{first_key}
use Rattle.zorder.specs.Tile.{bit_lists, children}
use Rattle.zorder.proofs.Tiles.{first_left, first_right}
use Rattle.bucket_versions.specs.declared.row.Row.{Row}
use Rattle.index_layer.specs.Leaves.{EachUnder, AreAllUnder}
use Rattle.split_prepare.specs.Cut.{cut_out, cut}
use Rattle.split_prepare.proofs.CutLemmas.{AreUnder-rows_under}

-- each list is so long
abbrev pub AreLong : ℕ → List (List Bool) → Type 0
AreLong w lists = AllByRecursion (λ (bits : List Bool). length bits ≡ w) lists

longer_lists : (b : Bool) (w : ℕ) (lists : List (List Bool)) → AreLong w lists → AreLong (suc w) (map (λ bits. b ∷ bits) lists)
longer_lists b w [] all = tt
longer_lists b w (l ∷ lists) all = (ap suc all.0, longer_lists b w lists all.1)

both_long : (w : ℕ) (front back : List (List Bool)) → AreLong w front → AreLong w back → AreLong w (front ++ back)
both_long w [] back f b = b
both_long w (l ∷ front) back f b = (f.0, both_long w front back f.1 b)

-- so many bits more have so many bits
pub bit_lists-long : (w : ℕ) → AreLong w (bit_lists w)
bit_lists-long zero = (refl, tt)
bit_lists-long (suc w) =
    both_long (suc w) (map (λ bits. false ∷ bits) (bit_lists w)) (map (λ bits. true ∷ bits) (bit_lists w))
    (longer_lists false w (bit_lists w) (bit_lists-long w)) (longer_lists true w (bit_lists w) (bit_lists-long w))

-- how many children there are, as a shift gives it
pub shifted : (v w : ℕ) → v ≡ w → IsWidth w → (1 * 2 ^ v) % 18446744073709551616 ≡ 2 ^ w
shifted v w same (inl e) = (λ i. (1 * 2 ^ (same ∙ e) i) % 18446744073709551616) ∙ (λ i. 2 ^ sym e i)
shifted v w same (inr e) = (λ i. (1 * 2 ^ (same ∙ e) i) % 18446744073709551616) ∙ (λ i. 2 ^ sym e i)

pub width-positive : (w : ℕ) → IsWidth w → 0 < w
width-positive w (inl e) = omega (arith, e)
width-positive w (inr e) = omega (arith, e)

-- a child's name goes on from the name by so many bits
pub record IsChild (w : ℕ) (name child : List Bool) : Type 0 where
  pub bits : List Bool
  pub is : child ≡ name ++ bits
  pub long : length child ≡ length name + w

some_same : {A : Type 0} (a b : A) → Some a ≡ Some b → a ≡ b
some_same a b e = cc e

from_lists : (w : ℕ) (name : List Bool) (lists : List (List Bool)) (i : ℕ) (child : List Bool) → AreLong w lists → slice_get (map (λ bits. name ++ bits) lists) i ≡ Some child → IsChild w name child
from_lists w name [] i child all at = absurd (cc at)
from_lists w name (bits ∷ lists) zero child all at =
    let same : name ++ bits ≡ child = some_same (name ++ bits) child at in
    record { bits = bits; is = sym same; long = ap length (sym same) ∙ length-append name bits ∙ ap (λ n. length name + n) all.0 }
from_lists w name (bits ∷ lists) (suc i) child all at = from_lists w name lists i child all.1 at

pub child-at : (w : ℕ) (name : List Bool) (i : ℕ) (child : List Bool) → slice_get (children w name) i ≡ Some child → IsChild w name child
child-at w name i child at = from_lists w name (bit_lists w) i child (bit_lists-long w) at

-- what stands at a place is the first behind those before it
pub drop-at : {X : Type 0} (xs : List X) (i : ℕ) (x : X) → slice_get xs i ≡ Some x → drop i xs ≡ x ∷ drop (suc i) xs
drop-at [] i x at = absurd (cc at)
drop-at (y ∷ xs) zero x at = ap (λ z. z ∷ xs) (some_same y x at)
drop-at (y ∷ xs) (suc i) x at = drop-at xs i x at

pub some_at : {X : Type 0} (xs : List X) (i : ℕ) → i < length xs → (x : X) × (slice_get xs i ≡ Some x)
some_at [] i lt = absurd (omega arith)
some_at (y ∷ xs) zero lt = (y, refl)
some_at (y ∷ xs) (suc i) lt = some_at xs i (omega (arith, lt))

-- a bit more, and the first key is no less, and with a one it is greater
bit-from : (name : List Bool) (b : Bool) → length name + 1 ≤ 64 → first_key name ≤ first_key (name ++ b ∷ [])
bit-from name false room = omega (arith, first_left name room)
bit-from name true room = omega (arith, first_right name room)

one-above : (name : List Bool) → length name + 1 ≤ 64 → first_key name < first_key (name ++ true ∷ [])
one-above name room = omega (arith, first_right name room, pow_pos (63 - length name))

two_bits : (name : List Bool) (a b : Bool) → first_key ((name ++ a ∷ []) ++ b ∷ []) ≡ first_key (name ++ a ∷ b ∷ [])
two_bits name a b = ap first_key (append_assoc name (a ∷ []) (b ∷ []))

room_left : (name : List Bool) (a : Bool) → length name + 2 ≤ 64 → length (name ++ a ∷ []) + 1 ≤ 64
room_left name a room = omega (arith, length-append name (a ∷ []), room)

one_wide : (name : List Bool) (i : ℕ) (child : List Bool) → length name + 1 ≤ 64 → slice_get (children 1 name) (suc i) ≡ Some child → first_key name < first_key child
one_wide name zero child room at = subst (λ c. first_key name < first_key c) (some_same (name ++ true ∷ []) child at) (one-above name room)
one_wide name (suc i) child room at = absurd (cc at)

two_wide : (name : List Bool) (i : ℕ) (child : List Bool) → length name + 2 ≤ 64 → slice_get (children 2 name) (suc i) ≡ Some child → first_key name < first_key child
two_wide name zero child room at =
    subst (λ c. first_key name < first_key c) (some_same (name ++ false ∷ true ∷ []) child at)
    (omega (arith, bit-from name false (omega (arith, room)), one-above (name ++ false ∷ []) (room_left name false room), two_bits name false true))
two_wide name (suc zero) child room at =
    subst (λ c. first_key name < first_key c) (some_same (name ++ true ∷ false ∷ []) child at)
    (omega (arith, one-above name (omega (arith, room)), bit-from (name ++ true ∷ []) false (room_left name true room), two_bits name true false))
two_wide name (suc (suc zero)) child room at =
    subst (λ c. first_key name < first_key c) (some_same (name ++ true ∷ true ∷ []) child at)
    (omega (arith, one-above name (omega (arith, room)), bit-from (name ++ true ∷ []) true (room_left name true room), two_bits name true true))
two_wide name (suc (suc (suc i))) child room at = absurd (cc at)

-- each child but the first begins behind the name's first key
pub child-above : (w : ℕ) (name : List Bool) (i : ℕ) (child : List Bool) → IsWidth w → length name + w ≤ 64 → slice_get (children w name) (suc i) ≡ Some child → first_key name < first_key child
child-above w name i child (inl e) room at =
    one_wide name i child (omega (arith, e, room)) (ap (λ v. slice_get (children v name) (suc i)) (sym e) ∙ at)
child-above w name i child (inr e) room at =
    two_wide name i child (omega (arith, e, room)) (ap (λ v. slice_get (children v name) (suc i)) (sym e) ∙ at)

-- the rows that are cut out for a child are under its name
each_under : (name : List Bool) (rows : List Row) (w : ℕ) (lists : List (List Bool)) → AreLong w lists → length name + w ≤ 64
    → EachUnder (map (λ bits. name ++ bits) lists) (map (cut_out rows) (map (λ bits. name ++ bits) lists))
each_under name rows w [] all room = tt
each_under name rows w (bits ∷ lists) all room =
    (AreUnder-rows_under (name ++ bits) rows (omega (arith, length-append name bits, all.0, room)), each_under name rows w lists all.1 room)

pub AreAllUnder-cut : (w : ℕ) (name : List Bool) (rows : List Row) → length name + w ≤ 64 → AreAllUnder w name (cut w name rows)
AreAllUnder-cut w name rows room = each_under name rows w (bit_lists w) (bit_lists-long w) room
