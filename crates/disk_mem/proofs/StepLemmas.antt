-- Each image after a call is one from before it, torn or shortened.
use Rattle.std.specs.Prelude.{◌≡◌, ℕ, ◌+◌, ◌-◌, ◌<◌, ◌≤◌, nat_le, nat_lt, min, max, false, cond, ◌&&◌, ◌||◌, List, length, get_or, take, drop, map}
use Rattle.std.proofs.Common.{refl, sym, ◌∙◌, ap, arith, inl, inr, zero-add, length-take, length-drop}
use Rattle.std.proofs.lemmas.List.{ext_get_or, get_or-take, get_or-drop}
use Rattle.std.proofs.lemmas.List.FromFn.{get_or-map-range_with_len, length-map-range_with_len}
use Rattle.std.proofs.lemmas.Bool.{cases_Bool, lt-leb, le-ltb, le-leb, lt-ltb}
use Rattle.std.proofs.Math.Bool.{and-false}
use Rattle.std.specs.Cmp.Derive.{both_true}
use Rattle.std.specs.List.{range_with_len, list_any}
use Rattle.disk_trait.specs.Drive.{Torn, Shortened, Follows}
use Rattle.disk_mem.specs.Pending.{Pending, IsImage, settled, after_write, after_cut, is_in, is_free}
use Rattle.disk_mem.specs.Sound.{or-first, or-second, both_false, le_or_lt, below_cut}

-- the byte of one list in a range, and of another outside it
abbrev chosen : List ℕ → List ℕ → ℕ → ℕ → ℕ → ℕ
chosen stable c at n i = cond (is_in i (at, n)) (get_or stable i 0) (get_or c i 0)

abbrev patched : List ℕ → List ℕ → ℕ → ℕ → ℕ → List ℕ
patched stable c at n len = map (chosen stable c at n) (range_with_len 0 len)

get_or-patched : (stable c : List ℕ) (at n len i : ℕ) → i < len → get_or (patched stable c at n len) i 0 ≡ chosen stable c at n i
get_or-patched stable c at n len i lt = get_or-map-range_with_len (chosen stable c at n) 0 len i i 0 lt (zero-add i)

length-patched : (stable c : List ℕ) (at n len : ℕ) → length (patched stable c at n len) ≡ len
length-patched stable c at n len = length-map-range_with_len (chosen stable c at n) 0 len

chosen-below : (stable c : List ℕ) (at n i : ℕ) → i < at → chosen stable c at n i ≡ get_or c i 0
chosen-below stable c at n i lt = ap (λ b. cond (b && nat_lt i (at + n)) (get_or stable i 0) (get_or c i 0)) (lt-leb at i lt)

chosen-above : (stable c : List ℕ) (at n i : ℕ) → at + n ≤ i → chosen stable c at n i ≡ get_or c i 0
chosen-above stable c at n i le =
    ap (λ b. cond (nat_le at i && b) (get_or stable i 0) (get_or c i 0)) (le-ltb i (at + n) le) ∙ ap (λ b. cond b (get_or stable i 0) (get_or c i 0)) (and-false (nat_le at i))

chosen-within : (stable c : List ℕ) (at n i : ℕ) → at ≤ i → i < at + n → chosen stable c at n i ≡ get_or stable i 0
chosen-within stable c at n i le lt = ap (λ b. cond b (get_or stable i 0) (get_or c i 0)) (both_true (le-leb at i le) (lt-ltb i (at + n) lt))

-- a place that wasn't free and is outside a range isn't free after a write to that range
still_fixed : (p : Pending) (at n i : ℕ) → is_in i (at, n) ≡ false → is_free p i ≡ false → is_free (after_write at n p) i ≡ false
still_fixed p at n i out free =
    both_false (nat_le p.cut i) (is_in i (at, n) || list_any (is_in i) p.touched) (or-first (nat_le p.cut i) (list_any (is_in i) p.touched) free) (both_false (is_in i (at, n)) (list_any (is_in i) p.touched) out (or-second (nat_le p.cut i) (list_any (is_in i) p.touched) free))

-- a write, also one that failed: the image, with the stable bytes in its range
pub after_write-follows : (p : Pending) (at n : ℕ) → p.least ≤ p.greatest → at ≤ p.greatest → Follows (Torn at n) (IsImage p) (IsImage (after_write at n p))
after_write-follows p at n low within c image =
    let len : ℕ = min (length c) p.greatest in
    let d : List ℕ = patched p.stable c at n len in
    let long : length d ≡ len = length-patched p.stable c at n len in
    let shorter : p.least ≤ length c = image.no_shorter in
    let longer : length c ≤ max p.greatest (at + n) = image.no_longer in (
      d,
      record {
        no_shorter = omega (arith, long, shorter, low);
        no_longer = omega (arith, long);
        kept = λ i lt free.
            let inside : i < len = omega (arith, lt, long) in
            let in_c : i < length c = omega (arith, inside) in
            get_or-patched p.stable c at n len i inside ∙ elim (cases_Bool (is_in i (at, n))) [
              | inl touched ↦ ap (λ b. cond b (get_or p.stable i 0) (get_or c i 0)) touched
              | inr out ↦ ap (λ b. cond b (get_or p.stable i 0) (get_or c i 0)) out ∙ image.kept i in_c (still_fixed p at n i out free)
            ];
      },
      record {
        before = ext_get_or 0 (take at c) (take at d) (omega (arith, length-take at c, length-take at d, long, within)) (λ i lt.
            let below : i < at = omega (arith, lt, length-take at c) in
            let inside : i < len = omega (arith, lt, length-take at c, within) in
            get_or-take at c i 0 below ∙ sym (get_or-take at d i 0 below ∙ get_or-patched p.stable c at n len i inside ∙ chosen-below p.stable c at n i below));
        after = ext_get_or 0 (drop (at + n) c) (drop (at + n) d) (omega (arith, length-drop (at + n) c, length-drop (at + n) d, long, longer)) (λ i lt.
            let above : at + n ≤ at + n + i = omega arith in
            let inside : at + n + i < len = omega (arith, lt, length-drop (at + n) c, longer) in
            get_or-drop (at + n) c i 0 ∙ sym (get_or-drop (at + n) d i 0 ∙ get_or-patched p.stable c at n len (at + n + i) inside ∙ chosen-above p.stable c at n (at + n + i) above));
        no_shorter = omega (arith, long);
        no_longer = omega (arith, long, longer);
      },
    )

-- a cut, also one that failed: the image, and where it is shorter than any before, what stood behind it
pub after_cut-follows : (p : Pending) (n : ℕ) → p.least ≤ p.greatest → Follows (Shortened n) (IsImage p) (IsImage (after_cut n p))
after_cut-follows p n low c image =
    let len : ℕ = max (length c) p.least in
    let d : List ℕ = patched p.stable c n (len - n) len in
    let long : length d ≡ len = length-patched p.stable c n (len - n) len in
    let shorter : min p.least n ≤ length c = image.no_shorter in
    let longer : length c ≤ p.greatest = image.no_longer in (
      d,
      record {
        no_shorter = omega (arith, long);
        no_longer = omega (arith, long, longer, low);
        kept = λ i lt free.
            let inside : i < len = omega (arith, lt, long) in
            get_or-patched p.stable c n (len - n) len i inside ∙ elim (le_or_lt n i) [
              | inl behind ↦ chosen-within p.stable c n (len - n) i behind (omega (arith, inside, behind))
              | inr front ↦
                  let in_c : i < length c = omega (arith, inside, front, shorter) in
                  let before_cut : i < p.cut = below_cut p i free in
                  let kept_front : nat_le (min p.cut n) i ≡ false = lt-leb (min p.cut n) i (omega (arith, before_cut, front)) in
                  chosen-below p.stable c n (len - n) i front
                  ∙ image.kept i in_c (both_false (nat_le (min p.cut n) i) (list_any (is_in i) p.touched) kept_front (or-second (nat_le p.cut i) (list_any (is_in i) p.touched) free))
            ];
      },
      record {
        before = ext_get_or 0 (take n c) (take n d) (omega (arith, length-take n c, length-take n d, long, shorter)) (λ i lt.
            let below : i < n = omega (arith, lt, length-take n c) in
            let inside : i < len = omega (arith, lt, length-take n c) in
            get_or-take n c i 0 below ∙ sym (get_or-take n d i 0 below ∙ get_or-patched p.stable c n (len - n) len i inside ∙ chosen-below p.stable c n (len - n) i below));
        no_shorter = omega (arith, long, shorter);
        no_longer = omega (arith, long);
      },
    )

-- after a sync that succeeds there is one image
pub settled-only : (bytes c : List ℕ) → IsImage (settled bytes) c → c ≡ bytes
settled-only bytes c image =
    ext_get_or 0 c bytes (omega (arith, image.no_shorter, image.no_longer)) (λ i lt.
    let within : i < length bytes = omega (arith, lt, image.no_longer) in
    image.kept i lt (both_false (nat_le (length bytes) i) false (lt-leb (length bytes) i within) refl))
