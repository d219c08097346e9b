-- What a read returns is one of the crash images, after whatever calls.
use Rattle.std.specs.Prelude.{◌≡◌, ℕ, ◌+◌, ◌-◌, ◌<◌, ◌≤◌, nat_le, min, max, Bool, false, true, ◌||◌, List, [], ◌∷◌, ◌++◌, length, get_or, take, drop}
use Rattle.std.proofs.Common.{refl, sym, ◌∙◌, ap, arith, inl, inr, ◌⊎◌, length-take, length-drop, length-append}
use Rattle.std.proofs.lemmas.List.{get_or-take, get_or-drop, get_or_append_left, get_or-append_right}
use Rattle.std.proofs.lemmas.Bool.{lt-leb, leb-false, le-leb, lt-ltb}
use Rattle.std.proofs.lemmas.Bool.Decides.{leb_tells}
use Rattle.std.specs.Cmp.Derive.{both_true}
use Rattle.std.specs.List.{list_any}
use mathlib.Core.Bool.{true≢false}
use Rattle.disk_mem.specs.Pending.{Pending, is_in, is_free, IsImage, after_write, after_cut}
use Rattle.disk_mem.specs.Changes.{Change, wrote, failed_write, did_cut, failed_cut, synced, failed_sync, File, started, over, changed, changed_by}

-- what a read returns is an image, and the least cut length is within the file and within the stable bytes
pub record IsSound (f : File) : Type 0 where
  pub image : IsImage f.pending f.held
  pub held_to_cut : f.pending.cut ≤ length f.held
  pub stable_to_cut : f.pending.cut ≤ length f.pending.stable

pub or-first : (x y : Bool) → (x || y) ≡ false → x ≡ false
or-first true y e = e
or-first false y e = refl

pub or-second : (x y : Bool) → (x || y) ≡ false → y ≡ false
or-second true y e = absurd (true≢false e)
or-second false y e = e

pub both_false : (x y : Bool) → x ≡ false → y ≡ false → (x || y) ≡ false
both_false x y left right = ap (λ (t : Bool). t || y) left ∙ right

pub le_or_lt : (a b : ℕ) → (a ≤ b) ⊎ (b < a)
le_or_lt a b = elim (leb_tells a b) [ inl t ↦ inl t.1 | inr f ↦ inr f.1 ]

-- a place that isn't free after a write wasn't free before
pub free_before_write : (p : Pending) (at n i : ℕ) → is_free (after_write at n p) i ≡ false → is_free p i ≡ false
free_before_write p at n i free =
    both_false (nat_le p.cut i) (list_any (is_in i) p.touched) (or-first (nat_le p.cut i) (is_in i (at, n) || list_any (is_in i) p.touched) free) (or-second (is_in i (at, n)) (list_any (is_in i) p.touched) (or-second (nat_le p.cut i) (is_in i (at, n) || list_any (is_in i) p.touched) free))

pub below_cut : (p : Pending) (i : ℕ) → is_free p i ≡ false → i < p.cut
below_cut p i free = leb-false p.cut i (or-first (nat_le p.cut i) (list_any (is_in i) p.touched) free)

pub outside_write : (p : Pending) (at n i : ℕ) → is_free (after_write at n p) i ≡ false → (i < at) ⊎ (at + n ≤ i)
outside_write p at n i free =
    let out : is_in i (at, n) ≡ false = or-first (is_in i (at, n)) (list_any (is_in i) p.touched) (or-second (nat_le p.cut i) (is_in i (at, n) || list_any (is_in i) p.touched) free) in
    elim (le_or_lt at i) [
      | inl front ↦ elim (le_or_lt (at + n) i) [
        | inl behind ↦ inr behind
        | inr within ↦ absurd (true≢false (sym (both_true (le-leb at i front) (lt-ltb i (at + n) within)) ∙ out))
      ]
      | inr before ↦ inl before
    ]

pub free_before_cut : (p : Pending) (n i : ℕ) → is_free (after_cut n p) i ≡ false → is_free p i ≡ false
free_before_cut p n i free =
    let below : i < min p.cut n = below_cut (after_cut n p) i free in
    both_false (nat_le p.cut i) (list_any (is_in i) p.touched) (lt-leb p.cut i (omega arith)) (or-second (nat_le (min p.cut n) i) (list_any (is_in i) p.touched) free)

-- a write keeps each byte outside its range
get_or-over-front : (at : ℕ) (piece old : List ℕ) (i : ℕ) → i < at → i < length old → get_or (over at piece old) i 0 ≡ get_or old i 0
get_or-over-front at piece old i before within =
    let front : i < length (take at old) = omega (arith, length-take at old) in
    let fronts : i < length (take at old ++ piece) = omega (arith, length-append (take at old) piece) in
    get_or_append_left (take at old ++ piece) (drop (at + length piece) old) 0 i fronts
    ∙ get_or_append_left (take at old) piece 0 i front
    ∙ get_or-take at old i 0 before

get_or-over-back : (at : ℕ) (piece old : List ℕ) (i : ℕ) → at + length piece ≤ i → i < length old → get_or (over at piece old) i 0 ≡ get_or old i 0
get_or-over-back at piece old i behind within =
    let long : length (take at old ++ piece) ≡ at + length piece = omega (arith, length-append (take at old) piece, length-take at old) in
    let place : at + length piece + (i - (at + length piece)) ≡ i = omega arith in
    get_or-append_right (take at old ++ piece) (drop (at + length piece) old) (at + length piece) i 0 long behind
    ∙ get_or-drop (at + length piece) old (i - (at + length piece)) 0
    ∙ ap (λ (k : ℕ). get_or old k 0) place

length-over-at_least : (at : ℕ) (piece old : List ℕ) → length old ≤ length (over at piece old)
length-over-at_least at piece old = omega (arith, length-append (take at old ++ piece) (drop (at + length piece) old), length-append (take at old) piece, length-take at old, length-drop (at + length piece) old)

length-over-at_most : (at : ℕ) (piece old : List ℕ) → length (over at piece old) ≤ max (length old) (at + length piece)
length-over-at_most at piece old = omega (arith, length-append (take at old ++ piece) (drop (at + length piece) old), length-append (take at old) piece, length-take at old, length-drop (at + length piece) old)

pub IsSound-started : (bytes : List ℕ) → IsSound (started bytes)
IsSound-started bytes = record { image = record { no_shorter = omega arith; no_longer = omega arith; kept = λ i lt free. refl }; held_to_cut = omega arith; stable_to_cut = omega arith }

pub IsSound-changed : (f : File) (c : Change) → IsSound f → IsSound (changed f c)
IsSound-changed f (wrote at piece) sound =
    let low : f.pending.least ≤ length f.held = sound.image.no_shorter in
    let high : length f.held ≤ f.pending.greatest = sound.image.no_longer in
    let cut : f.pending.cut ≤ length f.held = sound.held_to_cut in
    record {
      image = record {
        no_shorter = omega (arith, low, length-over-at_least at piece f.held);
        no_longer = omega (arith, high, length-over-at_most at piece f.held);
        kept = λ i lt free.
            let within : i < length f.held = omega (arith, below_cut f.pending i (free_before_write f.pending at (length piece) i free), cut) in
            let same : get_or f.held i 0 ≡ get_or f.pending.stable i 0 = sound.image.kept i within (free_before_write f.pending at (length piece) i free) in
            elim (outside_write f.pending at (length piece) i free) [
              | inl before ↦ get_or-over-front at piece f.held i before within ∙ same
              | inr behind ↦ get_or-over-back at piece f.held i behind within ∙ same
            ];
      };
      held_to_cut = omega (arith, cut, length-over-at_least at piece f.held);
      stable_to_cut = sound.stable_to_cut;
    }
IsSound-changed f (failed_write at n) sound = record {
  image = record {
    no_shorter = sound.image.no_shorter;
    no_longer = omega (arith, sound.image.no_longer);
    kept = λ i lt free. sound.image.kept i lt (free_before_write f.pending at n i free);
  };
  held_to_cut = sound.held_to_cut;
  stable_to_cut = sound.stable_to_cut;
}
IsSound-changed f (did_cut n) sound = record {
  image = record {
    no_shorter = omega (arith, sound.image.no_shorter, length-take n f.held);
    no_longer = omega (arith, sound.image.no_longer, length-take n f.held);
    kept = λ i lt free.
        let within : i < length f.held = omega (arith, lt, length-take n f.held) in
        let before : i < n = omega (arith, lt, length-take n f.held) in
        get_or-take n f.held i 0 before ∙ sound.image.kept i within (free_before_cut f.pending n i free);
  };
  held_to_cut = omega (arith, sound.held_to_cut, length-take n f.held);
  stable_to_cut = omega (arith, sound.stable_to_cut);
}
IsSound-changed f (failed_cut n) sound = record {
  image = record {
    no_shorter = omega (arith, sound.image.no_shorter);
    no_longer = sound.image.no_longer;
    kept = λ i lt free. sound.image.kept i lt (free_before_cut f.pending n i free);
  };
  held_to_cut = omega (arith, sound.held_to_cut);
  stable_to_cut = omega (arith, sound.stable_to_cut);
}
IsSound-changed f synced sound = IsSound-started f.held
IsSound-changed f failed_sync sound = record { image = sound.image; held_to_cut = sound.held_to_cut; stable_to_cut = sound.stable_to_cut }

pub IsSound-changed_by : (f : File) (cs : List Change) → IsSound f → IsSound (changed_by f cs)
IsSound-changed_by f [] sound = sound
IsSound-changed_by f (c ∷ cs) sound = IsSound-changed_by (changed f c) cs (IsSound-changed f c sound)
