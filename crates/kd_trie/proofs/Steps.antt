-- A step down a pair that a trie owns, into the half under a key's next bit.
use Rattle.std.proofs.Common.{◌≡◌, ◌⊎◌, inl, inr, ◌-◌, ◌==◌, ◌<◌, ◌≤◌, ◌∙◌, ℕ, suc, max, true, false, Bool, Result, Ok, Err, OnErr, IfOk, length, refl, sym, ap, arith, if◌then◌else◌}
use mathlib.Core.Bool.{beq}
use Rattle.std.specs.Int.{bit_at}
use Rattle.zorder.specs.Bits.{low_bits}
use Rattle.bucket_versions.specs.declared.row.Row.{Row}
use Rattle.bucket_versions.specs.declared.row.RowChange.{RowChange}
use Rattle.bucket_versions.specs.Rows.{Rows, has_row, after_gone}
use Rattle.kd_trie.specs.declared.node.Node.{Node}
use Rattle.kd_trie.specs.declared.node.Pair.{Pair}
use Rattle.bit_trie.specs.Tries.{Trie, fork, height, changed_at, rows_at, graft}
use Rattle.kd_trie.specs.Nodes.{seen, Copies}
use Rattle.kd_trie.specs.Halves.{half_of, with_half}
use Rattle.bit_trie.specs.Ways.{Fits, count_under, gone_under, MayMove}
use Rattle.bit_trie.proofs.Halves.{changed_one, changed_zero, graft_one, graft_zero, rows_one, rows_zero}

-- a pair that holds a trie, the bit that a key goes on with there, and what the half under it holds
pub record Step (left key : ℕ) (t : Trie) (p : Pair) (bit : Bool) (u : Trie) : Type 0 where
  pub some : 0 < left
  pub fits : Fits (left - 1) u
  pub is : t ≡ fork (seen p.zero) (seen p.one)
  pub goes : bit ≡ (bit_at key (left - 1) == 1)
  pub half : u ≡ half_of p bit

-- what `own` and `half` say is a step
pub step : {left key : ℕ} {t : Trie} {a p : Pair} {bit : Bool} {u : Trie} → Fits left t → t ≡ fork (seen a.zero) (seen a.one)
    → (p ≡ a) ⊎ Copies a p → bit ≡ (bit_at key (left - 1) == 1) → u ≡ half_of p bit → Step left key t p bit u
step {left} {key} {t} {a} {p} {bit} {u} fits was same goes half =
    let is : t ≡ fork (seen p.zero) (seen p.one) = was ∙ sym (whole same) in
    record { some = omega (arith, fits.height, ap height is); fits = record { height = low bit half (ap height is); most = omega (arith, fits.most) }; is = is; goes = goes; half = half }
  where
    whole : (p ≡ a) ⊎ Copies a p → fork (seen p.zero) (seen p.one) ≡ fork (seen a.zero) (seen a.one)
    whole (inl e) = λ i. fork (seen (e i).zero) (seen (e i).one)
    whole (inr e) = λ i. fork (e.zero i) (e.one i)

    low : (bit : Bool) → u ≡ half_of p bit → height t ≡ suc (max (height (seen p.zero)) (height (seen p.one))) → height u ≤ left - 1
    low true h e = omega (arith, fits.height, ap height h, e)
    low false h e = omega (arith, fits.height, ap height h, e)

-- a trie with another half
abbrev with_trie : Pair → Bool → Trie → Trie
with_trie p bit v = if bit then fork (seen p.zero) v else fork v (seen p.one)

-- what a key leads to in a trie with another half, where it goes on with the bit of that half
rows-with : (left key : ℕ) (p : Pair) (bit : Bool) (v : Trie) → 0 < left → bit ≡ (bit_at key (left - 1) == 1) → rows_at (low_bits left key) (with_trie p bit v) ≡ rows_at (low_bits (left - 1) key) v
rows-with left key p true v some e = rows_one left key (seen p.zero) v some (sym e)
rows-with left key p false v some e = rows_zero left key v (seen p.one) some (sym e)

changed-with : (left key : ℕ) (f : Rows → Rows) (p : Pair) (bit : Bool) (v : Trie) → 0 < left → bit ≡ (bit_at key (left - 1) == 1)
    → changed_at (low_bits left key) f (with_trie p bit v) ≡ with_trie p bit (changed_at (low_bits (left - 1) key) f v)
changed-with left key f p true v some e = changed_one left key f (seen p.zero) v some (sym e)
changed-with left key f p false v some e = changed_zero left key f v (seen p.one) some (sym e)

graft-with : (left key : ℕ) (x : Trie) (p : Pair) (bit : Bool) (v : Trie) → 0 < left → bit ≡ (bit_at key (left - 1) == 1)
    → graft (low_bits left key) x (with_trie p bit v) ≡ with_trie p bit (graft (low_bits (left - 1) key) x v)
graft-with left key x p true v some e = graft_one left key x (seen p.zero) v some (sym e)
graft-with left key x p false v some e = graft_zero left key x v (seen p.one) some (sym e)

-- a pair that was left with another half
abbrev pub Made : Pair → Bool → Node → Pair → Type 0
Made p bit n q = (q.zero ≡ (with_half p bit n).zero) × (q.one ≡ (with_half p bit n).one)

-- a pair as a trie with its own half, and the pair that was left with another one
whole-with : (p : Pair) (bit : Bool) (u : Trie) → u ≡ half_of p bit → fork (seen p.zero) (seen p.one) ≡ with_trie p bit u
whole-with p true u h = ap (fork (seen p.zero)) (sym h)
whole-with p false u h = ap (λ (z : Trie). fork z (seen p.one)) (sym h)

made-with : (p q : Pair) (bit : Bool) (n : Node) → Made p bit n q → fork (seen q.zero) (seen q.one) ≡ with_trie p bit (seen n)
made-with p q true n e = λ i. fork (seen (e.0 i)) (seen (e.1 i))
made-with p q false n e = λ i. fork (seen (e.0 i)) (seen (e.1 i))

-- what a pair holds, by what it is
pub made_of : {h q : Pair} → q ≡ h → (q.zero ≡ h.zero) × (q.one ≡ h.one)
made_of e = (λ i. (e i).zero, λ i. (e i).one)

-- the rows that a key leads to
pub rows-step : {left key : ℕ} {t : Trie} {p : Pair} {bit : Bool} {u : Trie} → Step left key t p bit u → rows_at (low_bits left key) t ≡ rows_at (low_bits (left - 1) key) u
rows-step {left} {key} {t} {p} {bit} {u} s = ap (rows_at (low_bits left key)) (s.is ∙ whole-with p bit u s.half) ∙ rows-with left key p bit u s.some s.goes

-- the trie after a change below
pub changed-step : {left key : ℕ} {t : Trie} {p : Pair} {bit : Bool} {u : Trie} → Step left key t p bit u → (f : Rows → Rows) (n : Node) (q : Pair) → Made p bit n q
    → seen n ≡ changed_at (low_bits (left - 1) key) f u → fork (seen q.zero) (seen q.one) ≡ changed_at (low_bits left key) f t
changed-step {left} {key} {t} {p} {bit} {u} s f n q made below =
    made-with p q bit n made ∙ ap (with_trie p bit) below ∙ sym (changed-with left key f p bit u s.some s.goes) ∙ ap (changed_at (low_bits left key) f) (sym (s.is ∙ whole-with p bit u s.half))

pub graft-step : {left key : ℕ} {t : Trie} {p : Pair} {bit : Bool} {u : Trie} → Step left key t p bit u → (x : Trie) (n : Node) (q : Pair) → Made p bit n q
    → seen n ≡ graft (low_bits (left - 1) key) x u → fork (seen q.zero) (seen q.one) ≡ graft (low_bits left key) x t
graft-step {left} {key} {t} {p} {bit} {u} s x n q made below =
    made-with p q bit n made ∙ ap (with_trie p bit) below ∙ sym (graft-with left key x p bit u s.some s.goes) ∙ ap (graft (low_bits left key) x) (sym (s.is ∙ whole-with p bit u s.half))

pub kept-step : {left key : ℕ} {t : Trie} {p : Pair} {bit : Bool} {u : Trie} → Step left key t p bit u → (n : Node) (q : Pair) → Made p bit n q → seen n ≡ u → fork (seen q.zero) (seen q.one) ≡ t
kept-step {left} {key} {t} {p} {bit} {u} s n q made below = made-with p q bit n made ∙ ap (with_trie p bit) below ∙ sym (s.is ∙ whole-with p bit u s.half)

-- how many rows a key leads to then
pub counted-step : {left : ℕ} {t : Trie} {p : Pair} {bit : Bool} {u : Trie} {E : Type 0} (r : Result ℕ E) (row : Row) → Step left row.key t p bit u → (n : Node) (q : Pair) → Made p bit n q
    → IfOk r (λ m. m ≡ count_under (left - 1) row (seen n)) → IfOk r (λ m. m ≡ count_under left row (fork (seen q.zero) (seen q.one)))
counted-step (Err x) row s n q made is = tt
counted-step {left} {t} {p} {bit} {u} (Ok m) row s n q made is = is ∙ sym (ap length (ap (rows_at (low_bits left row.key)) (made-with p q bit n made) ∙ rows-with left row.key p bit (seen n) s.some s.goes))

-- a pair that could not be owned
pub kept-default : {A E : Type 0} {t : Trie} {e : E} (a q : Pair) (r : Result A E) → r ≡ Err e → t ≡ fork (seen a.zero) (seen a.one) → OnErr r ((q ≡ a) ⊎ Copies a q)
    → fork (seen q.zero) (seen q.one) ≡ t
kept-default a q (Ok x) is was same = absurd (cc is)
kept-default a q (Err x) is was same = go same ∙ sym was
  where
    go : (q ≡ a) ⊎ Copies a q → fork (seen q.zero) (seen q.one) ≡ fork (seen a.zero) (seen a.one)
    go (inl e) = λ i. fork (seen (e i).zero) (seen (e i).one)
    go (inr e) = λ i. fork (e.zero i) (e.one i)

-- two keys that go on with one bit: the second one after a change under the first
pub rows-twice : {left key : ℕ} {t : Trie} {p : Pair} {bit : Bool} {u : Trie} → Step left key t p bit u → (other : ℕ) (f : Rows → Rows) → bit ≡ (bit_at other (left - 1) == 1)
    → rows_at (low_bits left other) (changed_at (low_bits left key) f t) ≡ rows_at (low_bits (left - 1) other) (changed_at (low_bits (left - 1) key) f u)
rows-twice {left} {key} {t} {p} {bit} {u} s other f e =
    ap (λ (x : Trie). rows_at (low_bits left other) (changed_at (low_bits left key) f x)) (s.is ∙ whole-with p bit u s.half)
    ∙ ap (rows_at (low_bits left other)) (changed-with left key f p bit u s.some s.goes)
    ∙ rows-with left other p bit (changed_at (low_bits (left - 1) key) f u) s.some e

pub moves-step : {left : ℕ} {t : Trie} {p : Pair} {bit : Bool} {u : Trie} (from to : RowChange) → Step left from.row.key t p bit u → bit ≡ (bit_at to.row.key (left - 1) == 1)
    → MayMove left from left to t (gone_under left from t) → MayMove (left - 1) from (left - 1) to u (gone_under (left - 1) from u)
moves-step from to s e m = record {
  present = ap (has_row from.row) (sym (rows-step s)) ∙ m.present;
  absent = ap (has_row to.row) (sym (rows-twice s to.row.key (after_gone from) e)) ∙ m.absent;
}

pub changed-twice : {left key : ℕ} {t : Trie} {p : Pair} {bit : Bool} {u : Trie} → Step left key t p bit u → (other : ℕ) (f h : Rows → Rows) → bit ≡ (bit_at other (left - 1) == 1) → (n : Node) (q : Pair) → Made p bit n q
    → seen n ≡ changed_at (low_bits (left - 1) other) h (changed_at (low_bits (left - 1) key) f u) → fork (seen q.zero) (seen q.one) ≡ changed_at (low_bits left other) h (changed_at (low_bits left key) f t)
changed-twice {left} {key} {t} {p} {bit} {u} s other f h e n q made below =
    made-with p q bit n made ∙ ap (with_trie p bit) below
    ∙ sym (changed-with left other h p bit (changed_at (low_bits (left - 1) key) f u) s.some e)
    ∙ ap (changed_at (low_bits left other) h) (sym (changed-with left key f p bit u s.some s.goes))
    ∙ ap (λ (x : Trie). changed_at (low_bits left other) h (changed_at (low_bits left key) f x)) (sym (s.is ∙ whole-with p bit u s.half))

-- two bits that differ or don't
pub unlike-one : (a b : Bool) → a ≡ true → beq a b ≡ false → b ≡ false
unlike-one true true e n = absurd (cc n)
unlike-one true false e n = refl
unlike-one false b e n = absurd (cc e)

pub unlike-zero : (a b : Bool) → a ≡ false → beq a b ≡ false → b ≡ true
unlike-zero false false e n = absurd (cc n)
unlike-zero false true e n = refl
unlike-zero true b e n = absurd (cc e)

-- two keys that part here: the first goes to one half, the second to the other
pub record Parts (left key other : ℕ) (t near far : Trie) : Type 0 where
  pub near_fits : Fits (left - 1) near
  pub far_fits : Fits (left - 1) far
  pub rows_near : rows_at (low_bits left key) t ≡ rows_at (low_bits (left - 1) key) near
  pub rows_far : (f : Rows → Rows) → rows_at (low_bits left other) (changed_at (low_bits left key) f t) ≡ rows_at (low_bits (left - 1) other) far

-- both halves of a pair
pub fits-half : {left key : ℕ} {t : Trie} {p : Pair} {bit : Bool} {u : Trie} → Fits left t → Step left key t p bit u → Fits (left - 1) (seen p.zero) × Fits (left - 1) (seen p.one)
fits-half {left} {key} {t} {p} {bit} {u} fits s =
    let e : height t ≡ suc (max (height (seen p.zero)) (height (seen p.one))) = ap height s.is in
    (record { height = omega (arith, fits.height, e); most = omega (arith, fits.most) }, record { height = omega (arith, fits.height, e); most = omega (arith, fits.most) })

pub parts-one : {left key : ℕ} {t : Trie} {p : Pair} {bit : Bool} {u : Trie} → Fits left t → Step left key t p bit u → (other : ℕ) (next : Bool) → bit ≡ true → beq bit next ≡ false → next ≡ (bit_at other (left - 1) == 1) → Parts left key other t (seen p.one) (seen p.zero)
parts-one {left} {key} {t} {p} {bit} {u} fits s other next one apart goes = record {
  near_fits = (fits-half fits s).1;
  far_fits = (fits-half fits s).0;
  rows_near = ap (rows_at (low_bits left key)) s.is ∙ rows_one left key (seen p.zero) (seen p.one) s.some (sym s.goes ∙ one);
  rows_far = λ f. ap (λ (x : Trie). rows_at (low_bits left other) (changed_at (low_bits left key) f x)) s.is
      ∙ ap (rows_at (low_bits left other)) (changed_one left key f (seen p.zero) (seen p.one) s.some (sym s.goes ∙ one))
      ∙ rows_zero left other (seen p.zero) (changed_at (low_bits (left - 1) key) f (seen p.one)) s.some (sym goes ∙ unlike-one bit next one apart);
}

pub parts-zero : {left key : ℕ} {t : Trie} {p : Pair} {bit : Bool} {u : Trie} → Fits left t → Step left key t p bit u → (other : ℕ) (next : Bool) → bit ≡ false → beq bit next ≡ false → next ≡ (bit_at other (left - 1) == 1) → Parts left key other t (seen p.zero) (seen p.one)
parts-zero {left} {key} {t} {p} {bit} {u} fits s other next zero apart goes = record {
  near_fits = (fits-half fits s).0;
  far_fits = (fits-half fits s).1;
  rows_near = ap (rows_at (low_bits left key)) s.is ∙ rows_zero left key (seen p.zero) (seen p.one) s.some (sym s.goes ∙ zero);
  rows_far = λ f. ap (λ (x : Trie). rows_at (low_bits left other) (changed_at (low_bits left key) f x)) s.is
      ∙ ap (rows_at (low_bits left other)) (changed_zero left key f (seen p.zero) (seen p.one) s.some (sym s.goes ∙ zero))
      ∙ rows_one left other (changed_at (low_bits (left - 1) key) f (seen p.zero)) (seen p.one) s.some (sym goes ∙ unlike-zero bit next zero apart);
}

-- the trie after a change in each half
pub changed-parts-one : {left key : ℕ} {t : Trie} {p : Pair} {bit : Bool} {u : Trie} → Step left key t p bit u → (other : ℕ) (next : Bool) (f h : Rows → Rows) → bit ≡ true → beq bit next ≡ false → next ≡ (bit_at other (left - 1) == 1)
    → (near far : Node) (q : Pair) → (q.zero ≡ far) × (q.one ≡ near) → seen near ≡ changed_at (low_bits (left - 1) key) f (seen p.one) → seen far ≡ changed_at (low_bits (left - 1) other) h (seen p.zero)
    → fork (seen q.zero) (seen q.one) ≡ changed_at (low_bits left other) h (changed_at (low_bits left key) f t)
changed-parts-one {left} {key} {t} {p} {bit} {u} s other next f h one apart goes near far q made e d =
    (λ i. fork (seen (made.0 i)) (seen (made.1 i))) ∙ (λ i. fork (d i) (e i))
    ∙ sym (changed_zero left other h (seen p.zero) (changed_at (low_bits (left - 1) key) f (seen p.one)) s.some (sym goes ∙ unlike-one bit next one apart))
    ∙ ap (changed_at (low_bits left other) h) (sym (changed_one left key f (seen p.zero) (seen p.one) s.some (sym s.goes ∙ one)))
    ∙ ap (λ (x : Trie). changed_at (low_bits left other) h (changed_at (low_bits left key) f x)) (sym s.is)

pub changed-parts-zero : {left key : ℕ} {t : Trie} {p : Pair} {bit : Bool} {u : Trie} → Step left key t p bit u → (other : ℕ) (next : Bool) (f h : Rows → Rows) → bit ≡ false → beq bit next ≡ false → next ≡ (bit_at other (left - 1) == 1)
    → (near far : Node) (q : Pair) → (q.zero ≡ near) × (q.one ≡ far) → seen near ≡ changed_at (low_bits (left - 1) key) f (seen p.zero) → seen far ≡ changed_at (low_bits (left - 1) other) h (seen p.one)
    → fork (seen q.zero) (seen q.one) ≡ changed_at (low_bits left other) h (changed_at (low_bits left key) f t)
changed-parts-zero {left} {key} {t} {p} {bit} {u} s other next f h zero apart goes near far q made e d =
    (λ i. fork (seen (made.0 i)) (seen (made.1 i))) ∙ (λ i. fork (e i) (d i))
    ∙ sym (changed_one left other h (changed_at (low_bits (left - 1) key) f (seen p.zero)) (seen p.one) s.some (sym goes ∙ unlike-zero bit next zero apart))
    ∙ ap (changed_at (low_bits left other) h) (sym (changed_zero left key f (seen p.zero) (seen p.one) s.some (sym s.goes ∙ zero)))
    ∙ ap (λ (x : Trie). changed_at (low_bits left other) h (changed_at (low_bits left key) f x)) (sym s.is)

-- how many rows a key leads to, where a half was lent
pub counted-zero : {E : Type 0} {left : ℕ} (r : Result ℕ E) (row : Row) (zero one : Node) (q : Pair) → 0 < left → (bit_at row.key (left - 1) == 1) ≡ false → (q.zero ≡ zero) × (q.one ≡ one)
    → IfOk r (λ m. m ≡ count_under (left - 1) row (seen zero)) → IfOk r (λ m. m ≡ count_under left row (fork (seen q.zero) (seen q.one)))
counted-zero (Err x) row zero one q some goes made is = tt
counted-zero {left = left} (Ok m) row zero one q some goes made is =
    is ∙ sym (ap length (ap (rows_at (low_bits left row.key)) (λ i. fork (seen (made.0 i)) (seen (made.1 i))) ∙ rows_zero left row.key (seen zero) (seen one) some goes))

pub counted-one : {E : Type 0} {left : ℕ} (r : Result ℕ E) (row : Row) (zero one : Node) (q : Pair) → 0 < left → (bit_at row.key (left - 1) == 1) ≡ true → (q.zero ≡ zero) × (q.one ≡ one)
    → IfOk r (λ m. m ≡ count_under (left - 1) row (seen one)) → IfOk r (λ m. m ≡ count_under left row (fork (seen q.zero) (seen q.one)))
counted-one (Err x) row zero one q some goes made is = tt
counted-one {left = left} (Ok m) row zero one q some goes made is =
    is ∙ sym (ap length (ap (rows_at (low_bits left row.key)) (λ i. fork (seen (made.0 i)) (seen (made.1 i))) ∙ rows_one left row.key (seen zero) (seen one) some goes))
