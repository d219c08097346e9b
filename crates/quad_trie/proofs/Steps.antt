-- A step down a node of four that a trie owns, into the quarter under a key's next two bits.
use Rattle.std.proofs.Common.{◌≡◌, ◌⊎◌, inl, inr, ◌-◌, ◌==◌, ◌∙◌, ℕ, true, false, Bool, List, ◌∷◌, Result, Ok, Err, OnErr, IfOk, length, refl, sym, ap}
use mathlib.Core.Bool.{beq}
use Rattle.std.specs.Int.{bit_at}
use Rattle.std.specs.Cmp.{booleans_Decides, first_so, second_so}
use Rattle.zorder.specs.Bits.{low_bits}
use Rattle.bucket_versions.specs.declared.row.Row.{Row}
use Rattle.bucket_versions.specs.declared.row.RowChange.{RowChange}
use Rattle.bucket_versions.specs.Rows.{Rows, has_row, after_gone}
use Rattle.bit_trie.specs.Tries.{Trie, changed_at, rows_at, graft}
use Rattle.bit_trie.specs.Ways.{Fits, count_under, gone_under, MayMove}
use Rattle.quad_trie.specs.declared.node.Node.{Node}
use Rattle.quad_trie.specs.declared.node.Quad.{Quad}
use Rattle.quad_trie.specs.Nodes.{seen, four, quarter_of, with_quarter}
use Rattle.quad_trie.specs.Quarters.{with_node, go_together}
use Rattle.quad_trie.proofs.Quarters.{Step, step, two_bits}

-- a node of four that is owned holds what it held
pub owned : {t : Trie} (a p : Quad) → t ≡ four a → (p ≡ a) ⊎ (four p ≡ four a) → t ≡ four p
owned a p was (inl e) = was ∙ sym (ap four e)
owned a p was (inr e) = was ∙ sym e

-- what `own`, `next_bit` and `quarter_mut` say is a step
pub own-step : {left key : ℕ} {t : Trie} {a p : Quad} {high low : Bool} {u : Trie} → Fits left t → t ≡ four a → (p ≡ a) ⊎ (four p ≡ four a) → high ≡ (bit_at key (left - 1) == 1)
    → low ≡ (bit_at key (left - 1 - 1) == 1) → u ≡ quarter_of p high low → Step left key t p high low u
own-step {a = a} {p = p} fits was same first second quarter = step fits (owned a p was same) first second quarter

-- a node of four that could not be owned
pub kept-default : {A E : Type 0} {t : Trie} {e : E} (a q : Quad) (r : Result A E) → r ≡ Err e → t ≡ four a → OnErr r ((q ≡ a) ⊎ (four q ≡ four a)) → four q ≡ t
kept-default a q (Ok x) is was same = absurd (cc is)
kept-default a q (Err x) is was same = sym (owned a q was same)

-- the four with another trie in one quarter
module _ (q : Quad) where
  whole-with : (high low : Bool) → four q ≡ with_quarter q high low (quarter_of q high low)
  whole-with true true = refl
  whole-with true false = refl
  whole-with false true = refl
  whole-with false false = refl

  made-with : (p : Quad) (n : Node) (high low : Bool) → p ≡ with_node q high low n → four p ≡ with_quarter q high low (seen n)
  made-with p n true true e = ap four e
  made-with p n true false e = ap four e
  made-with p n false true e = ap four e
  made-with p n false false e = ap four e

  rows-with : (path : List Bool) (v : Trie) (high low : Bool) → rows_at (high ∷ low ∷ path) (with_quarter q high low v) ≡ rows_at path v
  rows-with path v true true = refl
  rows-with path v true false = refl
  rows-with path v false true = refl
  rows-with path v false false = refl

  changed-with : (path : List Bool) (f : Rows → Rows) (v : Trie) (high low : Bool) → changed_at (high ∷ low ∷ path) f (with_quarter q high low v) ≡ with_quarter q high low (changed_at path f v)
  changed-with path f v true true = refl
  changed-with path f v true false = refl
  changed-with path f v false true = refl
  changed-with path f v false false = refl

  graft-with : (path : List Bool) (x v : Trie) (high low : Bool) → graft (high ∷ low ∷ path) x (with_quarter q high low v) ≡ with_quarter q high low (graft path x v)
  graft-with path x v true true = refl
  graft-with path x v true false = refl
  graft-with path x v false true = refl
  graft-with path x v false false = refl

whole-step : {left key : ℕ} {t : Trie} {q : Quad} {high low : Bool} {u : Trie} → Step left key t q high low u → t ≡ with_quarter q high low u
whole-step {q = q} {high = high} {low = low} s = s.is ∙ whole-with q high low ∙ ap (with_quarter q high low) (sym s.quarter)

-- the rows that a key leads to
pub rows-step : {left key : ℕ} {t : Trie} {q : Quad} {high low : Bool} {u : Trie} → Step left key t q high low u → rows_at (low_bits left key) t ≡ rows_at (low_bits (left - 2) key) u
rows-step {left} {key} {t} {q} {high} {low} {u} s = (λ i. rows_at (s.bits i) (whole-step s i)) ∙ rows-with q (low_bits (left - 2) key) u high low

-- the four after a change below
pub changed-step : {left key : ℕ} {t : Trie} {q : Quad} {high low : Bool} {u : Trie} → Step left key t q high low u → (f : Rows → Rows) (n : Node) (p : Quad) → p ≡ with_node q high low n
    → seen n ≡ changed_at (low_bits (left - 2) key) f u → four p ≡ changed_at (low_bits left key) f t
changed-step {left} {key} {t} {q} {high} {low} {u} s f n p made below =
    made-with q p n high low made ∙ ap (with_quarter q high low) below ∙ sym (changed-with q (low_bits (left - 2) key) f u high low) ∙ (λ i. changed_at (sym s.bits i) f (sym (whole-step s) i))

pub graft-step : {left key : ℕ} {t : Trie} {q : Quad} {high low : Bool} {u : Trie} → Step left key t q high low u → (x : Trie) (n : Node) (p : Quad) → p ≡ with_node q high low n
    → seen n ≡ graft (low_bits (left - 2) key) x u → four p ≡ graft (low_bits left key) x t
graft-step {left} {key} {t} {q} {high} {low} {u} s x n p made below =
    made-with q p n high low made ∙ ap (with_quarter q high low) below ∙ sym (graft-with q (low_bits (left - 2) key) x u high low) ∙ (λ i. graft (sym s.bits i) x (sym (whole-step s) i))

pub kept-step : {left key : ℕ} {t : Trie} {q : Quad} {high low : Bool} {u : Trie} → Step left key t q high low u → (n : Node) (p : Quad) → p ≡ with_node q high low n → seen n ≡ u → four p ≡ t
kept-step {q = q} {high = high} {low = low} s n p made below = made-with q p n high low made ∙ ap (with_quarter q high low) below ∙ sym (whole-step s)

-- how many rows a key leads to then
pub counted-step : {left : ℕ} {t : Trie} {q : Quad} {high low : Bool} {u : Trie} {E : Type 0} (r : Result ℕ E) (row : Row) → Step left row.key t q high low u → (n : Node) (p : Quad) → p ≡ with_node q high low n
    → IfOk r (λ m. m ≡ count_under (left - 2) row (seen n)) → IfOk r (λ m. m ≡ count_under left row (four p))
counted-step (Err x) row s n p made is = tt
counted-step {left} {t} {q} {high} {low} {u} (Ok m) row s n p made is =
    is ∙ sym (ap length ((λ i. rows_at (s.bits i) (made-with q p n high low made i)) ∙ rows-with q (low_bits (left - 2) row.key) (seen n) high low))

pub counted-same : {E : Type 0} (left : ℕ) (r : Result ℕ E) (row : Row) (t u : Trie) → u ≡ t → IfOk r (λ m. m ≡ count_under left row t) → IfOk r (λ m. m ≡ count_under left row u)
counted-same left (Err x) row t u same is = tt
counted-same left (Ok m) row t u same is = is ∙ ap (count_under left row) (sym same)

-- a key that goes on with the same two bits takes the same step
pub same-step : {left key : ℕ} {t : Trie} {q : Quad} {high low : Bool} {u : Trie} → Step left key t q high low u → (other : ℕ) → go_together left key other ≡ true → high ≡ (bit_at key (left - 1) == 1)
    → low ≡ (bit_at key (left - 1 - 1) == 1) → Step left other t q high low u
same-step {left} {key} {t} {q} {high} {low} {u} s other e first second =
    let one : Bool = beq (bit_at key (left - 1) == 1) (bit_at other (left - 1) == 1) in
    let two : Bool = beq (bit_at key (left - 1 - 1) == 1) (bit_at other (left - 1 - 1) == 1) in
    record {
      some = s.some;
      fits = s.fits;
      is = s.is;
      bits = two_bits left other high low s.some
          (first ∙ (booleans_Decides (bit_at key (left - 1) == 1) (bit_at other (left - 1) == 1)).0 (first_so one two e))
          (second ∙ (booleans_Decides (bit_at key (left - 1 - 1) == 1) (bit_at other (left - 1 - 1) == 1)).0 (second_so one two e));
      quarter = s.quarter;
    }

-- what such a key leads to after a change under the first
rows-twice : {left key other : ℕ} {t : Trie} {q : Quad} {high low : Bool} {u : Trie} → Step left key t q high low u → Step left other t q high low u → (f : Rows → Rows)
    → rows_at (low_bits left other) (changed_at (low_bits left key) f t) ≡ rows_at (low_bits (left - 2) other) (changed_at (low_bits (left - 2) key) f u)
rows-twice {left} {key} {other} {t} {q} {high} {low} {u} s o f =
    (λ i. rows_at (o.bits i) (changed_at (s.bits i) f (whole-step s i)))
    ∙ ap (rows_at (high ∷ low ∷ low_bits (left - 2) other)) (changed-with q (low_bits (left - 2) key) f u high low)
    ∙ rows-with q (low_bits (left - 2) other) (changed_at (low_bits (left - 2) key) f u) high low

pub moves-step : {left : ℕ} {t : Trie} {q : Quad} {high low : Bool} {u : Trie} (from to : RowChange) → Step left from.row.key t q high low u → Step left to.row.key t q high low u
    → MayMove left from left to t (gone_under left from t) → MayMove (left - 2) from (left - 2) to u (gone_under (left - 2) from u)
moves-step from to s o m = record {
  present = ap (has_row from.row) (sym (rows-step s)) ∙ m.present;
  absent = ap (has_row to.row) (sym (rows-twice s o (after_gone from))) ∙ m.absent;
}

pub changed-twice : {left key other : ℕ} {t : Trie} {q : Quad} {high low : Bool} {u : Trie} → Step left key t q high low u → Step left other t q high low u → (f h : Rows → Rows) (n : Node) (p : Quad)
    → p ≡ with_node q high low n → seen n ≡ changed_at (low_bits (left - 2) other) h (changed_at (low_bits (left - 2) key) f u) → four p ≡ changed_at (low_bits left other) h (changed_at (low_bits left key) f t)
changed-twice {left} {key} {other} {t} {q} {high} {low} {u} s o f h n p made below =
    made-with q p n high low made
    ∙ ap (with_quarter q high low) below
    ∙ sym (changed-with q (low_bits (left - 2) other) h (changed_at (low_bits (left - 2) key) f u) high low)
    ∙ ap (changed_at (high ∷ low ∷ low_bits (left - 2) other) h) (sym (changed-with q (low_bits (left - 2) key) f u high low))
    ∙ (λ i. changed_at (sym o.bits i) h (changed_at (sym s.bits i) f (sym (whole-step s) i)))
