-- Two quarters that are changed, of which one stands aside meanwhile.
use Rattle.std.proofs.Common.{◌≡◌, ◌-◌, ◌==◌, ◌&&◌, ◌∙◌, ℕ, true, false, Bool, List, ◌∷◌, Result, Ok, Err, IfOk, length, refl, sym, ap, if◌then◌else◌}
use mathlib.Core.Bool.{beq}
use Rattle.std.specs.Int.{bit_at}
use Rattle.zorder.specs.Bits.{low_bits}
use Rattle.bucket_versions.specs.declared.row.Row.{Row}
use Rattle.bucket_versions.specs.declared.row.RowChange.{RowChange}
use Rattle.bucket_versions.specs.Rows.{Rows, has_row, after_gone}
use Rattle.bit_trie.specs.Tries.{Trie, changed_at, rows_at}
use Rattle.bit_trie.specs.Ways.{Fits, count_under, gone_under, MayMove}
use Rattle.quad_trie.specs.declared.node.Node.{Node}
use Rattle.quad_trie.specs.declared.node.Quad.{Quad}
use Rattle.quad_trie.specs.Nodes.{seen, four, quads, quarter_of}
use Rattle.quad_trie.specs.Quarters.{with_node, go_together}
use Rattle.quad_trie.proofs.Quarters.{step}

-- four tries, by the bits that lead to them, as one
abbrev all_of : (Bool → Bool → Trie) → Trie
all_of f = quads (f false false) (f false true) (f true false) (f true true)

-- with another one under two bits
abbrev over : Bool → Bool → Trie → (Bool → Bool → Trie) → Bool → Bool → Trie
over high low t f a b = if beq high a && beq low b then t else f a b

other-one : (high low a b : Bool) (t : Trie) (f : Bool → Bool → Trie) → (beq high a && beq low b) ≡ false → over high low t f a b ≡ f a b
other-one high low a b t f e = ap (λ (c : Bool). if c then t else f a b) e

rows-all : (path : List Bool) (f : Bool → Bool → Trie) (high low : Bool) → rows_at (high ∷ low ∷ path) (all_of f) ≡ rows_at path (f high low)
rows-all path f true true = refl
rows-all path f true false = refl
rows-all path f false true = refl
rows-all path f false false = refl

same-one : (high low : Bool) (t : Trie) (f : Bool → Bool → Trie) → over high low t f high low ≡ t
same-one true true t f = refl
same-one true false t f = refl
same-one false true t f = refl
same-one false false t f = refl

changed-all : (path : List Bool) (change : Rows → Rows) (f : Bool → Bool → Trie) (high low : Bool) → changed_at (high ∷ low ∷ path) change (all_of f) ≡ all_of (over high low (changed_at path change (f high low)) f)
changed-all path change f true true = refl
changed-all path change f true false = refl
changed-all path change f false true = refl
changed-all path change f false false = refl

all-same : (f : Bool → Bool → Trie) (high low : Bool) → all_of (over high low (f high low) f) ≡ all_of f
all-same f true true = refl
all-same f true false = refl
all-same f false true = refl
all-same f false false = refl

-- what was written first, and then written over, is not seen
hidden : (c d : Bool) (x y z w : Trie) → (if c then x else (if d then y else (if c then z else w))) ≡ (if c then x else (if d then y else w))
hidden true d x y z w = refl
hidden false true x y z w = refl
hidden false false x y z w = refl

-- two that are apart may be written in either order
swapped : (a b c d : Bool) (x y : Trie) (f : Bool → Bool → Trie) → (beq a c && beq b d) ≡ false → all_of (over a b x (over c d y f)) ≡ all_of (over c d y (over a b x f))
swapped true true true true x y f e = absurd (cc e)
swapped true true true false x y f e = refl
swapped true true false true x y f e = refl
swapped true true false false x y f e = refl
swapped true false true true x y f e = refl
swapped true false true false x y f e = absurd (cc e)
swapped true false false true x y f e = refl
swapped true false false false x y f e = refl
swapped false true true true x y f e = refl
swapped false true true false x y f e = refl
swapped false true false true x y f e = absurd (cc e)
swapped false true false false x y f e = refl
swapped false false true true x y f e = refl
swapped false false true false x y f e = refl
swapped false false false true x y f e = refl
swapped false false false false x y f e = absurd (cc e)

-- the quarters of a node with another node in one of them
quarter-over : (q : Quad) (n : Node) (high low a b : Bool) → quarter_of (with_node q high low n) a b ≡ over high low (seen n) (quarter_of q) a b
quarter-over q n true true true true = refl
quarter-over q n true true true false = refl
quarter-over q n true true false true = refl
quarter-over q n true true false false = refl
quarter-over q n true false true true = refl
quarter-over q n true false true false = refl
quarter-over q n true false false true = refl
quarter-over q n true false false false = refl
quarter-over q n false true true true = refl
quarter-over q n false true true false = refl
quarter-over q n false true false true = refl
quarter-over q n false true false false = refl
quarter-over q n false false true true = refl
quarter-over q n false false true false = refl
quarter-over q n false false false true = refl
quarter-over q n false false false false = refl

quarters-over : (q p : Quad) (n : Node) (high low : Bool) → p ≡ with_node q high low n → quarter_of p ≡ over high low (seen n) (quarter_of q)
quarters-over q p n high low e = ap quarter_of e ∙ (λ i a b. quarter-over q n high low a b i)

-- two keys that part at a node: the bits with which each goes on
pub record Apart (left from to : ℕ) (q : Quad) (a b c d : Bool) : Type 0 where
  pub near : Fits (left - 2) (quarter_of q a b)
  pub far : Fits (left - 2) (quarter_of q c d)
  pub bits : low_bits left from ≡ a ∷ b ∷ low_bits (left - 2) from
  pub to_bits : low_bits left to ≡ c ∷ d ∷ low_bits (left - 2) to
  pub unlike : (beq a c && beq b d) ≡ false

pub apart : {left from to : ℕ} {q : Quad} {a b c d : Bool} → Fits left (four q) → go_together left from to ≡ false → a ≡ (bit_at from (left - 1) == 1) → b ≡ (bit_at from (left - 1 - 1) == 1)
    → c ≡ (bit_at to (left - 1) == 1) → d ≡ (bit_at to (left - 1 - 1) == 1) → Apart left from to q a b c d
apart {left} {from} {to} {q} {a} {b} {c} {d} fits e first second third fourth =
    let s = step {key = from} {q = q} fits refl first second refl in
    let o = step {key = to} {q = q} fits refl third fourth refl in
    record { near = s.fits; far = o.fits; bits = s.bits; to_bits = o.bits; unlike = (λ i. beq (first i) (third i) && beq (second i) (fourth i)) ∙ e }

module _ {left from to : ℕ} {q : Quad} {a b c d : Bool} (s : Apart left from to q a b c d) where
  -- the second quarter, while something else stands in the first
  pub far-kept : (p : Quad) (n : Node) → p ≡ with_node q a b n → quarter_of p c d ≡ quarter_of q c d
  far-kept p n e = (λ i. quarters-over q p n a b e i c d) ∙ other-one a b c d (seen n) (quarter_of q) s.unlike

  -- the three writes: something into the first, the second one changed, and the first one changed
  written : (p1 p2 p3 : Quad) (n m k : Node) → p1 ≡ with_node q a b n → p2 ≡ with_node p1 c d m → p3 ≡ with_node p2 a b k → four p3 ≡ all_of (over c d (seen m) (over a b (seen k) (quarter_of q)))
  written p1 p2 p3 n m k e1 e2 e3 =
      ap all_of (quarters-over p2 p3 k a b e3)
      ∙ ap (λ (f : Bool → Bool → Trie). all_of (over a b (seen k) f)) (quarters-over p1 p2 m c d e2)
      ∙ ap (λ (f : Bool → Bool → Trie). all_of (over a b (seen k) (over c d (seen m) f))) (quarters-over q p1 n a b e1)
      ∙ ap all_of (λ i x y. hidden (beq a x && beq b y) (beq c x && beq d y) (seen k) (seen m) (seen n) (quarter_of q x y) i)
      ∙ swapped a b c d (seen k) (seen m) (quarter_of q) s.unlike

  changed-apart : (f h : Rows → Rows) → changed_at (low_bits left to) h (changed_at (low_bits left from) f (four q))
      ≡ all_of (over c d (changed_at (low_bits (left - 2) to) h (quarter_of q c d)) (over a b (changed_at (low_bits (left - 2) from) f (quarter_of q a b)) (quarter_of q)))
  changed-apart f h =
      let near : Trie = changed_at (low_bits (left - 2) from) f (quarter_of q a b) in
      (λ i. changed_at (s.to_bits i) h (changed_at (s.bits i) f (four q)))
      ∙ ap (changed_at (c ∷ d ∷ low_bits (left - 2) to) h) (changed-all (low_bits (left - 2) from) f (quarter_of q) a b)
      ∙ changed-all (low_bits (left - 2) to) h (over a b near (quarter_of q)) c d
      ∙ ap (λ (t : Trie). all_of (over c d (changed_at (low_bits (left - 2) to) h t) (over a b near (quarter_of q)))) (other-one a b c d near (quarter_of q) s.unlike)

  pub changed-across : (f h : Rows → Rows) (p1 p2 p3 : Quad) (n m k : Node) → p1 ≡ with_node q a b n → p2 ≡ with_node p1 c d m → p3 ≡ with_node p2 a b k
      → seen k ≡ changed_at (low_bits (left - 2) from) f (quarter_of q a b) → seen m ≡ changed_at (low_bits (left - 2) to) h (quarter_of q c d)
      → four p3 ≡ changed_at (low_bits left to) h (changed_at (low_bits left from) f (four q))
  changed-across f h p1 p2 p3 n m k e1 e2 e3 near far =
      written p1 p2 p3 n m k e1 e2 e3 ∙ (λ i. all_of (over c d (far i) (over a b (near i) (quarter_of q)))) ∙ sym (changed-apart f h)

  pub kept-across : (p1 p2 p3 : Quad) (n m k : Node) → p1 ≡ with_node q a b n → p2 ≡ with_node p1 c d m → p3 ≡ with_node p2 a b k → seen k ≡ quarter_of q a b → seen m ≡ quarter_of q c d → four p3 ≡ four q
  kept-across p1 p2 p3 n m k e1 e2 e3 near far =
      let g : Bool → Bool → Trie = over a b (quarter_of q a b) (quarter_of q) in
      written p1 p2 p3 n m k e1 e2 e3
      ∙ (λ i. all_of (over c d (far i) (over a b (near i) (quarter_of q))))
      ∙ ap (λ (t : Trie). all_of (over c d t g)) (sym (other-one a b c d (quarter_of q a b) (quarter_of q) s.unlike))
      ∙ all-same g c d
      ∙ all-same (quarter_of q) a b

  -- how many rows the second key leads to then
  pub counted-across : {E : Type 0} (r : Result ℕ E) (row : Row) → row.key ≡ to → (p1 p2 p3 : Quad) (n m k : Node) → p1 ≡ with_node q a b n → p2 ≡ with_node p1 c d m → p3 ≡ with_node p2 a b k
      → IfOk r (λ x. x ≡ count_under (left - 2) row (seen m)) → IfOk r (λ x. x ≡ count_under left row (four p3))
  counted-across (Err x) row key p1 p2 p3 n m k e1 e2 e3 is = tt
  counted-across (Ok x) row key p1 p2 p3 n m k e1 e2 e3 is =
      let g : Bool → Bool → Trie = over a b (seen k) (quarter_of q) in
      is
      ∙ ap (λ (j : ℕ). length (rows_at (low_bits (left - 2) j) (seen m))) key
      ∙ sym (ap length (
      ap (λ (j : ℕ). rows_at (low_bits left j) (four p3)) key
      ∙ (λ i. rows_at (s.to_bits i) (written p1 p2 p3 n m k e1 e2 e3 i))
      ∙ rows-all (low_bits (left - 2) to) (over c d (seen m) g) c d
      ∙ ap (rows_at (low_bits (left - 2) to)) (same-one c d (seen m) g)))

-- a row may go from the first quarter to the second
pub moves-across : {left : ℕ} {q : Quad} {a b c d : Bool} (from to : RowChange) → Apart left from.row.key to.row.key q a b c d → (t u : Trie) → t ≡ quarter_of q a b → u ≡ quarter_of q c d
    → MayMove left from left to (four q) (gone_under left from (four q)) → MayMove (left - 2) from (left - 2) to t u
moves-across {left} {q} {a} {b} {c} {d} from to s t u near far m =
    let fk : ℕ = from.row.key in
    let tk : ℕ = to.row.key in
    let gone : Trie = changed_at (low_bits (left - 2) fk) (after_gone from) (quarter_of q a b) in
    let here : rows_at (low_bits left fk) (four q) ≡ rows_at (low_bits (left - 2) fk) t =
    (λ i. rows_at (s.bits i) (four q)) ∙ rows-all (low_bits (left - 2) fk) (quarter_of q) a b ∙ ap (rows_at (low_bits (left - 2) fk)) (sym near) in
    let there : rows_at (low_bits left tk) (gone_under left from (four q)) ≡ rows_at (low_bits (left - 2) tk) u =
    (λ i. rows_at (s.to_bits i) (changed_at (s.bits i) (after_gone from) (four q)))
    ∙ ap (rows_at (c ∷ d ∷ low_bits (left - 2) tk)) (changed-all (low_bits (left - 2) fk) (after_gone from) (quarter_of q) a b)
    ∙ rows-all (low_bits (left - 2) tk) (over a b gone (quarter_of q)) c d
    ∙ ap (rows_at (low_bits (left - 2) tk)) (other-one a b c d gone (quarter_of q) s.unlike ∙ sym far) in
    record { present = ap (has_row from.row) (sym here) ∙ m.present; absent = ap (has_row to.row) (sym there) ∙ m.absent }
