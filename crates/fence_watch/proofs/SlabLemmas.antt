-- What the edge before a number says about the number.
use Rattle.std.proofs.Common.{◌≡◌, ℕ, zero, suc, ◌≤◌, ◌<◌, ◌+◌, ◌-◌, ◌^◌, Bool, true, false, List, [], ◌∷◌, ◌++◌, length, map, take, get_or, refl, sym, ◌∙◌, ap, arith, ◌&&◌, cond, append_assoc, append-nil, add-one}
use Rattle.std.specs.Prelude.{nat_le, nat_lt}
use Rattle.std.specs.List.{Contains}
use Rattle.std.specs.List.Sorted.{IsNonDecreasing, IsPermutation}
use Rattle.std.proofs.lemmas.Bool.{lt-ltb}
use Rattle.std.proofs.lemmas.Bool.Decides.{nat_tests}
use Rattle.std.proofs.lemmas.List.Elements.{Contains-append_left, Contains-append_right}
use Rattle.std.proofs.lemmas.List.Sorted.{Contains-permutation}
use Rattle.fence_watch.specs.declared.slabs.Span.{Span}
use Rattle.fence_watch.specs.Marks.{marks_of, all_marks}
use Rattle.fence_watch.specs.Slabs.{spans, row_at, own_edges, edges_of, TellSpans, IsSlabOf}

-- The edges with one more span.
edges-suc : (list : List Span) (i : ℕ) (d : Span) → i < length list → edges_of (take (suc i) list) ≡ edges_of (take i list) ++ own_edges (get_or list i d)
edges-suc [] i d lt = absurd (omega (arith, lt))
edges-suc (s ∷ list) zero d lt = append-nil (own_edges s)
edges-suc (s ∷ list) (suc i) d lt =
    ap (λ (l : List ℕ). own_edges s ++ l) (edges-suc list i d (omega (arith, lt))) ∙ sym (append_assoc (own_edges s) (edges_of (take i list)) (own_edges (get_or list i d)))

pub edges-more : (list : List Span) (i : ℕ) (d : Span) → i < length list → edges_of (take (i + 1) list) ≡ edges_of (take i list) ++ own_edges (get_or list i d)
edges-more list i d lt = ap (λ n. edges_of (take n list)) (add-one i) ∙ edges-suc list i d lt

pub pushed-more : (list : List Span) (i : ℕ) (d : Span) (old new : List ℕ) → i < length list → old ≡ 0 ∷ edges_of (take i list) → new ≡ old ++ own_edges (get_or list i d) → new ≡ 0 ∷ edges_of (take (i + 1) list)
pushed-more list i d old new lt before pushed = pushed ∙ ap (λ (l : List ℕ). l ++ own_edges (get_or list i d)) before ∙ ap (λ (l : List ℕ). 0 ∷ l) (sym (edges-more list i d lt))

-- An edge that is at most a number, with no edge of this span between them.
pub record IsSlab (s : Span) (edge at : ℕ) : Type 0 where
  pub below : edge ≤ at
  pub first : s.from ≤ at → s.from ≤ edge
  pub last : s.to < at → s.to < edge

first-same : (lo edge at : ℕ) → edge ≤ at → (lo ≤ at → lo ≤ edge) → nat_le lo edge ≡ nat_le lo at
first-same lo edge at below first = grind (arith, nat_tests)

last-same : (hi edge at : ℕ) → edge ≤ at → (hi < at → hi < edge) → nat_le edge hi ≡ nat_le at hi
last-same hi edge at below last = grind (arith, nat_tests)

-- A number is in a span if and only if the edge of its slab is.
pub slab-same : (s : Span) (edge at : ℕ) → IsSlab s edge at → spans edge s ≡ spans at s
slab-same s edge at slab = λ i. first-same s.from edge at slab.below slab.first i && last-same s.to edge at slab.below slab.last i

-- The edges before a number and after it.
pub record IsCut (edges : List ℕ) (at behind : ℕ) : Type 0 where
  pub within : behind ≤ length edges
  pub before : (k d : ℕ) → k < behind → nat_le (get_or edges k d) at ≡ true
  pub after : (k d : ℕ) → behind ≤ k → k < length edges → nat_le (get_or edges k d) at ≡ false

at_most : (a b : ℕ) → nat_le a b ≡ true → a ≤ b
at_most a b e = grind (arith, nat_tests)

above : (a b : ℕ) → nat_le a b ≡ false → b < a
above a b e = grind (arith, nat_tests)

default-same : (xs : List ℕ) (k d e : ℕ) → k < length xs → get_or xs k d ≡ get_or xs k e
default-same [] k d e lt = absurd (omega (arith, lt))
default-same (x ∷ xs) zero d e lt = refl
default-same (x ∷ xs) (suc k) d e lt = default-same xs k d e (omega (arith, lt))

-- An edge that is at most a number comes before it.
pub comes-before : (edges : List ℕ) (at behind v : ℕ) → IsCut edges at behind → Contains edges v → v ≤ at → (k : ℕ) × (k < behind) × (k < length edges) × (get_or edges k v ≡ v)
comes-before edges at behind v cut there le = (there.0, by_test (nat_le behind there.0) refl, there.1, there.2)
  where
    by_test : (b : Bool) → nat_le behind there.0 ≡ b → there.0 < behind
    by_test true low =
        let after : at < get_or edges there.0 v = above (get_or edges there.0 v) at (cut.after there.0 v (at_most behind there.0 low) there.1) in
        absurd (omega (arith, after, there.2, le))
    by_test false e = above behind there.0 e

-- The last edge before it is at least each such edge.
pub last-before : (edges : List ℕ) (at behind v d : ℕ) → IsNonDecreasing edges → IsCut edges at behind → Contains edges v → v ≤ at → v ≤ get_or edges (behind - 1) d
last-before edges at behind v d sorted cut there le =
    let k = comes-before edges at behind v cut there le in
    let rises : get_or edges k.0 d ≤ get_or edges (behind - 1) d = sorted k.0 (behind - 1) d (omega (arith, k.1)) (omega (arith, k.1, cut.within)) in
    omega (arith, rises, default-same edges k.0 d v k.2, k.3)

own-from : (s : Span) → Contains (own_edges s) s.from
own-from s = by_test (nat_lt (s.to + 1) (2 ^ 32))
  where
    by_test : (b : Bool) → Contains (cond b (s.from ∷ (s.to + 1) ∷ []) (s.from ∷ [])) s.from
    by_test true = (0, omega arith, refl)
    by_test false = (0, omega arith, refl)

own-behind : (s : Span) → s.to + 1 < 2 ^ 32 → Contains (own_edges s) (s.to + 1)
own-behind s lt = by_test (nat_lt (s.to + 1) (2 ^ 32)) (lt-ltb (s.to + 1) (2 ^ 32) lt)
  where
    by_test : (b : Bool) → b ≡ true → Contains (cond b (s.from ∷ (s.to + 1) ∷ []) (s.from ∷ [])) (s.to + 1)
    by_test true e = (1, omega arith, refl)
    by_test false e = absurd (cc e)

-- The row of the last edge before a number is that of the number.
pub row-same : (list : List Span) (edges : List ℕ) (at behind d : ℕ) → at < 2 ^ 32 → IsNonDecreasing edges → IsCut edges at behind → 0 < behind
    → ((v : ℕ) → Contains (edges_of list) v → Contains edges v) → row_at (get_or edges (behind - 1) d) list ≡ row_at at list
row-same [] edges at behind d fits sorted cut some all = refl
row-same (s ∷ list) edges at behind d fits sorted cut some all =
    let edge : ℕ = get_or edges (behind - 1) d in
    let here : IsSlab s edge at = record {
      below = at_most edge at (cut.before (behind - 1) d (omega (arith, some)));
      first = λ le. last-before edges at behind s.from d sorted cut (all s.from (Contains-append_left (own_edges s) (edges_of list) s.from (own-from s))) le;
      last = λ lt.
          let le : s.to + 1 ≤ edge = last-before edges at behind (s.to + 1) d sorted cut
          (all (s.to + 1) (Contains-append_left (own_edges s) (edges_of list) (s.to + 1) (own-behind s (omega (arith, lt, fits))))) (omega (arith, lt)) in
          omega (arith, le);
    } in
    λ i. slab-same s edge at here i ∷ row-same list edges at behind d fits sorted cut some (λ v there. all v (Contains-append_right (own_edges s) (edges_of list) v there)) i

-- The row at an index, if rows are those of the edges.
pub row-at : (list : List Span) (edges : List ℕ) (rows : List (List ℕ)) (i d : ℕ) (e : List ℕ)
    → map marks_of rows ≡ map (λ edge. all_marks (row_at edge list)) edges → i < length edges → marks_of (get_or rows i e) ≡ all_marks (row_at (get_or edges i d) list)
row-at list [] rows i d e told lt = absurd (omega (arith, lt))
row-at list (x ∷ edges) [] i d e told lt = absurd (cc told)
row-at list (x ∷ edges) (r ∷ rows) zero d e told lt = cc told
row-at list (x ∷ edges) (r ∷ rows) (suc i) d e told lt = row-at list edges rows i d e (cc told) (omega (arith, lt))

to-le : (a b : ℕ) → a ≤ b → nat_le a b ≡ true
to-le a b le = grind (arith, nat_tests)

to-not_le : (a b : ℕ) → b < a → nat_le a b ≡ false
to-not_le a b lt = grind (arith, nat_tests)

-- The edges up to that of a number's slab are at most the number, and those after it are greater.
pub cut-of : (edges : List ℕ) (at slab : ℕ) → IsNonDecreasing edges → IsSlabOf edges at slab → IsCut edges at (slab + 1)
cut-of edges at slab sorted is = record {
  within = omega (arith, is.within);
  before = λ k d lt.
      let rises : get_or edges k d ≤ get_or edges slab d = sorted k slab d (omega (arith, lt)) is.within in
      let same : get_or edges slab d ≡ get_or edges slab 0 = default-same edges slab d 0 is.within in
      to-le (get_or edges k d) at (omega (arith, rises, same, is.below));
  after = λ k d low lt.
      let next : at < get_or edges (slab + 1) 0 = is.last (omega (arith, low, lt)) in
      let rises : get_or edges (slab + 1) d ≤ get_or edges k d = sorted (slab + 1) k d low lt in
      let same : get_or edges (slab + 1) d ≡ get_or edges (slab + 1) 0 = default-same edges (slab + 1) d 0 (omega (arith, low, lt)) in
      to-not_le (get_or edges k d) at (omega (arith, rises, same, next));
}

has-zero : (list : List Span) (edges : List ℕ) → IsPermutation (0 ∷ edges_of list) edges → Contains edges 0
has-zero list edges all = Contains-permutation (0 ∷ edges_of list) edges 0 all (0, omega arith, refl)

-- There is an edge, and the first one is at most any number.
pub some-edge : (list : List Span) (edges : List ℕ) → IsPermutation (0 ∷ edges_of list) edges → 1 ≤ length edges
some-edge list edges all = let there = has-zero list edges all in omega (arith, there.1)

pub first-edge : (list : List Span) (edges : List ℕ) (at : ℕ) → IsNonDecreasing edges → IsPermutation (0 ∷ edges_of list) edges → get_or edges 0 0 ≤ at
first-edge list edges at sorted all =
    let there = has-zero list edges all in
    let rises : get_or edges 0 0 ≤ get_or edges there.0 0 = sorted 0 there.0 0 (omega arith) there.1 in
    omega (arith, rises, there.2)

-- The row of a number's slab is that of the number.
pub row-of : (list : List Span) (edges : List ℕ) (rows : List (List ℕ)) (at slab : ℕ) (e : List ℕ) → TellSpans list edges rows → at < 2 ^ 32
    → IsSlabOf edges at slab → marks_of (get_or rows slab e) ≡ all_marks (row_at at list)
row-of list edges rows at slab e tell fits is =
    let there : (v : ℕ) → Contains (0 ∷ edges_of list) v → Contains edges v = λ v. Contains-permutation (0 ∷ edges_of list) edges v tell.all in
    let same : row_at (get_or edges (slab + 1 - 1) 0) list ≡ row_at at list =
    row-same list edges at (slab + 1) 0 fits tell.sorted (cut-of edges at slab tell.sorted is) (omega arith) (λ v own. there v (Contains-append_right (0 ∷ []) (edges_of list) v own)) in
    let back : slab ≡ slab + 1 - 1 = omega arith in
    row-at list edges rows slab 0 e tell.told is.within ∙ ap (λ n. all_marks (row_at (get_or edges n 0) list)) back ∙ ap all_marks same
