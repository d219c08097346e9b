-- Pairs that count the rows below them.
use Rattle.std.proofs.Common.{◌≡◌, ◌⊎◌, inl, inr, ◌+◌, ◌-◌, ◌==◌, ◌&&◌, ◌≤◌, ◌∙◌, true, false, Bool, Result, Ok, Err, OnOk, OnErr, List, [], ◌∷◌, sym, ap, arith}
use Rattle.std.specs.Cmp.{first_so, second_so}
use Rattle.std.specs.Cmp.Derive.{both_true}
use Rattle.std.proofs.lemmas.Bool.{eqb-true, eq-eqb}
use Rattle.bit_trie.specs.Tries.{Trie, tip, fork, graft, rows_in}
use Rattle.bit_trie.specs.Ways.{once_if}
use Rattle.kd_trie.specs.declared.node.Node.{Node}
use Rattle.kd_trie.specs.declared.node.Pair.{Pair}
use Rattle.kd_trie.specs.Nodes.{seen, is_counted, counts, Copies}
use Rattle.kd_trie.specs.Halves.{half_of, half_counts, with_half}
use Rattle.kd_trie.proofs.Steps.{Made}

-- a pair's count, and its halves
pub record Counts (p : Pair) : Type 0 where
  pub count : p.count ≡ rows_in (seen p.zero) + rows_in (seen p.one)
  pub zero : is_counted p.zero ≡ true
  pub one : is_counted p.one ≡ true

pub counts-parts : (p : Pair) → counts p ≡ true → Counts p
counts-parts p e =
    let halves : (is_counted p.zero && is_counted p.one) ≡ true = second_so (p.count == rows_in (seen p.zero) + rows_in (seen p.one)) (is_counted p.zero && is_counted p.one) e in
    record {
      count = eqb-true p.count (rows_in (seen p.zero) + rows_in (seen p.one)) (first_so (p.count == rows_in (seen p.zero) + rows_in (seen p.one)) (is_counted p.zero && is_counted p.one) e);
      zero = first_so (is_counted p.zero) (is_counted p.one) halves;
      one = second_so (is_counted p.zero) (is_counted p.one) halves;
    }

pub counts-made : (p : Pair) → Counts p → counts p ≡ true
counts-made p c = both_true (eq-eqb p.count (rows_in (seen p.zero) + rows_in (seen p.one)) c.count) (both_true c.zero c.one)

-- a pair that is owned counts as it did
pub counts-owned : {p a : Pair} → (p ≡ a) ⊎ Copies a p → counts a ≡ true → counts p ≡ true
counts-owned (inl e) is = ap counts e ∙ is
counts-owned (inr e) is = e.counts ∙ is

pub half-counts : (p : Pair) (bit : Bool) → counts p ≡ true → half_counts p bit ≡ true
half-counts p true e = (counts-parts p e).one
half-counts p false e = (counts-parts p e).zero

-- a pair with another half, by how many rows came or went there
pub counts-with : (p q : Pair) (bit : Bool) (n : Node) (u : Trie) → counts p ≡ true → u ≡ half_of p bit → Made p bit n q → is_counted n ≡ true → q.count + rows_in u ≡ p.count + rows_in (seen n) → counts q ≡ true
counts-with p q true n u is half made counted sum =
    let c = counts-parts p is in
    let zero : rows_in (seen q.zero) ≡ rows_in (seen p.zero) = ap (λ (m : Node). rows_in (seen m)) made.0 in
    let one : rows_in (seen q.one) ≡ rows_in (seen n) = ap (λ (m : Node). rows_in (seen m)) made.1 in
    let was : rows_in u ≡ rows_in (seen p.one) = ap rows_in half in
    counts-made q (record { count = omega (arith, c.count, zero, one, was, sum); zero = ap is_counted made.0 ∙ c.zero; one = ap is_counted made.1 ∙ counted })
counts-with p q false n u is half made counted sum =
    let c = counts-parts p is in
    let zero : rows_in (seen q.zero) ≡ rows_in (seen n) = ap (λ (m : Node). rows_in (seen m)) made.0 in
    let one : rows_in (seen q.one) ≡ rows_in (seen p.one) = ap (λ (m : Node). rows_in (seen m)) made.1 in
    let was : rows_in u ≡ rows_in (seen p.zero) = ap rows_in half in
    counts-made q (record { count = omega (arith, c.count, zero, one, was, sum); zero = ap is_counted made.0 ∙ counted; one = ap is_counted made.1 ∙ c.one })

-- how many rows a pair with another half has
rows-made : (p q : Pair) (bit : Bool) (n : Node) (u : Trie) → u ≡ half_of p bit → Made p bit n q
    → rows_in (fork (seen q.zero) (seen q.one)) + rows_in u ≡ rows_in (fork (seen p.zero) (seen p.one)) + rows_in (seen n)
rows-made p q true n u half made =
    let zero : rows_in (seen q.zero) ≡ rows_in (seen p.zero) = ap (λ (m : Node). rows_in (seen m)) made.0 in
    let one : rows_in (seen q.one) ≡ rows_in (seen n) = ap (λ (m : Node). rows_in (seen m)) made.1 in
    omega (arith, zero, one, ap rows_in half)
rows-made p q false n u half made =
    let zero : rows_in (seen q.zero) ≡ rows_in (seen n) = ap (λ (m : Node). rows_in (seen m)) made.0 in
    let one : rows_in (seen q.one) ≡ rows_in (seen p.one) = ap (λ (m : Node). rows_in (seen m)) made.1 in
    omega (arith, zero, one, ap rows_in half)

pub half-rows : (p : Pair) (bit : Bool) → rows_in (half_of p bit) ≤ rows_in (fork (seen p.zero) (seen p.one))
half-rows p true = omega arith
half-rows p false = omega arith

-- what is known of a pair on a way, and of the half that the way goes on with
module _ (t u : Trie) (a p q : Pair) (bit : Bool) (n : Node) (was : t ≡ fork (seen a.zero) (seen a.one)) (owned : (p ≡ a) ⊎ Copies a p) (half : u ≡ half_of p bit) (made : Made p bit n q) where
  same : t ≡ fork (seen p.zero) (seen p.one)
  same = was ∙ sym (go owned)
    where
      go : (p ≡ a) ⊎ Copies a p → fork (seen p.zero) (seen p.one) ≡ fork (seen a.zero) (seen a.one)
      go (inl e) = λ i. fork (seen (e i).zero) (seen (e i).one)
      go (inr e) = λ i. fork (e.zero i) (e.one i)

  some : rows_in u ≤ rows_in t
  some = omega (arith, ap rows_in half, half-rows p bit, ap rows_in same)

  sums : rows_in (fork (seen q.zero) (seen q.one)) + rows_in u ≡ rows_in t + rows_in (seen n)
  sums = omega (arith, rows-made p q bit n u half made, ap rows_in same)

  pub rows-more : {A E : Type 0} (r : Result A E) → rows_in (seen n) ≡ rows_in u + once_if r → rows_in (fork (seen q.zero) (seen q.one)) ≡ rows_in t + once_if r
  rows-more r more = omega (arith, sums, more)

  pub rows-less : {A E : Type 0} (r : Result A E) → rows_in (seen n) + once_if r ≡ rows_in u → rows_in (fork (seen q.zero) (seen q.one)) + once_if r ≡ rows_in t
  rows-less r less = omega (arith, sums, less)

  pub rows-even : rows_in (seen n) ≡ rows_in u → rows_in (fork (seen q.zero) (seen q.one)) ≡ rows_in t
  rows-even even = omega (arith, sums, even)

  module _ (counted : counts a ≡ true) where
    here : counts p ≡ true
    here = counts-owned owned counted

    pub counted-more : {A E : Type 0} (r : Result A E) → OnOk r (is_counted n ≡ true) → rows_in (seen n) ≡ rows_in u + once_if r → q.count ≡ p.count + 1 → OnOk r (counts q ≡ true)
    counted-more (Err e) below more count = tt
    counted-more (Ok x) below more count = counts-with p q bit n u here half made below (omega (arith, more, count))

    pub counted-less : {A E : Type 0} (r : Result A E) → OnOk r (is_counted n ≡ true) → rows_in (seen n) + once_if r ≡ rows_in u → q.count ≡ p.count - 1 → OnOk r (counts q ≡ true)
    counted-less (Err e) below less count = tt
    counted-less (Ok x) below less count =
        let all : p.count ≡ rows_in (fork (seen p.zero) (seen p.one)) = (counts-parts p here).count in
        counts-with p q bit n u here half made below (omega (arith, less, count, some, all, ap rows_in same))

    pub counted-even : {A E : Type 0} (r : Result A E) → OnOk r (is_counted n ≡ true) → rows_in (seen n) ≡ rows_in u → q.count ≡ p.count → OnOk r (counts q ≡ true)
    counted-even (Err e) below even count = tt
    counted-even (Ok x) below even count = counts-with p q bit n u here half made below (omega (arith, even, count))

-- how many rows there may be where a trie takes the place of a leaf
rows-graft : (path : List Bool) (s t : Trie) → rows_in (graft path s t) ≤ rows_in t + rows_in s
rows-graft path s (tip a) = omega arith
rows-graft [] s (fork z o) = omega arith
rows-graft (true ∷ path) s (fork z o) = omega (arith, rows-graft path s o)
rows-graft (false ∷ path) s (fork z o) = omega (arith, rows-graft path s z)

pub grafted-most : {A E : Type 0} (r : Result A E) (p : Pair) (bit : Bool) (n : Node) (path : List Bool) (s u : Trie) → counts p ≡ true → u ≡ half_of p bit → OnOk r (seen n ≡ graft path s u) → OnErr r (seen n ≡ u)
    → rows_in (seen (with_half p bit n).zero) + rows_in (seen (with_half p bit n).one) ≤ p.count + rows_in s
grafted-most r p bit n path s u is half made kept = by_bit bit half (most r made kept)
  where
    most : {A E : Type 0} (r : Result A E) → OnOk r (seen n ≡ graft path s u) → OnErr r (seen n ≡ u) → rows_in (seen n) ≤ rows_in u + rows_in s
    most (Ok x) made kept = omega (arith, ap rows_in made, rows-graft path s u)
    most (Err x) made kept = omega (arith, ap rows_in kept)

    by_bit : (bit : Bool) → u ≡ half_of p bit → rows_in (seen n) ≤ rows_in u + rows_in s → rows_in (seen (with_half p bit n).zero) + rows_in (seen (with_half p bit n).one) ≤ p.count + rows_in s
    by_bit true half le = omega (arith, (counts-parts p is).count, ap rows_in half, le)
    by_bit false half le = omega (arith, (counts-parts p is).count, ap rows_in half, le)
