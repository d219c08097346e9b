-- Walks that begin further down, two bits at a time.
use Rattle.std.proofs.Common.{◌≡◌, ◌∙◌, ◌-◌, ◌%◌, ◌&&◌, inl, inr, ℕ, Bool, true, false, List, [], ◌∷◌, ◌++◌, length, Some, refl, sym, ap, subst, arith, length-append, append_assoc}
use Rattle.std.specs.Cmp.{first_so, second_so}
use Rattle.std.proofs.lemmas.Bool.{eqb-true}
use Rattle.std.proofs.lemmas.List.{nil_from_length}
use mathlib.Core.Bool.{true≢false}
use Rattle.zorder.specs.Bits.{low_bits}
use Rattle.zorder.specs.Name.{length-low_bits}
use Rattle.index_layer.specs.Leaves.{Leaf}
use Rattle.bit_trie.specs.Tries.{Trie, tip, fork, leaves_under, reach, is_bare}
use Rattle.bit_trie.specs.Walks.{Agrees, AreBareBeside, Narrows}
use Rattle.quad_trie.specs.declared.node.Quad.{Quad}
use Rattle.quad_trie.specs.Nodes.{seen, four, quarter_of}
use Rattle.quad_trie.specs.Quarters.{is_lone}
use Rattle.quad_trie.specs.Places.{IsAt}
use Rattle.quad_trie.proofs.Quarters.{Step}

reach-two : (q : Quad) (path : List Bool) (high low : Bool) → reach (high ∷ low ∷ path) (four q) ≡ reach path (quarter_of q high low)
reach-two q path true true = refl
reach-two q path true false = refl
reach-two q path false true = refl
reach-two q path false false = refl

-- two keys that go on together
pub agrees-step : {left from to : ℕ} {t : Trie} {q : Quad} {high low : Bool} {u : Trie} (rest : ℕ) (v : Trie) → Step left from t q high low u → Step left to t q high low u → Agrees from to (left - 2) rest u v → Agrees from to left rest t v
agrees-step {q = q} {high = high} {low = low} rest v s o a = record {
  path = high ∷ low ∷ a.path;
  from_is = s.bits ∙ ap (λ (p : List Bool). high ∷ low ∷ p) a.from_is;
  to_is = o.bits ∙ ap (λ (p : List Bool). high ∷ low ∷ p) a.to_is;
  at = ap (reach (high ∷ low ∷ a.path)) s.is ∙ reach-two q a.path high low ∙ ap (reach a.path) (sym s.quarter) ∙ a.at;
}

-- so many bits of 64 are left, and their number is even: a node is there
pub even-path : (from to rest : ℕ) (t u : Trie) (a : Agrees from to 64 rest t u) → rest % 2 ≡ 0 → length a.path % 2 ≡ 0
even-path from to rest t u a even = omega (arith, even, ap length a.from_is, length-append a.path (low_bits rest from), length-low_bits 64 from, length-low_bits rest from)

-- a name of an even number of bits leads to a node
pub even-place : (whole part : Trie) (name : List Bool) → length name % 2 ≡ 0 → IsAt whole part name → reach name whole ≡ Some part
even-place whole part name even (inl n) = n.at
even-place whole part name even (inr m) = absurd (omega (arith, even, m.node.even, ap length m.named, length-append m.front (m.bit ∷ [])))

-- lists of leaves of which those beside a name have no rows
both : (below : List Bool) (xs ys : List Leaf) → AreBareBeside below xs → AreBareBeside below ys → AreBareBeside below (xs ++ ys)
both below [] ys a b = b
both below (x ∷ xs) ys a b = (a.0, both below xs ys a.1 b)

bare-one : (a : Trie) → is_bare a ≡ true → (name below : List Bool) → AreBareBeside below (leaves_under name a)
bare-one (tip b) e name below = (λ _. nil_from_length b.rows (eqb-true (length b.rows) 0 e), tt)
bare-one (fork z o) e name below = absurd (true≢false (sym e))

three : (a b c : Bool) → (a && (b && c)) ≡ true → (a ≡ true) × (b ≡ true) × (c ≡ true)
three a b c e =
    let rest = second_so a (b && c) e in
    (first_so a (b && c) e, first_so b c rest, second_so b c rest)

-- three quarters that are leaves without rows are passed by
module _ (q : Quad) (name below : List Bool) where
  abbrev BareIn : Trie → Bool → Bool → Type 0
  BareIn t high low = AreBareBeside below (leaves_under ((name ++ high ∷ []) ++ low ∷ []) t)

  all-four : BareIn (seen q.zero_zero) false false → BareIn (seen q.zero_one) false true → BareIn (seen q.one_zero) true false → BareIn (seen q.one_one) true true → AreBareBeside below (leaves_under name (four q))
  all-four a b c d =
      both below (leaves_under (name ++ false ∷ []) (fork (seen q.zero_zero) (seen q.zero_one))) (leaves_under (name ++ true ∷ []) (fork (seen q.one_zero) (seen q.one_one)))
      (both below (leaves_under ((name ++ false ∷ []) ++ false ∷ []) (seen q.zero_zero)) (leaves_under ((name ++ false ∷ []) ++ true ∷ []) (seen q.zero_one)) a b)
      (both below (leaves_under ((name ++ true ∷ []) ++ false ∷ []) (seen q.one_zero)) (leaves_under ((name ++ true ∷ []) ++ true ∷ []) (seen q.one_one)) c d)

  bare-in : (t : Trie) (high low : Bool) → is_bare t ≡ true → BareIn t high low
  bare-in t high low e = bare-one t e ((name ++ high ∷ []) ++ low ∷ []) below

  bare-beside : (high low : Bool) → is_lone q high low ≡ true → BareIn (quarter_of q high low) high low → AreBareBeside below (leaves_under name (four q))
  bare-beside true true e rest =
      let b = three (is_bare (seen q.zero_zero)) (is_bare (seen q.zero_one)) (is_bare (seen q.one_zero)) e in
      all-four (bare-in (seen q.zero_zero) false false b.0) (bare-in (seen q.zero_one) false true b.1) (bare-in (seen q.one_zero) true false b.2) rest
  bare-beside true false e rest =
      let b = three (is_bare (seen q.zero_zero)) (is_bare (seen q.zero_one)) (is_bare (seen q.one_one)) e in
      all-four (bare-in (seen q.zero_zero) false false b.0) (bare-in (seen q.zero_one) false true b.1) rest (bare-in (seen q.one_one) true true b.2)
  bare-beside false true e rest =
      let b = three (is_bare (seen q.zero_zero)) (is_bare (seen q.one_zero)) (is_bare (seen q.one_one)) e in
      all-four (bare-in (seen q.zero_zero) false false b.0) rest (bare-in (seen q.one_zero) true false b.1) (bare-in (seen q.one_one) true true b.2)
  bare-beside false false e rest =
      let b = three (is_bare (seen q.zero_one)) (is_bare (seen q.one_zero)) (is_bare (seen q.one_one)) e in
      all-four rest (bare-in (seen q.zero_one) false true b.0) (bare-in (seen q.one_zero) true false b.1) (bare-in (seen q.one_one) true true b.2)

  pub narrows-quarter : (high low : Bool) (t u v : Trie) → t ≡ four q → is_lone q high low ≡ true → u ≡ quarter_of q high low → Narrows ((name ++ high ∷ []) ++ low ∷ []) below u v → Narrows name below t v
  narrows-quarter high low t u v is lone quarter n = record {
    path = high ∷ low ∷ n.path;
    named = n.named ∙ append_assoc (name ++ high ∷ []) (low ∷ []) n.path ∙ append_assoc name (high ∷ []) (low ∷ n.path);
    at = ap (reach (high ∷ low ∷ n.path)) is ∙ reach-two q n.path high low ∙ ap (reach n.path) (sym quarter) ∙ n.at;
    bare = subst (λ (w : Trie). AreBareBeside below (leaves_under name w)) (sym is) (bare-beside high low lone (subst (λ (w : Trie). BareIn w high low) quarter n.bare));
  }
