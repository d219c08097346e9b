-- Walks by single bits over nodes of two.
use Rattle.std.proofs.Common.{◌≡◌, ◌∙◌, inl, inr, ◌%◌, ℕ, Bool, true, false, cond, List, [], ◌∷◌, ◌++◌, length, Some, refl, ap, arith, length-append}
use Rattle.bucket_versions.specs.Rows.{Rows}
use Rattle.index_layer.specs.Leaves.{has_name, names_of}
use Rattle.index_layer.specs.Part.{is_inner}
use Rattle.zorder.specs.Tile.{tiles_from}
use Rattle.bit_trie.specs.Tries.{Trie, tip, fork, leaves_under, reach}
use Rattle.bit_trie.proofs.Reaching.{reach-half, below-fork}
use Rattle.quad_trie.specs.Nodes.{quads}
use Rattle.quad_trie.specs.Places.{AtNode, Between, IsAt}

-- a leaf stands at a node's name
pub leaf-at : (whole : Trie) (b : Rows) (name : List Bool) → IsAt whole (tip b) name → reach name whole ≡ Some (tip b)
leaf-at whole b name (inl a) = a.at
leaf-at whole b name (inr m) = absurd (cc m.inner)

-- one bit more is odd
odd : (front : List Bool) (bit : Bool) (n : ℕ) → length front % 2 ≡ 0 → n ≡ length (front ++ bit ∷ []) → n % 2 ≡ 1
odd front bit n even e = omega (arith, even, e, length-append front (bit ∷ []))

two-more : (front : List Bool) (a b : Bool) → length front % 2 ≡ 0 → length ((front ++ a ∷ []) ++ b ∷ []) % 2 ≡ 0
two-more front a b even = omega (arith, even, length-append (front ++ a ∷ []) (b ∷ []), length-append front (a ∷ []))

pub record Inside (whole : Trie) (name : List Bool) : Type 0 where
  pub inner : is_inner name (leaves_under [] whole) ≡ true
  pub none : has_name name (leaves_under [] whole) ≡ false

module _ (whole : Trie) (tile : tiles_from 0 (names_of (leaves_under [] whole)) ≡ true) (a b c d : Trie) where
  even-at : (name : List Bool) → length name % 2 ≡ 0 → IsAt whole (quads a b c d) name → AtNode whole (quads a b c d) name
  even-at name even (inl n) = n
  even-at name even (inr m) = absurd (omega (arith, even, odd m.front m.bit (length name) m.node.even (ap length m.named)))

  pub odd-at : (name : List Bool) → length name % 2 ≡ 1 → IsAt whole (quads a b c d) name → Between whole (quads a b c d) name
  odd-at name un (inl n) = absurd (omega (arith, un, n.even))
  odd-at name un (inr m) = m

  -- the node stands in for both halves
  pub halves : (name : List Bool) → length name % 2 ≡ 0 → IsAt whole (quads a b c d) name → Inside whole name × IsAt whole (quads a b c d) (name ++ false ∷ []) × IsAt whole (quads a b c d) (name ++ true ∷ [])
  halves name even at =
      let n = even-at name even at in
      let both = below-fork whole tile name (fork a b) (fork c d) n.at in
      let side : (bit : Bool) → IsAt whole (quads a b c d) (name ++ bit ∷ []) = λ bit. inr (record { front = name; bit = bit; named = refl; node = n; zero = fork a b; one = fork c d; inner = refl }) in
      (record { inner = both.0; none = both.1 }, side false, side true)

  -- the quarters of the half that the last bit leads to
  quarters : (name front : List Bool) (bit : Bool) (z o : Trie) → name ≡ front ++ bit ∷ [] → length front % 2 ≡ 0 → reach (front ++ bit ∷ []) whole ≡ Some (fork z o)
      → Inside whole name × IsAt whole z (name ++ false ∷ []) × IsAt whole o (name ++ true ∷ [])
  quarters name front bit z o named even at =
      let here : reach name whole ≡ Some (fork z o) = ap (λ (n : List Bool). reach n whole) named ∙ at in
      let both = below-fork whole tile name z o here in
      let parity : (more : Bool) → length (name ++ more ∷ []) % 2 ≡ 0 = λ more. ap (λ (n : List Bool). length (n ++ more ∷ []) % 2) named ∙ two-more front bit more even in (
        record { inner = both.0; none = both.1 },
        inl (record { even = parity false; at = reach-half name false whole z o here }),
        inl (record { even = parity true; at = reach-half name true whole z o here }),
      )

  pub one-half : (name : List Bool) (m : Between whole (quads a b c d) name) → m.bit ≡ true → Inside whole name × IsAt whole c (name ++ false ∷ []) × IsAt whole d (name ++ true ∷ [])
  one-half name m e =
      quarters name m.front m.bit c d m.named m.node.even (reach-half m.front m.bit whole (fork a b) (fork c d) m.node.at ∙ ap (λ (x : Bool). Some (cond x (fork c d) (fork a b))) e)

  pub zero-half : (name : List Bool) (m : Between whole (quads a b c d) name) → m.bit ≡ false → Inside whole name × IsAt whole a (name ++ false ∷ []) × IsAt whole b (name ++ true ∷ [])
  zero-half name m e =
      quarters name m.front m.bit a b m.named m.node.even (reach-half m.front m.bit whole (fork a b) (fork c d) m.node.at ∙ ap (λ (x : Bool). Some (cond x (fork c d) (fork a b))) e)
