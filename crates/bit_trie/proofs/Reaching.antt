-- What a path through a trie leads to.
use Rattle.std.proofs.Common.{◌≡◌, Bool, true, false, cond, List, [], ◌∷◌, ◌++◌, Some, refl, sym, ◌∙◌, ap, arith, append_assoc, append-nil, length-append}
use Rattle.std.proofs.lemmas.Option.{same_Some}
use Rattle.zorder.specs.Tile.{tiles_from}
use Rattle.bucket_versions.specs.Rows.{Rows}
use Rattle.index_layer.specs.Leaves.{Leaf, names_of, has_name, leaf_named}
use Rattle.index_layer.specs.Part.{is_inner}
use Rattle.index_layer.proofs.LeafChanges.{leaf_at}
use Rattle.index_layer.proofs.LeafNames.{IsFront, front-trans, front-length}
use Rattle.index_layer.proofs.Places.{named-among, inner-among}
use Rattle.bit_trie.specs.Tries.{Trie, tip, fork, halves, leaves_under, reach}

-- one bit further
pub reach-half : (path : List Bool) (b : Bool) (t z o : Trie) → reach path t ≡ Some (fork z o) → reach (path ++ b ∷ []) t ≡ Some (cond b o z)
reach-half [] b t z o e = ap (reach (b ∷ [])) (same_Some t (fork z o) e) ∙ by_bit b
  where
    by_bit : (b : Bool) → reach (b ∷ []) (fork z o) ≡ Some (cond b o z)
    by_bit true = refl
    by_bit false = refl
reach-half (x ∷ path) b (tip a) z o e = absurd (cc e)
reach-half (true ∷ path) b (fork y w) z o e = reach-half path b w z o e
reach-half (false ∷ path) b (fork y w) z o e = reach-half path b y z o e

pub reach-halves : (b : Bool) (path : List Bool) (a t : Trie) → reach (b ∷ path) (halves b a t) ≡ reach path t
reach-halves true path a t = refl
reach-halves false path a t = refl

-- the leaves in front of those that a path leads to, and those behind them
pub record Reached (name path : List Bool) (t u : Trie) : Type 0 where
  pub front : List Leaf
  pub back : List Leaf
  pub is : leaves_under name t ≡ front ++ (leaves_under (name ++ path) u ++ back)

pub reached : (name path : List Bool) (t u : Trie) → reach path t ≡ Some u → Reached name path t u
reached name [] t u e = record {
  front = [];
  back = [];
  is = (λ i. leaves_under (sym (append-nil name) i) (same_Some t u e i)) ∙ sym (append-nil (leaves_under (name ++ []) u));
}
reached name (x ∷ path) (tip a) u e = absurd (cc e)
reached name (true ∷ path) (fork z o) u e =
    let r = reached (name ++ true ∷ []) path o u e in
    let first : List Leaf = leaves_under (name ++ false ∷ []) z in
    record {
      front = first ++ r.front;
      back = r.back;
      is = ap (λ (l : List Leaf). first ++ l) r.is
          ∙ (λ i. first ++ (r.front ++ (leaves_under (append_assoc name (true ∷ []) path i) u ++ r.back)))
          ∙ sym (append_assoc first r.front (leaves_under (name ++ true ∷ path) u ++ r.back));
    }
reached name (false ∷ path) (fork z o) u e =
    let r = reached (name ++ false ∷ []) path z u e in
    let last : List Leaf = leaves_under (name ++ true ∷ []) o in
    record {
      front = r.front;
      back = r.back ++ last;
      is = ap (λ (l : List Leaf). l ++ last) r.is
          ∙ append_assoc r.front (leaves_under ((name ++ false ∷ []) ++ path) u ++ r.back) last
          ∙ (λ i. r.front ++ append_assoc (leaves_under (append_assoc name (false ∷ []) path i) u) r.back last i);
    }

-- the first leaf of a trie
pub record First (name : List Bool) (t : Trie) : Type 0 where
  pub leaf : Leaf
  pub rest : List Leaf
  pub is : leaves_under name t ≡ leaf ∷ rest
  pub front : IsFront name leaf.name

pub first : (name : List Bool) (t : Trie) → First name t
first name (tip b) = record {
  leaf = leaf_at name b;
  rest = [];
  is = refl;
  front = ([], sym (append-nil name));
}
first name (fork z o) =
    let r = first (name ++ false ∷ []) z in
    record {
      leaf = r.leaf;
      rest = r.rest ++ leaves_under (name ++ true ∷ []) o;
      is = ap (λ (l : List Leaf). l ++ leaves_under (name ++ true ∷ []) o) r.is;
      front = front-trans name (name ++ false ∷ []) r.leaf.name (false ∷ [], refl) r.front;
    }

module _ (t : Trie) (tile : tiles_from 0 (names_of (leaves_under [] t)) ≡ true) (name : List Bool) where
  pub below-leaf : (b : Rows) → reach name t ≡ Some (tip b) → leaf_named name (leaves_under [] t) ≡ Some (leaf_at name b)
  below-leaf b e =
      let r = reached [] name t (tip b) e in
      named-among (leaves_under [] t) tile (leaf_at name b) (r.front, r.back, r.is)

  pub below-fork : (z o : Trie) → reach name t ≡ Some (fork z o) → (is_inner name (leaves_under [] t) ≡ true) × (has_name name (leaves_under [] t) ≡ false)
  below-fork z o e =
      let r = reached [] name t (fork z o) e in
      let f = first (name ++ false ∷ []) z in
      let last : List Leaf = leaves_under (name ++ true ∷ []) o in
      inner-among (leaves_under [] t) tile name f.leaf (r.front, (f.rest ++ last) ++ r.back, r.is ∙ (λ i. r.front ++ ((f.is i ++ last) ++ r.back)))
      (front-trans name (name ++ false ∷ []) f.leaf.name (false ∷ [], refl) f.front)
      (omega (arith, front-length (name ++ false ∷ []) f.leaf.name f.front, length-append name (false ∷ [])))
