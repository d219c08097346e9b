-- A search goes down to a leaf.
use Rattle.std.proofs.Common.{◌≡◌, ℕ, ◌+◌, ◌<◌, ◌≤◌, true, false, List, [], ◌∷◌, length, inl, inr, sym, ap, subst, arith}
use Rattle.std.specs.List.{All, sum_by}
use Rattle.std.specs.List.Sorted.{IsPermutation}
use Rattle.std.proofs.lemmas.List.Elements.{All-cons, All-map}
use Rattle.std.proofs.lemmas.List.Sorted.{All-permutation, IsPermutation-append_comm, IsPermutation-append_left, IsPermutation-cons, IsPermutation-map, sum_by-IsPermutation}
use Rattle.std.proofs.lemmas.List.Sums.{sum_by-cons}
use Rattle.zorder.specs.declared.points.Point.{Point}
use Rattle.zorder.specs.Tile.{tiles_from}
use Rattle.index_layer.specs.Leaves.{Leaf, names_of, has_name}
use Rattle.index_layer.specs.Part.{is_inner}
use Rattle.table_share.proofs.Subtrees.{inner-room}
use Rattle.knn_query.specs.Ahead.{IsAhead, number_nearer, weight_of}
use Rattle.knn_query.specs.Passes.{held}
use Rattle.knn_query.specs.Waiting.{ahead_of, IsNearest}
use Rattle.knn_query.specs.Search.{State, IsWanted, AreHalves, IsPutOrOut}
use Rattle.knn_query.specs.declared.ahead.Ahead.{Ahead}
use Rattle.knn_query.specs.declared.ahead.Waiting.{Waiting}
use Rattle.knn_query.specs.declared.kept.Kept.{Kept}
use Rattle.knn_query.proofs.Searching.{number-grows}
use Rattle.knn_query.proofs.Steps.{state-halves, state-out, state-shuffled, weight-two}

-- where it began with some subtrees, one is next and others wait
pub record Goes (leaves : List Leaf) (kept : Kept) (begun : List Ahead) (next : Ahead) (waiting : List Ahead) : Type 0 where
  pub wanted : IsWanted kept next waiting
  pub less : sum_by weight_of (next ∷ waiting) ≤ sum_by weight_of begun
  pub state : (p : Point) (k before now : ℕ) → State p k leaves before now begun kept → State p k leaves before now (next ∷ waiting) kept

-- the nearest was taken out
module _ {P : Type 0} where
  pub state-taken : (p : Point) (k : ℕ) (leaves : List Leaf) (before now : ℕ) (old new : List (Waiting P)) (w : Waiting P) (kept : Kept) → State p k leaves before now (ahead_of old) kept → IsNearest w old new
      → State p k leaves before now (w.ahead ∷ ahead_of new) kept
  state-taken p k leaves before now old new w kept s n =
      state-shuffled p k leaves before now (ahead_of old) (w.ahead ∷ ahead_of new) kept (IsPermutation-map (λ (v : Waiting P). v.ahead) old (w ∷ new) n.taken) s

  pub low-taken : (old new : List (Waiting P)) (w : Waiting P) → IsNearest w old new → All (λ (b : Ahead). w.ahead.least.0 ≤ b.least.0) (w.ahead ∷ ahead_of new)
  low-taken old new w n = All-map (λ (b : Ahead). w.ahead.least.0 ≤ b.least.0) (λ (v : Waiting P). v.ahead) (w ∷ new) n.low

  pub weight-taken : (old new : List (Waiting P)) (w : Waiting P) → IsNearest w old new → sum_by weight_of (ahead_of old) ≡ sum_by weight_of (w.ahead ∷ ahead_of new)
  weight-taken old new w n = sym (sum_by-IsPermutation weight_of (ahead_of old) (w.ahead ∷ ahead_of new) (IsPermutation-map (λ (v : Waiting P). v.ahead) old (w ∷ new) n.taken))

pub few-here : (p : Point) (k reach : ℕ) (kept : Kept) → kept.from ≡ p → kept.k ≡ k → number_nearer kept.from reach (held kept) < kept.k → number_nearer p reach (held kept) < k
few-here p k reach kept from_is k_is few = subst (λ q. number_nearer q reach (held kept) < k) from_is (subst (λ j. number_nearer kept.from reach (held kept) < j) k_is few)

pub low-all : (kept : Kept) (a : Ahead) (waiting : List Ahead) → IsWanted kept a waiting → All (λ (b : Ahead). a.least.0 ≤ b.least.0) (a ∷ waiting)
low-all kept a waiting wanted = All-cons (λ (b : Ahead). a.least.0 ≤ b.least.0) a waiting (omega arith) wanted.low

two-first : (a b : Ahead) (xs : List Ahead) → IsPermutation (a ∷ b ∷ xs) (b ∷ a ∷ xs)
two-first a b xs = IsPermutation-append_left xs (a ∷ b ∷ []) (b ∷ a ∷ []) (IsPermutation-append_comm (a ∷ []) (b ∷ []))

module _ {P : Type 0} (leaves : List Leaf) (tile : tiles_from 0 (names_of leaves) ≡ true) (kept : Kept) (begun : List Ahead) (next : Ahead) (old new : List (Waiting P)) (zero one : P) (near far : Waiting P)
    (inner : is_inner next.name leaves ≡ true) (none : has_name next.name leaves ≡ false) (goes : Goes leaves kept begun next (ahead_of old)) (h : AreHalves kept.from next zero one near far) (put : IsPutOrOut kept far old new) where
  -- in either order both are ahead
  both : (p : Point) (k before now : ℕ) → State p k leaves before now begun kept → State p k leaves before now (near.ahead ∷ far.ahead ∷ ahead_of old) kept
  both p k before now s =
      elim h.order.either [
        | inl e ↦ subst (λ (w : Waiting P). State p k leaves before now (w.ahead ∷ far.ahead ∷ ahead_of old) kept) (sym e.0) (subst (λ (w : Waiting P). State p k leaves before now (h.fore ∷ w.ahead ∷ ahead_of old) kept) (sym e.1) halves)
        | inr e ↦ subst (λ (w : Waiting P). State p k leaves before now (w.ahead ∷ far.ahead ∷ ahead_of old) kept) (sym e.0)
            (subst (λ (w : Waiting P). State p k leaves before now (h.hind ∷ w.ahead ∷ ahead_of old) kept) (sym e.1)
            (state-shuffled p k leaves before now (h.fore ∷ h.hind ∷ ahead_of old) (h.hind ∷ h.fore ∷ ahead_of old) kept (two-first h.fore h.hind (ahead_of old)) halves))
      ]
    where
      t : State p k leaves before now (next ∷ ahead_of old) kept
      t = goes.state p k before now s

      halves : State p k leaves before now (h.fore ∷ h.hind ∷ ahead_of old) kept
      halves =
          state-halves p k leaves before tile now next h.fore h.hind (ahead_of old) kept inner none h.fore_name h.hind_name (subst (λ q. IsAhead q h.fore) t.from h.fore_is) (subst (λ q. IsAhead q h.hind) t.from h.hind_is) t

  put_ahead : IsPermutation (far ∷ old) new → IsPermutation (far.ahead ∷ ahead_of old) (ahead_of new)
  put_ahead perm = IsPermutation-map (λ (w : Waiting P). w.ahead) (far ∷ old) new perm

  state : (p : Point) (k before now : ℕ) → State p k leaves before now begun kept → State p k leaves before now (near.ahead ∷ ahead_of new) kept
  state p k before now s =
      elim put [
        | inl e ↦ state-shuffled p k leaves before now (near.ahead ∷ far.ahead ∷ ahead_of old) (near.ahead ∷ ahead_of new) kept
            (IsPermutation-cons near.ahead (far.ahead ∷ ahead_of old) (ahead_of new) (put_ahead e)) all
        | inr e ↦ subst (λ ws. State p k leaves before now (near.ahead ∷ ahead_of ws) kept) (sym e.0)
            (state-out p k leaves before now far.ahead (near.ahead ∷ ahead_of old) kept (subst (λ q. k ≤ number_nearer q far.ahead.least.0 (held kept)) all.from (omega (arith, e.1, all.k_is)))
            (state-shuffled p k leaves before now (near.ahead ∷ far.ahead ∷ ahead_of old) (far.ahead ∷ near.ahead ∷ ahead_of old) kept (two-first near.ahead far.ahead (ahead_of old)) all))
      ]
    where
      all : State p k leaves before now (near.ahead ∷ far.ahead ∷ ahead_of old) kept
      all = both p k before now s

  room : length next.name < 64
  room = inner-room next.name leaves tile inner

  weights : weight_of near.ahead + weight_of far.ahead < weight_of next
  weights =
      let two = weight-two next h.fore h.hind room h.fore_name h.hind_name in
      elim h.order.either [
        | inl e ↦ omega (arith, two, ap (λ (w : Waiting P). weight_of w.ahead) e.0, ap (λ (w : Waiting P). weight_of w.ahead) e.1)
        | inr e ↦ omega (arith, two, ap (λ (w : Waiting P). weight_of w.ahead) e.0, ap (λ (w : Waiting P). weight_of w.ahead) e.1)
      ]

  less : sum_by weight_of (near.ahead ∷ ahead_of new) ≤ sum_by weight_of begun
  less =
      elim put [
        | inl e ↦ omega (
          arith,
          goes.less,
          weights,
          sum_by-cons weight_of next (ahead_of old),
          sum_by-cons weight_of near.ahead (ahead_of new),
          sum_by-cons weight_of far.ahead (ahead_of old),
          sum_by-IsPermutation weight_of (far.ahead ∷ ahead_of old) (ahead_of new) (put_ahead e),
        )
        | inr e ↦ omega (arith, goes.less, weights, sum_by-cons weight_of next (ahead_of old), sum_by-cons weight_of near.ahead (ahead_of new), ap (λ ws. sum_by weight_of (ahead_of ws)) e.0)
      ]

  near_is : IsAhead kept.from near.ahead
  near_is =
      elim h.order.either [
        | inl e ↦ subst (λ (w : Waiting P). IsAhead kept.from w.ahead) (sym e.0) h.fore_is
        | inr e ↦ subst (λ (w : Waiting P). IsAhead kept.from w.ahead) (sym e.0) h.hind_is
      ]

  low : All (λ (b : Ahead). near.ahead.least.0 ≤ b.least.0) (ahead_of new)
  low =
      elim put [
        | inl e ↦ All-permutation Low (far.ahead ∷ ahead_of old) (ahead_of new) (put_ahead e) (All-cons Low far.ahead (ahead_of old) h.order.low others)
        | inr e ↦ subst (λ ws. All Low (ahead_of ws)) (sym e.0) others
      ]
    where
      Low : Ahead → Type 0
      Low b = near.ahead.least.0 ≤ b.least.0

      others : All Low (ahead_of old)
      others = λ i d lt. omega (arith, h.as_near, goes.wanted.low i d lt)

  pub goes_down : Goes leaves kept begun near.ahead (ahead_of new)
  goes_down = record {
    wanted = record {
      is_held = goes.wanted.is_held;
      some = goes.wanted.some;
      is = near_is;
      low = low;
      few = omega (arith, goes.wanted.few, number-grows kept.from near.ahead.least.0 next.least.0 (held kept) h.as_near);
    };
    less = less;
    state = state;
  }
