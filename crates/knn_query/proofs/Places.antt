-- The places of what is ahead.
use Rattle.std.proofs.Common.{Bool, List, [], ◌∷◌, ◌++◌, true, false, sym, subst}
use Rattle.std.proofs.lemmas.List.Elements.{All-cons}
use Rattle.std.proofs.lemmas.List.Sorted.{All-permutation}
use Rattle.std.proofs.Common.{inl, inr}
use denote.Ref.{Bor}
use Rattle.knn_query.specs.Waiting.{AreAt, IsNearest, waiting_at}
use Rattle.knn_query.specs.Search.{AreHalves, IsPutOrOut}
use Rattle.knn_query.specs.declared.ahead.Ahead.{Ahead}
use Rattle.knn_query.specs.declared.ahead.Waiting.{Waiting}
use Rattle.knn_query.specs.declared.kept.Kept.{Kept}
use Rattle.zorder.specs.declared.points.Point.{Point}

module _ {P : Type 0} (is_at : P → List Bool → Type 0) where
  abbrev pub IsAt : Waiting (Bor P) → Type 0
  IsAt w = is_at w.place.now w.ahead.name

  -- the nearest, and what is left
  pub at-taken : (old new : List (Waiting (Bor P))) (w : Waiting (Bor P)) → IsNearest w old new → AreAt is_at old → AreAt is_at (w ∷ new)
  at-taken old new w n are = All-permutation IsAt old (w ∷ new) n.taken are

  -- the halves in order
  module _ (p : Point) (a : Ahead) (zero one : Bor P) (near far : Waiting (Bor P)) (h : AreHalves p a zero one near far) (at_zero : is_at zero.now (a.name ++ false ∷ [])) (at_one : is_at one.now (a.name ++ true ∷ [])) where
    at-halves : IsAt near × IsAt far
    at-halves =
        elim h.order.either [
          | inl e ↦ (subst IsAt (sym e.0) fore, subst IsAt (sym e.1) hind)
          | inr e ↦ (subst IsAt (sym e.0) hind, subst IsAt (sym e.1) fore)
        ]
      where
        fore : IsAt (waiting_at h.fore zero)
        fore = subst (is_at zero.now) (sym h.fore_name) at_zero

        hind : IsAt (waiting_at h.hind one)
        hind = subst (is_at one.now) (sym h.hind_name) at_one

    -- where the farther was put among the others, or left out
    pub at-down : (kept : Kept) (old new : List (Waiting (Bor P))) → AreAt is_at old → IsPutOrOut kept far old new → IsAt near × AreAt is_at new
    at-down kept old new are put = (
      at-halves.0,
      elim put [
        | inl e ↦ All-permutation IsAt (far ∷ old) new e (All-cons IsAt far old at-halves.1 are)
        | inr e ↦ subst (AreAt is_at) (sym e.0) are
      ],
    )
