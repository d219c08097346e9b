use Rattle.std.proofs.Common.{◌≡◌, ◌∙◌, ℕ, zero, suc, ◌+◌, ◌++◌, Bool, List, [], ◌∷◌, Some, slice_get, map, take, add-one, sym, ap}
use Rattle.std.proofs.lemmas.List.{map-append}
use Rattle.std.specs.Arc.{arc_value}
use Rattle.zorder.specs.Tile.{children}
use Rattle.split_prepare.specs.Cut.{cut_out}
use Rattle.split_prepare.proofs.cuts.cut.Goals as goal

-- one item more
take-at : {X : Type 0} (xs : List X) (i : ℕ) (x : X) → slice_get xs i ≡ Some x → take (suc i) xs ≡ take i xs ++ x ∷ []
take-at [] i x e = absurd (cc e)
take-at (y ∷ xs) zero x e =
    let same : y ≡ x = cc e in
    ap (λ z. z ∷ []) same
take-at (y ∷ xs) (suc i) x e = ap (λ zs. y ∷ zs) (take-at xs i x e)

pub loop-place-preserved : goal.loop-place-preserved
loop-place-preserved c =
    let rows = c.args.bucket.now.base in
    let names : List (List Bool) = children c.args.width c.args.name.now in
    let place : ℕ = c.loop-place.place in
    let child = c.child_at-child.result in
    let more : take (place + 1) names ≡ take place names ++ child ∷ [] = rw add-one (take-at names place child c.child_at-child.ensures) in
    ap (map arc_value) c.in_ok-push.ensures.items
    ∙ map-append arc_value c.loop-place.buckets.items (c.in_ok-cut_out.field-0 ∷ [])
    ∙ (λ i. c.loop-place.invariant i ++ c.in_ok-cut_out.ensures i ∷ [])
    ∙ sym (map-append (cut_out rows) (take place names) (child ∷ []))
    ∙ ap (map (cut_out rows)) (sym more)
