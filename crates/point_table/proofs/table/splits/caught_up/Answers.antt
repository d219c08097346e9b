use Rattle.std.proofs.Common.{◌≡◌, ◌∙◌, ℕ, zero, suc, ◌+◌, ◌++◌, Bool, List, [], ◌∷◌, Some, slice_get, get_or, length, map, option_map, take, add-one, sym, ap, arith}
use Rattle.std.proofs.lemmas.List.{map-append, take_all, length-map}
use Rattle.std.proofs.Math.ListN.{get_or-map}
use Rattle.std.proofs.lemmas.Option.{slice_get-map, get_or_from_slice_get}
use Rattle.std.specs.Arc.{arc_value}
use Rattle.zorder.specs.Tile.{children}
use Rattle.bucket_versions.specs.Rows.{Rows}
use Rattle.split_prepare.specs.Cut.{cut, cut_out}
use Rattle.point_table.proofs.Dividing.{length-cut}
use Rattle.point_table.proofs.table.splits.caught_up.Goals as goal

-- one item more, of those that a function gives
take-map : {X Y : Type 0} (f : X → Y) (xs : List X) (i : ℕ) (x : X) → slice_get xs i ≡ Some x → take (suc i) (map f xs) ≡ take i (map f xs) ++ f x ∷ []
take-map f [] i x e = absurd (cc e)
take-map f (y ∷ xs) zero x e =
    let same : y ≡ x = cc e in
    ap (λ z. f z ∷ []) same
take-map f (y ∷ xs) (suc i) x e = ap (λ zs. f y ∷ zs) (take-map f xs i x e)

pub loop-place-preserved : goal.loop-place-preserved
loop-place-preserved c =
    let rows = c.args.from.now.rows in
    let all : List Rows = cut c.args.width c.args.name.now rows in
    let place : ℕ = c.loop-place.place in
    let child = c.child_at-child.result in
    let more : take (place + 1) all ≡ take place all ++ cut_out rows child ∷ [] = rw add-one (take-map (cut_out rows) (children c.args.width c.args.name.now) place child c.child_at-child.ensures) in
    ap (map arc_value) c.in_ok-push.ensures.items
    ∙ map-append arc_value c.loop-place.buckets.items (c.in_ok-child_now.field-0 ∷ [])
    ∙ (λ i. c.loop-place.invariant i ++ c.in_ok-child_now.ensures i ∷ [])
    ∙ sym more

pub returns : goal.returns
returns c =
    let w = c.args.width in
    let name = c.args.name.now in
    let all = cut w name c.args.from.now.rows in
    let count = length-cut w name c.args.from.now.rows in
    let parts = sym (length-map c.args.parts.now arc_value) ∙ ap length c.requires.cut ∙ length-cut w name c.args.from.now.base in
    c.loop-place.invariant ∙ take_all c.loop-place.place all (omega arith)

pub child_now-requires : goal.child_now-requires
child_now-requires c =
    let f = cut_out c.args.from.now.base in
    let place : ℕ = c.loop-place.place in
    let part = c.index-parts-place.result in
    let names : List (List Bool) = children c.args.width c.args.name.now in
    let there : slice_get (map f names) place ≡ Some (f c.child_at-child.result) = slice_get-map f names place ∙ ap (option_map f) c.child_at-child.ensures in
    ap arc_value c.index-parts-place.is
    ∙ sym (get_or-map arc_value c.args.parts.now place part)
    ∙ ap (λ (all : List Rows). get_or all place (arc_value part)) c.requires.cut
    ∙ get_or_from_slice_get (map f names) place (f c.child_at-child.result) (arc_value part) there
