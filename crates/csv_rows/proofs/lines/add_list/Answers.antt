use Rattle.std.proofs.Common.{◌≡◌, ◌∙◌, ◌++◌, ◌∷◌, ap, sym, arith, append_assoc, List, ℕ}
use Rattle.std.specs.Prelude.{codes}
use Rattle.std.specs.List.{flat_map, join_by}
use Rattle.zorder.specs.declared.points.Placed.{Placed}
use Rattle.csv_rows.specs.Lines.{placed_text}
use Rattle.csv_rows.proofs.PiecesFacts.{added-all, added-lost, added-more, added-none, counts-lost, holds-lost, moves-is}
use Rattle.csv_rows.proofs.lines.add_list.Goals as goal

-- a point of the list behind the first
abbrev entry : Placed → List ℕ
entry m = codes ";" ++ placed_text m

abbrev blank : Placed
blank = record { id = 0; at = record { x = 0; y = 0 } }

-- the text of a list behind what stands before it
list-text : (before front : List ℕ) (list : List Placed) (first : Placed) (rest : List Placed) → list ≡ first ∷ rest → front ≡ before ++ placed_text first
    → front ++ flat_map entry rest ≡ before ++ join_by placed_text (codes ";") list
list-text before front list first rest is e =
    ap (λ l. l ++ flat_map entry rest) e ∙ append_assoc before (placed_text first) (flat_map entry rest) ∙ ap (λ (l : List Placed). before ++ join_by placed_text (codes ";") l) (sym is)

pub loop-placed-init : goal.loop-placed-init
loop-placed-init g c = (added-none entry _ _ c.add_placed.new.piece.items c.in-Some.rest.now, omega (arith, c.add_placed.ensures.len, c.requires))

pub loop-placed-preserved : goal.loop-placed-preserved
loop-placed-preserved g c = (
  added-more entry _ _ _ c.in-Some.rest.now _ _ _ _ _ _ c.make_room.new.piece.items _ blank c.loop-placed.invariant.0 c.in_ok-make_room.ensures.bytes c.in_ok-make_room.ensures.cause.same c.add_listed.ensures.bytes c.loop-placed-test.true,
  omega (arith, c.add_listed.ensures.len, c.in_ok-make_room.ensures.room),
)

pub returns-in_err-make_room-clause-bytes : goal.returns-in_err-make_room-clause-bytes
returns-in_err-make_room-clause-bytes g c =
    let lost = c.in_err-make_room.ensures.bytes in
    let moved = added-lost entry _ _ _ c.in-Some.rest.now _ _ _ _ _ _ c.loop-placed.invariant.0 lost.1 in
    holds-lost _ _ _ _ _ c.from_residual.result c.from_residual.ensures.0
    (moves-is _ _ _ _ _ (list-text c.args.piece.now.items c.add_placed.new.piece.items c.args.list.now c.in-Some.first.now c.in-Some.rest.now c.in-Some.ensures.cases.0 c.add_placed.ensures.bytes) moved) lost.2

pub returns-in_err-make_room-clause-cause : goal.returns-in_err-make_room-clause-cause
returns-in_err-make_room-clause-cause g c = counts-lost _ _ _ c.from_residual.result c.from_residual.ensures.0 c.loop-placed.invariant.0.same c.in_err-make_room.ensures.cause.later c.in_err-make_room.ensures.cause.failed

pub returns-clause-bytes : goal.returns-clause-bytes
returns-clause-bytes g c =
    let moved = added-all entry _ _ _ c.in-Some.rest.now _ _ _ _ c.loop-placed.invariant.0 (omega arith) in
    moves-is _ _ _ _ _ (list-text c.args.piece.now.items c.add_placed.new.piece.items c.args.list.now c.in-Some.first.now c.in-Some.rest.now c.in-Some.ensures.cases.0 c.add_placed.ensures.bytes) moved
