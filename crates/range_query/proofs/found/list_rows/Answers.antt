use Rattle.std.proofs.Common.{◌≡◌, ◌∙◌, ◌++◌, ◌∷◌, [], true, false, sym, ap, subst, arith}
use Rattle.zorder.specs.declared.points.Placed.{Placed}
use Rattle.zorder.specs.Region.{has_point}
use Rattle.table_share.specs.Objects.{placed_of}
use Rattle.range_query.specs.Listing.{IsListing}
use Rattle.range_query.proofs.Listings.{passed-in, passed-by, passed-fits}
use Rattle.range_query.proofs.found.list_rows.Goals as goal

pub loop-row-preserved-in-Continue-1 : goal.loop-row-preserved-in-Continue-1
loop-row-preserved-in-Continue-1 g c = (
  omega (arith, c.loop-row.invariant.0, c.add.ensures.grows),
  λ ms fits is.
      let region = c.args.region.now in
      let all = c.args.bucket.now.rows in
      let r = c.in-Some.row.now in
      let p = c.loop-row.invariant.1 ms fits is in
      let there : has_point region (placed_of r).at ≡ true = ap (λ box. has_point box (placed_of r).at) (sym c.of-corners.ensures) ∙ sym c.has.ensures ∙ c.if-has.true in
      passed-in region ms all c.loop-row.row-iterator c.next.new.self r c.loop-row.found c.in-Some.ensures.steps there p c.add.new.self
      (λ done. subst (λ (m : Placed). IsListing (p.done ++ m ∷ []) c.add.new.self) c.placed.ensures
      (c.in_ok-add.ensures.lists p.done (passed-fits region ms all c.loop-row.row-iterator c.next.new.self r c.loop-row.found c.in-Some.ensures.steps there p fits) done)),
)

pub loop-row-preserved : goal.loop-row-preserved
loop-row-preserved g c = (
  c.loop-row.invariant.0,
  λ ms fits is.
      let region = c.args.region.now in
      let r = c.in-Some.row.now in
      let away : has_point region (placed_of r).at ≡ false = ap (λ box. has_point box (placed_of r).at) (sym c.of-corners.ensures) ∙ sym c.has.ensures ∙ c.if-has.false in
      passed-by region ms c.args.bucket.now.rows c.loop-row.row-iterator c.next.new.self r c.loop-row.found c.in-Some.ensures.steps away (c.loop-row.invariant.1 ms fits is),
)
