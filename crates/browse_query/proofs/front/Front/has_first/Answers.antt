use Rattle.std.proofs.Common.{refl, sym, length, ◌<◌, arith}
use Rattle.std.specs.BinaryHeap.{heap_items}
use mathlib.Core.Bool.{true≢false}
use Rattle.browse_query.proofs.Fronts.{first-test, none-far}
use Rattle.browse_query.proofs.front.Front.has_first.Goals as goal

pub returns-in-Some-Some : goal.returns-in-Some-Some
returns-in-Some-Some g c =
    let some : 0 < length (heap_items c.args.self.now.found) = omega (arith, c.in-Some-Some.ensures.variant.0 refl, c.args.self.now.found.data.ok.0) in
    first-test c.args.self.now c.in-Some-Some.next c.in-Some-Some.is-0 c.in-Some-Some.first.now c.in-Some-Some.ensures.lookup some (c.in-Some-Some.ensures.greatest c.requires) _ refl

pub returns-in-Some-None : goal.returns-in-Some-None
returns-in-Some-None g c = (
  c.in-Some-None.field-0-0,
  c.in-Some-None.is-0,
  none-far (heap_items c.args.self.now.found) c.in-Some-None.field-0-0.ahead.least.0 (λ some. true≢false (sym (c.in-Some-None.ensures.variant.1 (omega (arith, some, c.args.self.now.found.data.ok.0))))),
)
