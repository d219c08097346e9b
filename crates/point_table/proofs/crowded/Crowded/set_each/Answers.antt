use Rattle.std.proofs.Common.{◌≡◌, ◌∙◌, ◌-◌, List, sym, ap, arith}
use Rattle.point_table.specs.declared.crowded.Mark.{Mark}
use Rattle.point_table.specs.Crowded.{Crowd, remarked_each}
use Rattle.point_table.proofs.Rising.{remarked_each-last}
use Rattle.point_table.proofs.crowded.Crowded.set_each.Goals as goal

pub loop-mark-preserved : goal.loop-mark-preserved
loop-mark-preserved c =
    let left = c.pop.new.self.items in
    let room : c.set.new.self.room ≡ c.loop-mark.self.room - 1 = ap (λ (v : Crowd). v.room) c.set.ensures in
    record {
      names =
          ap (λ (v : Crowd). remarked_each left v.names) c.set.ensures
          ∙ sym (remarked_each-last left c.in-Some.mark c.loop-mark.self.names)
          ∙ ap (λ (marks : List Mark). remarked_each marks c.loop-mark.self.names) (sym c.in-Some.ensures.items)
          ∙ c.loop-mark.invariant.names;
      room = omega (arith, room, c.loop-mark.invariant.room, c.in-Some.ensures.len, c.requires);
    }
