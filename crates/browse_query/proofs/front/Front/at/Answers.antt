use Rattle.std.proofs.Common.{refl}
use Rattle.browse_query.proofs.front.Front.at.Goals as goal

pub returns : goal.returns
returns g c = record {
  from = refl;
  only = record { ahead = c.at.result; place = c.args.place };
  named = c.at.ensures.name;
  at = refl;
  is = c.at.ensures.ahead;
  nearest = refl;
  no_others = c.new.ensures.items;
  none_found = c.new-2.ensures.items;
  found_order = c.new-2.ensures.heap_order;
  waiting_order = c.new.ensures.heap_order;
}
