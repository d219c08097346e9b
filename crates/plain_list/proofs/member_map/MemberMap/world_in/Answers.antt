use Rattle.std.proofs.Common.{◌≡◌, ◌∙◌, ◌++◌, ap, sym, subst, arith, length}
use Rattle.std.proofs.lemmas.List.{nil_from_length}
use Rattle.plain_list.specs.World.{World, IsWorld}
use Rattle.plain_list.proofs.member_map.MemberMap.world_in.Goals as goal

pub from_vec-requires : goal.from_vec-requires
from_vec-requires c =
    let none : length c.args.room.items ≡ 0 = omega (arith, c.requires.empty) in
    subst IsWorld (sym (c.add_to.ensures.items ∙ ap (λ (l : World). l ++ c.args.self.now) (nil_from_length c.args.room.items none))) c.add_to.ensures.world
