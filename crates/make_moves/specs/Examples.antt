-- Worked values, computed.
use Rattle.std.specs.Prelude.{◌≡◌, [], ◌∷◌}
use Rattle.std.proofs.Common.{refl}
use Rattle.plain_list.specs.declared.ops.Op.TheVariants as op
use Rattle.make_moves.specs.Draws.{draw_at}
use Rattle.make_moves.specs.Moves.{made_rows}

first_of_0 : draw_at 0 0 ≡ 335903614
first_of_0 = refl

first_of_1 : draw_at 1 0 ≡ 1817669548
first_of_1 = refl

first_of_2 : draw_at 2 0 ≡ 3299435481
first_of_2 = refl

first_of_seed_2 : made_rows 1 2 ≡ record { session = 1; op = op.Put 1717 (record { x = 3938983765; y = 2969520912 }) 60104 } ∷ []
first_of_seed_2 = refl
