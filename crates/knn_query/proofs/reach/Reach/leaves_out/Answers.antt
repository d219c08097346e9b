use Rattle.std.proofs.Common.{◌≡◌, ◌∙◌, Bool, true, false, not, refl, sym}
use Rattle.knn_query.proofs.reach.Reach.leaves_out.Goals as goal

off : (b : Bool) → not b ≡ true → b ≡ false
off true e = sym e
off false e = refl

pub returns-in-Some : goal.returns-in-Some
returns-in-Some c e = record { corners = c.in-Some.corners; is = c.in-Some.is; out = sym c.has.ensures ∙ off c.has.result e }
