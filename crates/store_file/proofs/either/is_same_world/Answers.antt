use Rattle.std.proofs.Common.{◌≡◌, ◌&&◌, ◌==◌, ap, sym, ◌∙◌}
use Rattle.std.specs.Bool.{Decides}
use Rattle.std.proofs.lemmas.Bool.Decides.{Decides-eqb}
use Rattle.std.proofs.lemmas.Slice.Eq.{slice_eq-Decides}
use Rattle.std.specs.Cmp.{first_so, second_so}
use Rattle.std.specs.Cmp.Derive.{both_true}
use Rattle.plain_list.specs.declared.world.Member.{Member}
use Rattle.store_file.proofs.either.is_same_world.Goals as goal

member_Decides : (a b : Member) → Decides ((a.id == b.id) && (((a.at.x == b.at.x) && (a.at.y == b.at.y)) && (a.moment == b.moment))) (a ≡ b)
member_Decides a b = (
  λ e. let id : a.id ≡ b.id = (Decides-eqb a.id b.id).0 (first_so (a.id == b.id) (((a.at.x == b.at.x) && (a.at.y == b.at.y)) && (a.moment == b.moment)) e) in
      let rest = second_so (a.id == b.id) (((a.at.x == b.at.x) && (a.at.y == b.at.y)) && (a.moment == b.moment)) e in
      let here = first_so ((a.at.x == b.at.x) && (a.at.y == b.at.y)) (a.moment == b.moment) rest in
      let moment : a.moment ≡ b.moment = (Decides-eqb a.moment b.moment).0 (second_so ((a.at.x == b.at.x) && (a.at.y == b.at.y)) (a.moment == b.moment) rest) in
      let x : a.at.x ≡ b.at.x = (Decides-eqb a.at.x b.at.x).0 (first_so (a.at.x == b.at.x) (a.at.y == b.at.y) here) in
      let y : a.at.y ≡ b.at.y = (Decides-eqb a.at.y b.at.y).0 (second_so (a.at.x == b.at.x) (a.at.y == b.at.y) here) in
      λ i. record { id = id i; at = record { x = x i; y = y i }; moment = moment i },
  λ e. both_true ((Decides-eqb a.id b.id).1 (ap (λ (m : Member). m.id) e))
      (both_true (both_true ((Decides-eqb a.at.x b.at.x).1 (ap (λ (m : Member). m.at.x) e)) ((Decides-eqb a.at.y b.at.y).1 (ap (λ (m : Member). m.at.y) e)))
      ((Decides-eqb a.moment b.moment).1 (ap (λ (m : Member). m.moment) e))),
)

pub returns : goal.returns
returns c =
    let one = c.as_slice.result.now in
    let other = c.as_slice-2.result.now in
    let decided : Decides c.eq.result (one ≡ other) = slice_eq-Decides member_Decides one other c.eq.result c.eq.ensures in
    (λ yes. sym c.as_slice.ensures.members ∙ decided.0 yes ∙ c.as_slice-2.ensures.members, λ same. decided.1 (c.as_slice.ensures.members ∙ same ∙ sym c.as_slice-2.ensures.members))
