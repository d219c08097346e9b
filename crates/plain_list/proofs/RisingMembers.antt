-- The object at an index of a rising list, behind those before it.
use Rattle.std.proofs.Common.{◌≡◌, ℕ, ◌+◌, ◌<◌, [], ◌∷◌, ◌++◌, length, take, drop, get_or, None, refl, sym, ◌∙◌, ap, subst, arith}
use Rattle.std.proofs.lemmas.Bool.Decides.{nat_tests}
use Rattle.std.proofs.lemmas.Grind.{common_steps}
use Rattle.std.proofs.lemmas.List.{take-append-drop, take_more, drop_more}
use Rattle.plain_list.specs.declared.world.Member.{Member}
use Rattle.plain_list.specs.Places.{IsAbove, IsRising}
use Rattle.plain_list.specs.World.{World, places_of, position_of}
use Rattle.plain_list.specs.Answer.{with_member}

above-last : (id : ℕ) (front : World) (m : Member) (rest : World) → IsAbove id (places_of (front ++ m ∷ rest)) → id < m.id
above-last id [] m rest above = above.0
above-last id (n ∷ front) m rest above = above-last id front m rest above.1

with_member-last : (m : Member) (front rest : World) → IsRising (places_of (front ++ m ∷ rest)) → with_member m front ≡ front ++ m ∷ []
with_member-last m [] rest rising = refl
with_member-last m (n ∷ front) rest rising =
    let lt : n.id < m.id = above-last n.id front m rest rising.0 in
    let later : with_member m front ≡ front ++ m ∷ [] = with_member-last m front rest rising.1 in
    grind (arith, nat_tests, common_steps)

position_of-last : (m : Member) (front rest : World) → IsRising (places_of (front ++ m ∷ rest)) → position_of front m.id ≡ None
position_of-last m [] rest rising = refl
position_of-last m (n ∷ front) rest rising =
    let lt : n.id < m.id = above-last n.id front m rest rising.0 in
    let later : position_of front m.id ≡ None = position_of-last m front rest rising.1 in
    grind (arith, nat_tests, common_steps)

module _ (world : World) (i : ℕ) (d : Member) (lt : i < length world) (rising : IsRising (places_of world)) where
  cut : IsRising (places_of (take i world ++ get_or world i d ∷ drop (i + 1) world))
  cut = subst (λ (l : World). IsRising (places_of l)) (sym (ap (λ (l : World). take i world ++ l) (sym (drop_more world i d lt)) ∙ take-append-drop i world)) rising

  -- it isn't among those before it
  pub position_of-next : position_of (take i world) (get_or world i d).id ≡ None
  position_of-next = position_of-last (get_or world i d) (take i world) (drop (i + 1) world) cut

  -- added to them, it stands at their end
  pub with_member-next : with_member (get_or world i d) (take i world) ≡ take (i + 1) world
  with_member-next = with_member-last (get_or world i d) (take i world) (drop (i + 1) world) cut ∙ sym (take_more world i d lt)
