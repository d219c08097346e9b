-- Entries that leave the world as it is.
use Rattle.std.proofs.Common.{◌≡◌, Bool, true, false, cond, List, [], ◌∷◌, length, drop, refl, sym, ap, ◌∙◌}
use mathlib.Core.Bool.{true≢false}
use mathlib.Core.List.{IsPrefix}
use Rattle.std.specs.List.{list_all}
use Rattle.std.specs.Cmp.{first_so, second_so}
use Rattle.std.proofs.lemmas.List.{drop_at}
use Rattle.plain_list.specs.declared.ops.Op.{Op}
use Rattle.plain_list.specs.declared.ops.Op.TheVariants.{Put, Move, Remove, Find, Within, Near}
use Rattle.plain_list.specs.declared.entries.Entry.{Entry}
use Rattle.plain_list.specs.declared.entries.Entry.TheVariants.{Call, Begin, Install, Abandon, Fail}
use Rattle.plain_list.specs.World.{World}
use Rattle.plain_list.specs.Answer.{answer_of, after_of, is_change}
use Rattle.plain_list.specs.History.{world_step, world_after}
use Rattle.plain_list.proofs.Histories.{world_after-append}
use Rattle.commit_book.specs.Answers.{is_ask, is_still, is_still_since}

either-way : (b : Bool) (world : World) → cond b world world ≡ world
either-way true world = refl
either-way false world = refl

after_of-ask : (world : World) (op : Op) → is_ask op ≡ true → after_of world op ≡ world
after_of-ask world (Put id at moment) ask = absurd (true≢false (sym ask))
after_of-ask world (Move id at moment) ask = absurd (true≢false (sym ask))
after_of-ask world (Remove id) ask = absurd (true≢false (sym ask))
after_of-ask world (Find id) ask = either-way (is_change (answer_of world (Find id))) world
after_of-ask world (Within region) ask = either-way (is_change (answer_of world (Within region))) world
after_of-ask world (Near at k) ask = either-way (is_change (answer_of world (Near at k))) world

world_step-still : (world : World) (e : Entry) → is_still e ≡ true → world_step world e ≡ world
world_step-still world (Call session row op) still = after_of-ask world op still
world_step-still world (Begin number name) still = refl
world_step-still world (Install number) still = refl
world_step-still world (Abandon number) still = refl
world_step-still world (Fail cell lost) still = refl

world_after-still : (world : World) (h : List Entry) → list_all is_still h ≡ true → world_after world h ≡ world
world_after-still world [] still = refl
world_after-still world (e ∷ h) still =
    ap (λ (w : World). world_after w h) (world_step-still world e (first_so (is_still e) (list_all is_still h) still)) ∙ world_after-still world h (second_so (is_still e) (list_all is_still h) still)

-- where all later entries do, the world is the one that was seen
pub world_after-since : (world : World) (seen now : List Entry) → IsPrefix seen now → is_still_since (length seen) now ≡ true → world_after world now ≡ world_after world seen
world_after-since world seen now (later, same) still =
    let rest : drop (length seen) now ≡ later = ap (drop (length seen)) (sym same) ∙ drop_at seen later (length seen) refl in
    ap (world_after world) (sym same) ∙ world_after-append world seen later ∙ world_after-still (world_after world seen) later (sym (ap (list_all is_still) rest) ∙ still)
