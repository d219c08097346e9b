-- What a log keeps with one more entry.
use Rattle.std.proofs.Common.{◌≡◌, ℕ, Bool, true, false, ◌&&◌, List, [], ◌∷◌, ◌++◌, cond, refl, sym, ◌∙◌, ap}
use Rattle.std.proofs.lemmas.Bool.{true≢false}
use Rattle.std.specs.Cmp.{second_so}
use Rattle.cell_format.specs.declared.cell.Cell.{Cell}
use Rattle.plain_list.specs.declared.entries.Entry.{Entry}
use Rattle.plain_list.specs.declared.entries.Entry.TheVariants.{Fail, Call, Begin, Install, Abandon}
use Rattle.plain_list.specs.World.{World}
use Rattle.plain_list.specs.History.{world_after}
use Rattle.plain_list.specs.State.{State, step, is_possible, is_free, is_fail, are_fails, is_legal_history, IsLegal}
use Rattle.plain_list.proofs.Histories.{has_failed}
use Rattle.log_state.specs.Changes.{cells_of, failed_cells}
use Rattle.kept_log.specs.Steps.{IsNext}

and_false : (b c : Bool) → c ≡ false → (b && c) ≡ false
and_false true c is = is
and_false false c is = refl

going_last : (h : List Entry) (e : Entry) → is_fail e ≡ false → are_fails (h ++ e ∷ []) ≡ false
going_last [] e going = ap (λ b. b && true) going
going_last (f ∷ h) e going = and_false (is_fail f) (are_fails (h ++ e ∷ [])) (going_last h e going)

sound_test : (b last rest sound : Bool) → last ≡ false → cond b last rest ≡ true → (rest ≡ true → sound ≡ false) → cond b true sound ≡ false
sound_test true last rest sound more legal later = absurd (true≢false (sym legal ∙ more))
sound_test false last rest sound more legal later = later legal

-- If one more entry is legal that is no failed append, no append has failed.
pub sound-push : (w : ℕ) (s : State) (h : List Entry) (e : Entry) → IsLegal w s (h ++ e ∷ []) → is_fail e ≡ false → has_failed h ≡ false
sound-push w s [] e legal going = refl
sound-push w s (f ∷ h) e legal going =
    sound_test (is_fail f) (are_fails (h ++ e ∷ [])) (is_legal_history w (step w s f) (h ++ e ∷ [])) (has_failed h) (going_last h e going)
    (second_so (is_possible w s f && is_free s f) (cond (is_fail f) (are_fails (h ++ e ∷ [])) (is_legal_history w (step w s f) (h ++ e ∷ []))) legal)
    (λ rest. sound-push w (step w s f) h e rest going)

-- An entry with a cell is no failed append.
lost_none : (world : World) (e : Entry) (cell : Cell) → cells_of world (e ∷ []) ≡ cell ∷ [] → failed_cells (e ∷ []) ≡ []
lost_none world (Fail number lost) cell one = absurd (cc one)
lost_none world (Call session row op) cell one = refl
lost_none world (Begin number name) cell one = refl
lost_none world (Install number) cell one = refl
lost_none world (Abandon number) cell one = refl

going_cell : (world : World) (e : Entry) (cell : Cell) → cells_of world (e ∷ []) ≡ cell ∷ [] → is_fail e ≡ false
going_cell world (Fail number lost) cell one = absurd (cc one)
going_cell world (Call session row op) cell one = refl
going_cell world (Begin number name) cell one = refl
going_cell world (Install number) cell one = refl
going_cell world (Abandon number) cell one = refl
