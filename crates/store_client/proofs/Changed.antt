-- What a batch has changed, operation by operation.
use Rattle.std.proofs.Common.{◌≡◌, ◌<◌, ◌≤◌, ◌+◌, ℕ, suc, Option, List, [], ◌∷◌, ◌++◌, drop, length, min, get_or, refl, ap, arith, append_assoc, length-drop, ◌∙◌, sym}
use Rattle.std.specs.Prelude.{option_to_list}
use Rattle.std.proofs.Math.Seq.{drop-cons}
use Rattle.plain_list.specs.declared.object_changes.Change.{Change}
use Rattle.plain_list.specs.declared.ops.Op.{Op}
use Rattle.plain_list.specs.declared.ops.Answer.{Answer}
use Rattle.plain_list.specs.World.{World}
use Rattle.plain_list.specs.Answer.{answer_of, after_of}
use Rattle.plain_list.specs.Batch.{answers_to, batch_calls}
use Rattle.plain_list.specs.Changes.{change_of, changes_from}
use Rattle.store_client.specs.Changes.{changes_in}

-- The changes from the k-th operation on are its own, and then those of the next ones.
changes-turn : (place k : ℕ) (ops : List Op) (answers : List Answer) (op : Op) (answer : Answer) → k < length ops → k < length answers → op ≡ get_or ops k op → answer ≡ get_or answers k answer
    → changes_in place (drop k ops) (drop k answers) ≡ option_to_list (change_of (suc place) op answer) ++ changes_in (suc place) (drop (suc k) ops) (drop (suc k) answers)
changes-turn place k ops answers op answer here there is told =
    (λ i. changes_in place (drop-cons ops k op here i) (drop-cons answers k answer there i))
    ∙ (λ i. option_to_list (change_of (suc place) (sym is i) (sym told i)) ++ changes_in (suc place) (drop (suc k) ops) (drop (suc k) answers))

pub changes-more : (old new all : List Change) (change : Option Change) (place next k m : ℕ) (ops : List Op) (answers : List Answer) (op : Op) (answer : Answer)
    → new ≡ old ++ option_to_list change → change ≡ change_of next op answer → next ≡ suc place → m ≡ suc k
    → k < length ops → k < length answers → op ≡ get_or ops k op → answer ≡ get_or answers k answer
    → old ++ changes_in place (drop k ops) (drop k answers) ≡ all → new ++ changes_in next (drop m ops) (drop m answers) ≡ all
changes-more old new all change place next k m ops answers op answer new_is change_is next_is m_is here there is told so_far =
    (λ i. new_is i ++ changes_in (next_is i) (drop (m_is i) ops) (drop (m_is i) answers))
    ∙ append_assoc old (option_to_list change) (changes_in (suc place) (drop (suc k) ops) (drop (suc k) answers))
    ∙ ap (λ (l : List Change). old ++ l)
    ((λ i. option_to_list ((change_is ∙ ap (λ n. change_of n op answer) next_is) i) ++ changes_in (suc place) (drop (suc k) ops) (drop (suc k) answers))
    ∙ sym (changes-turn place k ops answers op answer here there is told))
    ∙ so_far

none-left : (place : ℕ) (ops : List Op) (answers : List Answer) → min (length ops) (length answers) ≡ 0 → changes_in place ops answers ≡ []
none-left place [] answers is = refl
none-left place (op ∷ ops) [] is = refl
none-left place (op ∷ ops) (answer ∷ answers) is = absurd (omega (arith, is))

-- After the last operation there are no more changes.
pub changes-end : (place k : ℕ) (ops : List Op) (answers : List Answer) → k ≡ min (length ops) (length answers) → changes_in place (drop k ops) (drop k answers) ≡ []
changes-end place k ops answers is = none-left place (drop k ops) (drop k answers) (omega (arith, length-drop k ops, length-drop k answers))

-- They are the changes of the entries that the batch has in the history. `world` has the objects before the batch.
pub changes-batch : (calls : ℕ) (world : World) (session row : ℕ) (ops : List Op) → changes_in calls ops (answers_to world ops) ≡ changes_from calls world (batch_calls session row ops)
changes-batch calls world session row [] = refl
changes-batch calls world session row (op ∷ ops) =
    ap (λ (l : List Change). option_to_list (change_of (suc calls) op (answer_of world op)) ++ l) (changes-batch (suc calls) (after_of world op) session (row + 1) ops)
