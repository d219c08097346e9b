-- Changes and queries: why they are refused, and what their append needs.
use Rattle.std.proofs.Common.{◌≡◌, ℕ, ◌<◌, ◌≤◌, Bool, true, false, cond, List, [], ◌∷◌, ◌++◌, length, Option, Some, None, Ok, Err, refl, sym, ap, arith}
use Rattle.std.specs.Prelude.{◌==◌, ◌&&◌}
use Rattle.std.proofs.lemmas.Bool.Decides.{nat_tests}
use mathlib.Core.Bool.{true≢false}
use Rattle.plain_list.specs.declared.ops.Op.{Op}
use Rattle.plain_list.specs.declared.ops.Op.TheVariants.{Put, Move, Remove, Find, Within, Near}
use Rattle.plain_list.specs.Answer.{answer_of, is_change}
use Rattle.plain_list.specs.History.{world_after}
use Rattle.log_state.specs.Changes.{change_cells}
use Rattle.cell_format.specs.declared.cell.Cell.{Cell}
use Rattle.plain_list.specs.declared.entries.Entry.{Entry}
use Rattle.plain_list.specs.declared.entries.Entry.TheVariants.{Call}
use Rattle.plain_list.specs.State.{State, IsLegal}
use Rattle.disk_trait.specs.Drive.{Drive}
use Rattle.kept_log.specs.KeptView.{KeptView}
use Rattle.kept_log.specs.Journal.{KeepsIn, cells_in}
use Rattle.kept_log.proofs.InJournal.{in-quiet}
use Rattle.commit_book.specs.Answers.{IsQuery}
use Rattle.commit_book.specs.BookView.{BookView}
use Rattle.commit_book.specs.IsBook.{most_events}
use Rattle.commit_book.specs.Refusals.{IsRefusedBy, IsNoFault, call_refusal, update_refusal, most_cells}
use Rattle.commit_book.specs.declared.faults.BookFault.{BookFault}
use Rattle.commit_book.specs.declared.faults.BookFault.TheVariants.{LogFull}
use Rattle.commit_book.proofs.RefusalLemmas.{refused_later, told_only, done_only, neither, MayCall, may_call}

module _ {D : Type 0} (b : BookView D) (op : Op) where
  -- whether the operation changes the world of the book
  abbrev pub changes : Bool
  changes = is_change (answer_of (world_after b.opening.world b.entries) op)

  abbrev pub lacks_cell : Option BookFault
  lacks_cell = cond ((cells_in b.log == most_cells) && changes) (Some LogFull) None

  pub told_full : call_refusal b.kept b.entries ≡ None → (cells_in b.log == most_cells) ≡ true → changes ≡ true → IsRefusedBy {A = Unit {0}} IsNoFault (update_refusal b op) (Err LogFull)
  told_full none full change =
      refused_later (call_refusal b.kept b.entries) lacks_cell (Err LogFull) none (told_only (Unit {0}) lacks_cell LogFull (λ i. cond (full i && change i) (Some LogFull) None))

  pub has_cell : call_refusal b.kept b.entries ≡ None → ((cells_in b.log == most_cells) && changes) ≡ false → IsRefusedBy {A = Unit {0}} IsNoFault (update_refusal b op) (Ok tt)
  has_cell none enough =
      refused_later (call_refusal b.kept b.entries) lacks_cell (Ok tt) none (done_only lacks_cell tt (λ i. cond (enough i) (Some LogFull) None))

  -- what lets a change or a find be made
  pub record MayUpdate : Type 0 where
    pub call : MayCall b.kept b.entries
    pub room : changes ≡ true → (cells_in b.log == most_cells) ≡ false

  pub may_update : length b.entries ≤ most_events b.kept → update_refusal b op ≡ None → MayUpdate
  may_update most none =
      let both = neither (call_refusal b.kept b.entries) lacks_cell none in
      record { call = may_call b.kept b.entries most both.0; room = by_tests (cells_in b.log == most_cells) changes both.1 }
    where
      by_tests : (full change : Bool) → cond (full && change) (Some LogFull) None ≡ None → change ≡ true → full ≡ false
      by_tests true true e is = cc e
      by_tests true false e is = absurd (true≢false (sym is))
      by_tests false change e is = refl

-- a log that hasn't all cells has fewer
pub fewer_cells : (n : ℕ) → n ≤ 16777216 → (n == most_cells) ≡ false → n < 16777216
fewer_cells n le e = grind (arith, nat_tests)

-- a query has no cell
pub query_cells : (op : Op) → IsQuery op → change_cells op ≡ []
query_cells (Put id at moment) is = absurd is
query_cells (Move id at moment) is = absurd is
query_cells (Remove id) is = absurd is
query_cells (Find id) is = refl
query_cells (Within region) is = refl
query_cells (Near at k) is = refl

-- the log keeps a history with a query more
pub keeps-query : {D : Type 0} (drive : D → Drive) (w : ℕ) (s : State) (h : List Entry) (session row : ℕ) (op : Op) (log : Option (KeptView D)) → IsQuery op → IsLegal w s (h ++ Call session row op ∷ [])
    → KeepsIn drive w s h log → KeepsIn drive w s (h ++ Call session row op ∷ []) log
keeps-query drive w s h session row op log is legal kept = in-quiet drive w s h (Call session row op) log legal (no_cells (is_change (answer_of (world_after s.world h) op))) refl kept
  where
    no_cells : (b : Bool) → cond b (change_cells op) [] ++ [] ≡ []
    no_cells true = ap (λ (cs : List Cell). cs ++ []) (query_cells op is)
    no_cells false = refl
