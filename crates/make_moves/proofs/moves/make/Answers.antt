use Rattle.std.proofs.Common.{rules, ◌≡◌, ◌∙◌, ◌∷◌, [], ◌++◌, List, sym, ap, subst, arith}
use Rattle.std.proofs.lemmas.List.FromFn.{map-range_with_len_more}
use Rattle.csv_rows.specs.declared.rows.InRow.{InRow}
use Rattle.csv_rows.specs.InRows.{AreInRows}
use Rattle.make_moves.specs.Draws.{after_draws}
use Rattle.make_moves.specs.Moves.{made_rows, made_row, row_drawn}
use Rattle.make_moves.proofs.MadeRows.{AreInRows-made_rows, after_draws-row}
use Rattle.make_moves.proofs.moves.make.Goals as goal

pub loop-i-preserved : goal.loop-i-preserved
loop-i-preserved c =
    let i = c.loop-i.i in
    let seed = c.args.seed in
    let row : c.next_row.result ≡ made_row seed i = c.next_row.ensures.row ∙ ap (row_drawn i) c.loop-i.invariant.state in
    record {
      rows =
          c.in_ok-push.ensures.items
          ∙ ap (λ (l : List InRow). l ++ c.next_row.result ∷ []) c.loop-i.invariant.rows
          ∙ ap (λ (r : InRow). made_rows i seed ++ r ∷ []) row
          ∙ sym (map-range_with_len_more (made_row seed) 0 i i (omega arith));
      state = c.next_row.ensures.state ∙ ap (after_draws 3) c.loop-i.invariant.state ∙ sym (after_draws-row i seed);
    }

pub from_vec-requires : goal.from_vec-requires
from_vec-requires c =
    let all : c.loop-i.i ≡ c.args.n = omega arith in
    subst AreInRows (sym c.loop-i.invariant.rows) (AreInRows-made_rows c.loop-i.i c.args.seed (omega arith))

pub returns : goal.returns
returns c =
    let all : c.loop-i.i ≡ c.args.n = omega arith in
    c.from_vec.ensures ∙ c.loop-i.invariant.rows ∙ ap (λ n. made_rows n c.args.seed) all

pub loop-i-init : goal.loop-i-init
loop-i-init c = search rules
