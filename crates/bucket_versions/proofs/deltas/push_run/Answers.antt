use Rattle.std.proofs.Common.{◌∙◌, ◌+◌, List, [], ◌∷◌, ◌++◌, sym, ap, subst}
use Rattle.std.proofs.lemmas.List.{take_rest}
use Rattle.bucket_versions.specs.declared.row.Row.{Row}
use Rattle.bucket_versions.specs.Rows.{IsRows}
use Rattle.bucket_versions.proofs.RowRuns.{IsRows-drop, ran-there, ran-absent}
use Rattle.bucket_versions.proofs.deltas.push_run.Goals as goal

pub returns-in_ok-extend_from_slice-in-Ok-clause-rows : goal.returns-in_ok-extend_from_slice-in-Ok-clause-rows
returns-in_ok-extend_from_slice-in-Ok-clause-rows c delta =
    ran-there c.args.turned.now c.args.all.now.items c.extend_from_slice.new.self.items c.args.rest.now _ delta c.in-Ok.place c.in-Ok.ensures.place c.requires c.in-Ok.ensures.there
    c.in_ok-extend_from_slice-in-Ok.ensures.items (take_rest c.args.rest.now (c.in-Ok.place + 1))

pub returns-in_ok-extend_from_slice-in-Ok-clause-in_order : goal.returns-in_ok-extend_from_slice-in-Ok-clause-in_order
returns-in_ok-extend_from_slice-in-Ok-clause-in_order c =
    subst IsRows (sym (take_rest c.args.rest.now (c.in-Ok.place + 1))) (IsRows-drop (c.in-Ok.place + 1) c.args.rest.now c.requires)

pub returns-in_ok-push-in-Err-clause-rows : goal.returns-in_ok-push-in-Err-clause-rows
returns-in_ok-push-in-Err-clause-rows c delta =
    ran-absent c.args.turned.now c.args.all.now.items c.push.new.self.items c.args.rest.now _ delta c.in-Err.place c.in-Err.ensures.place c.in-Err.ensures.there
    (c.in_ok-push-in-Err.ensures.items ∙ ap (λ (l : List Row). l ++ c.args.turned.now ∷ []) c.in_ok-extend_from_slice-in-Err.ensures.items)
    (take_rest c.args.rest.now c.in-Err.place)

pub returns-in_ok-push-in-Err-clause-in_order : goal.returns-in_ok-push-in-Err-clause-in_order
returns-in_ok-push-in-Err-clause-in_order c =
    subst IsRows (sym (take_rest c.args.rest.now c.in-Err.place)) (IsRows-drop c.in-Err.place c.args.rest.now c.requires)
