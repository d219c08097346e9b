use Rattle.std.proofs.Common.{◌∙◌, length, ap}
use Rattle.std.proofs.lemmas.List.{length-map}
use Rattle.plain_list.specs.Answer.{is_change}
use Rattle.plain_list.proofs.Batches.{answers_to-length}
use Rattle.commit_book.proofs.batch_steps.plan.Goals as goal

pub cells_of-requires : goal.cells_of-requires
cells_of-requires g c =
    let ops = c.args.ops.now in
    let answers = c.answers.result.now in
    ap length c.deref.ensures.value ∙ ap length c.in_ok-changes.ensures ∙ length-map answers is_change ∙ ap length c.answers.ensures ∙ ap length c.in_ok-draft.ensures.answers ∙ answers_to-length c.args.table.now.world ops
