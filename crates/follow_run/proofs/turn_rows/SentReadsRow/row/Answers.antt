use Rattle.std.proofs.Common.{◌∙◌, ap, sym}
use Rattle.follower.specs.Follow.{acks_after, packets_after}
use Rattle.follow_run.proofs.TurnRowsFacts.{acks-more, few-acks, few-packets, packets-more}
use Rattle.follow_run.proofs.turn_rows.SentReadsRow.row.Goals as goal

pub sent_after-requires-clause-packets : goal.sent_after-requires-clause-packets
sent_after-requires-clause-packets c = few-packets _ _ c.requires.knows.0 c.requires.few

pub sent_after-requires-clause-acks : goal.sent_after-requires-clause-acks
sent_after-requires-clause-acks c = few-acks _ _ c.requires.knows.1 c.requires.few

pub returns-clause-knows : goal.returns-clause-knows
returns-clause-knows c =
    let turn = c.in_ok-turn.turn in (
      c.sent_after.ensures.packets ∙ ap (λ n. packets_after n turn) c.requires.knows.0 ∙ sym (packets-more c.args._earlier.now turn),
      c.sent_after.ensures.acks ∙ ap (λ n. acks_after n turn) c.requires.knows.1 ∙ sym (acks-more c.args._earlier.now turn),
    )
