use Rattle.std.proofs.Common.{Ok, Err, subst, inr}
use Rattle.plain_list.specs.declared.ops.Op.TheVariants.{Put, Move}
use Rattle.store_client.specs.Verbs.{AskedAs, move_answer, put_answer}
use Rattle.store_client.specs.declared.answers.MoveReply.{MoveReply}
use Rattle.store_client.specs.declared.answers.PutReply.{PutReply}
use Rattle.store_client.specs.declared.answers.Report.TheVariants as report
use Rattle.pisrakun.proofs.Reported.{reports-once}
use Rattle.pisrakun.proofs.object_store.ObjectStore.report.Goals as goal

pub returns-in-Ok-From-clause-reports : goal.returns-in-Ok-From-clause-reports
returns-in-Ok-From-clause-reports g c =
    let w = g.I.Index.WIDTH in
    reports-once w c.args.id c.args.at c.args.moment c.args.self.now c.move_to.new.self (Ok (report.From c.in-Ok-From.from))
    (subst (λ (m : MoveReply). AskedAs move_answer w (Move c.args.id c.args.at c.args.moment) c.args.self.now c.move_to.new.self (Ok m)) c.in-Ok-From.field-0-is c.in-Ok-From.ensures.asked)

pub returns-in-Ok-Stale-clause-reports : goal.returns-in-Ok-Stale-clause-reports
returns-in-Ok-Stale-clause-reports g c =
    let w = g.I.Index.WIDTH in
    reports-once w c.args.id c.args.at c.args.moment c.args.self.now c.move_to.new.self (Ok (report.Stale c.in-Ok-Stale.kept))
    (subst (λ (m : MoveReply). AskedAs move_answer w (Move c.args.id c.args.at c.args.moment) c.args.self.now c.move_to.new.self (Ok m)) c.in-Ok-Stale.field-0-is c.in-Ok-Stale.ensures.asked)

pub returns-in-Ok-Done-clause-reports : goal.returns-in-Ok-Done-clause-reports
returns-in-Ok-Done-clause-reports g c =
    let w = g.I.Index.WIDTH in
    let mid = c.move_to.new.self in
    reports-once w c.args.id c.args.at c.args.moment c.args.self.now c.put.new.self (Ok report.New) (
      mid,
      subst (λ (m : MoveReply). AskedAs move_answer w (Move c.args.id c.args.at c.args.moment) c.args.self.now mid (Ok m)) c.in-Ok-Absent.field-0-is c.in-Ok-Absent.ensures.asked,
      subst (λ (p : PutReply). AskedAs put_answer w (Put c.args.id c.args.at c.args.moment) mid c.put.new.self (Ok p)) c.in-Ok-Done.field-0-is c.in-Ok-Done.ensures.asked,
    )

pub returns-in-Ok-Full-clause-reports : goal.returns-in-Ok-Full-clause-reports
returns-in-Ok-Full-clause-reports g c =
    let w = g.I.Index.WIDTH in
    let mid = c.move_to.new.self in
    reports-once w c.args.id c.args.at c.args.moment c.args.self.now c.put.new.self (Ok report.Full) (
      mid,
      subst (λ (m : MoveReply). AskedAs move_answer w (Move c.args.id c.args.at c.args.moment) c.args.self.now mid (Ok m)) c.in-Ok-Absent.field-0-is c.in-Ok-Absent.ensures.asked,
      subst (λ (p : PutReply). AskedAs put_answer w (Put c.args.id c.args.at c.args.moment) mid c.put.new.self (Ok p)) c.in-Ok-Full.field-0-is c.in-Ok-Full.ensures.asked,
    )

pub returns-in-Err-put-clause-reports : goal.returns-in-Err-put-clause-reports
returns-in-Err-put-clause-reports g c =
    let w = g.I.Index.WIDTH in
    let mid = c.move_to.new.self in
    reports-once w c.args.id c.args.at c.args.moment c.args.self.now c.put.new.self (Err c.in-Err-put.fault)
    (inr (
      mid,
      subst (λ (m : MoveReply). AskedAs move_answer w (Move c.args.id c.args.at c.args.moment) c.args.self.now mid (Ok m)) c.in-Ok-Absent.field-0-is c.in-Ok-Absent.ensures.asked,
      c.in-Err-put.ensures.asked,
    ))
