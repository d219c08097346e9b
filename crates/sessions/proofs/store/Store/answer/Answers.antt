use Rattle.commit_book.specs.declared.faults.BookFault.{BookFault}
use Rattle.commit_book.specs.declared.book.Done.{Done}
use Rattle.sessions.specs.Calls.{Updates}
use Rattle.std.proofs.Common.{◌≡◌, ℕ, refl, sym, subst, Result}
use Rattle.zorder.specs.declared.points.Point.{Point}
use Rattle.zorder.specs.declared.points.Region.{Region}
use Rattle.plain_list.specs.declared.ops.Op.{Op}
use Rattle.plain_list.specs.declared.ops.Op.TheVariants.{Put, Move, Remove, Find, Within, Near}
use Rattle.commit_book.specs.Answers.{IsUpdate, IsQuery}
use Rattle.sessions.proofs.CallLemmas.{change-answers, change-fault}
use Rattle.sessions.proofs.OpenLemmas.{opens-still, result-still}
use Rattle.sessions.proofs.store.Store.answer.Goals as goal

-- what isn't a query is a change or a find
updates : (op : Op) → ((region : Region) → op ≡ Within region → ⊥) → ((at : Point) (k : ℕ) → op ≡ Near at k → ⊥) → IsUpdate op
updates (Put id at moment) within near = tt
updates (Move id at moment) within near = tt
updates (Remove id) within near = tt
updates (Find id) within near = tt
updates (Within region) within near = absurd (within region refl)
updates (Near at k) within near = absurd (near at k refl)

pub returns-in-Within : goal.returns-in-Within
returns-in-Within g c = c.query.ensures

pub returns-in-Near : goal.returns-in-Near
returns-in-Near g c = c.query-in-Near.ensures

pub update-requires-clause-update : goal.update-requires-clause-update
update-requires-clause-update g c = updates c.args.request.now.op c.in_default.not-Within c.in_default.not-Near

pub returns-in_default : goal.returns-in_default
returns-in_default g c =
    let is = updates c.args.request.now.op c.in_default.not-Within c.in_default.not-Near in
    record {
      called = change-answers g.I.Index.WIDTH c.args.request.now.session c.args.request.now.row c.args.request.now.op c.args.pass.now c.update.new.pass c.update.result c.map_err.result is c.update.ensures.updates c.map_err.ensures.cases;
      opened = opens-still c.args.request.now.op _ _ _ c.args.steps.now is;
      refused = result-still c.map_err.result c.args.steps.now;
      stood = c.update.ensures.stood;
    }

pub query-requires-clause-query : goal.query-requires-clause-query
query-requires-clause-query g c = subst IsQuery (sym c.in-Within.is) tt

pub query-requires-in-Near-clause-query : goal.query-requires-in-Near-clause-query
query-requires-in-Near-clause-query g c = subst IsQuery (sym c.in-Near.is) tt

pub map_err-requires : goal.map_err-requires
map_err-requires g c = λ fault is.
    change-fault g.I.Index.WIDTH c.args.request.now.session c.args.request.now.row c.args.request.now.op c.args.pass.now c.update.new.pass fault
    (subst (λ (r : Result Done BookFault). Updates g.I.Index.WIDTH c.args.request.now.session c.args.request.now.row c.args.request.now.op c.args.pass.now c.update.new.pass r) is c.update.ensures.updates)
