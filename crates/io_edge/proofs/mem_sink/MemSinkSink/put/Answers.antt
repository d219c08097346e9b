use Rattle.std.proofs.Common.{◌≡◌, ◌++◌, ap, ◌∙◌}
use Rattle.io_edge.specs.FailPlan.{counted}
use Rattle.io_edge.specs.Views.{SinkView}
use Rattle.io_edge.proofs.mem_sink.MemSinkSink.put.Goals as goal

pub returns-clause-bytes : goal.returns-clause-bytes
returns-clause-bytes c =
    let more = rw c.unwrap.ensures at c.extend_from_slice.ensures.items in
    more ∙ ap (λ (s : SinkView). s.taken ++ c.args.piece.now) c.self.view_is

pub returns-clause-exact : goal.returns-clause-exact
returns-clause-exact c =
    let more = rw c.unwrap.ensures at c.extend_from_slice.ensures.items in
    let taken_is : c.extend_from_slice.new.self.items ≡ c.args.self.now.taken ++ c.args.piece.now = more ∙ ap (λ (s : SinkView). s.taken ++ c.args.piece.now) c.self.view_is in
    let plan_is : c.begin-is_listed.new.self ≡ counted c.args.self.now.plan = c.begin-is_listed.ensures.after ∙ ap (λ (s : SinkView). counted s.plan) c.self.view_is in
    λ i. record { taken = taken_is i; room = ap (λ (s : SinkView). s.room) c.self.view_is i; plan = plan_is i }
