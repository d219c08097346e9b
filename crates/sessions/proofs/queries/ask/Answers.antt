use Rattle.std.proofs.Common.{◌≡◌, ◌∙◌, ap, sym, subst}
use Rattle.std.specs.Prelude.{Result, Ok, Err, IfOk}
use Rattle.plain_list.specs.declared.ops.Op.{Op}
use Rattle.plain_list.specs.declared.ops.Answer.{Answer}
use Rattle.plain_list.specs.Answer.{answer_of}
use Rattle.plain_list.specs.World.{places_of}
use Rattle.sessions.specs.Opens.{listed_by, Opens}
use Rattle.sessions.proofs.OpenLemmas.{box-opens}
use Rattle.sessions.proofs.queries.ask.Goals as goal

answers : {E : Type 0} (r : Result Answer E) (a b : Answer) → a ≡ b → IfOk r (λ answer. answer ≡ a) → IfOk r (λ answer. answer ≡ b)
answers (Ok answer) a b same is = is ∙ same
answers (Err e) a b same is = tt

pub returns-in-Within-clause-answer : goal.returns-in-Within-clause-answer
returns-in-Within-clause-answer g c = λ world names is stands. answers c.found_in.result _ (answer_of world c.args.op.now) (ap (answer_of world) (sym c.in-Within.is)) (c.found_in.ensures.answer (places_of world) names is stands)

pub returns-in-Within-clause-opened : goal.returns-in-Within-clause-opened
returns-in-Within-clause-opened g c world names is stands =
    subst (λ (op : Op). Opens op names world (listed_by (λ answer. answer) c.found_in.result) c.args.steps.now c.found_in.new.steps) (sym c.in-Within.is)
    (box-opens c.in-Within.region (g.I.Index.leaves c.args.index.now) names c.args.steps.now c.found_in.new.steps stands.names_are c.found_in.result c.found_in.ensures.opened c.found_in.ensures.exact)

pub returns-in-Near-clause-answer : goal.returns-in-Near-clause-answer
returns-in-Near-clause-answer g c = λ world names is stands. answers c.near.result _ (answer_of world c.args.op.now) (ap (answer_of world) (sym c.in-Near.is)) (c.near.ensures.answer (places_of world) names is stands)

pub returns-in-Near-clause-opened : goal.returns-in-Near-clause-opened
returns-in-Near-clause-opened g c world names is stands =
    subst (λ (op : Op). Opens op names world (listed_by (λ answer. answer) c.near.result) c.args.steps.now c.near.new.steps) (sym c.in-Near.is) (c.near.ensures.opened world names is stands)
