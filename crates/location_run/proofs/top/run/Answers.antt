use Rattle.std.proofs.Common.{map, refl, ap}
use Rattle.std.specs.String.{string_bytes}
use Rattle.command_words.specs.Asked.{command_of}
use Rattle.location_run.proofs.ChainFacts.{chains-asked}
use Rattle.location_run.proofs.WordsFacts.{keeps-asked}
use Rattle.location_run.proofs.StatusFacts.{usage-accepted}
use Rattle.location_run.proofs.top.run.Goals as goal

pub obey-requires-clause-asked : goal.obey-requires-clause-asked
obey-requires-clause-asked g c κs within = (map string_bytes c.args.words.now, c.in-Some.ensures)

pub returns-in-Some : goal.returns-in-Some
returns-in-Some g c =
    let words = map string_bytes c.args.words.now in
    let command = command_of c.in-Some.command in
    let asks = c.in-Some.ensures in
    let drive = g.D.LogDisk.drive in
    let laws = (g.met.D.LogDisk g.world.𝓛 g.world.𝓜 g.world.𝓡 ((λ s x. x), (λ x. x), (λ x. x), λ x. x)).keeps_laws in
    rw c.outcome_of.ensures.outcome (record {
      usage = usage-accepted words command _ asks c.obey.ensures;
      keeps = keeps-asked words command _ asks c.obey.ensures;
      chain = chains-asked words command _ (ap drive) (ap drive) c.outcome_of.ensures.laws.0 c.outcome_of.ensures.laws.1 (laws c.args.other) asks c.obey.ensures;
    })

pub returns-in-None : goal.returns-in-None
returns-in-None g c =
    let told = c.refuse_on.ensures in
    rw c.outcome_of-in-None.ensures.outcome
    (rw told.drives
    (record {
      usage = record {
        exact = (λ two. c.in-None.ensures, λ none. told.refused.status_is);
        refused = λ two. record { did = record { ends = record { refused = told.refused; disk = refl }; none = told.none; other = refl }; unread = refl };
      };
      keeps = λ command asks. absurd (c.in-None.ensures (command, asks));
      chain = λ command asks. absurd (c.in-None.ensures (command, asks));
    }))
