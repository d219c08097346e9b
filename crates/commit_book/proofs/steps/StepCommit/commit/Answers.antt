use Rattle.std.proofs.Common.{[], ◌∷◌, ◌++◌, ◌-◌, refl, subst, ◌∙◌}
use Rattle.plain_list.specs.declared.entries.Entry.TheVariants.{Fail}
use Rattle.kept_log.specs.Journal.{KeepsIn}
use Rattle.commit_book.specs.Steps.{entry_of}
use Rattle.commit_book.proofs.steps.StepCommit.commit.Goals as goal

pub returns-in-Err-clause-lost : goal.returns-in-Err-clause-lost
returns-in-Err-clause-lost g c = λ _.
    let drive = g.D.LogDisk.drive in
    let step = c.args.self.now.lost in
    let before = c.args.self.now.history.now in
    let missed = c.in-Err.ensures.lost in
    let new = c.append.new.self in
    record {
      same = record { history = refl; journal = refl };
      ends = record {
        events = c.push-in-Err.ensures ∙ (λ i. record before { entries = before.entries ++ Fail (missed.named i) step ∷ []; room = before.room - 1 });
        keeps = λ w s is kept.
            subst (λ n. KeepsIn drive w s (before.entries ++ Fail n step ∷ []) new) missed.named
            (missed.keeps w s before.entries (entry_of step) step (record { legal = is.legal; cells = is.cells ∙ c.in-Some.ensures }) c.in-Some.ensures kept);
        any_moment = λ w s is kept. c.append.ensures.any_moment w s before.entries (entry_of step) (record { legal = is.legal; cells = is.cells ∙ c.in-Some.ensures }) kept;
        since = c.append.ensures.since;
      };
      written = missed.written;
      rose = missed.rose;
    }
