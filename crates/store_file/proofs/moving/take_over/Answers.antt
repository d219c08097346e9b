use Rattle.std.proofs.Common.{◌≡◌, ◌∙◌, Some, sym}
use Rattle.kept_log.specs.Journal.{log_in}
use Rattle.store_file.proofs.MovingFacts.{log-good}
use Rattle.store_file.proofs.moving.take_over.Goals as goal

pub clear_log-requires : goal.clear_log-requires
clear_log-requires g c =
    let view : log_in c.args.book.now.log ≡ Some c.unwrap.result = sym c.in-Ok.ensures.ok.1 ∙ c.unwrap.ensures in
    record { whole = log-good g.D.LogDisk.drive g.I.Index.WIDTH c.args.book.now c.move_log.ensures.book.before c.requires.open c.unwrap.result view }

pub returns-in-Ok-clear_log-clause-taken : goal.returns-in-Ok-clear_log-clause-taken
returns-in-Ok-clear_log-clause-taken g c =
    let view : log_in c.args.book.now.log ≡ Some c.unwrap.result = sym c.in-Ok.ensures.ok.1 ∙ c.unwrap.ensures in
    record {
      new_is = c.in-Ok.ensures.moved;
      books = c.move_log.ensures.book;
      leaves = record { view = c.unwrap.result; view_is = view; came = c.in-Ok-clear_log.ensures.cleared; keeps = c.in-Ok-clear_log.ensures.any_moment };
    }

pub returns-in-Err-clear_log-clause-not : goal.returns-in-Err-clear_log-clause-not
returns-in-Err-clear_log-clause-not g c =
    let view : log_in c.args.book.now.log ≡ Some c.unwrap.result = sym c.in-Ok.ensures.ok.1 ∙ c.unwrap.ensures in (
      c.move_log.new.self,
      record {
        new_is = c.in-Ok.ensures.moved;
        books = c.move_log.ensures.book;
        leaves = record { view = c.unwrap.result; view_is = view; came = c.in-Err-clear_log.ensures.failed; keeps = c.in-Err-clear_log.ensures.any_moment };
      },
      c.stop.ensures,
    )
