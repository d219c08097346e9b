use Rattle.sessions.specs.Shared.{origin_of}
use Rattle.commit_book.specs.BookView.{BookView}
use Rattle.plain_list.specs.History.{world_after}
use Rattle.plain_list.specs.World.{IsWorld}
use Rattle.plain_list.specs.declared.entries.Entry.{Entry}
use Rattle.std.proofs.Common.{List, false, [], ◌∙◌, ap, subst, sym}
use Rattle.sessions.proofs.store.Store.new.Goals as goal

pub new-requires : goal.new-requires
new-requires g c = ap (λ (b : BookView g.row.D.Denot). b.entries) c.in_ok-shared.ensures.ok ∙ c.requires.entries

pub of-requires-clause-world : goal.of-requires-clause-world
of-requires-clause-world g c = subst (λ (h : List Entry). IsWorld (world_after c.args.book.opening.world h)) (sym c.requires.entries) c.requires.world

pub returns-in-Err : goal.returns-in-Err
returns-in-Err g c = record { store = tt; back = c.into_book.ensures.book ∙ c.in-Err.ensures.back ∙ c.in_ok-shared.ensures.ok }

pub returns-in-Ok : goal.returns-in-Ok
returns-in-Ok g c = record {
  store = c.in-Ok.ensures.lock ∙ (λ i. record { lock = c.in-Ok.lock; seen = []; own = []; origin = origin_of g.D.LogDisk.drive (c.in_ok-shared.ensures.ok i); parts = 65536; holds = false });
  back = tt;
}
