use Rattle.std.proofs.Common.{List, sym, ap, ◌∙◌}
use Rattle.bucket_versions.specs.declared.row.Row.{Row}
use Rattle.bucket_versions.specs.Rows.{Rows, same_rows}
use Rattle.commit_book.proofs.RefusalLemmas.{has_base-named, has_base-none}
use Rattle.commit_book.proofs.book.Book.has_base.Goals as goal

pub returns-in-None : goal.returns-in-None
returns-in-None g c = rw (← c.self.view_is) (sym (has_base-none c.self.inside.table.leaves c.args.name.now c.args.prepared.now.base c.in-None.ensures))

pub returns-in-Some : goal.returns-in-Some
returns-in-Some g c =
    let base : List Row = c.args.prepared.now.base in
    rw (← c.self.view_is)
    (c.is_cut_from.ensures.base ∙ ap (λ (b : Rows). same_rows b.base base) c.deref.ensures
    ∙ sym (has_base-named c.self.inside.table.leaves c.args.name.now base _ c.in-Some.ensures))
