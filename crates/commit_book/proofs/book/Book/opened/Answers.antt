use Rattle.std.proofs.Common.{sym, subst}
use Rattle.index_build.specs.Grown.{IsGrown}
use Rattle.commit_book.proofs.FoundStates.{found-grown}
use Rattle.commit_book.proofs.book.Book.opened.Goals as goal

pub built-requires : goal.built-requires
built-requires g c =
    subst (IsGrown g.I.Index.WIDTH) (sym c.as_slice-leaves.ensures) (found-grown _ g.I.Index.WIDTH _ _ c.args.opened.seen c.requires.found)
