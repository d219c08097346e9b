use Rattle.std.proofs.Common.{◌∙◌, ap, subst, List, ℕ, IfOk}
use Rattle.disk_mem.specs.Pending.{Picks}
use Rattle.disk_mem.specs.Changes.{File}
use Rattle.disk_mem.specs.Recorded.{FileView, changes_of}
use Rattle.disk_mem.proofs.KeptLemmas.{file_by-take}
use Rattle.disk_mem.proofs.recorded.RecordedFile.image.Goals as goal

pub returns : goal.returns
returns c =
    let shown = c.deref-2.ensures.value in
    let same = file_by-take c.args.self.now c.deref.result.now c.deref-3.result.now c.deref-2.result.now c.args.moment (c.deref.ensures.value ∙ ap (λ (v : FileView). v.first) c.self.view_is) (ap (λ (ps : List ℕ). changes_of ps c.deref-2.result.now) c.deref-3.ensures.value ∙ ap (changes_of c.self.inside.pieces.items) shown ∙ ap (λ (v : FileView). v.changes) c.self.view_is) in
    subst (λ (f : File). IfOk c.image_of.result (λ v. Picks f.pending c.args.len c.args.fill.now v.items)) same c.image_of.ensures
