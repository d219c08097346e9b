use Rattle.index_layer.proofs.index.Index.put_row.Goals as goal

pub returns-clause-ok : goal.returns-clause-ok
returns-clause-ok g c = c.in_ok-index.ensures
