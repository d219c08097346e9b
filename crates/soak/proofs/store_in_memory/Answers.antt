use Rattle.soak.proofs.store_in_memory.Goals as goal

pub new-requires-clause-start : goal.new-requires-clause-start
new-requires-clause-start c = rw (c.without_list.ensures, c.in-Ok.ensures.3) tt
