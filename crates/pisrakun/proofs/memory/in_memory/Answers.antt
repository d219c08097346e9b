use Rattle.pisrakun.proofs.memory.in_memory.Goals as goal

pub new-requires-clause-start : goal.new-requires-clause-start
new-requires-clause-start g c = rw (c.without_list.ensures, c.in_ok-book.ensures.3) tt
