use Rattle.pisrakun.proofs.object_store.ObjectStore.pool.Given as goal

abbrev pub ghosts-pool_of : goal.ghosts-pool_of
ghosts-pool_of g a = record { store = a.self.now.pass }
