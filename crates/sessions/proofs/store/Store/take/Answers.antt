use Rattle.sessions.proofs.store.Store.take.Goals as goal

pub returns : goal.returns
returns g c =
    let take = c.take.ensures in
    record { entries = take.value.0; origin = take.value.1; later = take.later; took_is = take.pass; off = c.requires.off; alone = take.alone; ends = take.ends; below = take.rises.1 }
