use Rattle.std.proofs.Common.{rules}
use Rattle.std.proofs.lemmas.List.Sorted.{answers_always}
use Rattle.plain_list.proofs.IdSearches.{IsIndexFor-from_search}
use Rattle.plain_list.proofs.searches.index_for.Goals as goal

pub returns : goal.returns
returns c =
    IsIndexFor-from_search c.args.id c.args.members.now c.binary_search_by_key.result c.requires c.binary_search_by_key.ensures.bound
    (c.binary_search_by_key.ensures.position (λ m. m.id) (answers_always _ _ _ (λ f a r g h. search rules)))
