use Rattle.knn_query.proofs.Halvings.{near-as_near}
use Rattle.knn_query.proofs.ranking.halves_at.Goals as goal

pub returns : goal.returns
returns g c =
    let fore = c.halves-fore.result.0 in
    let hind = c.halves-fore.result.1 in
    let names = c.halves-fore.ensures.names in
    let are = c.halves-fore.ensures.ahead in
    record {
      fore = fore;
      hind = hind;
      fore_name = names.0;
      hind_name = names.1;
      fore_is = are.0;
      hind_is = are.1;
      order = c.by_distance.ensures;
      as_near = near-as_near c.args.from c.args.ahead.now fore hind c.args.zero c.args.one c.by_distance.result.0 c.by_distance.result.1 c.requires.room c.requires.ahead names.0 names.1 are.0 are.1 c.by_distance.ensures;
    }
