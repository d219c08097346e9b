use Rattle.std.proofs.Common.{◌≡◌, ◌≤◌, ◌+◌, ◌*◌, sym, subst, ◌∙◌}
use Rattle.zorder.specs.Distance.{distance, least_distance}
use Rattle.prefix_names.proofs.Nearest.{nearest, nearest-held, distance-nearest, least_distance-le}
use Rattle.prefix_names.proofs.distances.least.Goals as goal

sum_is : (c : goal.After-square-2) → c.square.result + c.square-2.result ≡ least_distance c.args.region.now c.args.from
sum_is c =
    (λ i. c.square.ensures.square i + c.square-2.ensures.square i)
    ∙ (λ i. c.apart-x.ensures i * c.apart-x.ensures i + c.apart-y.ensures i * c.apart-y.ensures i)

pub returns-clause-sum : goal.returns-clause-sum
returns-clause-sum c = sum_is c

pub returns-clause-none_nearer : goal.returns-clause-none_nearer
returns-clause-none_nearer c p held = subst (λ n. n ≤ distance p c.args.from) (sym (sum_is c)) (least_distance-le c.args.region.now c.args.from p held)

pub returns-clause-one_there : goal.returns-clause-one_there
returns-clause-one_there c = (
  nearest c.args.region.now c.args.from,
  nearest-held c.args.region.now c.args.from c.requires,
  distance-nearest c.args.region.now c.args.from c.requires ∙ sym (sum_is c),
)
