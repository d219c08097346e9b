use Rattle.std.proofs.Common.{◌∙◌, ap, take}
use Rattle.std.proofs.lemmas.Result.{IfOk-weaker}
use Rattle.index_view.proofs.view.View.many_over.Goals as goal

pub returns : goal.returns
returns g c places names are_places stands =
    IfOk-weaker c.first_of.result _ _ (λ list h. h ∙ ap (take c.args.k) (c.browse.ensures.objects places names are_places stands)) c.first_of.ensures
