use Rattle.std.proofs.Common.{sym, ap, ◌∙◌, Some}
use Rattle.std.proofs.lemmas.Bool.{true≢false}
use Rattle.zorder.specs.SameName.{same_name-decides}
use Rattle.recovery.proofs.SplitMaps.{found_same}
use Rattle.recovery.proofs.split_map.SplitMap.is_split.Goals as goal

pub returns-clause-yes : goal.returns-clause-yes
returns-clause-yes c is =
    sym c.name.ensures ∙ c.in-Some.is ∙ ap Some ((same_name-decides c.in-Some.found c.args.name.now).0 (sym c.eq.ensures ∙ is))

pub returns-clause-no : goal.returns-clause-no
returns-clause-no c is found =
    let same = found_same c.in-Some.found c.args.name.now _ (sym c.name.ensures ∙ c.in-Some.is) found in
    true≢false (sym ((same_name-decides c.in-Some.found c.args.name.now).1 same) ∙ sym c.eq.ensures ∙ is)
