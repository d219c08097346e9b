-- What a report has changed, and what a batch has.
use Rattle.std.specs.Prelude.{ℕ, suc, List, [], ◌∷◌, ◌++◌, Option, None, option_to_list}
use Rattle.zorder.specs.declared.points.Point.{Point}
use Rattle.plain_list.specs.declared.object_changes.Change.{Change}
use Rattle.plain_list.specs.declared.ops.Op.{Op}
use Rattle.plain_list.specs.declared.ops.Op.TheVariants.{Put, Move}
use Rattle.plain_list.specs.declared.ops.Answer.{Answer}
use Rattle.plain_list.specs.declared.ops.Answer.TheVariants.{Done, Moved}
use Rattle.plain_list.specs.Changes.{change_of}
use Rattle.store_client.specs.declared.answers.Report.{Report}
use Rattle.store_client.specs.declared.answers.Report.TheVariants.{New, From, Stale, Full}

-- What a report with this answer has changed. Its last call has this place, and was a put or a move. The report has
-- changed what that call changed.
abbrev pub report_change : ℕ → ℕ → Point → Report → Option Change
report_change place id at New = change_of place (Put id at 0) Done
report_change place id at (From kept) = change_of place (Move id at 0) (Moved kept)
report_change place id at (Stale kept) = None
report_change place id at Full = None

-- What operations with these answers have changed, in order. So many calls came before them, and their places follow one
-- another.
abbrev pub changes_in : ℕ → List Op → List Answer → List Change
changes_in calls [] answers = []
changes_in calls (op ∷ ops) [] = []
changes_in calls (op ∷ ops) (answer ∷ answers) = option_to_list (change_of (suc calls) op answer) ++ changes_in (suc calls) ops answers
