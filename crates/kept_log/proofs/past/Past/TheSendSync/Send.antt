-- The entries that only contracts see own nothing, so they may go to any thread.
use denote.Param.Send.{IsSend}
use Rattle.kept_log.specs.contracts.past.Past.{the_row}

pub send : IsSend the_row
send = record { owned = λ d vs. ((λ vss. (tt, tt)), tt); leaving = λ k f vs. tt }
