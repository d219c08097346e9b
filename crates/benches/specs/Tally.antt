-- The one entry that a tally counts.
use Rattle.plain_list.specs.declared.entries.Entry.{Entry}
use Rattle.plain_list.specs.declared.entries.Entry.TheVariants.{Call}
use Rattle.plain_list.specs.declared.ops.Op.TheVariants.{Find}

abbrev pub one_find : Entry
one_find = Call 1 1 (Find 7)
