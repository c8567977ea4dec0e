use lib.Seq.{map-set}
use Rattle.worked_table.proofs.table.Book.strike.Goals as goal

pub returns-clause-lines : goal.returns-clause-lines
returns-clause-lines g c = rw map-set
