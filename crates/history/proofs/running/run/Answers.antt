use Rattle.std.proofs.Common.{rules}
use Rattle.table.specs.Refusals.{back}
use Rattle.history.specs.Turns.{priced}
use Rattle.history.proofs.Facts.{facts_of_all}
use Rattle.history.proofs.Made.{run_is}
use Rattle.history.proofs.running.run.Goals as goal

pub returns-in_err-table-clause-facts : goal.returns-in_err-table-clause-facts
returns-in_err-table-clause-facts g c = facts_of_all g.K.Kind.meaning g.met.K.Kind.lawful

pub returns-clause-run : goal.returns-clause-run
returns-clause-run g c =
    run_is g.K.Kind.meaning c.args.book.lines (priced g.J.Judge.cost c.args.asked.now) c.args.lines.now c.args.area.now c.args.tally.now
    g.J.Judge.cost (back c.args.book) c.args.turns.now c.carry_out.new.turns c.carry_out.new.lines c.carry_out.new.area c.carry_out.new.tally
    c.make.new.area c.make.new.tally c.in_ok-table.table c.carry_out.new.table c.in_ok-table.choice
    c.in_ok-table.ensures (search rules) (search rules)

pub returns-clause-facts : goal.returns-clause-facts
returns-clause-facts g c = facts_of_all g.K.Kind.meaning g.met.K.Kind.lawful
