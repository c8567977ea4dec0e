use Rattle.std.proofs.Common.{refl}
use Rattle.table.specs.Refusals.{back}
use Rattle.history.specs.Turns.{priced}
use Rattle.history.specs.Runs.{numbers_of}
use Rattle.history.proofs.Made.{makes, makes_anyway}
use Rattle.history.proofs.running.make.Goals as goal

pub returns-in-Ok : goal.returns-in-Ok
returns-in-Ok g c =
    makes g.K.Kind.meaning c.args.book.lines (priced g.J.Judge.cost c.args.asked.now) c.args.lines.now c.args.area.now c.args.tally.now
    (λ made. (made.0.shape, made.1)) (back c.args.book) c.measure.new.tally (c.in_ok-measured.measured, c.in_ok-measured.choice) c.in_ok-measured.ensures
    (λ table. table.shape) (back c.in_ok-measured.measured) c.lay.new.area c.lay.new.tally numbers_of (back c.args.book) c.in-Ok.table (c.in-Ok.table, c.in_ok-measured.choice) refl c.in-Ok.ensures

pub returns-in-Err : goal.returns-in-Err
returns-in-Err g c =
    makes_anyway g.K.Kind.meaning c.args.book.lines (priced g.J.Judge.cost c.args.asked.now) c.args.lines.now c.args.area.now c.args.tally.now
    (λ made. (made.0.shape, made.1)) (back c.args.book) c.measure.new.tally (c.in_ok-measured.measured, c.in_ok-measured.choice) c.in_ok-measured.ensures
    (λ table. table.shape) (back c.in_ok-measured.measured) c.lay.new.area c.lay.new.tally c.in-Err.field-0 c.in-Err.ensures
