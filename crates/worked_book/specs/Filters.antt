-- What the filter keeps. Assumes nothing.
--     Stands   the memory is the table's, and the area is the one that laying its lines gives
use Rattle.std.specs.Prelude.{◌≡◌, ℕ, List, length}
use Rattle.kinds.specs.declared.line.Line.{Line}
use Rattle.bridge.specs.Bridge.{bridge}
use Rattle.bridge.specs.declared.rule.Row.{Row}
use Rattle.table.specs.Calls.{laid_for}
use Rattle.table.specs.declared.shape.Shape.{Shape}

pub record Stands (table : Shape) (lines : List (Line Row)) (area : List ℕ) : Type 0 where
  pub lines_long : length lines ≡ table.lines
  pub area_long : length area ≡ table.area
  pub is_laid : area ≡ laid_for bridge table lines area
