-- Lines with one of them replaced are as many.
use Rattle.std.proofs.Common.{◌≡◌, List, Some, None, Option, length, refl}
use Rattle.std.proofs.lemmas.List.{length-set}
use Rattle.kinds.specs.declared.line.Line.{Line}
use Rattle.blocks.specs.Changes.{changed}
use Rattle.blocks.specs.declared.change.Change.{Change}

pub length-changed : {Row : Type 0} (change : Option (Change Row)) (lines : List (Line Row)) → length (changed change lines) ≡ length lines
length-changed None lines = refl
length-changed (Some change) lines = length-set lines change.place change.line
