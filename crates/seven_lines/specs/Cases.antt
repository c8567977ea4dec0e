-- Worked cases: what the definitions give for the seven lines.
--     Case       a sort of case, with its numbers
--     to_ports   the numbers of a rule of all packets to some ports
--     Holds      what a case says: that the definitions give these numbers
--     cases      the cases
--     Cases      they all hold
-- Assumes nothing.
use Rattle.std.specs.Prelude.{◌≡◌, ℕ, List, [], ◌∷◌, Some, None, Ok, Option}
use Rattle.std.specs.List.{AllByRecursion}
use Rattle.kinds.specs.Checks.{◌and_then◌}
use Rattle.bridge.specs.Bridge.{bridge}
use Rattle.routed.specs.Routed.{routed, rule_in}
use Rattle.routed.specs.declared.rule.Row.{Row}
use Rattle.judges.specs.Costs.{largest, capped_squares}
use Rattle.blocks.specs.Blocks.{block, cells_naming, sizes, table_size}
use Rattle.layout.specs.Layout.{starts, laid}
use Rattle.layout.specs.LookUp.{looked_up}
use Rattle.seven_lines.specs.Beginnings.{header_beginning}
use Rattle.seven_lines.specs.Seven.{seven, without}

pub data Case : Type 0 where
  -- for some chosen bits: the block of a cell, where the blocks start, how many places the table takes, and the whole area
  block_of : (bits : List ℕ) (cell : ℕ) (lines : List ℕ) → Case
  starts_of : (bits : List ℕ) (numbers : List ℕ) → Case
  size_of : (bits : List ℕ) (places : ℕ) → Case
  area_of : (bits : List ℕ) (room : ℕ) (numbers : List ℕ) → Case
  -- for some chosen bits: what the block sizes cost, by each judge
  largest_of : (bits : List ℕ) (cost : ℕ) → Case
  squares_of : (bits : List ℕ) (cost : ℕ) → Case
  -- with some lines struck: the line that the table for the bits 1 and 2 answers a header that begins with a byte, and the entries tried
  answer_to : (struck : List ℕ) (byte : ℕ) (line : Option ℕ) (tried : ℕ) → Case
  -- for some chosen bits: the cells whose blocks name a line of all packets to the ports from one to another
  cells_of_ports : (low high : ℕ) (bits : List ℕ) (cells : List ℕ) → Case

abbrev pub to_ports : (low high : ℕ) → Row
to_ports low high = record {
  source = 0;
  source_length = 0;
  destination = 0;
  destination_length = 0;
  source_low = 0;
  source_high = 65535;
  destination_low = low;
  destination_high = high;
  protocol = 0;
  mask = 0;
}

abbrev pub Holds : Case → Type 0
Holds (block_of bits cell lines) = block bridge seven bits cell ≡ lines
Holds (starts_of bits numbers) = starts (sizes bridge seven bits) ≡ numbers
Holds (size_of bits places) = table_size bridge seven bits ≡ places
Holds (area_of bits room numbers) = laid bridge seven bits room ≡ numbers
Holds (largest_of bits cost) = largest (sizes bridge seven bits) ≡ cost
Holds (squares_of bits cost) = capped_squares (sizes bridge seven bits) ≡ cost
Holds (answer_to struck byte line tried) =
    looked_up bridge (without struck) (1 ∷ 2 ∷ []) (header_beginning byte) (laid bridge (without struck) (1 ∷ 2 ∷ []) 17) ≡ Ok (line, tried)
Holds (cells_of_ports low high bits cells) = (rule_in (to_ports low high) and_then λ rule. Ok (cells_naming routed (Some rule ∷ []) bits 0)) ≡ Ok cells

abbrev pub cases : List Case
cases =
    starts_of (1 ∷ 2 ∷ []) (0 ∷ 3 ∷ 6 ∷ 9 ∷ 12 ∷ [])
    ∷ block_of (1 ∷ 2 ∷ []) 0 (2 ∷ 5 ∷ 6 ∷ [])
    ∷ block_of (1 ∷ 2 ∷ []) 1 (0 ∷ 2 ∷ 6 ∷ [])
    ∷ block_of (1 ∷ 2 ∷ []) 2 (1 ∷ 5 ∷ 6 ∷ [])
    ∷ block_of (1 ∷ 2 ∷ []) 3 (3 ∷ 4 ∷ 6 ∷ [])
    ∷ size_of (1 ∷ 2 ∷ []) 17
    ∷ area_of (1 ∷ 2 ∷ []) 17 (0 ∷ 3 ∷ 6 ∷ 9 ∷ 12 ∷ 2 ∷ 5 ∷ 6 ∷ 0 ∷ 2 ∷ 6 ∷ 1 ∷ 5 ∷ 6 ∷ 3 ∷ 4 ∷ 6 ∷ [])
    ∷ largest_of (1 ∷ 2 ∷ []) 3
    ∷ squares_of (1 ∷ 2 ∷ []) 36
    ∷ largest_of (0 ∷ 1 ∷ []) 4
    ∷ squares_of (0 ∷ 1 ∷ []) 33
    ∷ answer_to [] 0xE0 (Some 4) 2
    ∷ answer_to [] 0x50 (Some 6) 3
    ∷ answer_to [] 0xA0 (Some 2) 2
    ∷ answer_to (4 ∷ []) 0xE0 (Some 6) 2
    ∷ answer_to (4 ∷ 6 ∷ []) 0xE0 None 1
    ∷ cells_of_ports 1 2 (94 ∷ 95 ∷ []) (1 ∷ 2 ∷ [])
    ∷ []

abbrev pub Cases : Type 0
Cases = AllByRecursion Holds cases
