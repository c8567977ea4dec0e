-- What records ask for. Numbers are little-endian, but for addresses and what stands as in a frame.
--     judge_named                          the judge of a number, if there is one
--     octets_at, routed_row, bridge_row    what stands in a body
--     open_body, put_routed_body, put_bridge_body, strike_body, choose_body, look_up_body   what a body of each kind asks for, or why it is refused
--     request_of                           the same for a record: what it asks for, read off its kind and body
-- Assumes nothing.
use Rattle.std.specs.Prelude.{ℕ, ◌+◌, if◌then◌else◌, List, length, Some, None, Ok, Err, Option, Result, ◌==◌, nat_lt, slice_index}
use denote.Ref.{Bor}
use Rattle.kinds.specs.Bytes.{big_endian}
use Rattle.routed.specs.declared.rule.Row.{Row as RoutedRow}
use Rattle.bridge.specs.declared.rule.Row.{Row as BridgeRow}
use Rattle.bridge.specs.declared.octets.Octets.{Octets}
use Rattle.records.specs.Records.{little_endian}
use Rattle.records.specs.declared.record.Record.{Record}
use Rattle.records.specs.declared.judge.NamedJudge.{NamedJudge}
use Rattle.records.specs.declared.judge.NamedJudge.TheVariants.{Largest, Squares}
use Rattle.records.specs.declared.refusal.Refusal.{Refusal}
use Rattle.records.specs.declared.refusal.Refusal.TheVariants.{UnknownKind, BodyLength}
use Rattle.records.specs.declared.request.Request.{Request}
use Rattle.records.specs.declared.request.Request.TheVariants.{OpenRouted, OpenBridge, Put, Strike, Choose, LookUp}
use Rattle.records.specs.declared.request.Row.TheVariants.{Routed, Bridge}

-- 0 and 1 are numbers of judges
abbrev pub judge_named : ℕ → Option NamedJudge
judge_named number = if number == 0 then Some Largest else if number == 1 then Some Squares else None

module _ (body : List ℕ) where
  -- fourteen bytes
  abbrev pub octets_at : ℕ → Octets
  octets_at at = record { first = big_endian body at 8; middle = big_endian body (at + 8) 4; last = big_endian body (at + 12) 2 }

  abbrev pub routed_row : RoutedRow
  routed_row = record {
    source = big_endian body 2 4;
    destination = big_endian body 6 4;
    source_length = slice_index body 10;
    destination_length = slice_index body 11;
    source_low = little_endian body 12 2;
    source_high = little_endian body 14 2;
    destination_low = little_endian body 16 2;
    destination_high = little_endian body 18 2;
    protocol = slice_index body 20;
    mask = slice_index body 21;
  }

  abbrev pub bridge_row : BridgeRow
  bridge_row = record { value = octets_at 2; mask = octets_at 16 }

  -- a line's number, or how many there are
  abbrev pub number_at : ℕ → ℕ
  number_at at = little_endian body at 2

  -- what a body asks for, if it has so many bytes
  abbrev pub of_length : ℕ → Request → Result Request Refusal
  of_length bytes request = if length body == bytes then Ok request else Err BodyLength

  -- the first byte is the kind of a book
  abbrev pub open_body : Result Request Refusal
  open_body =
      if length body == 0 then Err BodyLength
      else if slice_index body 0 == 1 then of_length 3 (OpenRouted (number_at 1))
      else if slice_index body 0 == 2 then of_length 3 (OpenBridge (number_at 1))
      else Err UnknownKind

  abbrev pub put_routed_body : Result Request Refusal
  put_routed_body = of_length 22 (Put (number_at 0) (Routed routed_row))

  abbrev pub put_bridge_body : Result Request Refusal
  put_bridge_body = of_length 30 (Put (number_at 0) (Bridge bridge_row))

  abbrev pub strike_body : Result Request Refusal
  strike_body = of_length 2 (Strike (number_at 0))

  abbrev pub choose_body : Result Request Refusal
  choose_body = of_length 6 (Choose (judge_named (slice_index body 0)) (record { most_bits = slice_index body 1; most_tries = little_endian body 2 4 }))

-- a packet or a frame of at most 2,048 bytes
abbrev pub look_up_body : Bor (List ℕ) → Result Request Refusal
look_up_body body = if nat_lt 2048 (length body.now) then Err BodyLength else Ok (LookUp body)

abbrev pub request_of : Record → Result Request Refusal
request_of this =
    if this.kind == 1 then put_routed_body this.body.now
    else if this.kind == 2 then put_bridge_body this.body.now
    else if this.kind == 3 then strike_body this.body.now
    else if this.kind == 4 then choose_body this.body.now
    else if this.kind == 5 then look_up_body this.body
    else if this.kind == 6 then open_body this.body.now
    else Err UnknownKind
