-- A whole job, for every string of bytes.
--     lengths_of              how much memory is lent
--     HoldsBook, Holds        what lent memory holds of a plain book, or of a plain job, against what was found there (HoldsRules)
--     Ran                     the job was read in order, and each reply is the plain job's
--     RunsThrough, TooLong    what a run of a job printed, and how it ended (EndsInALine); the same of one that is too long
--     Runs                    a run of any job
-- Assumes nothing.
use Rattle.std.specs.Prelude.{◌≡◌, ℕ, ◌⊎◌, ◌<◌, ◌≤◌, true, List, [], ◌∷◌, ◌++◌, length, take, drop, Err, Option, Result, IfOk, IfErr}
use Rattle.std.specs.Io.KnownBytes.{Appends}
use Rattle.kinds.specs.Meaning.{Meaning}
use Rattle.kinds.specs.Lines.{rules_of}
use Rattle.layout.specs.Layout.{laid}
use Rattle.routed.specs.Routed.{routed as routed_kind}
use Rattle.bridge.specs.Bridge.{bridge as bridge_kind}
use Rattle.table.specs.Calls.{Memory, zeros}
use Rattle.records.specs.Records.{Walks}
use Rattle.records.specs.declared.record.Record.{Record}
use Rattle.records.specs.declared.record.CutOff.{CutOff}
use Rattle.records.specs.declared.refusal.Refusal.TheVariants as refused
use Rattle.job.specs.Jobs.{Lent, routed_in, bridge_in, Lives}
use Rattle.job.specs.PlainJobs as plain
use Rattle.job.specs.PlainJobs.{Lengths, PlainBook, PlainJob, Tells}
use Rattle.job.specs.Replies.{reply_text, replies_text, has_line}
use Rattle.job.specs.declared.fault.Fault.TheVariants as fault
use Rattle.job.specs.declared.machine.Machine.{Machine}
use Rattle.job.specs.declared.machine.Machine.TheVariants as job
use Rattle.job.specs.declared.reply.Reply.{Reply}

abbrev pub lengths_of : Lent → Lengths
lengths_of m = record { routed = length m.routed; bridge = length m.bridge; area = length m.area; tally = length m.tally }

-- the first lines hold the book's rules, the others are as they were found, and the area is laid as soon as there is a table
module _ {Header Rule Row : Type 0} (k : Meaning Header Rule Row) (found left : Memory Row) where
  pub record HoldsRules (rules : List (Option Rule)) : Type 0 where
    pub lines : rules_of k (take (length rules) left.lines) ≡ rules
    pub others : drop (length rules) left.lines ≡ drop (length rules) found.lines

  abbrev pub HoldsBook : PlainBook Rule → Type 0
  HoldsBook (plain.opened rules) = HoldsRules rules × (left.area ≡ found.area)
  HoldsBook (plain.laid p) = HoldsRules p.rules × (left.area ≡ laid k p.rules p.bits (length found.area))

module _ (found left : Lent) where
  abbrev pub Holds : PlainJob → Type 0
  Holds plain.unopened = (left.routed ≡ found.routed) × (left.bridge ≡ found.bridge) × (left.area ≡ found.area)
  Holds (plain.routed p) = HoldsBook routed_kind (routed_in found) (routed_in left) p × (left.bridge ≡ found.bridge)
  Holds (plain.bridge p) = HoldsBook bridge_kind (bridge_in found) (bridge_in left) p × (left.routed ≡ found.routed)

  module _ (bytes : List ℕ) where
    -- how far the job was read, and what was replied
    pub record Ran (at : ℕ) (replies : List Reply) : Type 0 where
      pub reads : List (Result Record CutOff)
      pub walked : Walks bytes 0 reads at
      -- memory is as the calls on it left it
      pub machine : Machine
      pub lived : Lives job.Unopened found reads replies machine left
      -- and the plain job says the same
      pub book : PlainJob
      pub tells : Tells (lengths_of found) plain.unopened reads replies book
      pub holds : Holds book
      pub tally : (left.tally ≡ found.tally) ⊎ (left.tally ≡ zeros found.tally)

    -- some replies, of which the last has a line
    abbrev pub EndsInALine : List Reply → Type 0
    EndsInALine replies = (earlier : List Reply) × (last : Reply) × (replies ≡ earlier ++ last ∷ []) × (has_line last ≡ true)

    -- all of it is read and each line printed, unless printing a line fails
    pub record RunsThrough {E : Type 0} (before after : Option (List ℕ)) (result : Result (Unit {0}) E) : Type 0 where
      pub at : ℕ
      pub replies : List Reply
      pub ran : Ran at replies
      pub all : IfOk result (λ _. (at ≡ length bytes) × Appends before after (replies_text replies))
      pub failed : IfErr result (λ _. EndsInALine replies)

    -- a job of more bytes than may be is cut off where it begins, and nothing of it is carried out
    pub record TooLong {E : Type 0} (before after : Option (List ℕ)) (result : Result (Unit {0}) E) : Type 0 where
      pub kept : left ≡ found
      pub told : IfOk result (λ _. Appends before after (reply_text (record { offset = 0; answer = Err (fault.Record refused.CutOff) })))

    pub record Runs {E : Type 0} (before after : Option (List ℕ)) (result : Result (Unit {0}) E) : Type 0 where
      pub short : length bytes ≤ 65536 → RunsThrough before after result
      pub long : 65536 < length bytes → TooLong before after result
