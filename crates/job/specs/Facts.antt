-- What holds of every plain job.
--     NamesLowest     an answer that names the lowest filled line whose rule matches, or none exactly when there is none
--     FindsInBook     a record that looks up a packet gets such an answer from a laid table, whatever came before it
--     LooksUpLowest  the same in a job of either kind
--     OneAnswer       a job is replied to in one way, and leaves one plain job
-- Assumes nothing.
use Rattle.std.specs.Prelude.{◌≡◌, ℕ, List, length, Ok, Option, Result}
use Rattle.std.specs.Borrow.{Bor}
use Rattle.kinds.specs.Meaning.{Meaning}
use Rattle.kinds.specs.Lines.{Lowest}
use Rattle.routed.specs.Routed.{routed as routed_kind}
use Rattle.bridge.specs.Bridge.{bridge as bridge_kind}
use Rattle.history.specs.Plain.{Plain}
use Rattle.records.specs.Records.{Walks}
use Rattle.records.specs.Requests.{request_of}
use Rattle.records.specs.declared.record.Record.{Record}
use Rattle.records.specs.declared.record.CutOff.{CutOff}
use Rattle.records.specs.declared.request.Request.TheVariants.{LookUp}
use Rattle.job.specs.Readings.{Reading, routed_reading, bridge_reading}
use Rattle.job.specs.PlainJobs.{Lengths, PlainBook, laid, PlainJob, unopened, routed, bridge, Says, Tells}
use Rattle.job.specs.declared.answer.Answer.{Answer}
use Rattle.job.specs.declared.answer.Answer.TheVariants.{Found}
use Rattle.job.specs.declared.fault.Fault.{Fault}
use Rattle.job.specs.declared.reply.Reply.{Reply}

module _ {Header Rule Row : Type 0} (k : Meaning Header Rule Row) where
  abbrev pub NamesLowest : List (Option Rule) → Header → Result Answer Fault → Type 0
  NamesLowest rules header (Ok (Found line tried)) = Lowest k rules header line
  NamesLowest rules header _ = ⊥

  abbrev pub FindsInBook : Reading Header Rule Row → (PlainBook Rule → PlainJob) → Type 0
  FindsInBook reading of =
      (m : Lengths) (table : Plain Rule) (this : Record) (packet : Bor (List ℕ)) (header : Header) (reply : Reply) (after : PlainJob)
      → request_of this ≡ Ok (LookUp packet) → reading.header_of packet.now ≡ Ok header
      → Says m (of (laid table)) (Ok this) reply after
      → NamesLowest table.rules header reply.answer

abbrev pub LooksUpLowest : Type 0
LooksUpLowest = FindsInBook routed_kind routed_reading routed × FindsInBook bridge_kind bridge_reading bridge

-- by the bytes of a job, all of which are read
abbrev pub OneAnswer : Type 0
OneAnswer =
    (m : Lengths) (job : List ℕ) (reads other_reads : List (Result Record CutOff)) (replies others : List Reply) (p q : PlainJob)
    → Walks job 0 reads (length job) → Tells m unopened reads replies p
    → Walks job 0 other_reads (length job) → Tells m unopened other_reads others q
    → (others ≡ replies) × (q ≡ p)
