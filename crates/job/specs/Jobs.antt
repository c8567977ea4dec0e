-- The machine of a job: what each record does, for memory of any content.
--     Lent, lent                   the memory of a job: the lines of each kind, an area and a tally
--     routed_in, bridge_in, own_of the part of it that one kind's book is lent; of that, what is the book's own
--     Serves                       a request to a book, on what is its own
--     OpensRouted, OpensBridge     an opening
--     Steps, AnswersRecord         a request to the machine; a record, by what it asks for (AnswersTo)
--     Replies                      what a reader gives: a record, or the place where the job is cut off
--     Lives                        what a reader gives in order, each with its reply
-- Assumes nothing.
use Rattle.std.specs.Prelude.{◌≡◌, ℕ, List, [], ◌∷◌, take, drop, Ok, Err, Result}
use Rattle.kinds.specs.declared.line.Line.{Line}
use Rattle.kinds.specs.Meaning.{Meaning}
use Rattle.routed.specs.Routed.{routed}
use Rattle.routed.specs.declared.kind.Routed.{Routed}
use Rattle.routed.specs.declared.rule.Row.{Row as RoutedRow}
use Rattle.bridge.specs.Bridge.{bridge}
use Rattle.bridge.specs.declared.kind.Bridge.{Bridge}
use Rattle.bridge.specs.declared.rule.Row.{Row as BridgeRow}
use Rattle.table.specs.Calls.{Memory, memory}
use Rattle.records.specs.Requests.{request_of}
use Rattle.records.specs.declared.record.Record.{Record}
use Rattle.records.specs.declared.record.CutOff.{CutOff}
use Rattle.records.specs.declared.refusal.Refusal.{Refusal}
use Rattle.records.specs.declared.refusal.Refusal.TheVariants as refused
use Rattle.records.specs.declared.request.Request.{Request}
use Rattle.records.specs.declared.request.Request.TheVariants.{OpenRouted, OpenBridge}
use Rattle.job.specs.Readings.{Reading, routed_reading, bridge_reading}
use Rattle.job.specs.Books.{lines_of, IsOpened, Aside, Takes}
use Rattle.job.specs.declared.answer.Answer.{Answer}
use Rattle.job.specs.declared.answer.Answer.TheVariants.{Done}
use Rattle.job.specs.declared.fault.Fault.{Fault}
use Rattle.job.specs.declared.fault.Fault.TheVariants as fault
use Rattle.job.specs.declared.filter.Filter.{Filter}
use Rattle.job.specs.declared.machine.Machine.{Machine}
use Rattle.job.specs.declared.machine.Machine.TheVariants as job
use Rattle.job.specs.declared.reply.Reply.{Reply}

pub record Lent : Type 0 where
  pub routed : List (Line RoutedRow)
  pub bridge : List (Line BridgeRow)
  pub area : List ℕ
  pub tally : List ℕ

abbrev pub lent : List (Line RoutedRow) → List (Line BridgeRow) → (area tally : List ℕ) → Lent
lent routed bridge area tally = record { routed = routed; bridge = bridge; area = area; tally = tally }

-- the memory of a book of so many lines, of all that is lent for its kind
abbrev pub own_of : {Row : Type 0} → ℕ → Memory Row → Memory Row
own_of count lent = memory (take count lent.lines) lent.area lent.tally

-- one of the books of a job, with the lines that are lent for it; the lines behind those of the book stay as they are
module _ {Header Rule Row K : Type 0} (k : Meaning Header Rule Row) (reading : Reading Header Rule Row) where
  pub record Serves (found left : Memory Row) (book : Filter K) (request : Request) (after : Filter K) (answer : Result Answer Fault) : Type 0 where
    pub takes : Takes k (own_of (lines_of book) found) (own_of (lines_of book) left) reading book request after answer
    pub others : drop (lines_of book) left.lines ≡ drop (lines_of book) found.lines

-- the memory of one kind's book
abbrev pub routed_in : Lent → Memory RoutedRow
routed_in m = memory m.routed m.area m.tally

abbrev pub bridge_in : Lent → Memory BridgeRow
bridge_in m = memory m.bridge m.area m.tally

module _ (found left : Lent) where
  abbrev pub OpensRouted : ℕ → Machine → Result Answer Fault → Type 0
  OpensRouted count (job.Routed book) (Ok Done) = IsOpened count found.routed left.routed (Ok book) × (left.bridge ≡ found.bridge) × Aside (routed_in found) (routed_in left)
  OpensRouted count job.Unopened (Err (fault.Table refused)) = IsOpened {K = Routed} count found.routed left.routed (Err refused) × (left.bridge ≡ found.bridge) × Aside (routed_in found) (routed_in left)
  OpensRouted count _ _ = ⊥

  abbrev pub OpensBridge : ℕ → Machine → Result Answer Fault → Type 0
  OpensBridge count (job.Bridge book) (Ok Done) = IsOpened count found.bridge left.bridge (Ok book) × (left.routed ≡ found.routed) × Aside (bridge_in found) (bridge_in left)
  OpensBridge count job.Unopened (Err (fault.Table refused)) = IsOpened {K = Bridge} count found.bridge left.bridge (Err refused) × (left.routed ≡ found.routed) × Aside (bridge_in found) (bridge_in left)
  OpensBridge count _ _ = ⊥

  abbrev pub Steps : Machine → Request → Machine → Result Answer Fault → Type 0
  Steps job.Unopened (OpenRouted count) after answer = OpensRouted count after answer
  Steps job.Unopened (OpenBridge count) after answer = OpensBridge count after answer
  Steps job.Unopened _ after answer = (after ≡ job.Unopened) × (left ≡ found) × (answer ≡ Err fault.OutOfOrder)
  Steps (job.Routed book) request (job.Routed after) answer = Serves routed routed_reading (routed_in found) (routed_in left) book request after answer × (left.bridge ≡ found.bridge)
  Steps (job.Bridge book) request (job.Bridge after) answer = Serves bridge bridge_reading (bridge_in found) (bridge_in left) book request after answer × (left.routed ≡ found.routed)
  Steps _ _ _ _ = ⊥

  abbrev pub AnswersTo : Machine → Result Request Refusal → Machine → Result Answer Fault → Type 0
  AnswersTo machine (Ok request) after answer = Steps machine request after answer
  AnswersTo machine (Err refusal) after answer = (after ≡ machine) × (left ≡ found) × (answer ≡ Err (fault.Record refusal))

  abbrev pub AnswersRecord : Machine → Record → Machine → Result Answer Fault → Type 0
  AnswersRecord machine this = AnswersTo machine (request_of this)

  abbrev pub Replies : Machine → Result Record CutOff → Machine → Reply → Type 0
  Replies machine (Ok this) after reply = (reply.offset ≡ this.offset) × AnswersRecord machine this after reply.answer
  Replies machine (Err cut) after reply = (after ≡ machine) × (left ≡ found) × (reply.offset ≡ cut.offset) × (reply.answer ≡ Err (fault.Record refused.CutOff))

-- what a reader gives in order, each with its reply: from one machine and memory to another
abbrev pub Lives : Machine → Lent → List (Result Record CutOff) → List Reply → Machine → Lent → Type 0
Lives machine m [] [] last left = (last ≡ machine) × (left ≡ m)
Lives machine m (read ∷ reads) (reply ∷ replies) last left = (next : Machine) × (after : Lent) × Replies m after machine read next reply × Lives next after reads replies last left
Lives machine m _ _ last left = ⊥
