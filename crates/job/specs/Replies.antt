-- What is printed: every byte of each line.
--     reply_text    the line of a reply; nothing where something was only done
--     replies_text  the lines of some replies
--     has_line      whether a reply has a line (is_told)
-- Assumes nothing.
use Rattle.std.specs.Prelude.{ℕ, Bool, true, false, List, [], ◌++◌, length, Some, None, Ok, Err, Option, Result, codes, flat_map}
use Rattle.std.specs.Fmt.{decimal}
use Rattle.kinds.specs.Codes.{code_text}
use Rattle.choice.specs.Outcomes.{outcome_text}
use Rattle.job.specs.Faults.{code_of}
use Rattle.job.specs.declared.answer.Answer.{Answer}
use Rattle.job.specs.declared.answer.Answer.TheVariants.{Done, Chosen, Found}
use Rattle.job.specs.declared.fault.Fault.{Fault}
use Rattle.job.specs.declared.reply.Reply.{Reply}

abbrev pub line_text : Option ℕ → List ℕ
line_text (Some line) = decimal line
line_text None = codes "none"

abbrev pub answer_text : (offset : ℕ) → Result Answer Fault → List ℕ
answer_text offset (Ok Done) = []
answer_text offset (Ok (Chosen choice)) = codes "bits " ++ decimal (length choice.bits) ++ codes " tries " ++ decimal choice.tries ++ codes " " ++ outcome_text choice.outcome ++ codes "\n"
answer_text offset (Ok (Found line tried)) = line_text line ++ codes " " ++ decimal tried ++ codes "\n"
answer_text offset (Err fault) = codes "refused " ++ code_text (code_of fault) ++ codes " at " ++ decimal offset ++ codes "\n"

abbrev pub is_told : Result Answer Fault → Bool
is_told (Ok Done) = false
is_told _ = true

abbrev pub reply_text : Reply → List ℕ
reply_text reply = answer_text reply.offset reply.answer

abbrev pub replies_text : List Reply → List ℕ
replies_text = flat_map reply_text

-- all but what was only done
abbrev pub has_line : Reply → Bool
has_line reply = is_told reply.answer
