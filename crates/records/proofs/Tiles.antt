-- The records of a job, laid end to end, are the job.
use Rattle.std.proofs.Common.{◌≡◌, ℕ, ◌+◌, ◌≤◌, List, [], ◌∷◌, ◌++◌, length, drop, append_assoc, append-nil, Ok, Err, Result, sym, refl, ap, ap₂, ◌∙◌, arith}
use Rattle.std.specs.List.{flat_map, slice_range}
use Rattle.std.proofs.lemmas.List.Folds.{drop_split}
use Rattle.std.proofs.Math.Seq.{drop-length}
use Rattle.records.proofs.Walks.{reads_on}
use Rattle.records.specs.Records.{Is, Walks, bytes_of, PartsTile}
use Rattle.records.specs.declared.record.Record.{Record}
use Rattle.records.specs.declared.record.CutOff.{CutOff}

module _ (job : List ℕ) where
  -- behind a record that is cut off nothing is read
  nothing_behind : (at : ℕ) (reads : List (Result Record CutOff)) → Walks job at reads (length job) → at ≡ length job → flat_map (bytes_of job) reads ≡ []
  nothing_behind at [] walked end = refl
  nothing_behind at (read ∷ behind) walked end = absurd (omega (arith, reads_on job at walked.0 read walked.1))

  -- from any place on they are the rest of the job
  rest_tiles : (at : ℕ) (reads : List (Result Record CutOff)) → Walks job at reads (length job) → at ≤ length job → flat_map (bytes_of job) reads ≡ drop at job
  rest_tiles at [] walked inside = sym (drop-length job) ∙ ap (λ (n : ℕ). drop n job) walked
  rest_tiles at (Ok this ∷ behind) walked inside =
      let is : Is job at this walked.0 = walked.1 in
      let rest : flat_map (bytes_of job) behind ≡ drop walked.0 job = rest_tiles walked.0 behind walked.2 is.inside in
      ap (λ (n : ℕ). slice_range job n (n + 4) ++ this.body.now ++ flat_map (bytes_of job) behind) is.offset
      ∙ ap₂ (λ (body rest : List ℕ). slice_range job at (at + 4) ++ body ++ rest) is.body rest
      ∙ append_assoc (slice_range job at (at + 4)) (slice_range job (at + 4) walked.0) (drop walked.0 job)
      ∙ ap (λ l. slice_range job at (at + 4) ++ l) (sym (drop_split job (at + 4) walked.0 (omega (arith, is.ends))))
      ∙ sym (drop_split job at (at + 4) (omega arith))
  rest_tiles at (Err cut ∷ behind) walked inside =
      ap₂ (λ (n : ℕ) (rest : List ℕ). drop n job ++ rest) walked.1.1.1 (nothing_behind walked.0 behind walked.2 walked.1.2)
      ∙ append-nil (drop at job)

pub parts_tile : PartsTile
parts_tile job reads walked = rest_tiles job 0 reads walked (omega arith)
