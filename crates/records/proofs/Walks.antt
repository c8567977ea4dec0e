-- The records of a job follow one another, and a place of a job is read in one way.
use Rattle.std.proofs.Common.{◌≡◌, ℕ, ◌+◌, ◌<◌, true, ltb, inl, inr, List, [], ◌∷◌, ◌++◌, length, Some, Ok, Err, Result, sym, refl, ap, ◌∙◌, subst, arith}
use Rattle.std.specs.List.{slice_range}
use Rattle.std.proofs.lemmas.Bool.{ltb-true, or_cases}
use Rattle.records.specs.Records.{little_endian, is_cut_off, Is, Reads, Walks}
use Rattle.records.specs.declared.record.Record.{Record}
use Rattle.records.specs.declared.record.CutOff.{CutOff}

-- two readings that say the same: only where their bytes lie in memory may differ
abbrev pub Alike : Result Record CutOff → Result Record CutOff → Type 0
Alike (Ok this) (Ok other) = (other.offset ≡ this.offset) × (other.kind ≡ this.kind) × (other.body.now ≡ this.body.now)
Alike (Err cut) (Err other) = other.offset ≡ cut.offset
Alike _ _ = ⊥

module _ (job : List ℕ) where
  -- one record more
  pub walks_more : (at middle end : ℕ) (reads : List (Result Record CutOff)) (read : Result Record CutOff) → Walks job at reads middle → Reads job middle (Some read) end → Walks job at (reads ++ read ∷ []) end
  walks_more at middle end [] read walked reads = (end, subst (λ (n : ℕ). Reads job n (Some read) end) walked reads, refl)
  walks_more at middle end (first ∷ behind) read walked reads = (walked.0, walked.1, walks_more walked.0 middle end behind read walked.2 reads)

  -- a reader that reads is inside the job
  pub reads_on : (at next : ℕ) (read : Result Record CutOff) → Reads job at (Some read) next → at < length job
  reads_on at next (Ok this) reads = omega (arith, reads.ends, reads.inside)
  reads_on at next (Err cut) reads = reads.0

  -- a record that ends inside the job is not cut off
  whole : (at end : ℕ) (this : Record) → Is job at this end → is_cut_off job at ≡ true → ⊥
  whole at end this is cut = elim (or_cases (ltb (length job) (at + 4)) (ltb (length job) (at + 4 + little_endian job at 2)) cut) [
    | inl head ↦ omega (arith, ltb-true (length job) (at + 4) head, is.ends, is.inside)
    | inr body ↦ omega (arith, ltb-true (length job) (at + 4 + little_endian job at 2) body, is.long, is.ends, is.inside)
  ]

  -- a place is read in one way
  pub reads_alike : (at next other_next : ℕ) (read other : Result Record CutOff) → Reads job at (Some read) next → Reads job at (Some other) other_next → (other_next ≡ next) × Alike read other
  reads_alike at next other_next (Ok this) (Ok other) one two =
      let ends : other_next ≡ next = omega (arith, one.ends, two.ends, one.long, two.long) in
      (ends, (two.offset ∙ sym one.offset, two.kind ∙ sym one.kind, two.body ∙ ap (slice_range job (at + 4)) ends ∙ sym one.body))
  reads_alike at next other_next (Ok this) (Err other) one two = absurd (whole at next this one two.1.0)
  reads_alike at next other_next (Err cut) (Ok other) one two = absurd (whole at other_next other two one.1.0)
  reads_alike at next other_next (Err cut) (Err other) one two = (two.2 ∙ sym one.2, two.1.1 ∙ sym one.1.1)
