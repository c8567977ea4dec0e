-- A reader, by what contracts say of it.
--     job_of     the bytes of its job
--     place_of   where it goes on in them
-- Assumes nothing.
use Rattle.std.specs.Prelude.{ℕ, List}
use Rattle.records.specs.declared.reader.Reader.{Reader}

abbrev pub job_of : Reader → List ℕ
job_of reader = reader.job.now

abbrev pub place_of : Reader → ℕ
place_of reader = reader.at
