-- Trying the entries of a block one by one: the lowest line that matches, and how many were tried.
use Rattle.std.proofs.Common.{◌≡◌, ℕ, zero, suc, ◌+◌, ◌<◌, ◌≤◌, Bool, true, false, List, ◌∷◌, length, get_or, Some, None, Ok, filter, Option, sym, refl, ap, ◌∙◌, subst, ⊎_elim, arith}
use Rattle.std.specs.List.{range_with_len}
use Rattle.std.proofs.lemmas.List.{get_or_past}
use Rattle.std.proofs.lemmas.Bool.{cases_Bool, cases_lt, cases_order, cond-true, cond-false, both_ways, false≢true}
use Rattle.bits.specs.Chosen.{IsBits}
use Rattle.kinds.specs.Meaning.{Meaning, Lawful}
use Rattle.kinds.specs.Lines.{matches_at, Matches, Lowest}
use Rattle.judges.specs.Costs.{largest}
use Rattle.judges.specs.CostsLemmas.{get_or-largest}
use Rattle.blocks.specs.Cells.{cell_of}
use Rattle.blocks.specs.Blocks.{admits_line, block, sizes}
use Rattle.blocks.proofs.Cells.{admits_own, cell_of_below}
use Rattle.blocks.proofs.Sizes.{length-sizes, get_or-sizes}
use Rattle.layout.specs.LookUp.{try_entry, walked, Walks, FindsLowest}
use Rattle.layout.proofs.Tries.{walks}

module _ {Header Rule Row : Type 0} (k : Meaning Header Rule Row) (rules : List (Option Rule)) (h : Header) where
  -- the lowest line that matches among n lines from a on
  abbrev LowestFrom : ℕ → ℕ → Option ℕ → Type 0
  LowestFrom a n None = (m : ℕ) → a ≤ m → m < a + n → Matches k rules h m → ⊥
  LowestFrom a n (Some l) = Matches k rules h l × ((m : ℕ) → a ≤ m → Matches k rules h m → l ≤ m)

  -- a walk over entries that name lines among n lines from a on, with t tried before
  record Walk (a n t : ℕ) (entries : List ℕ) : Type 0 where
    line : Option ℕ
    tried : ℕ
    answer : walked k rules h t entries ≡ Ok (line, t + tried)
    lowest : LowestFrom a n line
    within : tried ≤ length entries

  lowest_on : (a n : ℕ) (line : Option ℕ) → (Matches k rules h a → ⊥) → LowestFrom (a + 1) n line → LowestFrom a (suc n) line
  lowest_on a n None not_a low = λ m l u match. ⊎_elim (λ e. not_a (subst (Matches k rules h) e match)) (⊎_elim (λ lt. omega arith) (λ gt. low m (omega arith) (omega arith) match)) (cases_order m a)
  lowest_on a n (Some l) not_a low = (low.0, λ m le match. ⊎_elim (λ e. absurd (not_a (subst (Matches k rules h) e match))) (⊎_elim (λ lt. absurd (omega arith)) (λ gt. low.1 m (omega arith) match)) (cases_order m a))

  -- a line that is not in the block
  skipped : (a n t : ℕ) (entries : List ℕ) → (Matches k rules h a → ⊥) → Walk (a + 1) n t entries → Walk a (suc n) t entries
  skipped a n t entries not_a w = record { line = w.line; tried = w.tried; answer = w.answer; lowest = lowest_on a n w.line not_a w.lowest; within = w.within }

  -- an entry whose rule does not match, and one whose rule does
  missed : (a n t : ℕ) (entries : List ℕ) (r : Rule) → get_or rules a None ≡ Some r → k.matches r h ≡ false → Walk (a + 1) n (t + 1) entries → Walk a (suc n) t (a ∷ entries)
  missed a n t entries r is no_match w = record {
    line = w.line;
    tried = w.tried + 1;
    answer = ap (λ o. try_entry k o h (Some a, t + 1) (walked k rules h (t + 1) entries)) is ∙ cond-false (k.matches r h) (Ok (Some a, t + 1)) (walked k rules h (t + 1) entries) no_match ∙ w.answer ∙ ap (λ (n : ℕ). Ok (w.line, n)) (omega arith);
    lowest = lowest_on a n w.line (λ match. both_ways (k.matches r h) no_match (sym (ap (λ o. matches_at k o h) is) ∙ match)) w.lowest;
    within = omega (arith, w.within);
  }

  hit : (a n t : ℕ) (entries : List ℕ) (r : Rule) → get_or rules a None ≡ Some r → k.matches r h ≡ true → Walk a (suc n) t (a ∷ entries)
  hit a n t entries r is match = record {
    line = Some a;
    tried = 1;
    answer = ap (λ o. try_entry k o h (Some a, t + 1) (walked k rules h (t + 1) entries)) is ∙ cond-true (k.matches r h) (Ok (Some a, t + 1)) (walked k rules h (t + 1) entries) match;
    lowest = (ap (λ o. matches_at k o h) is ∙ match, λ m le other. le);
    within = omega arith;
  }

  -- a test that passes filled lines alone, and every line that matches
  module _ (p : ℕ → Bool) (filled : (l : ℕ) → p l ≡ true → (r : Rule) × (get_or rules l None ≡ Some r)) (kept : (l : ℕ) → Matches k rules h l → p l ≡ true) where
    walk : (n a t : ℕ) → Walk a n t (filter p (range_with_len a n))
    walk zero a t = record { line = None; tried = 0; answer = ap (λ (n : ℕ). Ok (None, n)) (omega arith); lowest = λ m l u match. omega arith; within = omega arith }
    walk (suc n) a t = ⊎_elim
        (λ in_it. rw (cond-true (p a) (a ∷ filter p (range_with_len (a + 1) n)) (filter p (range_with_len (a + 1) n)) in_it) (tried_one (filled a in_it).0 (filled a in_it).1 (walk n (a + 1) (t + 1))))
        (λ not_in. rw (cond-false (p a) (a ∷ filter p (range_with_len (a + 1) n)) (filter p (range_with_len (a + 1) n)) not_in) (skipped a n t (filter p (range_with_len (a + 1) n)) (λ match. both_ways (p a) not_in (kept a match)) (walk n (a + 1) t)))
        (cases_Bool (p a))
      where
        tried_one : (r : Rule) → get_or rules a None ≡ Some r → Walk (a + 1) n (t + 1) (filter p (range_with_len (a + 1) n)) → Walk a (suc n) t (a ∷ filter p (range_with_len (a + 1) n))
        tried_one r is w = ⊎_elim (λ match. hit a n t (filter p (range_with_len (a + 1) n)) r is match) (λ no_match. missed a n t (filter p (range_with_len (a + 1) n)) r is no_match w) (cases_Bool (k.matches r h))

module _ {Header Rule Row : Type 0} (k : Meaning Header Rule Row) (law : Lawful k) (rules : List (Option Rule)) (bits : List ℕ) (set : IsBits bits) (h : Header) where
  abbrev cell : ℕ
  cell = cell_of k bits h

  some_admitted : (o : Option Rule) → admits_line k o bits cell ≡ true → (r : Rule) × (o ≡ Some r)
  some_admitted None e = absurd (false≢true e)
  some_admitted (Some r) e = (r, refl)

  -- by the law, a line that matches is in the block of the header's own cell
  kept_own : (o : Option Rule) → matches_at k o h ≡ true → admits_line k o bits cell ≡ true
  kept_own None match = match
  kept_own (Some r) match = admits_own k law r h match bits set

  never_past : (m : ℕ) → length rules ≤ m → Matches k rules h m → ⊥
  never_past m past match = false≢true (sym (ap (λ o. matches_at k o h) (get_or_past rules m None past)) ∙ match)

  lowest_of_all : (line : Option ℕ) → LowestFrom k rules h 0 (length rules) line → Lowest k rules h line
  lowest_of_all None low = λ m match. ⊎_elim (λ lt. low m (omega arith) (omega arith) match) (λ past. never_past m past match) (cases_lt m (length rules))
  lowest_of_all (Some l) low = (low.0, λ m match. low.1 m (omega arith) match)

  size_within : length (block k rules bits cell) ≤ largest (sizes k rules bits)
  size_within =
      let below = cell_of_below k bits h in
      omega (arith, get_or-sizes k rules bits cell below, get_or-largest (sizes k rules bits) cell (omega (arith, length-sizes k rules bits)))

  -- the walk over the block of a header's own cell
  pub answered : FindsLowest k rules bits h (walked k rules h 0 (block k rules bits cell))
  answered =
      let w = walk k rules h (λ l. admits_line k (get_or rules l None) bits cell) (λ l e. some_admitted (get_or rules l None) e) (λ l match. kept_own (get_or rules l None) match) (length rules) 0 0 in
      let answer : walked k rules h 0 (block k rules bits cell) ≡ Ok (w.line, w.tried) = w.answer ∙ ap (λ (n : ℕ). Ok (w.line, n)) (omega arith) in
      let counted = subst (Walks k rules h (block k rules bits cell)) answer (walks k rules h (block k rules bits cell)) in
      subst (FindsLowest k rules bits h) (sym answer) (record { lowest = lowest_of_all w.line w.lowest; counted = counted; few = omega (arith, w.within, size_within) })
