-- All cells: nothing is left out where both values are admitted at each bit, and spans leave nothing out.
use Rattle.std.proofs.Common.{◌≡◌, ℕ, ◌^◌, Bool, true, ◌&&◌, ◌||◌, bit_and, leb, List, [], ◌∷◌, filter, length, refl, ap, ap₂, ◌∙◌, arith}
use Rattle.std.specs.List.{range_with_len}
use Rattle.std.proofs.lemmas.Bool.{le-leb}
use Rattle.std.proofs.lemmas.List.Elements.{filter_agree}
use Rattle.kinds.specs.Values.{each, valued, cells_of}
use Rattle.kinds.specs.Spans.{in_span, in_both}
use Rattle.kinds.specs.declared.spans.Span.{Span}

each_any : (asked : List (ℕ × Bool)) → each (λ b v. true) asked ≡ true
each_any [] = refl
each_any (a ∷ asked) = each_any asked

pub filter_all : (xs : List ℕ) → filter (λ x. true) xs ≡ xs
filter_all [] = refl
filter_all (x ∷ xs) = ap (λ (l : List ℕ). x ∷ l) (filter_all xs)

pub all_cells : (bits : List ℕ) → cells_of (each (λ b v. true)) bits ≡ range_with_len 0 (2 ^ length bits)
all_cells bits =
    filter_agree (λ cell. each (λ b v. true) (valued bits cell)) (λ cell. true) (λ cell. each_any (valued bits cell)) (range_with_len 0 (2 ^ length bits))
    ∙ filter_all (range_with_len 0 (2 ^ length bits))

abbrev pub whole : Span
whole = record { digits = 0; from = 0; to = 0; around = true }

pub in_whole : (cell : ℕ) → in_span whole cell ≡ true
in_whole cell = ap (λ (t : Bool). t || leb (bit_and cell 0) 0) (le-leb 0 (bit_and cell 0) (omega arith))

pub whole_cells : (xs : List ℕ) → filter (in_both whole whole) xs ≡ xs
whole_cells xs = filter_agree (in_both whole whole) (λ cell. true) (λ cell. ap₂ (λ (x y : Bool). x && y) (in_whole cell) (in_whole cell)) xs ∙ filter_all xs
