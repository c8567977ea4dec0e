-- Blocks behind one another: how long they are together, and where each of them lies.
use Rattle.std.proofs.Common.{◌≡◌, ℕ, zero, suc, ◌+◌, ◌<◌, List, [], ◌∷◌, ◌++◌, map, length, get_or, take, drop, sum, sym, refl, ap, ◌∙◌, arith}
use Rattle.std.specs.List.{flat_map}
use Rattle.std.proofs.lemmas.List.{append_assoc, take_at, drop_at, drop-drop}
use Rattle.std.proofs.lemmas.List.Sums.{sum_by-cons, sum-map}
use Rattle.std.proofs.lemmas.List.Concat.{length-flat_map}

pub length_joined : (bs : List (List ℕ)) → length (flat_map (λ b. b) bs) ≡ sum (map length bs)
length_joined bs = length-flat_map (λ b. b) bs ∙ sym (sum-map length bs)

pub drop_past : (b c : List ℕ) (n m : ℕ) → m ≡ length b + n → drop m (b ++ c) ≡ drop n c
drop_past b c n m e = ap (λ x. drop x (b ++ c)) e ∙ sym (drop-drop n (length b) (b ++ c)) ∙ ap (drop n) (drop_at b c (length b) refl)

pub part_joined : (bs : List (List ℕ)) (i : ℕ) (rest : List ℕ) → i < length bs → take (length (get_or bs i [])) (drop (sum (take i (map length bs))) (flat_map (λ b. b) bs ++ rest)) ≡ get_or bs i []
part_joined [] i rest h = absurd (omega arith)
part_joined (b ∷ bs) zero rest h = ap (take (length b)) (append_assoc b (flat_map (λ b. b) bs) rest) ∙ take_at b (flat_map (λ b. b) bs ++ rest) (length b) refl
part_joined (b ∷ bs) (suc i) rest h =
    ap (λ x. take (length (get_or bs i [])) (drop (sum (length b ∷ take i (map length bs))) x)) (append_assoc b (flat_map (λ b. b) bs) rest)
    ∙ ap (take (length (get_or bs i []))) (drop_past b (flat_map (λ b. b) bs ++ rest) (sum (take i (map length bs))) (sum (length b ∷ take i (map length bs))) (sum_by-cons (λ x. x) (length b) (take i (map length bs))))
    ∙ part_joined bs i rest (omega arith)
