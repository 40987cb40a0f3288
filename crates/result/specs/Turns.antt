-- The loop that copies the scores of a record, as a law of lists: the last of them. Assumes nothing.
use Rattle.std.specs.Prelude.{◌≡◌, List, [], ◌∷◌, ◌++◌, ℕ, zero, suc, ◌+◌, ◌*◌, ℤ}
use Rattle.std.proofs.Common.{ap, ◌∙◌, arith}
use Rattle.spec.specs.Record.{four_at, signed32}
use Rattle.spec.specs.ResultRecord.{scores_from}

pub scores_more : (s : List ℕ) (at n : ℕ) → scores_from s at (suc n) ≡ scores_from s at n ++ (signed32 (four_at s (at + 4 * n)) ∷ [])
unfolding scores_from
scores_more s at zero = let e : at + 4 * 0 ≡ at = omega arith in rw e
scores_more s at (suc n) =
    let e : at + 4 + 4 * n ≡ at + 4 * suc n = omega arith in
    ap (λ (l : List ℤ). signed32 (four_at s at) ∷ l)
    (scores_more s (at + 4) n ∙ ap (λ (k : ℕ). scores_from s (at + 4) n ++ (signed32 (four_at s k) ∷ [])) e)
