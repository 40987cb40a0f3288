-- Rows of four: one has a bit past them where a byte is above 15. Assumes nothing.
use Rattle.std.proofs.Common.{◌≡◌, refl, ℕ, suc, ◌<◌, List, [], ◌∷◌, length, get_or, ◌||◌, ltb, ap₂}
use Rattle.std.specs.List.{list_any}
use Rattle.spec.specs.ResultRecord.{some_past}
use Rattle.laws.specs.MapBits.{one_byte}

pub high_rows : (s : List ℕ) → ((i : ℕ) → get_or s i 0 < 256) → list_any (ltb 15) s ≡ some_past 4 (length s) s
unfolding some_past
high_rows [] h = refl
high_rows (x ∷ s) h = ap₂ ◌||◌ (one_byte x (h 0)) (high_rows s (λ i. h (suc i)))
