-- What correlating takes: 2 ^ r bins, h the half of them; a column below 2 ^ r and a bit for each soft value, and no soft value out of range.
use Rattle.std.specs.Prelude.{◌≡◌, ℕ, ◌/◌, ◌^◌, ◌<◌, false, List, length, ℤ}
use Rattle.spec.specs.Faults.{some}
use Rattle.spec.specs.Refusals.{out_of_range}
use Rattle.laws.specs.ListCost.{All}

pub record CorrelateFits (r h : ℕ) (bins cols word : List ℕ) (soft : List ℤ) : Type 0 where
  pub bins_long : length bins ≡ 2 ^ r
  pub half : h ≡ 2 ^ r / 2
  pub cols_long : length cols ≡ length soft
  pub word_long : length word ≡ length soft
  pub cols_below : All (λ (c : ℕ). c < 2 ^ r) cols
  pub in_range : some out_of_range soft ≡ false
