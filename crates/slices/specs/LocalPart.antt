-- A local array of 1,024 places, of which the first n are lent, and the array once what was written there is back.
use Rattle.std.specs.Prelude.{◌≡◌, List, ◌++◌, ℕ, ◌≤◌, length, take, drop, replicate}
use Rattle.std.proofs.Common.{ap, ◌∙◌, arith, length-append, take_at, length-take-le}

module _ {A : Type 0} (z : A) (n : ℕ) (h : n ≤ 1024) where
  -- the part that is lent
  pub lent_long : length (take n (replicate 1024 z)) ≡ n
  lent_long = length-take-le n (replicate 1024 z) h

  module _ (w : List A) (kept : length w ≡ length (take n (replicate 1024 z))) where
    written_long : length w ≡ n
    written_long = kept ∙ lent_long

    -- the array reaches as far as the part, and begins with what was written to it
    pub part_inside : n ≤ length (w ++ drop n (replicate 1024 z))
    part_inside = omega (arith, length-append w (drop n (replicate 1024 z)), written_long)

    pub part_is : take n (w ++ drop n (replicate 1024 z)) ≡ w
    part_is = take_at w (drop n (replicate 1024 z)) n written_long

    pub part_long : length (take n (w ++ drop n (replicate 1024 z))) ≡ n
    part_long = ap length part_is ∙ written_long
