-- Texts in columns: at the right end or at the left end of so many, with spaces for the rest. A text that has more is left as it is.
use Rattle.std.specs.Prelude.{◌≡◌, List, ◌++◌, ℕ, ◌-◌, ◌≤◌, replicate}
use Rattle.std.proofs.Common.{◌∙◌, arith}
use Rattle.std.proofs.Math.ListN.{length, length-append, length-replicate}

abbrev pub spaces : ℕ → List ℕ
spaces k = replicate k 32

unfoldable pub right : ℕ → List ℕ → List ℕ
right w xs = spaces (w - length xs) ++ xs

unfoldable pub left : ℕ → List ℕ → List ℕ
left w xs = xs ++ spaces (w - length xs)

-- ---- a text that fits fills them
module _ (w : ℕ) (xs : List ℕ) (h : length xs ≤ w) where
  pub length_right : length (right w xs) ≡ w
  unfolding right
  length_right = length-append (spaces (w - length xs)) xs ∙ omega (arith, length-replicate {A = ℕ} (w - length xs) 32)

  pub length_left : length (left w xs) ≡ w
  unfolding left
  length_left = length-append xs (spaces (w - length xs)) ∙ omega (arith, length-replicate {A = ℕ} (w - length xs) 32)
