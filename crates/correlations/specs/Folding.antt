-- The correlations of all sums of some words at once. Each position of a word is put into a bin by which of the words have a 1 there, its
-- column; the bins are then folded half by half, and bin x holds the correlation of the sum that the bits of x name.
use Rattle.std.specs.Prelude.{ℕ, zero, suc, ◌+◌, ◌-◌, ◌%◌, ◌^◌, List, [], ◌∷◌, ◌++◌, length, take, drop, replicate, ℤ, pos, negsuc, ◌+ℤ◌, ◌-ℤ◌}
use Rattle.spec.specs.Transform.{added}
use Rattle.spec.specs.Score.{signed}

-- a signed number as code holds it in 32 bits: modulo 2 ^ 32
unfoldable pub wrapped : ℤ → ℕ
wrapped (pos n) = n % 4294967296
wrapped (negsuc n) = 4294967295 - n % 4294967296

-- two lists, place by place
abbrev pub sums : List ℤ → List ℤ → List ℤ
sums [] v = []
sums (a ∷ u) [] = []
sums (a ∷ u) (b ∷ v) = (a +ℤ b) ∷ sums u v

abbrev pub differences : List ℤ → List ℤ → List ℤ
differences [] v = []
differences (a ∷ u) [] = []
differences (a ∷ u) (b ∷ v) = (a -ℤ b) ∷ differences u v

-- the first h places and those behind them: their sums, then their differences
abbrev pub crossed : ℕ → List ℤ → List ℤ
crossed h zs = sums (take h zs) (drop h zs) ++ differences (take h zs) (drop h zs)

-- 2 ^ r bins, folded: the halves become their sums and their differences, and each is folded
unfoldable pub folded : ℕ → List ℤ → List ℤ
folded zero zs = zs
folded (suc r) zs =
    folded r (sums (take (2 ^ r) zs) (drop (2 ^ r) zs)) ++ folded r (differences (take (2 ^ r) zs) (drop (2 ^ r) zs))

-- z added at place c
abbrev pub add_at : ℕ → ℤ → List ℤ → List ℤ
add_at c z [] = []
add_at zero z (a ∷ s) = (a +ℤ z) ∷ s
add_at (suc c) z (a ∷ s) = a ∷ add_at c z s

-- numbers added at the places that their columns name
abbrev pub binned : List ℕ → List ℤ → List ℤ → List ℤ
binned [] zs s = s
binned (c ∷ cs) [] s = s
binned (c ∷ cs) (z ∷ zs) s = binned cs zs (add_at c z s)

-- soft values, negated where a word has 1
abbrev pub signed_by : List ℤ → List ℕ → List ℤ
signed_by [] w = []
signed_by (y ∷ ys) [] = []
signed_by (y ∷ ys) (b ∷ w) = signed y b ∷ signed_by ys w

-- h more in each column where a word has 1
abbrev pub weighed : ℕ → List ℕ → List ℕ → List ℕ
weighed h [] cs = []
weighed h (b ∷ g) [] = []
weighed h (zero ∷ g) (c ∷ cs) = c ∷ weighed h g cs
weighed h (suc b ∷ g) (c ∷ cs) = (h + c) ∷ weighed h g cs

-- the column of each of n positions: a bit for each word, that of the first word highest
unfoldable pub columns : ℕ → List (List ℕ) → List ℕ
columns n [] = replicate n 0
columns n (g ∷ gs) = weighed (2 ^ length gs) g (columns n gs)

-- w plus each sum of the words, those without the first word before those with it
unfoldable pub spanned : List ℕ → List (List ℕ) → List (List ℕ)
spanned w [] = w ∷ []
spanned w (g ∷ gs) = spanned w gs ++ spanned (added w g) gs
