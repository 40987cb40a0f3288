-- A code, its frozen map, its pairs, and the words of it: 01, "Code and transform"; 02, wishes 6 and 13.
use Rattle.std.specs.Prelude.{Bool, false, not, cond, ◌||◌, List, [], ◌∷◌, ◌++◌, ℕ, zero, suc, ◌+◌, ◌*◌, ◌/◌, ◌^◌, length, take, get_or, eqb}
use Rattle.spec.specs.Bits.{◌⊕◌, unpacked}
use Rattle.spec.specs.Transform.{transform_by, inverse_by}

-- what 01 calls the code: m, whether the transform is Arikan's, and the frozen map and the pairs as bytes
pub record Code : Type 0 where
  pub m : ℕ
  pub arikan : Bool
  pub map : List ℕ
  pub pairs : List ℕ

abbrev pub code : ℕ → Bool → List ℕ → List ℕ → Code
code m arikan map pairs = record { m = m; arikan = arikan; map = map; pairs = pairs }

-- n
abbrev pub size : Code → ℕ
size c = 2 ^ c.m

-- the bytes of a frozen map for n positions
abbrev pub map_bytes : ℕ → ℕ
map_bytes n = (n + 7) / 8

-- a flag for each of the n positions: 1 where it is frozen, 0 where it is clear
unfoldable pub frozen : Code → List ℕ
frozen c = take (size c) (unpacked c.map)

-- how many positions are clear
abbrev pub clear : List ℕ → ℕ
clear [] = 0
clear (zero ∷ fs) = suc (clear fs)
clear (suc f ∷ fs) = clear fs

-- k
abbrev pub payload_size : Code → ℕ
payload_size c = clear (frozen c)

-- ---- a pair (f, e): 02, wish 6. The bit at the frozen position f is the sum of those at all its e.
pub record Pair : Type 0 where
  pub f : ℕ
  pub e : ℕ

abbrev pub pair : ℕ → ℕ → Pair
pair f e = record { f = f; e = e }

-- four bytes a pair: f, then e, low byte first; a part of a pair at the end is none
abbrev pub pairs_in : List ℕ → List Pair
pairs_in [] = []
pairs_in (a ∷ []) = []
pairs_in (a ∷ b ∷ []) = []
pairs_in (a ∷ b ∷ c ∷ []) = []
pairs_in (a ∷ b ∷ c ∷ d ∷ s) = pair (a + 256 * b) (c + 256 * d) ∷ pairs_in s

-- the sum modulo 2 of the bits of w at all e that stand with i; 0 where no pair does
abbrev pub sum_at : List Pair → ℕ → List ℕ → ℕ
sum_at [] i w = 0
sum_at (p ∷ ps) i w = cond (eqb p.f i) (get_or w p.e 0 ⊕ sum_at ps i w) (sum_at ps i w)

-- the bit at the frozen position i of an input that begins with w
unfoldable pub frozen_bit : Code → ℕ → List ℕ → ℕ
frozen_bit c i w = sum_at (pairs_in c.pairs) i w

-- ---- inputs
-- w, gone on over positions with these flags: by the payload's bits at the clear ones in rising order, by its own sum at each frozen one
abbrev pub filled : Code → List ℕ → List ℕ → List ℕ → List ℕ
filled c [] p w = w
filled c (zero ∷ fs) [] w = filled c fs [] (w ++ 0 ∷ [])
filled c (zero ∷ fs) (b ∷ p) w = filled c fs p (w ++ b ∷ [])
filled c (suc f ∷ fs) p w = filled c fs p (w ++ frozen_bit c (length w) w ∷ [])

-- the input of a payload
unfoldable pub input_for : Code → List ℕ → List ℕ
input_for c payload = filled c (frozen c) payload []

-- the bits of an input at the clear positions
abbrev pub gathered : List ℕ → List ℕ → List ℕ
gathered [] u = []
gathered (f ∷ fs) [] = []
gathered (zero ∷ fs) (b ∷ u) = b ∷ gathered fs u
gathered (suc f ∷ fs) (b ∷ u) = gathered fs u

-- from position i on, where the flags are these, some frozen bit of the input u is not the sum that its rule gives
abbrev pub broken_from : Code → List ℕ → ℕ → List ℕ → Bool
broken_from c u i [] = false
broken_from c u i (zero ∷ fs) = broken_from c u (suc i) fs
broken_from c u i (suc f ∷ fs) = not (eqb (get_or u i 0) (frozen_bit c i u)) || broken_from c u (suc i) fs

-- a bit of an input breaks its rule
unfoldable pub broken : Code → List ℕ → Bool
broken c u = broken_from c u 0 (frozen c)

-- ---- words
-- the transform that the code uses
abbrev pub code_transform : Code → List ℕ → List ℕ
code_transform c = transform_by c.arikan c.m

-- the code word of a payload, the input of a word, and the payload of a word
unfoldable pub encoded : Code → List ℕ → List ℕ
encoded c payload = code_transform c (input_for c payload)

unfoldable pub input_of : Code → List ℕ → List ℕ
input_of c word = inverse_by c.arikan c.m word

unfoldable pub extracted : Code → List ℕ → List ℕ
extracted c word = gathered (frozen c) (input_of c word)
