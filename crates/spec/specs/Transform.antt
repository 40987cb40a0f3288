-- The two transforms. That of a convolutional polar code: 01, "Code and transform"; source document 002, (2) and (4). Arikan's: 02, wish 13;
-- source documents 000 and 004.
use Rattle.std.specs.Prelude.{Bool, cond, List, [], ◌∷◌, ◌++◌, ℕ, zero, suc, ◌^◌, take, drop}
use Rattle.spec.specs.Bits.{◌⊕◌, bits_of, packed}

-- The inputs a and b of the two transforms of half the length.
-- For a word u of even length: a_i = u_2i + u_2i+1 + u_2i+2 and b_i = u_2i+1 + u_2i+2, where a u past the end is 0.
-- For a prefix of odd length 2i + 1: the i entries of a and of b that it determines.
abbrev pub input_a : List ℕ → List ℕ
input_a [] = []
input_a (x ∷ []) = []
input_a (x ∷ y ∷ []) = (x ⊕ y) ∷ []
input_a (x ∷ y ∷ z ∷ r) = (x ⊕ (y ⊕ z)) ∷ input_a (z ∷ r)

abbrev pub input_b : List ℕ → List ℕ
input_b [] = []
input_b (x ∷ []) = []
input_b (x ∷ y ∷ []) = y ∷ []
input_b (x ∷ y ∷ z ∷ r) = (y ⊕ z) ∷ input_b (z ∷ r)

module _ {ℓ} {A : Type ℓ} where
  -- p at the even places, q at the odd ones
  abbrev pub interleave : List A → List A → List A
  interleave [] q = []
  interleave (a ∷ p) [] = []
  interleave (a ∷ p) (b ∷ q) = a ∷ b ∷ interleave p q

  -- what stands at the even places, and at the odd ones
  abbrev pub evens : List A → List A
  evens [] = []
  evens (x ∷ []) = x ∷ []
  evens (x ∷ y ∷ r) = x ∷ evens r

  abbrev pub odds : List A → List A
  odds [] = []
  odds (x ∷ []) = []
  odds (x ∷ y ∷ r) = y ∷ odds r

-- the convolutional transform of a word of 2 ^ m bits
unfoldable pub transform : ℕ → List ℕ → List ℕ
transform zero u = u
transform (suc m) u = interleave (transform m (input_a u)) (transform m (input_b u))

-- the word u whose a and b these are, from its end: u_2i = a_i + b_i and u_2i+1 = b_i + u_2i+2
abbrev pub first_bit : List ℕ → ℕ
first_bit [] = 0
first_bit (x ∷ w) = x

abbrev pub joined : List ℕ → List ℕ → List ℕ
joined [] bs = []
joined (a ∷ as') [] = []
joined (a ∷ as') (b ∷ bs) = (a ⊕ b) ∷ (b ⊕ first_bit (joined as' bs)) ∷ joined as' bs

-- the word whose transform this is
unfoldable pub inverse : ℕ → List ℕ → List ℕ
inverse zero c = c
inverse (suc m) c = joined (inverse m (evens c)) (inverse m (odds c))

-- 02, wish 4: the constant table of 16 entries, for length 4: bit i of the index is u_i, bit j of the entry is c_j
unfoldable pub table_entry : ℕ → ℕ
table_entry x = packed (transform 2 (bits_of 4 x))

-- ---- Arikan's transform
-- the sum of two words, place by place
abbrev pub added : List ℕ → List ℕ → List ℕ
added [] w = []
added (x ∷ v) [] = []
added (x ∷ v) (y ∷ w) = (x ⊕ y) ∷ added v w

-- of a word of 2 ^ m bits: its halves v and w give the transform of v + w, then that of w; length 1 is itself
unfoldable pub arikan_transform : ℕ → List ℕ → List ℕ
arikan_transform zero u = u
arikan_transform (suc m) u =
    let v : List ℕ = take (2 ^ m) u in
    let w : List ℕ = drop (2 ^ m) u in
    arikan_transform m (added v w) ++ arikan_transform m w

-- the word whose transform this is: its halves are the transforms of v + w and of w
unfoldable pub arikan_inverse : ℕ → List ℕ → List ℕ
arikan_inverse zero c = c
arikan_inverse (suc m) c =
    let a : List ℕ = arikan_inverse m (take (2 ^ m) c) in
    let w : List ℕ = arikan_inverse m (drop (2 ^ m) c) in
    added a w ++ w

-- ---- the choice: Arikan's (arikan) or the convolutional one, and its inverse
abbrev pub transform_by : Bool → ℕ → List ℕ → List ℕ
transform_by arikan m = cond arikan (arikan_transform m) (transform m)

abbrev pub inverse_by : Bool → ℕ → List ℕ → List ℕ
inverse_by arikan m = cond arikan (arikan_inverse m) (inverse m)
