-- The decoder on paper, demand 3: 01, "Scores and lists". T is the transform. It is fed the code, the soft values, the list
-- size and the stop position, and nothing else; every score is taken anew.
use Rattle.std.specs.Prelude.{Bool, true, false, not, cond, ◌&&◌, ◌||◌, List, [], ◌∷◌, ◌++◌, map, ℕ, zero, suc, ◌-◌, length, take, drop, get_or, replicate, ℤ, ltb, eqb}
use Rattle.std.specs.Int.Signed.{le_z}
use Rattle.spec.specs.Code.{Code, size, frozen, frozen_bit}
use Rattle.spec.specs.Score.{maxℤ, score}

-- insertion sort by a test le, where le x y says that x may stand before y
module _ {A : Type 0} (le : A → A → Bool) where
  abbrev pub insert_by : A → List A → List A
  insert_by x [] = x ∷ []
  insert_by x (y ∷ ys) = cond (le x y) (x ∷ y ∷ ys) (y ∷ insert_by x ys)

  abbrev pub sort_by : List A → List A
  sort_by [] = []
  sort_by (x ∷ xs) = insert_by x (sort_by xs)

-- v is w, or has the smaller bit at the first place where the two differ
abbrev pub lex_before : List ℕ → List ℕ → Bool
lex_before [] w = true
lex_before (x ∷ v) [] = false
lex_before (x ∷ v) (y ∷ w) = ltb x y || (eqb x y && lex_before v w)

-- the order of rows: the higher score first, then the prefix with 0 at the first place where two differ
abbrev pub ahead : (List ℕ → ℤ) → List ℕ → List ℕ → Bool
ahead s v w = not (le_z (s v) (s w)) || (le_z (s w) (s v) && lex_before v w)

-- a prefix goes on by 0 and by 1 at a clear position, by the bit b at a frozen one
abbrev pub continued : ℕ → ℕ → List ℕ → List (List ℕ)
continued zero b w = (w ++ 0 ∷ []) ∷ (w ++ 1 ∷ []) ∷ []
continued (suc f) b w = (w ++ b ∷ []) ∷ []

-- the children of a prefix of a code at position i: where that is frozen each prefix goes on with its own sum
unfoldable pub children : Code → ℕ → List ℕ → List (List ℕ)
children c i w = continued (get_or (frozen c) i 0) (frozen_bit c i w) w

-- the children of all prefixes of a list
abbrev pub families : (List ℕ → List (List ℕ)) → List (List ℕ) → List (List ℕ)
families f [] = []
families f (w ∷ ws) = f w ++ families f ws

-- the first of a list of prefixes
abbrev pub head_of : List (List ℕ) → List ℕ
head_of [] = []
head_of (w ∷ ws) = w

-- the largest of a and a list
abbrev pub largest_of : ℤ → List ℤ → ℤ
largest_of a [] = a
largest_of a (x ∷ xs) = maxℤ x (largest_of a xs)

-- a list search, whatever the scores s and the children kids i of a prefix at position i are: the best l stay
module _ (s : List ℕ → ℤ) (kids : ℕ → List ℕ → List (List ℕ)) (l : ℕ) where
  -- The live prefixes after i positions, best first. At a frozen position there are no more children than prefixes, so none is cut.
  unfoldable pub live_by : ℕ → List (List ℕ)
  live_by zero = [] ∷ []
  live_by (suc i) = take l (sort_by (ahead s) (families (kids i) (live_by i)))

  -- All that was dropped at the first i positions: at each what `take l` leaves behind, which is nothing at a frozen one.
  unfoldable pub dropped_by : ℕ → List (List ℕ)
  dropped_by zero = []
  dropped_by (suc i) = dropped_by i ++ drop l (sort_by (ahead s) (families (kids i) (live_by i)))

  -- the larger of the first prefix's score and the highest score ever dropped
  unfoldable pub ceiling_by : ℕ → ℤ
  ceiling_by i = largest_of (s (head_of (live_by i))) (map s (dropped_by i))

-- a row: the prefix with 0 from the stop position on, its transform, and the prefix's score
pub record Row : Type 0 where
  pub input : List ℕ
  pub word : List ℕ
  pub score : ℤ

module _ (T : List ℕ → List ℕ) (c : Code) (y : List ℤ) (l : ℕ) where
  abbrev pub score_of : List ℕ → ℤ
  score_of w = score T (size c) y w

  -- the live prefixes after i positions
  abbrev pub live : ℕ → List (List ℕ)
  live = live_by score_of (children c) l

  abbrev pub row_of : List ℕ → Row
  row_of w =
      let u : List ℕ = w ++ replicate (size c - length w) 0 in
      record { input = u; word = T u; score = score_of w }

  -- the rows at stop position p, by rank from 0
  unfoldable pub rows : ℕ → List Row
  rows p = map row_of (live p)

  -- the ceiling at stop position p, over the whole code: 02, wish 5
  abbrev pub ceiling : ℕ → ℤ
  ceiling = ceiling_by score_of (children c) l
