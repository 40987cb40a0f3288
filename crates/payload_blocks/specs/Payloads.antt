-- All payloads in their order, by number; the words of the payloads with a single 1 near the end; the correlations of all code words.
use Rattle.std.specs.Prelude.{◌≡◌, List, [], ◌∷◌, ◌++◌, map, ℕ, zero, suc, ◌*◌, ◌/◌, ◌%◌, ◌^◌, ℤ}
use Rattle.spec.specs.Code.{Code, payload_size, encoded}
use Rattle.spec.specs.Score.{correlation}

-- the k lowest bits of q, the highest first
unfoldable pub numeral : ℕ → ℕ → List ℕ
numeral zero q = []
numeral (suc k) q = numeral k (q / 2) ++ (q % 2 ∷ [])

-- all payloads of k bits, the smaller bit by bit first: payload q is `numeral k q`
unfoldable pub payloads : ℕ → List (List ℕ)
payloads zero = [] ∷ []
payloads (suc k) = map (λ (p : List ℕ). 0 ∷ p) (payloads k) ++ map (λ (p : List ℕ). 1 ∷ p) (payloads k)

-- the code words of the payloads 2 ^ (r - 1) down to 1: each of the last r bits alone
unfoldable pub generators : Code → ℕ → List (List ℕ)
generators c zero = []
generators c (suc r) = encoded c (numeral (payload_size c) (2 ^ r)) ∷ generators c r

-- the correlations of all code words, in the order of their payloads
unfoldable pub correlations : Code → List ℤ → List ℤ
correlations c y = map (λ (p : List ℕ). correlation y (encoded c p)) (payloads (payload_size c))

-- q is a multiple of 2 ^ r
pub record Multiple (r q : ℕ) : Type 0 where
  pub times : ℕ
  pub is : q ≡ times * 2 ^ r
