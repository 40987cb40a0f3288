-- The payloads in their order: there are 2 ^ k of k bits, and the one at place q is the numeral of q. When the sum of two numerals is that of
-- the sum of their numbers.
use Rattle.std.specs.Prelude.{◌≡◌, refl, Bool, true, false, List, [], ◌∷◌, ◌++◌, map, ℕ, zero, suc, ◌+◌, ◌-◌, ◌*◌, ◌/◌, ◌%◌, ◌^◌, ◌<◌, length, get_or, ltb}
use Rattle.std.proofs.Common.{sym, ap, ap₂, subst, ◌∙◌, arith, suc-mul, mul_assoc, mul_left_comm, length-append, get_or-append-add, ltb-true, ltb-false}
use Rattle.std.proofs.Math.Nat.{pow-succ'}
use Rattle.std.proofs.lemmas.List.{length-map}
use Rattle.std.proofs.Math.ListN.{get_or-append}
use Rattle.spec.specs.Bits.{◌⊕◌, Bits, nil}
use Rattle.spec.specs.Transform.{added}
use Rattle.laws.specs.BitLaws.{bits_snoc}
use Rattle.laws.specs.ArikanPlaces.{added_append}
use Rattle.payload_blocks.specs.Payloads.{numeral, payloads, Multiple}

-- ---- one numeral
pub length_numeral : (k q : ℕ) → length (numeral k q) ≡ k
unfolding numeral
length_numeral zero q = refl
length_numeral (suc k) q = omega (arith, length-append (numeral k (q / 2)) (q % 2 ∷ []), length_numeral k (q / 2))

pub bits_numeral : (k q : ℕ) → Bits (numeral k q)
unfolding numeral
bits_numeral zero q = nil
bits_numeral (suc k) q = bits_snoc (q % 2) (bits_numeral k (q / 2)) (omega arith)

-- with one bit more in front: 0 for the first half of the numbers, 1 for the second
numeral_low : (k q : ℕ) → q < 2 ^ k → numeral (suc k) q ≡ 0 ∷ numeral k q
unfolding numeral
numeral_low zero q h = let e : q % 2 ≡ 0 = omega arith in ap (λ (b : ℕ). b ∷ []) e
numeral_low (suc k) q h = ap (λ (l : List ℕ). l ++ (q % 2 ∷ [])) (numeral_low k (q / 2) (omega arith))

numeral_high : (k q : ℕ) → q < 2 ^ k → numeral (suc k) (2 ^ k + q) ≡ 1 ∷ numeral k q
unfolding numeral
numeral_high zero q h = let e : (1 + q) % 2 ≡ 1 = omega arith in ap (λ (b : ℕ). b ∷ []) e
numeral_high (suc k) q h =
    let half : (2 ^ suc k + q) / 2 ≡ 2 ^ k + q / 2 = omega arith in
    let low : (2 ^ suc k + q) % 2 ≡ q % 2 = omega arith in
    ap₂ (λ (n b : ℕ). numeral (suc k) n ++ (b ∷ [])) half low ∙ ap (λ (l : List ℕ). l ++ (q % 2 ∷ [])) (numeral_high k (q / 2) (omega arith))

-- ---- all payloads
-- those of one bit more, with b in front
abbrev led : ℕ → ℕ → List (List ℕ)
led b k = map (λ (p : List ℕ). b ∷ p) (payloads k)

length_led : (b k : ℕ) → length (led b k) ≡ length (payloads k)
length_led b k = length-map (payloads k) (λ (p : List ℕ). b ∷ p)

pub length_payloads : (k : ℕ) → length (payloads k) ≡ 2 ^ k
unfolding payloads
length_payloads zero = refl
length_payloads (suc k) = omega (arith, length-append (led 0 k) (led 1 k), length_led 0 k, length_led 1 k, length_payloads k)

-- what stands at a place of a list that a function was applied to
pub get_d_map : {A B : Type 0} (f : A → B) (xs : List A) (i : ℕ) (d : A) (e : B) → i < length xs → get_or (map f xs) i e ≡ f (get_or xs i d)
get_d_map f [] i d e h = absurd (omega arith)
get_d_map f (x ∷ xs) zero d e h = refl
get_d_map f (x ∷ xs) (suc i) d e h = get_d_map f xs i d e (omega arith)

led_at : (b k q : ℕ) → q < 2 ^ k → get_or (led b k) q [] ≡ b ∷ get_or (payloads k) q []
led_at b k q h = get_d_map (λ (p : List ℕ). b ∷ p) (payloads k) q [] [] (omega (arith, length_payloads k))

first_half : (k q : ℕ) → q < 2 ^ k → get_or (payloads (suc k)) q [] ≡ 0 ∷ get_or (payloads k) q []
unfolding payloads
first_half k q h = get_or-append (led 0 k) (led 1 k) [] q (omega (arith, length_led 0 k, length_payloads k)) ∙ led_at 0 k q h

second_half : (k q : ℕ) → q < 2 ^ k → get_or (payloads (suc k)) (2 ^ k + q) [] ≡ 1 ∷ get_or (payloads k) q []
unfolding payloads
second_half k q h =
    let at : 2 ^ k + q ≡ length (led 0 k) + q = omega (arith, length_led 0 k, length_payloads k) in
    ap (λ (i : ℕ). get_or (led 0 k ++ led 1 k) i []) at ∙ get_or-append-add (led 0 k) (led 1 k) q [] ∙ led_at 1 k q h

pub payload_at : (k q : ℕ) → q < 2 ^ k → get_or (payloads k) q [] ≡ numeral k q
unfolding payloads numeral
payload_at zero zero h = refl
payload_at zero (suc q) h = absurd (omega arith)
payload_at (suc k) q h = go (ltb q (2 ^ k)) refl (payload_at k)
  where
    go : (b : Bool) → ltb q (2 ^ k) ≡ b → ((n : ℕ) → n < 2 ^ k → get_or (payloads k) n [] ≡ numeral k n) → get_or (payloads (suc k)) q [] ≡ numeral (suc k) q
    go true e ih = let l : q < 2 ^ k = ltb-true q (2 ^ k) e in first_half k q l ∙ ap (λ (p : List ℕ). 0 ∷ p) (ih q l) ∙ sym (numeral_low k q l)
    go false e ih =
        let n : ℕ = q - 2 ^ k in
        let l : n < 2 ^ k = omega arith in
        let is : 2 ^ k + n ≡ q = omega (arith, ltb-false q (2 ^ k) e) in
        subst (λ (i : ℕ). get_or (payloads (suc k)) i [] ≡ numeral (suc k) i) is
        (second_half k n l ∙ ap (λ (p : List ℕ). 1 ∷ p) (ih n l) ∙ sym (numeral_high k n l))

-- ---- sums
-- a multiple of 2 ^ (r + 1) is one of 2 ^ r, and so is the number 2 ^ r above it; it is even, and its half is one of 2 ^ r
module _ {r q : ℕ} (m : Multiple (suc r) q) where
  twice : q ≡ 2 * (m.times * 2 ^ r)
  twice = m.is ∙ ap (λ (n : ℕ). m.times * n) (pow-succ' 2 r) ∙ mul_left_comm m.times 2 (2 ^ r)

  pub multiple_low : Multiple r q
  multiple_low = record { times = 2 * m.times; is = twice ∙ sym (mul_assoc 2 m.times (2 ^ r)) }

  pub multiple_high : Multiple r (q + 2 ^ r)
  multiple_high = let l = multiple_low in record { times = suc l.times; is = ap (λ (n : ℕ). n + 2 ^ r) l.is ∙ sym (suc-mul l.times (2 ^ r)) }

  even : q % 2 ≡ 0
  even = omega (arith, twice)

  multiple_half : Multiple r (q / 2)
  multiple_half = record { times = m.times; is = omega (arith, twice) }

-- the last bit apart
added_numerals : (k p q : ℕ) → added (numeral (suc k) p) (numeral (suc k) q) ≡ added (numeral k (p / 2)) (numeral k (q / 2)) ++ (p % 2 ⊕ q % 2) ∷ []
unfolding numeral
added_numerals k p q =
    added_append (numeral k (p / 2)) (p % 2 ∷ []) (numeral k (q / 2)) (q % 2 ∷ []) (length_numeral k (p / 2) ∙ sym (length_numeral k (q / 2)))

added_zero : (k q : ℕ) → added (numeral k q) (numeral k 0) ≡ numeral k q
unfolding numeral
added_zero zero q = refl
added_zero (suc k) q = added_numerals k q 0 ∙ ap (λ (l : List ℕ). l ++ q % 2 ∷ []) (added_zero k (q / 2))

-- bit r of a multiple of 2 ^ (r + 1) is 0, so that 2 ^ r more sets it and changes no other bit
pub numeral_plus : (r k q : ℕ) → Multiple (suc r) q → added (numeral k q) (numeral k (2 ^ r)) ≡ numeral k (q + 2 ^ r)
unfolding numeral
numeral_plus r zero q m = refl
numeral_plus zero (suc k) q m =
    let half : (q + 1) / 2 ≡ q / 2 = omega (arith, even m) in
    let bit : (q + 1) % 2 ≡ 1 = omega (arith, even m) in
    added_numerals k q 1
    ∙ ap₂ (λ (l : List ℕ) (b : ℕ). l ++ (b ⊕ 1) ∷ []) (added_zero k (q / 2)) (even m)
    ∙ sym (ap₂ (λ (n b : ℕ). numeral k n ++ b ∷ []) half bit)
numeral_plus (suc r) (suc k) q m =
    let p : ℕ = 2 ^ suc r in
    let half : p / 2 ≡ 2 ^ r = omega arith in
    let bit : p % 2 ≡ 0 = omega arith in
    let sum : (q + p) / 2 ≡ q / 2 + 2 ^ r = omega arith in
    let low : (q + p) % 2 ≡ q % 2 = omega arith in
    added_numerals k q p
    ∙ ap₂ (λ (n b : ℕ). added (numeral k (q / 2)) (numeral k n) ++ (q % 2 ⊕ b) ∷ []) half bit
    ∙ ap (λ (l : List ℕ). l ++ q % 2 ∷ []) (numeral_plus r k (q / 2) (multiple_half m))
    ∙ sym (ap₂ (λ (n b : ℕ). numeral k n ++ b ∷ []) sum low)
