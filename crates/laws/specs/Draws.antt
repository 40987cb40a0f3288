-- Draws of a test load: a state that is not 0 never becomes 0, and one draw more at the end, as a loop takes it.
use Rattle.std.specs.Prelude.{◌≡◌, refl, List, [], ◌∷◌, ◌++◌, ℕ, zero, suc, ◌+◌, ◌*◌, ◌/◌, ◌%◌, ◌^◌, ◌≤◌, ◌<◌, length, take, get_or, ℤ}
use Rattle.std.proofs.Common.{sym, ap, ◌∙◌, mul_assoc, mul_comm, pow-suc, arith, pow_pos}
use Rattle.std.proofs.Math.Arith.{mod-mul}
use Rattle.std.specs.Int.Bits.{bit_xor, xor_add_and}
use Rattle.std.proofs.lemmas.Nat.{and_le_l, and_le_r, xor_lt}
use Rattle.std.proofs.lemmas.List.{length-map}
use Rattle.spec.specs.Bits.{Bits, nil, cons}
use Rattle.spec.specs.TestLoad.{left_by, right_by, mixed, draw, draws, after_draws, drawn_bits, noisy, noisy_word}

-- ---- no number of 32 bits but 0 is its own shift
-- numbers that differ in no digit are one
xor_zero : (a b : ℕ) → bit_xor a b ≡ 0 → a ≡ b
xor_zero a b e = omega (arith, xor_add_and a b, and_le_l a b, and_le_r a b)

-- of d digits, no number but 0 is its own even multiple: its lowest digit is 0, and so is that of its half
even_own : (j d x : ℕ) → x < 2 ^ d → x ≡ (x * j * 2) % 2 ^ d → x ≡ 0
even_own j zero x h e = omega arith
even_own j (suc d) x h e =
    let y : ℕ = x * j % 2 ^ d in
    let low : (x * j * 2) % 2 ^ suc d ≡ (x * j * 2 / 2 % 2 ^ d) * 2 + x * j * 2 % 2
    = ap (λ (p : ℕ). (x * j * 2) % p) (pow-suc 2 d) ∙ mod-mul (x * j * 2) {m = 2 ^ d} {c = 2} (pow_pos d) (omega arith) in
    let half : x * j * 2 / 2 ≡ x * j = omega arith in
    let q : x * j * 2 / 2 % 2 ^ d ≡ y = ap (λ (z : ℕ). z % 2 ^ d) half in
    let twice : x ≡ y * 2 = omega arith in
    let again : x * j ≡ y * j * 2 = ap (λ (z : ℕ). z * j) twice ∙ mul_assoc y 2 j ∙ ap (λ (z : ℕ). y * z) (mul_comm 2 j) ∙ sym (mul_assoc y j 2) in
    let small : y < 2 ^ d = omega arith in
    omega (arith, even_own j d y small (ap (λ (z : ℕ). z % 2 ^ d) again))

left13_own : (s : ℕ) → s < 4294967296 → s ≡ left_by 13 s → s ≡ 0
left13_own s h e =
    let m : s * 8192 ≡ s * 4096 * 2 = omega arith in
    even_own 4096 32 s h (e ∙ ap (λ (z : ℕ). z % 4294967296) m)

right17_own : (s : ℕ) → s ≡ right_by 17 s → s ≡ 0
right17_own s e = omega arith

left5_own : (s : ℕ) → s < 4294967296 → s ≡ left_by 5 s → s ≡ 0
left5_own s h e =
    let m : s * 32 ≡ s * 16 * 2 = omega arith in
    even_own 16 32 s h (e ∙ ap (λ (z : ℕ). z % 4294967296) m)

-- ---- states: 32 bits, and not 0
pub record State (s : ℕ) : Type 0 where
  pub small : s < 4294967296
  pub some_bit : s ≡ 0 → ⊥

mixed_state : (shift : ℕ → ℕ) (s : ℕ) → shift s < 4294967296 → (s ≡ shift s → s ≡ 0) → State s → State (mixed shift s)
mixed_state shift s h own t = record {
  small = xor_lt 32 s (shift s) t.small h;
  some_bit = λ z. t.some_bit (own (xor_zero s (shift s) z));
}

pub draw_state : (s : ℕ) → State s → State (draw s)
unfolding draw
draw_state s t =
    let a : ℕ = mixed (left_by 13) s in
    let b : ℕ = mixed (right_by 17) a in
    let ta : State a = mixed_state (left_by 13) s (omega arith) (left13_own s t.small) t in
    let tb : State b = mixed_state (right_by 17) a (omega (arith, ta.small)) (right17_own a) ta in
    mixed_state (left_by 5) b (omega arith) (left5_own b tb.small) tb

-- However many draws are taken, the state does not become 0.
pub after_state : (k s : ℕ) → State s → State (after_draws k s)
unfolding after_draws
after_state zero s t = t
after_state (suc k) s t = after_state k (draw s) (draw_state s t)

-- ---- lengths, and the bits that are drawn
pub length_draws : (k s : ℕ) → length (draws k s) ≡ k
unfolding draws
length_draws zero s = refl
length_draws (suc k) s = ap suc (length_draws k (draw s))

pub length_bits : (k s : ℕ) → length (drawn_bits k s) ≡ k
length_bits k s = length-map (draws k s) (λ (x : ℕ). x % 2) ∙ length_draws k s

pub bits_drawn : (k s : ℕ) → Bits (drawn_bits k s)
unfolding draws
bits_drawn zero s = nil
bits_drawn (suc k) s = cons {x = draw s % 2} (omega arith) (bits_drawn k (draw s))

pub length_noisy : (w xs : List ℕ) → length w ≡ length xs → length (noisy_word w xs) ≡ length w
length_noisy [] xs e = refl
length_noisy (b ∷ w) [] e = absurd (omega (arith, e))
length_noisy (b ∷ w) (x ∷ xs) e = ap suc (length_noisy w xs (omega (arith, e)))

-- ---- one draw more, at the end
pub after_more : (k s : ℕ) → after_draws (suc k) s ≡ draw (after_draws k s)
unfolding after_draws
after_more zero s = refl
after_more (suc k) s = after_more k (draw s)

pub bits_more : (k s : ℕ) → drawn_bits (suc k) s ≡ drawn_bits k s ++ (draw (after_draws k s) % 2 ∷ [])
unfolding draws after_draws
bits_more zero s = refl
bits_more (suc k) s = ap (λ (l : List ℕ). draw s % 2 ∷ l) (bits_more k (draw s))

pub noise_more : (w : List ℕ) (k s : ℕ) → k < length w
    → noisy_word (take (suc k) w) (draws (suc k) s) ≡ noisy_word (take k w) (draws k s) ++ (noisy (get_or w k 0) (draw (after_draws k s)) ∷ [])
unfolding draws after_draws
noise_more [] k s h = absurd (omega arith)
noise_more (b ∷ w) zero s h = refl
noise_more (b ∷ w) (suc k) s h = ap (λ (l : List ℤ). noisy b (draw s) ∷ l) (noise_more w k (draw s) (omega arith))

pub length_noise : (w : List ℕ) (k s : ℕ) → k ≤ length w → length (noisy_word (take k w) (draws k s)) ≡ k
unfolding draws
length_noise w zero s h = refl
length_noise [] (suc k) s h = absurd (omega arith)
length_noise (b ∷ w) (suc k) s h = ap suc (length_noise w k (draw s) (omega arith))
