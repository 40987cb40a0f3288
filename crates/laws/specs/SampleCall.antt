-- The call of the quantiser, taken apart: what is known of one that is not refused, and what it then comes to. Its soft values stand at
-- the places of their parts, and the decoder refuses none of them.
use Rattle.std.specs.Prelude.{◌≡◌, refl, ℕ, suc, ◌+◌, ◌-◌, ◌*◌, ◌/◌, ◌^◌, ◌≤◌, ◌<◌, ltb, replicate, pos}
use Rattle.std.proofs.Math.Path.{sym, ap, subst}
use Rattle.std.proofs.Common.{◌∙◌, ltb-false}
use Rattle.std.proofs.Math.Bool.{false}
use mathlib.Core.List.{List, [], ◌∷◌, ◌++◌}
use native.Mathlib.Omega.{arith}
use Rattle.std.proofs.Math.ListN.{length, take, get_or, get_or-append}
use Rattle.std.proofs.Math.Seq.{take_at}
use Rattle.std.proofs.Math.IntN.{ℤ}
use Rattle.spec.specs.Code.{Code, size}
use Rattle.spec.specs.Score.{taken}
use Rattle.spec.specs.Faults.{Fault, fault, first, some, outside}
use Rattle.spec.specs.Refusals.{Room, out_of_range, code_faults, table_faults}
use Rattle.spec.specs.Record.{four_at}
use Rattle.spec.specs.Outcome.{padded, decode_refusal}
use Rattle.spec.specs.Samples.{soft_of, soft_pairs, sample_faults, quantise_refusal, Quantised, quantised, quantise_served, quantise_outcome}
use Rattle.laws.specs.FirstFault.{First, none, later, is_first, of_first, inside_of, same, same_of, settled_refused, settled_served, without}
use Rattle.laws.specs.ListCost.{All}
use Rattle.laws.specs.SmallSoft.{Small, small_range, small_taken, small_padded}
use Rattle.laws.specs.SoftPairs.{length_pairs, pairs_small, value_at}

-- a call that is not refused
pub record Quantises (m bytes softs : ℕ) : Type 0 where
  pub low : 2 ≤ m
  pub high : m ≤ 10
  pub long : bytes ≡ 4 * 2 ^ m
  pub room : 2 ^ m ≤ softs

pub quantises : (m bytes softs : ℕ) → 0 ≡ quantise_refusal m bytes softs → Quantises m bytes softs
unfolding quantise_refusal
quantises m bytes softs e = of_none (of_first (sample_faults m bytes softs) 0 e)
  where
    of_none : First (sample_faults m bytes softs) 0 → Quantises m bytes softs
    of_none (later a (later b (later d none))) =
        let i = inside_of 2 10 m a in
        record { low = i.0; high = i.1; long = same_of bytes (4 * 2 ^ m) b; room = ltb-false softs (2 ^ m) d }

-- the first condition that applies is the call's
pub refused_by_lem : (m bytes softs k : ℕ) → First (sample_faults m bytes softs) k → k ≡ quantise_refusal m bytes softs
unfolding quantise_refusal
refused_by_lem m bytes softs k f = is_first (sample_faults m bytes softs) k f

-- n is even
pub two_halves : (m : ℕ) → 2 ≤ m → 2 ^ m ≡ 2 * (2 ^ m / 2)
two_halves m h = by (m - 1) (omega arith)
  where
    by : (k : ℕ) → m ≡ suc k → 2 ^ m ≡ 2 * (2 ^ m / 2)
    by k e = rw e (omega arith)

module _ (m : ℕ) (s : List ℕ) (soft : List ℤ) where
  pub quantise_refused : (k : ℕ) → k ≡ quantise_refusal m (length s) (length soft) → (k ≡ 0 → ⊥) → quantised k soft ≡ quantise_outcome m s soft
  unfolding quantise_outcome
  quantise_refused k e n = settled_refused (λ k. quantised k soft) (quantise_served m s (length soft)) k (quantise_refusal m (length s) (length soft)) e n

  pub quantise_served_lem : 0 ≡ quantise_refusal m (length s) (length soft) → quantise_served m s (length soft) ≡ quantise_outcome m s soft
  unfolding quantise_outcome
  quantise_served_lem e = settled_served (λ k. quantised k soft) (quantise_served m s (length soft)) (quantise_refusal m (length s) (length soft)) e

  -- where a condition applies, the answer is its number, and the slice is as before
  pub refused_writes_nothing : (quantise_refusal m (length s) (length soft) ≡ 0 → ⊥)
      → quantise_outcome m s soft ≡ quantised (quantise_refusal m (length s) (length soft)) soft
  refused_writes_nothing x = sym (quantise_refused (quantise_refusal m (length s) (length soft)) refl x)

  -- what an accepted call gives does not depend on what the slice held
  pub same_length_same_values : (soft' : List ℤ) → length soft ≡ length soft' → 0 ≡ quantise_refusal m (length s) (length soft)
      → quantise_outcome m s soft ≡ quantise_outcome m s soft'
  unfolding quantise_outcome
  same_length_same_values soft' h e =
      sym (quantise_served_lem e) ∙ ap (quantise_served m s) h
      ∙ settled_served (λ k. quantised k soft') (quantise_served m s (length soft')) (quantise_refusal m (length s) (length soft'))
      (e ∙ ap (quantise_refusal m (length s)) h)

  -- ---- a call that was not refused
  module _ (e : 0 ≡ quantise_refusal m (length s) (length soft)) where
    given : List ℤ
    given = soft_pairs s 0 (2 ^ m / 2)

    known : Quantises m (length s) (length soft)
    known = quantises m (length s) (length soft) e

    slice_is : (quantise_outcome m s soft).soft ≡ padded (pos 0) (length soft) given
    unfolding quantise_served given
    slice_is = ap (λ (o : Quantised). o.soft) (sym (quantise_served_lem e))

    length_given : length given ≡ 2 ^ m
    unfolding given
    length_given = length_pairs s 0 (2 ^ m / 2) ∙ sym (two_halves m known.low)

    -- the first n
    pub front_is : take (2 ^ m) (quantise_outcome m s soft).soft ≡ soft_pairs s 0 (2 ^ m / 2)
    unfolding given
    front_is = ap (take (2 ^ m)) slice_is ∙ take_at given (replicate (length soft - length given) (pos 0)) (2 ^ m) length_given

    -- Position i has the soft value of the four bytes from 4i on.
    pub part_at : (i : ℕ) → i < 2 ^ m → get_or (quantise_outcome m s soft).soft i (pos 0) ≡ soft_of (four_at s (4 * i))
    unfolding given
    part_at i h =
        let z : 0 + 4 * i ≡ 4 * i = omega arith in
        ap (λ (l : List ℤ). get_or l i (pos 0)) slice_is
        ∙ get_or-append given (replicate (length soft - length given) (pos 0)) (pos 0) i (omega (arith, length_given))
        ∙ value_at s 0 (2 ^ m / 2) i (omega (arith, two_halves m known.low)) ∙ ap (λ (n : ℕ). soft_of (four_at s n)) z

    -- The real part of pair j serves position 2j, the imaginary part position 2j + 1.
    pub real_part : (j : ℕ) → 2 * j < 2 ^ m → get_or (quantise_outcome m s soft).soft (2 * j) (pos 0) ≡ soft_of (four_at s (8 * j))
    real_part j h =
        let z : 4 * (2 * j) ≡ 8 * j = omega arith in
        part_at (2 * j) h ∙ ap (λ (n : ℕ). soft_of (four_at s n)) z

    pub imaginary_part : (j : ℕ) → 2 * j < 2 ^ m → get_or (quantise_outcome m s soft).soft (2 * j + 1) (pos 0) ≡ soft_of (four_at s (8 * j + 4))
    imaginary_part j h =
        let z : 4 * (2 * j + 1) ≡ 8 * j + 4 = omega arith in
        part_at (2 * j + 1) (omega (arith, two_halves m known.low)) ∙ ap (λ (n : ℕ). soft_of (four_at s n)) z

    -- Every number in the slice lies within ±2,047, those behind the n too.
    pub quantised_in_range : All Small (quantise_outcome m s soft).soft
    unfolding given
    quantised_in_range = subst (All Small) (sym slice_is) (small_padded (length soft - length given) (pairs_small s 0 (2 ^ m / 2)))

    -- The paper decoder sees the n values as they are: none of them is −2,048.
    pub quantised_taken : taken (take (2 ^ m) (quantise_outcome m s soft).soft) ≡ take (2 ^ m) (quantise_outcome m s soft).soft
    quantised_taken = ap taken front_is ∙ small_taken (pairs_small s 0 (2 ^ m / 2)) ∙ sym front_is

    -- The decoder, given the n values with any code of this length, refuses nothing of them: its number is the first of its other conditions.
    pub quantised_accepted : (c : Code) → c.m ≡ m → (l p : ℕ) (r : Room)
        → decode_refusal c l p (take (2 ^ m) (quantise_outcome m s soft).soft) r
        ≡ first (code_faults c ++ (fault 4 (outside 1 32 l) ∷ fault 5 (ltb (size c) p) ∷ table_faults (size c) l r))
    unfolding decode_refusal given
    quantised_accepted c q l p r =
        let y : List ℤ = take (2 ^ m) (quantise_outcome m s soft).soft in
        let before : List Fault = code_faults c ++ (fault 4 (outside 1 32 l) ∷ fault 5 (ltb (size c) p) ∷ []) in
        let long : length y ≡ size c = ap length front_is ∙ length_given ∙ ap (λ (n : ℕ). 2 ^ n) (sym q) in
        let range : some out_of_range y ≡ false = ap (some out_of_range) front_is ∙ small_range (pairs_small s 0 (2 ^ m / 2)) in
        without before 6 _ (fault 7 (some out_of_range y) ∷ table_faults (size c) l r) (same (length y) (size c) long)
        ∙ without before 7 _ (table_faults (size c) l r) range
