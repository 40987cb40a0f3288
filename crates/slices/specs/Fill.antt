-- A list with one value from a place to its end, and the laws of a loop that writes it so, over any type of element. Assumes nothing.
use Rattle.std.specs.Prelude.{◌≡◌, refl, take, set}
use Rattle.std.proofs.Math.Path.{ap, ap₂}
use Rattle.std.proofs.Common.{◌∙◌, add-one, take_all, take_at}
use mathlib.Core.List.{List, ◌++◌, append-nil}
use Prim.Native.Nat.{ℕ, suc, ◌+◌, ◌-◌, ◌≤◌, ◌<◌}
use native.Mathlib.Omega.{arith}
use Rattle.std.proofs.Math.ListN.{length, drop, replicate, length-set, length-append, length-drop}
use Rattle.std.proofs.Math.Seq.{take-suc-set, append_snoc}

-- what stands before the place `from`, then z to the end
unfoldable pub filled_from : {A : Type 0} → A → ℕ → List A → List A
filled_from z from s = take from s ++ replicate (length s - from) z

module _ {A : Type 0} (z : A) where
  -- from the first place on
  pub zeroed : (s : List A) → filled_from z 0 s ≡ replicate (length s) z
  unfolding filled_from
  zeroed s = let e : length s - 0 ≡ length s = omega arith in ap (λ (k : ℕ). replicate k z) e

  -- a place at or past the end: nothing is changed
  pub filled_end : (i : ℕ) (t : List A) → length t ≤ i → filled_from z i t ≡ t
  unfolding filled_from
  filled_end i t h =
      let e : length t - i ≡ 0 = omega arith in
      ap₂ ◌++◌ (take_all i t h) (ap (λ (k : ℕ). replicate k z) e) ∙ append-nil t

  -- one store at the place, and the rest is filled from the next one
  pub filled_step : (i : ℕ) (t : List A) → i < length t → filled_from z i t ≡ filled_from z (i + 1) (set t i z)
  unfolding filled_from
  filled_step i t h =
      let e : length t - i ≡ suc (length t - suc i) = omega arith in
      rw (add-one i, length-set, take-suc-set t i z, e, append_snoc)

  -- w was written to the first n places of s, and the rest is filled
  pub filled_behind : (w s : List A) (n : ℕ) → length w ≡ n → n ≤ length s → filled_from z n (w ++ drop n s) ≡ w ++ replicate (length s - length w) z
  unfolding filled_from
  filled_behind w s n e h =
      let l : length (w ++ drop n s) - n ≡ length s - length w = omega (arith, length-append w (drop n s), length-drop n s) in
      ap₂ (λ (a : List A) (k : ℕ). a ++ replicate k z) (take_at w (drop n s) n e) l

  -- w stands at the front of u, which is as s behind it, and u is filled from there
  pub filled_front : (w s u : List A) (n : ℕ) → u ≡ w ++ drop (length w) s → n ≡ length w → length w ≤ length s
      → filled_from z n u ≡ w ++ replicate (length s - length w) z
  filled_front w s u n b e h = ap₂ (filled_from z) e b ∙ filled_behind w s (length w) refl h
