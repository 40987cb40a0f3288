-- What a call of the recursion, above length 8, hands to its two calls: halves of 2 ^ (m - 1) bits. Assumes nothing.
use mathlib.Core.Path.{◌≡◌}
use mathlib.Core.Bool.{Bool}
use mathlib.Core.List.{List}
use Prim.Native.Nat.{ℕ, suc, ◌+◌, ◌-◌, ◌*◌, ◌/◌, ◌^◌, ◌<◌}
use native.Mathlib.Omega.{arith}
use Rattle.transform.specs.Strided.{Strided, Halved, turned_at, to_halves_at, from_halves_at}
use Rattle.transform.proofs.Layers.{doubled, half_first, half_second, before_kept, turned_kept, turned_layer}

module _ {m h at d : ℕ} {s : List ℕ} (w : Halved m h at d s) (more : 3 < m) where
  up : suc (m - 1) ≡ m
  up = omega arith

  two_halves : 2 * 2 ^ (m - 1) ≡ 2 ^ m
  two_halves = doubled m (omega arith)

  half_is : h ≡ 2 ^ (m - 1)
  half_is = omega (arith, w.half, two_halves)

  -- 2 ^ (m - 1) is even too
  quarter_is : 2 * (h / 2) ≡ 2 ^ (m - 1)
  quarter_is = omega (arith, half_is, doubled (m - 1) (omega arith))

  halves : Strided (2 * 2 ^ (m - 1)) at d s
  halves = rw two_halves w.lies

  call : {a e : ℕ} {t : List ℕ} → Strided (2 ^ (m - 1)) a e t → Halved (m - 1) (h / 2) a e t
  call g = record { least = omega arith; half = quarter_is; lies = g }

  -- ---- the pass before the halves, each half, the pass behind them
  module _ (b : Bool) {s₁ : List ℕ} (q₁ : s₁ ≡ to_halves_at b at d h s) where
    before : s₁ ≡ to_halves_at b at d (2 ^ (m - 1)) s
    before = rw half_is at q₁

    before_lies : Strided (2 * 2 ^ (m - 1)) at d s₁
    before_lies = before_kept (m - 1) halves b before

    pub turn_first : Halved (m - 1) (h / 2) at (2 * d) s₁
    turn_first = call (half_first (2 ^ (m - 1)) before_lies)

    module _ {s₂ : List ℕ} (q₂ : s₂ ≡ turned_at b at (2 * d) (m - 1) s₁) where
      first_lies : Strided (2 * 2 ^ (m - 1)) at d s₂
      first_lies = turned_kept at (2 * d) (m - 1) b q₂ before_lies

      pub turn_second : Halved (m - 1) (h / 2) (at + d) (2 * d) s₂
      turn_second = call (half_second (2 ^ (m - 1)) first_lies)

      module _ {s₃ : List ℕ} (q₃ : s₃ ≡ turned_at b (at + d) (2 * d) (m - 1) s₂) where
        pub for_after : Strided (2 * h) at d s₃
        for_after = rw half_is (turned_kept (at + d) (2 * d) (m - 1) b q₃ first_lies)

        pub turn_done : {s₄ : List ℕ} → s₄ ≡ from_halves_at b at d h s₃ → s₄ ≡ turned_at b at d m s
        turn_done q₄ = rw (up, two_halves) at (turned_layer (m - 1) halves b before q₂ q₃ (rw half_is at q₄))
