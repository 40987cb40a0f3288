-- Fields that a record may have: it has the bytes of one that stands.
use Rattle.std.specs.Prelude.{◌≡◌, List, ℕ, ◌+◌, ◌/◌, ◌%◌, ◌<◌, length}
use Rattle.std.proofs.Common.{arith}
use Rattle.spec.specs.Record.{fields, stop_at, frame_at}
use Rattle.job_fields.specs.Laid.{Shaped}

module _ {s : List ℕ} (w : Shaped s) where
  pub size_within : (fields s % 2 ≡ 0 → ⊥) → 2 < length s
  size_within x = omega (arith, w.whole)

  pub stop_within : (fields s / 2 % 2 ≡ 0 → ⊥) → stop_at (fields s) + 1 < length s
  stop_within x = omega (arith, w.whole)

  pub frame_within : (fields s / 4 % 2 ≡ 0 → ⊥) → frame_at (fields s) + 3 < length s
  frame_within x = omega (arith, w.whole)
