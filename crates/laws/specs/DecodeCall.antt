-- A decoder call that is not refused: what is known of its arguments, and what it comes to.
use Rattle.std.specs.Prelude.{◌≡◌, List, ℕ, ◌≤◌, length, ℤ}
use Rattle.std.proofs.Math.Path.{sym}
use Rattle.std.proofs.Common.{arith, ltb-false}
use Rattle.spec.specs.Code.{Code, size, map_bytes, code_transform}
use Rattle.spec.specs.Score.{taken}
use Rattle.spec.specs.Decoder.{rows}
use Rattle.spec.specs.Refusals.{Room, decode_faults}
use Rattle.spec.specs.Outcome.{refused_by, Lent, room_of, decoding, decode_refusal, decode_served, decode_outcome}
use Rattle.spec.specs.RowCount.{row_count}
use Rattle.laws.specs.FirstFault.{First, later, of_first, inside_of, same_of, settled_served}

module _ (c : Code) (l p : ℕ) (soft : List ℤ) (r : Room) where
  pub list_in_range : First (decode_faults c l p soft r) 0 → (1 ≤ l) × (l ≤ 32)
  list_in_range (later a (later b (later d (later u (later v (later w (later e f))))))) = inside_of 1 32 l e

  pub stop_in_range : First (decode_faults c l p soft r) 0 → p ≤ size c
  stop_in_range (later a (later b (later d (later u (later v (later w (later e (later h f)))))))) = ltb-false (size c) p h

  pub map_right : First (decode_faults c l p soft r) 0 → length c.map ≡ map_bytes (size c)
  map_right (later a (later b f)) = same_of (length c.map) (map_bytes (size c)) b

  pub soft_long : First (decode_faults c l p soft r) 0 → length soft ≡ size c
  soft_long (later a (later b (later d (later u (later v (later w (later e (later h (later g f))))))))) = same_of (length soft) (size c) g

  pub rows_at_most : First (decode_faults c l p soft r) 0 → length (rows (code_transform c) c (taken soft) l p) ≤ l
  rows_at_most f = omega (arith, row_count (code_transform c) c (taken soft) l p (list_in_range f).0 (map_right f) (stop_in_range f))

module _ (c : Code) (l p : ℕ) (soft : List ℤ) where
  abbrev pub AcceptedCall : Lent → Type 0
  AcceptedCall x = decode_refusal c l p soft (room_of x) ≡ 0

  pub accepted_faults : (x : Lent) → AcceptedCall x → First (decode_faults c l p soft (room_of x)) 0
  unfolding decode_refusal
  accepted_faults x e = of_first (decode_faults c l p soft (room_of x)) 0 (sym e)

  pub accepted_is : (x : Lent) → AcceptedCall x → decode_outcome c l p soft x ≡ decode_served c l p soft (room_of x)
  unfolding decode_outcome
  accepted_is x e = sym (settled_served (λ k. decoding (refused_by k) x) (decode_served c l p soft (room_of x)) (decode_refusal c l p soft (room_of x)) (sym e))
