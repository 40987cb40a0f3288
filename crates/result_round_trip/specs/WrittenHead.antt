-- The head of a written result, byte 0 to the ceiling: what is left out, and what a record that begins with it says, whatever follows.
use Rattle.std.specs.Prelude.{◌≡◌, refl, Bool, true, false, cond, ◌&&◌, List, [], ◌∷◌, ◌++◌, ℕ, ◌+◌, ◌*◌, ◌/◌, ◌%◌, ◌≤◌, ◌<◌, eqb, length, ℤ}
use Rattle.std.proofs.Common.{sym, ap, arith, eqb-true}
use Rattle.std.proofs.lemmas.Bool.{eqb-false}
use Rattle.std.specs.Int.Signed.{lt_z, le_z}
use Rattle.spec.specs.Record.{four_at, signed32, if_present, fields}
use Rattle.spec.specs.RecordOf.{Field, absent, present, value_or, low_first, field_bit, field_bytes, thirty_two_bits}
use Rattle.spec.specs.JobWriter.{unless}
use Rattle.spec.specs.ResultRecord.{ceiling_at, scores_at, result_frame}
use Rattle.result_round_trip.specs.FourBytes.{Wide, wide_back, same_bits, four_back}
use Rattle.result_round_trip.specs.ScoreOrder.{above_of}

-- ---- a field that may be left out
-- its value where it stands has 32 bits
pub stands_small : (absence x : ℕ) → x < 4294967296 → value_or 0 (unless absence x) < 4294967296
stands_small absence x h = go (eqb x absence)
  where
    go : (b : Bool) → value_or 0 (cond b absent (present x)) < 4294967296
    go true = omega arith
    go false = h

-- a frame number that stands is not 0
pub frame_not_zero : (x : ℕ) → (eqb (field_bit (unless 0 x)) 1 && eqb x 0) ≡ false
frame_not_zero x = go (eqb x 0) refl
  where
    go : (b : Bool) → eqb x 0 ≡ b → (eqb (field_bit (cond b absent (present x))) 1 && b) ≡ false
    go true e = refl
    go false e = refl

-- a signed field says its value, or what its absence means
abbrev pub signed_or : ℤ → Field → ℤ
signed_or absence absent = absence
signed_or absence (present x) = signed32 x

module _ (y z : ℤ) where
  abbrev shown : Field
  shown = unless (thirty_two_bits y) (thirty_two_bits z)

  pub ceiling_said : Wide y → Wide z → signed_or y shown ≡ z
  ceiling_said h k = go (eqb (thirty_two_bits z) (thirty_two_bits y)) refl
    where
      go : (b : Bool) → eqb (thirty_two_bits z) (thirty_two_bits y) ≡ b → signed_or y (cond b absent (present (thirty_two_bits z))) ≡ z
      go true e = same_bits y z h k (sym (eqb-true (thirty_two_bits z) (thirty_two_bits y) e))
      go false e = wide_back z k

  -- a ceiling that stands is above the first score
  pub ceiling_not_low : lt_z z y ≡ false → (eqb (field_bit shown) 1 && le_z z y) ≡ false
  ceiling_not_low n = go (eqb (thirty_two_bits z) (thirty_two_bits y)) refl
    where
      go : (b : Bool) → eqb (thirty_two_bits z) (thirty_two_bits y) ≡ b
          → (eqb (field_bit (cond b absent (present (thirty_two_bits z)))) 1 && le_z z y) ≡ false
      go true e = refl
      go false e = above_of z y n (λ q. eqb-false (thirty_two_bits z) (thirty_two_bits y) e (ap thirty_two_bits q))

-- ---- the head: what byte 0 and the fields that stand say of a record, whatever follows
abbrev pub head_of : ℕ → ℕ → Field → Field → List ℕ
head_of m rows f c = (field_bit f + 2 * field_bit c) ∷ m ∷ rows ∷ (field_bytes 4 f ++ field_bytes 4 c)

pub record Headed (f c : Field) (k : ℕ) (s : List ℕ) : Type 0 where
  pub known : fields s ≤ 3
  pub bit0 : fields s % 2 ≡ field_bit f
  pub bit1 : fields s / 2 % 2 ≡ field_bit c
  pub frame_is : result_frame s ≡ value_or 0 f
  pub ceiling_is : (absence : ℤ) → if_present (fields s / 2 % 2) (signed32 (four_at s (ceiling_at (fields s)))) absence ≡ signed_or absence c
  pub ends_at : k ≡ scores_at (fields s)

pub headed : (m rows : ℕ) (f c : Field) (t : List ℕ) → value_or 0 f < 4294967296 → value_or 0 c < 4294967296
    → Headed f c (length (head_of m rows f c)) (head_of m rows f c ++ t)
headed m rows absent absent t hf hc =
    record { known = omega arith; bit0 = refl; bit1 = refl; frame_is = refl; ceiling_is = λ _. refl; ends_at = refl }
headed m rows absent (present c) t hf hc = record {
  known = omega arith;
  bit0 = refl;
  bit1 = refl;
  frame_is = refl;
  ceiling_is = λ _. ap signed32 (four_back (2 ∷ m ∷ rows ∷ []) c t hc);
  ends_at = refl;
}
headed m rows (present f) absent t hf hc = record {
  known = omega arith;
  bit0 = refl;
  bit1 = refl;
  frame_is = four_back (1 ∷ m ∷ rows ∷ []) f t hf;
  ceiling_is = λ _. refl;
  ends_at = refl;
}
headed m rows (present f) (present c) t hf hc = record {
  known = omega arith;
  bit0 = refl;
  bit1 = refl;
  frame_is = four_back (3 ∷ m ∷ rows ∷ []) f (low_first 4 c ++ t) hf;
  ceiling_is = λ _. ap signed32 (four_back (3 ∷ m ∷ rows ∷ low_first 4 f) c t hc);
  ends_at = refl;
}
