-- A record with 0 for every packed byte differs from it in packed bits alone. No code is in scope: the theorem is over the definitions.
use Rattle.std.specs.Prelude.{◌≡◌, refl, Bool, true, false, List, ℕ, ◌-◌, ◌<◌, min, ltb, length, take, replicate}
use Rattle.std.proofs.Common.{sym, ◌∙◌, arith, ltb-true, ltb-false, length-append, length-take, get_or-take}
use Rattle.std.proofs.lemmas.List.{length-replicate}
use Rattle.std.proofs.Math.ListN.{get_or-append, get_or-eq_default}
use Rattle.spec.specs.Record.{byte_at}
use Rattle.spec.specs.Outcome.{padded}
use Rattle.spec.specs.ResultRecord.{packed_at, OnlyPackedBitsDiffer}

-- a record with 0 for every packed byte
abbrev pub blanked : List ℕ → List ℕ
blanked s = padded 0 (length s) (take (packed_at s) s)

length_blanked : (s : List ℕ) → length s ≡ length (blanked s)
length_blanked s =
    let front : List ℕ = take (packed_at s) s in
    let l : length front ≡ min (packed_at s) (length s) = length-take (packed_at s) s in
    omega (arith, length-append front (replicate (length s - length front) 0), length-replicate {A = ℕ} (length s - length front) 0)

pub only_packed : (s : List ℕ) → OnlyPackedBitsDiffer s (blanked s)
only_packed s = record { as_long = length_blanked s; before = λ i h. by_length i h (ltb i (length s)) refl }
  where
    by_length : (i : ℕ) → i < packed_at s → (t : Bool) → ltb i (length s) ≡ t → byte_at s i ≡ byte_at (blanked s) i
    by_length i h true e =
        let front : List ℕ = take (packed_at s) s in
        let l : i < length front = omega (arith, ltb-true i (length s) e, length-take (packed_at s) s) in
        sym (get_or-append front (replicate (length s - length front) 0) 0 i l ∙ get_or-take (packed_at s) s i 0 h)
    by_length i h false e =
        let l = ltb-false i (length s) e in
        get_or-eq_default s 0 l ∙ sym (get_or-eq_default (blanked s) 0 (omega (arith, length_blanked s)))
