-- Each result has one record: one of bytes that the customer reader accepts is what the writer writes of what was read, so two from which
-- the same is read are the same bytes. No code is in scope: the theorems are over the definitions.
use Rattle.std.specs.Prelude.{◌≡◌, length}
use Rattle.std.proofs.Math.Path.{sym, ap}
use Rattle.std.proofs.Common.{◌∙◌, arith}
use mathlib.Core.List.{List}
use Prim.Native.Nat.{ℕ}
use Rattle.spec.specs.ResultRecord.{customer_refusal}
use Rattle.spec.specs.ResultWriter.{written_result, write_result_refusal}
use Rattle.laws.specs.ListCost.{All}
use Rattle.laws.specs.ResultReading.{CustomerAccepts, customer_accepts}
use Rattle.laws.specs.ResultWriting.{no_result_fault, result_accepted}
use Rattle.result_round_trip.specs.FourBytes.{Byte}
use Rattle.result_round_trip.specs.ReadBack.{read_from}
use Rattle.result_round_trip.specs.OneForm.{form, writable}

module _ (s : List ℕ) (a : All Byte s) (scores inputs : ℕ) (e : 0 ≡ customer_refusal s scores inputs) where
  abbrev ok : CustomerAccepts s scores inputs
  ok = customer_accepts s scores inputs e

  -- a record of bytes that the customer reader accepts is what the writer writes of what is read from it
  pub accepted_is_written : written_result (read_from s) ≡ s
  accepted_is_written = form s a ok.as_operator ok.clean

  -- the writer accepts that, in an output as long as the record
  pub accepted_is_accepted : 0 ≡ write_result_refusal (read_from s) (length s)
  accepted_is_accepted =
      result_accepted (read_from s) (length s) (no_result_fault (read_from s) (writable s a ok.as_operator)) (omega (arith, ap length accepted_is_written))

-- two records of bytes that the customer reader accepts, and from which the same is read, are the same bytes
pub one_form : (s s' : List ℕ) → All Byte s → All Byte s' → (scores scores' inputs inputs' : ℕ) → 0 ≡ customer_refusal s scores inputs
    → 0 ≡ customer_refusal s' scores' inputs' → read_from s ≡ read_from s' → s ≡ s'
one_form s s' a a' scores scores' inputs inputs' e e' q =
    sym (accepted_is_written s a scores inputs e) ∙ ap written_result q ∙ accepted_is_written s' a' scores' inputs' e'
