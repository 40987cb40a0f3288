-- What the decoder makes of a test load: 02, wish 14. Every soft value agrees with its code bit or is 0, so the payload's word correlates at
-- the sum of the magnitudes, no row scores higher, and the ceiling is that sum. No code is in scope: the theorems are over the definitions.
use Rattle.std.specs.Prelude.{◌≡◌, Bool, List, ◌++◌, ℕ, ◌≤◌, ◌<◌, take, T, ℤ, pos, nat_abs}
use Rattle.std.proofs.Common.{sym, ap, subst, ◌∙◌}
use Rattle.std.specs.Int.Signed.{le_z}
use Rattle.spec.specs.Code.{Code, size, payload_size, encoded}
use Rattle.spec.specs.Refusals.{run_faults, table_faults}
use Rattle.spec.specs.Score.{correlation, taken}
use Rattle.spec.specs.Outcome.{job, reading, read_outcome, Lent, room_of, Decoding, decode_outcome}
use Rattle.spec.specs.TestLoad.{draws, after_draws, drawn_payload, drawn_soft, load_fields, loaded, loading, load_outcome}
use Rattle.laws.specs.Cost.{magnitude}
use Rattle.laws.specs.ListCost.{All, all_map}
use Rattle.laws.specs.FirstFault.{none_before}
use Rattle.laws.specs.Accepted.{Accepted, accepted_of, code_numbers}
use Rattle.laws.specs.DecodeCall.{AcceptedCall, accepted_faults}
use Rattle.laws.specs.Agreement.{Allows, Each, allowed_at_sum}
use Rattle.laws.specs.Noise.{word_small, word_taken, word_allows}
use Rattle.laws.specs.LoadCall.{length_payload, bits_payload, bits_word, drawn_long, load_is_written, payload_given}
use Rattle.search.specs.Ceiling.{ceiling_of}
use Rattle.search.specs.CleanBlock.{no_score_above}
use Rattle.search.proofs.CleanBlock.{ceiling_at_the_sum}
use Rattle.job_round_trip.specs.DecodedAlike.{decoded_from}
use Rattle.job_round_trip.proofs.DecodedAlike.{decoded_alike}

module _ (s : ℕ) (c : Code) where
  -- the draws of the soft values
  abbrev noise : List ℕ
  noise = draws (size c) (after_draws (payload_size c) s)

  -- ---- the soft values
  -- No magnitude is above 40.
  pub load_small : All (λ (y : ℤ). nat_abs y ≤ 40) (drawn_soft s c)
  unfolding drawn_soft
  load_small = word_small (encoded c (drawn_payload s c)) noise

  -- Every soft value agrees with its code bit or is 0.
  pub load_allows : Accepted c → Each Allows (drawn_soft s c) (encoded c (drawn_payload s c))
  unfolding drawn_soft
  load_allows a = word_allows (bits_word s c) noise (drawn_long s c a)

  taken_same : taken (drawn_soft s c) ≡ drawn_soft s c
  unfolding drawn_soft
  taken_same = word_taken (encoded c (drawn_payload s c)) noise

  -- So the payload's word correlates at the sum of the magnitudes.
  pub load_at_the_sum : Accepted c → correlation (drawn_soft s c) (encoded c (drawn_payload s c)) ≡ pos (magnitude (drawn_soft s c))
  load_at_the_sum a = allowed_at_sum (load_allows a)

-- ---- the decoder's call
-- the word of a payload correlates with the soft values no lower than any score that the call left, and just at its ceiling
pub record NoneHigher (c : Code) (soft : List ℤ) (payload : List ℕ) (o : Decoding) : Type 0 where
  pub scores : All (λ (z : ℤ). T (le_z z (correlation soft (encoded c payload)))) o.left.scores
  pub top : ceiling_of o.answer ≡ correlation soft (encoded c payload)

module _ (s : ℕ) (c : Code) (l p : ℕ) (x : Lent) (a : AcceptedCall c l p (drawn_soft s c) x) where
  accepts : Accepted c
  accepts =
      accepted_of
      (none_before (run_faults (size c) l p (drawn_soft s c) ++ table_faults (size c) l (room_of x)) (code_numbers c)
      (accepted_faults c l p (drawn_soft s c) x a))

  is_sum : pos (magnitude (taken (drawn_soft s c))) ≡ correlation (drawn_soft s c) (encoded c (drawn_payload s c))
  is_sum = ap (λ (y : List ℤ). pos (magnitude y)) (taken_same s c) ∙ sym (load_at_the_sum s c accepts)

  -- At every list size and stop position no row scores higher than the payload's word correlates, and the ceiling is what it correlates.
  pub load_decoded : NoneHigher c (drawn_soft s c) (drawn_payload s c) (decode_outcome c l p (drawn_soft s c) x)
  load_decoded = record {
    scores = all_map (λ z h. subst (λ (top : ℤ). T (le_z z top)) is_sum h) (no_score_above c l p (drawn_soft s c) x a);
    top = ceiling_at_the_sum c l p (drawn_soft s c) x a (drawn_payload s c) (length_payload s c) (bits_payload s c) (load_allows s c accepts) ∙ is_sum;
  }

-- ---- from the load to the decoder, through the record
-- A load gave a record and a payload, and the reader gave fields of that record. Decoded from these the block has no row that scores higher
-- than the word of the payload correlates.
pub load_read_decoded : (s : ℕ) (c : Code) (frame : ℕ) (out payload : List ℕ) {k t : ℕ} {o p : List ℕ} → load_outcome s c frame out payload ≡ loading (loaded k t) o p
    → frame < 4294967296 → (maps : List ℕ) (softs : List ℤ) (pairs : List ℕ) {m l q fr w : ℕ} {a : Bool} {x z : List ℕ} {y : List ℤ}
    → read_outcome (take k o) maps softs pairs ≡ reading (job m a l q fr w) x y z → (lent : Lent) → AcceptedCall c 4 (size c) (drawn_soft s c) lent
    → NoneHigher c (drawn_soft s c) (take (payload_size c) p) (decoded_from m a l q w x y z lent)
load_read_decoded s c frame out payload {p = p} e h maps softs pairs {m} {l} {q} {fr} {w} {a} {x} {z} {y} told lent accepted =
    subst (λ (v : List ℕ). NoneHigher c (drawn_soft s c) v (decoded_from m a l q w x y z lent)) (sym (payload_given s c frame out payload e))
    (subst (NoneHigher c (drawn_soft s c) (drawn_payload s c))
    (sym (decoded_alike (load_fields s c frame) out (load_is_written s c frame out payload e) h maps softs pairs told lent))
    (load_decoded s c 4 (size c) lent accepted))
