-- The first row is known early: 02, wish 7. The words of the statements, and lemmas on the rows of a call. The theorems stand in proofs/FirstRow.antt.
use Rattle.std.specs.Prelude.{◌≡◌, List, ◌∷◌, ◌++◌, map, ℕ, ◌-◌, ◌<◌, ◌≤◌, take, get_or, replicate, ℤ, pos}
use Rattle.std.proofs.Common.{sym, ap₂, ◌∙◌, append_assoc, arith, take_at}
use Rattle.std.proofs.Math.Path.{ap}
use Rattle.std.proofs.Math.ListN.{length}
use Rattle.spec.specs.Code.{Code, size, frozen, frozen_bit, code_transform}
use Rattle.spec.specs.Score.{taken}
use Rattle.spec.specs.Decoder.{Row, continued, children, score_of, live, row_of}
use Rattle.spec.specs.Refusals.{Room}
use Rattle.spec.specs.Outcome.{Lent, room_of, Decoding, concat, padded, decoded_rows, decode_outcome}
use Rattle.laws.specs.ListCost.{goes}
use Rattle.laws.specs.ScoreOfChildren.{score_of_children}
use Rattle.laws.specs.DecodeCall.{AcceptedCall, accepted_faults, list_in_range, stop_in_range}
use Rattle.search.specs.ListSearch.{Leads}
use Rattle.search.specs.FirstPrefix.{Clear}

-- ---- the statement's words
-- the row of rank 0 in a call's outputs, for n positions
abbrev pub first_row : ℕ → Decoding → Row
first_row n o = record { input = take n o.left.inputs; word = take n o.left.words; score = get_or o.left.scores 0 (pos 0) }

-- a row of a code as it is known at stop position p: its input with 0 from p on, the transform of that, and its score
abbrev pub known_at : Code → ℕ → Row → Row
known_at c p r =
    let u : List ℕ = take p r.input ++ replicate (size c - p) 0 in
    record { input = u; word = code_transform c u; score = r.score }

-- every position from p on that is below q is clear
abbrev pub ClearFrom : Code → ℕ → ℕ → Type 0
ClearFrom c p q = (i : ℕ) → p ≤ i → i < q → get_or (frozen c) i 0 ≡ 0

-- ---- where a position is clear, a prefix goes on by both bits, whatever the pairs are, and scores as the better of the two
pub clear_at : (c : Code) (y : List ℤ) (l : ℕ) (some : 1 ≤ l) (i : ℕ) → i < size c → get_or (frozen c) i 0 ≡ 0
    → Clear (score_of (code_transform c) c y l) (children c) l some (goes c) i
unfolding children
clear_at c y l some i h e = record {
  kids_both = λ w. ap (λ (f : ℕ). continued f (frozen_bit c i w) w) e;
  splits = λ w long. score_of_children (code_transform c) (size c) y w (omega (arith, long));
}

-- ---- the first of rows that were written to outputs
front : (n k : ℕ) (u v : List ℕ) → length u ≡ n → take n (padded 0 k (u ++ v)) ≡ u
front n k u v e =
    let zeros : List ℕ = replicate (k - length (u ++ v)) 0 in
    ap (take n) (append_assoc u v zeros) ∙ take_at u (v ++ zeros) n e

pub first_written : (n : ℕ) (r : Row) (rs : List Row) (z : ℤ) (m : Room) → length r.input ≡ n → length r.word ≡ n → first_row n (decoded_rows m (r ∷ rs) z) ≡ r
first_written n r rs z m e f =
    ap₂ (λ (u w : List ℕ). record { input = u; word = w; score = r.score })
    (front n m.inputs r.input (concat (map (λ (x : Row). x.input) rs)) e)
    (front n m.words r.word (concat (map (λ (x : Row). x.word) rs)) f)

-- ---- the first row of a call that is accepted: it is the row of the first live prefix
module _ (c : Code) (l p : ℕ) (soft : List ℤ) (x : Lent) (a : AcceptedCall c l p soft x) where
  abbrev T : List ℕ → List ℕ
  T = code_transform c

  abbrev y : List ℤ
  y = taken soft

  pub record FirstOfCall : Type 0 where
    pub prefix : List ℕ
    pub ahead_of : Leads (score_of T c y l) prefix (live T c y l p)
    pub long : length prefix ≡ p
    pub is : first_row (size c) (decode_outcome c l p soft x) ≡ row_of T c y l prefix

  pub some_list : 1 ≤ l
  some_list = (list_in_range c l p soft (room_of x) (accepted_faults c l p soft x a)).0

  pub stop_inside : p ≤ size c
  stop_inside = stop_in_range c l p soft (room_of x) (accepted_faults c l p soft x a)

-- ---- the row as it is known at a stop position
module _ (c : Code) (l p : ℕ) (soft : List ℤ) where
  abbrev row_for : List ℕ → Row
  row_for = row_of (code_transform c) c (taken soft) l

  -- the row of a prefix of p bits, from that of a longer one with the same score
  pub known_of : (h rest : List ℕ) → length h ≡ p → score_of (code_transform c) c (taken soft) l (h ++ rest) ≡ score_of (code_transform c) c (taken soft) l h → row_for h ≡ known_at c p (row_for (h ++ rest))
  known_of h rest e same =
      let zeros : List ℕ = replicate (size c - length (h ++ rest)) 0 in
      let begins : take p ((h ++ rest) ++ zeros) ≡ h = ap (take p) (append_assoc h rest zeros) ∙ take_at h (rest ++ zeros) p e in
      ap₂ (λ (u : List ℕ) (z : ℤ). record { input = u; word = code_transform c u; score = z })
      (ap₂ (λ (v : List ℕ) (k : ℕ). v ++ replicate (size c - k) 0) (sym begins) e) (sym same)
