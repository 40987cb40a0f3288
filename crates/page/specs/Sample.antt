-- Pages by the definitions: the sample's result record, others behind it, every refusal, and lines of each kind.
use Rattle.std.specs.Prelude.{◌≡◌, refl, List, [], ◌∷◌, ◌++◌, map, ℕ, take, replicate, pos, negsuc}
use Rattle.spec.specs.Faults.{first}
use Rattle.spec.specs.ResultRecord.{scores_from, rising, operator_refusal, operator_served, operator_outcome}
use Rattle.spec.specs.ResultExamples.{sample_bytes, past_sample}
use Rattle.text.specs.Decimal.{digits, decimal}
use Rattle.columns.specs.Columns.{right, left}
use Rattle.page.specs.Lines.{lead, result_line, refused_line, last_line}
use Rattle.page.specs.Page.{Entry, entry, stopped, another, shift_from, entry_lines, row_sum, page_of, page}

-- `         0      2           13            2`, and the last line, `         1      2` with 26 spaces
pub sample_page : page sample_bytes
    ≡ (replicate 9 32 ++ (48 ∷ replicate 6 32) ++ (50 ∷ replicate 11 32) ++ (49 ∷ 51 ∷ replicate 12 32) ++ (50 ∷ 10 ∷ []))
    ++ (replicate 9 32 ++ (49 ∷ replicate 6 32) ++ (50 ∷ replicate 26 32) ++ (10 ∷ []))
unfolding sample_bytes page page_of shift_from entry_lines row_sum operator_outcome operator_served operator_refusal first rising scores_from result_line last_line right lead decimal digits
sample_page = refl

-- ---- what is read of an input
-- nothing; a packed bit past n, of which the operator is told nothing; two records, the second with one row, whose score is -5
unfoldable pub good : List (List ℕ)
good = [] ∷ past_sample ∷ (past_sample ++ (3 ∷ 2 ∷ 1 ∷ 7 ∷ 0 ∷ 0 ∷ 0 ∷ 1 ∷ 0 ∷ 0 ∷ 0 ∷ 251 ∷ 255 ∷ 255 ∷ 255 ∷ 255 ∷ [])) ∷ []

abbrev first_entry : Entry
first_entry = entry 0 2 (pos 13 ∷ pos 11 ∷ [])

pub read_all : map (shift_from 1000) good
    ≡ stopped 0 ∷ another first_entry (stopped 0) ∷ another first_entry (another (entry 7 1 (negsuc 4 ∷ [])) (stopped 0)) ∷ []
unfolding good sample_bytes past_sample shift_from operator_outcome operator_served operator_refusal first rising scores_from
read_all = refl

-- behind the sample: 14 by its first byte, 13 for fewer than three, 1, 4 for no row and for 33, 13 for a record that stops sooner, 22 for
-- scores that rise, for a present frame number 0 and for a present ceiling equal to the first score
unfoldable pub bad : List (List ℕ)
bad =
    (4 ∷ [])
    ∷ (3 ∷ 11 ∷ [])
    ∷ (3 ∷ 11 ∷ 0 ∷ [])
    ∷ (3 ∷ 2 ∷ 0 ∷ [])
    ∷ (3 ∷ 2 ∷ 33 ∷ [])
    ∷ take 12 sample_bytes
    ∷ (0 ∷ 2 ∷ 2 ∷ 1 ∷ 0 ∷ 0 ∷ 0 ∷ 2 ∷ 0 ∷ 0 ∷ 0 ∷ 16 ∷ 16 ∷ sample_bytes)
    ∷ (1 ∷ 2 ∷ 1 ∷ 0 ∷ 0 ∷ 0 ∷ 0 ∷ 2 ∷ 0 ∷ 0 ∷ 0 ∷ 16 ∷ sample_bytes)
    ∷ (2 ∷ 2 ∷ 1 ∷ 2 ∷ 0 ∷ 0 ∷ 0 ∷ 2 ∷ 0 ∷ 0 ∷ 0 ∷ 16 ∷ sample_bytes)
    ∷ []

pub refused_behind : map (λ (s : List ℕ). shift_from 1000 (sample_bytes ++ s)) bad
    ≡ map (λ (k : ℕ). another first_entry (stopped k)) (14 ∷ 13 ∷ 1 ∷ 4 ∷ 4 ∷ 13 ∷ 22 ∷ 22 ∷ 22 ∷ [])
unfolding bad sample_bytes shift_from operator_outcome operator_served operator_refusal first rising scores_from
refused_behind = refl

-- where one record may come: its end is the end, and any byte behind it is 23, one that is 14 elsewhere too
pub one_too_many : map (λ (s : List ℕ). shift_from 1 (sample_bytes ++ s)) ([] ∷ (4 ∷ []) ∷ sample_bytes ∷ [])
    ≡ map (λ (k : ℕ). another first_entry (stopped k)) (0 ∷ 23 ∷ 23 ∷ [])
unfolding sample_bytes shift_from operator_outcome operator_served operator_refusal first rising scores_from
one_too_many = refl

-- ---- lines
-- `     65535      1        -2047            -`, `         1      2         2047         4094`, `refused 23` and 33 spaces, and the last
-- line, `      1000  32000` and 26 spaces
pub lines : result_line 65535 1 (negsuc 2046 ∷ []) ∷ result_line 1 2 (pos 2047 ∷ negsuc 2046 ∷ []) ∷ refused_line 23 ∷ last_line 1000 32000 ∷ []
    ≡ (replicate 5 32 ++ (54 ∷ 53 ∷ 53 ∷ 51 ∷ 53 ∷ replicate 6 32) ++ (49 ∷ replicate 8 32) ++ (45 ∷ 50 ∷ 48 ∷ 52 ∷ 55 ∷ replicate 12 32) ++ (45 ∷ 10 ∷ []))
    ∷ (replicate 9 32 ++ (49 ∷ replicate 6 32) ++ (50 ∷ replicate 9 32) ++ (50 ∷ 48 ∷ 52 ∷ 55 ∷ replicate 9 32) ++ (52 ∷ 48 ∷ 57 ∷ 52 ∷ 10 ∷ []))
    ∷ ((114 ∷ 101 ∷ 102 ∷ 117 ∷ 115 ∷ 101 ∷ 100 ∷ 32 ∷ 50 ∷ 51 ∷ replicate 33 32) ++ (10 ∷ []))
    ∷ (replicate 6 32 ++ (49 ∷ 48 ∷ 48 ∷ 48 ∷ 32 ∷ 32 ∷ 51 ∷ 50 ∷ 48 ∷ 48 ∷ 48 ∷ replicate 26 32) ++ (10 ∷ []))
    ∷ []
unfolding result_line refused_line last_line right left lead decimal digits
lines = refl
