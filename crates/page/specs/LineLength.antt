-- Lines of 43 columns, each a space or a visible character, with a line feed behind them: that the line of a refusal and the last line are
-- such lines, and that what is read of bytes has numbers that fit into their columns.
use Rattle.std.specs.Prelude.{◌≡◌, refl, Bool, true, false, cond, List, [], ◌∷◌, ◌++◌, ℕ, zero, suc, ◌+◌, ◌-◌, ◌*◌, ◌/◌, ◌%◌, ◌≤◌, ◌<◌, ltb, length, take, drop, ℤ, pos, negsuc, ◌-ℤ◌}
use Rattle.std.proofs.Common.{sym, subst, append-nil, arith, ltb-true, length-append}
use Rattle.std.proofs.lemmas.List.{length-replicate}
use Rattle.spec.specs.Faults.{Fault, fault, first, outside, some}
use Rattle.spec.specs.ResultRecord.{rising, result_end, ResultAnswer, result_says, refused_result, operator_faults, operator_refusal}
use Rattle.laws.specs.FirstFault.{not_either, inside_of}
use Rattle.laws.specs.ListCost.{All, none, more, all_take, all_drop, all_append}
use Rattle.result_round_trip.specs.FourBytes.{Wide, Byte}
use Rattle.result_round_trip.specs.OneForm.{read_fits}
use Rattle.text.specs.Decimal.{digits, decimal, signed_decimal, decimal_32, decimal_length}
use Rattle.text.specs.Words.{refused_word, space, line_feed}
use Rattle.columns.specs.Columns.{spaces, right, left, length_right, length_left}
use Rattle.page.specs.Lines.{lead, counts, refused_line, last_line}
use Rattle.page.specs.Page.{record_in, operator_says, Entry, entry, answered, Shift, stopped, another, at_end, shift_from, row_sum}
use Rattle.page.specs.Heard.{refused_number, frame_is, scores_are, few_rows, falling}

-- ---- columns that show something: a space or a visible character of ASCII
abbrev pub Shown : ℕ → Type 0
Shown b = (32 ≤ b) × (b < 127)

-- by a test of each, which can be computed
shown_by_test : (xs : List ℕ) → some (outside 32 126) xs ≡ false → All Shown xs
unfolding some
shown_by_test [] e = none
shown_by_test (b ∷ xs) e =
    let both = not_either (outside 32 126 b) (some (outside 32 126) xs) e in
    let h = inside_of 32 126 b both.0 in
    more (h.0, omega (arith, h.1)) (shown_by_test xs both.1)

spaces_shown : (k : ℕ) → All Shown (spaces k)
spaces_shown zero = none
spaces_shown (suc k) = more {x = 32} (omega arith, omega arith) (spaces_shown k)

pub right_shown : (w : ℕ) {xs : List ℕ} → All Shown xs → All Shown (right w xs)
unfolding right
right_shown w {xs} a = all_append (spaces_shown (w - length xs)) a

digits_shown : (fuel n : ℕ) → All Shown (digits fuel n)
unfolding digits
digits_shown zero n = none
digits_shown (suc fuel) n = by_test (ltb n 10) refl (digits_shown fuel (n / 10))
  where
    by_test : (b : Bool) → ltb n 10 ≡ b → All Shown (digits fuel (n / 10)) → All Shown (cond b ((48 + n) ∷ []) (digits fuel (n / 10) ++ ((48 + n % 10) ∷ [])))
    by_test true e a = let h = ltb-true n 10 e in more {x = 48 + n} (omega arith, omega arith) none
    by_test false e a = all_append a (more {x = 48 + n % 10} (omega arith, omega arith) none)

decimal_shown : (n : ℕ) → All Shown (decimal n)
unfolding decimal
decimal_shown n = digits_shown (suc n) n

minus_shown : {xs : List ℕ} → All Shown xs → All Shown (45 ∷ xs)
minus_shown a = more {x = 45} (omega arith, omega arith) a

pub signed_shown : (z : ℤ) → All Shown (signed_decimal z)
signed_shown (pos n) = decimal_shown n
signed_shown (negsuc n) = minus_shown (decimal_shown (suc n))

pub lead_shown : (ys : List ℤ) → All Shown (lead ys)
unfolding lead
lead_shown [] = minus_shown none
lead_shown (y ∷ []) = minus_shown none
lead_shown (y ∷ z ∷ ys) = signed_shown (y -ℤ z)

pub space_shown : {xs : List ℕ} → All Shown xs → All Shown (space ++ xs)
space_shown a = more {x = 32} (omega arith, omega arith) a

pub counts_shown : (a b : ℕ) → All Shown (counts a b)
counts_shown a b = all_append (all_append (right_shown 10 (decimal_shown a)) (space_shown none)) (right_shown 6 (decimal_shown b))

-- ---- a line: 43 such columns and a line feed
pub record Line (line : List ℕ) : Type 0 where
  pub columns : List ℕ
  pub long : length columns ≡ 43
  pub shown : All Shown columns
  pub is : line ≡ columns ++ line_feed

pub counts_long : (a b : ℕ) → a < 4294967296 → b < 1000000 → length (counts a b) ≡ 17
counts_long a b h g =
    omega (
      arith,
      length-append (right 10 (decimal a) ++ space) (right 6 (decimal b)),
      length-append (right 10 (decimal a)) space,
      length_right 10 (decimal a) (decimal_32 a h),
      length_right 6 (decimal b) (decimal_length 5 b (omega arith)),
    )

pub refused_line_lem : (k : ℕ) → k < 4294967296 → Line (refused_line k)
unfolding refused_line left some
refused_line_lem k h =
    let text : List ℕ = refused_word ++ decimal k in
    record {
      columns = left 43 text;
      long = length_left 43 text (omega (arith, length-append refused_word (decimal k), decimal_32 k h));
      shown = all_append (all_append (shown_by_test refused_word refl) (decimal_shown k)) (spaces_shown (43 - length text));
      is = refl;
    }

pub last_line_lem : (k rows : ℕ) → k < 4294967296 → rows < 1000000 → Line (last_line k rows)
unfolding last_line
last_line_lem k rows h g = record {
  columns = counts k rows ++ spaces 26;
  long = omega (arith, length-append (counts k rows) (spaces 26), length-replicate {A = ℕ} 26 32, counts_long k rows h g);
  shown = all_append (counts_shown k rows) (spaces_shown 26);
  is = refl;
}

-- an entry whose numbers are those of a record: of 32 bits, at most 32 rows, scores that do not rise
pub record Small (e : Entry) : Type 0 where
  pub frame : e.frame < 4294967296
  pub rows : e.rows ≤ 32
  pub scores : All Wide e.scores
  pub falling : rising e.scores ≡ false

-- ---- a refusal number has at most two digits
number_of : Fault → ℕ
number_of (fault k b) = k

first_below : (fs : List Fault) → All (λ (f : Fault). number_of f < 100) fs → first fs < 100
unfolding first number_of
first_below [] none = omega arith
first_below (fault k true ∷ fs) (more h all) = h
first_below (fault k false ∷ fs) (more h all) = first_below fs all

refusal_below : (t : List ℕ) (scores : ℕ) → operator_refusal t scores < 100
unfolding operator_refusal number_of
refusal_below t scores = first_below (operator_faults t scores)
    (more (omega arith) (more (omega arith) (more (omega arith) (more (omega arith) (more (omega arith)
    (more (omega arith) (more (omega arith) (more (omega arith) (more (omega arith) (more (omega arith) none))))))))))

-- ---- what is read of bytes
-- small entries, not more than may come, and a refusal number of two digits
pub record Fine (left : ℕ) (x : Shift) : Type 0 where
  pub entries : All Small x.entries
  pub few : length x.entries ≤ left
  pub number : x.refusal < 100

stop_fine : (left k : ℕ) → k < 100 → Fine left (stopped k)
stop_fine left k h = record { entries = none; few = omega arith; number = h }

-- what the operator reader says of bytes: a number, or a small entry
answer_fine : (t : List ℕ) → All Byte t → (left : ℕ) (x : Shift) → Fine left x → (a : ResultAnswer) → (operator_says t).answer ≡ a
    → Fine (suc left) (answered a (operator_says t).scores stopped (λ e. another e x))
answer_fine t bytes left x fine (refused_result n) q = stop_fine (suc left) n (omega (arith, refused_number t n q, refusal_below t 32))
answer_fine t bytes left x fine (result_says m r f z) q =
    let fits = read_fits t bytes in
    let small : Small (entry f r (take r (operator_says t).scores)) = record {
      frame = omega (arith, fits.frame, frame_is t q);
      rows = few_rows t q;
      scores = subst (All Wide) (sym (scores_are t q)) fits.scores;
      falling = falling t q;
    } in
    record { entries = more small fine.entries; few = omega (arith, fine.few); number = fine.number }

-- the end of the input, or something more
end_fine : (left : ℕ) (s : List ℕ) (x : Shift) → Fine left x → Fine left (at_end s (stopped 0) x)
end_fine left [] x fine = stop_fine left 0 (omega arith)
end_fine left (b ∷ s) x fine = fine

pub shift_fine : (left : ℕ) (s : List ℕ) → All Byte s → Fine left (shift_from left s)
unfolding shift_from
shift_fine zero s bytes = end_fine 0 s (stopped 23) (stop_fine 0 23 (omega arith))
shift_fine (suc left) s bytes =
    let t : List ℕ = record_in s in
    let behind : List ℕ = drop (result_end s) s in
    end_fine (suc left) s (answered (operator_says t).answer (operator_says t).scores stopped (λ e. another e (shift_from left behind)))
    (answer_fine t (all_take (result_end s) bytes) left (shift_from left behind) (shift_fine left behind (all_drop (result_end s) bytes)) (operator_says t).answer refl)

-- ---- the page in lines
pub data InLines : List ℕ → Type 0 where
  no_line : InLines []
  a_line : (line behind : List ℕ) → Line line → InLines behind → InLines (line ++ behind)

pub one_line : (line : List ℕ) → Line line → InLines line
one_line line h = subst InLines (append-nil line) (a_line line [] h no_line)

pub rows_few : (es : List Entry) → All Small es → row_sum es ≤ 32 * length es
unfolding row_sum
rows_few [] none = omega arith
rows_few (e ∷ es) (more h all) = omega (arith, h.rows, rows_few es all)
