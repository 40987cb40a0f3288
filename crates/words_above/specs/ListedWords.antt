-- The words of a code at a mark or above, as they are listed: 02, wish 10. Every row is a code word there, every code word there has one
-- row, and the inputs rise bit by bit.
use Rattle.std.specs.Prelude.{◌≡◌, refl, true, false, not, ◌⊎◌, ℕ, ◌<◌, length, get_or, T, ltb}
use Rattle.std.proofs.Common.{sym, subst, ◌∙◌, inl, inr, arith, ltb→lt, nltb→le}
use Rattle.std.proofs.Math.Path.{ap}
use mathlib.Core.List.{List, []}
use Rattle.std.proofs.Math.IntN.{ℤ}
use Rattle.std.specs.Int.Signed.{le_z}
use Rattle.spec.specs.Bits.{Bits}
use Rattle.spec.specs.Code.{Code, payload_size, code_transform, encoded}
use Rattle.spec.specs.Score.{correlation, taken}
use Rattle.spec.specs.Decoder.{Row, lex_before}
use Rattle.spec.specs.SignedOrder.{tested, le_z_trans}
use Rattle.spec.specs.WordsAbove.{word_row, reaches, words_above}
use Rattle.laws.specs.Accepted.{Accepted, flag_count}
use Rattle.laws.specs.Inputs.{length_input, bits_input}
use Rattle.laws.specs.CodeTransform.{transform_injective}
use Rattle.laws.specs.ListCost.{All, none, more, all_map, all_under, all_at}
use Rattle.search.specs.ListSearch.{In, all_in}
use Rattle.search.specs.CodeInputs.{Input}
use Rattle.search.specs.Ceiling.{row_of_payload, CodeRow}
use Rattle.words_above.specs.ListsInOrder.{all_kept, in_kept, in_map, Ordered, ordered_kept, ordered_at, ordered_map}
use Rattle.words_above.specs.ListedInputs.{Before, never_before_itself, listed_inputs, input_listed, listed_inputs_rise}

-- the rows at a mark or above, for the soft values as they are taken
abbrev pub listed : Code → List ℤ → ℤ → List Row
listed c soft mark = words_above (code_transform c) c (taken soft) mark

module _ (c : Code) (soft : List ℤ) (mark : ℤ) where
  -- a row of the code whose score is at the mark or above
  record AtMark (r : Row) : Type 0 where
    in_code : CodeRow c soft r
    reached : T (le_z mark r.score)

  all_at_mark : All AtMark (listed c soft mark)
  unfolding words_above encoded
  all_at_mark =
      let y : List ℤ = taken soft in
      all_under (word_row (code_transform c) c y) AtMark
      (all_kept (reaches (code_transform c) c y mark)
      (all_map (λ (u : List ℕ) (g : Input c u). λ t. record {
        in_code = record { payload = g.payload; long = g.long; bits = g.bits; is = ap (word_row (code_transform c) c y) g.is };
        reached = t;
      }) (listed_inputs c)))

  -- Every row that is listed is that of a payload of k bits, and its score is at the mark or above.
  pub listed_is_code_word : (r : Row) → In r (listed c soft mark) → CodeRow c soft r × T (le_z mark r.score)
  listed_is_code_word r i = let a = all_in all_at_mark i in (a.in_code, a.reached)

  -- Every payload whose word correlates at the mark or above has its row in the list.
  pub code_word_is_listed : (payload : List ℕ) → Bits payload → T (le_z mark (correlation (taken soft) (encoded c payload)))
      → In (row_of_payload c soft payload) (listed c soft mark)
  unfolding words_above encoded
  code_word_is_listed payload t h =
      in_map (word_row (code_transform c) c (taken soft)) (in_kept (reaches (code_transform c) c (taken soft) mark) (input_listed c t) h)

  -- Where no word of the code correlates at the mark or above, nothing is listed.
  pub none_listed : ((payload : List ℕ) → length payload ≡ payload_size c → Bits payload → le_z mark (correlation (taken soft) (encoded c payload)) ≡ false)
      → listed c soft mark ≡ []
  none_listed below = go all_at_mark
    where
      go : {rs : List Row} → All AtMark rs → rs ≡ []
      go none = refl
      go (more a b) =
          let g = a.in_code in
          absurd (subst T (ap (λ (s : Row). le_z mark s.score) g.is ∙ below g.payload g.long g.bits) a.reached)

  -- the row at a place; past the last it is d, whatever that is
  abbrev pub row_at : Row → ℕ → Row
  row_at d i = get_or (listed c soft mark) i d

  rise : Ordered (λ (r s : Row). Before r.input s.input) (listed c soft mark)
  unfolding words_above
  rise = ordered_map (word_row (code_transform c) c (taken soft)) (ordered_kept (reaches (code_transform c) c (taken soft) mark) (listed_inputs_rise c))

  -- The inputs rise bit by bit: of two rows the one that is further in front has the smaller bit at the first place where their inputs differ.
  pub inputs_rise : (d : Row) (i j : ℕ) → i < j → j < length (listed c soft mark)
      → (lex_before (row_at d i).input (row_at d j).input ≡ true) × (lex_before (row_at d j).input (row_at d i).input ≡ false)
  inputs_rise d i j h k = let b = ordered_at d rise i j h k in (b.before, b.not_after)

-- two rows of a code with the same word have the same input
same_input : {c : Code} (a : Accepted c) (soft : List ℤ) (r s : Row) → CodeRow c soft r → CodeRow c soft s → r.word ≡ s.word → r.input ≡ s.input
unfolding encoded
same_input {c} a soft r s p q e =
    ap (λ (x : Row). x.input) p.is
    ∙ transform_injective c.arikan c.m (row_of_payload c soft p.payload).input (row_of_payload c soft q.payload).input
    (bits_input c p.bits) (bits_input c q.bits) (length_input c p.bits ∙ flag_count a) (length_input c q.bits ∙ flag_count a)
    (sym (ap (λ (x : Row). x.word) p.is) ∙ e ∙ ap (λ (x : Row). x.word) q.is)
    ∙ sym (ap (λ (x : Row). x.input) q.is)

module _ {c : Code} (a : Accepted c) (soft : List ℤ) (mark : ℤ) where
  -- No word is listed twice: two places that hold the same word are one.
  pub listed_once : (d : Row) (i j : ℕ) → i < length (listed c soft mark) → j < length (listed c soft mark)
      → (row_at c soft mark d i).word ≡ (row_at c soft mark d j).word → i ≡ j
  listed_once d i j h k e = go (tested (ltb i j)) (tested (ltb j i))
    where
      row : (i : ℕ) → i < length (listed c soft mark) → CodeRow c soft (row_at c soft mark d i)
      row i h = (all_at d (all_at_mark c soft mark) i h).in_code

      apart : (i j : ℕ) → i < j → j < length (listed c soft mark) → (row_at c soft mark d i).word ≡ (row_at c soft mark d j).word → ⊥
      apart i j l k e =
          let same : (row_at c soft mark d i).input ≡ (row_at c soft mark d j).input = same_input a soft (row_at c soft mark d i) (row_at c soft mark d j) (row i (omega arith)) (row j k) e in
          never_before_itself (subst (Before (row_at c soft mark d i).input) (sym same) (ordered_at d (rise c soft mark) i j l k))

      go : T (ltb i j) ⊎ T (not (ltb i j)) → T (ltb j i) ⊎ T (not (ltb j i)) → i ≡ j
      go (inl l) m = absurd (apart i j (ltb→lt i j l) k e)
      go (inr l) (inl m) = absurd (apart j i (ltb→lt j i m) h (sym e))
      go (inr l) (inr m) = omega (arith, nltb→le i j l, nltb→le j i m)

  -- a place that holds the row of a payload, and the only one with its word
  pub record Once (d : Row) (payload : List ℕ) : Type 0 where
    pub place : ℕ
    pub inside : place < length (listed c soft mark)
    pub is : row_at c soft mark d place ≡ row_of_payload c soft payload
    pub alone : (j : ℕ) → j < length (listed c soft mark) → (row_at c soft mark d j).word ≡ encoded c payload → j ≡ place

-- What is listed at a mark is listed at every lower one.
pub higher_mark_fewer : (c : Code) (soft : List ℤ) (low high : ℤ) → T (le_z low high) → (r : Row) → In r (listed c soft high) → In r (listed c soft low)
higher_mark_fewer c soft low high h r i =
    let a = all_in (all_at_mark c soft high) i in
    let g : CodeRow c soft r = a.in_code in
    subst (λ (s : Row). In s (listed c soft low)) (sym g.is)
    (code_word_is_listed c soft low g.payload g.bits
    (subst (λ (s : Row). T (le_z low s.score)) g.is (le_z_trans low high r.score h a.reached)))
