-- The ceiling over the whole code: 02, wish 5. What its equality with the first score says of the first row at stop n.
use Rattle.std.specs.Prelude.{◌≡◌}
use Rattle.std.proofs.Common.{sym, ◌∙◌}
use Rattle.std.proofs.Math.Path.{ap, subst}
use mathlib.Core.List.{List}
use Prim.Native.Nat.{ℕ}
use Rattle.std.proofs.Math.IntN.{ℤ}
use Rattle.spec.specs.Code.{Code, size, code_transform, encoded}
use Rattle.spec.specs.Score.{taken}
use Rattle.spec.specs.Decoder.{score_of, live}
use Rattle.spec.specs.Outcome.{Lent, Decoding}
use Rattle.laws.specs.DecodeCall.{AcceptedCall}
use Rattle.search.specs.ListSearch.{In, leads_in}
use Rattle.search.specs.CodeInputs.{live_input}
use Rattle.search.specs.FirstRow.{first_row}
use Rattle.search.specs.Ceiling.{ceiling_of, CodeRow, NoneAbove, BestRow, whole_row, row_of_whole, flags, no_code_word_above}
use Rattle.search.specs.Ceiling as ceilings
use Rattle.search.proofs.FirstRow.{first_of_call}

module _ (c : Code) (l : ℕ) (soft : List ℤ) (x : Lent) (a : AcceptedCall c l (size c) soft x) where
  -- what an accepted call at stop n comes to
  abbrev whole : Decoding
  whole = ceilings.whole c l soft x

  -- At stop n the first row is a row of the code.
  pub first_row_in_code : CodeRow c soft (first_row (size c) whole)
  unfolding encoded
  first_row_in_code =
      let f = first_of_call c l (size c) soft x a in
      let s : List ℕ → ℤ = score_of (code_transform c) c (taken soft) l in
      let g = live_input c s l (subst (λ (n : ℕ). In f.prefix (live (code_transform c) c (taken soft) l n)) (sym (flags c l (size c) soft x a)) (leads_in s f.ahead_of)) in
      record {
        payload = g.payload;
        long = g.long;
        bits = g.bits;
        is = f.is ∙ row_of_whole (code_transform c) c (taken soft) l f.prefix f.long ∙ ap (whole_row (code_transform c) c (taken soft) l) g.is;
      }

  -- At stop n, with ceiling and first score equal, the first row is a best word: a row of the code, and no word of the code correlates higher.
  pub first_row_is_best : ceiling_of whole.answer ≡ (first_row (size c) whole).score → BestRow c soft (first_row (size c) whole)
  first_row_is_best e = record { in_code = first_row_in_code; none_above = subst (NoneAbove c soft) e (no_code_word_above c l (size c) soft x a) }
