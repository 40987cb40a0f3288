-- The words of a code at a mark or above, as they are listed: 02, wish 10. Each is listed exactly once.
use Rattle.std.specs.Prelude.{ℕ, T}
use Rattle.std.proofs.Common.{sym, ◌∙◌}
use Rattle.std.proofs.Math.Path.{ap}
use mathlib.Core.List.{List}
use Rattle.std.proofs.Math.IntN.{ℤ}
use Rattle.std.specs.Int.Signed.{le_z}
use Rattle.spec.specs.Bits.{Bits}
use Rattle.spec.specs.Code.{Code, encoded}
use Rattle.spec.specs.Score.{correlation, taken}
use Rattle.spec.specs.Decoder.{Row}
use Rattle.laws.specs.Accepted.{Accepted}
use Rattle.words_above.specs.ListsInOrder.{place_of}
use Rattle.words_above.specs.ListedWords.{code_word_is_listed, listed_once, Once}

module _ {c : Code} (a : Accepted c) (soft : List ℤ) (mark : ℤ) where
  -- Every code word at the mark or above is listed exactly once.
  pub listed_exactly_once : (d : Row) (payload : List ℕ) → Bits payload → T (le_z mark (correlation (taken soft) (encoded c payload))) → Once a soft mark d payload
  listed_exactly_once d payload t h =
      let p = place_of d (code_word_is_listed c soft mark payload t h) in
      record {
        place = p.at;
        inside = p.inside;
        is = p.is;
        alone = λ j k e. listed_once a soft mark d j p.at k p.inside (e ∙ sym (ap (λ (r : Row). r.word) p.is));
      }
