-- The first word of the block plus each sum of the words of the last bits are the words of the block.
use Rattle.std.proofs.Common.{◌≡◌, ℕ, ◌/◌, ◌^◌, ◌<◌, List, map, length, ℤ, ap, sym, subst, ◌∙◌}
use Rattle.spec.specs.Bits.{Bits}
use Rattle.spec.specs.Code.{Code, payload_size}
use Rattle.spec.specs.Score.{correlation, taken}
use Rattle.laws.specs.ListCost.{All}
use Rattle.correlations.specs.Folding.{wrapped, columns, spanned}
use Rattle.correlations.specs.FoldIs.{length_columns, columns_below}
use Rattle.code.specs.Codes.{code_of}
use Rattle.payload_blocks.specs.Payloads.{generators}
use Rattle.payload_blocks.specs.Numerals.{bits_numeral}
use Rattle.payload_blocks.specs.PayloadBlocks.{length_generators, generators_words, generators_bits, bits_encoded, block_correlations}
use Rattle.payload_blocks.specs.BlockFits.{BlockFits}
use Rattle.payload_blocks.proofs.block.correlate_block.Goals as goal

module _ {c : Code} {soft : List ℤ} {cols : List ℕ} {r payload word bins : ℕ} (f : BlockFits c soft cols r payload word bins) where
  abbrev gs : List (List ℕ)
  gs = generators c r

  -- the words of the last bits are as long as there are soft values
  wide : All (λ (g : List ℕ). length g ≡ length soft) gs
  wide = subst (λ (n : ℕ). All (λ (g : List ℕ). length g ≡ n) gs) (sym f.soft_long) (generators_words c f.lent.accepts r)

  cols_are : cols ≡ columns (length soft) gs
  cols_are = f.columns_are ∙ ap (λ (n : ℕ). columns n gs) (sym f.soft_long)

  cols_long : length cols ≡ length soft
  cols_long = ap length cols_are ∙ length_columns (length soft) gs wide

  below : All (λ (x : ℕ). x < 2 ^ r) cols
  below =
      subst (λ (l : List ℕ). All (λ (x : ℕ). x < 2 ^ r) l) (sym cols_are)
      (subst (λ (k : ℕ). All (λ (x : ℕ). x < 2 ^ k) (columns (length soft) gs)) (length_generators c r)
      (columns_below (length soft) gs wide))

pub correlate-requires : goal.correlate-requires
correlate-requires c =
    let f = c.requires.0 in
    record {
      bins_long = f.bins_long;
      half = ap (λ (k : ℕ). k / 2) f.bins_long;
      cols_long = cols_long f;
      word_long = c.put_word.auto.word ∙ f.lent.word_long ∙ sym f.soft_long;
      cols_below = below f;
      in_range = f.in_range;
    }

pub returns : goal.returns
returns c =
    let of : Code = code_of c.args.code in
    let y : List ℤ = taken c.args.soft.now in
    let r : ℕ = c.args.r in
    c.correlate.ensures (generators of r) (length_generators of r) (wide c.requires.0) (generators_bits of r)
    (subst Bits (sym c.put_word.ensures) (bits_encoded of (bits_numeral (payload_size of) c.args.q))) (cols_are c.requires.0)
    ∙ ap (λ (v : List ℕ). map wrapped (map (correlation y) (spanned v (generators of r)))) c.put_word.ensures
    ∙ ap (map wrapped) (block_correlations of y r c.args.q c.requires.1 c.requires.2)
