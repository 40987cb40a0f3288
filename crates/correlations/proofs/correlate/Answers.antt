-- The bins of the positions, folded, are the correlations.
use Rattle.std.proofs.Common.{◌≡◌, ℕ, ◌^◌, ◌<◌, List, map, length, replicate, ℤ, pos, sym, ap, ◌∙◌, ap₂}
use lib.ListN.{length-map}
use Rattle.spec.specs.Bits.{Bits}
use Rattle.spec.specs.Score.{saturated, correlation, taken}
use Rattle.laws.specs.ListCost.{All, all_map}
use Rattle.correlations.specs.Folding.{wrapped, folded, binned, signed_by, columns, spanned}
use Rattle.correlations.specs.FoldIs.{fold_is}
use Rattle.correlations.proofs.correlate.Goals as goal

-- the bins of the positions, folded; as many soft values are taken as there are
correlated : (r n : ℕ) (cols word : List ℕ) (soft : List ℤ) (gs : List (List ℕ)) → n ≡ 2 ^ r → length word ≡ length soft
    → length gs ≡ r → All (λ (g : List ℕ). length g ≡ length soft) gs → All Bits gs → Bits word → cols ≡ columns (length soft) gs
    → folded r (binned cols (signed_by (taken soft) word) (replicate n (pos 0))) ≡ map (correlation (taken soft)) (spanned word gs)
correlated r n cols word soft gs en ew er a b t ec =
    let y : List ℤ = taken soft in
    let same : length soft ≡ length y = sym (length-map soft saturated) in
    ap₂ (λ (k : ℕ) (cs : List ℕ). folded r (binned cs (signed_by y word) (replicate k (pos 0)))) en (ec ∙ ap (λ (k : ℕ). columns k gs) same)
    ∙ ap (λ (k : ℕ). folded k (binned (columns (length y) gs) (signed_by y word) (replicate (2 ^ k) (pos 0)))) (sym er)
    ∙ fold_is y word gs (ew ∙ same) t (all_map (λ g e. e ∙ same) a) b

pub bin_positions-requires : goal.bin_positions-requires
bin_positions-requires c =
    let f = c.requires in
    (f.word_long, f.cols_long, all_map (λ (k : ℕ) (l : k < 2 ^ c.args.r). rw f.bins_long l) f.cols_below, f.in_range)

pub returns : goal.returns
returns c gs er a b t ec =
    c.fold.ensures _ c.bin_positions.ensures
    ∙ ap (map wrapped)
    (correlated c.args.r _ c.args.cols.now c.args.word.now c.args.soft.now gs c.requires.bins_long c.requires.word_long er a b t ec)
