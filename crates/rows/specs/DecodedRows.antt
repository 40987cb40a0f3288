-- The rows of the paper decoder are what the three calls leave in the lent outputs.
use Rattle.std.specs.Prelude.{◌≡◌, refl, ℕ, ◌-◌, ◌<◌, ◌≤◌, take, get_or, replicate, ℤ, pos}
use Rattle.std.proofs.Math.Path.{sym, ap}
use Rattle.std.proofs.Common.{ap₂, ◌∙◌, arith}
use mathlib.Core.List.{List, [], ◌∷◌, map, map-map}
use Rattle.std.proofs.Math.ListN.{length}
use Rattle.std.proofs.lemmas.List.{length-map}
use Rattle.std.proofs.Math.Seq.{length-take-le, get_or-take, ext_get_or}
use Rattle.spec.specs.Code.{Code, size, code_transform}
use Rattle.spec.specs.Score.{score}
use Rattle.spec.specs.Decoder.{Row, live, row_of, rows}
use Rattle.spec.specs.Refusals.{Room}
use Rattle.spec.specs.Outcome.{padded, concat, decoded, lent, decoding, decoded_rows}
use Rattle.laws.specs.Cost.{magnitude}
use Rattle.laws.specs.ScoreCost.{score_from}
use Rattle.laws.specs.CodeScore.{code_cost, code_score}
use Rattle.laws.specs.ListCost.{All, none, more, Prefix, live_long, live_prefix, all_at}
use Rattle.rows.specs.Blocks.{AllWide, filled_row, rows_of, rows_back, wide_filled, get_d_map}
use Rattle.rows.specs.Trace.{Traced, InputsWritten, prefixes_back, prefixes_back_lem}
use Rattle.rows.specs.Words.{WordsWritten}
use Rattle.rows.specs.Scores.{ScoresWritten}

-- ---- lists
module _ {A : Type 0} {P : A → Type 0} where
  map_same : {B : Type 0} (f g : A → B) → ((x : A) → P x → f x ≡ g x) → {xs : List A} → All P xs → map f xs ≡ map g xs
  map_same f g e none = refl
  map_same {B} f g e (more {x} p a) = ap₂ (λ (v : B) (vs : List B). v ∷ vs) (e x p) (map_same f g e a)

-- ---- a block
-- the live prefixes after p positions
abbrev pub prefixes : Code → List ℤ → ℕ → ℕ → List (List ℕ)
prefixes c y l p = live (code_transform c) c y l p

-- costs of the live prefixes, by rank
abbrev pub RowCosts : Code → List ℤ → ℕ → ℕ → List ℕ → Type 0
RowCosts c y l p costs = (r : ℕ) → r < length (prefixes c y l p) → get_or costs r 0 ≡ code_cost c y (get_or (prefixes c y l p) r [])

-- A block decoded up to p: its live prefixes lie in the history g and have these costs, and the three calls have written its outputs.
pub record BlockWritten (c : Code) (y : List ℤ) (l p count total : ℕ) (g costs inputs words : List ℕ) (scores : List ℤ) (room : Room) : Type 0 where
  pub list : l ≤ 32
  pub stop : p ≤ size c
  pub soft : length y ≡ size c
  pub few : length (prefixes c y l p) ≡ count
  pub traced : Traced l p g (prefixes c y l p)
  pub there : count ≤ length costs
  pub costs_are : RowCosts c y l p costs
  pub total_is : total ≡ magnitude y
  pub inputs_left : InputsWritten l p (size c) count room.inputs g inputs
  pub words_left : WordsWritten c.m c.arikan (size c) count room.words inputs words
  pub scores_left : ScoresWritten total count room.scores costs scores

module _ {c : Code} {y : List ℤ} {l p count total : ℕ} {g costs inputs words : List ℕ} {scores : List ℤ} {room : Room}
    (b : BlockWritten c y l p count total g costs inputs words scores room) where
  ps : List (List ℕ)
  ps = prefixes c y l p

  T : List ℕ → List ℕ
  T = code_transform c

  row : List ℕ → Row
  row = row_of T c y l

  filled : List (List ℕ)
  filled = map (filled_row (size c)) ps

  held : inputs ≡ padded 0 room.inputs (concat filled)
  unfolding ps filled
  held =
      let back : prefixes_back l g p count ≡ ps = ap (prefixes_back l g p) (sym b.few) ∙ prefixes_back_lem l p g ps b.list b.traced in
      b.inputs_left ∙ ap (λ (xs : List (List ℕ)). padded 0 room.inputs (concat (map (filled_row (size c)) xs))) back

  pub inputs_are : inputs ≡ padded 0 room.inputs (concat (map (λ (r : Row). r.input) (rows (code_transform c) c y l p)))
  unfolding ps T row filled rows
  inputs_are = held ∙ ap (λ (xs : List (List ℕ)). padded 0 room.inputs (concat xs)) (sym (map-map (λ (r : Row). r.input) row ps))

  cut : rows_of (size c) count inputs ≡ filled
  unfolding ps filled
  cut =
      let long : AllWide (size c) filled = wide_filled p (size c) ps b.stop (λ k h. all_at [] (live_long (code_transform c) c y l p) k h) in
      let few : count ≡ length filled = sym (length-map ps (filled_row (size c)) ∙ b.few) in
      rw (few, held) (rows_back (size c) filled (replicate (room.inputs - length (concat filled)) 0) long)

  pub words_are : words ≡ padded 0 room.words (concat (map (λ (r : Row). r.word) (rows (code_transform c) c y l p)))
  unfolding ps T row filled rows
  words_are =
      b.words_left
      ∙ ap (λ (xs : List (List ℕ)). padded 0 room.words (concat (map T xs))) cut
      ∙ ap (λ (xs : List (List ℕ)). padded 0 room.words (concat xs)) (map-map T (filled_row (size c)) ps ∙ sym (map-map (λ (r : Row). r.word) row ps))

  taken : take count costs ≡ map (code_cost c y) ps
  unfolding ps
  taken =
      let long : length (take count costs) ≡ count = length-take-le count costs b.there in
      ext_get_or 0 (take count costs) (map (code_cost c y) ps) (long ∙ sym (length-map ps (code_cost c y) ∙ b.few))
      (λ i h. get_or-take count costs i 0 (omega arith) ∙ b.costs_are i (omega (arith, b.few)) ∙ sym (get_d_map (code_cost c y) ps i [] 0 (omega (arith, b.few))))

  pub scores_are : scores ≡ padded (pos 0) room.scores (map (λ (r : Row). r.score) (rows (code_transform c) c y l p))
  unfolding ps T row rows
  scores_are =
      let is : (w : List ℕ) → Prefix p w → score_from (magnitude y) (code_cost c y w) ≡ score T (size c) y w
      = λ w h. sym (code_score c y h.bits b.soft (omega (arith, h.long, b.stop))) in
      b.scores_left
      ∙ ap (padded (pos 0) room.scores)
      (ap₂ (λ (t : ℕ) (ks : List ℕ). map (score_from t) ks) b.total_is taken
      ∙ map-map (score_from (magnitude y)) (code_cost c y) ps
      ∙ map_same (λ w. score_from (magnitude y) (code_cost c y w)) (score T (size c) y) is (live_prefix T c y l p)
      ∙ sym (map-map (λ (r : Row). r.score) row ps))

  -- the answer and the outputs of a call that is served, where both tables are cleared, with whatever ceiling
  pub rows_are : (top : ℤ)
      → decoding (decoded count top) (lent (replicate room.numbers 0) (replicate room.bytes 0) inputs words scores) ≡ decoded_rows room (rows (code_transform c) c y l p) top
  unfolding ps T row
  rows_are top =
      let count_is : count ≡ length (rows (code_transform c) c y l p) = unfold rows in sym (length-map ps row ∙ b.few) in
      cc (inputs_are, words_are, scores_are)
