-- The loop that keeps the rows of a block. Assumes nothing.
use mathlib.Core.Path.{◌≡◌, sym, ap, subst, ◌∙◌}
use mathlib.Core.List.{List, [], ◌∷◌, ◌++◌, append_assoc}
use Prim.Native.Nat.{ℕ, suc, ◌+◌, ◌<◌, ◌≤◌}
use native.Mathlib.Omega.{arith}
use native.Mathlib.Numerals.{add-one}
use lib.ListN.{length, take, drop, get_or, replicate, length-take, length-drop, length-append, length-replicate, take-append-drop}
use lib.Seq.{take-suc, get_or-take, get_or-drop, take_all}
use lib.Pow.{pow_mono}
use lib.IntN.{ℤ, pos}
use Rattle.spec.specs.Code.{Code, payload_size}
use Rattle.spec.specs.Score.{correlation}
use Rattle.laws.specs.ListCost.{all_at, all_take, all_drop}
use Rattle.correlations.specs.Folding.{wrapped}
use Rattle.payload_blocks.specs.Payloads.{correlations}
use Rattle.payload_blocks.specs.Numerals.{get_d_map}
use Rattle.payload_blocks.specs.PayloadBlocks.{length_correlations, correlation_at}
use Rattle.list_words.specs.Hits.{counts, hits, word_at}
use Rattle.list_words.specs.HitLaws.{hits_append, hits_few, hits_first}
use Rattle.list_words.specs.Kept.{Kept, Small, Holds, part, BinFits, BlockRoom}

-- ---- the correlation in bin i
module _ {c : Code} {y : List ℤ} {bins : List ℕ} {q : ℕ} (h : Holds c y bins q) where
  pub part_long : length (part c y q (length bins)) ≡ length bins
  part_long = length-take (length bins) (drop q (correlations c y)) ∙ omega (arith, length-drop q (correlations c y), length_correlations c y, h.inside)

  module _ (i : ℕ) (l : i < length bins) where
    abbrev z : ℤ
    z = get_or (part c y q (length bins)) i (pos 0)

    pub here_small : Small z
    here_small = all_at (pos 0) (all_take (length bins) (all_drop q h.small)) i (omega (arith, l, part_long))

    pub here_is : get_or bins i 0 ≡ wrapped z
    here_is = ap (λ (b : List ℕ). get_or b i 0) h.is ∙ get_d_map wrapped (part c y q (length bins)) i (pos 0) 0 (omega (arith, l, part_long))

    pub here_word : z ≡ correlation y (word_at c (q + i))
    unfolding word_at
    here_word =
        get_or-take (length bins) (drop q (correlations c y)) i (pos 0) l ∙ get_or-drop q (correlations c y) i (pos 0)
        ∙ correlation_at c y (q + i) (omega (arith, l, h.inside))

    -- the numbers of the first bins and of one more
    pub hits_next : (mark : ℤ) → hits mark q (take (suc i) (part c y q (length bins))) ≡ hits mark q (take i (part c y q (length bins))) ++ hits mark (q + i) (z ∷ [])
    hits_next mark =
        let p : List ℤ = part c y q (length bins) in
        let long : length (take i p) ≡ i = length-take i p ∙ omega (arith, l, part_long) in
        ap (hits mark q) (take-suc p i (pos 0) (omega (arith, l, part_long))) ∙ hits_append mark q (take i p) (z ∷ [])
        ∙ ap (λ (k : ℕ). hits mark q (take i p) ++ hits mark (q + k) (z ∷ [])) long

    -- those of the first i bins and of this one are no more than those of all
    pub within : (mark : ℤ) → length (hits mark q (take i (part c y q (length bins)))) + counts mark z ≤ length (hits mark q (part c y q (length bins)))
    within mark =
        let p : List ℤ = part c y q (length bins) in
        let all : take (suc i) p ++ drop (suc i) p ≡ p = take-append-drop (suc i) p in
        let split : length (hits mark q p) ≡ length (hits mark q (take (suc i) p)) + length (hits mark (q + length (take (suc i) p)) (drop (suc i) p))
        = ap (λ (l : List ℤ). length (hits mark q l)) (sym all) ∙ ap length (hits_append mark q (take (suc i) p) (drop (suc i) p))
        ∙ length-append (hits mark q (take (suc i) p)) (hits mark (q + length (take (suc i) p)) (drop (suc i) p)) in
        let next : length (hits mark q (take (suc i) p)) ≡ length (hits mark q (take i p)) + length (hits mark (q + i) (z ∷ []))
        = ap length (hits_next mark) ∙ length-append (hits mark q (take i p)) (hits mark (q + i) (z ∷ [])) in
        omega (arith, split, next, hits_first mark (q + i) z [])

-- ---- the loop
-- the first i bins are done; the numbers are the lengths of before
pub record Keeping (c : Code) (mark : ℤ) (bins : List ℕ) (from q payload₀ : ℕ) (inputs₀ words₀ : List ℕ) (scores₀ : List ℤ)
    (payload inputs words : List ℕ) (scores : List ℤ) (found i : ℕ) : Type 0 where
  pub near : i ≤ length bins
  pub payload_kept : length payload ≡ payload₀
  pub inputs_kept : length inputs ≡ length inputs₀
  pub words_kept : length words ≡ length words₀
  pub scores_kept : length scores ≡ length scores₀
  pub found_is : (y : List ℤ) (hs : List ℕ) → length hs ≡ from → Holds c y bins q → found ≡ length (hs ++ hits mark q (take i (part c y q (length bins))))
  pub rows_are : (y : List ℤ) (hs : List ℕ) → length hs ≡ from → Holds c y bins q → Kept c y hs inputs₀ words₀ scores₀
      → Kept c y (hs ++ hits mark q (take i (part c y q (length bins)))) inputs words scores

module _ {c : Code} {mark : ℤ} {bins : List ℕ} {from q payload₀ : ℕ} {inputs₀ words₀ : List ℕ} {scores₀ : List ℤ}
    {payload inputs words : List ℕ} {scores : List ℤ} {found i n : ℕ}
    (s : Keeping c mark bins from q payload₀ inputs₀ words₀ scores₀ payload inputs words scores found i)
    (f : BlockRoom c mark bins n from q (length inputs₀) (length words₀) (length scores₀)) where
  -- how many there are, whatever stood before
  counted : (y : List ℤ) → Holds c y bins q → found ≡ from + length (hits mark q (take i (part c y q (length bins))))
  counted y h =
      let hs : List ℕ = replicate from 0 in
      let long : length hs ≡ from = length-replicate from 0 in
      s.found_is y hs long h ∙ length-append hs (hits mark q (take i (part c y q (length bins))))
      ∙ ap (λ (k : ℕ). k + length (hits mark q (take i (part c y q (length bins))))) long

  -- and no more than payloads so far
  pub found_early : i ≤ length bins → found ≤ q + i
  found_early l =
      let p : List ℤ = part c f.y q (length bins) in
      omega (arith, counted f.y f.holds, hits_few mark q (take i p), length-take i p, f.early)

  pub number_small : i < length bins → q + i < 1048576
  number_small l = omega (arith, l, f.holds.inside, pow_mono {i = payload_size c} {j = 20} f.bits)

  pub bin_fits : (l : i < length bins) → BinFits mark (get_or bins i 0) n found (length inputs) (length words) (length scores)
  bin_fits l = record {
    value = get_or (part c f.y q (length bins)) i (pos 0);
    small = here_small f.holds i l;
    is = here_is f.holds i l;
    room = omega (arith, counted f.y f.holds, within f.holds i l mark, f.room, s.scores_kept);
    short = f.short;
    few = omega (arith, found_early s.near, number_small l);
    inputs_there = rw (s.scores_kept, s.inputs_kept) f.inputs_there;
    words_there = rw (s.scores_kept, s.words_kept) f.words_there;
  }

-- what one bin does
abbrev pub OneBin : (c : Code) (mark : ℤ) (v q found r : ℕ) (inputs words : List ℕ) (scores : List ℤ) (inputs' words' : List ℕ) (scores' : List ℤ) → Type 0
OneBin c mark v q found r inputs words scores inputs' words' scores' =
    (y : List ℤ) (hs : List ℕ) (z : ℤ) → length hs ≡ found → Small z → v ≡ wrapped z → z ≡ correlation y (word_at c q)
    → (r ≡ length (hs ++ hits mark q (z ∷ []))) × (Kept c y hs inputs words scores → Kept c y (hs ++ hits mark q (z ∷ [])) inputs' words' scores')

module _ {c : Code} {mark : ℤ} {bins : List ℕ} {from q payload₀ : ℕ} {inputs₀ words₀ : List ℕ} {scores₀ : List ℤ}
    {payload inputs words : List ℕ} {scores : List ℤ} {found i : ℕ}
    (s : Keeping c mark bins from q payload₀ inputs₀ words₀ scores₀ payload inputs words scores found i) where
  module _ (y : List ℤ) (hs : List ℕ) (h : Holds c y bins q) (l : i < length bins) where
    joined : (hs ++ hits mark q (take i (part c y q (length bins)))) ++ hits mark (q + i) (get_or (part c y q (length bins)) i (pos 0) ∷ [])
        ≡ hs ++ hits mark q (take (i + 1) (part c y q (length bins)))
    joined =
        let p : List ℤ = part c y q (length bins) in
        append_assoc hs (hits mark q (take i p)) (hits mark (q + i) (get_or p i (pos 0) ∷ []))
        ∙ ap (λ (l : List ℕ). hs ++ l) (sym (hits_next h i l mark) ∙ ap (λ (k : ℕ). hits mark q (take k p)) (sym (add-one i)))

  pub keeping_turn : i < length bins → {r : ℕ} {payload' inputs' words' : List ℕ} {scores' : List ℤ}
      → length payload' ≡ length payload → length inputs' ≡ length inputs → length words' ≡ length words → length scores' ≡ length scores
      → OneBin c mark (get_or bins i 0) (q + i) found r inputs words scores inputs' words' scores'
      → Keeping c mark bins from q payload₀ inputs₀ words₀ scores₀ payload' inputs' words' scores' r (i + 1)
  keeping_turn l {r} {payload'} {inputs'} {words'} {scores'} ep ei ew es one = record {
    near = omega (arith, l);
    payload_kept = ep ∙ s.payload_kept;
    inputs_kept = ei ∙ s.inputs_kept;
    words_kept = ew ∙ s.words_kept;
    scores_kept = es ∙ s.scores_kept;
    found_is = λ y hs e h.
        let z : ℤ = get_or (part c y q (length bins)) i (pos 0) in
        let so_far : List ℕ = hs ++ hits mark q (take i (part c y q (length bins))) in
        (one y so_far z (sym (s.found_is y hs e h)) (here_small h i l) (here_is h i l) (here_word h i l)).0 ∙ ap length (joined y hs h l);
    rows_are = λ y hs e h k.
        let z : ℤ = get_or (part c y q (length bins)) i (pos 0) in
        let so_far : List ℕ = hs ++ hits mark q (take i (part c y q (length bins))) in
        subst (λ (xs : List ℕ). Kept c y xs inputs' words' scores') (joined y hs h l)
        ((one y so_far z (sym (s.found_is y hs e h)) (here_small h i l) (here_is h i l) (here_word h i l)).1 (s.rows_are y hs e h k));
  }

  -- all bins are done
  module _ (l : length bins ≤ i) (y : List ℤ) (hs : List ℕ) (h : Holds c y bins q) where
    all_taken : take i (part c y q (length bins)) ≡ part c y q (length bins)
    all_taken = take_all i (part c y q (length bins)) (omega (arith, l, part_long h))

    pub keeping_done : length hs ≡ from → (found ≡ length (hs ++ hits mark q (part c y q (length bins))))
        × (Kept c y hs inputs₀ words₀ scores₀ → Kept c y (hs ++ hits mark q (part c y q (length bins))) inputs words scores)
    keeping_done e = (
      s.found_is y hs e h ∙ ap (λ (p : List ℤ). length (hs ++ hits mark q p)) all_taken,
      λ k. subst (λ (p : List ℤ). Kept c y (hs ++ hits mark q p) inputs words scores) all_taken (s.rows_are y hs e h k),
    )
