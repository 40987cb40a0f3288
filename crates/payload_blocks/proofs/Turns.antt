-- One turn of the loops that write a payload's bits from the end and that add a word to the columns, as laws of lists. Assumes nothing.
use mathlib.Core.Path.{◌≡◌, refl, sym, ap, ap₂, subst, ◌∙◌}
use mathlib.Core.List.{List, ◌∷◌, ◌++◌}
use Prim.Native.Nat.{ℕ, zero, suc, ◌+◌, ◌-◌, ◌*◌, ◌/◌, ◌%◌, ◌^◌, ◌<◌, ◌≤◌}
use native.Mathlib.Numerals.{add-one}
use native.Mathlib.Omega.{arith}
use lib.ListN.{length, take, drop, set, get_or, replicate, length-set}
use lib.Seq.{append_snoc}
use lib.Pow.{pow_mono}
use Rattle.std.proofs.lemmas.List.{drop-set}
use Rattle.spec.specs.Code.{Code, size, payload_size, encoded}
use Rattle.laws.specs.Accepted.{Accepted}
use Rattle.laws.specs.FrozenMap.{rest}
use Rattle.laws.specs.ListCost.{All, all_at}
use Rattle.correlations.specs.Folding.{weighed, columns}
use Rattle.correlations.specs.FoldIs.{length_columns, columns_below}
use Rattle.payload_blocks.specs.Payloads.{numeral, generators}
use Rattle.payload_blocks.specs.PayloadBlocks.{length_generators, generators_words}
use Rattle.payload_blocks.specs.WordFits.{raised, WordFits}

-- ---- the bits of a payload, from the end
-- the bits of q₀ from place i on are written into p₀, and those before them are the bits of q
pub record Halving (p₀ : List ℕ) (q₀ : ℕ) (p : List ℕ) (i q : ℕ) : Type 0 where
  pub near : i ≤ length p₀
  pub same : length p ≡ length p₀
  pub is : numeral (length p₀) q₀ ≡ numeral i q ++ drop i p

back : (u p : List ℕ) (i q : ℕ) → 0 < i → i ≤ length p → u ≡ numeral i q ++ drop i p → u ≡ numeral (i - 1) (q / 2) ++ drop (i - 1) (set p (i - 1) (q % 2))
unfolding numeral
back u p zero q h l e = absurd (omega (arith, h))
back u p (suc j) q h l e =
    let one : suc j - 1 ≡ j = omega arith in
    rw one (e ∙ append_snoc (numeral j (q / 2)) (q % 2) (drop (suc j) p) ∙ ap (λ (x : List ℕ). numeral j (q / 2) ++ x) (sym (drop-set p j (q % 2) l ∙ ap (λ (k : ℕ). q % 2 ∷ drop k p) (add-one j))))

front : (u p : List ℕ) (i q : ℕ) → i ≡ 0 → u ≡ numeral i q ++ drop i p → p ≡ u
unfolding numeral
front u p zero q h e = sym e
front u p (suc i) q h e = absurd (omega (arith, h))

module _ {p₀ p : List ℕ} {q₀ i q : ℕ} (s : Halving p₀ q₀ p i q) where
  pub halving_turn : 0 < i → Halving p₀ q₀ (set p (i - 1) (q % 2)) (i - 1) (q / 2)
  halving_turn h = record {
    near = omega (arith, s.near);
    same = length-set p (i - 1) (q % 2) ∙ s.same;
    is = back (numeral (length p₀) q₀) p i q h (omega (arith, s.near, s.same)) s.is;
  }

  pub halving_done : i ≡ 0 → p ≡ numeral (length p₀) q₀
  halving_done h = front (numeral (length p₀) q₀) p i q h s.is

-- ---- the columns
pub raise_is : (h b c : ℕ) (g cs : List ℕ) → weighed h (b ∷ g) (c ∷ cs) ≡ raised h b c ∷ weighed h g cs
raise_is h zero c g cs = refl
raise_is h (suc b) c g cs = refl

-- the first i columns have the word added
pub record Raising (h : ℕ) (cols₀ word cols : List ℕ) (i : ℕ) : Type 0 where
  pub near : i ≤ length cols₀
  pub same : length cols ≡ length cols₀
  pub left : drop i cols ≡ drop i cols₀
  pub is : weighed h word cols₀ ≡ take i cols ++ weighed h (drop i word) (drop i cols)

module _ {h : ℕ} {cols₀ word cols : List ℕ} {i : ℕ} (s : Raising h cols₀ word cols i) where
  -- what stands at the place is still the column of before
  same_column : i < length cols → get_or cols i 0 ≡ get_or cols₀ i 0
  same_column lt = ap (λ (l : List ℕ). get_or l 0 0) (sym (rest cols i lt) ∙ s.left ∙ rest cols₀ i (omega (arith, lt, s.same)))

  pub column_below : All (λ (c : ℕ). c < h) cols₀ → i < length cols → get_or cols i 0 < h
  column_below a lt = rw (same_column lt) (all_at 0 a i (omega (arith, lt, s.same)))

-- ---- the loop over the words of single bits
-- the columns for the last j bits
module _ (c : Code) (j : ℕ) where
  abbrev found : List ℕ
  found = columns (size c) (generators c j)

  found_long : Accepted c → length found ≡ size c
  found_long a = length_columns (size c) (generators c j) (generators_words c a j)

  found_below : Accepted c → All (λ (x : ℕ). x < 2 ^ j) found
  found_below a =
      subst (λ (k : ℕ). All (λ (x : ℕ). x < 2 ^ k) found) (length_generators c j)
      (columns_below (size c) (generators c j) (generators_words c a j))

  -- the number of the next payload, as code computes it
  weight_is : j < 20 → 1 * 2 ^ j % 4294967296 ≡ 2 ^ j
  weight_is l = omega (arith, pow_mono {i = j} {j = 20} (omega arith))

  pub found_fits : {payload₀ word₀ payload word : ℕ} {cols : List ℕ} → j < 20 → WordFits c payload₀ word₀ → payload ≡ payload₀ → word ≡ word₀ → cols ≡ found
      → WordFits c payload word × (word ≡ length cols) × (All (λ (x : ℕ). x < 1 * 2 ^ j % 4294967296) cols) × (1 * 2 ^ j % 4294967296 ≤ 1048576)
  found_fits l w ep ew e = (
    record { accepts = w.accepts; payload_long = ep ∙ w.payload_long; word_long = ew ∙ w.word_long },
    ew ∙ w.word_long ∙ sym (ap length e ∙ found_long w.accepts),
    rw (weight_is l, e) (found_below w.accepts),
    omega (arith, weight_is l, pow_mono {i = j} {j = 20} (omega arith)),
  )

  pub found_more : {cols cols' : List ℕ} → j < 20 → cols ≡ found
      → cols' ≡ weighed (1 * 2 ^ j % 4294967296) (encoded c (numeral (payload_size c) (1 * 2 ^ j % 4294967296))) cols
      → cols' ≡ columns (size c) (generators c (j + 1))
  unfolding columns generators
  found_more l e q =
      q
      ∙ ap₂ (λ (k : ℕ) (x : List ℕ). weighed k (encoded c (numeral (payload_size c) k)) x) (weight_is l) e
      ∙ ap (λ (k : ℕ). weighed (2 ^ k) (encoded c (numeral (payload_size c) (2 ^ j))) found) (sym (length_generators c j))
      ∙ ap (λ (k : ℕ). columns (size c) (generators c k)) (sym (add-one j))

pub found_none : (c : Code) (cols : List ℕ) (n : ℕ) → n ≡ size c → cols ≡ replicate n 0 → cols ≡ columns (size c) (generators c 0)
unfolding columns generators
found_none c cols n l e = e ∙ ap (λ (k : ℕ). replicate k 0) l
