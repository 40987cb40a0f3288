-- The passes over all payloads, block by block. Assumes nothing.
use mathlib.Core.Path.{◌≡◌, refl, sym, ap, subst, ◌∙◌}
use mathlib.Core.List.{List, [], ◌++◌, map}
use Prim.Native.Nat.{ℕ, suc, ◌+◌, ◌-◌, ◌*◌, ◌^◌, ◌<◌, ◌≤◌}
use native.Mathlib.Nat.{mul-le-mul_right, suc-mul}
use native.Mathlib.Omega.{arith}
use borrow.Author.Tests.{ltb-true, ltb-false}
use lib.Dec.{ltb}
use lib.ListN.{length, take, drop, replicate, length-append, length-take, take-append-drop}
use lib.Seq.{take-add, take_all}
use lib.Pow.{pow-add, pow_mono}
use lib.IntN.{ℤ, pos}
use mathlib.Core.Bool.{Bool, true, false}
use Rattle.spec.specs.Code.{Code, payload_size}
use Rattle.spec.specs.Score.{taken}
use Rattle.laws.specs.ListCost.{All, all_take, all_drop}
use Rattle.laws.specs.Accepted.{size_small}
use Rattle.correlations.specs.Folding.{wrapped}
use Rattle.payload_blocks.specs.Payloads.{Multiple, correlations}
use Rattle.payload_blocks.specs.PayloadBlocks.{length_correlations}
use Rattle.payload_blocks.specs.CorrelationSize.{correlations_small}
use Rattle.payload_blocks.specs.BlockFits.{BlockFits, block, block_bins}
use Rattle.list_words.specs.Hits.{hits}
use Rattle.list_words.specs.HitLaws.{hits_append, hits_few}
use Rattle.list_words.specs.Kept.{Kept, Small, Holds, part, BlockRoom, TurnRoom, PassRoom}

-- ---- blocks
pub multiple_none : (r : ℕ) → Multiple r 0
multiple_none r = record { times = 0; is = omega arith }

pub multiple_next : {r q : ℕ} → Multiple r q → Multiple r (q + 2 ^ r)
multiple_next {r} {q} m = record { times = suc m.times; is = sym (suc-mul m.times (2 ^ r) ∙ omega (arith, m.is)) }

-- a block that begins before 2 ^ k ends there or before
pub block_inside : {r k q : ℕ} → r ≤ k → Multiple r q → q < 2 ^ k → q + 2 ^ r ≤ 2 ^ k
block_inside {r} {k} {q} h m l =
    let whole : 2 ^ k ≡ 2 ^ (k - r) * 2 ^ r = ap (λ (j : ℕ). 2 ^ j) (omega arith) ∙ pow-add 2 (k - r) r in
    go whole (ltb m.times (2 ^ (k - r))) refl
  where
    go : 2 ^ k ≡ 2 ^ (k - r) * 2 ^ r → (b : Bool) → ltb m.times (2 ^ (k - r)) ≡ b → q + 2 ^ r ≤ 2 ^ k
    go whole true e =
        let up : suc m.times * 2 ^ r ≤ 2 ^ (k - r) * 2 ^ r = mul-le-mul_right (2 ^ r) (ltb-true m.times (2 ^ (k - r)) e) in
        omega (arith, up, suc-mul m.times (2 ^ r), m.is, whole)
    go whole false e =
        let up : 2 ^ (k - r) * 2 ^ r ≤ m.times * 2 ^ r = mul-le-mul_right (2 ^ r) (ltb-false m.times (2 ^ (k - r)) e) in
        absurd (omega (arith, up, m.is, whole, l))

-- the numbers of a block behind those before it
pub hits_block : (c : Code) (soft : List ℤ) (mark : ℤ) (r q : ℕ) → q + 2 ^ r ≤ 2 ^ payload_size c
    → hits mark 0 (take (q + 2 ^ r) (correlations c (taken soft))) ≡ hits mark 0 (take q (correlations c (taken soft))) ++ hits mark q (block c soft r q)
hits_block c soft mark r q h =
    let cs : List ℤ = correlations c (taken soft) in
    let long : 0 + length (take q cs) ≡ q = omega (arith, length-take q cs, length_correlations c (taken soft), h) in
    ap (hits mark 0) (take-add q (2 ^ r) cs) ∙ hits_append mark 0 (take q cs) (block c soft r q)
    ∙ ap (λ (k : ℕ). hits mark 0 (take q cs) ++ hits mark k (block c soft r q)) long

-- those of the first q payloads are no more than q, and no more than those of all
pub hits_early : (c : Code) (y : List ℤ) (mark : ℤ) (q : ℕ) → length (hits mark 0 (take q (correlations c y))) ≤ q
hits_early c y mark q = omega (arith, hits_few mark 0 (take q (correlations c y)), length-take q (correlations c y))

pub hits_whole : (c : Code) (y : List ℤ) (mark : ℤ) (q : ℕ) → 2 ^ payload_size c ≤ q → hits mark 0 (take q (correlations c y)) ≡ hits mark 0 (correlations c y)
hits_whole c y mark q h = ap (hits mark 0) (take_all q (correlations c y) (omega (arith, length_correlations c y, h)))

pub hits_within : (mark : ℤ) (q : ℕ) (cs : List ℤ) → length (hits mark 0 (take q cs)) ≤ length (hits mark 0 cs)
hits_within mark q cs =
    let all : take q cs ++ drop q cs ≡ cs = take-append-drop q cs in
    let split : length (hits mark 0 cs) ≡ length (hits mark 0 (take q cs)) + length (hits mark (0 + length (take q cs)) (drop q cs))
    = ap (λ (l : List ℤ). length (hits mark 0 l)) (sym all) ∙ ap length (hits_append mark 0 (take q cs) (drop q cs))
    ∙ length-append (hits mark 0 (take q cs)) (hits mark (0 + length (take q cs)) (drop q cs)) in
    omega (arith, split)

module _ {c : Code} {soft : List ℤ} {cols : List ℕ} {r payload word bins : ℕ} (f : BlockFits c soft cols r payload word bins) where
  pub all_small : All Small (correlations c (taken soft))
  all_small = correlations_small c soft (omega (arith, f.soft_long, size_small f.lent.accepts)) f.in_range

  pub block_small : (q : ℕ) → All Small (block c soft r q)
  block_small q = all_take (2 ^ r) (all_drop q all_small)

  pub total_small : 2 ^ payload_size c ≤ 1048576
  total_small = pow_mono {i = payload_size c} {j = 20} f.few

  -- bins that hold the block
  pub block_holds : {q : ℕ} → q + 2 ^ r ≤ 2 ^ payload_size c → (b : List ℕ) → length b ≡ bins → b ≡ block_bins c soft r q → Holds c (taken soft) b q
  block_holds {q} h b l e =
      let long : length b ≡ 2 ^ r = l ∙ f.bins_long in
      record { inside = omega (arith, long, h); small = all_small; is = e ∙ ap (λ (k : ℕ). map wrapped (take k (drop q (correlations c (taken soft))))) (sym long) }

  -- with other working memory that is as long
  pub block_again : {payload' word' bins' : ℕ} → payload' ≡ payload → word' ≡ word → bins' ≡ bins → BlockFits c soft cols r payload' word' bins'
  block_again ep ew eb = record {
    lent = record { accepts = f.lent.accepts; payload_long = ep ∙ f.lent.payload_long; word_long = ew ∙ f.lent.word_long };
    soft_long = f.soft_long;
    in_range = f.in_range;
    few = f.few;
    last = f.last;
    bins_long = eb ∙ f.bins_long;
    columns_are = f.columns_are;
  }

-- ---- the counting pass: the first q payloads are counted
pub record Passing (c : Code) (soft : List ℤ) (mark : ℤ) (r payload₀ word₀ bins₀ : ℕ) (payload word bins : List ℕ) (found q : ℕ) : Type 0 where
  pub multiple : Multiple r q
  pub near : q ≤ 2 ^ payload_size c
  pub payload_kept : length payload ≡ payload₀
  pub word_kept : length word ≡ word₀
  pub bins_kept : length bins ≡ bins₀
  pub is : found ≡ length (hits mark 0 (take q (correlations c (taken soft))))

pub passing_none : (c : Code) (soft : List ℤ) (mark : ℤ) (r : ℕ) (payload word bins : List ℕ)
    → Passing c soft mark r (length payload) (length word) (length bins) payload word bins 0 0
passing_none c soft mark r payload word bins = record { multiple = multiple_none r; near = omega arith; payload_kept = refl; word_kept = refl; bins_kept = refl; is = refl }

module _ {c : Code} {soft : List ℤ} {mark : ℤ} {cols : List ℕ} {r payload₀ word₀ bins₀ : ℕ} {payload word bins : List ℕ} {found q : ℕ}
    (f : BlockFits c soft cols r payload₀ word₀ bins₀) (s : Passing c soft mark r payload₀ word₀ bins₀ payload word bins found q) where
  pub turn_fits : BlockFits c soft cols r (length payload) (length word) (length bins)
  turn_fits = block_again f s.payload_kept s.word_kept s.bins_kept

  pub found_early : found ≤ q
  found_early = omega (arith, s.is, hits_early c (taken soft) mark q)

  pub turn_inside : q < 2 ^ payload_size c → q + 2 ^ r ≤ 2 ^ payload_size c
  turn_inside l = block_inside f.last s.multiple l

  pub passing_turn : q < 2 ^ payload_size c → {payload' word' bins' : List ℕ} → length payload' ≡ length payload → length word' ≡ length word → length bins' ≡ length bins
      → {found' : ℕ} → found' ≡ found + length (hits mark q (block c soft r q)) → Passing c soft mark r payload₀ word₀ bins₀ payload' word' bins' found' (q + bins₀)
  passing_turn l {payload'} {word'} {bins'} ep ew eb {found'} e =
      let a : List ℕ = hits mark 0 (take q (correlations c (taken soft))) in
      let b : List ℕ = hits mark q (block c soft r q) in
      subst (λ (j : ℕ). Passing c soft mark r payload₀ word₀ bins₀ payload' word' bins' found' (q + j)) (sym f.bins_long) (record {
        multiple = multiple_next s.multiple;
        near = turn_inside l;
        payload_kept = ep ∙ s.payload_kept;
        word_kept = ew ∙ s.word_kept;
        bins_kept = eb ∙ s.bins_kept;
        is = e ∙ ap (λ (k : ℕ). k + length b) s.is ∙ sym (ap length (hits_block c soft mark r q (turn_inside l)) ∙ length-append a b);
      })

  pub passing_done : 2 ^ payload_size c ≤ q → found ≡ length (hits mark 0 (correlations c (taken soft)))
  passing_done h = s.is ∙ ap length (hits_whole c (taken soft) mark q h)

-- ---- the writing pass
-- what one block adds: k rows then, those of hs and of the correlations zs from number q on
abbrev pub Wrote : Code → List ℤ → ℤ → ℕ → List ℤ → ℕ → List ℕ → List ℕ → List ℕ → List ℤ → List ℕ → List ℕ → List ℤ → Type 0
Wrote c y mark q zs k hs inputs words scores inputs' words' scores' =
    (k ≡ length (hs ++ hits mark q zs)) × (Kept c y hs inputs words scores → Kept c y (hs ++ hits mark q zs) inputs' words' scores')

-- said of the block, and of the mark as it was given
pub wrote_block : (c : Code) (soft : List ℤ) (z mark : ℤ) (r q : ℕ) (bins hs : List ℕ) {k : ℕ} {inputs words : List ℕ} {scores : List ℤ} {inputs' words' : List ℕ} {scores' : List ℤ}
    → z ≡ mark → length bins ≡ 2 ^ r → Wrote c (taken soft) z q (part c (taken soft) q (length bins)) k hs inputs words scores inputs' words' scores'
    → Wrote c (taken soft) mark q (block c soft r q) k hs inputs words scores inputs' words' scores'
wrote_block c soft z mark r q bins hs {k} {inputs} {words} {scores} {inputs'} {words'} {scores'} ez eb w =
    subst (λ (m : ℤ). Wrote c (taken soft) m q (block c soft r q) k hs inputs words scores inputs' words' scores') ez
    (subst (λ (j : ℕ). Wrote c (taken soft) z q (part c (taken soft) q j) k hs inputs words scores inputs' words' scores') eb w)

pub room_of : {c : Code} {soft : List ℤ} {z mark : ℤ} {r n found q inputs words scores payload word bins₀ : ℕ} {cols bins : List ℕ}
    → BlockFits c soft cols r payload word bins₀ → Holds c (taken soft) bins q → length bins ≡ 2 ^ r → z ≡ mark
    → TurnRoom c soft mark r n found q inputs words scores → BlockRoom c z bins n found q inputs words scores
room_of {c} {soft} {z} {mark} {q = q} {scores = scores} {bins = bins} f h eb ez t = record {
  y = taken soft;
  holds = h;
  room = rw (ez, eb) t.room;
  short = omega (arith, t.row, size_small f.lent.accepts);
  bits = f.few;
  early = t.early;
  inputs_there = t.inputs_there;
  words_there = t.words_there;
}

-- with outputs that are as long, and the mark as code holds it
pub room_again : {c : Code} {soft : List ℤ} {mark z : ℤ} {n inputs words scores inputs' words' scores' : ℕ} → PassRoom c soft mark n inputs words scores
    → mark ≡ z → inputs' ≡ inputs → words' ≡ words → scores' ≡ scores → PassRoom c soft z n inputs' words' scores'
room_again p ez ei ew es = record {
  row = p.row;
  room = rw (sym ez, es) p.room;
  inputs_there = rw (es, ei) p.inputs_there;
  words_there = rw (es, ew) p.words_there;
}

-- the rows of the first q payloads are written
pub record Writing (c : Code) (soft : List ℤ) (mark : ℤ) (r payload₀ word₀ bins₀ inputs₀ words₀ scores₀ : ℕ)
    (payload word bins inputs words : List ℕ) (scores : List ℤ) (found q : ℕ) : Type 0 where
  pub pass : Passing c soft mark r payload₀ word₀ bins₀ payload word bins found q
  pub inputs_kept : length inputs ≡ inputs₀
  pub words_kept : length words ≡ words₀
  pub scores_kept : length scores ≡ scores₀
  pub rows_are : Kept c (taken soft) (hits mark 0 (take q (correlations c (taken soft)))) inputs words scores

module _ {c : Code} {soft : List ℤ} {mark : ℤ} {cols : List ℕ} {r payload₀ word₀ bins₀ inputs₀ words₀ scores₀ : ℕ}
    {payload word bins inputs words : List ℕ} {scores : List ℤ} {found q : ℕ}
    (f : BlockFits c soft cols r payload₀ word₀ bins₀)
    (s : Writing c soft mark r payload₀ word₀ bins₀ inputs₀ words₀ scores₀ payload word bins inputs words scores found q) where
  abbrev so_far : List ℕ
  so_far = hits mark 0 (take q (correlations c (taken soft)))

  pub turn_room : {n : ℕ} → q < 2 ^ payload_size c → PassRoom c soft mark n inputs₀ words₀ scores₀
      → TurnRoom c soft mark r n found q (length inputs) (length words) (length scores)
  turn_room {n} l p =
      let b : List ℕ = hits mark q (block c soft r q) in
      let both : length (hits mark 0 (take (q + 2 ^ r) (correlations c (taken soft)))) ≡ length so_far + length b
      = ap length (hits_block c soft mark r q (turn_inside f s.pass l)) ∙ length-append so_far b in
      record {
        row = p.row;
        early = found_early f s.pass;
        room = omega (arith, both, s.pass.is, hits_within mark (q + 2 ^ r) (correlations c (taken soft)), p.room, s.scores_kept);
        inputs_there = rw (s.scores_kept, s.inputs_kept) p.inputs_there;
        words_there = rw (s.scores_kept, s.words_kept) p.words_there;
      }

  pub writing_turn : q < 2 ^ payload_size c → {payload' word' bins' inputs' words' : List ℕ} {scores' : List ℤ} {k : ℕ}
      → length payload' ≡ length payload → length word' ≡ length word → length bins' ≡ length bins
      → length inputs' ≡ length inputs → length words' ≡ length words → length scores' ≡ length scores
      → ((hs : List ℕ) → length hs ≡ found → Wrote c (taken soft) mark q (block c soft r q) k hs inputs words scores inputs' words' scores')
      → Writing c soft mark r payload₀ word₀ bins₀ inputs₀ words₀ scores₀ payload' word' bins' inputs' words' scores' k (q + bins₀)
  writing_turn l {payload'} {word'} {bins'} {inputs'} {words'} {scores'} {k} ep ew eb ei eo es w =
      let b : List ℕ = hits mark q (block c soft r q) in
      let now = w so_far (sym s.pass.is) in
      let count : k ≡ found + length b = now.0 ∙ length-append so_far b ∙ ap (λ (j : ℕ). j + length b) (sym s.pass.is) in
      record {
        pass = passing_turn f s.pass l ep ew eb count;
        inputs_kept = ei ∙ s.inputs_kept;
        words_kept = eo ∙ s.words_kept;
        scores_kept = es ∙ s.scores_kept;
        rows_are =
            subst (λ (j : ℕ). Kept c (taken soft) (hits mark 0 (take (q + j) (correlations c (taken soft)))) inputs' words' scores') (sym f.bins_long)
            (subst (λ (hs : List ℕ). Kept c (taken soft) hs inputs' words' scores') (sym (hits_block c soft mark r q (turn_inside f s.pass l))) (now.1 s.rows_are));
      }

  pub writing_done : 2 ^ payload_size c ≤ q → Kept c (taken soft) (hits mark 0 (correlations c (taken soft))) inputs words scores
  writing_done h = subst (λ (hs : List ℕ). Kept c (taken soft) hs inputs words scores) (hits_whole c (taken soft) mark q h) s.rows_are

-- outputs that hold 0 alone have no rows yet
pub kept_none : (c : Code) (y : List ℤ) (inputs₀ words₀ : List ℕ) (scores₀ : List ℤ) (inputs words : List ℕ) (scores : List ℤ)
    → length inputs ≡ length inputs₀ → length words ≡ length words₀ → length scores ≡ length scores₀
    → inputs ≡ replicate (length inputs₀) 0 → words ≡ replicate (length words₀) 0 → scores ≡ replicate (length scores₀) (pos 0) → Kept c y [] inputs words scores
kept_none c y inputs₀ words₀ scores₀ inputs words scores li lw ls ei ew es = record {
  inputs_are = ei ∙ ap (λ (k : ℕ). replicate k 0) (sym li ∙ nothing (length inputs));
  words_are = ew ∙ ap (λ (k : ℕ). replicate k 0) (sym lw ∙ nothing (length words));
  scores_are = es ∙ ap (λ (k : ℕ). replicate k (pos 0)) (sym ls ∙ nothing (length scores));
}
  where
    nothing : (n : ℕ) → n ≡ n - 0
    nothing n = omega arith

-- a block has at most 2 ^ r words
module _ {c : Code} {soft : List ℤ} {mark : ℤ} {cols : List ℕ} {r payload₀ word₀ bins₀ : ℕ} {payload word bins : List ℕ} {found q : ℕ}
    (f : BlockFits c soft cols r payload₀ word₀ bins₀) (s : Passing c soft mark r payload₀ word₀ bins₀ payload word bins found q) (l : q < 2 ^ payload_size c) where
  pub sum_small : (z : ℤ) → found + length (hits z q (block c soft r q)) ≤ 1048576
  sum_small z =
      omega (arith, hits_few z q (block c soft r q), length-take (2 ^ r) (drop q (correlations c (taken soft))), found_early f s, turn_inside f s l, total_small f)
