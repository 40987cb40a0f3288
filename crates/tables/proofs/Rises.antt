-- The way up the layers, from the one where the walk down ended.
use mathlib.Core.Path.{◌≡◌, refl, ◌∙◌, sym, ap, subst}
use mathlib.Core.Logic.{◌⊎◌, ⊎_elim, inl, inr}
use mathlib.Core.Bool.{Bool, true, cond}
use mathlib.Core.List.{List}
use Prim.Native.Nat.{ℕ, zero, suc, ◌+◌, ◌*◌, ◌-◌, ◌/◌, ◌%◌, ◌<◌, ◌≤◌, ◌^◌}
use native.Mathlib.Nat.{eq-or-lt_of_le}
use native.Mathlib.Omega.{arith}
use lib.ListN.{length}
use lib.Pow.{pow_mono}
use lib.IntN.{ℤ}
use Rattle.laws.specs.Nodes.{odd, even, kind, is_even, phase, moves, phase_suc, phase_le, down, down_is, kind_of_even}
use Rattle.laws.specs.Nodes.{kind_of_odd}
use Rattle.windows.specs.Op.{Wrote}
use Rattle.tables.specs.Tab.{slot_start, WroteRows, flat16, row_f, FitWindows, Slots}
use Rattle.tables.specs.Right.{AllRight, Below}
use Rattle.tables.specs.Walk.{slot_w, slot_o, ReadyFrom, Named, Climbs, Ascent, Kept}
use Rattle.tables.proofs.Meaning.{below_right, deeper_kept}
use Rattle.tables.proofs.Places.{slot_ends, pow_two, slot_deep, slot_mono, slot_times}

-- ---- phases of the layers that turn
pub moves_on : (n d : ℕ) → ((c : ℕ) → c < d → kind (phase c n) ≡ even) → moves d n ≡ true
moves_on n zero p = refl
moves_on n (suc d) p = rw (moves_on n d (λ c h. p c (omega arith)), p d (omega arith))

module _ (n e : ℕ) (turns : (d : ℕ) → d < e → (phase d n % 2 ≡ 0) × (0 < phase d n)) (d x : ℕ) (hd : d < e)
    (ex : x ≡ phase (suc d) n) where
  pub phase_up : phase d n ≡ 2 * x + 2
  phase_up = omega (arith, down_is (phase d n), (turns d hd).0, (turns d hd).1)

  pub phase_new : phase d (suc n) ≡ 2 * x + 3
  phase_new =
      phase_suc d n ∙ ap (λ (c : Bool). cond c (suc (phase d n)) (phase d n))
      (moves_on n d (λ c h. kind_of_even (phase c n) (turns c (omega arith)).0 (turns c (omega arith)).1))
      ∙ (omega (arith, phase_up))

  pub phase_kid : phase (suc d) (suc n) ≡ suc x
  phase_kid = ap down phase_new ∙ down_is (2 * x + 3) ∙ (omega arith)

  pub kind_new : kind (phase d (suc n)) ≡ odd
  kind_new = kind_of_odd (phase d (suc n)) (omega (arith, phase_new))

-- ---- the numbers stay slots
-- a row of 32 numbers at o is the one at p, or lies before it, or behind it
abbrev Beside : ℕ → ℕ → Type 0
Beside o p = (o ≡ p) ⊎ ((o + 32 ≤ p) ⊎ (p + 32 ≤ o))

rows_beside : (d c : ℕ) → Beside (32 * d) (32 * c)
rows_beside zero zero = inl refl
rows_beside zero (suc c) = inr (inl (omega arith))
rows_beside (suc d) zero = inr (inr (omega arith))
rows_beside (suc d) (suc c) = ⊎_elim (λ (u : 32 * d ≡ 32 * c). inl (omega arith))
    (λ u. inr (⊎_elim (λ (z : 32 * d + 32 ≤ 32 * c). inl (omega arith))
    (λ (z : 32 * c + 32 ≤ 32 * d). inr (omega arith)) u)) (rows_beside d c)

module _ (l count p : ℕ) (slots slots' : List ℕ) (few : count ≤ l) (long : l ≤ 32)
    (own : Wrote (λ r. r) p count slots slots') where
  slots_own : (o : ℕ) → Beside o p → Slots l count o slots → Slots l count o slots'
  slots_own o q a = record {
    there = omega (arith, a.there, own.same);
    named = λ r hr. ⊎_elim
        (λ (u : o ≡ p). rw u (omega (arith, own.inside r hr)))
        (λ u. ⊎_elim
        (λ (u : o + 32 ≤ p). omega (arith, own.below (o + r) (omega arith), a.named r hr))
        (λ (u : p + 32 ≤ o). omega (arith, own.above (o + r) (omega arith), a.named r hr)) u) q;
  }

pub named_own : (deep l count c : ℕ) (slots slots' : List ℕ) → count ≤ l → l ≤ 32 → deep ≤ 8 → c ≤ deep
    → Wrote (λ r. r) (32 * c) count slots slots'
    → Named deep l count slots → Named deep l count slots'
named_own deep l count c slots slots' few long deepest hc own a = record {
  windows = λ d hd. slots_own l count (32 * c) slots slots' few long own (32 * d) (rows_beside d c) (a.windows d hd);
  odds = λ d hd. slots_own l count (32 * c) slots slots' few long own (512 + 32 * d) (inr (inr (omega arith)))
      (a.odds d hd);
}

pub named_odd : (deep l count c : ℕ) (slots slots' : List ℕ) → count ≤ l → l ≤ 32 → deep ≤ 8 → c ≤ deep
    → Wrote (λ r. r) (512 + 32 * c) count slots slots'
    → Named deep l count slots → Named deep l count slots'
named_odd deep l count c slots slots' few long deepest hc own a = record {
  windows = λ d hd. slots_own l count (512 + 32 * c) slots slots' few long own (32 * d) (inr (inl (omega arith)))
      (a.windows d hd);
  odds = λ d hd. slots_own l count (512 + 32 * c) slots slots' few long own (512 + 32 * d) (beside (rows_beside d c))
      (a.odds d hd);
}
  where
    beside : {o p : ℕ} → Beside o p → Beside (512 + o) (512 + p)
    beside {o} {p} = ⊎_elim (λ (u : o ≡ p). inl (omega arith))
        (λ u. inr (⊎_elim (λ (z : o + 32 ≤ p). inl (omega arith)) (λ (z : p + 32 ≤ o). inr (omega arith)) u))

pub kept_rows : (F : ℕ → ℕ → ℕ) (w l h count : ℕ) (t t' : List ℕ) → count ≤ l → slot_start w l l ≤ h
    → WroteRows F (16 * slot_start w l 0) (16 * w) count t t' → Kept h t t'
kept_rows F w l h count t t' few low rows j q
    = rows.above j (omega (arith, slot_times 16 w l count, slot_mono w l count l few))

-- ---- what depends on the layer rule
module _ (arikan : Bool) where
  -- ---- one layer further up
  module _ (D l h count n : ℕ) (y : List ℤ) (vs : ℕ → List ℕ) (d k : ℕ) (ek : suc k + d ≡ D) (few : count ≤ l)
      (long : l ≤ 32) (deep : D ≤ 8) (t t' b slots slots' : List ℕ)
      (ready : ReadyFrom arikan D l h count y vs (suc d) t b slots)
      (w m : ℕ) (ev : Bool)
      (below : Below arikan k d l h count w m ev y (suc n) vs t b (slot_w slots (suc d)) (slot_o slots (suc d)))
      (rows : WroteRows (λ z. flat16 (row_f arikan ev m w l h b t (slot_w slots (suc d) z) (slot_o slots (suc d) z) z))
      (16 * slot_start w l 0) (16 * w) count t t')
      (own : Wrote (λ r. r) (32 * d) count slots slots') where
    odd_slot : (e r : ℕ) → r < count → slot_o slots' e r ≡ slot_o slots e r
    odd_slot e r hr = own.above (512 + 32 * e + r) (omega arith)

    window_slot : (e r : ℕ) → d < e → r < count → slot_w slots' e r ≡ slot_w slots e r
    window_slot e r he hr = own.above (32 * e + r) (omega arith)

    renamed : (j e : ℕ) (S O S' O' : ℕ → ℕ) → ((r : ℕ) → r < count → S' r ≡ S r) → ((r : ℕ) → r < count → O' r ≡ O r)
        → AllRight arikan j e l h count y vs t' b S O → AllRight arikan j e l h count y vs t' b S' O'
    renamed j e S O S' O' p q a r hr = rw (p r hr, q r hr) (a r hr)

    rows' : WroteRows (λ z. flat16 (row_f arikan ev m w l h b t (slot_w slots (suc d) z) (slot_o slots (suc d) z) z))
        (16 * slot_start (2 ^ d) l 0) (16 * 2 ^ d) count t t'
    rows' = subst (λ (v : ℕ). WroteRows
        (λ z. flat16 (row_f arikan ev m w l h b t (slot_w slots (suc d) z) (slot_o slots (suc d) z) z)) (16 * slot_start v l 0)
        (16 * v) count t t') below.width rows

    this : AllRight arikan (suc k) d l h count y vs t' b (slot_w slots' d) (slot_o slots' d)
    this = renamed (suc k) d (λ r. r) (slot_o slots' d) (slot_w slots' d) (slot_o slots' d) (λ r hr. own.inside r hr)
        (λ r hr. refl)
        (below_right arikan k d l h count w m ev y (suc n) vs t b (slot_w slots (suc d)) (slot_o slots (suc d))
        (slot_o slots' d) t' below rows)

    pub up_more : ReadyFrom arikan D l h count y vs d t' b slots'
    up_more j e ej le = ⊎_elim
        (λ (q : d ≡ e).
        let z : suc k ≡ j = omega arith in
        subst (λ (e : ℕ). AllRight arikan j e l h count y vs t' b (slot_w slots' e) (slot_o slots' e)) q
        (subst (λ (j : ℕ). AllRight arikan j d l h count y vs t' b (slot_w slots' d) (slot_o slots' d)) z this))
        (λ (q : d < e). renamed j e (slot_w slots e) (slot_o slots e) (slot_w slots' e) (slot_o slots' e)
        (λ r hr. window_slot e r q hr) (λ r hr. odd_slot e r hr)
        (deeper_kept arikan j d e l h count y vs
        (λ z. flat16 (row_f arikan ev m w l h b t (slot_w slots (suc d) z) (slot_o slots (suc d) z) z)) b t t'
        (slot_w slots e) (slot_o slots e) q few rows' (ready j e ej q)))
        (eq-or-lt_of_le {n = d} {m = e} le)

  -- ---- the loop up: the layers from d on are right, if they were from e on
  -- the phase of the layer above d lies inside its nodes' words
  rise_room : (deep l h count n e w x size : ℕ) (t b slots : List ℕ) → Climbs deep l h count n e w x size t b slots
      → (d p s : ℕ) → d ≤ e → p ≡ phase d n → s ≡ 2 ^ suc (suc (deep - d)) → 0 < d → 2 * p + 3 < 2 * s
  rise_room deep l h count n e w x size t b slots a d p s hd ep es pos =
      let c : ℕ = d - 1 in
      let k : ℕ = deep - d in
      let ed : d ≡ suc c = omega arith in
      let z : c + suc (suc (suc k)) ≡ suc (suc deep) = omega (arith, a.far) in
      let r : suc n ≤ 2 ^ (c + suc (suc (suc k))) = rw z a.room in
      omega (
        arith,
        phase_le c (suc (suc (suc k))) (suc n) r,
        phase_new n e a.turns c p (omega arith) (ep ∙ ap (λ (z : ℕ). phase z n) ed),
      )

  word_short : (deep d s : ℕ) → deep ≤ 8 → s ≡ 2 ^ suc (suc (deep - d)) → s ≤ 1024
  word_short deep d s h e
      = rw e (pow_mono {i = suc (suc (deep - d))} {j = 10} (omega arith))

  pub record Climbing (deep l h count n e : ℕ) (t₀ b slots₀ : List ℕ) (d v p s : ℕ) (t slots : List ℕ) : Type 0 where
    pub far : d ≤ e
    pub width : v ≡ 2 ^ d
    pub at : p ≡ phase d n
    pub sized : s ≡ 2 ^ suc (suc (deep - d))
    pub room : 0 < d → 2 * p + 3 < 2 * s
    pub short : s ≤ 1024
    pub words : length t ≡ length t₀
    pub numbers : length slots ≡ length slots₀
    pub names : Named deep l count slots
    pub ascent : Ascent arikan deep l h count n e t₀ b slots₀ d t slots
    pub kept : Kept h t₀ t

  pub climb_start : (deep l h count n e w x size : ℕ) (t b slots : List ℕ)
      → Climbs deep l h count n e w x size t b slots → Named deep l count slots
      → Climbing deep l h count n e t b slots e w x size t slots
  climb_start deep l h count n e w x size t b slots a names = record {
    far = omega arith;
    width = a.width;
    at = a.at;
    sized = a.sized;
    room = rise_room deep l h count n e w x size t b slots a e x size (omega arith) a.at a.sized;
    short = word_short deep e size a.deepest a.sized;
    words = refl;
    numbers = refl;
    names = names;
    ascent = λ q. q.ready;
    kept = λ j q. refl;
  }

  module _ (deep l h count n e w₀ x₀ size₀ : ℕ) (t₀ b slots₀ : List ℕ)
      (a : Climbs deep l h count n e w₀ x₀ size₀ t₀ b slots₀) (d v p s : ℕ) (t slots : List ℕ)
      (g : Climbing deep l h count n e t₀ b slots₀ d v p s t slots) (hd : 0 < d) where
    abbrev c : ℕ
    c = d - 1

    ed : d ≡ suc c
    ed = omega arith

    hc : c < e
    hc = omega (arith, g.far)

    ep : p ≡ phase (suc c) n
    ep = g.at ∙ ap (λ (z : ℕ). phase z n) ed

    abbrev k : ℕ
    k = deep - d

    ek : suc k + c ≡ deep
    ek = omega (arith, a.far, g.far)

    pn : phase c (suc n) ≡ 2 * p + 3
    pn = phase_new n e a.turns c p hc ep

    twice : 2 * s ≡ 2 ^ suc (suc (suc k))
    twice = omega (arith, g.sized)

    half : v / 2 ≡ 2 ^ c
    half = let z : v ≡ 2 * 2 ^ c = g.width ∙ ap (λ (z : ℕ). 2 ^ z) ed ∙ pow_two c in omega arith

    low : slot_start (v / 2) l l ≤ h
    low = rw half (omega (arith, a.below, slot_deep c (suc deep) l 0 (omega (arith, a.far))))

    pub climb_fits : FitWindows (v / 2) l h t b
    climb_fits =
        let q : 2 ^ c ≤ 2 ^ 8 = pow_mono {i = c} {j = 8} (omega (arith, a.deepest, a.far)) in
        let z : slot_start (2 * 2 ^ c) l l ≤ slot_start (2 ^ suc deep) l 0 = slot_ends c deep l (omega (arith, a.far)) in
        rw half record {
          wide = omega arith;
          long = a.long;
          words = omega (arith, a.words, g.words);
          bytes
              = omega (arith, a.bytes);
        }

    pub climb_asks : Slots l count (32 * (c + 1)) slots × Slots l count (512 + 32 * (c + 1)) slots × (count ≤ l)
        × ((2 * s - (2 * p + 3)) % 2 ≡ 1) × (c ≤ 8) × (32 * c + count ≤ length slots)
    climb_asks =
        let z : c + 1 ≡ d = omega arith in (
          rw z (g.names.windows d (omega (arith, g.far, a.far))),
          rw z (g.names.odds d (omega (arith, g.far, a.far))),
          a.few,
          omega (arith, g.room hd),
          omega (arith, a.deepest, a.far, hc),
          (g.names.windows c (omega (arith, a.far, hc))).there,
        )

    pub climb_more : (ev : Bool) (t' slots' : List ℕ) → ev ≡ is_even (kind (p + 1))
        → WroteRows (λ z. flat16
        (row_f arikan ev (2 * s - (2 * p + 3)) (v / 2) l h b t (slot_w slots (c + 1) z) (slot_o slots (c + 1) z) z))
        (16 * slot_start (v / 2) l 0) (16 * (v / 2)) count t t'
        → Wrote (λ r. r) (32 * c) count slots slots'
        → Climbing deep l h count n e t₀ b slots₀ c (v / 2) (2 * p + 2) (2 * s) t' slots'
    climb_more ev t' slots' ee rows own = record {
      far = omega (arith, g.far);
      width = half;
      at = up;
      sized = above;
      room = rise_room deep l h count n e w₀ x₀ size₀ t₀ b slots₀ a c (2 * p + 2) (2 * s) (omega arith) up above;
      short = word_short deep c (2 * s) a.deepest above;
      words = rows.same ∙ g.words;
      numbers = own.same ∙ g.numbers;
      names = named_own deep l count c slots slots' a.few a.long a.deepest (omega (arith, a.far, hc)) own
          g.names;
      ascent = climbed;
      kept = λ j q. kept_rows
          (λ z. flat16 (row_f arikan ev m (v / 2) l h b t (slot_w slots (c + 1) z) (slot_o slots (c + 1) z) z))
          (v / 2) l h count t t' a.few low rows j q ∙ g.kept j q;
    }
      where
        up : 2 * p + 2 ≡ phase c n
        up = sym (phase_up n e a.turns c p hc ep)

        above : 2 * s ≡ 2 ^ suc (suc (deep - c))
        above = let z : deep - c ≡ suc k = omega (arith, ek) in rw z twice

        m : ℕ
        m = 2 * s - (2 * p + 3)

        rows' : WroteRows (λ z. flat16 (row_f arikan ev m (v / 2) l h b t (slot_w slots (suc c) z) (slot_o slots (suc c) z) z))
            (16 * slot_start (v / 2) l 0) (16 * (v / 2)) count t t'
        rows' =
            let z : c + 1 ≡ suc c = omega arith in
            subst (λ (u : ℕ). WroteRows (λ z. flat16 (row_f arikan ev m (v / 2) l h b t (slot_w slots u z) (slot_o slots u z) z))
            (16 * slot_start (v / 2) l 0) (16 * (v / 2)) count t t') z rows

        climbed : Ascent arikan deep l h count n e t₀ b slots₀ c t' slots'
        climbed q =
            let ready : ReadyFrom arikan deep l h count q.y q.vs (suc c) t b slots
            = subst (λ (z : ℕ). ReadyFrom arikan deep l h count q.y q.vs z t b slots) ed (g.ascent q) in
            let z : p + 1 ≡ suc p = omega arith in
            up_more deep l h count n q.y q.vs c k ek a.few a.long a.deepest t t' b slots slots' ready
            (v / 2) m ev
            record {
              width = half;
              bits = q.bits;
              long = q.long;
              after = kind_new n e a.turns c p hc ep;
              inside = omega (arith, g.room hd, pn, twice);
              left = omega (arith, pn, twice);
              reads = ee ∙ ap (λ (z : ℕ). is_even (kind z)) (z ∙ sym (phase_kid n e a.turns c p hc ep));
              small = q.small;
              kids = ready k (suc c) (omega (arith, ek)) (omega arith);
              evens = λ r i hr hi. q.evens c r i hc hr hi;
            }
            rows' own
