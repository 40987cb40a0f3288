-- The three ends of the walk down, as the code meets them, and the whole of `advance`.
use mathlib.Core.Path.{◌≡◌, refl, ◌∙◌, sym, ap, subst}
use mathlib.Core.Logic.{⊎_elim}
use mathlib.Core.Bool.{Bool, false, true≢false}
use mathlib.Core.List.{List}
use Prim.Native.Nat.{ℕ, zero, suc, ◌+◌, ◌*◌, ◌-◌, ◌/◌, ◌%◌, ◌<◌, ◌≤◌, ◌^◌}
use native.Mathlib.Nat.{eq-or-lt_of_le}
use native.Mathlib.Omega.{arith}
use lib.ListN.{length}
use Rattle.std.specs.Prelude.{nat_eq}
use Rattle.std.proofs.lemmas.Bool.{eqb-true, eq-eqb}
use lib.Pow.{pow_mono, pow_pos}
use Rattle.laws.specs.Nodes.{phase, phase_le, bits_snoc, down, down_is}
use Rattle.windows.specs.Op.{Wrote}
use Rattle.tables.specs.Tab.{slot_start, WroteRows, flat16, row_f, base_f, sum_f, FitWindows, FitBits, FitBottom}
use Rattle.tables.specs.Tab.{Slots}
use Rattle.tables.specs.Walk.{slot_w, slot_o, grown, Named, Kept, Climbs, Ends, Turn, Two, Reached, Stops, Tables}
use Rattle.tables.specs.Walk.{Advance, Descent, Ascent}
use Rattle.tables.proofs.Rises.{named_own, named_odd, kept_rows}
use Rattle.tables.proofs.Grounded.{grown_long, phase_more, turn_first, turn_ground}
use Rattle.tables.proofs.Places.{slot_ends, slot_deep}
use Rattle.tables.proofs.Turns.{evens_odd, evens_of, turn_odd}

even_of : (x : ℕ) → (x % 2 ≡ 1 → ⊥) → x % 2 ≡ 0
even_of zero np = refl
even_of (suc zero) np = absurd (np refl)
even_of (suc (suc x)) np = let z : x % 2 ≡ 0 = even_of x (λ q. np (omega arith)) in omega arith

-- ---- how far down
pub reached_none : (n deep positions : ℕ) → positions ≡ 2 ^ suc (suc deep) → Reached n deep 0 1 n positions
reached_none n deep positions e
    = record {
      far = omega arith;
      turns = λ d h. absurd (omega arith);
      width = refl;
      at = refl;
      sized
          = (let z : deep - 0 ≡ deep = omega arith in rw z e);
    }

pub reached_more : (n deep e w x size : ℕ) → e < deep → (x % 2 ≡ 1 → ⊥) → (x ≡ 0 → ⊥) → Reached n deep e w x size
    → Reached n deep (e + 1) (2 * w) ((x - 1) / 2) (size / 2)
reached_more n deep e w x size lt np nz a =
    let ee : e + 1 ≡ suc e = omega arith in
    let even : x % 2 ≡ 0 = even_of x np in
    let pos : 0 < x = positive x nz in
    let z : deep - e ≡ suc (deep - suc e) = omega arith in
    let sz : size ≡ 2 ^ suc (suc (suc (deep - suc e))) = a.sized ∙ ap (λ (k : ℕ). 2 ^ suc (suc k)) z in
    rw ee record {
      far = omega arith;
      turns = λ d h. ⊎_elim
          (λ (u : d ≡ e). rw u (ap (λ (k : ℕ). k % 2) (sym a.at) ∙ even, subst (λ (k : ℕ). 0 < k) a.at pos))
          (λ (u : d < e). a.turns d u)
          (eq-or-lt_of_le {n = d} {m = e} (omega arith));
      width = omega (arith, a.width);
      at = sym (down_is x) ∙ ap down a.at;
      sized = omega arith;
    }
  where
    positive : (x : ℕ) → (x ≡ 0 → ⊥) → 0 < x
    positive zero nz = absurd (nz refl)
    positive (suc x) nz = omega arith

-- whether the bottom's bit is its third, as the test has it
pub two_of : (x : ℕ) → Two x (nat_eq x 2)
two_of x = record { yes = eqb-true x 2; no = λ e f. true≢false (sym (eq-eqb x 2 f) ∙ e) }

-- ---- what depends on the layer rule
module _ (arikan : Bool) where
  -- what the layer's turn leaves: slot numbers that name slots, the bottom's costs, and the layers from e on right for
  -- the longer prefixes
  abbrev Turned : ℕ → ℕ → ℕ → ℕ → ℕ → ℕ → List ℕ → List ℕ → List ℕ → List ℕ → List ℕ → List ℕ → Type 0
  Turned deep l h count n e t b slots t' b' slots' = Named deep l count slots' × Kept h t t'
      × Turn arikan deep l h count n e t b slots t' b' slots'

  module _ (deep l h count n e w x size : ℕ) (t b slots : List ℕ) (a : Ends deep l h count n e w x size t b slots) where
    abbrev c : Climbs deep l h count n e w x size t b slots
    c = a.climbs

    wide : w ≤ 256
    wide = let q : 2 ^ e ≤ 2 ^ 8
        = pow_mono {i = e} {j = 8} (omega (arith, c.deepest, c.far)) in omega (arith, c.width)

    low : slot_start w l l ≤ h
    low = rw c.width (omega (arith, a.low, slot_deep e (suc deep) l 0 (omega (arith, c.far))))

    shallow : e ≤ 8
    shallow = omega (arith, c.far, c.deepest)

    -- an odd bit
    pub odd_asks : FitBits w l h b
        × (Slots l count (32 * e) slots × (count ≤ l) × (e ≤ 8) × (512 + 32 * e + count ≤ length slots))
    odd_asks = (
      record { wide = omega (arith, wide); long = c.long; low = low; bytes = a.triple },
      (a.names.windows e c.far, c.few, shallow, (a.names.odds e c.far).there),
    )

    pub end_odd : (b' slots' : List ℕ) → x % 2 ≡ 1
        → WroteRows (λ r. sum_f w l h b (slot_w slots e r) r) (h + slot_start w l 0) w count b b'
        → Wrote (λ r. r) (512 + 32 * e) count slots slots' → Turned deep l h count n e t b slots t b' slots'
    end_odd b' slots' po rows own = (
      named_odd deep l count e slots slots' c.few c.long c.deepest c.far own a.names,
      (λ j q. refl),
      λ b₀ p g. (
        turn_odd arikan deep l h count n t b₀ slots p e b g a.low a.names c.few c.long c.deepest
            c.far po' b' slots' rows' own,
        λ d r i hd hr hi. evens_odd arikan deep l h count n t b₀ slots p e b g a.low a.names c.few c.long
            c.deepest c.far po' b' slots' rows' own d r i c.turns hd hr hi,
      ),
    )
      where
        po' : phase e n % 2 ≡ 1
        po' = ap (λ (z : ℕ). z % 2) (sym c.at) ∙ po

        rows' : WroteRows (λ r. sum_f (2 ^ e) l h b (slot_w slots e r) r) (h + slot_start (2 ^ e) l 0) (2 ^ e) count b b'
        rows' = subst (λ (w : ℕ). WroteRows (λ r. sum_f w l h b (slot_w slots e r) r) (h + slot_start w l 0) w count b b')
            c.width rows

    pub size_some : (size % 2 ≡ 0) × (1 ≤ size)
    size_some = (omega (arith, c.sized), omega (arith, c.sized, pow_pos (deep - e)))

    -- the first bit of a layer above the bottom
    pub first_asks : e < deep → FitWindows w l h t b
        × (Slots l count (32 * (e + 1)) slots × Slots l count (512 + 32 * (e + 1)) slots × (count ≤ l)
        × ((size - 1) % 2 ≡ 1) × (e ≤ 8) × (32 * e + count ≤ length slots))
    first_asks q =
        let g : slot_start (2 * 2 ^ e) l l ≤ slot_start (2 ^ suc deep) l 0 = slot_ends e deep l q in
        let g' : slot_start (2 * w) l l ≤ slot_start (2 ^ suc deep) l 0 = rw c.width g in (
          record {
            wide = omega (arith, wide);
            long = c.long;
            words = omega (arith, c.words);
            bytes
                = omega (arith, c.bytes);
          },
          (
            a.names.windows (e + 1) (omega arith),
            a.names.odds (e + 1) (omega arith),
            c.few,
            omega
                (arith, size_some),
            shallow,
            (a.names.windows e c.far).there,
          ),
        )

    pub end_first : (t' slots' : List ℕ) → (x % 2 ≡ 1 → ⊥) → e < deep
        → WroteRows (λ z. flat16 (row_f arikan false (size - 1) w l h b t (slot_w slots (e + 1) z) (slot_o slots (e + 1) z) z))
        (16 * slot_start w l 0) (16 * w) count t t'
        → Wrote (λ r. r) (32 * e) count slots slots' → Turned deep l h count n e t b slots t' b slots'
    end_first t' slots' np lt rows own = (
      named_own deep l count e slots slots' c.few c.long c.deepest c.far own a.names,
      kept_rows (λ z. flat16 (row_f arikan false (size - 1) w l h b t (slot_w slots (e + 1) z) (slot_o slots (e + 1) z) z)) w l h
          count t t' c.few low rows,
      λ b₀ p g. (
        turn_first arikan deep l h count n t b₀ slots p e b g c.turns a.low a.names c.few c.long c.deepest k
            (omega arith) (sym c.at ∙ zero_of x np a.stop) t' slots' w (size - 1) c.width em rows' own,
        evens_of arikan l h count n e p.ws (grown p.ws p.bs) b₀ b c.turns g,
      ),
    )
      where
        k : ℕ
        k = deep - e - 1

        em : size - 1 ≡ 2 ^ suc (suc (suc k)) - 1
        em = let z : deep - e ≡ suc k
            = omega arith in ap (λ (z : ℕ). z - 1) (c.sized ∙ ap (λ (z : ℕ). 2 ^ suc (suc z)) z)

        rows' : WroteRows (λ z. flat16
            (row_f arikan false (size - 1) w l h b t (slot_w slots (suc e) z) (slot_o slots (suc e) z) z)) (16 * slot_start w l 0)
            (16 * w) count t t'
        rows' =
            let z : e + 1 ≡ suc e = omega arith in
            subst (λ (u : ℕ). WroteRows
            (λ z. flat16 (row_f arikan false (size - 1) w l h b t (slot_w slots u z) (slot_o slots u z) z))
            (16 * slot_start w l 0) (16 * w) count t t') z rows

        zero_of : (x : ℕ) → (x % 2 ≡ 1 → ⊥) → (x % 2 ≡ 0 → 0 < x → e ≡ deep) → x ≡ 0
        zero_of zero np s = refl
        zero_of (suc x) np s = absurd (omega (arith, s (even_of (suc x) np) (omega arith)))

    -- an even bit at the bottom: its first or its third
    pub ground_asks : e ≡ deep → FitBottom w l h t b
        × (Slots l count (512 + 32 * e) slots × (count ≤ l) × (e ≤ 8) × (32 * e + count ≤ length slots))
    ground_asks q = (
      record {
        wide = omega (arith, wide);
        long = c.long;
        low = low;
        words = rw (c.width, q) a.costs;
        bytes
            = a.triple;
      },
      (a.names.odds e c.far, c.few, shallow, (a.names.windows e c.far).there),
    )

  pub end_ground : (deep l h count n e w x size : ℕ) (t b slots t' slots' : List ℕ) (last₂ : Bool)
      → Ends deep l h count n e w x size t b slots → e ≡ deep → (x % 2 ≡ 1 → ⊥) → Two x last₂
      → WroteRows (λ r. flat16 (base_f last₂ w l h b t (slot_o slots e r) r)) (16 * slot_start w l 0) (16 * w) count t t'
      → Wrote (λ r. r) (32 * e) count slots slots'
      → Turned deep l h count n e t b slots t' b slots'
  end_ground deep l h count n e w x size t b slots t' slots' last₂ a q np two rows own = (
    named_own deep l count e slots slots' a.climbs.few a.climbs.long a.climbs.deepest a.climbs.far own
        a.names,
    kept_rows (λ r. flat16 (base_f last₂ w l h b t (slot_o slots e r) r)) w l h count t t' a.climbs.few
        (low deep l h count n e w x size t b slots a) rows,
    subst (λ (e : ℕ). Ends deep l h count n e w x size t b slots
        → WroteRows (λ r. flat16 (base_f last₂ w l h b t (slot_o slots e r) r)) (16 * slot_start w l 0) (16 * w) count t t'
        → Wrote (λ r. r) (32 * e) count slots slots' → Turn arikan deep l h count n e t b slots t' b slots')
        (sym q) at_bottom a rows own,
  )
    where
      small : (x : ℕ) → x % 2 ≡ 0 → suc x ≤ 4 → (x ≡ 2 → ⊥) → x ≡ 0
      small zero e l f = refl
      small (suc zero) e l f = absurd (omega arith)
      small (suc (suc zero)) e l f = absurd (f refl)
      small (suc (suc (suc x))) e l f = absurd (omega arith)

      at_bottom : Ends deep l h count n deep w x size t b slots
          → WroteRows (λ r. flat16 (base_f last₂ w l h b t (slot_o slots deep r) r)) (16 * slot_start w l 0)
          (16 * w) count t t'
          → Wrote (λ r. r) (32 * deep) count slots slots' → Turn arikan deep l h count n deep t b slots t' b slots'
      at_bottom a rows own b₀ p g =
          let c = a.climbs in
          let even : x % 2 ≡ 0 = even_of x np in
          let r : suc n ≤ 2 ^ (deep + 2) = (let z : deep + 2 ≡ suc (suc deep) = omega arith in rw z c.room) in
          let le : suc x ≤ 4 = omega (arith, phase_le deep 2 (suc n) r, phase_more n deep c.turns, c.at) in (
            turn_ground arikan deep l h count n t b₀ slots p b g c.turns a.low a.names c.few c.long
                c.deepest (ap (λ (z : ℕ). z % 2) (sym c.at) ∙ even) last₂
                (λ f. sym c.at ∙ small x even le (two.no f)) (λ f. sym c.at ∙ two.yes f) t' slots' w
                c.width rows own,
            evens_of arikan l h count n deep p.ws (grown p.ws p.bs) b₀ b c.turns g,
          )

  -- ---- the whole
  module _ (deep l h count n positions e w x size : ℕ) (t b slots : List ℕ)
      (a : Tables deep l h count n positions t b slots) (r : Reached n deep e w x size) where
    pub climbs : (t' b' slots' : List ℕ) → length t' ≡ length t → length b' ≡ length b
        → Climbs deep l h count n e w x size t' b' slots'
    climbs t' b' slots' et eb = record {
      deepest = a.deepest;
      far = r.far;
      turns = r.turns;
      long = a.long;
      few = a.few;
      room = a.room;
      words = omega (arith, a.low, a.costs);
      bytes = omega (arith, a.low, a.triple);
      below = a.low;
      width = r.width;
      at = r.at;
      sized = r.sized;
    }

    pub ends_at : (b' : List ℕ) → length b' ≡ length b → Stops deep e x → Ends deep l h count n e w x size t b' slots
    ends_at b' eb s = record {
      climbs = climbs t b' slots refl eb;
      names = a.names;
      low = a.low;
      triple = omega (arith, a.triple);
      costs
          = a.costs;
      stop = s.stop;
    }

    pub advanced : (b₁ t₂ b₂ slots₂ t₃ slots₃ : List ℕ) → Descent arikan deep l h count n e slots b b₁
        → Turn arikan deep l h count n e t b₁ slots t₂ b₂ slots₂ → Ascent arikan deep l h count n e t₂ b₂ slots₂ 0 t₃ slots₃
        → Advance arikan deep l h count n t b slots t₃ b₂ slots₃
    advanced b₁ t₂ b₂ slots₂ t₃ slots₃ d u v b₀ p top =
        let g = u b₀ p (d t b₀ p top) in
        v record {
          y = p.y;
          small = p.small;
          vs = grown p.ws p.bs;
          bits
              = λ r hr. bits_snoc (p.bs r) (p.bits r hr) (p.bit r hr);
          long
              = grown_long count n p.ws p.bs p.long;
          ready = g.0;
          evens = g.1;
        }
