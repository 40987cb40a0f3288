-- One position of the loop is one position of the paper decoder.
use mathlib.Core.Path.{◌≡◌, sym, ap, subst, ◌∙◌}
use mathlib.Core.List.{List, [], ◌∷◌, ◌++◌, map}
use Prim.Native.Nat.{ℕ, suc, ◌+◌, ◌*◌, ◌%◌, ◌<◌, ◌^◌}
use native.Mathlib.Nat.{mod-eq_of_lt}
use native.Mathlib.Omega.{arith}
use native.Mathlib.Numerals.{add-one}
use lib.ListN.{length, take, drop, get_or}
use lib.Seq.{get_or-take}
use lib.IntN.{ℤ}
use Rattle.spec.specs.Bits.{Bits, unpacked}
use Rattle.spec.specs.Code.{Code, size, frozen, frozen_bit, code_transform}
use Rattle.spec.specs.Decoder.{children, continued, families, sort_by}
use Rattle.laws.specs.Cost.{cost}
use Rattle.laws.specs.CodeScore.{code_cost}
use Rattle.laws.specs.ListCost.{cheaper, live_by_cost, live_long, live_bits, frozen_lt, all_at}
use Rattle.laws.specs.CeilingCost.{least_of, lost_cost, lost_more}
use Rattle.tables.specs.Top.{top_cost}
use Rattle.tables.proofs.Reading.{top_right}
use Rattle.live.specs.declared.Live.{Live}
use Rattle.live.specs.Lists.{entries}
use Rattle.live.specs.Entries.{first_of}
use Rattle.live.specs.Stands.{Step, Kept, BitsAre}
use Rattle.positions.specs.Position.{Chosen}
use Rattle.rows.specs.DecodedRows.{prefixes}
use Rattle.positions.specs.Running.{prefix_at, Owns, Running}

-- ---- the prefixes after i positions
module _ (c : Code) (y : List ℤ) (l i : ℕ) where
  pub prefix_bits : (r : ℕ) → r < length (prefixes c y l i) → Bits (prefix_at c y l i r)
  prefix_bits r h = all_at [] (live_bits (code_transform c) c y l i) r h

  pub prefix_long : (r : ℕ) → r < length (prefixes c y l i) → length (prefix_at c y l i r) ≡ i
  prefix_long r h = all_at [] (live_long (code_transform c) c y l i) r h

-- the flag of a position, as it is read off the map
pub flag_is : (c : Code) (i : ℕ) → i < size c → get_or (unpacked c.map) i 0 ≡ get_or (frozen c) i 0
unfolding frozen
flag_is c i h = sym (get_or-take (size c) (unpacked c.map) i 0 h)

-- the children of the prefixes after i positions, in order by costs
abbrev kids : Code → List ℤ → ℕ → ℕ → List (List ℕ)
kids c y l i = sort_by (cheaper (code_cost c y)) (families (children c i) (prefixes c y l i))

-- as they are made by the flag that is read
kids_read : (c : Code) (y : List ℤ) (l i : ℕ) → i < size c
    → sort_by (cheaper (code_cost c y)) (families (λ w. continued (get_or (unpacked c.map) i 0) (frozen_bit c i w) w) (prefixes c y l i)) ≡ kids c y l i
unfolding children
kids_read c y l i h =
    ap (λ (f : ℕ). sort_by (cheaper (code_cost c y)) (families (λ w. continued f (frozen_bit c i w) w) (prefixes c y l i))) (flag_is c i h)

module _ (c : Code) (y : List ℤ) (deep l h i : ℕ) (s r : Live) (t b slots : List ℕ) (run : Running c y deep l h i s t b slots) (hi : i < 2 ^ suc (suc deep)) where
  size_is : size c ≡ 2 ^ suc (suc deep)
  size_is = ap (λ (m : ℕ). 2 ^ m) run.call.exponent

  read : (x : ℕ) → x < 2 → (k : ℕ) → k < s.count → top_cost i l h t (take (3 * h) b) slots x k ≡ code_cost c y (prefix_at c y l i k ++ x ∷ [])
  read x hx k hk =
      top_right c.arikan deep l h s.count i y (prefix_at c y l i) t (take (3 * h) b) slots (run.ready hi deep 0 (omega arith))
      (λ r hr. prefix_bits c y l i r (omega (arith, run.counted))) (λ r hr. prefix_long c y l i r (omega (arith, run.counted))) hi x hx k hk
      ∙ ap (λ (m : ℕ). cost c.arikan m y (prefix_at c y l i k ++ x ∷ [])) (sym run.call.exponent)

  module _ (own : List ℕ) (owns : Owns c y l i own) (ch : Chosen (get_or (unpacked c.map) i 0) i l h t (take (3 * h) b) slots own s r) where
    inside : i < size c
    inside = omega (arith, size_is)

    bits : BitsAre (get_or (unpacked c.map) i 0) (frozen_bit c i) ch.bs (prefixes c y l i)
    bits k hk =
        let w : List ℕ = prefix_at c y l i k in
        ch.bits k (omega (arith, run.counted))
        ∙ ap (first_of (get_or (unpacked c.map) i 0)) (ap (λ (x : ℕ). x % 2) (owns k hk) ∙ mod-eq_of_lt (frozen_lt c i (prefix_bits c y l i k hk)))

    chosen : Kept (code_cost c y) (i + 1) l (prefixes c y l i) (kids c y l i) s r
    chosen =
        subst (λ (ws : List (List ℕ)). Kept (code_cost c y) (i + 1) l (prefixes c y l i) ws s r) (kids_read c y l i inside)
        (ch.position.keeps (code_cost c y) (frozen_bit c i) i (prefixes c y l i) run.rep bits
        (λ k hk. ch.firsts k (omega (arith, run.counted)) ∙ read (get_or ch.bs k 0 % 2) (omega arith) k (omega (arith, run.counted)))
        (λ e k hk. ch.seconds e k (omega (arith, run.counted)) ∙ read 1 (omega arith) k (omega (arith, run.counted))))

    -- the list that is chosen stands for the next prefixes
    pub chosen_step : Step (code_cost c y) (suc i) (prefixes c y l i) (prefixes c y l (suc i)) (entries r)
    chosen_step =
        subst (λ (n : ℕ). Step (code_cost c y) n (prefixes c y l i) (prefixes c y l (suc i)) (entries r)) (add-one i)
        (subst (λ (qs : List (List ℕ)). Step (code_cost c y) (i + 1) (prefixes c y l i) qs (entries r))
        (sym (live_by_cost c y l (run.call.soft ∙ sym size_is) i inside)) chosen.step)

    -- and has the least cost that was dropped up to them
    pub chosen_lost : r.lost ≡ lost_cost c y l (suc i)
    chosen_lost =
        chosen.lost
        ∙ ap (λ (a : ℕ). least_of a (map (code_cost c y) (drop l (kids c y l i)))) run.lost
        ∙ sym (lost_more c y l (run.call.soft ∙ sym size_is) i inside)
