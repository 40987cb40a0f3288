-- The children that are chosen at a clear and at a frozen position.
use mathlib.Core.Path.{◌≡◌, refl, sym, ap, ap₂, subst, ◌∙◌}
use mathlib.Core.List.{List}
use Prim.Native.Nat.{ℕ, zero, suc, ◌%◌, ◌<◌}
use native.Mathlib.Omega.{arith}
use native.Mathlib.Nat.{zero-add}
use lib.ListN.{get_or, replicate}
use Rattle.spec.specs.Bits.{unpacked}
use Rattle.laws.specs.BitLaws.{bits_at}
use Rattle.laws.specs.MapBits.{bits_unpacked}
use Rattle.windows.specs.Op.{Wrote}
use Rattle.tables.specs.Top.{top_cost}
use Rattle.live.specs.declared.Live.{Live}
use Rattle.live.specs.Entries.{first_of}
use Rattle.live.specs.Stands.{Position}
use Rattle.positions.specs.Own.{by_bit}
use Rattle.positions.specs.Position.{Chosen}
use Rattle.positions.specs.Running.{zeros_at}

-- a flag is 0 or 1
pub flag_one : (map : List ℕ) (i : ℕ) → (get_or (unpacked map) i 0 ≡ 0 → ⊥) → get_or (unpacked map) i 0 ≡ 1
flag_one map i n = go (get_or (unpacked map) i 0) n (bits_at (bits_unpacked map) i)
  where
    go : (x : ℕ) → (x ≡ 0 → ⊥) → x < 2 → x ≡ 1
    go zero n h = absurd (n refl)
    go (suc zero) n h = refl
    go (suc (suc x)) n h = absurd (omega arith)

pub written : (F : ℕ → ℕ) (count : ℕ) (z z' : List ℕ) → Wrote F 0 count z z' → (k : ℕ) → k < count → get_or z' k 0 ≡ F k
written F count z z' w k h = ap (λ (j : ℕ). get_or z' j 0) (sym (zero-add k)) ∙ w.inside k h

-- a cost by one of two bits
by_bit_lem : (F : ℕ → ℕ → ℕ) (x k : ℕ) → x < 2 → by_bit x (F 0 k) (F 1 k) ≡ F x k
by_bit_lem F zero k h = refl
by_bit_lem F (suc zero) k h = refl
by_bit_lem F (suc (suc x)) k h = absurd (omega arith)

module _ (f i l h : ℕ) (t b slots own : List ℕ) (s r : Live) (zs₀ zs os₀ os : List ℕ)
    (zeros : Wrote (top_cost i l h t b slots 0) 0 s.count zs₀ zs) (ones : Wrote (top_cost i l h t b slots 1) 0 s.count os₀ os) where
  T : ℕ → ℕ → ℕ
  T = top_cost i l h t b slots

  pub chosen_clear : f ≡ 0 → Position 0 l (replicate 32 0) zs os s r → Chosen f i l h t b slots own s r
  unfolding T
  chosen_clear e p = record {
    bs = replicate 32 0;
    cs = zs;
    ds = os;
    bits = λ k hk. ap (λ (x : ℕ). x % 2) (zeros_at 32 k) ∙ sym (ap (λ (g : ℕ). first_of g (get_or own k 0 % 2)) e);
    firsts = λ k hk. written (T 0) s.count zs₀ zs zeros k hk ∙ ap (λ (x : ℕ). T (x % 2) k) (sym (zeros_at 32 k));
    seconds = λ _. written (T 1) s.count os₀ os ones;
    position = subst (λ (g : ℕ). Position g l (replicate 32 0) zs os s r) (sym e) p;
  }

  pub chosen_frozen : f ≡ 1 → (cs₀ cs : List ℕ) → Wrote (λ k. by_bit (get_or own k 0 % 2) (get_or zs k 0) (get_or os k 0)) 0 s.count cs₀ cs
      → Position 1 l own cs cs s r → Chosen f i l h t b slots own s r
  unfolding T
  chosen_frozen e cs₀ cs costs p = record {
    bs = own;
    cs = cs;
    ds = cs;
    bits = λ k hk. sym (ap (λ (z : ℕ). first_of z (get_or own k 0 % 2)) e);
    firsts = λ k hk.
        written (λ j. by_bit (get_or own j 0 % 2) (get_or zs j 0) (get_or os j 0)) s.count cs₀ cs costs k hk
        ∙ ap₂ (by_bit (get_or own k 0 % 2)) (written (T 0) s.count zs₀ zs zeros k hk) (written (T 1) s.count os₀ os ones k hk)
        ∙ by_bit_lem T (get_or own k 0 % 2) k (omega arith);
    seconds = λ z. absurd (omega arith);
    position = subst (λ (z : ℕ). Position z l own cs cs s r) (sym e) p;
  }
