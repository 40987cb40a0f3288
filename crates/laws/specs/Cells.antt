-- A cell: what the tables hold of a node, and when it is right for the node's soft values and decided prefix.
use Rattle.std.specs.Prelude.{◌≡◌, refl, List, [], ◌∷◌, ◌++◌, Bool, ℕ, zero, suc, ◌^◌, ◌<◌, min, length, ℤ}
use Rattle.std.proofs.Common.{sym, ap₂, subst, ◌∙◌, arith, length-append}
use Rattle.spec.specs.Bits.{Bits}
use Rattle.laws.specs.Cost.{last, cost}
use Rattle.laws.specs.Layer.{last_snoc, least}
use Rattle.laws.specs.Windows.{W4, W3, mask4, win3_odd, win3_even, pack4, at4, at4_pack, top_odd, top_even}
use Rattle.laws.specs.Nodes.{none_not_even, bits_last, cut, cut_odd, cut_even, Kind, none, odd, even, kind, Shape, s_none, s_odd, s_even, shape, pair_sum, odd_last}

-- ---- a cell
pub record Cell : Type 0 where
  pub costs : ℕ → ℕ
  pub even_bit : ℕ
  pub sum_bit : ℕ
  pub odd_bit : ℕ

-- ---- a child's window of three bits
abbrev pub read3 : Kind → Cell → ℕ → ℕ → ℕ → ℕ
read3 none c x₁ x₂ x₃ = least (λ t. c.costs (pack4 x₁ x₂ x₃ t))
read3 odd c x₁ x₂ x₃ = least (λ t. c.costs (pack4 x₁ x₂ x₃ t))
read3 even c x₁ x₂ x₃ = c.costs (pack4 c.odd_bit x₁ x₂ x₃)

-- ---- functions of bits that agree
abbrev pub Same3 : (ℕ → ℕ → ℕ → ℕ) → (ℕ → ℕ → ℕ → ℕ) → Type 0
Same3 f g = (a b c : ℕ) → a < 2 → b < 2 → c < 2 → f a b c ≡ g a b c

abbrev pub Same4 : (ℕ → ℕ → ℕ → ℕ → ℕ) → (ℕ → ℕ → ℕ → ℕ → ℕ) → Type 0
Same4 f g = (a b c d : ℕ) → a < 2 → b < 2 → c < 2 → d < 2 → f a b c d ≡ g a b c d

pub mask4_same : (r : ℕ) (f f' : ℕ → ℕ → ℕ → ℕ → ℕ) → Same4 f f' → Same4 (mask4 r f) (mask4 r f')
mask4_same zero f f' p a b c d ha hb hc hd = p 0 0 0 0 (omega arith) (omega arith) (omega arith) (omega arith)
mask4_same (suc zero) f f' p a b c d ha hb hc hd = p a 0 0 0 ha (omega arith) (omega arith) (omega arith)
mask4_same (suc (suc zero)) f f' p a b c d ha hb hc hd = p a b 0 0 ha hb (omega arith) (omega arith)
mask4_same (suc (suc (suc zero))) f f' p a b c d ha hb hc hd = p a b c 0 ha hb hc (omega arith)
mask4_same (suc (suc (suc (suc r)))) f f' p a b c d ha hb hc hd = p a b c d ha hb hc hd

-- ---- the start
abbrev pub blank : (ℕ → ℕ) → Cell
blank f = record { costs = f; even_bit = 0; sum_bit = 0; odd_bit = 0 }

-- ---- the top: what the path costs with one bit more
abbrev pub peek : Kind → Cell → ℕ → ℕ
peek none c b = least (λ p. least (λ q. least (λ r. c.costs (pack4 b p q r))))
peek odd c b = least (λ p. least (λ q. least (λ r. c.costs (pack4 b p q r))))
peek even c b = least (λ p. least (λ q. c.costs (pack4 c.odd_bit b p q)))

least2 : (f : ℕ → ℕ) (g : ℕ → ℕ → ℕ → ℕ → ℕ) (a b : ℕ) → ((p q : ℕ) → p < 2 → q < 2 → f (pack4 a b p q) ≡ g a b p q)
    → least (λ p. least (λ q. f (pack4 a b p q))) ≡ least (λ p. least (g a b p))
least2 f g a b e = ap₂ min (at 0 (omega arith)) (at 1 (omega arith))
  where
    at : (p : ℕ) → p < 2 → least (λ q. f (pack4 a b p q)) ≡ least (g a b p)
    at p hp = ap₂ min (e p 0 hp (omega arith)) (e p 1 hp (omega arith))

least3 : (f : ℕ → ℕ) (g : ℕ → ℕ → ℕ → ℕ → ℕ) (a : ℕ) → ((p q r : ℕ) → p < 2 → q < 2 → r < 2 → f (pack4 a p q r) ≡ g a p q r)
    → least (λ p. least (λ q. least (λ r. f (pack4 a p q r)))) ≡ least (λ p. least (λ q. least (g a p q)))
least3 f g a e = ap₂ min (least2 f g a 0 (λ p q hp hq. e 0 p q (omega arith) hp hq)) (least2 f g a 1 (λ p q hp hq. e 1 p q (omega arith) hp hq))

-- ---- what depends on the layer rule
module _ (arikan : Bool) where
  -- of layer m, at the soft values y and the decided prefix v: the window of the prefix cut to odd length, and its last bits
  pub record Good (m : ℕ) (y : List ℤ) (v : List ℕ) (c : Cell) : Type 0 where
    pub costs_are : (x : ℕ) → x < 16 → c.costs x ≡ at4 (W4 arikan m y (cut v)) x
    pub even_is : c.even_bit ≡ last (cut v)
    pub bits_are : kind (length v) ≡ even → (c.sum_bit ≡ pair_sum v) × (c.odd_bit ≡ odd_last v)

  -- a cell with the same entries and bits
  pub good_ext : (m : ℕ) (y : List ℤ) (v : List ℕ) (c c' : Cell) → ((x : ℕ) → x < 16 → c'.costs x ≡ c.costs x) → c'.even_bit ≡ c.even_bit → c'.sum_bit ≡ c.sum_bit → c'.odd_bit ≡ c.odd_bit
      → Good m y v c → Good m y v c'
  good_ext m y v c c' et ee ep eq g = record {
    costs_are = λ x h. et x h ∙ g.costs_are x h;
    even_is = ee ∙ g.even_is;
    bits_are = λ k. (ep ∙ (g.bits_are k).0, eq ∙ (g.bits_are k).1);
  }

  pub costs_at : (m : ℕ) (y : List ℤ) (v : List ℕ) (c : Cell) → Good m y v c → (a b e d : ℕ) → a < 2 → b < 2 → e < 2 → d < 2
      → c.costs (pack4 a b e d) ≡ W4 arikan m y (cut v) a b e d
  costs_at m y v c g a b e d ha hb he hd = g.costs_are (pack4 a b e d) (omega arith) ∙ at4_pack (W4 arikan m y (cut v)) a b e d ha hb he hd

  read3_shape : {k : Kind} {v : List ℕ} (m : ℕ) (y : List ℤ) (c : Cell) → Shape k v → kind (length v) ≡ k → Good m y v c → Bits v
      → (x₁ x₂ x₃ : ℕ) → x₁ < 2 → x₂ < 2 → x₃ < 2 → read3 k c x₁ x₂ x₃ ≡ W3 arikan m y v x₁ x₂ x₃
  read3_shape m y c s_none ek g t x₁ x₂ x₃ h₁ h₂ h₃ =
      ap₂ min (costs_at m y [] c g x₁ x₂ x₃ 0 h₁ h₂ h₃ (omega arith)) (costs_at m y [] c g x₁ x₂ x₃ 1 h₁ h₂ h₃ (omega arith))
      ∙ sym (win3_odd arikan m y [] x₁ x₂ x₃)
  read3_shape m y c (s_odd v o) ek g t x₁ x₂ x₃ h₁ h₂ h₃ =
      ap₂ min (costs_at m y v c g x₁ x₂ x₃ 0 h₁ h₂ h₃ (omega arith)) (costs_at m y v c g x₁ x₂ x₃ 1 h₁ h₂ h₃ (omega arith))
      ∙ rw (cut_odd v o) (sym (win3_odd arikan m y v x₁ x₂ x₃))
  read3_shape m y c (s_even v b o) ek g t x₁ x₂ x₃ h₁ h₂ h₃ =
      let eq : c.odd_bit ≡ b = (g.bits_are ek).1 ∙ last_snoc v b in
      let hb : b < 2 = subst (λ (x : ℕ). x < 2) (last_snoc v b) (bits_last t) in
      rw eq (costs_at m y (v ++ b ∷ []) c g b x₁ x₂ x₃ hb h₁ h₂ h₃ ∙ (rw (cut_even v b o) (sym (win3_even arikan m y v b x₁ x₂ x₃))))

  pub read3_is : (m : ℕ) (y : List ℤ) (v : List ℕ) (c : Cell) → Good m y v c → Bits v
      → (x₁ x₂ x₃ : ℕ) → x₁ < 2 → x₂ < 2 → x₃ < 2 → read3 (kind (length v)) c x₁ x₂ x₃ ≡ W3 arikan m y v x₁ x₂ x₃
  read3_is m y v c = read3_shape m y c (shape v) refl

  pub blank_good : (m : ℕ) (y : List ℤ) (f : ℕ → ℕ) → ((x : ℕ) → x < 16 → f x ≡ at4 (W4 arikan m y []) x) → Good m y [] (blank f)
  blank_good m y f p = record { costs_are = p; even_is = refl; bits_are = λ e. absurd (none_not_even e) }

  peek_shape : {k : Kind} {v : List ℕ} (m : ℕ) (y : List ℤ) (c : Cell) (b : ℕ) → Shape k v → kind (length v) ≡ k → Good m y v c → Bits v → b < 2
      → length v < 2 ^ m → peek k c b ≡ cost arikan m y (v ++ b ∷ [])
  peek_shape m y c b s_none ek g t hb h = least3 c.costs (W4 arikan m y []) b (λ p q r hp hq hr. costs_at m y [] c g b p q r hb hp hq hr) ∙ sym (top_odd arikan m y [] b h)
  peek_shape m y c b (s_odd v o) ek g t hb h =
      least3 c.costs (W4 arikan m y v) b (λ p q r hp hq hr. costs_at m y v c g b p q r hb hp hq hr ∙ (rw (cut_odd v o) refl)) ∙ sym (top_odd arikan m y v b h)
  peek_shape m y c b (s_even v x o) ek g t hb h =
      let eq : c.odd_bit ≡ x = (g.bits_are ek).1 ∙ last_snoc v x in
      let hx : x < 2 = subst (λ (z : ℕ). z < 2) (last_snoc v x) (bits_last t) in
      rw eq (least2 c.costs (W4 arikan m y v) x b (λ p q hp hq. costs_at m y (v ++ x ∷ []) c g x b p q hx hb hp hq ∙ (rw (cut_even v x o) refl))
      ∙ sym (top_even arikan m y v x b (omega (arith, length-append v (x ∷ [])))))

  pub peek_is : (m : ℕ) (y : List ℤ) (v : List ℕ) (c : Cell) (b : ℕ) → Good m y v c → Bits v → b < 2 → length v < 2 ^ m
      → peek (kind (length v)) c b ≡ cost arikan m y (v ++ b ∷ [])
  peek_is m y v c b = peek_shape m y c b (shape v) refl
