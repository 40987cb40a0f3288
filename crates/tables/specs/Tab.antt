-- Where the cells lie, and what each pass over them writes, as a function of the lists that it reads.
use Rattle.std.specs.Prelude.{◌≡◌, Bool, false, cond, ◌⊎◌, List, ℕ, ◌+◌, ◌*◌, ◌-◌, ◌/◌, ◌%◌, ◌<◌, ◌≤◌, ltb, get_or, length}
use Rattle.laws.specs.Places.{carry}
use Rattle.windows.specs.Op.{tab_at, plain32, source, lift32, kind_b, bottom_f, decided_of}

-- the first node of slot s of a layer of w nodes, where l paths have room
unfoldable pub slot_start : ℕ → ℕ → ℕ → ℕ
slot_start w l s = w * (l + s)

pub record Placed (w l s r : ℕ) : Type 0 where
  pub is : r ≡ slot_start w l s
  pub small : r ≤ 131072

-- t' is t with F r m at o + step * r + m, for each r below count and m below step
pub record WroteRows (F : ℕ → ℕ → ℕ) (o step count : ℕ) (t t' : List ℕ) : Type 0 where
  pub same : length t' ≡ length t
  pub inside : (r m : ℕ) → r < count → m < step → get_or t' (o + step * r + m) 0 ≡ F r m
  pub below : (j : ℕ) → j < o → get_or t' j 0 ≡ get_or t j 0
  pub above : (j : ℕ) → o + step * count ≤ j → get_or t' j 0 ≡ get_or t j 0

abbrev pub flat16 : (ℕ → ℕ → ℕ) → ℕ → ℕ
flat16 F m = F (m / 16) (m % 16)

pub record FitWindows (w l h : ℕ) (t b : List ℕ) : Type 0 where
  pub wide : w ≤ 1024
  pub long : l ≤ 32
  pub words : 16 * slot_start (2 * w) l l ≤ length t
  pub bytes : 2 * h + slot_start (2 * w) l l ≤ length b

-- the `count` slot numbers at o are there, and name slots
pub record Slots (l count o : ℕ) (slots : List ℕ) : Type 0 where
  pub there : o + count ≤ length slots
  pub named : (r : ℕ) → r < count → get_or slots (o + r) 0 < l

-- what the convolutional operator makes of the children of node i of w: their windows from src on, their odd bits at
-- odds; the node's even bit is at evens
abbrev pub plain_f : Bool → ℕ → ℕ → ℕ → ℕ → List ℕ → List ℕ → ℕ → ℕ → ℕ
plain_f even src w odds evens b t i =
    plain32 (kind_b even) (tab_at t (16 * (src + i)) (get_or b (odds + i) 0 % 2))
    (tab_at t (16 * (src + w + i)) (get_or b (odds + w + i) 0 % 2)) (get_or b (evens + i) 0 % 2)

-- the window of node i that is made of it, with n places left
abbrev pub finish_f : Bool → ℕ → ℕ → List ℕ → ℕ → ℕ → ℕ
finish_f arikan n dst t i x = get_or t (16 * (dst + i) + source arikan n x) 0

-- ---- bytes
-- the n bytes at p are none of the m at `to`
abbrev pub Apart : ℕ → ℕ → ℕ → ℕ → Type 0
Apart p n to m = (p + n ≤ to) ⊎ (to + m ≤ p)

-- the sum of two bits; in Arikan's transform the second adds nothing
abbrev pub mix : Bool → List ℕ → ℕ → ℕ → ℕ → ℕ
mix arikan b p q i = (get_or b (p + i) 0 % 2 + carry arikan (get_or b (q + i) 0 % 2)) % 2

-- the new bits of the children of w nodes: from the sums at p, the odd bits at q, the even bits at e
abbrev pub pair_f : Bool → List ℕ → ℕ → ℕ → ℕ → ℕ → ℕ → ℕ
pair_f arikan b p q e w m = cond (ltb m w) (mix arikan b p e m) (mix arikan b q e (m - w))

-- of path r, whose sums and odd bits are in slot o
abbrev pub push_f : Bool → ℕ → ℕ → ℕ → List ℕ → ℕ → ℕ → ℕ → ℕ
push_f arikan w l h b o r = pair_f arikan b (h + slot_start w l o) (2 * h + slot_start w l o) (slot_start w l r) w

-- the sums of path r, whose even bits are in slot s
abbrev pub sum_f : ℕ → ℕ → ℕ → List ℕ → ℕ → ℕ → ℕ → ℕ
sum_f w l h b s r = mix false b (slot_start w l s) (2 * h + slot_start w l r)

pub record FitBits (w l h : ℕ) (b : List ℕ) : Type 0 where
  pub wide : w ≤ 1024
  pub long : l ≤ 32
  pub low : slot_start w l l ≤ h
  pub bytes : 3 * h ≤ length b

-- ---- the bottom layer: node i's costs are the sixteen words of node src + i, the same for every path
abbrev pub based_f : Bool → ℕ → ℕ → ℕ → ℕ → List ℕ → List ℕ → ℕ → ℕ → ℕ
based_f last src sums odds evens b t i
    = bottom_f last t (16 * (src + i))
    (decided_of last (get_or b (sums + i) 0) (get_or b (odds + i) 0) (get_or b (evens + i) 0))

abbrev pub base_f : Bool → ℕ → ℕ → ℕ → List ℕ → List ℕ → ℕ → ℕ → ℕ → ℕ → ℕ
base_f last w l h b t o r = based_f last h (h + slot_start w l o) (2 * h + slot_start w l o) (slot_start w l r) b t

pub record FitBottom (w l h : ℕ) (t b : List ℕ) : Type 0 where
  pub wide : w ≤ 1024
  pub long : l ≤ 32
  pub low : slot_start w l l ≤ h
  pub words : 16 * (h + w) ≤ length t
  pub bytes : 3 * h ≤ length b

-- ---- what depends on the layer rule
module _ (arikan : Bool) where
  -- the window of node i of w, from the children's at src, their odd bits at odds and its even bit at evens
  abbrev pub lifted : Bool → ℕ → ℕ → ℕ → ℕ → ℕ → List ℕ → List ℕ → ℕ → ℕ → ℕ
  lifted even n src w odds evens b t i =
      lift32 arikan n (kind_b even) (tab_at t (16 * (src + i)) (get_or b (odds + i) 0 % 2))
      (tab_at t (16 * (src + w + i)) (get_or b (odds + w + i) 0 % 2)) (get_or b (evens + i) 0 % 2)

  -- of path r, whose children's windows are in slot s and their odd bits in slot o
  abbrev pub row_f : Bool → ℕ → ℕ → ℕ → ℕ → List ℕ → List ℕ → ℕ → ℕ → ℕ → ℕ → ℕ → ℕ
  row_f even n w l h b t s o r
      = lifted even n (slot_start (2 * w) l s) w (2 * h + slot_start (2 * w) l o) (slot_start w l r) b t
