-- The prefixes of paths, kept as rows of n bytes.
use Rattle.std.specs.Prelude.{◌≡◌, List, [], ◌∷◌, ℕ, zero, suc, ◌+◌, ◌*◌, ◌<◌, ◌≤◌, take, drop, get_or}
use Rattle.std.proofs.Common.{sym, ap, ◌∙◌, arith, take-take}
use Rattle.std.proofs.Math.Seq.{take-nil}
use Rattle.rows.specs.Trace.{Trace, trace_kept}

-- wherever the history g leads back from one of the first k ranks after i positions, the prefix that it leads to is at the front of that
-- rank's row
abbrev pub PrefixRows : (l n i k : ℕ) (g rows : List ℕ) → Type 0
PrefixRows l n i k g rows = (r : ℕ) (w : List ℕ) → r < k → Trace l g i r w → take i (drop (n * r) rows) ≡ w

-- the prefixes of the first `held` ranks after `seen` positions are kept in g behind the history of n positions
abbrev pub RowsKept : (l n seen held : ℕ) (g : List ℕ) → Type 0
RowsKept l n seen held g = PrefixRows l n seen held g (drop (l * n) g)

-- from the prefixes after `seen` positions to those after i; g has so many bytes
pub record RenewFits (l n seen held i past kept bytes : ℕ) : Type 0 where
  pub list : l ≤ 32
  pub size : n ≤ 1024
  pub few : held ≤ l
  pub order : seen ≤ i
  pub stop : i ≤ n
  pub past_is : past ≡ l * i
  pub kept_is : kept ≡ l * n
  pub there : past + 32 ≤ bytes
  pub room : kept + n * l ≤ bytes

abbrev pub RowRenewed : (l n seen held i r : ℕ) (g row : List ℕ) → Type 0
RowRenewed l n seen held i r g row = RowsKept l n seen held g → (w : List ℕ) → Trace l g i r w → take i row ≡ w

abbrev pub RowsRenewed : (l n seen held i count : ℕ) (g rows : List ℕ) → Type 0
RowsRenewed l n seen held i count g rows = RowsKept l n seen held g → PrefixRows l n i count g rows

-- ---- laws
-- a part of a list lies in the front of it
part_of_front : (a i : ℕ) (t : List ℕ) → take i (drop a t) ≡ drop a (take (a + i) t)
part_of_front zero i t = let e : 0 + i ≡ i = omega arith in rw e
part_of_front (suc a) i [] = rw (take-nil {A = ℕ} (suc a + i), take-nil {A = ℕ} i)
part_of_front (suc a) i (x ∷ t) = let e : suc a + i ≡ suc (a + i) = omega arith in rw e (part_of_front a i t)

-- lists with the same front have the same parts in it
pub same_part : (a i m : ℕ) (s t : List ℕ) → a + i ≤ m → take m s ≡ take m t → take i (drop a s) ≡ take i (drop a t)
same_part a i m s t h e = in_front s ∙ ap (λ (u : List ℕ). drop a (take (a + i) u)) e ∙ sym (in_front t)
  where
    in_front : (u : List ℕ) → take i (drop a u) ≡ drop a (take (a + i) (take m u))
    in_front u = part_of_front a i u ∙ ap (drop a) (sym (take-take (a + i) m u h))

-- what rows hold of a history depends on its notes before position i alone
pub rows_on : (l n i k : ℕ) (g g' rows rows' : List ℕ) → ((j : ℕ) → j < l * i → get_or g' j 0 ≡ get_or g j 0)
    → ((r : ℕ) → r < k → take i (drop (n * r) rows') ≡ take i (drop (n * r) rows)) → PrefixRows l n i k g rows → PrefixRows l n i k g' rows'
rows_on l n i k g g' rows rows' below same p r w hr t = same r hr ∙ p r w hr (trace_kept g (λ j h. sym (below j h)) t)
