-- The rows in which the paths' prefixes are kept, over one position and from one position to a later one; and what stands beside them.
use mathlib.Core.Path.{◌≡◌, refl, sym, ap, ap₂, subst, ◌∙◌}
use mathlib.Core.List.{List, [], ◌∷◌, ◌++◌}
use Prim.Native.Nat.{ℕ, zero, suc, ◌+◌, ◌-◌, ◌*◌, ◌<◌, ◌≤◌}
use native.Mathlib.Omega.{arith}
use native.Mathlib.Nat.{mul-le-mul_left}
use lib.ListN.{length, take, drop, get_or, length-drop}
use lib.Seq.{take_all, take_at, drop_at, drop-drop, get_or-take, get_or-drop, length-take-le, ext_get_or}
use lib.IntN.{ℤ}
use borrow.Rule.Slice.PartMut.{put_mid, post_of, take_put}
use Rattle.spec.specs.Code.{Code}
use Rattle.windows.specs.Op.{Wrote}
use Rattle.rows.specs.Trace.{trace_kept}
use Rattle.rows.specs.PrefixRows.{PrefixRows, RowsKept, RowsRenewed, same_part, rows_on}
use Rattle.live.specs.declared.Live.{Live}
use Rattle.tables.specs.Right.{AllRight}
use Rattle.tables.specs.Walk.{slot_w, slot_o}
use Rattle.positions.specs.Own.{OwnFits, FrontKept, Renewed}
use Rattle.positions.specs.Running.{prefix_at, Running, Beside}

-- a part to the end
pub part_is : (k : ℕ) (b : List ℕ) → take (length b - k) (drop k b) ≡ drop k b
part_is k b = take_all (length b - k) (drop k b) (omega (arith, length-drop k b))

-- lists that agree at their first k places
pub take_same : (k : ℕ) (b b' : List ℕ) → length b' ≡ length b → ((j : ℕ) → j < k → get_or b' j 0 ≡ get_or b j 0) → take k b' ≡ take k b
take_same zero b b' e h = refl
take_same (suc k) [] [] e h = refl
take_same (suc k) [] (y ∷ b') e h = absurd (omega arith)
take_same (suc k) (x ∷ b) [] e h = absurd (omega arith)
take_same (suc k) (x ∷ b) (y ∷ b') e h =
    ap₂ (λ (z : ℕ) (r : List ℕ). z ∷ r) (h 0 (omega arith)) (take_same k b b' (omega arith) (λ j l. h (suc j) (omega arith)))

-- row r of l rows of n places
row_end : (n r l : ℕ) → r < l → n * r + n ≤ n * l
row_end n r l h = let e : n * suc r ≤ n * l = mul-le-mul_left n h in omega arith

-- the rows of the first count ranks have no more bytes than those of all
pub rows_less : (n l count bytes : ℕ) → count ≤ l → bytes ≡ n * count → bytes ≤ n * l
rows_less n l count bytes few e = let less : n * count ≤ n * l = mul-le-mul_left n few in omega arith

-- ---- a position writes its notes, which lie before the rows
from_place : (k : ℕ) (u v : List ℕ) → drop k u ≡ drop k v → (j : ℕ) → k ≤ j → get_or u j 0 ≡ get_or v j 0
from_place k u v e j h =
    let place : k + (j - k) ≡ j = omega arith in
    ap (λ (x : ℕ). get_or u x 0) (sym place)
    ∙ sym (get_or-drop k u (j - k) 0)
    ∙ ap (λ (w : List ℕ). get_or w (j - k) 0) e
    ∙ get_or-drop k v (j - k) 0
    ∙ ap (λ (x : ℕ). get_or v x 0) place

pub beside : (F : ℕ → ℕ) (k at l count : ℕ) (b b₁ b' : List ℕ) → count ≤ l → k ≤ at → Wrote F at count b b₁ → drop k b' ≡ drop k b₁ → Beside k at l b b'
beside F k at l count b b₁ b' few h wrote e = record {
  below = λ j hk hj. from_place k b' b₁ e j hk ∙ wrote.below j hj;
  above = λ j hj. from_place k b' b₁ e j (omega arith) ∙ wrote.above j (omega arith);
}

pub kept_on : (l h n i seen held at : ℕ) (b b' : List ℕ) → at ≡ 3 * h + l * i → seen ≤ i → i < n → length b' ≡ length b → Beside (3 * h) at l b b'
    → RowsKept l n seen held (drop (3 * h) b) → RowsKept l n seen held (drop (3 * h) b')
kept_on l h n i seen held at b b' place order inside same z =
    rows_on l n seen held (drop (3 * h) b) (drop (3 * h) b') (drop (l * n) (drop (3 * h) b)) (drop (l * n) (drop (3 * h) b')) below
    (λ r hr. ap (λ (s : List ℕ). take seen (drop (n * r) s)) behind)
  where
    old : l * seen ≤ l * i
    old = mul-le-mul_left l order

    next : l * suc i ≤ l * n
    next = mul-le-mul_left l inside

    below : (j : ℕ) → j < l * seen → get_or (drop (3 * h) b') j 0 ≡ get_or (drop (3 * h) b) j 0
    below j hj = get_or-drop (3 * h) b' j 0 ∙ z.below (3 * h + j) (omega arith) (omega (arith, old)) ∙ sym (get_or-drop (3 * h) b j 0)

    behind : drop (l * n) (drop (3 * h) b') ≡ drop (l * n) (drop (3 * h) b)
    behind =
        drop-drop (l * n) (3 * h) b'
        ∙ ext_get_or 0 (drop (3 * h + l * n) b') (drop (3 * h + l * n) b) (length-drop (3 * h + l * n) b' ∙ ap (λ (k : ℕ). k - (3 * h + l * n)) same ∙ sym (length-drop (3 * h + l * n) b))
        (λ j hj. get_or-drop (3 * h + l * n) b' j 0 ∙ z.above (3 * h + l * n + j) (omega (arith, next)) ∙ sym (get_or-drop (3 * h + l * n) b j 0))
        ∙ sym (drop-drop (l * n) (3 * h) b)

-- ---- the rows of position i take the place of earlier ones; the history has l * n notes, and the new rows have n * count bytes
module _ (l h n i seen held count at notes bytes : ℕ) (b rows : List ℕ) (f : OwnFits l h n i seen held at (length b) (length rows)) (few : count ≤ l)
    (en : notes ≡ l * n) (eb : bytes ≡ n * count) where
  past : l * i ≤ l * n
  past = mul-le-mul_left l f.stop

  pub renewed : (k : ℕ) (g new : List ℕ) → g ≡ drop (3 * h) b → k ≡ bytes → new ≡ take bytes rows → RowsRenewed l n seen held i count g rows
      → Renewed l h n i seen held count b (put_mid (3 * h + notes) k b new) rows
  renewed k g new eg lent is brought = record { front = front; kept = back; fresh = fresh }
    where
      fresh : RowsKept l n seen held (drop (3 * h) b) → PrefixRows l n i count (drop (3 * h) b) rows
      fresh s = subst (λ (u : List ℕ). PrefixRows l n i count u rows) eg (brought (subst (RowsKept l n seen held) (sym eg) s))

      front : (j : ℕ) → j < 3 * h + l * n → get_or (put_mid (3 * h + notes) k b new) j 0 ≡ get_or b j 0
      front j hj =
          sym (get_or-take (3 * h + notes) (put_mid (3 * h + notes) k b new) j 0 (omega arith))
          ∙ ap (λ (u : List ℕ). get_or u j 0) (take_put (3 * h + notes) k b new (omega (arith, f.room)))
          ∙ get_or-take (3 * h + notes) b j 0 (omega arith)

      behind : drop (l * n) (drop (3 * h) (put_mid (3 * h + notes) k b new)) ≡ take bytes rows ++ post_of (3 * h + notes) k b
      behind =
          drop-drop (l * n) (3 * h) (put_mid (3 * h + notes) k b new)
          ∙ ap (λ (x : ℕ). drop (3 * h + x) (put_mid (3 * h + notes) k b new)) (sym en)
          ∙ drop_at (take (3 * h + notes) b) (new ++ post_of (3 * h + notes) k b) (3 * h + notes) (length-take-le (3 * h + notes) b (omega (arith, f.room)))
          ∙ ap (λ (u : List ℕ). u ++ post_of (3 * h + notes) k b) is

      back : RowsKept l n seen held (drop (3 * h) b) → RowsKept l n i count (drop (3 * h) (put_mid (3 * h + notes) k b new))
      back s =
          rows_on l n i count (drop (3 * h) b) (drop (3 * h) (put_mid (3 * h + notes) k b new)) rows (drop (l * n) (drop (3 * h) (put_mid (3 * h + notes) k b new)))
          (λ j hj. get_or-drop (3 * h) (put_mid (3 * h + notes) k b new) j 0 ∙ front (3 * h + j) (omega (arith, past)) ∙ sym (get_or-drop (3 * h) b j 0))
          (λ r hr.
          ap (λ (u : List ℕ). take i (drop (n * r) u)) behind
          ∙ same_part (n * r) i bytes (take bytes rows ++ post_of (3 * h + notes) k b) rows (omega (arith, row_end n r count hr, f.stop))
          (take_at (take bytes rows) (post_of (3 * h + notes) k b) bytes (length-take-le bytes rows (omega (arith, rows_less n l count bytes few eb, f.wide)))))
          (fresh s)

-- ---- everything else stands where the bytes up to the end of the history are as before
pub running_front : (c : Code) (y : List ℤ) (deep l h n i : ℕ) (s : Live) (t b b' slots : List ℕ) → i ≤ n → length b' ≡ length b → FrontKept l h n b b'
    → Running c y deep l h i s t b slots → Running c y deep l h i s t b' slots
running_front c y deep l h n i s t b b' slots stop same front run =
    let notes : l * i ≤ l * n = mul-le-mul_left l stop in
    let bits : take (3 * h) b' ≡ take (3 * h) b = take_same (3 * h) b b' same (λ j hj. front j (omega arith)) in
    record {
      call = run.call;
      counted = run.counted;
      rep = run.rep;
      costs = run.costs;
      lost = run.lost;
      ready = λ hi k d e. subst (λ (u : List ℕ). AllRight c.arikan k d l h s.count y (prefix_at c y l i) t u (slot_w slots d) (slot_o slots d)) (sym bits) (run.ready hi k d e);
      base = run.base;
      traced = λ r hr. trace_kept (drop (3 * h) b') (λ j hj. get_or-drop (3 * h) b' j 0 ∙ front (3 * h + j) (omega (arith, notes)) ∙ sym (get_or-drop (3 * h) b j 0)) (run.traced r hr);
    }
