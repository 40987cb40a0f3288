-- What the parts of a position ask of the lengths, from what the position asks.
use mathlib.Core.Path.{◌≡◌}
use mathlib.Core.List.{List}
use Prim.Native.Nat.{ℕ, suc, ◌*◌, ◌<◌, ◌≤◌}
use native.Mathlib.Omega.{arith}
use lib.ListN.{length, take, get_or}
use lib.Seq.{length-take-le}
use Rattle.tables.specs.Tab.{slot_start}
use Rattle.tables.specs.Walk.{Named, Tables}
use Rattle.tables.proofs.Places.{slot_deep}
use Rattle.tables.proofs.Cutting.{cut_named}
use Rattle.live.specs.declared.Live.{Live}
use Rattle.live.specs.Lists.{entries}
use Rattle.positions.specs.Position.{ChooseFits, SettleFits, Chosen, Settled}
use Rattle.positions.specs.Running.{PositionFits, Standing}
use Rattle.positions.proofs.Parents.{parents_known}

module _ (deep l h n i at : ℕ) (t b slots map : List ℕ) (f : PositionFits deep l h n i at (length t) (length b) (length slots) (length map)) where
  pub top_low : slot_start 1 l l ≤ h
  top_low = omega (arith, slot_deep 0 (suc deep) l 0 (omega arith), f.sizes.half)

  pub bits_long : length (take (3 * h) b) ≡ 3 * h
  bits_long = length-take-le (3 * h) b (omega (arith, f.place, f.room))

  pub choose_fits : (s : Live) → Standing deep l s slots → ChooseFits i l h s.count t (take (3 * h) b) slots map
  choose_fits s st = record {
    top = record {
      long = f.sizes.list;
      few = st.few;
      words = omega (arith, top_low, f.words);
      bytes = omega (arith, top_low, bits_long);
      windows = st.named.windows 0 (omega arith);
      odds = st.named.odds 0 (omega arith);
    };
    some = f.sizes.some;
    inside = omega (arith, f.inside, f.flags);
  }

  pub settle_fits : (count : ℕ) → count ≤ l → SettleFits deep l h at count (length b) (length slots)
  settle_fits count few = record {
    deepest = f.sizes.deepest;
    list = f.sizes.list;
    few = few;
    low = top_low;
    near = f.sizes.near;
    behind = omega (arith, f.place);
    room = f.room;
    long = f.long;
  }

  -- the slot numbers after the cut name slots
  module _ (x : ℕ) (s r : Live) (b₀ own b' slots' : List ℕ) (st : Standing deep l s slots) (few : r.count ≤ l)
      (ch : Chosen x i l h t b₀ slots own s r) (set : Settled deep l h i at r.count r.code b slots b' slots') where
    known : (k : ℕ) → k < r.count → get_or set.parents k 0 < s.count
    known k hk =
        omega (arith, set.lineage.parents_are k hk, parents_known x l s.count (entries s) ch.bs ch.cs ch.ds r (omega (arith, st.few, f.sizes.list)) ch.position.holds k hk)

    settled_named : Named deep l r.count slots'
    settled_named =
        cut_named deep s.count r.count set.parents slots slots' (omega (arith, st.few, f.sizes.list)) known set.cut l f.sizes.deepest
        (omega (arith, f.sizes.list)) f.long st.named

    pub advance_fits : length b' ≡ length b → Tables deep l h r.count i n t (take (3 * h) b') slots'
    advance_fits e = record {
      deepest = f.sizes.deepest;
      long = f.sizes.list;
      few = few;
      room = omega (arith, f.inside, f.sizes.whole);
      whole = f.sizes.whole;
      low = omega (arith, f.sizes.half);
      triple = omega (arith, length-take-le (3 * h) b' (omega (arith, f.place, f.room)));
      costs = f.words;
      near = f.sizes.near;
      names = settled_named;
    }
