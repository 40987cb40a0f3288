-- The outputs of a call that is served are the rows of the paper decoder, and its ceiling is that of the paper decoder.
use mathlib.Core.Path.{◌≡◌, refl, sym, ap, ap₂, subst, ◌∙◌}
use mathlib.Core.List.{List, [], ◌∷◌}
use Prim.Native.Nat.{ℕ, ◌-◌, ◌*◌, ◌<◌, min}
use native.Mathlib.Omega.{arith}
use lib.ListN.{length, take, drop, get_or, replicate}
use lib.Pow.{pow_pos}
use lib.IntN.{ℤ}
use Rattle.spec.specs.Code.{Code, frozen, clear, code_transform}
use Rattle.spec.specs.Score.{taken}
use Rattle.spec.specs.Decoder.{head_of, rows, ceiling}
use Rattle.spec.specs.RowCount.{length_live}
use Rattle.spec.specs.Refusals.{Room, room}
use Rattle.spec.specs.Outcome.{decoding, decoded, lent, decoded_rows, decode_served}
use Rattle.laws.specs.Accepted.{flag_count}
use Rattle.laws.specs.Cost.{cost, magnitude}
use Rattle.laws.specs.ScoreCost.{score_from}
use Rattle.laws.specs.CeilingCost.{ceiling_by_cost}
use Rattle.laws.specs.Bounds.{cost_le}
use Rattle.laws.specs.Taken.{length_taken}
use Rattle.live.specs.Entries.{cost_of}
use Rattle.live.specs.declared.Live.{Live}
use Rattle.rows.specs.Trace.{InputsWritten}
use Rattle.rows.specs.Words.{WordsWritten}
use Rattle.rows.specs.DecodedRows.{prefixes, BlockWritten, rows_are}
use Rattle.block_rows.specs.BlockRows.{BitsWritten, CostsWritten, CostsFit, ceiling_from}
use Rattle.positions.specs.Running.{Running, prefix_at}
use Rattle.decoder.specs.Serving.{ServeFits, Stopped}
use Rattle.decoder.proofs.Serving.{small}

first_is : (ws : List (List ℕ)) → get_or ws 0 [] ≡ head_of ws
first_is [] = refl
first_is (w ∷ ws) = refl

module _ (c : Code) (l p n h : ℕ) (soft : List ℤ) (r : Room) (f : ServeFits c l p n h soft r) where
  -- the same call with words and scores that just suffice
  pub enough : ServeFits c l p n h soft (room r.numbers r.bytes r.inputs (n * l) l)
  enough = record {
    accepts = f.accepts;
    some_path = f.some_path;
    list = f.list;
    stop = f.stop;
    long = f.long;
    range = f.range;
    size_is = f.size_is;
    half_is = f.half_is;
    numbers = f.numbers;
    bytes = f.bytes;
    inputs = f.inputs;
    words = omega arith;
    scores = omega arith;
  }

  module _ (s : Live) (t b : List ℕ) (st : Stopped c l p h soft s t b) where
    run : Running c (taken soft) (c.m - 2) l h p s t b st.ran.slots
    run = st.ran.running

    -- there is a live prefix
    some_live : 0 < length (prefixes c (taken soft) l p)
    some_live =
        omega (arith, length_live (code_transform c) c (taken soft) l f.some_path p (omega (arith, f.stop, f.size_is, flag_count f.accepts)), pow_pos (clear (take p (frozen c))), f.some_path)

    -- the ceiling by the list's costs is the paper decoder's
    ceiling_right : ceiling_from (magnitude (taken soft)) s ≡ ceiling (code_transform c) c (taken soft) l p
    unfolding run
    ceiling_right =
        let w : List ℕ = head_of (prefixes c (taken soft) l p) in
        let first : cost_of (get_or s.code 0 0) ≡ cost c.arikan c.m (taken soft) w = run.costs 0 some_live ∙ ap (cost c.arikan c.m (taken soft)) (first_is (prefixes c (taken soft) l p)) in
        ap₂ (λ (a b : ℕ). score_from (magnitude (taken soft)) (min a b)) first run.lost
        ∙ sym (ceiling_by_cost c (taken soft) l (length_taken soft ∙ f.long ∙ f.size_is) p (omega (arith, f.stop, f.size_is)) some_live
        (omega (arith, cost_le c.arikan c.m (taken soft) w, run.call.small)))

    pub costs_fit : CostsFit r.scores soft s
    unfolding run
    costs_fit = record {
      short = omega (arith, f.long, small c l p n h soft r f);
      range = f.range;
      one = omega (arith, run.counted, some_live);
      few = omega (arith, st.few, f.list);
      places = omega (arith, st.few, f.scores);
      below = λ k hk. omega (arith, run.costs k (omega (arith, run.counted)), cost_le c.arikan c.m (taken soft) (prefix_at c (taken soft) l p k));
    }

    module _ (inputs words : List ℕ) (top : ℤ) (scores : List ℤ) (bw : BitsWritten c.m c.arikan l p n h s.count r.inputs r.words b inputs words) (cw : CostsWritten r.scores soft s top scores) where
      written : BlockWritten c (taken soft) l p s.count (magnitude (taken soft)) (drop (3 * h) b) cw.costs inputs words scores r
      unfolding run
      written = record {
        list = f.list;
        stop = omega (arith, f.stop, f.size_is);
        soft = length_taken soft ∙ f.long ∙ f.size_is;
        few = sym run.counted;
        traced = run.traced;
        there = omega (arith, cw.read.long, st.few, f.list);
        costs_are = λ k hk. cw.read.are k (omega (arith, run.counted)) ∙ run.costs k hk;
        total_is = refl;
        inputs_left = subst (λ (z : ℕ). InputsWritten l p z s.count r.inputs (drop (3 * h) b) inputs) f.size_is bw.inputs_left;
        words_left = subst (λ (z : ℕ). WordsWritten c.m c.arikan z s.count r.words inputs words) f.size_is bw.words_left;
        scores_left = cw.scores_left;
      }

      pub served : (t' b' : List ℕ) → t' ≡ replicate r.numbers 0 → b' ≡ replicate r.bytes 0
          → decoding (decoded s.count top) (lent t' b' inputs words scores) ≡ decode_served c l p soft r
      unfolding decode_served
      served t' b' et eb =
          ap₂ (λ (x y : List ℕ). decoding (decoded s.count top) (lent x y inputs words scores)) et eb
          ∙ rows_are written top
          ∙ ap (decoded_rows r (rows (code_transform c) c (taken soft) l p)) (cw.top_is ∙ ceiling_right)
