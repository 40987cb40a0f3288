use Rattle.std.proofs.Common.{ℕ, suc, ◌+◌, ◌*◌, ◌<◌, ◌^◌, ◌≡◌, Bool, List, ◌++◌, sym, subst, ◌∙◌, arith, length, length-take, take, drop, get_or, take_at, drop_at}
use lib.Seq.{length-take-le}
use Rattle.spec.specs.Bits.{unpacked}
use Rattle.tables.specs.Walk.{Advance}
use Rattle.positions.specs.Position.{Chosen}
use Rattle.positions.proofs.Fitting.{top_low, choose_fits, settle_fits, advance_fits}
use Rattle.positions.proofs.Stepping.{chosen_step, chosen_lost}
use Rattle.positions.proofs.Advancing.{running_more}
use Rattle.positions.proofs.Keeping.{beside}
use Rattle.positions.proofs.position.position.Goals as goal

pub choose-next-requires : goal.choose-next-requires
choose-next-requires c =
    let a = c.args in
    choose_fits a.deep a.l a.h a.n a.i (3 * a.h + a.l * a.i) a.t.now a.b.now a.slots.now a.map.now c.requires.0 a.s c.requires.1

pub settle-requires : goal.settle-requires
settle-requires c =
    let a = c.args in
    let r = c.choose-next.result in
    let holds = c.choose-next.ensures.position.holds in (
      settle_fits a.deep a.l a.h a.n a.i (3 * a.h + a.l * a.i) a.t.now a.b.now a.slots.now a.map.now c.requires.0 r.count holds.few,
      omega (arith, length-take r.count r.code, holds.counted),
    )

pub advance-requires : goal.advance-requires
advance-requires c =
    let a = c.args in
    let ch = c.choose-next in
    advance_fits a.deep a.l a.h a.n a.i (3 * a.h + a.l * a.i) a.t.now a.b.now a.slots.now a.map.now c.requires.0 _ a.s ch.result _ a.bits.now c.settle.new.b c.settle.new.slots
    c.requires.1 ch.ensures.position.holds.few ch.ensures c.settle.ensures c.settle.auto.b

pub returns : goal.returns
returns c =
    let a = c.args in
    let ch = c.choose-next in
    let st = c.settle in
    let ad = c.advance in
    let f = c.requires.0 in
    let holds = ch.ensures.position.holds in
    let bb = ad.new.b in
    let rest = drop (3 * a.h) st.new.b in
    let lb : length bb ≡ 3 * a.h = ad.auto.b ∙ length-take-le (3 * a.h) st.new.b (omega (arith, st.auto.b, f.place, f.room)) in (
      record { few = holds.few; long = holds.counted; named = ad.ensures.0 },
      beside _ (3 * a.h) (3 * a.h + a.l * a.i) a.l ch.result.count a.b.now st.ensures.b₁ (bb ++ rest) holds.few (omega (arith, f.place)) st.ensures.noted (drop_at bb rest (3 * a.h) lb ∙ st.ensures.history),
      λ c' y ea em owns run.
          let hi : a.i < 2 ^ suc (suc a.deep) = omega (arith, f.inside, f.sizes.whole) in
          let chosen = subst (λ (m : List ℕ). Chosen (get_or (unpacked m) a.i 0) a.i a.l a.h a.t.now (take (3 * a.h) a.b.now) a.slots.now a.bits.now a.s ch.result) (sym em) ch.ensures in
          let step = chosen_step c' y a.deep a.l a.h a.i a.s ch.result a.t.now a.b.now a.slots.now run hi a.bits.now owns chosen in
          let lost = chosen_lost c' y a.deep a.l a.h a.i a.s ch.result a.t.now a.b.now a.slots.now run hi a.bits.now owns chosen in
          running_more c' y a.deep a.l a.h a.i (3 * a.h + a.l * a.i) a.s ch.result a.t.now a.b.now a.slots.now st.new.b st.new.slots ad.new.t (bb ++ rest) ad.new.slots
          f.sizes.list c.requires.1.few holds.few holds.counted
          (top_low a.deep a.l a.h a.n a.i (3 * a.h + a.l * a.i) a.t.now a.b.now a.slots.now a.map.now f) f.place hi run step lost st.ensures
          (subst (λ (x : Bool). Advance x a.deep a.l a.h ch.result.count a.i a.t.now (take (3 * a.h) st.new.b) st.new.slots ad.new.t (take (3 * a.h) (bb ++ rest)) ad.new.slots) (sym ea)
          (subst (λ (z : List ℕ). Advance a.arikan a.deep a.l a.h ch.result.count a.i a.t.now (take (3 * a.h) st.new.b) st.new.slots ad.new.t z ad.new.slots) (sym (take_at bb rest (3 * a.h) lb)) ad.ensures.2))
          ad.ensures.1 (drop_at bb rest (3 * a.h) lb),
    )
