-- Refused, or the record and the payload that are drawn, and 0 behind both.
use Rattle.std.proofs.Common.{◌≡◌, sym, ap, ◌∙◌, rules, List, ℕ, ◌≤◌, length, arith, length-take-le}
use Rattle.spec.specs.Outcome.{padded}
use Rattle.spec.specs.TestLoad.{Load, load_record, loading, loaded, refused_load, load_served}
use Rattle.refusals.specs.Number.{number_of, not_zero}
use Rattle.slices.specs.Fill.{filled_behind, filled_front}
use Rattle.place.specs.Put.{whole}
use Rattle.laws.specs.LoadCall.{loads, load_refused, load_served_lem}
use Rattle.code.specs.Codes.{code_of}
use Rattle.test_load.specs.Answer.{load_of}
use Rattle.test_load.proofs.test_load.Goals as goal

-- an answer and outputs that are equal, part by part
equal : {k k' t t' : ℕ} {o o' p p' : List ℕ} → k ≡ k' → t ≡ t' → o ≡ o' → p ≡ p' → loading (loaded k t) o p ≡ loading (loaded k' t') o' p'
equal a b d e = cc

pub returns-in_err-check_load : goal.returns-in_err-check_load
returns-in_err-check_load c =
    let x = c.args in
    let e = c.in_err-check_load.field-0.0 in
    let h : load_of c.from_residual.result ≡ refused_load (number_of e) = search rules in
    ap (λ (a : Load). loading a x.out.now x.payload.now) h
    ∙ load_refused x.s (code_of x.code) x.frame x.out.now x.payload.now (number_of e) c.in_err-check_load.ensures (not_zero e)

pub payload_size-k-requires : goal.payload_size-k-requires
payload_size-k-requires c =
    let x = c.args in
    let a = (loads x.s (code_of x.code) x.frame (length x.out.now) (length x.payload.now) c.in_ok-check_load.ensures).accepts in
    (a.high, a.bytes, a.ends)

pub slice_bounds-write_load-end : goal.slice_bounds-write_load-end
slice_bounds-write_load-end c =
    let x = c.args in
    let l = loads x.s (code_of x.code) x.frame (length x.out.now) (length x.payload.now) c.in_ok-check_load.ensures in
    omega (arith, (c.payload_size-k.ensures x.code.arikan x.code.pairs.now), l.payload_fits)

pub slice_bounds-write_load-end-2 : goal.slice_bounds-write_load-end-2
slice_bounds-write_load-end-2 c =
    let x = c.args in
    let l = loads x.s (code_of x.code) x.frame (length x.out.now) (length x.payload.now) c.in_ok-check_load.ensures in
    sym (length-take-le c.payload_size-k.result x.payload.now (omega (arith, (c.payload_size-k.ensures x.code.arikan x.code.pairs.now), l.payload_fits)))

pub write_load-load-requires : goal.write_load-load-requires
write_load-load-requires c =
    let x = c.args in
    let l = loads x.s (code_of x.code) x.frame (length x.out.now) (length x.payload.now) c.in_ok-check_load.ensures in (
      l.accepts,
      l.record_fits,
      length-take-le c.payload_size-k.result x.payload.now (omega (arith, (c.payload_size-k.ensures x.code.arikan x.code.pairs.now), l.payload_fits)) ∙ (c.payload_size-k.ensures x.code.arikan x.code.pairs.now),
    )

pub returns : goal.returns
unfolding load_served
returns c =
    let x = c.args in
    let s = code_of x.code in
    let l = loads x.s s x.frame (length x.out.now) (length x.payload.now) c.in_ok-check_load.ensures in
    let w = c.write_load-load in
    let job = load_record x.s s x.frame in
    let e : w.result.length ≡ length job = omega (arith, w.ensures.1.place) in
    let fits : c.payload_size-k.result ≤ length x.payload.now = omega (arith, (c.payload_size-k.ensures x.code.arikan x.code.pairs.now), l.payload_fits) in
    let begun = whole w.ensures.1 (omega (arith, e, l.record_fits)) in
    equal e w.ensures.0
    (c.fill_from.ensures ∙ filled_front 0 job x.out.now _ w.result.length begun.bytes e (omega (arith, e, l.record_fits)))
    (c.fill_from-2.ensures
    ∙ filled_behind 0 w.new.payload x.payload.now c.payload_size-k.result (w.auto.payload ∙ length-take-le c.payload_size-k.result x.payload.now fits) fits
    ∙ ap (padded 0 (length x.payload.now)) w.ensures.2)
    ∙ load_served_lem x.s s x.frame x.out.now x.payload.now c.in_ok-check_load.ensures
