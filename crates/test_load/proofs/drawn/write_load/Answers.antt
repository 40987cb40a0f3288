-- What is drawn, with the soft values in a local array, and the record of them.
use Rattle.std.proofs.Common.{◌≡◌, sym, ap, ap₂, subst, ◌∙◌, List, ℕ, ◌≤◌, ℤ, pos, length, arith}
use Rattle.spec.specs.Code.{Code, size}
use Rattle.spec.specs.JobWriter.{Fields, fields_of, written_record}
use Rattle.spec.specs.TestLoad.{drawn_soft, load_fields, load_record}
use Rattle.place.specs.Put.{put_same}
use Rattle.laws.specs.WriteCall.{Writable}
use Rattle.laws.specs.WrittenForm.{written_at_most}
use Rattle.laws.specs.LoadCall.{load_writable}
use Rattle.slices.specs.LocalPart.{lent_long, part_is}
use Rattle.code.specs.Codes.{code_of}
use Rattle.test_load.proofs.drawn.write_load.Goals as goal

-- the fields that are written are those of the load
fields_are : (s : ℕ) (c : Code) (frame : ℕ) {n : ℕ} {soft : List ℤ} → n ≡ size c → soft ≡ drawn_soft s c → fields_of c 4 n frame soft ≡ load_fields s c frame
fields_are s c frame e q = ap₂ (λ (p : ℕ) (y : List ℤ). fields_of c 4 p frame y) e q

pub draw_load-state-requires : goal.draw_load-state-requires
draw_load-state-requires c = (c.requires.0, c.requires.2, lent_long (pos 0) c.size-n.result c.size-n.ensures.1 ∙ c.size-n.ensures.0)

pub write_record-length-requires : goal.write_record-length-requires
unfolding load_record
write_record-length-requires c =
    let x = c.args in
    let d = c.draw_load-state in
    let e = fields_are x.s (code_of x.code) x.frame c.size-n.ensures.0
    (part_is (pos 0) c.size-n.result c.size-n.ensures.1 d.new.soft d.auto.soft ∙ d.ensures.2) in (
      subst Writable (sym e) (load_writable x.s (code_of x.code) x.frame c.requires.0),
      subst (λ (f : Fields). length (written_record f) ≤ length x.out.now) (sym e) c.requires.1,
    )

pub overflow_cast-result : goal.overflow_cast-result
overflow_cast-result c =
    let x = c.args in
    let d = c.draw_load-state in
    let e = fields_are x.s (code_of x.code) x.frame c.size-n.ensures.0
    (part_is (pos 0) c.size-n.result c.size-n.ensures.1 d.new.soft d.auto.soft ∙ d.ensures.2) in
    let p = put_same c.write_record-length.ensures (ap written_record e) in
    omega (arith, p.place, written_at_most (load_fields x.s (code_of x.code) x.frame) (load_writable x.s (code_of x.code) x.frame c.requires.0))

pub returns : goal.returns
unfolding load_record
returns c =
    let x = c.args in
    let d = c.draw_load-state in
    let e = fields_are x.s (code_of x.code) x.frame c.size-n.ensures.0
    (part_is (pos 0) c.size-n.result c.size-n.ensures.1 d.new.soft d.auto.soft ∙ d.ensures.2) in
    (d.ensures.0, put_same c.write_record-length.ensures (ap written_record e), d.ensures.1)
