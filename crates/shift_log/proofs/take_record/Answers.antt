-- Each round asks for what the front that is there needs, and what is read leaves that front as it was.
use Rattle.std.proofs.Common.{◌≡◌, ◌∙◌, List, ℕ, ◌+◌, ◌-◌, ◌≤◌, length, take, arith}
use borrow.Rule.Slice.PartMut.{put_mid, same_len_mid, mid_len, take_put}
use Rattle.log_page.specs.Reading.{extent, extent_first}
use Rattle.log_page.specs.Fronts.{extent_more}
use Rattle.shift_log.proofs.take_record.Goals as goal

-- what was needed still is, behind the bytes that were read
still : (records n to got : ℕ) (input buf : List ℕ) → n ≤ to → to ≤ length input → to ≡ extent records (take n input) → n + got ≤ to
    → length (put_mid n (to - n) input buf) ≡ length input → to ≤ extent records (take (n + got) (put_mid n (to - n) input buf))
still records n to got input buf h room is most long =
    let after : List ℕ = put_mid n (to - n) input buf in
    let same = take_put n (to - n) input buf (omega (arith, h, room)) in
    omega (arith, extent_more records n (n + got) input after same (omega arith) (omega (arith, long, most, room)), is)

pub loop-n-init : goal.loop-n-init
loop-n-init c = (c.requires, omega arith, omega arith, extent_first c.args.records (take 0 c.args.input.now) (omega arith))

pub returns-then-n-to : goal.returns-then-n-to
returns-then-n-to c =
    let l = c.loop-n in
    let r = c.read_full-got in
    let inside : l.to ≤ length l.input = omega (arith, l.invariant.0, l.invariant.1) in
    let most : l.n + r.result ≤ l.to = omega (arith, r.ensures.0, r.auto.buf ∙ mid_len l.n l.to l.input inside, l.invariant.2) in
    let long = same_len_mid l.n (l.to - l.n) l.input r.new.buf r.auto.buf in
    let s = still c.args.records l.n l.to r.result l.input r.new.buf l.invariant.2 inside l.invariant.3 most long in
    (omega (arith, most, l.invariant.1), omega (arith, most, s))

pub loop-n-preserved : goal.loop-n-preserved
loop-n-preserved c =
    let l = c.loop-n in
    let r = c.read_full-got in
    let inside : l.to ≤ length l.input = omega (arith, l.invariant.0, l.invariant.1) in
    let most : l.n + r.result ≤ l.to = omega (arith, r.ensures.0, r.auto.buf ∙ mid_len l.n l.to l.input inside, l.invariant.2) in
    let long = same_len_mid l.n (l.to - l.n) l.input r.new.buf r.auto.buf in
    let s = still c.args.records l.n l.to r.result l.input r.new.buf l.invariant.2 inside l.invariant.3 most long in
    (long ∙ l.invariant.0, c.needed-to.ensures.1, omega (arith, most, s, c.needed-to.ensures.0), c.needed-to.ensures.0)
