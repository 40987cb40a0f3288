-- At each return the tests that were passed, and the one that was not.
use Rattle.std.proofs.Common.{◌≡◌, sym, ap, ◌∙◌, Bool, true, false, cond, List, ℕ, ◌^◌, ◌≤◌, length}
use Rattle.spec.specs.Code.{code, map_bytes, frozen}
use Rattle.spec.specs.Faults.{first}
use Rattle.spec.specs.Refusals.{past_end, pair_faults, code_faults}
use Rattle.laws.specs.FirstFault.{here, later, is_first, of_first, below, above, inside, differ, same}
use Rattle.laws.specs.MapBits.{flags_of}
use Rattle.code.proofs.shape.Code.check.Goals as goal

pub returns-then-self-lt2 : goal.returns-then-self-lt2
returns-then-self-lt2 c arikan =
    let s = c.args.self in
    is_first (code_faults (code s.m arikan s.map.now s.pairs.now)) 1 (here (below 2 10 s.m c.if-self-lt2.true))

pub returns-then-self-gt10 : goal.returns-then-self-gt10
returns-then-self-gt10 c arikan =
    let s = c.args.self in
    is_first (code_faults (code s.m arikan s.map.now s.pairs.now)) 1 (here (above 2 10 s.m c.if-self-gt10.true))

pub returns-then-self-n : goal.returns-then-self-n
returns-then-self-n c arikan =
    let s = c.args.self in
    let e = c.size-n.ensures.0 in
    is_first (code_faults (code s.m arikan s.map.now s.pairs.now)) 2
    (later (inside 2 10 _ c.if-self-lt2.false c.if-self-gt10.false)
    (here (differ (length s.map.now) (map_bytes (2 ^ s.m)) (λ q. c.if-self-n.true (q ∙ ap map_bytes (sym e))))))

pub returns-then-past : goal.returns-then-past
returns-then-past c arikan =
    let s = c.args.self in
    is_first (code_faults (code s.m arikan s.map.now s.pairs.now)) 3
    (later (inside 2 10 _ c.if-self-lt2.false c.if-self-gt10.false)
    (later (same _ _ (c.if-self-n.false ∙ ap map_bytes c.size-n.ensures.0)) (here (sym c.past_end-past.ensures ∙ c.if-past.true))))

-- past 3 the pairs decide
decided : (m n : ℕ) (arikan : Bool) (map pairs : List ℕ) (b : Bool) → 2 ≤ m → m ≤ 10 → n ≡ 2 ^ m → length map ≡ map_bytes n → past_end (2 ^ m) map ≡ false
    → first (pair_faults (flags_of n map) pairs) ≡ cond b 15 0 → cond b 15 0 ≡ first (code_faults (code m arikan map pairs))
unfolding frozen
decided m n arikan map pairs b low high e long in_range p =
    let k : cond b 15 0 ≡ first (pair_faults (frozen (code m arikan map pairs)) pairs)
    = sym p ∙ ap (λ (x : ℕ). first (pair_faults (flags_of x map) pairs)) e in
    is_first (code_faults (code m arikan map pairs)) (cond b 15 0)
    (later (inside 2 10 _ low high) (later (same _ _ (long ∙ ap map_bytes e)) (later in_range
    (of_first (pair_faults (frozen (code m arikan map pairs)) pairs) (cond b 15 0) k))))

pub returns-then-wrong : goal.returns-then-wrong
returns-then-wrong c arikan =
    decided c.args.self.m c.size-n.result arikan c.args.self.map.now c.args.self.pairs.now true c.if-self-lt2.false c.if-self-gt10.false
    c.size-n.ensures.0 c.if-self-n.false (sym c.past_end-past.ensures ∙ c.if-past.false)
    (rw c.if-wrong.true at c.pairs_refused-wrong.ensures)

pub returns : goal.returns
returns c arikan =
    decided c.args.self.m c.size-n.result arikan c.args.self.map.now c.args.self.pairs.now false c.if-self-lt2.false c.if-self-gt10.false
    c.size-n.ensures.0 c.if-self-n.false (sym c.past_end-past.ensures ∙ c.if-past.false)
    (rw c.if-wrong.false at c.pairs_refused-wrong.ensures)
