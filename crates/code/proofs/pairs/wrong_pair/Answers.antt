-- Past the end, not frozen, or e not below f.
use Rattle.std.proofs.Common.{◌≡◌, refl, sym, ap, ◌∙◌, Bool, true, false, not, List, ℕ, ltb, leb, get_or, lt-ltb, le-ltb, eq-eqb, ne_eqb}
use borrow.Author.Tests.{leb-true, leb-false}
use Rattle.spec.specs.Code.{pair}
use Rattle.spec.specs.Refusals.{wrong_pair}
use Rattle.laws.specs.MapBits.{flags_of, flag_at}
use Rattle.laws.specs.Pairs.{past_flags}
use Rattle.code.proofs.pairs.wrong_pair.Goals as goal

module _ (flags : List ℕ) (f e : ℕ) where
  clear : get_or flags f 0 ≡ 0 → true ≡ wrong_pair flags (pair f e)
  clear z = rw (eq-eqb (get_or flags f 0) 0 z)

  frozen : (get_or flags f 0 ≡ 0 → ⊥) → leb f e ≡ wrong_pair flags (pair f e)
  frozen x = rw (ne_eqb (get_or flags f 0) 0 x) (go (leb f e) refl)
    where
      go : (b : Bool) → leb f e ≡ b → b ≡ not (ltb e f)
      go true p = sym (ap not (le-ltb e f (leb-true f e p)))
      go false p = sym (ap not (lt-ltb e f (leb-false f e p)))

pub returns-then-f-n : goal.returns-then-f-n
returns-then-f-n c = clear (flags_of c.args.n c.args.map.now) c.args.f c.args.e (past_flags c.args.n c.args.map.now c.args.f c.if-f-n.true)

pub returns-then-flag-eq0 : goal.returns-then-flag-eq0
returns-then-flag-eq0 c =
    clear (flags_of c.args.n c.args.map.now) c.args.f c.args.e
    (flag_at c.args.n c.args.map.now c.args.f c.if-f-n.false ∙ sym c.flag.ensures ∙ c.if-flag-eq0.true)

pub returns : goal.returns
returns c =
    frozen (flags_of c.args.n c.args.map.now) c.args.f c.args.e
    (λ z. c.if-flag-eq0.false (c.flag.ensures ∙ sym (flag_at c.args.n c.args.map.now c.args.f c.if-f-n.false) ∙ z))
