use Rattle.std.proofs.Common.{refl, ap, ◌∙◌, false, List, ◌++◌, ℕ, ◌^◌, ◌≤◌, ℤ, rules}
use Rattle.spec.specs.Code.{Code, code}
use Rattle.spec.specs.Faults.{first}
use Rattle.spec.specs.Refusals.{code_faults, run_faults, table_faults}
use Rattle.laws.specs.FirstFault.{First, later, of_first, first_after, inside_of, end, next}
use Rattle.refusals.specs.Places.{places_of}
use Rattle.refusals.specs.Parts.{refused_before}
use Rattle.decode_refusals.proofs.check_decode.Goals as goal

-- where none of a block's conditions applies
small : (c : Code) (l p : ℕ) (soft : List ℤ) → First (code_faults c ++ run_faults (2 ^ c.m) l p soft) 0 → (c.m ≤ 10) × (l ≤ 32)
small c l p soft (later e (later _ (later _ (later _ (later _ (later _ (later f g))))))) = ((inside_of 2 10 c.m e).1, (inside_of 1 32 l f).1)

pub returns-in_err-check_block : goal.returns-in_err-check_block
returns-in_err-check_block c arikan =
    let s = c.args.code in
    refused_before (code_faults (code s.m arikan s.map.now s.pairs.now) ++ run_faults (2 ^ s.m) c.args.l c.args.p c.args.soft.now)
    (table_faults (2 ^ s.m) c.args.l (places_of c.args.room)) c.from_residual.result c.in_err-check_block.field-0.0 (search rules) (c.in_err-check_block.ensures arikan)

pub size-requires : goal.size-requires
size-requires c =
    let s = c.args.code in
    let o : Code = code s.m false s.map.now s.pairs.now in
    (small o c.args.l c.args.p c.args.soft.now (of_first _ 0 (c.in_ok-check_block.ensures false))).0

pub check_tables-requires : goal.check_tables-requires
check_tables-requires c =
    let s = c.args.code in
    let o : Code = code s.m false s.map.now s.pairs.now in
    (c.size.ensures.1, (small o c.args.l c.args.p c.args.soft.now (of_first _ 0 (c.in_ok-check_block.ensures false))).1)

pub returns : goal.returns
returns c arikan =
    let s = c.args.code in
    let o : Code = code s.m arikan s.map.now s.pairs.now in
    first_after (code_faults o ++ run_faults (2 ^ s.m) c.args.l c.args.p c.args.soft.now) (table_faults (2 ^ s.m) c.args.l (places_of c.args.room)) 0
    (c.in_ok-check_block.ensures arikan) (next (next (next (next (next (next (next (next (next (next end)))))))))) refl _
    (c.check_tables.ensures ∙ ap (λ (n : ℕ). first (table_faults n c.args.l (places_of c.args.room))) c.size.ensures.0)
