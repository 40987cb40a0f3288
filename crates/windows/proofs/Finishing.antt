-- A node's window is made of the convolutional operator's costs: in the order of its transform, and with the bits past
-- the end of the word as 0.
use Rattle.std.proofs.Common.{◌≡◌, ℕ, zero, suc, ◌+◌, ◌*◌, ◌/◌, ◌%◌, ◌<◌, Bool, true, false, List, get_or, sym, refl, ap, ◌∙◌, arith}
use Rattle.laws.specs.BitLaws.{⊕-lt}
use Rattle.laws.specs.Windows.{mask4, at4}
use Rattle.laws.specs.Nodes.{Kind}
use Rattle.laws.specs.Cells.{Cell, read3}
use Rattle.windows.specs.declared.window.Sixteen.{Sixteen}
use Rattle.windows.specs.Op.{op4w, sixteen, listed, rearranged, order_at, inside, masked, lift32, plain32, source, Wrote}
use Rattle.windows.proofs.Records.{listed_at}
use Rattle.windows.proofs.Runs.{wrote_by}

-- ---- the end of the word
eighth_2 : (x : ℕ) → x < 16 → x % 8 / 2 % 2 ≡ x / 2 % 2
eighth_2 x l =
    let q : x ≡ x % 8 + 8 * (x / 8) = omega arith in
    let r : x / 2 ≡ x % 8 / 2 + 2 * (2 * (x / 8)) = omega arith in
    rw r (omega arith)

eighth_4 : (x : ℕ) → x < 16 → x % 8 / 4 % 2 ≡ x / 4 % 2
eighth_4 x l =
    let r : x / 4 ≡ x % 8 / 4 + 2 * (x / 8) = omega arith in
    rw r (omega arith)

mask_is : (n : ℕ) (f : ℕ → ℕ → ℕ → ℕ → ℕ) → n % 2 ≡ 1 → (x : ℕ) → x < 16 → at4 f (inside n x) ≡ at4 (mask4 n f) x
mask_is zero f h x l = absurd (omega arith)
mask_is (suc zero) f h x l =
    let e₁ : x % 2 % 2 ≡ x % 2 = omega arith in
    let e₂ : x % 2 / 2 ≡ 0 = omega arith in
    let e₄ : x % 2 / 4 ≡ 0 = omega arith in
    let e₈ : x % 2 / 8 ≡ 0 = omega arith in
    rw (e₁, e₂, e₄, e₈)
mask_is (suc (suc zero)) f h x l = absurd (omega arith)
mask_is (suc (suc (suc zero))) f h x l =
    let e₁ : x % 8 % 2 ≡ x % 2 = omega arith in
    let e₂ : x % 8 / 2 % 2 ≡ x / 2 % 2 = eighth_2 x l in
    let e₄ : x % 8 / 4 % 2 ≡ x / 4 % 2 = eighth_4 x l in
    let e₈ : x % 8 / 8 ≡ 0 = omega arith in
    rw (e₁, e₂, e₄, e₈)
mask_is (suc (suc (suc (suc n)))) f h x l = refl

inside_lt : (n x : ℕ) → x < 16 → inside n x < 16
inside_lt zero x l = l
inside_lt (suc zero) x l = omega arith
inside_lt (suc (suc zero)) x l = l
inside_lt (suc (suc (suc zero))) x l = omega arith
inside_lt (suc (suc (suc (suc n)))) x l = l

pub inside_room : (n x : ℕ) → 3 < n → inside n x ≡ x
inside_room zero x h = refl
inside_room (suc zero) x h = absurd (omega arith)
inside_room (suc (suc zero)) x h = refl
inside_room (suc (suc (suc zero))) x h = absurd (omega arith)
inside_room (suc (suc (suc (suc n)))) x h = refl

-- ---- the order of the transform
order_of : (arikan : Bool) (f : ℕ → ℕ) → rearranged (order_at arikan) (sixteen f) ≡ sixteen (λ x. f (order_at arikan x))
order_of true f = refl
order_of false f = refl

pub finish_wrote : (arikan : Bool) (left to : ℕ) (t t' : List ℕ) (s : Sixteen)
    → s ≡ masked left (rearranged (order_at arikan) (sixteen (λ x. get_or t (to + x) 0))) → Wrote (λ x. get_or (listed s) x 0) to 16 t t'
    → Wrote (λ x. get_or t (to + source arikan left x) 0) to 16 t t'
finish_wrote arikan left to t t' s e =
    let f : ℕ → ℕ = λ x. get_or t (to + x) 0 in
    let g : ℕ → ℕ = λ x. f (order_at arikan x) in
    wrote_by (λ x. get_or (listed s) x 0) (λ x. f (source arikan left x)) to 16 t t'
    (λ x l. ap (λ (s : Sixteen). get_or (listed s) x 0) (e ∙ ap (masked left) (order_of arikan f))
    ∙ listed_at (λ (z : ℕ). get_or (listed (sixteen g)) (inside left z) 0) x l
    ∙ listed_at g (inside left x) (inside_lt left x l))

order_at_lem : (arikan : Bool) (f g : ℕ → ℕ → ℕ → ℕ) (e : ℕ)
    → sixteen (λ x. at4 (op4w false f g e) (order_at arikan x)) ≡ sixteen (at4 (op4w arikan f g e))
order_at_lem true f g e = refl
order_at_lem false f g e = refl

pub source_lt : (arikan : Bool) (left x : ℕ) → x < 16 → source arikan left x < 16
source_lt false left x l = inside_lt left x l
source_lt true left x l =
    let y : ℕ = inside left x in
    omega (arith, ⊕-lt (y % 2) (y / 2 % 2) (omega arith), ⊕-lt (y / 4 % 2) (y / 8 % 2) (omega arith))

pub lift_source : (arikan : Bool) (left : ℕ) (k : Kind) (ca cb : Cell) (e x : ℕ) → left % 2 ≡ 1 → x < 16
    → plain32 k ca cb e (source arikan left x) ≡ lift32 arikan left k ca cb e x
lift_source arikan left k ca cb e x hn l =
    let f : ℕ → ℕ = λ y. at4 (op4w false (read3 k ca) (read3 k cb) e) (order_at arikan y) in
    let o : ℕ → ℕ → ℕ → ℕ → ℕ = op4w arikan (read3 k ca) (read3 k cb) e in
    let h : inside left x < 16 = inside_lt left x l in
    sym (listed_at f (inside left x) h)
    ∙ ap (λ (s : Sixteen). get_or (listed s) (inside left x) 0) (order_at_lem arikan (read3 k ca) (read3 k cb) e)
    ∙ listed_at (at4 o) (inside left x) h
    ∙ mask_is left o hn x l
