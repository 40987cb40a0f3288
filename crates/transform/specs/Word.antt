-- What the calls of this crate take: a word of 2 ^ m bits, m from 2 to 10.
use Rattle.std.specs.Prelude.{◌≡◌, Bool, cond, List, ℕ, ◌+◌, ◌^◌, ◌≤◌, length}
use Rattle.spec.specs.Bits.{Bits}
use Rattle.spec.specs.Transform.{table_entry, transform_by, inverse_by}

pub record Word (m : ℕ) (s : List ℕ) : Type 0 where
  pub least : 2 ≤ m
  pub most : m ≤ 10
  pub long : length s ≡ 2 ^ m
  pub bits : Bits s

-- and a call that works on its halves: half of its length is h
pub record TwoHalves (m h : ℕ) (s : List ℕ) : Type 0 where
  pub word : Word m s
  pub half : h + h ≡ 2 ^ m

-- the transform selected or, where `inv` is true, its inverse
abbrev pub turned_by : Bool → Bool → ℕ → List ℕ → List ℕ
turned_by inv arikan m s = cond inv (inverse_by arikan m s) (transform_by arikan m s)

-- and that of four bits, as a number: the table taken three times is the inverse
abbrev pub turned_entry : Bool → ℕ → ℕ
turned_entry inv x = cond inv (table_entry (table_entry (table_entry x))) (table_entry x)
