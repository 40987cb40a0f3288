-- What the functions on payloads by number are lent: a payload of k bits, a word and columns for n positions.
use Rattle.std.specs.Prelude.{◌≡◌, ℕ, zero, suc, ◌+◌}
use Rattle.spec.specs.Code.{Code, size, payload_size}
use Rattle.laws.specs.Accepted.{Accepted}

-- working memory for the word of a payload, in places
pub record WordFits (c : Code) (payload word : ℕ) : Type 0 where
  pub accepts : Accepted c
  pub payload_long : payload ≡ payload_size c
  pub word_long : word ≡ size c

-- a column c, with h more where the bit is 1
abbrev pub raised : ℕ → ℕ → ℕ → ℕ
raised h zero c = c
raised h (suc b) c = h + c
