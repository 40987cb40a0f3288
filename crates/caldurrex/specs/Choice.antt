-- A yes or no as a host written in C gives it: a byte, 0 for no and any other for yes.
use Rattle.std.specs.Prelude.{Bool, not, ℕ, eqb}

abbrev pub chosen : ℕ → Bool
chosen x = not (eqb x 0)
