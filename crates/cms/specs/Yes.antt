-- A yes or a no, as a number.
use Rattle.std.specs.Prelude.{ℕ, Bool, true, false}

abbrev pub yes_of : Bool → ℕ
yes_of true = 1
yes_of false = 0
