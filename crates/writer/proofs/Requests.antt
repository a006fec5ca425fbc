-- The kinds that are written, by their number.
-- Assumes nothing.
use Prim.Native.Nat.{ℕ}
use mathlib.Core.Bool.{true}
use mathlib.Core.Path.{◌≡◌}
use Rattle.kinds.specs.declared.of_files.Kind.{Kind}
use Rattle.std.specs.Prelude.{Some}
use Rattle.kinds.specs.Kinds.{fixed_of, kind_of, request_of}
use Rattle.kinds.proofs.Known.{request-known}

-- a kind that is written is the same kind to the reader
pub request-kind : (kind : ℕ) (k : Kind) → request_of kind ≡ Some k → kind_of kind ≡ Some k
request-kind kind k e = (request-known kind k e).0

-- and its form is written
pub request-written : (kind : ℕ) (k : Kind) → request_of kind ≡ Some k → (fixed_of k).written ≡ true
request-written kind k e = (request-known kind k e).1
