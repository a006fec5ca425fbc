-- Built records have their kind's size.
-- Assumes nothing.
use Prim.Native.Nat.{ℕ}
use mathlib.Core.List.{List}
use mathlib.Core.Path.{◌≡◌}
use lib.ListN.{length}
use Rattle.kinds.specs.declared.of_files.Kind.{Kind}
use Rattle.kinds.specs.Kinds.{fixed_of}
use Rattle.laws.proofs.Tabs.{tab-length}
use Rattle.builder.specs.Records.{Head, header_byte, header_built, data_byte, data_built, trailer_byte, trailer_built}

pub header-length : (k : Kind) (h : Head) → length (header_built k h) ≡ (fixed_of k).size
unfolding header_built
header-length k h = tab-length (header_byte k h) (fixed_of k).size

pub data-length : (k : Kind) (header bodies : List ℕ) (i : ℕ) → length (data_built k header bodies i) ≡ (fixed_of k).size
unfolding data_built
data-length k header bodies i = tab-length (data_byte k header bodies i) (fixed_of k).size

pub trailer-length : (k : Kind) (header sums : List ℕ) → length (trailer_built k header sums) ≡ (fixed_of k).size
unfolding trailer_built
trailer-length k header sums = tab-length (trailer_byte k header sums) (fixed_of k).size
