-- What is known of an accepted file, for the crates above: nobody unfolds reading again.
-- Assumes nothing.
use Prim.Native.Nat.{ℕ, ◌+◌, ◌-◌, ◌<◌}
use mathlib.Core.Bool.{true, ◌&&◌}
use mathlib.Core.List.{List}
use mathlib.Core.Path.{◌≡◌, refl}
use native.Mathlib.Omega.{arith}
use borrow.Author.Tests.{eqb-true}
use lib.Dec.{leb, eqb}
use lib.ListN.{length, get_or}
use Rattle.laws.specs.Part.{part}
use Rattle.laws.proofs.Bools.{and_right}
use Rattle.text.specs.Characters.{digits}
use Rattle.numbers.specs.Numbers.{value_of, says}
use Rattle.kinds.specs.declared.of_files.Kind.{Kind}
use Rattle.kinds.specs.declared.of_files.Role.TheVariants.{Header, Data, Trailer}
use Rattle.std.specs.Prelude.{Option, Some, None}
use Rattle.kinds.specs.Kinds.{kind_of}
use Rattle.tables.specs.Rows.{blank}
use Rattle.tables.specs.Tables.{rows_of}
use Rattle.tables.specs.Totals.{no_total, totals_of}
use Rattle.answers.specs.Answers.{accepted}
use Rattle.answers.proofs.Refusals.{number_of}
use Rattle.layout.specs.Rules.{holds}
use Rattle.records.specs.Records.{record_of, count_of, data_of, trailer_of}
use Rattle.records.specs.Quantities.{quantity_of}
use Rattle.reader.specs.Totals.{total_holds}
use Rattle.reader.specs.Reading.{read_as, read_named, read_of}
use Rattle.reader.proofs.Roles.{role-header, role-data, role-trailer}
use Rattle.reader.specs.Meets.{Meets}
use Rattle.reader.proofs.Exact.{read-exact, accepted-meets}

-- digits that say a number have it as their value
pub says-value : (s : List ℕ) (n : ℕ) → says s n ≡ true → value_of s ≡ n
unfolding says
says-value s n t =
    eqb-true (value_of s) n (and_right (digits s) (eqb (value_of s) n) (and_right (leb (length s) 19) (digits s && eqb (value_of s) n) t))

-- a file whose answer has the number 0 is accepted, and one that meets every rule has it
pub read-zero : (k : Kind) (s : List ℕ) → (read_as k s).number ≡ 0 → read_as k s ≡ accepted
read-zero k s z = (read-exact k s).1 (accepted-meets k s z)

pub meets-zero : (k : Kind) (s : List ℕ) → Meets k s → (read_as k s).number ≡ 0
meets-zero k s m = number_of ((read-exact k s).1 m)

-- the value of a total of an accepted file is what its records give
pub total-value :
    (k : Kind) (s : List ℕ) → Meets k s → (j : ℕ) → j < length (totals_of k) →
    value_of (part (get_or (totals_of k) j no_total).1 (get_or (totals_of k) j no_total).2 (trailer_of k s)) ≡ quantity_of k s (get_or (totals_of k) j no_total).3
unfolding total_holds
total-value k s m j h = says-value _ (quantity_of k s (get_or (totals_of k) j no_total).3) (m.totals j h)

-- a file that is accepted under a number is one of the kind that the number names
pub record Known (kind : ℕ) (s : List ℕ) : Type 0 where
  pub k : Kind
  pub named : kind_of kind ≡ Some k
  pub meets : Meets k s

named-known : (kind : ℕ) (s : List ℕ) (n : Option Kind) → kind_of kind ≡ n → (read_named n s).number ≡ 0 → Known kind s
named-known kind s (Some k) e z = record { k = k; named = e; meets = accepted-meets k s z }
named-known kind s None e z = absurd (omega arith)

pub read_known : (kind : ℕ) (s : List ℕ) → (read_of kind s).number ≡ 0 → Known kind s
unfolding read_of
read_known kind s z = named-known kind s (kind_of kind) refl z

-- a known kind is read as it is
pub read_named_lem : (kind : ℕ) (s : List ℕ) (k : Kind) → kind_of kind ≡ Some k → read_of kind s ≡ read_as k s
unfolding read_of
read_named_lem kind s k e = rw e

-- row j of a data record of an accepted file holds
pub data-row :
    (k : Kind) (s : List ℕ) → Meets k s → (i : ℕ) → i < data_of k s → (j : ℕ) → j < length (rows_of k Data) →
    holds k.own (record_of k s (i + 1)) (record_of k s 0) (i + 1) (get_or (rows_of k Data) j blank) ≡ true
data-row k s m i h j l =
    let role = role-data (count_of k s) (i + 1) (omega arith) (omega (arith, m.lengths.fewest)) in
    rw role at (m.rows (i + 1) (omega (arith, m.lengths.fewest)) j (rw role l))

-- and so does row j of its header and of its trailer
pub header_row :
    (k : Kind) (s : List ℕ) → Meets k s → (j : ℕ) → j < length (rows_of k Header) →
    holds k.own (record_of k s 0) (record_of k s 0) 0 (get_or (rows_of k Header) j blank) ≡ true
header_row k s m j l =
    let role = role-header (count_of k s) 0 refl in
    rw role at (m.rows 0 (omega (arith, m.lengths.fewest)) j (rw role l))

pub trailer-row :
    (k : Kind) (s : List ℕ) → Meets k s → (j : ℕ) → j < length (rows_of k Trailer) →
    holds k.own (trailer_of k s) (record_of k s 0) (count_of k s - 1) (get_or (rows_of k Trailer) j blank) ≡ true
trailer-row k s m j l =
    let role = role-trailer (count_of k s) (count_of k s - 1) (omega (arith, m.lengths.fewest)) (omega (arith, m.lengths.fewest)) in
    rw role at (m.rows (count_of k s - 1) (omega (arith, m.lengths.fewest)) j (rw role l))
