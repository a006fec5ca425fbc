-- The records of a file to be written.
use Rattle.std.specs.Prelude.{ℕ, ◌+◌, ◌-◌, ◌*◌, ◌/◌, Bool, cond, List, ltb, eqb, length, get_or, drop}
use Rattle.laws.specs.Least.{least}
use Rattle.laws.specs.Sum.{sum}
use Rattle.numbers.specs.Numbers.{digits_of, letter_of}
use Rattle.kinds.specs.declared.of_files.Kind.{Kind}
use Rattle.kinds.specs.declared.of_files.Role.TheVariants.{Header, Data, Trailer}
use Rattle.tables.specs.declared.row.Row.{Row}
use Rattle.builder.specs.declared.heads.Head as heads
use Rattle.tables.specs.declared.totals.Quantity.{Quantity}
use Rattle.kinds.specs.Kinds.{front, fixed_of}
use Rattle.tables.specs.Tables.{rows_of}
use Rattle.tables.specs.Totals.{no_total, totals_of, most_totals}
use Rattle.records.specs.Quantities.{worth, quantity_of}
use Rattle.builder.specs.Bytes.{row_over, fill_by}
use Rattle.laws.specs.Tabulate.{tabulate}

-- what a header is written from
pub record Head : Type 0 where
  pub date : List ℕ
  pub code : List ℕ
  pub item6 : List ℕ
  pub item7 : List ℕ

abbrev pub head_of : List ℕ → List ℕ → List ℕ → List ℕ → Head
head_of date code item6 item7 = record { date = date; code = code; item6 = item6; item7 = item7 }

-- of what it is given in
abbrev pub given : heads.Head → Head
given h = head_of h.date.now h.code.now h.item6.now h.item7.now

-- what is given for an item of the header: the code, the MMDD of the name, the date, items 6 and 7
unfoldable pub given_item : Head → ℕ → List ℕ
given_item h item =
    cond (eqb item 3) h.code (cond (eqb item 4) (drop 2 h.date) (cond (eqb item 5) h.date (cond (eqb item 6) h.item6 h.item7)))

-- what a row of the header writes at place j, and byte j of the header
unfoldable pub header_fill : Kind → Head → Row → ℕ → ℕ
header_fill k h r j = fill_by r.3 (get_or (given_item h r.0) (j - r.1) 0) (letter_of k.own.name (j - r.1)) 0 0

unfoldable pub header_byte : Kind → Head → ℕ → ℕ
header_byte k h j = header_fill k h (row_over (rows_of k Header) j) j

unfoldable pub header_built : Kind → Head → List ℕ
header_built k h = tabulate (header_byte k h) (fixed_of k).size

-- how many bodies there are
unfoldable pub body_count : Kind → List ℕ → ℕ
body_count k bodies = length bodies / (fixed_of k).body

-- byte j of data record i + 1: items 1 to 3 by their rows, then the body
unfoldable pub front_fill : Row → List ℕ → ℕ → ℕ → ℕ
front_fill r header n j = fill_by r.3 0 0 (get_or (digits_of r.2 n) (j - r.1) 0) (get_or header j 0)

unfoldable pub data_byte : Kind → List ℕ → List ℕ → ℕ → ℕ → ℕ
data_byte k header bodies i j =
    cond (ltb j front) (front_fill (row_over (rows_of k Data) j) header (i + 1) j) (get_or bodies (i * (fixed_of k).body + (j - front)) 0)

unfoldable pub data_built : Kind → List ℕ → List ℕ → ℕ → List ℕ
data_built k header bodies i = tabulate (data_byte k header bodies i) (fixed_of k).size

-- what the records give for a quantity
unfoldable pub built_worth : Kind → List ℕ → List ℕ → Quantity → ℕ → ℕ
built_worth k header bodies q i = worth q (data_built k header bodies i)

unfoldable pub built_quantity : Kind → List ℕ → List ℕ → Quantity → ℕ
built_quantity k header bodies q = sum (built_worth k header bodies q) (body_count k bodies)

-- what each total of the trailer is
unfoldable pub built_total : Kind → List ℕ → List ℕ → ℕ → ℕ
built_total k header bodies t = cond (ltb t (length (totals_of k))) (built_quantity k header bodies (get_or (totals_of k) t no_total).3) 0

unfoldable pub built_totals : Kind → List ℕ → List ℕ → List ℕ
built_totals k header bodies = tabulate (built_total k header bodies) most_totals

-- the same of a file that holds the records
unfoldable pub file_total : Kind → List ℕ → ℕ → ℕ
file_total k s t = cond (ltb t (length (totals_of k))) (quantity_of k s (get_or (totals_of k) t no_total).3) 0

-- the total that an item of the trailer says
unfoldable pub total_is : Kind → ℕ → ℕ → Bool
total_is k item t = eqb (get_or (totals_of k) t no_total).0 item

unfoldable pub total_for : Kind → List ℕ → ℕ → ℕ
total_for k totals item = get_or totals (least (total_is k item) (length (totals_of k))) 0

-- what a row of the trailer writes at place j, where its item's total is n
unfoldable pub trailer_fill : Row → List ℕ → ℕ → ℕ → ℕ
trailer_fill r header n j = fill_by r.3 (get_or (digits_of r.2 n) (j - r.1) 0) 0 0 (get_or header j 0)

-- by the totals, and byte j of the trailer
unfoldable pub trailer_by : Kind → List ℕ → List ℕ → Row → ℕ → ℕ
trailer_by k header totals r j = trailer_fill r header (total_for k totals r.0) j

unfoldable pub trailer_byte : Kind → List ℕ → List ℕ → ℕ → ℕ
trailer_byte k header totals j =
    trailer_fill (row_over (rows_of k Trailer) j) header (total_for k totals (row_over (rows_of k Trailer) j).0) j

unfoldable pub trailer_built : Kind → List ℕ → List ℕ → List ℕ
trailer_built k header totals = tabulate (trailer_byte k header totals) (fixed_of k).size
