-- The layout of an EB12, and what a file of it is, with nothing said of the EB11 that it answers. No function reads one.
use Rattle.std.specs.Prelude.{ℕ, ◌+◌, ◌*◌, ◌≤◌, ◌<◌, Bool, true, cond, ◌&&◌, List, [], ◌∷◌, ◌≡◌, eqb, length, get_or, drop}
use Rattle.numbers.specs.Numbers.{word_of}
use Rattle.kinds.specs.declared.of_files.Kind.{Kind}
use Rattle.kinds.specs.declared.of_files.Form.TheVariants.{BankEnrolment}
use Rattle.kinds.specs.declared.of_files.Own.{Own}
use Rattle.kinds.specs.Kinds.{own, kind, limit}
use Rattle.tables.specs.declared.row.Row.{Row}
use Rattle.tables.specs.Among.{is_among}
use Rattle.tables.specs.Places.{enrolled_place}
use Rattle.tables.specs.Tables.{enrolment_header, bank_enrolment_data, enrolment_request_trailer}
use Rattle.tables.specs.Totals.{no_total, totals_of}
use Rattle.layout.specs.Items.{bytes_at}
use Rattle.layout.specs.Rules.{holds}
use Rattle.records.specs.Records.{record_of}
use Rattle.reader.specs.Meets.{Distinct}
use Rattle.reader.specs.Totals.{total_holds}
use Rattle.changes.specs.Answers.{our_codes}

-- the form of an EB11 under its own name; it is not in the list of kinds
abbrev pub EB12 : Kind
EB12 = kind BankEnrolment (own 0x45423132 0)

-- rows but those of an item
unfoldable pub but : ℕ → List Row → List Row
but item [] = []
but item (r ∷ rows) = cond (eqb r.0 item) (but item rows) (r ∷ but item rows)

-- every row holds in a record
unfoldable pub all_hold : Own → List ℕ → List ℕ → ℕ → List Row → Bool
all_hold o rec header n [] = true
all_hold o rec header n (r ∷ rows) = holds o rec header n r && all_hold o rec header n rows

-- item 12: "N" and one of our codes
unfoldable pub refused_by : List ℕ → Bool
refused_by item = eqb (get_or item 0 0) 0x4E && is_among our_codes (word_of (drop 1 item))

-- a file of m records: the header's rows; a data record's, which are an EB11's but for item 12; a trailer's, which are an EB13's,
-- with spaces for the MAC; the totals are what the records give, and no two records share a key
pub record Meets (file : List ℕ) (m : ℕ) : Type 0 where
  pub long : length file ≡ (m + 2) * 120
  pub few : m ≤ limit
  pub header : all_hold EB12.own (record_of EB12 file 0) (record_of EB12 file 0) 0 enrolment_header ≡ true
  pub items : (k : ℕ) → k < m → all_hold EB12.own (record_of EB12 file (k + 1)) (record_of EB12 file 0) (k + 1) (but 12 bank_enrolment_data) ≡ true
  pub results : (k : ℕ) → k < m → refused_by (bytes_at enrolled_place (record_of EB12 file (k + 1))) ≡ true
  pub trailer : all_hold EB12.own (record_of EB12 file (m + 1)) (record_of EB12 file 0) (m + 1) enrolment_request_trailer ≡ true
  pub totals : (t : ℕ) → t < length (totals_of EB12) → total_holds EB12 file (get_or (totals_of EB12) t no_total) ≡ true
  pub keys : Distinct EB12 file
