-- What the data records of a file add up to.
use Rattle.std.specs.Prelude.{ℕ, ◌+◌, cond, List, eqb}
use Rattle.laws.specs.Sum.{sum}
use Rattle.kinds.specs.declared.of_files.Kind.{Kind}
use Rattle.tables.specs.declared.totals.Quantity.{Quantity}
use Rattle.tables.specs.declared.totals.Quantity.TheVariants.{Records, OfKind, Amounts, Marked, AmountsMarked, MarkedByCentre}
use Rattle.tables.specs.Makers.{maker_of, by_centre}
use Rattle.layout.specs.Items.{application_of, amount_of, mark_of, code_of}
use Rattle.records.specs.Records.{record_of, data_of}

-- what one data record adds to a quantity
unfoldable pub worth : Quantity → List ℕ → ℕ
worth Records rec = 1
worth (OfKind b) rec = cond (eqb (application_of rec) b) 1 0
worth Amounts rec = amount_of rec
worth (Marked b) rec = cond (eqb (mark_of rec) b) 1 0
worth (AmountsMarked b) rec = cond (eqb (mark_of rec) b) (amount_of rec) 0
worth (MarkedByCentre b) rec = cond (eqb (mark_of rec) b) (by_centre (maker_of (code_of rec))) 0

-- what data record i + 1 adds
unfoldable pub worth_at : Kind → List ℕ → Quantity → ℕ → ℕ
worth_at k s q i = worth q (record_of k s (i + 1))

-- what all data records give
unfoldable pub quantity_of : Kind → List ℕ → Quantity → ℕ
quantity_of k s q = sum (worth_at k s q) (data_of k s)
