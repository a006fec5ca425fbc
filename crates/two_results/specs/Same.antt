-- What it is that two result files hold the same results in some order, with nothing said of requests.
use Rattle.std.specs.Prelude.{ℕ, ◌+◌, ◌≤◌, ◌<◌, List, [], ◌∷◌, ◌⊎◌, ◌≡◌, length, get_or}
use Rattle.kinds.specs.declared.of_files.Kind.{Kind}
use Rattle.kinds.specs.declared.of_files.Role.TheVariants.{Data, Trailer}
use Rattle.tables.specs.declared.copied.Copied.{Copied}
use Rattle.tables.specs.Copied.{no_item}
use Rattle.tables.specs.Tables.{rows_of}
use Rattle.tables.specs.Places.{place, debited_place, place_in}
use Rattle.records.specs.Records.{record_of, data_of, trailer_of}

-- byte x of a record is in none of some items
abbrev pub Outside : List Copied → ℕ → Type 0
Outside items x = (c : ℕ) → c < length items → (x < (get_or items c no_item).1) ⊎ ((get_or items c no_item).1 + (get_or items c no_item).2 ≤ x)

-- two records are as long as each other, and agree in every byte but those of some items
pub record SameBut (items : List Copied) (a b : List ℕ) : Type 0 where
  pub long : length a ≡ length b
  pub bytes : (x : ℕ) → Outside items x → get_or a x 0 ≡ get_or b x 0

-- of a data record: the serial, item 2, and the failure code, which follows the mark in item 8
unfoldable pub serial_and_code : Kind → List Copied
serial_and_code k = place_in (rows_of k Data) 2 ∷ place 8 (debited_place.1 + 1) 4 ∷ []

-- of a trailer: items 10 and 12, and the MAC, item 15
unfoldable pub ten_twelve_and_mac : Kind → List Copied
ten_twelve_and_mac k = place_in (rows_of k Trailer) 10 ∷ place_in (rows_of k Trailer) 12 ∷ place_in (rows_of k Trailer) 15 ∷ []

-- two result files of a kind hold the same results in some order
pub record SameResults (k : Kind) (r s : List ℕ) : Type 0 where
  -- data record j + 1 of the first is to j + 1 of the second, and that is back again
  pub to : ℕ → ℕ
  pub back : ℕ → ℕ
  pub inside : (j : ℕ) → j < data_of k r → to j < data_of k s
  pub outside : (l : ℕ) → l < data_of k s → back l < data_of k r
  pub there : (j : ℕ) → j < data_of k r → back (to j) ≡ j
  pub here : (l : ℕ) → l < data_of k s → to (back l) ≡ l
  -- the two agree in every byte but serial and failure code
  pub records : (j : ℕ) → j < data_of k r → SameBut (serial_and_code k) (record_of k r (j + 1)) (record_of k s (to j + 1))
  -- the headers agree
  pub headers : record_of k r 0 ≡ record_of k s 0
  -- and the trailers, but in items 10 and 12 and the MAC
  pub trailers : SameBut (ten_twelve_and_mac k) (trailer_of k r) (trailer_of k s)
