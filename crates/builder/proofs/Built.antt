-- A file that is put record by record, over any width: what stands after the header, after the data, and after the trailer.
-- Assumes nothing.
use Prim.Native.Nat.{ℕ, suc, ◌+◌, ◌*◌, ◌≤◌, ◌<◌}
use mathlib.Core.List.{List, ◌++◌, append_assoc}
use mathlib.Core.Path.{◌≡◌, refl, ◌∙◌, ap}
use native.Mathlib.Nat.{suc-mul, add_comm, zero-add, mul-div_cancel, add_assoc}
use native.Mathlib.Numerals.{add-one, add-two}
use native.Mathlib.Omega.{arith}
use lib.ListN.{length, take, drop, length-append, length-drop}
use lib.Seq.{take_at, drop-append-add, drop-drop, length-take-le}
use Rattle.laws.specs.Joined.{joined}
use Rattle.laws.proofs.Pieces.{part-within, part-behind}
use Rattle.laws.proofs.Joins.{joined_length, joined-part, size_below}
use Rattle.laws.proofs.Parts.{part-take}
use Rattle.laws.specs.Sum.{sum}
use Rattle.laws.proofs.Sums.{sum_same}
use Rattle.kinds.specs.declared.of_files.Kind.{Kind}
use Rattle.tables.specs.declared.totals.Quantity.{Quantity}
use Rattle.kinds.specs.Kinds.{fixed_of}
use Rattle.tables.specs.Totals.{most_totals}
use Rattle.records.specs.Records.{record_at, record_of, count_of}
use Rattle.records.specs.Quantities.{worth, worth_at, quantity_of}
use Rattle.records.proofs.Places.{size-pos}
use Rattle.laws.specs.Tabulate.{tabulate}
use Rattle.builder.specs.Records.{Head, header_built, data_built, body_count, built_worth, built_quantity, built_total, built_totals, file_total, trailer_built}
use Rattle.laws.specs.Stored.{stored}
use Rattle.builder.specs.Files.{front_of, file_of}
use Rattle.builder.proofs.Lengths.{header-length, data-length, trailer-length}
use Rattle.laws.proofs.Tabs.{tab-same}
use Rattle.builder.proofs.Stores.{Filled, data-start, data-next, store-next}

worth-same : (k : Kind) (s : List ℕ) (g : ℕ → List ℕ) (q : Quantity) (i : ℕ) → record_of k s (i + 1) ≡ g i → worth_at k s q i ≡ worth q (g i)
unfolding worth_at
worth-same k s g q i e = ap (worth q) e

-- a whole number of records
pub count-whole : (k : Kind) (n : ℕ) (f : List ℕ) → (n + 2) * (fixed_of k).size ≤ length f → count_of k (take ((n + 2) * (fixed_of k).size) f) ≡ n + 2
unfolding count_of
count-whole k n f h = rw (length-take-le ((n + 2) * (fixed_of k).size) f h) (mul-div_cancel (n + 2) (size-pos k))

-- i data records behind the header that stands there
abbrev pub filled : Kind → List ℕ → List ℕ → ℕ → List ℕ
filled k bodies o i = Filled (fixed_of k).size (data_built k (take (fixed_of k).size o) bodies) o i

module _ (k : Kind) (bodies o : List ℕ) (long : (fixed_of k).size ≤ length o) where
  abbrev made : ℕ → List ℕ
  made = data_built k (take (fixed_of k).size o) bodies

  pub filled-start : o ≡ filled k bodies o 0
  filled-start = data-start (fixed_of k).size made (data-length k (take (fixed_of k).size o) bodies) o long

  -- the next one is made with that header too
  pub filled_next :
      (i : ℕ) (f₁ f₂ : List ℕ) → f₁ ≡ filled k bodies o i →
      f₂ ≡ stored ((i + 1) * (fixed_of k).size) (data_built k (take (fixed_of k).size f₁) bodies i) f₁ → f₂ ≡ filled k bodies o (i + 1)
  filled_next i f₁ f₂ a b = b ∙ rw (a, header-stays) (data-next (fixed_of k).size made (data-length k (take (fixed_of k).size o) bodies) o long i)
    where
      header-stays : take (fixed_of k).size (filled k bodies o i) ≡ take (fixed_of k).size o
      header-stays =
          rw (append_assoc (take (fixed_of k).size o) (joined made i) (drop ((i + 1) * (fixed_of k).size) o))
          (take_at (take (fixed_of k).size o) (joined made i ++ drop ((i + 1) * (fixed_of k).size) o) (fixed_of k).size (length-take-le (fixed_of k).size o long))

module _ (k : Kind) (h : Head) (bodies o : List ℕ) (n : ℕ) (count : n ≡ body_count k bodies) (room : (n + 2) * (fixed_of k).size ≤ length o) where
  abbrev w : ℕ
  w = (fixed_of k).size

  abbrev H : List ℕ
  H = header_built k h

  abbrev g : ℕ → List ℕ
  g = data_built k H bodies

  -- the header first, which is found again there
  after-header : stored 0 H o ≡ H ++ drop w o
  after-header = rw (zero-add, header-length k h)

  header-back : take w (H ++ drop w o) ≡ H
  header-back = take_at H (drop w o) w (header-length k h)

  -- then the data records
  after-data : H ++ joined g n ++ drop ((n + 1) * w) (H ++ drop w o) ≡ front_of k h bodies ++ drop ((n + 1) * w) o
  unfolding front_of
  after-data =
      rw (
        add-one,
        suc-mul,
        add_comm (n * (fixed_of k).size) (fixed_of k).size,
        drop_past (header_built k h) (fixed_of k).size (n * (fixed_of k).size) (header-length k h),
        count,
      )
    where
      drop_past : (x : List ℕ) (a b : ℕ) → length x ≡ a → drop (a + b) (x ++ drop a o) ≡ drop (a + b) o
      drop_past x a b e = rw (← e, drop-append-add, drop-drop)

  front-back : take w (front_of k h bodies ++ drop ((n + 1) * w) o) ≡ H
  unfolding front_of
  front-back =
      rw (append_assoc H (joined g (body_count k bodies)) (drop ((n + 1) * w) o))
      (take_at H (joined g (body_count k bodies) ++ drop ((n + 1) * w) o) w (header-length k h))

  front_length : length (front_of k h bodies) ≡ (n + 1) * w
  unfolding front_of
  front_length =
      length-append H (joined g (body_count k bodies)) ∙
      rw (header-length k h, joined_length g w (data-length k H bodies) (body_count k bodies), ← count, add-one, suc-mul) (add_comm w (n * w))

  -- the file so far, as far as it will go
  abbrev sofar : List ℕ
  sofar = take ((n + 2) * w) (front_of k h bodies ++ drop ((n + 1) * w) o)

  whole : length (front_of k h bodies ++ drop ((n + 1) * w) o) ≡ length o
  whole = length-append (front_of k h bodies) (drop ((n + 1) * w) o) ∙ rw (front_length, length-drop) (omega (arith, two-more))
    where
      two-more : (n + 2) * w ≡ (n + 1) * w + w
      two-more = rw (add-two, add-one) (suc-mul (suc n) w)

  sofar-count : count_of k sofar ≡ n + 2
  sofar-count = count-whole k n (front_of k h bodies ++ drop ((n + 1) * w) o) (rw whole room)

  -- its data records are those that were built
  sofar-record : (i : ℕ) → i < n → record_of k sofar (i + 1) ≡ g i
  unfolding record_at front_of
  sofar-record i l =
      part-take ((i + 1) * w) w ((n + 2) * w) (front_of k h bodies ++ drop ((n + 1) * w) o) (size_below (i + 1) (n + 2) w (omega arith)) (rw whole room) ∙
      (rw (append_assoc H (joined g (body_count k bodies)) (drop ((n + 1) * w) o), add-one, suc-mul, add_comm (i * w) w) refl ∙
      (part-behind H (joined g (body_count k bodies) ++ drop ((n + 1) * w) o) w (i * w) w (header-length k h) ∙
      (part-within (joined g (body_count k bodies)) (drop ((n + 1) * w) o) (i * w) w (rw (joined_length g w (data-length k H bodies) (body_count k bodies), ← count) (size_below i n w l)) ∙
      joined-part g w (data-length k H bodies) (body_count k bodies) i (rw (← count) l))))

  sofar-quantity : (q : Quantity) → quantity_of k sofar q ≡ built_quantity k H bodies q
  unfolding quantity_of built_quantity built_worth
  sofar-quantity q =
      rw (sofar-count, ← count)
      (ap (sum (worth_at k sofar q)) (omega arith) ∙ sum_same (worth_at k sofar q) (built_worth k H bodies q) n (λ i l. same i l))
    where
      same : (i : ℕ) → i < n → worth_at k sofar q i ≡ built_worth k H bodies q i
      same i l = worth-same k sofar (data_built k H bodies) q i (sofar-record i l)

  sofar-totals : tabulate (file_total k sofar) most_totals ≡ built_totals k H bodies
  unfolding built_totals file_total built_total
  sofar-totals = tab-same (file_total k sofar) (built_total k H bodies) most_totals (λ t. rw sofar-quantity)

  -- the trailer last
  after-trailer :
      stored ((n + 1) * w) (trailer_built k H (built_totals k H bodies)) (front_of k h bodies ++ drop ((n + 1) * w) o) ≡ file_of k h bodies ++ drop ((n + 2) * w) o
  unfolding file_of
  after-trailer =
      store-next (front_of k h bodies) (trailer_built k H (built_totals k H bodies)) o ((n + 1) * w) front_length ∙
      rw (trailer-length k H (built_totals k H bodies), ← suc-mul (n + 1) w, ← add-one (n + 1), add_assoc)

  -- the whole file, from what each step leaves
  module _ (f₁ f₂ f₃ sums : List ℕ) (first : f₁ ≡ stored 0 H o) (second : f₂ ≡ filled k bodies f₁ n) where
    front-put : f₂ ≡ front_of k h bodies ++ drop ((n + 1) * w) o
    front-put = second ∙ rw (first, after-header, header-back) after-data

    pub file-put :
        sums ≡ tabulate (file_total k (take ((n + 2) * w) f₂)) most_totals → f₃ ≡ stored ((n + 1) * w) (trailer_built k (take w f₂) sums) f₂ →
        f₃ ≡ file_of k h bodies ++ drop ((n + 2) * w) o
    file-put s t = t ∙ rw (s, front-put, front-back, sofar-totals) after-trailer

-- a file to be written has n + 2 records
pub file-length : (k : Kind) (h : Head) (bodies : List ℕ) → length (file_of k h bodies) ≡ (body_count k bodies + 2) * (fixed_of k).size
unfolding file_of front_of
file-length k h bodies =
    let H = header_built k h in
    let n = body_count k bodies in
    length-append (H ++ joined (data_built k H bodies) n) (trailer_built k H (built_totals k H bodies)) ∙
    rw (
      length-append H (joined (data_built k H bodies) n),
      header-length k h,
      trailer-length k H (built_totals k H bodies),
      joined_length (data_built k H bodies) (fixed_of k).size (data-length k H bodies) n,
      add-two,
      suc-mul,
      suc-mul,
    ) (omega arith)
