-- A data record is stored piece by piece: "R", the serial, the header's own bytes, the body.
-- Assumes nothing.
use Prim.Native.Nat.{ℕ, ◌+◌, ◌-◌, ◌*◌, ◌≤◌, ◌<◌}
use mathlib.Core.List.{List, ◌++◌}
use mathlib.Core.Bool.{true, false}
use mathlib.Core.Logic.{⊎_elim, ◌≢◌}
use mathlib.Core.Path.{◌≡◌, sym, ◌∙◌, ap}
use native.Mathlib.Omega.{arith}
use borrow.Author.Tests.{ltb-true, ltb-false, lt-ltb, le-ltb}
use lib.Dec.{ltb}
use lib.ListN.{length, get_or, get_or-append, get_or-eq_default, get_or-replicate, length-append, length-replicate, length-set, replicate, set, take, drop}
use lib.Seq.{get_or-append_right, get_or-drop, get_or-set_other, get_or-set_same, get_or-take, length-take-le}
use Rattle.laws.specs.Part.{part}
use Rattle.laws.specs.Stored.{stored}
use Rattle.laws.specs.Tabulate.{tabulate}
use Rattle.laws.proofs.Bools.{either}
use Rattle.laws.proofs.Parts.{part_length, part_at}
use Rattle.laws.proofs.Stores.{stored-length}
use Rattle.laws.proofs.Tabs.{tab-list}
use Rattle.numbers.specs.Numbers.{digits_of}
use Rattle.numbers.proofs.Values.{digits-length}
use Rattle.kinds.specs.declared.of_files.Kind.{Kind}
use Rattle.kinds.specs.declared.of_files.Role.TheVariants.{Data}
use Rattle.kinds.specs.Kinds.{fixed_of}
use Rattle.tables.specs.Tables.{data_front, rows_of}
use Rattle.builder.specs.Bytes.{row_over}
use Rattle.builder.specs.Records.{front_fill, data_byte, data_built}
use Rattle.builder.proofs.Over.{front-first, front-second, front-third}

-- what stands at a place of a list in which something was stored
module _ (at : ℕ) (x old : List ℕ) (fits : at + length x ≤ length old) (j : ℕ) where
  taken : length (take at old) ≡ at
  taken = length-take-le at old (omega arith)

  long : length (take at old ++ x) ≡ at + length x
  long = length-append (take at old) x ∙ rw taken

  pub stored_in : at ≤ j → j < at + length x → get_or (stored at x old) j 0 ≡ get_or x (j - at) 0
  stored_in a b =
      let l = long in
      let t = taken in
      get_or-append (take at old ++ x) (drop (at + length x) old) 0 j (omega arith) ∙ (get_or-append_right (take at old) x j 0 (omega arith) ∙ rw t)

  pub stored_low : j < at → get_or (stored at x old) j 0 ≡ get_or old j 0
  stored_low h =
      let l = long in
      let t = taken in
      get_or-append (take at old ++ x) (drop (at + length x) old) 0 j (omega arith) ∙
      (get_or-append (take at old) x 0 j (omega arith) ∙ get_or-take at old j 0 h)

  pub stored_past : at + length x ≤ j → get_or (stored at x old) j 0 ≡ get_or old j 0
  stored_past h =
      let l = long in
      get_or-append_right (take at old ++ x) (drop (at + length x) old) j 0 (omega arith) ∙
      (get_or-drop (at + length x) old (j - length (take at old ++ x)) 0 ∙ ap (λ (n : ℕ). get_or old n 0) (omega arith))

-- items 1 to 3, whatever the kind
module _ (k : Kind) (header : List ℕ) (n j : ℕ) where
  fill-first : j < 1 → front_fill (row_over (rows_of k Data) j) header n j ≡ 0x52
  unfolding front_fill data_front
  fill-first h = rw (← front-first k j h)

  fill-second : 1 ≤ j → j < 9 → front_fill (row_over (rows_of k Data) j) header n j ≡ get_or (digits_of 8 n) (j - 1) 0
  unfolding front_fill data_front
  fill-second a b = rw (← front-second k j a b)

  fill-third : 9 ≤ j → j < 19 → front_fill (row_over (rows_of k Data) j) header n j ≡ get_or header j 0
  unfolding front_fill data_front
  fill-third a b = rw (← front-third k j a b)

-- a record begins as "R" and zeros
abbrev pub begun : ℕ → List ℕ
begun w = set (replicate w 0) 0 0x52

begun-long : (w : ℕ) → length (begun w) ≡ w
begun-long w = simp (length-set, length-replicate)

begun-first : (w : ℕ) → 0 < w → get_or (begun w) 0 0 ≡ 0x52
begun-first w h = get_or-set_same (replicate w 0) 0 0x52 0 (rw (length-replicate {A = ℕ} w 0) h)

begun-zeros : (w j : ℕ) → 1 ≤ j → j < w → get_or (begun w) j 0 ≡ 0
begun-zeros w j g h = let ne : j ≢ 0 = omega arith in rw get_or-set_other (get_or-replicate w j 0 0 h)

-- a record of w bytes when its other pieces were stored: of the body as much as there is room for
module _
    (k : Kind) (header bodies body : List ℕ) (i w n : ℕ) (size : (fixed_of k).size ≡ w) (room : 19 + n ≤ w) (front : 19 ≤ length header)
    (of : body ≡ drop (i * (fixed_of k).body) bodies) (fits : n ≤ length body) (all : 19 + n < w → length body ≤ n) where
  abbrev r : List ℕ
  r = begun w

  abbrev serial : List ℕ
  serial = digits_of 8 (i + 1)

  abbrev own : List ℕ
  own = part 9 10 header

  abbrev r₁ : List ℕ
  r₁ = stored 1 serial r

  abbrev r₂ : List ℕ
  r₂ = stored 9 own r₁

  abbrev r₃ : List ℕ
  r₃ = stored 19 (take n body) r₂

  serial-long : length serial ≡ 8
  serial-long = digits-length 8 (i + 1)

  own-long : length own ≡ 10
  own-long = part_length 9 10 header (omega arith)

  body-long : length (take n body) ≡ n
  body-long = length-take-le n body fits

  fits₁ : 1 + length serial ≤ length r
  fits₁ = let s = serial-long in let l = begun-long w in omega arith

  long₁ : length r₁ ≡ w
  long₁ = stored-length 1 serial r fits₁ ∙ begun-long w

  fits₂ : 9 + length own ≤ length r₁
  fits₂ = let s = own-long in let l = long₁ in omega arith

  long₂ : length r₂ ≡ w
  long₂ = stored-length 9 own r₁ fits₂ ∙ long₁

  fits₃ : 19 + length (take n body) ≤ length r₂
  fits₃ = let s = body-long in let l = long₂ in omega arith

  long₃ : length r₃ ≡ w
  long₃ = stored-length 19 (take n body) r₂ fits₃ ∙ long₂

  serial-at : (j : ℕ) → j < 9 → get_or r₁ j 0 ≡ front_fill (row_over (rows_of k Data) j) header (i + 1) j
  serial-at j h = ⊎_elim low high (either (ltb j 1))
    where
      low : ltb j 1 ≡ true → get_or r₁ j 0 ≡ front_fill (row_over (rows_of k Data) j) header (i + 1) j
      low t =
          let l = ltb-true j 1 t in
          let none : j ≡ 0 = omega arith in
          stored_low 1 serial r fits₁ j l ∙ (ap (λ (m : ℕ). get_or r m 0) none ∙ (begun-first w (omega arith) ∙ sym (fill-first k header (i + 1) j l)))

      high : ltb j 1 ≡ false → get_or r₁ j 0 ≡ front_fill (row_over (rows_of k Data) j) header (i + 1) j
      high f =
          let s = serial-long in
          let g = ltb-false j 1 f in
          stored_in 1 serial r fits₁ j g (omega arith) ∙ sym (fill-second k header (i + 1) j g h)

  front-at : (j : ℕ) → j < 19 → get_or r₃ j 0 ≡ front_fill (row_over (rows_of k Data) j) header (i + 1) j
  front-at j h = stored_low 19 (take n body) r₂ fits₃ j h ∙ ⊎_elim low high (either (ltb j 9))
    where
      low : ltb j 9 ≡ true → get_or r₂ j 0 ≡ front_fill (row_over (rows_of k Data) j) header (i + 1) j
      low t = let l = ltb-true j 9 t in stored_low 9 own r₁ fits₂ j l ∙ serial-at j l

      high : ltb j 9 ≡ false → get_or r₂ j 0 ≡ front_fill (row_over (rows_of k Data) j) header (i + 1) j
      high f =
          let s = own-long in
          let g = ltb-false j 9 f in
          stored_in 9 own r₁ fits₂ j g (omega arith) ∙
          (part_at 9 10 header (j - 9) (omega arith) ∙ (ap (λ (m : ℕ). get_or header m 0) (omega arith) ∙ sym (fill-third k header (i + 1) j g h)))

  body-at : (j : ℕ) → 19 ≤ j → j < w → get_or r₃ j 0 ≡ get_or body (j - 19) 0
  body-at j g h = ⊎_elim low high (either (ltb j (19 + n)))
    where
      low : ltb j (19 + n) ≡ true → get_or r₃ j 0 ≡ get_or body (j - 19) 0
      low t =
          let s = body-long in
          let l = ltb-true j (19 + n) t in
          stored_in 19 (take n body) r₂ fits₃ j g (omega arith) ∙ get_or-take n body (j - 19) 0 (omega arith)

      high : ltb j (19 + n) ≡ false → get_or r₃ j 0 ≡ get_or body (j - 19) 0
      high f =
          let s = serial-long in
          let o = own-long in
          let b = body-long in
          let past = ltb-false j (19 + n) f in
          let short : length body ≤ j - 19 = omega (arith, all (omega arith)) in
          stored_past 19 (take n body) r₂ fits₃ j (omega arith) ∙
          (stored_past 9 own r₁ fits₂ j (omega arith) ∙
          (stored_past 1 serial r fits₁ j (omega arith) ∙ (begun-zeros w j (omega arith) h ∙ sym (get_or-eq_default body 0 short))))

  pub record-built : r₃ ≡ data_built k header bodies i
  unfolding data_built data_byte
  record-built =
      sym (tab-list (data_byte k header bodies i) r₃ (λ j h. at j (rw long₃ at h))) ∙ ap (tabulate (data_byte k header bodies i)) (long₃ ∙ sym size)
    where
      at : (j : ℕ) → j < w → data_byte k header bodies i j ≡ get_or r₃ j 0
      at j h =
          ⊎_elim
          (λ t. let l = ltb-true j 19 t in rw (lt-ltb j 19 l) (sym (front-at j l)))
          (λ f. let g = ltb-false j 19 f in rw (le-ltb j 19 g) (sym (body-at j g h ∙ (rw of (get_or-drop (i * (fixed_of k).body) bodies (j - 19) 0)))))
          (either (ltb j 19))
