-- A record is laid out by its rows from the last to the first, so that where rows are over the same place the first of them stands.
-- Assumes nothing.
use Prim.Native.Nat.{ℕ, ◌+◌, ◌-◌, ◌≤◌, ◌<◌}
use mathlib.Core.Bool.{true, false}
use mathlib.Core.List.{List, reverse}
use mathlib.Core.Logic.{◌⊎◌, inl, inr, ⊎_elim}
use mathlib.Core.Path.{◌≡◌, sym, ◌∙◌, ap}
use native.Mathlib.Omega.{arith}
use borrow.Author.Tests.{ltb-true, ltb-false}
use lib.Dec.{ltb}
use lib.ListN.{length, get_or}
use Rattle.std.proofs.lemmas.List.{length-reverse, get_or-reverse}
use Rattle.laws.specs.Least.{least}
use Rattle.laws.specs.Stored.{stored}
use Rattle.laws.specs.Tabulate.{tabulate}
use Rattle.laws.proofs.Bools.{either, clash}
use Rattle.laws.proofs.Leasts.{least-is, least-some}
use Rattle.laws.proofs.Parts.{inside}
use Rattle.laws.proofs.Stores.{stored-length}
use Rattle.laws.proofs.Tabs.{tab-at, tab-length, tab-list}
use Rattle.kinds.specs.declared.of_files.Kind.{Kind}
use Rattle.kinds.specs.declared.of_files.Role.{Role}
use Rattle.kinds.specs.Kinds.{fixed_of}
use Rattle.tables.specs.declared.row.Row.{Row}
use Rattle.tables.specs.Rows.{blank}
use Rattle.tables.specs.Tables.{rows_of}
use Rattle.tables.proofs.Tiling.{row_within}
use Rattle.builder.specs.Bytes.{over_row, over, row_over, written}
use Rattle.builder.proofs.Over.{row-over, over-if, over-low, over-high}
use Rattle.builder.proofs.Pieces.{stored_in, stored_low, stored_past}

-- what a row writes, all of it
pub written-length : (fill : Row → ℕ → ℕ) (r : Row) → length (written fill r) ≡ r.2
unfolding written
written-length fill r = tab-length (λ d. fill r (r.1 + d)) r.2

pub written-at : (fill : Row → ℕ → ℕ) (r : Row) (d : ℕ) → d < r.2 → get_or (written fill r) d 0 ≡ fill r (r.1 + d)
unfolding written
written-at fill r d h = tab-at (λ d. fill r (r.1 + d)) r.2 d h

-- place d of a row, counted from the row's start
pub written-place : (a d : ℕ) → (a + d) - a ≡ d
written-place a d = omega arith

-- a place that a row is not over is before or past it
over_not : (r : Row) (j : ℕ) → over_row r j ≡ false → (j < r.1) ⊎ (r.1 + r.2 ≤ j)
over_not r j f =
    ⊎_elim (λ t. inl (ltb-true j r.1 t))
    (λ g. let low = ltb-false j r.1 g in ⊎_elim (λ t. absurd (clash (over-if r j low (ltb-true j (r.1 + r.2) t)) f)) (λ p. inr (ltb-false j (r.1 + r.2) p)) (either (ltb j (r.1 + r.2))))
    (either (ltb j r.1))

-- a turn of a loop that goes over a list from the last element on
pub back_turn :
    {A : Type 0} (rows : List A) (d : A) (put : ℕ) (r : A) → (put < length (reverse rows)) × (r ≡ get_or (reverse rows) put r) →
    (put < length rows) × (r ≡ get_or rows (length rows - 1 - put) d)
back_turn rows d put r t =
    let h : put < length rows = rw length-reverse at t.0 in
    (h, t.1 ∙ (get_or-reverse rows put r h ∙ inside rows (length rows - 1 - put) r d (omega arith)))

module _ (k : Kind) (role : Role) (fill : Row → ℕ → ℕ) where
  abbrev rows : List Row
  rows = rows_of k role

  abbrev first : ℕ → ℕ
  first j = least (over rows j) (length rows)

  -- what stands at place j of the record, by the row over it
  abbrev pub byte : ℕ → ℕ
  byte j = fill (row_over rows j) j

  -- so many rows were put, from the last one on: each place whose row is among them has its byte
  abbrev pub Laid : ℕ → List ℕ → Type 0
  Laid put rec = (j : ℕ) → j < length rec → length rows ≤ put + first j → get_or rec j 0 ≡ byte j

  some_over : (j : ℕ) → j < (fixed_of k).size → first j < length rows
  unfolding over
  some_over j h =
      let o = row-over k role j h in
      least-some (over rows j) (length rows) o.0 o.1.inside (over-if (get_or rows o.0 blank) j o.1.low o.1.high)

  pub laid_start : (rec : List ℕ) → length rec ≡ (fixed_of k).size → Laid 0 rec
  laid_start rec e j b h = let s = some_over j (omega arith) in absurd (omega arith)

  -- the next row
  module _ (put : ℕ) (r : Row) (turn : (put < length rows) × (r ≡ get_or rows (length rows - 1 - put) blank)) where
    abbrev i : ℕ
    i = length rows - 1 - put

    pub next_inside : r.1 + r.2 ≤ (fixed_of k).size
    next_inside = rw turn.1 (row_within k role i)

    -- over its places it is the first; the row of any other place was put before
    module _ (j : ℕ) (e : length rows ≤ (put + 1) + first j) where
      is_first : over_row r j ≡ true → row_over rows j ≡ r
      unfolding over row_over
      is_first t =
          let h = turn.0 in
          let l = least-is (over rows j) (length rows) in
          let none : ltb i (first j) ≡ true → row_over rows j ≡ r =
          λ b. absurd (clash (rw turn.1 at t) (l.before i (ltb-true i (first j) b))) in
          ⊎_elim none
          (λ b. let g = ltb-false i (first j) b in let same : first j ≡ i = omega arith in ap (λ (m : ℕ). get_or rows m blank) same ∙ sym turn.1)
          (either (ltb i (first j)))

      later : over_row r j ≡ false → length rows ≤ put + first j
      unfolding over
      later f =
          let h = turn.0 in
          let l = least-is (over rows j) (length rows) in
          ⊎_elim (λ b. let g = ltb-true i (first j) b in omega arith)
          (λ b. let g = ltb-false i (first j) b in
          let same : first j ≡ i = omega arith in
          absurd (clash (rw same at (l.holds (omega arith))) (rw turn.1 at f)))
          (either (ltb i (first j)))

    pub laid_more :
        (rec new : List ℕ) → length rec ≡ (fixed_of k).size → new ≡ stored r.1 (written fill r) rec → Laid put rec →
        (length new ≡ (fixed_of k).size) × Laid (put + 1) new
    laid_more rec new e is l = (rw is long, at)
      where
        fits : r.1 + length (written fill r) ≤ length rec
        fits = rw written-length (let n = next_inside in omega arith)

        long : length (stored r.1 (written fill r) rec) ≡ (fixed_of k).size
        long = stored-length r.1 (written fill r) rec fits ∙ e

        here : (j : ℕ) → length rows ≤ (put + 1) + first j → over_row r j ≡ true → get_or (stored r.1 (written fill r) rec) j 0 ≡ byte j
        here j h t =
            let low = over-low r j t in
            let high = over-high r j t in
            let w = written-length fill r in
            let back : r.1 + (j - r.1) ≡ j = omega arith in
            stored_in r.1 (written fill r) rec fits j low (omega arith) ∙
            (written-at fill r (j - r.1) (omega arith) ∙ (ap (fill r) back ∙ ap (λ (q : Row). fill q j) (sym (is_first j h t))))

        there : (j : ℕ) → j < length rec → length rows ≤ (put + 1) + first j → over_row r j ≡ false → get_or (stored r.1 (written fill r) rec) j 0 ≡ byte j
        there j b h f =
            let w = written-length fill r in
            ⊎_elim (λ a. stored_low r.1 (written fill r) rec fits j a) (λ a. stored_past r.1 (written fill r) rec fits j (omega arith)) (over_not r j f) ∙
            l j b (later j h f)

        at : Laid (put + 1) new
        at j b h =
            let c : j < length rec = let q = ap length is in omega (arith, long) in
            rw is (⊎_elim (λ t. here j h t) (λ f. there j c h f) (either (over_row r j)))

  -- all rows put
  pub laid_end : (put : ℕ) (rec : List ℕ) → put ≡ length rows → length rec ≡ (fixed_of k).size → Laid put rec → rec ≡ tabulate byte (fixed_of k).size
  laid_end put rec all e l = sym (tab-list byte rec (λ j h. sym (l j h (omega arith)))) ∙ ap (tabulate byte) e
