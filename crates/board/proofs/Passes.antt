-- A pass over the board: a search comes nearer to its end, and the marks that one member makes.
-- Assumes nothing.
use Prim.Native.Nat.{ℕ, ◌+◌, ◌-◌, ◌*◌, ◌≤◌, ◌<◌}
use mathlib.Core.Bool.{true, false}
use mathlib.Core.List.{List}
use mathlib.Core.Path.{◌≡◌, refl, ap}
use mathlib.Core.Logic.{⊎_elim}
use native.Mathlib.Nat.{mul-le-mul_right, suc-mul}
use native.Mathlib.Numerals.{add-one}
use native.Mathlib.Omega.{arith}
use lib.ListN.{get_or}
use Rattle.laws.proofs.Bools.{either}
use Rattle.payers.specs.declared.turns.Place.{Place}
use Rattle.payers.specs.declared.members.Member.{Member}
use Rattle.payers.specs.Members.{nobody, payer_on, owed_on}
use Rattle.payers.specs.Turns.{held, placed, dues_key, listed, goes_on, next_in, moved_on, seen, sought_place, marks_with, marked}
use Rattle.payers.proofs.Marked.{mark_of}
use Rattle.board.proofs.Sought.{next-on, next-stays, moved-seen, moved-past, goes-more, some-held}

-- a search that takes up the next members begins anew: each time fewer are left
unfoldable pub weight : ℕ → Place → ℕ
weight many p = (many - p.from) * (many + 1) + (p.end - p.at)

-- in each turn of a search fewer are left to compare, or fewer to hold
module _ (many : ℕ) (p m : Place) (from : m.from ≡ p.from) (end : m.end ≤ many) (less : m.end - m.at < p.end - p.at) where
  next-nearer : weight many (next_in m) < weight many p
  unfolding weight
  next-nearer = ⊎_elim on stays (either (goes_on m))
    where
      on : goes_on m ≡ true → weight many (next_in m) < weight many p
      on t =
          let b = many - (m.from + held) in
          let more = goes-more m t in
          let fewer : (b + 1) * (many + 1) ≤ (many - p.from) * (many + 1) = mul-le-mul_right (many + 1) (omega (arith, some-held)) in
          rw (next-on m t) (omega (arith, fewer, suc-mul b (many + 1), ap (λ (x : ℕ). x * (many + 1)) (add-one b)))

      stays : goes_on m ≡ false → weight many (next_in m) < weight many p
      stays f = rw (next-stays m f, from) (omega arith)

pub sought-nearer : (many : ℕ) (p : Place) (payer room : List ℕ) → p.end ≤ many → p.at < p.end → weight many (sought_place p payer room) < weight many p
unfolding sought_place
sought-nearer many p payer room l h = ⊎_elim found past (either (seen p payer room))
  where
    found : seen p payer room ≡ true → weight many (next_in (moved_on p payer room)) < weight many p
    found t = rw (moved-seen p payer room t) (next-nearer many p (placed p.from p.at p.at) refl (omega arith) (omega arith))

    past : seen p payer room ≡ false → weight many (next_in (moved_on p payer room)) < weight many p
    past f = rw (moved-past p payer room f) (next-nearer many p (placed p.from (p.at + 1) p.end) refl l (omega arith))

-- the marks that a member makes
pub marks-here :
    (n k : ℕ) (board : List Member) (request taken marks : List ℕ) →
    marked n (get_or board k nobody) request taken marks ≡ marks_with (dues_key request) n (payer_on board k) (mark_of board (dues_key request) (listed taken) n k) marks
unfolding marked mark_of payer_on owed_on
marks-here n k board request taken marks = refl
