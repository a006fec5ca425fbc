-- The laws of codes in a list.
-- Assumes nothing.
use Prim.Native.Nat.{ℕ, ◌<◌}
use mathlib.Core.Bool.{true, false, cond}
use mathlib.Core.List.{List}
use mathlib.Core.Path.{◌≡◌, sym}
use mathlib.Core.Logic.{◌↔◌}
use borrow.Author.Tests.{ltb-true, lt-ltb, le-ltb, eqb-true, eq-eqb}
use native.Mathlib.Nat.{le_of_eq}
use lib.ListN.{length}
use lib.Dec.{eqb, ltb}
use Rattle.std.specs.Prelude.{Some, None}
use Rattle.std.specs.List.{list_any, position_or_len}
use Rattle.laws.specs.Least.{some}
use Rattle.laws.proofs.Leasts.{least-is, least-some, least-none}
use Rattle.laws.proofs.Positions.{least_position, some_any}
use Rattle.tables.specs.Among.{code_is, place_among, is_among, Among}

module _ (codes : List ℕ) (code : ℕ) where
  among-is : is_among codes code ≡ true → Among codes code
  unfolding is_among place_among code_is
  among-is t =
      let below = ltb-true (place_among codes code) (length codes) t in
      record { place = place_among codes code; inside = below; is = eqb-true _ code ((least-is (code_is codes code) (length codes)).holds below) }

  pub is_among_lem : Among codes code → is_among codes code ≡ true
  unfolding is_among place_among code_is
  is_among_lem a = lt-ltb _ _ (least-some (code_is codes code) (length codes) a.place a.inside (eq-eqb _ code a.is))

  -- the test finds a code exactly when the list has it
  pub among-exactly : (is_among codes code ≡ true) ↔ Among codes code
  among-exactly = (among-is, is_among_lem)

  -- it stands at no place
  pub among_none : ((k : ℕ) → k < length codes → code_is codes code k ≡ false) → is_among codes code ≡ false
  unfolding is_among place_among
  among_none f = le-ltb _ (length codes) (le_of_eq (sym (least-none (code_is codes code) (length codes) f)))

  -- as the library's searches of the list
  place_position : place_among codes code ≡ position_or_len (λ c. eqb c code) codes
  unfolding place_among code_is
  place_position = least_position (λ c. eqb c code) codes 0

  abbrev first_place : ℕ
  first_place = position_or_len (λ c. eqb c code) codes

  pub place_found : cond (ltb first_place (length codes)) (Some first_place) None ≡ cond (is_among codes code) (Some (place_among codes code)) None
  unfolding is_among
  place_found = rw place_position

  pub among_any : is_among codes code ≡ list_any (λ c. eqb c code) codes
  unfolding is_among place_among code_is some
  among_any = some_any (λ c. eqb c code) codes 0
