-- What is lent goes by the bytes that have arrived, and so does the answer at the end.
-- Assumes nothing.
use Prim.Native.Nat.{ℕ, ◌+◌, ◌-◌}
use mathlib.Core.Bool.{true, false}
use mathlib.Core.List.{List, [], ◌++◌}
use mathlib.Core.Path.{◌≡◌, refl, sym, ◌∙◌, ap}
use mathlib.Core.Logic.{⊎_elim}
use native.Mathlib.Nat.{add-zero, add-sub_of_le, sub_self}
use native.Mathlib.Omega.{arith}
use borrow.Author.Tests.{leb-true, leb-false, ne_eqb}
use lib.Dec.{leb}
use lib.ListN.{length, take, drop, length-append}
use lib.Seq.{take-nil, take_all, take-append_seam}
use Rattle.laws.specs.Stored.{stored}
use Rattle.laws.proofs.Bools.{either}
use Rattle.answers.specs.Answers.{refused}
use Rattle.answers.specs.Storing.{at_front}
use Rattle.kinds.specs.declared.of_files.Kind.{Kind}
use Rattle.std.specs.Prelude.{Option, Some, None}
use Rattle.kinds.specs.Kinds.{kind_of}
use Rattle.reader.specs.Reading.{read_as}
use Rattle.arrival.specs.Counting.{counted}
use Rattle.arrival.specs.Arriving.{state_of, ended, has_ended}
use Rattle.arrival.specs.Ending.{room_tells, end_as, end_named, end_told}
use Rattle.arrival.specs.Calls.{Lent, Call, after_call, opened, held, read_inside}
use Rattle.arrival.proofs.Counted.{counted_none, counted-some, counted-small, counted-on, on-counted, length-counted}
use Rattle.arrival.proofs.Fitting.{fit-part, fit-room, fit-both, front_length, front-next}
use Rattle.arrival.proofs.Steps.{then-eight, room-enough, room-passed, open-part, open-end}

pub lent_same : {a b c d : List ℕ} → a ≡ b → c ≡ d → ◌≡◌ {A = Lent} record { state = a; room = c } record { state = b; room = d }
lent_same e f = rw (e, f)

-- nothing has arrived
pub held_none : (room : List ℕ) → opened room ≡ held room []
held_none room = lent_same (rw (take-nil {A = ℕ} (length room), counted_none)) (rw (take-nil {A = ℕ} (length room)))

module _ (room s : List ℕ) where
  abbrev kept : List ℕ
  kept = take (length room) s

  -- no count is the mark of the end
  pub held-open : has_ended (held room s).state ≡ false
  unfolding has_ended
  held-open = ne_eqb (counted (length s - length kept)) ended (λ e. let l = counted-small (length s - length kept) in omega (arith, l, e))

  -- a part more
  pub held_more : (p : List ℕ) → after_call (Call.Part p) (held room s) ≡ held room (s ++ p)
  unfolding after_call
  held_more p =
      let taken = open-part (held room s).state (held room s).room held-open p in
      lent_same (sym taken.1.0 ∙ counts) (sym taken.1.1 ∙ bytes)
    where
      fits : List ℕ
      fits = take (length room - length kept) p

      past : counted (counted (length s - length kept) + (length p - length fits)) ≡ counted (length s + length p - (length kept + length fits))
      past =
          counted-on (length s - length kept) (length p - length fits) ∙
          ap counted (omega (arith, fit-part (length room) s, fit-part (length room - length kept) p))

      counts :
          state_of (length kept + length (take (length (held room s).room - length kept) p)) (counted (counted (length s - length kept) + (length p - length (take (length (held room s).room - length kept) p)))) ≡
          (held room (s ++ p)).state
      counts = rw (front_length s room, fit-both (length room) s p, length-append kept fits, length-append s p, past)

      bytes : stored (length kept) (take (length (held room s).room - length kept) p) (held room s).room ≡ (held room (s ++ p)).room
      bytes = rw (front_length s room, fit-both (length room) s p) (front-next kept fits room)

  -- the end
  module _ (k : Kind) where
    inside : leb (length s) (length room) ≡ true → end_as k (length kept) (counted (length s - length kept)) (held room s).room ≡ read_inside (Some k) (length room) s
    unfolding end_as
    inside t =
        rw (
          take_all (length room) s (leb-true (length s) (length room) t),
          sub_self (length s),
          counted_none,
          add-zero (length s),
          length-counted k (length s),
          room-enough (length s) 0 (length (at_front s room)) refl (rw length-append (omega arith)),
          take-append_seam s (drop (length s) room),
          t,
        )

    outside : leb (length s) (length room) ≡ false → end_as k (length kept) (counted (length s - length kept)) (held room s).room ≡ read_inside (Some k) (length room) s
    unfolding end_as
    outside f =
        rw (
          on-counted (length kept) (length s - length kept),
          add-sub_of_le (fit-part (length room) s),
          length-counted k (length s),
          then-eight (room_tells (length kept) (counted (length s - length kept)) (length (held room s).room)) _ (room-passed _ _ _ passed),
          f,
          then-eight (refused 8) (read_as k s) refl,
        )
      where
        passed : counted (length s - length kept) ≡ 0 → ⊥
        passed e =
            let l = counted-some (length s - length kept) (omega (arith, leb-false (length s) (length room) f, fit-room (length room) s)) in
            omega (arith, l, e)

  pub held-end : (kind : ℕ) → end_told kind (held room s).state (held room s).room ≡ read_inside (kind_of kind) (length room) s
  held-end kind = sym (open-end (held room s).state (held room s).room held-open kind).0 ∙ named (kind_of kind)
    where
      named : (n : Option Kind) → end_named n (length kept) (counted (length s - length kept)) (held room s).room ≡ read_inside n (length room) s
      named None = refl
      named (Some k) = ⊎_elim (inside k) (outside k) (either (leb (length s) (length room)))
