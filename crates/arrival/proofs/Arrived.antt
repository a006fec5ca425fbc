-- A file in parts is told as the reader tells it of the joined bytes, and nothing of it is told before the end.
-- Assumes nothing.
use Prim.Native.Nat.{ℕ, ◌+◌, ◌-◌, ◌≤◌, ◌<◌}
use mathlib.Core.Bool.{true, false}
use mathlib.Core.List.{List, [], ◌∷◌, ◌++◌, append-nil, append_assoc}
use mathlib.Core.Path.{◌≡◌, refl, sym, ◌∙◌, ap}
use mathlib.Core.Logic.{⊎_elim}
use native.Mathlib.Nat.{le_trans, mul-le-mul_right}
use native.Mathlib.Omega.{arith}
use borrow.Author.Tests.{eq-eqb, leb-true, le-leb}
use lib.Dec.{leb}
use lib.ListN.{length, take, replicate}
use lib.Seq.{take_all, take-append_seam}
use Rattle.laws.specs.Joined.{all}
use Rattle.laws.proofs.Bools.{either}
use Rattle.answers.specs.Answers.{accepted, refused, refuses}
use Rattle.answers.proofs.Refusals.{number_of, refuses-zero, refuses-other, then-first, then-second, then-zero, tested}
use Rattle.std.specs.Prelude.{Option, Some, None}
use Rattle.kinds.specs.declared.of_files.Kind.{Kind}
use Rattle.kinds.specs.Kinds.{fixed_of, kind_of}
use Rattle.reader.specs.Reading.{length_tells, read_as, read_named, read_of}
use Rattle.reader.proofs.Lengths.{length-good}
use Rattle.reader.proofs.Cut.{cut_short}
use Rattle.arrival.specs.Counting.{longest, cycle, turn}
use Rattle.arrival.specs.Arriving.{kept_in, past_in, state_of, ended, has_ended}
use Rattle.arrival.specs.Ending.{end_told, state_ended}
use Rattle.arrival.specs.Calls.{Lent, Call, number_to, after_call, after_calls, numbers_to, opened, in_parts, arrived, end_after, lent_after, held, read_inside}
use Rattle.arrival.proofs.Counted.{counted-small, longest-file}
use Rattle.arrival.proofs.Fitting.{fit-room}
use Rattle.arrival.proofs.Steps.{ended-part, ended-end, open-part}
use Rattle.arrival.proofs.Held.{lent_same, held_none, held-open, held_more, held-end}

-- what is lent after parts goes by their joined bytes alone
held-parts : (room s : List ℕ) (parts : List (List ℕ)) → after_calls (in_parts parts) (held room s) ≡ held room (s ++ all parts)
unfolding after_calls all
held-parts room s [] = ap (held room) (sym (append-nil s))
held-parts room s (p ∷ ps) =
    ap (after_calls (in_parts ps)) (held_more room s p) ∙ (held-parts room (s ++ p) ps ∙ ap (held room) (append_assoc s p (all ps)))

pub arrived-held : (room : List ℕ) (parts : List (List ℕ)) → arrived room parts ≡ held room (all parts)
arrived-held room parts = ap (after_calls (in_parts parts)) (held_none room) ∙ held-parts room [] parts

-- *No count runs over*: whatever has arrived, the state's numbers stay within the room and within a turn and a cycle
pub counts_end :
    (room : List ℕ) (parts : List (List ℕ)) →
    (kept_in (arrived room parts).state ≤ length room) × (past_in (arrived room parts).state < turn + cycle)
counts_end room parts =
    let s = all parts in
    rw (arrived-held room parts) (fit-room (length room) s, counted-small (length s - length (take (length room) s)))

-- *In any room*: the end is told as by the reader, but for 8 after 1, 2 and 3 where the joined bytes are more than the room holds
pub in-any-room :
    (kind : ℕ) (room : List ℕ) (parts : List (List ℕ)) → end_after kind room parts ≡ read_inside (kind_of kind) (length room) (all parts)
in-any-room kind room parts = rw (arrived-held room parts) (held-end room (all parts) kind)

-- a room as long as the longest file holds every file that is not 2 or 3
whole-inside : (n : Option Kind) (room : ℕ) (s : List ℕ) → longest ≤ room → read_inside n room s ≡ read_named n s
unfolding read_as
whole-inside None room s l = refl
whole-inside (Some k) room s l = ⊎_elim bad good (either (refuses (length_tells k (length s))))
  where
    bad : refuses (length_tells k (length s)) ≡ true → read_inside (Some k) room s ≡ read_as k s
    bad t =
        let ne = refuses-other (length_tells k (length s)) t in
        then-first _ _ ne ∙ sym (then-first _ _ ne)

    good : refuses (length_tells k (length s)) ≡ false → read_inside (Some k) room s ≡ read_as k s
    good f =
        let z = refuses-zero (length_tells k (length s)) f in
        then-second _ _ z ∙ rw (le-leb (length s) room (fits z)) (then-second accepted (read_as k s) refl)
      where
        fits : (length_tells k (length s)).number ≡ 0 → length s ≤ room
        fits z =
            let g = length-good k s z in
            le_trans (rw g.whole (le_trans (mul-le-mul_right (fixed_of k).size g.most) (longest-file k))) l

-- *As the reader*: in a room as long as the longest file, however the file was cut and into how many parts, none included
pub as-the-reader :
    (kind : ℕ) (room : List ℕ) (parts : List (List ℕ)) → longest ≤ length room → end_after kind room parts ≡ read_of kind (all parts)
unfolding read_of
as-the-reader kind room parts l = in-any-room kind room parts ∙ whole-inside (kind_of kind) (length room) (all parts) l

-- *However cut*: the same joined bytes end in the same answer, the same state and the same room
pub however-cut :
    (kind : ℕ) (room : List ℕ) (parts others : List (List ℕ)) → all parts ≡ all others →
    (end_after kind room parts ≡ end_after kind room others) × (lent_after kind room parts ≡ lent_after kind room others)
however-cut kind room parts others e =
    let same = arrived-held room parts ∙ (ap (held room) e ∙ sym (arrived-held room others)) in
    (ap (λ (l : Lent). end_told kind l.state l.room) same, ap (after_call (Call.End kind)) same)

-- what is told accepted is not more than the room holds
accepted-inside : (n : Option Kind) (room : ℕ) (s : List ℕ) → (read_inside n room s).number ≡ 0 → length s ≤ room
accepted-inside None room s e = absurd (omega arith)
accepted-inside (Some k) room s e =
    let fits = (then-zero _ _ (then-zero (length_tells k (length s)) _ e).1).0 in
    leb-true (length s) room (tested (leb (length s) room) (refused 8) (λ z. omega arith) fits)

-- the end leaves what lies in the room
kept-ended : (state : List ℕ) → kept_in (state_ended state) ≡ kept_in state
unfolding state_ended
kept-ended state = ⊎_elim (λ t. rw t) (λ f. rw f) (either (has_ended state))

-- *The file in the room*: after an accepted end the room begins with the joined bytes, as many as the state's first number
pub file-in-room :
    (kind : ℕ) (room : List ℕ) (parts : List (List ℕ)) → end_after kind room parts ≡ accepted →
    take (kept_in (lent_after kind room parts).state) (lent_after kind room parts).room ≡ all parts
unfolding after_call
file-in-room kind room parts e =
    let s = all parts in
    rw (kept-ended, arrived-held room parts)
    (take-append_seam (take (length room) s) _ ∙ take_all (length room) s (accepted-inside (kind_of kind) (length room) s (number_of (sym (in-any-room kind room parts) ∙ e))))

-- what is told accepted the reader accepts
accepted-read : (n : Option Kind) (room : ℕ) (s : List ℕ) → read_inside n room s ≡ accepted → read_named n s ≡ accepted
accepted-read None room s e = e
accepted-read (Some k) room s e =
    let zero = then-zero (length_tells k (length s)) _ (number_of e) in
    sym (then-second _ _ zero.0 ∙ then-second _ (read_as k s) (then-zero _ _ zero.1).0) ∙ e

-- *Cut off*: of a file that is accepted no beginning is, in whatever parts and rooms the two arrive
cut-named : (n : Option Kind) (s : List ℕ) (m : ℕ) → m < length s → read_named n s ≡ accepted → read_named n (take m s) ≡ accepted → ⊥
cut-named None s m l e f = let z : ◌≡◌ {A = ℕ} 1 0 = number_of e in omega arith
cut-named (Some k) s m l e f = cut_short k s m l e f

pub cut_off :
    (kind : ℕ) (room other : List ℕ) (whole some : List (List ℕ)) (m : ℕ) → m < length (all whole) →
    all some ≡ take m (all whole) → end_after kind room whole ≡ accepted → end_after kind other some ≡ accepted → ⊥
cut_off kind room other whole some m l begins e f =
    let good = accepted-read (kind_of kind) (length room) (all whole) (sym (in-any-room kind room whole) ∙ e) in
    let cut = accepted-read (kind_of kind) (length other) (all some) (sym (in-any-room kind other some) ∙ f) in
    cut-named (kind_of kind) (all whole) m l good (rw begins at cut)

-- *Nothing early*: before the end every answer is "more"
early : (room s : List ℕ) (parts : List (List ℕ)) → numbers_to (in_parts parts) (held room s) ≡ replicate (length parts) 10
unfolding numbers_to number_to
early room s [] = refl
early room s (p ∷ ps) = rw (← (open-part (held room s).state (held room s).room (held-open room s) p).0, held_more room s p) (ap (λ x. 10 ∷ x) (early room (s ++ p) ps))

pub nothing-early : (room : List ℕ) (parts : List (List ℕ)) → numbers_to (in_parts parts) (opened room) ≡ replicate (length parts) 10
nothing-early room parts = rw (held_none room) (early room [] parts)

-- after it every answer is 9, and neither state nor room changes
module _ (l : Lent) (t : has_ended l.state ≡ true) where
  ended-call : (c : Call) → (number_to c l ≡ 9) × (after_call c l ≡ l)
  unfolding number_to after_call
  ended-call (Call.Part p) =
      let told = ended-part l.state l.room t p in
      rw (← told.0, ← told.1.0, ← told.1.1) (refl, refl)
  ended-call (Call.End kind) =
      let told = ended-end l.state l.room t kind in
      (number_of (sym told.0), lent_same (sym told.1) refl)

  ended-calls : (calls : List Call) → (numbers_to calls l ≡ replicate (length calls) 9) × (after_calls calls l ≡ l)
  unfolding numbers_to after_calls
  ended-calls [] = (refl, refl)
  ended-calls (c ∷ cs) = rw ((ended-call c).0, (ended-call c).1) (ap (λ x. 9 ∷ x) (ended-calls cs).0, (ended-calls cs).1)

-- the end marks every state
marked-state : (kept : ℕ) → has_ended (state_of kept ended) ≡ true
unfolding has_ended
marked-state kept = eq-eqb ended ended refl

marked : (state : List ℕ) → has_ended (state_ended state) ≡ true
unfolding state_ended
marked state = ⊎_elim (λ t. rw t t) (λ f. rw f (marked-state (kept_in state))) (either (has_ended state))

pub after-the-end :
    (kind : ℕ) (l : Lent) (calls : List Call) →
    (numbers_to calls (after_call (Call.End kind) l) ≡ replicate (length calls) 9) × (after_calls calls (after_call (Call.End kind) l) ≡ after_call (Call.End kind) l)
unfolding after_call
after-the-end kind l calls = ended-calls (after_call (Call.End kind) l) (marked l.state) calls
