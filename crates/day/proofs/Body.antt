-- One body: what is told of it, and how long it is where reading accepts it.
-- Assumes nothing.
use Prim.Native.Nat.{ℕ, ◌≤◌}
use mathlib.Core.Bool.{true, false}
use mathlib.Core.List.{List}
use mathlib.Core.Path.{◌≡◌, refl, ◌∙◌}
use mathlib.Core.Logic.{⊎_elim}
use native.Mathlib.Nat.{le_trans, mul-le-mul_right}
use native.Mathlib.Omega.{arith}
use lib.ListN.{length}
use Rattle.laws.specs.Part.{part, same}
use Rattle.laws.proofs.Bools.{either, clash}
use Rattle.laws.proofs.Parts.{same-equal, same_self}
use Rattle.numbers.specs.Numbers.{word_of}
use Rattle.kinds.specs.declared.of_files.Kind.{Kind}
use Rattle.std.specs.Prelude.{Option, Some, None}
use Rattle.kinds.specs.Kinds.{fixed_of, daily_of}
use Rattle.tables.proofs.Tiling.{size-least}
use Rattle.answers.specs.Answers.{accepted, refused, refused_at, refuses}
use Rattle.answers.proofs.Refusals.{number_of, refuses-zero, refuses-other, tested, then-first, then-second, then-zero}
use Rattle.reader.specs.Reading.{read_as, read_named}
use Rattle.reader.proofs.Exact.{accepted-meets}
use Rattle.reader.proofs.Accepted.{read-zero}
use Rattle.day.specs.Bodies.{name_told, read_daily, body_told}
use Rattle.day.specs.Meets.{Belongs}
use Rattle.day.specs.First.{BodySays, unknown, broken, other}

-- a body that is accepted under a number is one of the kind that the number names
record Known (kind : ℕ) (s : List ℕ) : Type 0 where
  k : Kind
  named : daily_of kind ≡ Some k
  good : (read_as k s).number ≡ 0

module _ (kind : ℕ) (s : List ℕ) where
  named-known : (n : Option Kind) → daily_of kind ≡ n → (read_named n s).number ≡ 0 → Known kind s
  named-known (Some k) e z = record { k = k; named = e; good = z }
  named-known None e z = absurd (omega arith)

  daily-known : (read_daily kind s).number ≡ 0 → Known kind s
  unfolding read_daily
  daily-known z = named-known (daily_of kind) refl z

  -- a kind of a day file is read as it is
  daily-named : (k : Kind) → daily_of kind ≡ Some k → read_daily kind s ≡ read_as k s
  unfolding read_daily
  daily-named k e = rw e

  -- a file that is accepted has two records, and each has 120 bytes at least
  pub good-long : (read_daily kind s).number ≡ 0 → 240 ≤ length s
  good-long z =
      let known = daily-known z in
      let k = known.k in
      let m = accepted-meets k s known.good in
      rw m.lengths.whole (le_trans (omega (arith, size-least k)) (mul-le-mul_right (fixed_of k).size m.lengths.fewest))

  -- number 0 is accepted
  read-accepted : (read_daily kind s).number ≡ 0 → read_daily kind s ≡ accepted
  read-accepted z = let known = daily-known z in daily-named known.k known.named ∙ read-zero known.k s known.good

module _ (name body : List ℕ) where
  -- a body is good exactly when it belongs to its name
  pub body-good : (body_told name body).number ≡ 0 → Belongs name body
  unfolding body_told name_told
  body-good e =
      let z = then-zero _ _ e in
      record {
        good = read-accepted (word_of name) body z.0;
        item4 = same-equal (part 19 8 body) name (tested (same (part 19 8 body) name) _ (λ q. omega arith) z.1);
      }

  pub good-body : Belongs name body → body_told name body ≡ accepted
  unfolding body_told name_told
  good-body b = then-second _ _ (number_of b.good) ∙ rw (b.item4, same_self name)

  -- what is told of one that is refused
  told-unknown : daily_of (word_of name) ≡ None → body_told name body ≡ refused 1
  unfolding body_told read_daily
  told-unknown e = rw e (then-first (refused 1) (name_told name body) (λ q. omega arith))

  module _ (k : Kind) (e : daily_of (word_of name) ≡ Some k) where
    told-broken : ((read_as k body).number ≡ 0 → ⊥) → body_told name body ≡ read_as k body
    unfolding body_told
    told-broken ne = rw (daily-named (word_of name) body k e) (then-first (read_as k body) (name_told name body) ne)

    told-name : (read_as k body).number ≡ 0 → body_told name body ≡ name_told name body
    unfolding body_told
    told-name z = rw (daily-named (word_of name) body k e) (then-second (read_as k body) (name_told name body) z)

    name-other : same (part 19 8 body) name ≡ false → name_told name body ≡ refused_at 5 0 4 0x30303030
    unfolding name_told
    name-other f = rw f

    name-same : same (part 19 8 body) name ≡ true → name_told name body ≡ accepted
    unfolding name_told
    name-same t = rw t

    says-known : ((body_told name body).number ≡ 0 → ⊥) → BodySays name body (body_told name body)
    says-known ne = ⊎_elim bad good (either (refuses (read_as k body)))
      where
        bad : refuses (read_as k body) ≡ true → BodySays name body (body_told name body)
        bad t = let r = refuses-other (read_as k body) t in rw (told-broken r) (broken k e r)

        good : refuses (read_as k body) ≡ false → BodySays name body (body_told name body)
        good f =
            let z = refuses-zero (read_as k body) f in
            ⊎_elim
            (λ t. absurd (ne (number_of (told-name z ∙ name-same t))))
            (λ n. rw (told-name z ∙ name-other n) (other k e (read-zero k body z) (λ q. clash (rw q (same_self name)) n)))
            (either (same (part 19 8 body) name))

  says-by : (n : Option Kind) → daily_of (word_of name) ≡ n → ((body_told name body).number ≡ 0 → ⊥) → BodySays name body (body_told name body)
  says-by None e ne = rw (told-unknown e) (unknown e)
  says-by (Some k) e ne = says-known k e ne

  pub body-says : ((body_told name body).number ≡ 0 → ⊥) → BodySays name body (body_told name body)
  body-says = says-by (daily_of (word_of name)) refl
