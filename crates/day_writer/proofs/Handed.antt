-- Bodies that are shown one by one are what the writer is given.
-- Assumes nothing.
use Prim.Native.Nat.{ℕ, ◌-◌, ◌<◌}
use mathlib.Core.List.{List}
use mathlib.Core.Path.{◌≡◌, sym, ◌∙◌}
use native.Mathlib.Omega.{arith}
use Rattle.answers.specs.Lying.{From}
use Rattle.answers.proofs.OfDay.{day-number}
use Rattle.day.specs.Contents.{count_in, length_in, bodies_in}
use Rattle.day.specs.Bodies.{size_at}
use Rattle.day.specs.Reading.{shown_of}
use Rattle.day.proofs.Joined.{body_same}
use Rattle.day.proofs.Told.{read-contents}
use Rattle.day.proofs.Places.{body-there, body-shown}
use Rattle.day_writer.specs.Apart.{lengths_in, Handed}
use Rattle.day_writer.proofs.Trips.{name-again, length-again}

pub shown-body : (s : List ℕ) (k start size : ℕ) → (shown_of s k).lies ≡ From start size → Handed s k start size
shown-body s k start size e =
    let b = body-shown s k start size e in
    let c = read-contents s (day-number b.good) in
    let h : k - 1 < count_in s = omega (arith, b.least, b.most) in
    record {
      name = rw (b.from, b.long) b.inside.belongs.item4 ∙ sym (name-again s c (k - 1) h);
      long = b.long ∙ sym (length-again s c (k - 1) h);
      bytes =
          rw (b.from, b.long) (sym (body-there s (k - 1))) ∙
          sym (body_same (size_at (lengths_in s)) (length_in s) (count_in s) (bodies_in s) (length-again s c) (k - 1) h);
    }
