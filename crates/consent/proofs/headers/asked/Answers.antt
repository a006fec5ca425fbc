-- Piece by piece.
use native.Mathlib.Omega.{arith}
use Rattle.laws.proofs.Parts.{part_length}
use Rattle.laws.specs.Part.{part}
use Rattle.consent.specs.Comparing.{long_date, asked_by}
use Rattle.consent.proofs.Asked.{pieces}
use Rattle.consent.proofs.headers.asked.Goals as goal

pub returns : goal.returns
unfolding asked_by
returns c =
    let r = c.args.rec.now in
    let p = c.requires in
    rw (c.put-4.ensures, c.put-3.ensures, c.put-2.ensures, c.put.ensures, c.long_date-date.ensures, c.part-4.ensures.result_value, c.part-3.ensures.result_value, c.part-2.ensures.result_value, c.part.ensures.result_value)
    (pieces (part 26 20 r) (part 46 3 r) (part 53 16 r) (long_date (part 19 6 r))
    (part_length 26 20 r (omega (arith, p))) (part_length 46 3 r (omega (arith, p))) (part_length 53 16 r (omega (arith, p)))
    (omega (arith, part_length 19 6 r (omega (arith, p)))))
