-- The trailer, then the counts, then the keys, then the frames.
use Rattle.std.specs.Prelude.{ℕ, Err, ◌+◌}
use borrow.Author.Rules.{rules}
use mathlib.Core.Path.{◌≡◌, ◌∙◌}
use lib.ListN.{get_or}
use Rattle.answers.proofs.Tellings.{first, next}
use Rattle.evidence_units.proofs.Framed.{frames-same}
use Rattle.evidence.specs.Judged.{unit_byte}
use Rattle.evidence.specs.Reading.{signed_told}
use Rattle.evidence.proofs.Within.{keys-inside, keys-by}
use Rattle.evidence.proofs.reading.rest_tells.Goals as goal

pub returns-in_err-trailer_tells : goal.returns-in_err-trailer_tells
returns-in_err-trailer_tells c =
    let e : c.from_residual.result ≡ Err c.in_err-trailer_tells.field-0.0 = search rules in
    rw e (first _ _ _ c.in_err-trailer_tells.ensures)

pub returns-in_err-counts_tell : goal.returns-in_err-counts_tell
returns-in_err-counts_tell c =
    let e : c.from_residual-in_err-counts_tell.result ≡ Err c.in_err-counts_tell.field-0.0 = search rules in
    rw e (next _ _ _ c.in_ok-trailer_tells.ensures (first _ _ _ c.in_err-counts_tell.ensures))

pub invariant_of-keys_tell : goal.invariant_of-keys_tell
invariant_of-keys_tell c = record { inside = keys-inside _ _ _ c.requires.by_index c.requires.by_index_2 }

pub returns-in_err-keys_tell : goal.returns-in_err-keys_tell
returns-in_err-keys_tell c =
    let e : c.from_residual-in_err-keys_tell.result ≡ Err c.in_err-keys_tell.field-0.0 = search rules in
    let told = c.in_err-keys_tell.ensures ∙ keys-by _ _ _ c.requires.by_index c.requires.n_value in
    rw e (next _ _ _ c.in_ok-trailer_tells.ensures (next _ _ _ c.in_ok-counts_tell.ensures (first _ _ _ told)))

pub frames_tell-requires : goal.frames_tell-requires
unfolding unit_byte
frames_tell-requires c =
    record {
      n_in_bounds = c.requires.n_in_bounds;
      by_index = λ i l. rw (c.requires.by_index i l) (c.requires.by_index_3 i l);
    }

pub returns : goal.returns
unfolding signed_told unit_byte
returns c =
    let a = c.args in
    let told = c.in_ok-keys_tell.ensures ∙ keys-by _ _ _ c.requires.by_index c.requires.n_value in
    let frames = c.frames_tell.ensures ∙ frames-same a.file.now (λ (i : ℕ). get_or a.places.now i 0 + 45) a.n (unit_byte a.file.now) (λ i l. rw (c.requires.by_index i l)) in
    next _ _ _ c.in_ok-trailer_tells.ensures (next _ _ _ c.in_ok-counts_tell.ensures (next _ _ _ told (rw (← c.requires.n_value) frames)))
