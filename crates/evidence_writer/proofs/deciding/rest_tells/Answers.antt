-- The keys, then the frames of the units where they begin.
use Rattle.std.specs.Prelude.{ℕ, Err, ◌+◌}
use borrow.Author.Rules.{rules}
use lib.ListN.{get_or}
use mathlib.Core.Path.{◌≡◌, ◌∙◌}
use native.Mathlib.Nat.{add-zero}
use native.Mathlib.Omega.{arith}
use Rattle.answers.proofs.Tellings.{first, next}
use Rattle.evidence_units.proofs.Framed.{frames-same}
use Rattle.evidence_builder.specs.Units.{place_of, said_by}
use Rattle.evidence_writer.specs.Writing.{signed_told}
use Rattle.evidence_writer.proofs.Listed.{keys-inside, keys-by}
use Rattle.evidence_writer.proofs.deciding.rest_tells.Goals as goal

pub invariant_of-keys_tell : goal.invariant_of-keys_tell
invariant_of-keys_tell c = record { inside = keys-inside _ _ _ c.requires.by_index (λ i l. omega (arith, c.requires.by_index_2 i l)) }

pub returns-in_err-keys_tell : goal.returns-in_err-keys_tell
returns-in_err-keys_tell c =
    let e : c.from_residual.result ≡ Err c.in_err-keys_tell.field-0.0 = search rules in
    rw e (first _ _ _ (c.in_err-keys_tell.ensures ∙ keys-by _ _ _ c.requires.by_index c.requires.n_value))

pub frames_tell-requires : goal.frames_tell-requires
unfolding said_by
frames_tell-requires c =
    record {
      n_in_bounds = c.requires.n_in_bounds;
      by_index = λ i l. rw (add-zero, c.requires.by_index i l) (c.requires.by_index_2 i l);
    }

pub returns : goal.returns
unfolding signed_told
returns c =
    let a = c.args in
    let frames = c.frames_tell.ensures ∙ frames-same a.x.now (λ (i : ℕ). get_or a.places.now i 0 + 0) a.n (place_of a.x.now) (λ i l. add-zero _ ∙ c.requires.by_index i l) in
    next _ _ _ (c.in_ok-keys_tell.ensures ∙ keys-by _ _ _ c.requires.by_index c.requires.n_value) (rw (← c.requires.n_value) frames)
