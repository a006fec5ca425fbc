-- Each lies in its entry.
use Rattle.day.proofs.Contained.{names-inside}
use Rattle.day.proofs.contents.Contents.names.Goals as goal

pub invariant_of-result : goal.invariant_of-result
invariant_of-result c =
    let w = c.args.self in
    record { inside = names-inside w.file.now w.width w.n w.whole }
