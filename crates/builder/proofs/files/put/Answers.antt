-- Header, data, trailer, each stored behind the other.
use Rattle.kinds.specs.Kinds.{fixed_of}
use Rattle.builder.proofs.Built.{count-whole, file-put}
use Rattle.builder.proofs.Sizes.{one_more, frame-fits}
use Rattle.builder.specs.Records.{given}
use lib.Seq.{length-take-le}
use mathlib.Core.Path.{sym}
use native.Mathlib.Omega.{arith}
use Rattle.builder.proofs.files.put.Goals as goal

pub overflow_mul-n : goal.overflow_mul-n
overflow_mul-n c = rw c.size_of-size.ensures (omega (arith, frame-fits c.args.kind c.args.n c.requires.n_le_limit))

pub slice_bounds-sums_of-end : goal.slice_bounds-sums_of-end
slice_bounds-sums_of-end c = rw c.size_of-size.ensures (omega (arith, c.put_data.auto.file, c.put_header.auto.file, c.requires.kind_in_bounds))

pub slice_bounds-sums_of-end-2 : goal.slice_bounds-sums_of-end-2
slice_bounds-sums_of-end-2 c = rw c.size_of-size.ensures (sym (length-take-le _ c.put_data.new.file (omega (arith, c.put_data.auto.file, c.put_header.auto.file, c.requires.kind_in_bounds))))

pub sums_of-sums-requires : goal.sums_of-sums-requires
sums_of-sums-requires c =
    let a = c.args in
    record {
      bound = rw c.size_of-size.ensures (omega (arith, count-whole a.kind a.n c.put_data.new.file (omega (arith, c.put_data.auto.file, c.put_header.auto.file, c.requires.kind_in_bounds)), c.requires.n_le_limit));
      file_bound = rw c.size_of-size.ensures (omega (arith, count-whole a.kind a.n c.put_data.new.file (omega (arith, c.put_data.auto.file, c.put_header.auto.file, c.requires.kind_in_bounds)), c.requires.n_le_limit));
    }

pub overflow_mul-n-2 : goal.overflow_mul-n-2
overflow_mul-n-2 c =
    let a = c.args in
    rw c.size_of-size.ensures (omega (arith, one_more a.n (fixed_of a.kind).size, frame-fits a.kind a.n c.requires.n_le_limit))

pub put_trailer-requires : goal.put_trailer-requires
put_trailer-requires c =
    let a = c.args in
    rw c.size_of-size.ensures (omega (arith, one_more a.n (fixed_of a.kind).size, c.put_data.auto.file, c.put_header.auto.file, c.requires.kind_in_bounds))

pub returns : goal.returns
returns c =
    let a = c.args in
    let size = c.size_of-size.ensures in
    file-put a.kind (given a.head) a.bodies.now a.file.now a.n c.requires.n_value c.requires.kind_in_bounds
    c.put_header.new.file c.put_data.new.file _ c.sums_of-sums.result
    c.put_header.ensures c.put_data.ensures (rw size at c.sums_of-sums.ensures) (rw size at c.put_trailer.ensures)
