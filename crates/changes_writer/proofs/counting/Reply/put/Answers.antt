-- Header, records, trailer, one behind the other.
use mathlib.Core.Path.{◌∙◌}
use Rattle.changes_writer.proofs.Built.{file-stored}
use Rattle.changes_writer.proofs.counting.Reply.put.Goals as goal

pub returns : goal.returns
returns c =
    let r = c.args.self in
    let m = c.put_records-m.ensures in
    c.put-2.ensures ∙
    rw (c.trailer.ensures, m.room_after, c.put.ensures, c.header.ensures)
    (file-stored r.file.now r.answers.now r.answered c.args.room.now c.put_records-m.result m.value (rw m.value c.requires))
