-- Bytes that no page has room for are written past an empty one.
use Rattle.streams.proofs.Paging.{written_past}
use Rattle.streams.proofs.Pages.turn.Goals as goal

pub returns-then-self-bytes-clause-appended : goal.returns-then-self-bytes-clause-appended
returns-then-self-bytes-clause-appended g c =
    let f = c.in_ok-flush.ensures in
    written_past c.write.result _ _ _ _ c.flush.new.self.room.now c.args.bytes.now f.written f.empty c.write.ensures
