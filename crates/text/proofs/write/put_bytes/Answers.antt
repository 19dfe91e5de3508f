-- `put_bytes` meets its contract: its bytes one after the other.
use Rattle.text.proofs as own
use lib.Seq.{take_all}
use Rattle.std.proofs.lemmas.List.{take_more}
use own.Putting.{wrote_none, wrote_more}
use own.write.put_bytes.Goals as goal

pub loop-byte-init : goal.loop-byte-init
loop-byte-init c = wrote_none

pub loop-byte-preserved : goal.loop-byte-preserved
loop-byte-preserved c = rw (take_more _ _ 0 c.loop-byte-test.true) (wrote_more c.loop-byte.invariant c.put_byte-next.ensures)

pub returns : goal.returns
returns c = rw (take_all _ _ c.loop-byte-test.false) at c.loop-byte.invariant
