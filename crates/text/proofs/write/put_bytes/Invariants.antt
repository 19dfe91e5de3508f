-- `put_bytes` meets its contract: the bytes before the index are written.
use Rattle.text.proofs as own
use Rattle.text.specs.Write.{Wrote}
use lib.ListN.{take}
use own.write.put_bytes.Given as goal

abbrev pub invariant-loop-byte : goal.invariant-loop-byte
invariant-loop-byte l = Wrote l.initial.out l.at (take l.byte-index l.text) l.out l.next
