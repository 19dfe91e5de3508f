-- `fields` meets its contract: what is left to read is what was to be read.
use Rattle.text.proofs as own
use own.Reading.{Reading}
use own.read.fields.Given as goal

abbrev pub invariant-loop-i : goal.invariant-loop-i
invariant-loop-i g l = Reading l.keys l.s l.values l.rest l.i
