-- `say` meets its contract, by what is said.
use Rattle.script.proofs as own
use Rattle.script.specs as spec
use spec.Script.{said_line}
use Rattle.text.proofs.Writing.{writes_none}
use own.say.Goals as goal

pub returns-in-Silent : goal.returns-in-Silent
unfolding said_line
returns-in-Silent c = rw c.in-Silent.is (writes_none _)

pub returns-in-Garbled : goal.returns-in-Garbled
unfolding said_line
returns-in-Garbled c = rw c.in-Garbled.is c.malformed.ensures

pub returns-in-Emptied : goal.returns-in-Emptied
unfolding said_line
returns-in-Emptied c = rw c.in-Emptied.is c.answer.ensures

pub returns-in-Translated : goal.returns-in-Translated
unfolding said_line
returns-in-Translated c = rw c.in-Translated.is c.translation.ensures
