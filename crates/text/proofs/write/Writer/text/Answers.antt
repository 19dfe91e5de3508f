-- `text` meets its contract: a writer whose buffer and position were written so.
use Rattle.text.proofs as own
use own.Putting.{written}
use own.write.Writer.text.Goals as goal

pub returns : goal.returns
returns c = written _ c.args.text.now c.put_bytes-self.ensures
