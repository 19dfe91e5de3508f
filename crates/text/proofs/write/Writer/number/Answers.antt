-- `number` meets its contract: a writer whose buffer and position were written so.
use Rattle.text.specs.Decimal.{decimal}
use Rattle.text.proofs as own
use own.Putting.{written}
use own.write.Writer.number.Goals as goal

pub returns : goal.returns
returns c = written _ (decimal c.args.n) c.put_number-self.ensures
