-- `byte` meets its contract: a writer whose buffer and position were written so.
use mathlib.Core.List.{[], ◌∷◌}
use Rattle.text.proofs as own
use own.Putting.{written}
use own.write.Writer.byte.Goals as goal

pub returns : goal.returns
returns c = written _ (c.args.byte ∷ []) c.put_byte-self.ensures
