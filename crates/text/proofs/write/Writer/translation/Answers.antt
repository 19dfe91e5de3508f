-- `translation` meets its contract: its writes in a row.
use Rattle.text.proofs as own
use mathlib.Core.Path.{refl}
use mathlib.Core.List.{append_assoc}
use Rattle.text.specs.Write.{translation_line}
use own.Digits.{flag_number}
use own.Writing.{writes_more}
use own.write.Writer.translation.Goals as goal

pub returns : goal.returns
unfolding translation_line
returns c = rw (c.byte.ensures, c.entry-5.ensures, c.entry-4.ensures, c.from.ensures, flag_number _, c.entry-3.ensures, c.entry-2.ensures, c.entry.ensures) (simp (writes_more, append_assoc) refl)
