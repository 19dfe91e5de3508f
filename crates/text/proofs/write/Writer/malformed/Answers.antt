-- `malformed` meets its contract: its writes in a row; the number of a malformed line is 16.
use mathlib.Core.Path.{◌≡◌, refl, ◌∙◌}
use mathlib.Core.List.{[], ◌∷◌, ◌++◌}
use Rattle.text.proofs as own
use Rattle.text.specs.Ascii.{bytes, newline}
use Rattle.text.specs.Decimal.{decimal, decimal_in}
use Rattle.text.specs.Write.{entry, malformed_line}
use own.Writing.{writes_more}
use own.write.Writer.malformed.Goals as goal

told : bytes " answer=16\n" ≡ entry (bytes " answer=") 16 ++ newline ∷ []
unfolding entry decimal decimal_in
told = refl

pub returns : goal.returns
unfolding malformed_line
returns c = rw (c.byte.ensures, c.entry-2.ensures, c.from.ensures, c.entry.ensures, told) (writes_more _ _ _ ∙ writes_more _ _ _)
