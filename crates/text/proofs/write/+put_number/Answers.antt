-- `put_number` meets its contract: what stands before the last digit, where anything does, and that digit.
use Rattle.text.proofs as own
use native.Mathlib.Omega.{arith}
use own.Putting.{wrote_digit, wrote_digits}
use own.write.+put_number.Goals.{then-n-ge10, else-n-ge10}
use own.write.+put_number.Goals as goal

pub returns : goal.returns
returns t c = elim c.if-n-ge10.branch [
  | then-n-ge10 w ↦ wrote_digits c.args.n (omega (arith, w.if-n-ge10.true)) (omega arith) w.put_number-next.ensures (rw (w.out-is, w.next-is) at c.put_byte.ensures)
  | else-n-ge10 w ↦ wrote_digit c.args.n (omega (arith, w.if-n-ge10.false)) (rw (w.out-is, w.next-is) at c.put_byte.ensures)
]
