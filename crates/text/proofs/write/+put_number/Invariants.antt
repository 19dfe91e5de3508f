-- `put_number` meets its contract; the number falls with each call of itself.
use Rattle.text.proofs.write.+put_number.Given as goal

abbrev pub decreases-put_number : goal.decreases-put_number
decreases-put_number l = l.n
