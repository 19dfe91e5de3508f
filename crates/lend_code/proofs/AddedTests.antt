-- What is counted by adding a test as a number: numbers that pass, and what two arrays of rights lost.
use mathlib.Core.Path.{◌≡◌, sym}
use mathlib.Core.Bool.{Bool, true, false, not, ◌&&◌}
use mathlib.Core.List.{List}
use Prim.Native.Nat.{ℕ, ◌+◌, ◌≤◌}
use native.Mathlib.Nat.{add-zero}
use native.Mathlib.Omega.{arith}
use lib.Dec.{eqb}
use lib.ListN.{get_or}
use mir.Val.{bool_byte}
use Rattle.lend.specs.Rights.{read_right, write_right, execute_right, within}
use Rattle.lend_basics.proofs.Loops.{Counted, counted_yes, counted_no}
use Rattle.lend_code.proofs.Summary.{Losing}

-- the number m is that of a test b
module _ {m : ℕ} (b : Bool) (is : m ≡ bool_byte b) where
  bit_small : m ≤ 1
  bit_small = go b is
    where
      go : (t : Bool) → m ≡ bool_byte t → m ≤ 1
      go true e = omega (arith, e)
      go false e = omega (arith, e)

  -- what counts k numbers and is added to it is at most one more than k
  pub sum_small : {n k : ℕ} → n ≤ k → n + m ≤ k + 1
  sum_small h = omega (arith, bit_small)

  -- one number more
  pub counted_by : (t : ℕ → Bool) (n k : ℕ) → Counted t n k → b ≡ t k → Counted t (n + m) (k + 1)
  counted_by t n k c e = go b is e
    where
      go : (u : Bool) → m ≡ bool_byte u → u ≡ t k → Counted t (n + m) (k + 1)
      go true i f = rw i (counted_yes t n k c (sym f))
      go false i f = rw (i, add-zero n) (counted_no t n k c (sym f))

-- one page more
pub losing_turn : (before after : List ℕ) (held read write execute k : ℕ) → Losing before after held read write execute k
    → {h r w x : Bool} {mh mr mw mx : ℕ} → mh ≡ bool_byte h → mr ≡ bool_byte r → mw ≡ bool_byte w → mx ≡ bool_byte x
    → h ≡ (not (eqb (get_or before k 0) 0) && eqb (get_or after k 0) 0)
    → r ≡ (within read_right (get_or before k 0) && not (within read_right (get_or after k 0)))
    → w ≡ (within write_right (get_or before k 0) && not (within write_right (get_or after k 0)))
    → x ≡ (within execute_right (get_or before k 0) && not (within execute_right (get_or after k 0)))
    → Losing before after (held + mh) (read + mr) (write + mw) (execute + mx) (k + 1)
losing_turn before after held read write execute k l bh br bw bx eh er ew ex = record {
  held_lost = counted_by _ bh _ held k l.held_lost eh;
  read_lost = counted_by _ br _ read k l.read_lost er;
  write_lost = counted_by _ bw _ write k l.write_lost ew;
  execute_lost = counted_by _ bx _ execute k l.execute_lost ex;
}
