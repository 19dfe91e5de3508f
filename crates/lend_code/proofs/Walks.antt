-- What is asked of the pages on a line, by its first page and the rest; and of a line that starts past the table.
use mathlib.Core.Path.{◌≡◌, refl}
use mathlib.Core.Bool.{Bool, false, ◌||◌}
use mathlib.Core.List.{List}
use Prim.Native.Nat.{ℕ, zero, suc, ◌≤◌}
use lib.ListN.{length, get_or-eq_default}
use Rattle.lend.specs.declared.Link.TheVariants.{Nothing}
use Rattle.lend.specs.declared.Slot.{Slot}
use Rattle.lend.specs.Sizes.{Sizes}
use Rattle.lend.specs.Lists.{any}
use Rattle.lend.specs.Slots.{Table, slot_at}
use Rattle.lend.specs.Line.{line, parent, onward}

-- any over the line of a page, by one page and the rest
pub any_line : (z : Sizes) (f : Table) (t : ℕ → Bool) (n k : ℕ) → any t (line z f (suc n) k) ≡ (t k || any t (onward (parent z f k) (λ q. line z f n q)))
unfolding line
any_line z f t n k = refl

-- a line that starts past the table is that page alone
pub any_past : (z : Sizes) (b : List Slot) (t : ℕ → Bool) (n k : ℕ) → length b ≤ k → t k ≡ false → any t (line z (slot_at b) n k) ≡ false
unfolding line
any_past z b t zero k h e = refl
any_past z b t (suc n) k h e = rw (e, get_or-eq_default b (record { link = Nothing; rights = 0 }) {n = k} h)
