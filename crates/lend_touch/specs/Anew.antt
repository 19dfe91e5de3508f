-- Which calls lend a page anew, and what stays behind a page that nobody lent anew.
use Rattle.std.specs.Prelude.{ℕ, ◌≡◌, Bool, true, false, not, ◌&&◌, List, [], ◌∷◌, T, eqb}
use Rattle.lend.specs.Sizes.{Sizes, key}
use Rattle.lend.specs.Slots.{Table, held}
use Rattle.lend.specs.Tables.{State}
use Rattle.lend.specs.Line.{line_of, frame_of}
use Rattle.lend.specs.Calls.{Call, Create, Delete, Unmap, Flush, Map, Grant, Translate, Load, Store, number, step}

-- page k is the taker of the call: the page that a map or grant names to be linked
abbrev pub is_taker : Sizes → Call → ℕ → Bool
is_taker z (Create space) k = false
is_taker z (Delete space) k = false
is_taker z (Unmap space page rights) k = false
is_taker z (Flush space page rights) k = false
is_taker z (Map from page to at rights) k = eqb k (key z to at)
is_taker z (Grant from page to at rights) k = eqb k (key z to at)
is_taker z (Translate space address rights) k = false
is_taker z (Load space address) k = false
is_taker z (Store space address byte) k = false

-- the call lends page k anew: it is its taker, and the call is accepted
abbrev pub lends_anew : Sizes → State → Call → ℕ → Bool
lends_anew z st c k = is_taker z c k && eqb (number z st c) 0

-- no call of the list lends page k anew, each judged on the state in which it is made
unfoldable pub never_anew : Sizes → State → List Call → ℕ → Bool
never_anew z st [] k = true
never_anew z st (c ∷ cs) k = not (lends_anew z st c k) && never_anew z (step z st c).state cs k

-- The table f became g: page k was held in f too, and in g it has the link and the line that it had, and the same frame behind it.
pub record Kept (z : Sizes) (f g : Table) (k : ℕ) : Type 0 where
  pub was_held : T (held (f k))
  pub same_link : (g k).link ≡ (f k).link
  pub same_line : line_of z g k ≡ line_of z f k
  pub same_frame : frame_of z g k ≡ frame_of z f k
