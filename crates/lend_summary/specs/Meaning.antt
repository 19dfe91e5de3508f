-- What the counts of a sound board say, for the reader.
use Rattle.std.specs.Prelude.{ℕ, zero, suc, ◌+◌, ◌≤◌, ◌≡◌, Bool, not, ◌&&◌, List, T}
use Rattle.lend.specs.declared.Count.{Count}
use Rattle.lend.specs.Sizes.{Sizes, in_pool}
use Rattle.lend.specs.Slots.{Table, held}
use Rattle.lend.specs.Tables.{Tables, table_of}
use Rattle.lend.specs.Line.{frame_of}
use Rattle.lend.specs.Summary.{count_at}

-- g 0 to g (n - 1) together
unfoldable pub sum_to : ℕ → (ℕ → ℕ) → ℕ
sum_to zero g = 0
sum_to (suc n) g = g n + sum_to n g

-- the held counts of all frames together
abbrev pub total : Sizes → List Count → ℕ
total z s = sum_to z.pages (λ i. (count_at s i).held)

-- page k is held, and outside space 0
abbrev pub held_outside : Sizes → Table → ℕ → Bool
held_outside z f k = not (in_pool z k) && held (f k)

-- no held page outside space 0 ends at frame i
abbrev pub NoneEnds : Sizes → Tables → ℕ → Type 0
NoneEnds z b i = (k : ℕ) → z.pages ≤ k → T (held (table_of b k)) → frame_of z (table_of b) k ≡ i → ⊥

-- the count of frame i says so
pub record FreeExactly (z : Sizes) (b : Tables) (i : ℕ) : Type 0 where
  pub if_free : (count_at b.summary i).held ≡ 0 → NoneEnds z b i
  pub if_none : NoneEnds z b i → (count_at b.summary i).held ≡ 0

-- the pages with a right are among the pages
pub record PartOf (c : Count) : Type 0 where
  pub read_part : c.read ≤ c.held
  pub write_part : c.write ≤ c.held
  pub execute_part : c.execute ≤ c.held
