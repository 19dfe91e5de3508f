-- The frame summary (02, M-106): for each frame, how many held pages outside space 0 end there, and how many of those have each right.
use Rattle.std.specs.Prelude.{ℕ, zero, suc, Bool, not, ◌&&◌, cond, List, get_or, set, replicate, eqb}
use Rattle.lend.specs.declared.Count.{Count}
use Rattle.lend.specs.Sizes.{Sizes, slot_count, in_pool}
use Rattle.lend.specs.Rights.{read_right, write_right, execute_right, within}
use Rattle.lend.specs.Lists.{count}
use Rattle.lend.specs.Slots.{Table, held}
use Rattle.lend.specs.Line.{frame_of}

-- page k is a held page outside space 0 that ends at frame i
abbrev pub ends_at : Sizes → Table → ℕ → ℕ → Bool
ends_at z f i k = not (in_pool z k) && held (f k) && eqb (frame_of z f k) i

-- how many pages end at frame i, and how many of those have the right r
abbrev pub endings : Sizes → Table → ℕ → ℕ
endings z f i = count (slot_count z) (ends_at z f i)

abbrev pub endings_with : Sizes → Table → ℕ → ℕ → ℕ
endings_with z f r i = count (slot_count z) (λ k. ends_at z f i k && within r (f k).rights)

unfoldable pub count_of : Sizes → Table → ℕ → Count
count_of z f i = record {
  held = endings z f i;
  read = endings_with z f read_right i;
  write = endings_with z f write_right i;
  execute = endings_with z f execute_right i;
}

-- ── all counts in one pass ───────────────────────────────────────────────
abbrev pub no_count : Count
no_count = record { held = 0; read = 0; write = 0; execute = 0 }

-- the count of frame i in a summary; past the last frame there is none
abbrev pub count_at : List Count → ℕ → Count
count_at s i = get_or s i no_count

abbrev pub more : Bool → ℕ → ℕ
more t n = cond t (suc n) n

-- a count with one page more, of the rights r
abbrev pub counted : ℕ → Count → Count
counted r c = record {
  held = suc c.held;
  read = more (within read_right r) c.read;
  write = more (within write_right r) c.write;
  execute = more (within execute_right r) c.execute;
}

-- the first n pages: each that is held outside space 0 is counted at its frame
unfoldable pub summary_to : Sizes → Table → ℕ → List Count
summary_to z f zero = replicate z.pages no_count
summary_to z f (suc k) =
    let s : List Count = summary_to z f k in
    cond (not (in_pool z k) && held (f k)) (set s (frame_of z f k) (counted (f k).rights (count_at s (frame_of z f k)))) s

-- the summary of a table; its count of frame i is count_of z f i (the theorem summary_counts)
abbrev pub summary_of : Sizes → Table → List Count
summary_of z f = summary_to z f (slot_count z)
