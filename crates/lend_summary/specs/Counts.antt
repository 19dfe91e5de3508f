-- The counts of one frame, changed without counting again: what pages lost, and one page more.
use Rattle.std.specs.Prelude.{ℕ, ◌-◌, ◌≤◌, ◌<◌, not, ◌&&◌, List, set, eqb}
use Rattle.lend.specs.declared.Slot.{Slot}
use Rattle.lend.specs.declared.Count.{Count}
use Rattle.lend.specs.Rights.{read_right, write_right, execute_right, within}
use Rattle.lend.specs.Lists.{count}
use Rattle.lend.specs.Slots.{slot_at}
use Rattle.lend.specs.Summary.{count_at, counted}

-- how many of n pages lost all their rights, and how many lost each of them
unfoldable pub lost_count : ℕ → (ℕ → ℕ) → (ℕ → ℕ) → Count
lost_count n before after = record {
  held = count n (λ k. not (eqb (before k) 0) && eqb (after k) 0);
  read = count n (λ k. within read_right (before k) && not (within read_right (after k)));
  write = count n (λ k. within write_right (before k) && not (within write_right (after k)));
  execute = count n (λ k. within execute_right (before k) && not (within execute_right (after k)));
}

-- what n pages lost from these slots to those
abbrev pub lost_of : ℕ → List Slot → List Slot → Count
lost_of n before after = lost_count n (λ k. (slot_at before k).rights) (λ k. (slot_at after k).rights)

-- a count without these pages
abbrev pub count_less : Count → Count → Count
count_less c l = record {
  held = c.held - l.held;
  read = c.read - l.read;
  write = c.write - l.write;
  execute = c.execute - l.execute;
}

-- the counts s of all frames, of which frame i lost l
abbrev pub less_at : List Count → ℕ → Count → List Count
less_at s i l = set s i (count_less (count_at s i) l)

-- the counts s of all frames, of which frame i got a page of the rights r more
abbrev pub more_at : List Count → ℕ → ℕ → List Count
more_at s i r = set s i (counted r (count_at s i))

-- the pages l are among those of c
pub record CountWithin (l c : Count) : Type 0 where
  pub held_within : l.held ≤ c.held
  pub read_within : l.read ≤ c.read
  pub write_within : l.write ≤ c.write
  pub execute_within : l.execute ≤ c.execute

-- every number of the count is below n
pub record CountBelow (n : ℕ) (c : Count) : Type 0 where
  pub held_below : c.held < n
  pub read_below : c.read < n
  pub write_below : c.write < n
  pub execute_below : c.execute < n
