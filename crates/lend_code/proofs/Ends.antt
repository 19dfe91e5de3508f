-- What slots that fit say of a page, by its link.
use mathlib.Core.Path.{◌≡◌}
use mathlib.Core.Bool.{not}
use mathlib.Core.List.{List}
use Prim.Native.Nat.{ℕ, ◌<◌}
use lib.Dec.{T, ltb→lt}
use Rattle.lend.specs.declared.Link.TheVariants.{Frame, Page}
use Rattle.lend.specs.declared.Slot.{Slot}
use Rattle.lend.specs.Sizes.{Sizes, slot_count, key, in_pool}
use Rattle.lend.specs.Slots.{Table, slot_at, held}
use Rattle.lend.specs.SoundTest.{slot_test}
use Rattle.lend_basics.proofs.Bools.{and_l, and_r}
use Rattle.lend_code.specs.Inner.{Fitting}

-- of a page that another one lends
pub record LentBy (z : Sizes) (f : Table) (k s p : ℕ) : Type 0 where
  pub outside : T (not (in_pool z k))
  pub space_in : s < z.spaces
  pub page_in : p < z.pages
  pub parent_held : T (held (f (key z s p)))

module _ (z : Sizes) (b : List Slot) (fit : Fitting z b) where
  pub fit_page : (k s p : ℕ) → k < slot_count z → (slot_at b k).link ≡ Page s p → LentBy z (slot_at b) k s p
  unfolding slot_test
  fit_page k s p h e =
      let t = rw e at (fit.fits k h) in
      record {
        outside = search (and_l, and_r) depth 12;
        space_in = ltb→lt s z.spaces (search (and_l, and_r) depth 12);
        page_in = ltb→lt p z.pages (search (and_l, and_r) depth 12);
        parent_held = search (and_l, and_r) depth 12;
      }

  -- and of one that keeps a frame
  pub fit_frame : (k i : ℕ) → k < slot_count z → (slot_at b k).link ≡ Frame i → T (in_pool z k)
  unfolding slot_test
  fit_frame k i h e = let t = rw e at (fit.fits k h) in search (and_l, and_r) depth 12
