-- What the loops and tests of the code before the design pass computed, beside what specs/Inner.antt still has. Only the laws of proofs/Earlier.antt
-- and proofs/EarlierWalks.antt speak of these, and of `frames_found` the contract of the board's `checked`.
use Rattle.std.specs.Prelude.{ℕ, ◌≡◌, Bool, true, not, ◌&&◌, cond, List, replicate, eqb}
use Rattle.lend.specs.declared.Link.{Link}
use Rattle.lend.specs.declared.Link.TheVariants.{Nothing, Frame, Page}
use Rattle.lend.specs.declared.Slot.{Slot}
use Rattle.lend.specs.declared.Count.{Count}
use Rattle.lend.specs.Sizes.{Sizes, slot_count, key, in_pool}
use Rattle.lend.specs.Rights.{all_rights}
use Rattle.lend.specs.Lists.{every, tabulate}
use Rattle.lend.specs.Slots.{slot_at}
use Rattle.lend.specs.Line.{frame_of}
use Rattle.lend.specs.Summary.{no_count, summary_of}
use Rattle.lend.specs.SoundTest.{pages_test}
use Rattle.lend_code.specs.Inner.{lent_fits, rights_of, quick_line}

-- the page that a link leads to, or the number of all pages where it leads to none
abbrev pub up_of : Sizes → Link → ℕ
up_of z Nothing = slot_count z
up_of z (Frame i) = slot_count z
up_of z (Page s p) = key z s p

-- the frame that a link leads to directly, 0 where it leads to none
abbrev pub frame_in : Link → ℕ
frame_in Nothing = 0
frame_in (Frame i) = i
frame_in (Page s p) = 0

-- how many links a page has that keeps this one: one, or none where it is empty
abbrev pub link_in : Link → ℕ
link_in Nothing = 0
link_in (Frame i) = 1
link_in (Page s p) = 1

-- link_test, where the parent's slot is at hand
abbrev pub link_fits : Sizes → List Bool → Slot → ℕ → ℕ → Link → Bool
link_fits z live up k r Nothing = not (in_pool z k) && eqb r 0
link_fits z live up k r (Frame i) = in_pool z k && eqb i k && eqb r all_rights
link_fits z live up k r (Page s p) = not (in_pool z k) && lent_fits z live up k r s p

-- what the walk along all lines finds: whether every line is of the right kind, and if so each page's frame
pub record Ended (z : Sizes) (b : List Slot) (rooted : Bool) (frames : List ℕ) : Type 0 where
  pub all_rooted : rooted ≡ every (slot_count z) (quick_line z (slot_at b))
  pub all_frames : rooted ≡ true → frames ≡ tabulate (slot_count z) (λ k. frame_of z (slot_at b) k)

-- what is found of the pages, where they are sound: the rights and frames of all, and the counts of all frames; where they are not, zeros
unfoldable pub rights_found : Sizes → List Slot → List Bool → List ℕ
rights_found z b live = cond (pages_test z live (slot_at b)) (rights_of z b) (replicate (slot_count z) 0)

unfoldable pub frames_found : Sizes → List Slot → List Bool → List ℕ
frames_found z b live = cond (pages_test z live (slot_at b)) (tabulate (slot_count z) (λ k. frame_of z (slot_at b) k)) (replicate (slot_count z) 0)

unfoldable pub counts_found : Sizes → List Slot → List Bool → List Count
counts_found z b live = cond (pages_test z live (slot_at b)) (summary_of z (slot_at b)) (replicate z.pages no_count)
