-- What the searches of a board find.
use Rattle.std.specs.Prelude.{ℕ, cond, List, ltb}
use Rattle.std.specs.declared.option.Option.{Option}
use Rattle.std.specs.declared.option.Option.TheVariants.{Some, None}
use Rattle.lend.specs.declared.Slot.{Slot}
use Rattle.lend.specs.declared.Place.{Place}
use Rattle.lend.specs.Sizes.{Sizes, slot_count}
use Rattle.lend.specs.Lists.{tabulate}
use Rattle.lend.specs.Slots.{slot_at}
use Rattle.lend.specs.Line.{frame_of}
use Rattle.lend.specs.Summary.{summary_of}
use Rattle.lend.specs.Cache.{place_at, place_for, cached}
use Rattle.lend_code.specs.Inner.{rights_of}
use Rattle.board.specs.declared.sound.Pages.{Pages}

-- the number where it is below the end, and none where it is not
abbrev pub if_below : ℕ → ℕ → Option ℕ
if_below end k = cond (ltb k end) (Some k) None

-- the place of the cache that names the page, where one does
abbrev pub place_found : List Place → ℕ → ℕ → Option Place
place_found c space page = cond (cached space page c) (Some (place_at c (place_for space page c))) None

-- what is found of all pages on the way through the test of soundness: each one's rights and frame, and the counts of all frames
abbrev pub pages_of : {pages slots : ℕ} → Sizes → List Slot → Pages pages slots
pages_of z slots = record {
  rights = rights_of z slots;
  frames = tabulate (slot_count z) (λ k. frame_of z (slot_at slots) k);
  counts = summary_of z (slot_at slots);
}
