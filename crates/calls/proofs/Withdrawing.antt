-- What a withdrawal makes of a board, step by step, is what the rules say: over plain variables, each with what its step promises.
use mathlib.Core.Path.{◌≡◌}
use mathlib.Core.Bool.{Bool}
use mathlib.Core.List.{List}
use Prim.Native.Nat.{ℕ}
use Rattle.lend.specs.declared.Count.{Count}
use Rattle.lend.specs.Sizes.{Sizes}
use Rattle.lend.specs.Tables.{Tables}
use Rattle.lend.specs.Cache.{dropped_where}
use Rattle.lend_code.specs.Inner.{rights_of, rights_left, losses_of, lost_in, cut_slots, cut_lost, cut_of}
use Rattle.board.specs.Board.{with_slots, with_places}

module _ (z : Sizes) (old cut : Tables) (set : List Bool) (d : ℕ) (before after : List ℕ) (hb : before ≡ rights_of z old.slots)
    (ha : after ≡ rights_left z before set d) (hc : cut ≡ with_slots old (cut_slots z old.slots set d)) where
  pub withdrawn_board : (new : Tables) → new ≡ with_places cut (dropped_where z (lost_in before after) cut.places) → new ≡ cut_of z old set d
  unfolding cut_of
  withdrawn_board new hn = rw (hn, ha, hb, hc)

  pub withdrawn_lost : (lost : Count) → lost ≡ losses_of z before after → lost ≡ cut_lost z old.slots set d
  unfolding cut_lost
  withdrawn_lost lost hl = rw (hl, ha, hb)
