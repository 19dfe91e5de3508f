-- An entry board and a premium board with the same spaces and pages (00; 02, M-100).
use Rattle.std.specs.Prelude.{◌≡◌}
use Rattle.lend.specs.Sizes.{entry, premium}
use Rattle.lend.specs.Sound.{Sound}
use Rattle.lend_models.specs.Embedding.{wide_slots, wide_live}
use Rattle.board.specs.declared.Board.{Board}
use Rattle.board.specs.Board.{tables}

-- the boards of the two models
abbrev pub Small : Type 0
Small = Board 8 32 256 8

abbrev pub Large : Type 0
Large = Board 16 64 1024 16

-- both boards are sound, and the premium board's spaces and pages are the entry board's, with all else as at the start; their caches
-- need not have the same entries
pub record Together (b : Small) (c : Large) : Type 0 where
  pub entry_sound : Sound entry (tables b)
  pub premium_sound : Sound premium (tables c)
  pub slots_same : (tables c).slots ≡ wide_slots entry premium (tables b).slots
  pub live_same : (tables c).live ≡ wide_live entry premium (tables b).live
