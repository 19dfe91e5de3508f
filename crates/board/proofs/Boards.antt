-- A board is its tables: that its sizes are a model's is a fact, and says nothing more of it.
use Prim.Native.Nat.{ℕ}
use mathlib.Core.Path.{◌≡◌}
use Rattle.std.proofs.Math.Nat.{ℕ_set}
use Rattle.std.proofs.Math.Bridge.{le_prop}
use Rattle.board.specs.declared.Board.{Board}
use Rattle.board.specs.declared.shape.Shape.{Shape}
use Rattle.board.specs.Model.{IsModel}
use Rattle.board.specs.Board.{tables}

module _ {spaces pages slots places : ℕ} where
  one_model : (m n : IsModel spaces pages slots places) → m ≡ n
  one_model m n = λ i. record {
    slots_are = ℕ_set _ _ m.slots_are n.slots_are i;
    two_spaces = le_prop m.two_spaces n.two_spaces i;
    some_pages = le_prop m.some_pages n.some_pages i;
    some_places = le_prop m.some_places n.some_places i;
    few_spaces = le_prop m.few_spaces n.few_spaces i;
    few_pages = le_prop m.few_pages n.few_pages i;
    few_slots = le_prop m.few_slots n.few_slots i;
    few_places = le_prop m.few_places n.few_places i;
  }

  pub one_shape : (s t : Shape spaces pages slots places) → s ≡ t
  one_shape s t = λ i. record { is_model = one_model s.is_model t.is_model i }

  pub same_board : (b c : Board spaces pages slots places) → tables b ≡ tables c → b ≡ c
  same_board b c e = λ i. record {
    shape = one_shape b.shape c.shape i;
    slots = (e i).slots;
    live = (e i).live;
    cache = record { places = (e i).places; next = (e i).next };
    summary = (e i).summary;
  }
