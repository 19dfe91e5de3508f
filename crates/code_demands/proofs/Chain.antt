-- What holds of lists of calls in the rules holds of boards in sequence: demand 3 for the code.
use mathlib.Core.Path.{◌≡◌, refl, sym, ap, ◌∙◌}
use mathlib.Core.List.{List}
use Prim.Native.Nat.{ℕ}
use lib.Dec.{T}
use Rattle.lend.specs.Tables.{State, alone}
use Rattle.lend.specs.Sound.{Sound}
use Rattle.lend.specs.Calls.{Call, Outcome, steps}
use Rattle.lend_demands.specs.Demand3.{all_withdraw, end_board}
use Rattle.lend_demands.proofs.Demand3.{demand_3, Within, same_calls_same_end}
use Rattle.board.specs.declared.Board.{Board}
use Rattle.board.specs.Model.{sizes}
use Rattle.board.specs.Board.{tables}
use Rattle.board.proofs.Boards.{same_board}
use Rattle.code_demands.specs.Chain.{Chain, done, called}

module _ {spaces pages slots places : ℕ} where
  -- the sequence ends where the rules' list of calls does
  pub chain_steps : {b e : Board spaces pages slots places} {cs : List Call} → Chain b cs e
      → steps (sizes spaces pages places) (alone (tables b)) cs ≡ alone (tables e)
  unfolding steps
  chain_steps done = refl
  chain_steps (called {cs = cs} c r is rest) = ap (λ (o : Outcome). steps (sizes spaces pages places) o.state cs) (sym is) ∙ chain_steps rest

  -- demand 3: boards in sequence, each tied to the next by the contract of unmap or flush, end where the first board and the calls say
  pub demand_3_for_code : {b e : Board spaces pages slots places} {cs : List Call} → Sound (sizes spaces pages places) (tables b) → T (all_withdraw cs)
      → Chain b cs e → tables e ≡ end_board (sizes spaces pages places) (tables b) cs
  demand_3_for_code {b = b} {cs = cs} sound w chain =
      ap (λ (x : State). x.board) (sym (chain_steps chain) ∙ demand_3 (sizes spaces pages places) b.shape.is_model.some_pages cs w (alone (tables b)) sound)

  -- two such sequences from one board with the same calls, in any order and any number of times each, end at the same board
  pub same_end_for_code : {b d e : Board spaces pages slots places} {cs ds : List Call} → Sound (sizes spaces pages places) (tables b)
      → T (all_withdraw cs) → T (all_withdraw ds) → Within cs ds → Within ds cs → Chain b cs d → Chain b ds e → d ≡ e
  same_end_for_code {b = b} {d = d} {e = e} {cs = cs} {ds = ds} sound w v h g x y =
      same_board d e
      (ap (λ (s : State). s.board)
      (sym (chain_steps x) ∙ (same_calls_same_end (sizes spaces pages places) b.shape.is_model.some_pages cs ds w v h g (alone (tables b)) sound ∙ chain_steps y)))
