-- The contracts of the reader and the writer admit one result: their views lose nothing.
use Prim.Native.Nat.{ℕ}
use mathlib.Core.Path.{◌≡◌, refl, sym, ap, ◌∙◌}
use mathlib.Core.Bool.{cond}
use mathlib.Core.List.{List}
use lib.Dec.{eqb}
use Rattle.std.specs.declared.option.Option.{Option}
use Rattle.std.specs.declared.option.Option.TheVariants.{Some, None}
use Rattle.std.specs.declared.result.Result.{Result}
use Rattle.std.specs.declared.result.Result.TheVariants.{Ok, Err}
use Rattle.lend.specs.declared.refusal.Refusal.{Refusal}
use Rattle.lend.specs.Refusals.{refusal_of, refusal_of_number, refusal_not_done}
use Rattle.lend.specs.Sizes.{Sizes}
use Rattle.listing.specs.Read.{Answer}
use Rattle.listing.specs.Write.{Written}
use Rattle.board.specs.declared.Board.{Board}
use Rattle.board.specs.declared.shape.Shape.{Shape}
use Rattle.board.specs.Board.{tables, board_of}
use Rattle.board.proofs.Boards.{same_board}
use Rattle.board_listing.specs.declared.read.Read.{Read}
use Rattle.board_listing.specs.Answer.{answer, number_told, answered, filled}

abbrev pub written_of : Written → Result ℕ Refusal
written_of w = cond (eqb w.number 0) (Ok w.count) (Err (refusal_of w.number))

pub written_of_filled : (r : Result ℕ Refusal) (out : List ℕ) → written_of (filled r out) ≡ r
written_of_filled (Ok n) out = refl
written_of_filled (Err r) out = rw (refusal_not_done r) (ap Err (refusal_of_number r))

pub one_written : (r s : Result ℕ Refusal) {out out' : List ℕ} → filled r out ≡ filled s out' → (r ≡ s) × (out ≡ out')
one_written r s {out = out} {out' = out'} e =
    (sym (written_of_filled r out) ∙ (ap written_of e ∙ written_of_filled s out'), ap (λ (w : Written). w.held) e)

module _ {spaces pages slots places : ℕ} (shape : Shape spaces pages slots places) (z : Sizes) where
  abbrev pub read_of : Answer → Result (Board spaces pages slots places) Refusal
  read_of a = cond (eqb a.number 0) (Ok (board_of shape a.board)) (Err (refusal_of a.number))

  pub read_of_answer : (r : Result (Board spaces pages slots places) Refusal) → read_of (answer z r) ≡ r
  read_of_answer (Ok b) = ap Ok (same_board (board_of shape (tables b)) b refl)
  read_of_answer (Err r) = rw (refusal_not_done r) (ap Err (refusal_of_number r))

  pub one_read : (r s : Result (Board spaces pages slots places) Refusal) → answer z r ≡ answer z s → r ≡ s
  one_read r s e = sym (read_of_answer r) ∙ (ap read_of e ∙ read_of_answer s)

-- what refused by its number, where there is one
abbrev pub refused_of : ℕ → Option Refusal
refused_of n = cond (eqb n 0) None (Some (refusal_of n))

refused_back : (o : Option Refusal) → refused_of (number_told o) ≡ o
refused_back None = refl
refused_back (Some r) = rw (refusal_not_done r) (ap Some (refusal_of_number r))

-- and the board that came back
pub one_answered : {spaces pages slots places : ℕ} (r s : Read spaces pages slots places) → answered r ≡ answered s → r ≡ s
one_answered r s e =
    let refused : r.refused ≡ s.refused = sym (refused_back r.refused) ∙ (ap (λ (a : Answer). refused_of a.number) e ∙ refused_back s.refused) in
    let board : r.board ≡ s.board = same_board r.board s.board (ap (λ (a : Answer). a.board) e) in
    λ i. record { refused = refused i; board = board i }
