-- The first refusal that holds, one case at a time.
use Rattle.std.proofs.Common.{◌≡◌, sym, ap, ◌∙◌, ℕ, ◌+◌, ◌<◌, Bool, true, false, cond, List, length, slice_index_or}
use Rattle.std.specs.Prelude.{drop}
use Rattle.std.proofs.lemmas.List.{drop_more}
use Rattle.lend.specs.declared.refusal.Refusal.{Refusal}
use Rattle.lend.specs.Refusals.{number_of, first_of}

module _ (cs : List (Bool × Refusal)) (i : ℕ) (d : Bool × Refusal) (h : i < length cs) where
  -- the number of the cases from the i-th on, by that one and the rest
  step : first_of (drop i cs) ≡ cond (slice_index_or cs i d).0 (number_of (slice_index_or cs i d).1) (first_of (drop (i + 1) cs))
  step = ap first_of (drop_more cs i d h)

  pub first_holds : (slice_index_or cs i d).0 ≡ true → number_of (slice_index_or cs i d).1 ≡ first_of (drop i cs)
  first_holds e = sym (step ∙ ap (λ (t : Bool). cond t (number_of (slice_index_or cs i d).1) (first_of (drop (i + 1) cs))) e)

  pub first_passed : (slice_index_or cs i d).0 ≡ false → first_of (drop (i + 1) cs) ≡ first_of (drop i cs)
  first_passed e = sym (step ∙ ap (λ (t : Bool). cond t (number_of (slice_index_or cs i d).1) (first_of (drop (i + 1) cs))) e)
