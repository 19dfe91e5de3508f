-- M-101 for the function as it is called: a hit reports the links that a miss would.
use Prim.Native.Nat.{ℕ}
use mathlib.Core.Path.{◌≡◌, refl, sym, ap, ◌∙◌}
use Rattle.std.specs.declared.result.Result.{Result}
use Rattle.std.specs.declared.result.Result.TheVariants.{Ok}
use Rattle.lend.specs.declared.refusal.Refusal.{Refusal}
use Rattle.lend.specs.Tables.{alone}
use Rattle.lend.specs.Calls.{Translate, Outcome, number, step}
use Rattle.lend_laws.proofs.Accepted.{step_number}
use Rattle.lend_lending.proofs.Insert.{hit_links_as_miss}
use Rattle.board.specs.declared.Board.{Board}
use Rattle.board.specs.Model.{sizes}
use Rattle.board.specs.Board.{tables}
use Rattle.access.specs.declared.translate.Translation.{Translation}
use Rattle.access.specs.Answers.{translated}

module _ {spaces pages slots places : ℕ} (space address rights : ℕ) where
  -- an answer that the contract of translate admits, and that says it was done, shows that the call was accepted
  was_accepted : (b c : Board spaces pages slots places) (r : Result Translation Refusal)
      → translated r (tables c) ≡ step (sizes spaces pages places) (alone (tables b)) (Translate space address rights)
      → (translated r (tables c)).reply.number ≡ 0 → number (sizes spaces pages places) (alone (tables b)) (Translate space address rights) ≡ 0
  was_accepted b c r is done =
      sym (step_number (sizes spaces pages places) (alone (tables b)) (Translate space address rights)) ∙ (ap (λ (o : Outcome). o.reply.number) (sym is) ∙ done)

  -- two boards with the same pages, whatever is in their caches: translations that are done report the same links
  pub hit_links_for_code : (b c d e : Board spaces pages slots places) → (tables b).slots ≡ (tables d).slots → (r s : Translation)
      → translated (Ok r) (tables c) ≡ step (sizes spaces pages places) (alone (tables b)) (Translate space address rights)
      → translated (Ok s) (tables e) ≡ step (sizes spaces pages places) (alone (tables d)) (Translate space address rights) → r.links ≡ s.links
  hit_links_for_code b c d e same r s is-r is-s =
      ap (λ (o : Outcome). o.reply.links) is-r
      ∙ (hit_links_as_miss (sizes spaces pages places) (alone (tables b)) (alone (tables d)) same space address rights (was_accepted b c (Ok r) is-r refl) (was_accepted d e (Ok s) is-s refl)
      ∙ ap (λ (o : Outcome). o.reply.links) (sym is-s))
