-- Whatever the two models' functions answer by their contracts, within Entry's limits they answer the same.
use Prim.Native.Nat.{ℕ}
use mathlib.Core.Path.{◌≡◌, ◌∙◌, refl, sym, ap, subst}
use mathlib.Core.Bool.{not}
use mathlib.Core.List.{List, [], ◌++◌}
use lib.Dec.{T, lit<, T_not}
use lib.ListN.{length}
use Rattle.std.specs.declared.result.Result.{Result}
use Rattle.lend.specs.declared.refusal.Refusal.{Refusal}
use Rattle.lend.specs.Sizes.{entry, premium}
use Rattle.lend.specs.Tables.{Tables, State, alone}
use Rattle.lend.specs.Sound.{Sound}
use Rattle.lend.specs.Refusals.{answer_of}
use Rattle.lend.specs.Calls.{Call, Translate, Load, Store, Outcome, step}
use Rattle.lend.specs.Ranges.{RangeCall, RangeOutcome, range_step}
use Rattle.lend_lending.proofs.Always.{step_sound}
use Rattle.lend_lending.proofs.RangeCalls.{range_sound}
use Rattle.lend_models.specs.Agreement.{in_limits, takes_memory, more_bytes, Agree}
use Rattle.lend_models.specs.Embedding.{wide_slots, wide_live}
use Rattle.lend_models.specs.RangeAgreement.{range_in_limits, RangeAgree}
use Rattle.lend_models.proofs.Wide.{entry_fits}
use Rattle.lend_models.proofs.SameCommand.{same_command}
use Rattle.lend_models.proofs.SameRange.{same_range}
use Rattle.board.specs.Board.{tables}
use Rattle.calls.specs.declared.progress.Progress.{Progress}
use Rattle.calls.specs.Answer.{outcome, emptied_of}
use Rattle.calls.specs.Progress.{range_outcome, range_state}
use Rattle.access.specs.declared.translate.Translation.{Translation}
use Rattle.access.specs.Answers.{beside, translated, byte_of, loaded, stored}
use Rattle.both_demands.specs.Together.{Small, Large, Together}

-- ── one call on both ─────────────────────────────────────────────────────
module _ (rest memory : List ℕ) (b : Small) (c : Large) (both : Together b c) (call : Call) (h : T (in_limits entry call))
    (more : T (takes_memory call) → length rest ≡ more_bytes entry premium) where
  -- the two steps agree
  agree : Agree entry premium rest (step entry (beside (tables b) memory) call) (step premium (beside (tables c) (memory ++ rest)) call)
  agree =
      same_command entry premium entry_fits (lit< tt) rest (beside (tables b) memory) (beside (tables c) (memory ++ rest)) both.entry_sound both.premium_sound
      (record { slots_same = both.slots_same; live_same = both.live_same; memory_same = refl }) call h more

  -- so outcomes that the contracts admit agree, and their boards are together again
  admitted : (o p : Outcome) → o ≡ step entry (beside (tables b) memory) call → p ≡ step premium (beside (tables c) (memory ++ rest)) call
      → (d : Small) (e : Large) → o.state.board ≡ tables d → p.state.board ≡ tables e
      → Agree entry premium rest o p × Together d e
  admitted o p is-small is-large d e is-d is-e = (
    both_agree,
    record {
      entry_sound = subst (Sound entry) is-d (rw is-small (step_sound entry (lit< tt) (beside (tables b) memory) both.entry_sound call));
      premium_sound =
          subst (Sound premium) is-e (rw is-large (step_sound premium (lit< tt) (beside (tables c) (memory ++ rest)) both.premium_sound call));
      slots_same =
          sym (ap (λ (t : Tables). t.slots) is-e)
          ∙ (both_agree.embeds_again.slots_same ∙ ap (λ (t : Tables). wide_slots entry premium t.slots) is-d);
      live_same =
          sym (ap (λ (t : Tables). t.live) is-e)
          ∙ (both_agree.embeds_again.live_same ∙ ap (λ (t : Tables). wide_live entry premium t.live) is-d);
    },
  )
    where
      both_agree : Agree entry premium rest o p
      both_agree = rw (is-small, is-large) agree

-- ── the functions of both models, by their contracts ─────────────────────
module _ (b : Small) (c : Large) (both : Together b c) where
  -- create, delete, unmap, flush, map and grant: the same number and the same count, on boards that are together again
  pub answers_same : (call : Call) → T (in_limits entry call) → T (not (takes_memory call))
      → (r s : Result ℕ Refusal) (d : Small) (e : Large)
      → outcome r (tables d) ≡ step entry (alone (tables b)) call → outcome s (tables e) ≡ step premium (alone (tables c)) call
      → (answer_of s ≡ answer_of r) × (emptied_of s ≡ emptied_of r) × Together d e
  answers_same call h no_memory r s d e is-r is-s =
      let a = admitted [] [] b c both call h (λ t. absurd (T_not (takes_memory call) no_memory t)) (outcome r (tables d)) (outcome s (tables e)) is-r is-s d e refl refl in
      (a.0.same_number, a.0.same_emptied, a.1)

  -- translate: the same number, the same address and the same links
  pub translations_same : (space address rights : ℕ) → T (in_limits entry (Translate space address rights))
      → (r s : Result Translation Refusal) (d : Small) (e : Large)
      → translated r (tables d) ≡ step entry (alone (tables b)) (Translate space address rights)
      → translated s (tables e) ≡ step premium (alone (tables c)) (Translate space address rights)
      → let x = (translated r (tables d)).reply in let y = (translated s (tables e)).reply in
      (y.number ≡ x.number) × (y.address ≡ x.address) × (y.links ≡ x.links) × Together d e
  translations_same space address rights h r s d e is-r is-s =
      let a = admitted [] [] b c both (Translate space address rights) h (λ t. absurd t) (translated r (tables d)) (translated s (tables e)) is-r is-s d e refl refl in
      (a.0.same_number, a.0.same_address, a.0.same_links, a.1)

  -- load, on memories whose first bytes are the same: the same number and the same byte
  pub loads_same : (memory rest : List ℕ) → length rest ≡ more_bytes entry premium → (space address : ℕ) → T (in_limits entry (Load space address))
      → (r s : Result ℕ Refusal) (d : Small) (e : Large)
      → loaded r (tables d) memory ≡ step entry (beside (tables b) memory) (Load space address)
      → loaded s (tables e) (memory ++ rest) ≡ step premium (beside (tables c) (memory ++ rest)) (Load space address)
      → (answer_of s ≡ answer_of r) × (byte_of s ≡ byte_of r) × Together d e
  loads_same memory rest long space address h r s d e is-r is-s =
      let a = admitted rest memory b c both (Load space address) h (λ t. long) (loaded r (tables d) memory) (loaded s (tables e) (memory ++ rest)) is-r is-s d e refl refl in
      (a.0.same_number, a.0.same_byte, a.1)

  -- store, which leaves the memories after and wide-after: the same number and the same first bytes, and no further byte is changed
  pub stores_same : (memory rest after wide-after : List ℕ) → length rest ≡ more_bytes entry premium → (space address byte : ℕ)
      → T (in_limits entry (Store space address byte)) → (r s : Result (Unit {0}) Refusal) (d : Small) (e : Large)
      → stored r (tables d) after ≡ step entry (beside (tables b) memory) (Store space address byte)
      → stored s (tables e) wide-after ≡ step premium (beside (tables c) (memory ++ rest)) (Store space address byte)
      → (answer_of s ≡ answer_of r) × (wide-after ≡ after ++ rest) × Together d e
  stores_same memory rest after wide-after long space address byte h r s d e is-r is-s =
      let a = admitted rest memory b c both (Store space address byte) h (λ t. long) (stored r (tables d) after) (stored s (tables e) wide-after) is-r is-s d e refl refl in
      (a.0.same_number, a.0.embeds_again.memory_same, a.1)

  -- unmap, flush, map and grant over ranges that name the same pages on both: the same number, done and count; the same offset where a page
  -- or the call is refused
  pub ranges_same : (call : RangeCall) → T (range_in_limits entry call) → (r s : Result Progress Refusal) (d : Small) (e : Large)
      → range_outcome entry r (tables d) ≡ range_step entry (alone (tables b)) call
      → range_outcome premium s (tables e) ≡ range_step premium (alone (tables c)) call
      → let x = range_outcome entry r (tables d) in let y = range_outcome premium s (tables e) in
      (y.number ≡ x.number) × (y.done ≡ x.done) × (y.emptied ≡ x.emptied) × ((x.number ≡ 0 → ⊥) → y.offset ≡ x.offset) × Together d e
  ranges_same call h r s d e is-r is-s =
      let a = ranges_agree in
      let small = ap (λ (x : State). x.board) (range_state entry r (tables d)) in
      let large = ap (λ (x : State). x.board) (range_state premium s (tables e)) in (
        a.same_number,
        a.same_done,
        a.same_emptied,
        a.same_offset,
        record {
          entry_sound = subst (Sound entry) (sym small) (subst (λ (o : RangeOutcome). Sound entry o.state.board) (sym is-r) (range_sound entry (lit< tt) (alone (tables b)) both.entry_sound call));
          premium_sound = subst (Sound premium) (sym large) (subst (λ (o : RangeOutcome). Sound premium o.state.board) (sym is-s) (range_sound premium (lit< tt) (alone (tables c)) both.premium_sound call));
          slots_same = ap (λ (t : Tables). t.slots) large ∙ (a.embeds_again.slots_same ∙ ap (λ (t : Tables). wide_slots entry premium t.slots) (sym small));
          live_same = ap (λ (t : Tables). t.live) large ∙ (a.embeds_again.live_same ∙ ap (λ (t : Tables). wide_live entry premium t.live) (sym small));
        },
      )
    where
      ranges_agree : RangeAgree entry premium [] (range_outcome entry r (tables d)) (range_outcome premium s (tables e))
      ranges_agree =
          rw (is-r, is-s)
          (same_range entry premium entry_fits (lit< tt) [] (alone (tables b)) (alone (tables c)) both.entry_sound both.premium_sound
          (record { slots_same = both.slots_same; live_same = both.live_same; memory_same = refl }) call h)
