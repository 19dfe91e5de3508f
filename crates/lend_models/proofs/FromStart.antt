-- From their start boards two models agree on every list of calls within the smaller one's limits; so do Entry and Premium.
use mathlib.Core.Path.{◌≡◌, refl, sym, ap, ◌∙◌}
use mathlib.Core.List.{List, ◌++◌}
use Prim.Native.Nat.{ℕ, ◌≤◌}
use native.Mathlib.Omega.{arith}
use lib.Dec.{T, lit<}
use lib.ListN.{length}
use Rattle.lend.specs.Sizes.{Sizes, entry, premium}
use Rattle.lend.specs.Tables.{Tables, State}
use Rattle.lend.specs.Calls.{Call, step, steps}
use Rattle.lend_sound.proofs.Start.{start_sound}
use Rattle.lend_lending.proofs.Always.{start_state}
use Rattle.lend_models.specs.Embedding.{Fits}
use Rattle.lend_models.specs.Agreement.{in_limits, all_in_limits, takes_memory, any_memory, more_bytes, AllAgree, wide_state, NoneReplaced}
use Rattle.lend_models.proofs.Wide.{entry_fits}
use Rattle.lend_models.proofs.WideStart.{wide_start}
use Rattle.lend_models.proofs.SameCommand.{same_commands}
use Rattle.lend_models.proofs.SameCache.{same_run, same_reply_after}

module _ (z w : Sizes) (fits : Fits z w) (two : 2 ≤ z.spaces) (some_page : 1 ≤ z.pages) (one : 1 ≤ z.places) (memory rest : List ℕ)
    (cs : List Call) (l : T (all_in_limits z cs)) (more : T (any_memory cs) → length rest ≡ more_bytes z w) where
  -- the larger start state is the smaller one made wide
  start_wide : wide_state z w rest (start_state z memory) ≡ start_state w (memory ++ rest)
  start_wide = ap (λ (b : Tables). record { board = b; memory = memory ++ rest }) (wide_start z w fits two some_page)

  -- the same calls get the same numbers, counts, addresses and bytes
  agree_from_start : AllAgree z w rest (start_state z memory) (start_state w (memory ++ rest)) cs
  agree_from_start =
      let e = wide_start z w fits two some_page in
      same_commands z w fits some_page rest (start_state z memory) (start_state w (memory ++ rest)) (start_sound z two one)
      (start_sound w (omega (arith, fits.spaces_fit)) (omega (arith, fits.places_fit)))
      (record { slots_same = sym (ap (λ (b : Tables). b.slots) e); live_same = sym (ap (λ (b : Tables). b.live) e); memory_same = refl }) cs l more

  module _ (none : NoneReplaced z (start_state z memory) cs) where
    -- while no entry is replaced they come to the same board, cache included
    pub run_from_start : steps w (start_state w (memory ++ rest)) cs ≡ wide_state z w rest (steps z (start_state z memory) cs)
    run_from_start =
        ap (λ (x : State). steps w x cs) (sym start_wide)
        ∙ same_run z w fits some_page rest (start_state z memory) (start_sound z two one) cs l more none

    -- and until then hit is the same too
    pub reply_from_start : (c : Call) → T (in_limits z c) → (T (takes_memory c) → length rest ≡ more_bytes z w)
        → (step w (steps w (start_state w (memory ++ rest)) cs) c).reply ≡ (step z (steps z (start_state z memory) cs) c).reply
    reply_from_start c lc now =
        ap (λ (x : State). (step w (steps w x cs) c).reply) (sym start_wide)
        ∙ same_reply_after z w fits some_page rest (start_state z memory) (start_sound z two one) cs l more none c lc now

-- Entry and Premium agree on every list of calls within Entry's limits
pub entry_premium_agree : (memory rest : List ℕ) (cs : List Call) → T (all_in_limits entry cs) → (T (any_memory cs) → length rest ≡ more_bytes entry premium)
    → AllAgree entry premium rest (start_state entry memory) (start_state premium (memory ++ rest)) cs
entry_premium_agree = agree_from_start entry premium entry_fits (lit< tt) (lit< tt) (lit< tt)
