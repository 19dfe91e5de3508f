-- Every call keeps a sound board sound, and memory as long as it was; so does every list of calls.
use mathlib.Core.Path.{◌≡◌, refl, ◌∙◌}
use mathlib.Core.List.{List, [], ◌∷◌}
use Prim.Native.Nat.{ℕ, ◌≤◌}
use native.Mathlib.Decide.{ℕ_discrete}
use lib.ListN.{length, length-set}
use Rattle.lend.specs.Sizes.{Sizes}
use Rattle.lend.specs.Tables.{State}
use Rattle.lend.specs.Sound.{Sound}
use Rattle.lend.specs.Start.{start_board}
use Rattle.lend.specs.Translate.{physical}
use Rattle.lend.specs.Calls.{Call, Create, Delete, Unmap, Flush, Map, Grant, Translate, Load, Store, number, board_after, memory_after, step, steps}
use Rattle.lend_sound.proofs.Start.{start_sound}
use Rattle.lend_laws.proofs.Accepted.{accepted, refused}
use Rattle.lend_laws.proofs.Keeps.{keeps_sound}
use Rattle.lend_lending.proofs.Map.{map_fine, map_sound}
use Rattle.lend_lending.proofs.Grant.{grant_fine, grant_sound}
use Rattle.lend_lending.proofs.Insert.{translate_fine, load_fine, store_fine, looked_sound}

-- ── the board ────────────────────────────────────────────────────────────
module _ (z : Sizes) (some_page : 1 ≤ z.pages) (st : State) (sound : Sound z st.board) where
  -- a refused call leaves the board, so only an accepted one can spoil it
  if_accepted : (c : Call) → (number z st c ≡ 0 → Sound z (board_after z st.board c)) → Sound z (step z st c).state.board
  if_accepted c h = go (ℕ_discrete (number z st c) 0)
    where
      go : Dec (number z st c ≡ 0) → Sound z (step z st c).state.board
      go (yes e) = rw (accepted z st c e) (h e)
      go (no n) = rw (refused z st c n) sound

  -- an accepted translate keeps a sound board sound
  translate_sound : (space address rights : ℕ) → number z st (Translate space address rights) ≡ 0
      → Sound z (board_after z st.board (Translate space address rights))
  unfolding board_after
  translate_sound space address rights e =
      let r = translate_fine z st space address rights e in
      looked_sound z st.board sound space address r.address_in r.is_held

  -- so does an accepted load
  load_sound : (space address : ℕ) → number z st (Load space address) ≡ 0 → Sound z (board_after z st.board (Load space address))
  unfolding board_after
  load_sound space address e =
      let r = (load_fine z st space address e).0 in
      looked_sound z st.board sound space address r.address_in r.is_held

  -- and an accepted store
  store_sound : (space address byte : ℕ) → number z st (Store space address byte) ≡ 0
      → Sound z (board_after z st.board (Store space address byte))
  unfolding board_after
  store_sound space address byte e =
      let r = (store_fine z st space address byte e).0 in
      looked_sound z st.board sound space address r.address_in r.is_held

-- every call, accepted or refused, leaves a sound board sound
pub step_sound : (z : Sizes) → 1 ≤ z.pages → (st : State) → Sound z st.board → (c : Call) → Sound z (step z st c).state.board
step_sound z some_page st sound (Create space) = keeps_sound z some_page st sound (Create space) tt
step_sound z some_page st sound (Delete space) = keeps_sound z some_page st sound (Delete space) tt
step_sound z some_page st sound (Unmap space page rights) = keeps_sound z some_page st sound (Unmap space page rights) tt
step_sound z some_page st sound (Flush space page rights) = keeps_sound z some_page st sound (Flush space page rights) tt
step_sound z some_page st sound (Map s p u v r) =
    if_accepted z some_page st sound (Map s p u v r)
    (λ e. map_sound z st.board sound s p u v r (map_fine z st s p u v r e).lendable)
step_sound z some_page st sound (Grant s p u v r) =
    if_accepted z some_page st sound (Grant s p u v r)
    (λ e. let g = grant_fine z st s p u v r e in grant_sound z st.board sound s p u v r g.lendable g.giver_out)
step_sound z some_page st sound (Translate space address rights) =
    if_accepted z some_page st sound (Translate space address rights) (translate_sound z some_page st sound space address rights)
step_sound z some_page st sound (Load space address) =
    if_accepted z some_page st sound (Load space address) (load_sound z some_page st sound space address)
step_sound z some_page st sound (Store space address byte) =
    if_accepted z some_page st sound (Store space address byte) (store_sound z some_page st sound space address byte)

-- and so does every list of calls
pub steps_sound : (z : Sizes) → 1 ≤ z.pages → (st : State) → Sound z st.board → (cs : List Call) → Sound z (steps z st cs).board
unfolding steps
steps_sound z some_page st sound [] = sound
steps_sound z some_page st sound (c ∷ cs) = steps_sound z some_page (step z st c).state (step_sound z some_page st sound c) cs

-- the start board, with some memory beside it
abbrev pub start_state : Sizes → List ℕ → State
start_state z memory = record { board = start_board z; memory = memory }

-- every board that calls reach from the start board is sound
pub reached_sound : (z : Sizes) → 2 ≤ z.spaces → 1 ≤ z.pages → 1 ≤ z.places → (memory : List ℕ) (cs : List Call)
    → Sound z (steps z (start_state z memory) cs).board
reached_sound z two some_page one memory cs = steps_sound z some_page (start_state z memory) (start_sound z two one) cs

-- ── the memory ───────────────────────────────────────────────────────────
memory_after_law : (z : Sizes) (st : State) (c : Call) → length (memory_after z st c) ≡ length st.memory
unfolding memory_after
memory_after_law z st (Create space) = refl
memory_after_law z st (Delete space) = refl
memory_after_law z st (Unmap space page rights) = refl
memory_after_law z st (Flush space page rights) = refl
memory_after_law z st (Map s p u v r) = refl
memory_after_law z st (Grant s p u v r) = refl
memory_after_law z st (Translate space address rights) = refl
memory_after_law z st (Load space address) = refl
memory_after_law z st (Store space address byte) = length-set st.memory (physical z st.board space address) byte

-- no call changes the length of memory
pub memory_long : (z : Sizes) (st : State) (c : Call) → length (step z st c).state.memory ≡ length st.memory
memory_long z st c = go (ℕ_discrete (number z st c) 0)
  where
    go : Dec (number z st c ≡ 0) → length (step z st c).state.memory ≡ length st.memory
    go (yes e) = rw (accepted z st c e) (memory_after_law z st c)
    go (no n) = rw (refused z st c n)

-- nor does a list of calls
steps_memory_long : (z : Sizes) (st : State) (cs : List Call) → length (steps z st cs).memory ≡ length st.memory
unfolding steps
steps_memory_long z st [] = refl
steps_memory_long z st (c ∷ cs) = steps_memory_long z (step z st c).state cs ∙ memory_long z st c
