-- The lender wins: whatever calls were made, a page that was lent has no right that its lender does not have.
use mathlib.Core.Path.{◌≡◌}
use mathlib.Core.List.{List}
use Prim.Native.Nat.{ℕ, ◌≤◌}
use lib.Dec.{T}
use Rattle.lend.specs.declared.Link.TheVariants.{Page}
use Rattle.lend.specs.Sizes.{Sizes, key}
use Rattle.lend.specs.Rights.{within}
use Rattle.lend.specs.Slots.{Table, held}
use Rattle.lend.specs.Tables.{Tables, State, table_of}
use Rattle.lend.specs.Sound.{Sound}
use Rattle.lend.specs.Calls.{Call, steps}
use Rattle.lend_sound.proofs.Start.{start_sound}
use Rattle.lend_lending.proofs.Grant.{lent_by}
use Rattle.lend_lending.proofs.Always.{steps_sound, start_state}

-- page k has a lender, which is held and has every right of k
pub record Backed (z : Sizes) (f : Table) (k : ℕ) : Type 0 where
  pub lender_space : ℕ
  pub lender_page : ℕ
  pub is_lender : (f k).link ≡ Page lender_space lender_page
  pub lender_held : T (held (f (key z lender_space lender_page)))
  pub contained : T (within (f k).rights (f (key z lender_space lender_page)).rights)

-- on a sound board every held page outside space 0 is backed
sound_backed : (z : Sizes) (b : Tables) → Sound z b → (k : ℕ) → z.pages ≤ k → T (held (table_of b k)) → Backed z (table_of b) k
sound_backed z b sound k out h =
    let l = lent_by z b.live (table_of b) sound.pages k out h in
    let c = sound.pages.lent k l.0 l.1 l.2 in
    record { lender_space = l.0; lender_page = l.1; is_lender = l.2; lender_held = c.parent_held; contained = c.contained }

-- from any sound board, after any list of calls, every held page outside space 0 is backed
pub lender_wins : (z : Sizes) → 1 ≤ z.pages → (st : State) → Sound z st.board → (cs : List Call)
    → (k : ℕ) → z.pages ≤ k → T (held (table_of (steps z st cs).board k)) → Backed z (table_of (steps z st cs).board) k
lender_wins z some_page st sound cs = sound_backed z (steps z st cs).board (steps_sound z some_page st sound cs)

-- so it is from the start board, whatever memory stands beside it
pub lender_wins_from_start : (z : Sizes) → 2 ≤ z.spaces → 1 ≤ z.pages → 1 ≤ z.places → (memory : List ℕ) (cs : List Call)
    → (k : ℕ) → z.pages ≤ k → T (held (table_of (steps z (start_state z memory) cs).board k))
    → Backed z (table_of (steps z (start_state z memory) cs).board) k
lender_wins_from_start z two some_page one memory cs = lender_wins z some_page (start_state z memory) (start_sound z two one) cs
