-- Accepted and refused: what a step is in each case, and what an accepted call has shown.
use mathlib.Core.Path.{◌≡◌, refl, sym, ◌∙◌}
use mathlib.Core.Bool.{Bool, true, false, not, ◌&&◌}
use mathlib.Core.List.{List, [], ◌∷◌}
use Prim.Native.Nat.{ℕ, ◌≤◌, ◌<◌}
use native.Mathlib.Decide.{ℕ_discrete}
use native.Mathlib.Omega.{arith}
use lib.Dec.{T, eqb, ltb, nleb→lt, nltb→le}
use borrow.Author.Tests.{eq-eqb, ne_eqb}
use Rattle.lend.specs.Sizes.{Sizes}
use Rattle.lend.specs.Rights.{all_rights}
use Rattle.lend.specs.Tables.{Tables, State, alive}
use Rattle.lend.specs.SoundTest.{sound_test}
use Rattle.lend.specs.Numbers.{Case, ◌when◌, first_number}
use Rattle.lend.specs.Calls.{Call, Create, Delete, Unmap, Flush, Map, Grant, Translate, Load, Store, cases, number, report, accept, refuse, step}
use Rattle.lend_basics.proofs.Bools.{not_not, not_or, and_l, and_r, positive}

-- ── the step ─────────────────────────────────────────────────────────────
module _ (z : Sizes) (st : State) (c : Call) where
  -- a call with the number 0 is carried out
  pub accepted : number z st c ≡ 0 → step z st c ≡ accept z st c
  unfolding step
  accepted e = rw (eq-eqb (number z st c) 0 e)

  -- and a call with another number changes nothing and gives that number
  pub refused : (number z st c ≡ 0 → ⊥) → step z st c ≡ refuse st (number z st c)
  unfolding step
  refused h = rw (ne_eqb (number z st c) 0 h)

-- an accepted call reports 0
pub report_number : (z : Sizes) (st : State) (c : Call) → (report z st c).number ≡ 0
unfolding report
report_number z st (Create s) = refl
report_number z st (Delete s) = refl
report_number z st (Unmap s p d) = refl
report_number z st (Flush s p d) = refl
report_number z st (Map s p u v r) = refl
report_number z st (Grant s p u v r) = refl
report_number z st (Translate s a d) = refl
report_number z st (Load s a) = refl
report_number z st (Store s a x) = refl

-- so a step tells the number that its call gives
pub step_number : (z : Sizes) (st : State) (c : Call) → (step z st c).reply.number ≡ number z st c
step_number z st c = go (ℕ_discrete (number z st c) 0)
  where
    go : Dec (number z st c ≡ 0) → (step z st c).reply.number ≡ number z st c
    go (yes e) = rw (accepted z st c e) (report_number z st c ∙ sym e)
    go (no h) = rw (refused z st c h)

-- ── no case holds ────────────────────────────────────────────────────────
-- no case of the list has the number 0
abbrev pub numbered : List Case → Bool
numbered [] = true
numbered (c ∷ cs) = not (eqb c.number 0) && numbered cs

-- every case of the list is false
abbrev pub NoneHolds : List Case → Type 0
NoneHolds [] = Unit {0}
NoneHolds (c ∷ cs) = T (not c.holds) × NoneHolds cs

-- where the first number is 0, every case is false
pub none_holds : (cs : List Case) → T (numbered cs) → first_number cs ≡ 0 → NoneHolds cs
none_holds [] n e = tt
none_holds (c ∷ cs) n e = go (none_holds cs (and_r (not (eqb c.number 0)) (numbered cs) n)) c.holds refl
  where
    go : (first_number cs ≡ 0 → NoneHolds cs) → (b : Bool) → c.holds ≡ b → T (not c.holds) × NoneHolds cs
    go rest true q =
        let p = positive c.number (and_l (not (eqb c.number 0)) (numbered cs) n) in
        let e' : c.number ≡ 0 = rw q at e in
        absurd (omega arith)
    go rest false q = (rw q tt, rest (rw q at e))

-- ── what an accepted call has shown ──────────────────────────────────────
-- of the space of a create: there is one of that number, and it is not live
pub record CreateFine (z : Sizes) (b : Tables) (s : ℕ) : Type 0 where
  pub space_in : s < z.spaces
  pub not_alive : T (not (alive b.live s))

-- of the space of a delete: it is live, and neither 0 nor 1
pub record DeleteFine (z : Sizes) (b : Tables) (s : ℕ) : Type 0 where
  pub space_in : s < z.spaces
  pub is_alive : T (alive b.live s)
  pub others : 2 ≤ s

-- of the page and the rights of an unmap or a flush
pub record PageFine (z : Sizes) (b : Tables) (s p d : ℕ) : Type 0 where
  pub space_in : s < z.spaces
  pub is_alive : T (alive b.live s)
  pub page_in : p < z.pages
  pub some_right : 1 ≤ d
  pub known_rights : d < 8

module _ (z : Sizes) (st : State) where
  -- an accepted call stands on a board that the test finds sound
  pub tested : (c : Call) → number z st c ≡ 0 → T (sound_test z st.board)
  unfolding number
  tested c e = go (sound_test z st.board) refl
    where
      go : (b : Bool) → sound_test z st.board ≡ b → T b
      go true q = tt
      go false q = let x : ◌≡◌ {A = ℕ} 1 0 = rw q at e in omega arith

  -- and none of its cases holds
  pub no_case : (c : Call) → T (numbered (cases z st c)) → number z st c ≡ 0 → NoneHolds (cases z st c)
  unfolding number
  no_case c n e = (none_holds ((1 when not (sound_test z st.board)) ∷ cases z st c) n e).1

  -- what an accepted create has shown
  pub create_fine : (s : ℕ) → number z st (Create s) ≡ 0 → CreateFine z st.board s
  unfolding cases
  create_fine s e =
      let n = no_case (Create s) tt e in
      record { space_in = nleb→lt z.spaces s n.0; not_alive = n.1.0 }

  -- an accepted delete
  pub delete_fine : (s : ℕ) → number z st (Delete s) ≡ 0 → DeleteFine z st.board s
  unfolding cases
  delete_fine s e =
      let n = no_case (Delete s) tt e in
      record {
        space_in = nleb→lt z.spaces s n.0;
        is_alive = not_not (alive st.board.live s) n.1.0;
        others = nleb→lt s 1 n.1.1.0;
      }

  -- an accepted unmap
  pub unmap_fine : (s p d : ℕ) → number z st (Unmap s p d) ≡ 0 → PageFine z st.board s p d
  unfolding cases
  unmap_fine s p d e =
      let n = no_case (Unmap s p d) tt e in
      let o = not_or (eqb d 0) (ltb all_rights d) n.1.1.1.0 in
      let l : d ≤ 7 = nltb→le 7 d o.1 in
      record {
        space_in = nleb→lt z.spaces s n.0;
        is_alive = not_not (alive st.board.live s) n.1.0;
        page_in = nleb→lt z.pages p n.1.1.0;
        some_right = positive d o.0;
        known_rights = omega arith;
      }

  -- a flush has shown besides that its page is not in space 0
  pub flush_fine : (s p d : ℕ) → number z st (Flush s p d) ≡ 0 → PageFine z st.board s p d × (1 ≤ s)
  unfolding cases
  flush_fine s p d e =
      let n = no_case (Flush s p d) tt e in
      let o = not_or (eqb d 0) (ltb all_rights d) n.1.1.1.0 in
      let l : d ≤ 7 = nltb→le 7 d o.1 in (
        record {
          space_in = nleb→lt z.spaces s n.0;
          is_alive = not_not (alive st.board.live s) n.1.0;
          page_in = nleb→lt z.pages p n.1.1.0;
          some_right = positive d o.0;
          known_rights = omega arith;
        },
        positive s n.1.1.1.1.0,
      )
