-- What the test of each slot by itself shows, lines aside.
use mathlib.Core.Path.{◌≡◌, refl, ap, ◌∙◌}
use mathlib.Core.Bool.{Bool, not}
use mathlib.Core.List.{List}
use mathlib.Core.Option.{none}
use Prim.Native.Nat.{ℕ, ◌≤◌, ◌<◌}
use native.Mathlib.Nat.{div-eq_of_lt, mul-le-mul_right}
use native.Mathlib.Decide.{dec_lt}
use native.Mathlib.Omega.{arith}
use lib.Dec.{T, eqb, eqb→eq, ltb→lt, lt→ltb, leb→le, T_not}
use Rattle.lend.specs.declared.Link.{Link}
use Rattle.lend.specs.declared.Link.TheVariants.{Nothing, Frame, Page}
use Rattle.lend.specs.declared.Slot.{Slot}
use Rattle.lend.specs.Sizes.{Sizes, slot_count, space_of, in_pool}
use Rattle.lend.specs.Rights.{all_rights}
use Rattle.lend.specs.Slots.{Table, empty_slot, frame_slot, held}
use Rattle.lend.specs.Tables.{alive}
use Rattle.lend.specs.Line.{parent}
use Rattle.lend.specs.Sound.{Lent}
use Rattle.lend.specs.SoundTest.{slot_test, link_test}
use Rattle.lend_basics.proofs.Bools.{and_l, and_r}

module _ (z : Sizes) (live : List Bool) (f : Table) (ok : (k : ℕ) → k < slot_count z → T (slot_test z live f k)) (past : (k : ℕ) → slot_count z ≤ k → f k ≡ empty_slot) where
  -- a held page is one of the table's
  pub held_in : (k : ℕ) → T (held (f k)) → k < slot_count z
  held_in k h = go (dec_lt k (slot_count z))
    where
      go : Dec (k < slot_count z) → k < slot_count z
      go (yes l) = l
      go (no l) = absurd (rw (past k (omega arith)) at h)

  -- the test of a slot whose link is known
  of_link : (k : ℕ) (l : Link) → (f k).link ≡ l → k < slot_count z → T (link_test z live f k (f k).rights l)
  unfolding slot_test
  of_link k l e h = rw e at (ok k h)

  of_held : (k : ℕ) (l : Link) → (f k).link ≡ l → T (held (f k)) → T (link_test z live f k (f k).rights l)
  of_held k l e h = of_link k l e (held_in k h)

  -- a page with a parent is properly lent
  pub slot_lent : (k s p : ℕ) → (f k).link ≡ Page s p → Lent z live f k s p
  slot_lent k s p e =
      let o : T (link_test z live f k (f k).rights (Page s p)) = of_held k (Page s p) e (rw e tt) in
      record {
        space_in = ltb→lt s z.spaces (search (and_l, and_r) depth 12);
        page_in = ltb→lt p z.pages (search (and_l, and_r) depth 12);
        space_live = search (and_l, and_r) depth 12;
        parent_held = search (and_l, and_r) depth 12;
        some_right = leb→le 1 (f k).rights (search (and_l, and_r) depth 12);
        known_rights = leb→le (f k).rights all_rights (search (and_l, and_r) depth 12);
        contained = search (and_l, and_r) depth 12;
      }

  -- a page with a parent is outside space 0
  slot_out : (k s p : ℕ) → (f k).link ≡ Page s p → T (in_pool z k) → ⊥
  slot_out k s p e h =
      let o : T (link_test z live f k (f k).rights (Page s p)) = of_held k (Page s p) e (rw e tt) in
      T_not (in_pool z k) (search and_l depth 12) h

  -- a page with a parent is in a live space
  slot_live : (k s p : ℕ) → (f k).link ≡ Page s p → T (alive live (space_of z k))
  slot_live k s p e =
      let o : T (link_test z live f k (f k).rights (Page s p)) = of_held k (Page s p) e (rw e tt) in
      search (and_l, and_r) depth 12

  -- a frame is held in space 0 only
  pub slot_frame : (k i : ℕ) → (f k).link ≡ Frame i → T (in_pool z k)
  slot_frame k i e =
      let o : T (link_test z live f k (f k).rights (Frame i)) = of_held k (Frame i) e (rw e tt) in
      search (and_l, and_r) depth 12

  -- pages of space 0 have no parent
  pub slot_top : (k : ℕ) → T (in_pool z k) → parent z f k ≡ none
  slot_top k h = go (f k).link refl
    where
      go : (x : Link) → (f k).link ≡ x → parent z f k ≡ none
      go Nothing e = rw e
      go (Frame i) e = rw e
      go (Page s p) e = absurd (slot_out k s p e h)

  -- page k of space 0 holds frame k with every right
  pub slot_pool : 1 ≤ z.spaces → (k : ℕ) → k < z.pages → f k ≡ frame_slot k
  slot_pool one k l = go (f k).link refl
    where
      h : k < slot_count z
      h = omega (arith, mul-le-mul_right z.pages one)

      t : T (in_pool z k)
      t = lt→ltb k z.pages l

      go : (x : Link) → (f k).link ≡ x → f k ≡ frame_slot k
      go Nothing e = let o = of_link k Nothing e h in absurd (T_not (in_pool z k) (and_l (not (in_pool z k)) (eqb (f k).rights 0) o) t)
      go (Frame j) e =
          let o = of_link k (Frame j) e h in
          let ej : j ≡ k = eqb→eq j k (search (and_l, and_r) depth 12) in
          let er : (f k).rights ≡ all_rights = eqb→eq (f k).rights all_rights (search (and_l, and_r) depth 12) in
          λ i. record { link = (e ∙ ap Frame ej) i; rights = er i }
      go (Page s p) e = absurd (slot_out k s p e t)

  -- a page without a link has no rights
  pub slot_no_link : (k : ℕ) → (f k).link ≡ Nothing → (f k).rights ≡ 0
  slot_no_link k e = go (dec_lt k (slot_count z))
    where
      go : Dec (k < slot_count z) → (f k).rights ≡ 0
      go (yes l) = let o = of_link k Nothing e l in eqb→eq (f k).rights 0 (and_r (not (in_pool z k)) (eqb (f k).rights 0) o)
      go (no l) = ap (λ (s : Slot). s.rights) (past k (omega arith))

  -- a page of a space that is not live is empty
  pub slot_not_live : T (alive live 0) → (k : ℕ) → T (not (alive live (space_of z k))) → f k ≡ empty_slot
  slot_not_live live0 k n = go (f k).link refl
    where
      go : (x : Link) → (f k).link ≡ x → f k ≡ empty_slot
      go Nothing e = λ i. record { link = e i; rights = slot_no_link k e i }
      go (Frame j) e =
          let l : k < z.pages = ltb→lt k z.pages (slot_frame k j e) in
          let n0 : T (not (alive live 0)) = rw (div-eq_of_lt l) at n in
          absurd (T_not (alive live 0) n0 live0)
      go (Page s p) e = absurd (T_not (alive live (space_of z k)) n (slot_live k s p e))
