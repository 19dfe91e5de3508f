-- The pages of a sound board at larger sizes: each has its slot, its parent and its line, and they are sound there.
use mathlib.Core.Path.{◌≡◌, refl, sym, subst, ap, ◌∙◌}
use mathlib.Core.Bool.{Bool, false, not}
use mathlib.Core.List.{List, [], ◌∷◌, map}
use mathlib.Core.Option.{none, some}
use Prim.Native.Nat.{ℕ, ◌≤◌, ◌<◌}
use native.Mathlib.Nat.{div-eq_of_lt, mul-le-mul_right}
use native.Mathlib.Decide.{dec_lt}
use native.Mathlib.Omega.{arith}
use lib.Dec.{T, lt→ltb, T_not}
use lib.ListN.{length, get_or-eq_default}
use borrow.Author.Tests.{lt-ltb, le-ltb}
use Rattle.lend.specs.declared.Link.{Link}
use Rattle.lend.specs.declared.Link.TheVariants.{Nothing, Frame, Page}
use Rattle.lend.specs.declared.Slot.{Slot}
use Rattle.lend.specs.Sizes.{Sizes, slot_count, key, space_of, in_pool}
use Rattle.lend.specs.Rights.{all_rights, within}
use Rattle.lend.specs.Lists.{any}
use Rattle.lend.specs.Slots.{Table, empty_slot, frame_slot, held, slot_at}
use Rattle.lend.specs.Tables.{alive}
use Rattle.lend.specs.Line.{Line, ends, climbs, parent}
use Rattle.lend.specs.Sound.{Lent, Rooted, SoundPages}
use Rattle.lend_basics.proofs.Bools.{or_l}
use Rattle.lend_sound.proofs.Lines.{alive_in, parent_link, link_parent}
use Rattle.lend_models.specs.Embedding.{Fits, shared, wide_slots, wide_live}
use Rattle.lend_models.proofs.Wide.{widen, widen_same, key_widened, space_of_widened, widen_pool, widen_out, shared_or_not, wide_at, wide_live_at, rest_pool, rest_empty}

module _ (z w : Sizes) (fits : Fits z w) (some_page : 1 ≤ z.pages) where
  -- what holds of the pages of the smaller sizes and of those that are not shared holds of every page
  pub each_page : (P : ℕ → Type 0) → ((j : ℕ) → j < slot_count z → P (widen z w j)) → ((k : ℕ) → T (not (shared z w k)) → P k) → (k : ℕ) → P k
  each_page P is rest k = shared_or_not z w fits some_page k (P k) (λ j l e. subst P e (is j l)) (rest k)

  -- a page is in space 0 at both sizes or at none
  pub pool_widened : (k : ℕ) → in_pool w (widen z w k) ≡ in_pool z k
  pool_widened k = go (dec_lt k z.pages)
    where
      go : Dec (k < z.pages) → in_pool w (widen z w k) ≡ in_pool z k
      go (yes h) = rw (widen_pool z w fits some_page k h, lt-ltb k z.pages h) (lt-ltb k w.pages (omega (arith, fits.pages_fit)))
      go (no h) = le-ltb (widen z w k) w.pages (widen_out z w fits some_page k (omega arith)) ∙ sym (le-ltb k z.pages (omega arith))

  -- a line keeps its spaces
  spaces_widened : (l : List ℕ) → map (space_of w) (map (widen z w) l) ≡ map (space_of z) l
  spaces_widened [] = refl
  spaces_widened (q ∷ l) = rw (space_of_widened z w fits some_page q, spaces_widened l)

  -- and reaches space 0 if it did
  reaches_widened : (l : List ℕ) → any (in_pool w) (map (widen z w) l) ≡ any (in_pool z) l
  reaches_widened [] = refl
  reaches_widened (q ∷ l) = rw (pool_widened q, reaches_widened l)

-- the slots of a board at larger sizes, as a table
abbrev pub wide_table : Sizes → Sizes → List Slot → Table
wide_table z w b = slot_at (wide_slots z w b)

module _ (z w : Sizes) (fits : Fits z w) (some_page : 1 ≤ z.pages) (live : List Bool) (b : List Slot)
    (len : length live ≡ z.spaces) (long : length b ≡ slot_count z) (sound : SoundPages z live (slot_at b)) where
  -- there are spaces 0 and 1
  pub two_spaces : 2 ≤ z.spaces
  two_spaces = rw len at (alive_in live 1 sound.first_live)

  -- a page that is not shared holds a frame of its own or nothing
  pub rest_either : (k : ℕ) (A : Type 0) → T (not (shared z w k)) → (k < w.pages → wide_table z w b k ≡ frame_slot k → A)
      → (w.pages ≤ k → wide_table z w b k ≡ empty_slot → A) → A
  rest_either k A n pool empty = go (dec_lt k w.pages)
    where
      go : Dec (k < w.pages) → A
      go (yes h) = pool h (rest_pool z w fits some_page two_spaces b k n h)
      go (no h) = empty (omega arith) (rest_empty z w fits some_page two_spaces b k n (omega arith))

  -- past the last page the slots are empty at both sizes
  past_widened : (k : ℕ) → slot_count z ≤ k → wide_table z w b (widen z w k) ≡ empty_slot
  past_widened k h =
      shared_or_not z w fits some_page (widen z w k) (wide_table z w b (widen z w k) ≡ empty_slot)
      (λ j l e. let x = widen_same z w fits some_page j k e in absurd (omega arith))
      (λ n. rest_empty z w fits some_page two_spaces b (widen z w k) n (widen_out z w fits some_page k out))
    where
      out : z.pages ≤ k
      out = omega (arith, mul-le-mul_right z.pages two_spaces)

  -- each page keeps its slot
  pub slot_widened : (k : ℕ) → wide_table z w b (widen z w k) ≡ slot_at b k
  slot_widened k = go (dec_lt k (slot_count z))
    where
      go : Dec (k < slot_count z) → wide_table z w b (widen z w k) ≡ slot_at b k
      go (yes h) = wide_at z w fits some_page b k h
      go (no h) = past_widened k (omega arith) ∙ sym (get_or-eq_default b empty_slot {n = k} (omega arith))

  -- ── parents and lines ──────────────────────────────────────────────────
  -- the page that lent a page is the same at both sizes
  pub lender_widened : (k s p : ℕ) → (slot_at b k).link ≡ Page s p → widen z w (key z s p) ≡ key w s p
  lender_widened k s p e = key_widened z w fits some_page s p (sound.lent k s p e).page_in

  -- a page with no parent has none
  top_widened : (k : ℕ) → parent z (slot_at b) k ≡ none → parent w (wide_table z w b) (widen z w k) ≡ none
  top_widened k e = rw (slot_widened k) (go (slot_at b k).link refl)
    where
      go : (x : Link) → (slot_at b k).link ≡ x → parent w (slot_at b) k ≡ none
      go Nothing d = rw d
      go (Frame i) d = rw d
      go (Page s p) d = let n : some (key z s p) ≡ none = rw d at e in let x : ◌≡◌ {A = ℕ} 0 1 = cc in absurd (omega arith)

  -- and a page with a parent has the same one
  parent_widened : (k q : ℕ) → parent z (slot_at b) k ≡ some q → parent w (wide_table z w b) (widen z w k) ≡ some (widen z w q)
  parent_widened k q e =
      let r = parent_link z (slot_at b) k q e in
      link_parent w (wide_table z w b) (widen z w k) r.0 r.1 (ap (λ (x : Slot). x.link) (slot_widened k) ∙ r.2)
      ∙ ap some (sym (lender_widened k r.0 r.1 r.2) ∙ ap (widen z w) r.3)

  -- so a page has the same line
  pub is_line_widened : {k : ℕ} {l : List ℕ} → Line z (slot_at b) k l → Line w (wide_table z w b) (widen z w k) (map (widen z w) l)
  is_line_widened {k} (ends e) = ends {k = widen z w k} (top_widened k e)
  is_line_widened {k} (climbs {q = q} e a) = climbs {k = widen z w k} {q = widen z w q} (parent_widened k q e) (is_line_widened a)

  -- a page that is not shared has no parent
  pub rest_top : (k : ℕ) → T (not (shared z w k)) → parent w (wide_table z w b) k ≡ none
  rest_top k n = rest_either k (parent w (wide_table z w b) k ≡ none) n (λ h e. rw e) (λ h e. rw e)

  -- ── soundness ──────────────────────────────────────────────────────────
  -- the same spaces are live
  live_widened : (s : ℕ) → alive (wide_live z w live) s ≡ alive live s
  live_widened s = wide_live_at z w fits two_spaces live len s

  -- page i of space 0 holds frame i with every right
  pool_wide : (k : ℕ) → k < w.pages → wide_table z w b k ≡ frame_slot k
  pool_wide k h =
      shared_or_not z w fits some_page k (wide_table z w b k ≡ frame_slot k)
      (λ j l e. is j e (dec_lt j z.pages))
      (λ n. rest_pool z w fits some_page two_spaces b k n h)
    where
      is : (j : ℕ) → widen z w j ≡ k → Dec (j < z.pages) → wide_table z w b k ≡ frame_slot k
      is j e (yes l) =
          let s : j ≡ k = sym (widen_pool z w fits some_page j l) ∙ e in
          ap (wide_table z w b) (sym e) ∙ (slot_widened j ∙ (sound.pool j l ∙ ap frame_slot s))
      is j e (no l) = let o = widen_out z w fits some_page j (omega arith) in absurd (omega arith)

  -- no other space holds a frame
  no_frame_wide : (k i : ℕ) → w.pages ≤ k → (wide_table z w b k).link ≡ Frame i → ⊥
  no_frame_wide k i h d =
      shared_or_not z w fits some_page k ⊥ (λ j l e. is j e (dec_lt j z.pages))
      (λ n. let x : Nothing ≡ Frame i = sym (ap (λ (s : Slot). s.link) (rest_empty z w fits some_page two_spaces b k n h)) ∙ d in let y : ◌≡◌ {A = ℕ} 0 1 = cc in omega arith)
    where
      is : (j : ℕ) → widen z w j ≡ k → Dec (j < z.pages) → ⊥
      is j e (yes l) = let x = widen_pool z w fits some_page j l in omega (arith, fits.pages_fit)
      is j e (no l) = sound.no_frame j i (omega arith) (ap (λ (s : Slot). s.link) (sym (slot_widened j) ∙ ap (wide_table z w b) e) ∙ d)

  -- a page of a space that is not live is empty
  not_live_wide : (k : ℕ) → T (not (alive (wide_live z w live) (space_of w k))) → wide_table z w b k ≡ empty_slot
  not_live_wide =
      each_page z w fits some_page (λ (k : ℕ). T (not (alive (wide_live z w live) (space_of w k))) → wide_table z w b k ≡ empty_slot)
      (λ j l n. slot_widened j ∙ sound.not_live j (rw (live_widened (space_of w (widen z w j)), space_of_widened z w fits some_page j) at n))
      (λ k m n. rest_either k (wide_table z w b k ≡ empty_slot) m
      (λ h e. let n0 : T (not (alive live 0)) = rw (live_widened (space_of w k), div-eq_of_lt h) at n in absurd (T_not (alive live 0) n0 sound.pool_live))
      (λ h e. e))

  -- a page without a link has no rights
  no_link_wide : (k : ℕ) → (wide_table z w b k).link ≡ Nothing → (wide_table z w b k).rights ≡ 0
  no_link_wide =
      each_page z w fits some_page (λ (k : ℕ). (wide_table z w b k).link ≡ Nothing → (wide_table z w b k).rights ≡ 0)
      (λ j l d. ap (λ (x : Slot). x.rights) (slot_widened j) ∙ sound.no_link j (ap (λ (x : Slot). x.link) (sym (slot_widened j)) ∙ d))
      (λ k m d. rest_either k ((wide_table z w b k).rights ≡ 0) m
      (λ h e. let n : Nothing ≡ Frame k = sym d ∙ ap (λ (s : Slot). s.link) e in let x : ◌≡◌ {A = ℕ} 0 1 = cc in absurd (omega arith))
      (λ h e. ap (λ (x : Slot). x.rights) e))

  -- a page that was lent is properly lent
  lent_wide : (k s p : ℕ) → (wide_table z w b k).link ≡ Page s p → Lent w (wide_live z w live) (wide_table z w b) k s p
  lent_wide =
      each_page z w fits some_page (λ (k : ℕ). (s p : ℕ) → (wide_table z w b k).link ≡ Page s p → Lent w (wide_live z w live) (wide_table z w b) k s p)
      (λ j l s p d. is j s p (ap (λ (x : Slot). x.link) (sym (slot_widened j)) ∙ d))
      (λ k m s p d. rest_either k (Lent w (wide_live z w live) (wide_table z w b) k s p) m
      (λ h e. let n : Page s p ≡ Frame k = sym d ∙ ap (λ (s : Slot). s.link) e in let x : ◌≡◌ {A = ℕ} 0 1 = cc in absurd (omega arith))
      (λ h e. let n : Page s p ≡ Nothing = sym d ∙ ap (λ (s : Slot). s.link) e in let x : ◌≡◌ {A = ℕ} 0 1 = cc in absurd (omega arith)))
    where
      is : (j s p : ℕ) → (slot_at b j).link ≡ Page s p → Lent w (wide_live z w live) (wide_table z w b) (widen z w j) s p
      is j s p d =
          let c = sound.lent j s p d in
          let parent-same : wide_table z w b (key w s p) ≡ slot_at b (key z s p) = ap (wide_table z w b) (sym (lender_widened j s p d)) ∙ slot_widened (key z s p) in
          record {
            space_in = omega (arith, c.space_in, fits.spaces_fit);
            page_in = omega (arith, c.page_in, fits.pages_fit);
            space_live = rw (live_widened s) c.space_live;
            parent_held = subst (λ (x : Slot). T (held x)) (sym parent-same) c.parent_held;
            some_right = subst (λ (x : Slot). 1 ≤ x.rights) (sym (slot_widened j)) c.some_right;
            known_rights = subst (λ (x : Slot). x.rights ≤ all_rights) (sym (slot_widened j)) c.known_rights;
            contained = subst (λ (x : Slot). T (within x.rights (wide_table z w b (key w s p)).rights)) (sym (slot_widened j))
                (subst (λ (x : Slot). T (within (slot_at b j).rights x.rights)) (sym parent-same) c.contained);
          }

  -- a held page has a line of the right kind
  rooted_wide : (k : ℕ) → T (held (wide_table z w b k)) → Rooted w (wide_table z w b) k
  rooted_wide =
      each_page z w fits some_page (λ (k : ℕ). T (held (wide_table z w b k)) → Rooted w (wide_table z w b) k)
      (λ j l h. is j (sound.rooted j (subst (λ (x : Slot). T (held x)) (slot_widened j) h)))
      (λ k m h. rest_either k (Rooted w (wide_table z w b) k) m
      (λ l e. record { pages = k ∷ []; is_line = ends (rw e); reaches = or_l (in_pool w k) false (lt→ltb k w.pages l); once = tt })
      (λ l e. absurd (rw e at h)))
    where
      is : (j : ℕ) → Rooted z (slot_at b) j → Rooted w (wide_table z w b) (widen z w j)
      is j r = record {
        pages = map (widen z w) r.pages;
        is_line = is_line_widened r.is_line;
        reaches = rw (reaches_widened z w fits some_page r.pages) r.reaches;
        once = rw (spaces_widened z w fits some_page r.pages) r.once;
      }

  -- the pages of a sound board are sound at larger sizes
  pub wide_pages : SoundPages w (wide_live z w live) (wide_table z w b)
  wide_pages = record {
    pool_live = rw (live_widened 0) sound.pool_live;
    first_live = rw (live_widened 1) sound.first_live;
    pool = pool_wide;
    no_frame = no_frame_wide;
    not_live = not_live_wide;
    no_link = no_link_wide;
    lent = lent_wide;
    rooted = rooted_wide;
  }
