-- The pieces that the code tests, put together: they are the test of soundness.
use mathlib.Core.Path.{◌≡◌, refl, sym, ap, ◌∙◌}
use mathlib.Core.Bool.{Bool, true, false, not, ◌&&◌, ◌||◌}
use mathlib.Core.List.{List}
use Prim.Native.Nat.{ℕ, ◌≤◌, ◌<◌}
use native.Mathlib.Omega.{arith}
use lib.Dec.{T, eqb, ltb, leb, eqb→eq, ltb→lt, leb→le}
use lib.ListN.{length, get_or, get_or-eq_default}
use native.Mathlib.Decide.{dec_lt}
use borrow.Author.Tests.{eq-eqb}
use Rattle.lend.specs.declared.Link.{Link}
use Rattle.lend.specs.declared.Link.TheVariants.{Nothing, Frame, Page}
use Rattle.lend.specs.declared.Place.{Place}
use Rattle.lend.specs.declared.Slot.{Slot}
use Rattle.lend.specs.declared.Count.{Count}
use Rattle.lend.specs.Sizes.{Sizes, slot_count, in_pool}
use Rattle.lend.specs.Lists.{every, tabulate}
use Rattle.lend.specs.Slots.{empty_slot, slot_at, held, linked}
use Rattle.lend.specs.Tables.{Tables, Shaped, table_of, alive}
use Rattle.lend.specs.Line.{frame_of}
use Rattle.lend.specs.Cache.{filled, page_named, place_at, place_for}
use Rattle.lend.specs.SoundTest.{slot_test, line_test, pages_test, names_test, place_test, is_empty_place, cache_test, shape_test, same_counts, summary_test, sound_test}
use Rattle.lend.specs.Summary.{summary_of}
use Rattle.lend_basics.proofs.Bools.{and_l, and_r, and_i, is_true, is_false, true_is, same_test, differ, positive}
use Rattle.lend_basics.proofs.Lists.{each, every_of, tabulate_at}
use Rattle.lend_basics.proofs.Loops.{Tested, tested_not, tested_all}
use Rattle.lend_code.specs.Inner.{inside_of, Fitting, quick_line, rights_of, Framed, summary_with, place_fits, place_ok, places_fit}
use Rattle.lend_code.proofs.Fits.{key_in, inside_key}
use Rattle.lend_code.proofs.QuickLines.{quick_lines}
use Rattle.lend_code.proofs.Columns.{rights_at}
use Rattle.lend_code.proofs.Summary.{summary_by_law}

-- two tests that agree below n agree on every number below n
every_same : (n : ℕ) (t u : ℕ → Bool) → ((k : ℕ) → k < n → t k ≡ u k) → every n t ≡ every n u
every_same n t u h = same_test (every n t) (every n u)
    (λ a. every_of n u (λ k l. rw (← h k l) (each n t a k l)))
    (λ a. every_of n t (λ k l. rw (h k l) (each n u a k l)))

-- slots that all pass the test fit
pub all_fit : (z : Sizes) (live : List Bool) (b : List Slot) → every (slot_count z) (slot_test z live (slot_at b)) ≡ true → Fitting z b
all_fit z live b e = record { live = live; fits = λ k l. each (slot_count z) (slot_test z live (slot_at b)) (true_is _ e) k l }

-- the places tested one after the other
module _ (z : Sizes) (rights frames : List ℕ) (c : List Place) where
  -- what a turn computes of place i, piece by piece
  pub place_tested : (i : ℕ) (q : Place) (e f : Bool) (k at first : ℕ) → e ≡ is_empty_place q → k ≡ page_named z q → at ≡ inside_of z k
      → f ≡ place_fits z (get_or rights at 0) (get_or frames at 0) q → first ≡ place_for q.space q.page c → (e || (f && eqb first i)) ≡ place_ok z rights frames c i q
  unfolding place_ok
  place_tested i q e f k at first he hk ha hf hp = rw (he, hf, ha, hk, hp)

  pub places_not : (i : ℕ) → i < z.places → place_ok z rights frames c i (place_at c i) ≡ false → false ≡ places_fit z rights frames c
  unfolding places_fit
  places_not i h e = sym (tested_not (λ j. place_ok z rights frames c j (place_at c j)) z.places i h e)

  pub places_all : (i : ℕ) → Tested (λ j. place_ok z rights frames c j (place_at c j)) i → z.places ≤ i → true ≡ places_fit z rights frames c
  unfolding places_fit
  places_all i t h = sym (tested_all (λ j. place_ok z rights frames c j (place_at c j)) z.places i t h)

-- ── the pages ────────────────────────────────────────────────────────────
module _ (z : Sizes) (b : List Slot) (live : List Bool) (long : length b ≡ slot_count z) where
  -- the frames of all pages are those of the held ones
  pub all_framed : (frames : List ℕ) → frames ≡ tabulate (slot_count z) (λ k. frame_of z (slot_at b) k) → Framed z (slot_at b) frames
  all_framed frames f = record { right = λ k t. rw f (tabulate_at (λ k. frame_of z (slot_at b) k) (slot_count z) k 0 (in_table k t (dec_lt k (slot_count z)))) }
    where
      in_table : (k : ℕ) → T (held (slot_at b k)) → Dec (k < slot_count z) → k < slot_count z
      in_table k t (yes l) = l
      in_table k t (no l) = absurd (rw (get_or-eq_default b empty_slot {n = k} (omega (arith, long))) at t)

  -- a slot that does not fit
  pub pages_unfit : every (slot_count z) (slot_test z live (slot_at b)) ≡ false → false ≡ pages_test z live (slot_at b)
  unfolding pages_test
  pages_unfit e = sym (is_false (pages_test z live (slot_at b)) (λ h. let t : T (every (slot_count z) (slot_test z live (slot_at b))) = search (and_l, and_r) depth 12 in (rw e at t)))

  -- the slots fit
  module _ (fits : every (slot_count z) (slot_test z live (slot_at b)) ≡ true) where
    passes : (k : ℕ) → k < slot_count z → T (slot_test z live (slot_at b) k)
    passes k h = each (slot_count z) (slot_test z live (slot_at b)) (true_is _ fits) k h

    -- a page with a right is held
    pub right_held : (k : ℕ) → k < slot_count z → 1 ≤ (slot_at b k).rights → T (held (slot_at b k))
    unfolding slot_test
    right_held k h r = go (slot_at b k).link refl
      where
        go : (l : Link) → (slot_at b k).link ≡ l → T (linked (slot_at b k).link)
        go Nothing e =
            let t = rw e at (passes k h) in
            let n : (slot_at b k).rights ≡ 0 = eqb→eq (slot_at b k).rights 0 (and_r (not (in_pool z k)) (eqb (slot_at b k).rights 0) t) in
            absurd (omega arith)
        go (Frame i) e = rw e tt
        go (Page s p) e = rw e tt

    -- and a held page has one
    held_right : (k : ℕ) → k < slot_count z → T (held (slot_at b k)) → 1 ≤ (slot_at b k).rights
    unfolding slot_test
    held_right k h t = go (slot_at b k).link refl t
      where
        go : (l : Link) → (slot_at b k).link ≡ l → T (linked l) → 1 ≤ (slot_at b k).rights
        go Nothing e n = absurd n
        go (Frame i) e n =
            let x = rw e at (passes k h) in
            let r : (slot_at b k).rights ≡ 7 = eqb→eq (slot_at b k).rights 7 (and_r (in_pool z k && eqb i k) (eqb (slot_at b k).rights 7) x) in
            omega arith
        go (Page s p) e n =
            let x = rw e at (passes k h) in
            let r : T (leb 1 (slot_at b k).rights) = search (and_l, and_r) depth 12 in
            leb→le 1 (slot_at b k).rights r

    by_rights : (k : ℕ) → held (slot_at b k) ≡ not (eqb (slot_at b k).rights 0)
    by_rights k = go (dec_lt k (slot_count z))
      where
        go : Dec (k < slot_count z) → held (slot_at b k) ≡ not (eqb (slot_at b k).rights 0)
        go (yes h) =
            same_test (held (slot_at b k)) (not (eqb (slot_at b k).rights 0))
            (λ t. let l = held_right k h t in differ (slot_at b k).rights 0 (λ e. omega arith))
            (λ t. right_held k h (positive (slot_at b k).rights t))
        go (no h) = rw (get_or-eq_default b empty_slot {n = k} (omega (arith, long)))

    -- so by the rights and frames of all pages the summary is counted as by the table
    pub counts_are : (rights frames : List ℕ) → rights ≡ rights_of z b → frames ≡ tabulate (slot_count z) (λ k. frame_of z (slot_at b) k)
        → summary_with z rights frames ≡ summary_of z (slot_at b)
    counts_are rights frames r f = summary_by_law z (slot_at b) by_rights rights frames (λ k. rw r (rights_at z b k long)) (all_framed frames f)

    module _ (one : 1 ≤ z.spaces) where
      lines_are : every (slot_count z) (quick_line z (slot_at b)) ≡ every (slot_count z) (λ k. not (held (slot_at b k)) || line_test z (slot_at b) k)
      lines_are = quick_lines z b (all_fit z live b fits) one

      -- a line of the wrong kind
      pub pages_unrooted : every (slot_count z) (quick_line z (slot_at b)) ≡ false → false ≡ pages_test z live (slot_at b)
      unfolding pages_test
      pages_unrooted e = sym (is_false (pages_test z live (slot_at b)) (λ h.
          let t : T (every (slot_count z) (λ k. not (held (slot_at b k)) || line_test z (slot_at b) k)) = search (and_l, and_r) depth 12 in
          (rw (sym lines_are ∙ e) at t)))

      -- every line is good, and the first two spaces are live
      pub pages_fit : every (slot_count z) (quick_line z (slot_at b)) ≡ true → (alive live 0 && alive live 1) ≡ true → true ≡ pages_test z live (slot_at b)
      unfolding pages_test
      pages_fit good begun = sym (rw (begun, fits, ← lines_are, good))

  -- one of the first two spaces is not live
  pub pages_dead : (alive live 0 && alive live 1) ≡ false → false ≡ pages_test z live (slot_at b)
  unfolding pages_test
  pages_dead e = sym (rw e)

-- every slot of sound pages fits
all_fits : (z : Sizes) (b : List Slot) (live : List Bool) → pages_test z live (slot_at b) ≡ true → every (slot_count z) (slot_test z live (slot_at b)) ≡ true
unfolding pages_test
all_fits z b live fit = let t : T (pages_test z live (slot_at b)) = true_is _ fit in is_true _ (search (and_l, and_r) depth 12)

-- ── the board ────────────────────────────────────────────────────────────
module _ (z : Sizes) (b : Tables) (shape : Shaped z b) where
  shape_true : shape_test z b ≡ true
  shape_true = rw (eq-eqb (length b.slots) (slot_count z) shape.slots_long, eq-eqb (length b.live) z.spaces shape.live_long, eq-eqb (length b.places) z.places shape.places_long)

  -- pages that are not sound
  pub unfit : pages_test z b.live (table_of b) ≡ false → false ≡ sound_test z b
  unfolding sound_test
  unfit e = sym (is_false (sound_test z b) (λ h. let t : T (pages_test z b.live (table_of b)) = search (and_l, and_r) depth 12 in (rw e at t)))

  module _ (fit : pages_test z b.live (table_of b) ≡ true) where
    fits : every (slot_count z) (slot_test z b.live (table_of b)) ≡ true
    fits = all_fits z b.slots b.live fit

    -- by the rights and frames of all pages a place is tested as by the table
    module _ (rights frames : List ℕ) (r : rights ≡ rights_of z b.slots) (f : frames ≡ tabulate (slot_count z) (λ k. frame_of z (table_of b) k)) (q : Place) where
      at_rights : ltb q.space z.spaces ≡ true → ltb q.page z.pages ≡ true → get_or rights (inside_of z (page_named z q)) 0 ≡ (table_of b (page_named z q)).rights
      at_rights hs hp =
          rw (r, inside_key z q.space q.page (ltb→lt _ _ (true_is _ hs)) (ltb→lt _ _ (true_is _ hp))) (rights_at z b.slots (page_named z q) shape.slots_long)

      at_frames : ltb q.space z.spaces ≡ true → ltb q.page z.pages ≡ true → get_or frames (inside_of z (page_named z q)) 0 ≡ frame_of z (table_of b) (page_named z q)
      at_frames hs hp =
          let s = ltb→lt q.space z.spaces (true_is _ hs) in
          let p = ltb→lt q.page z.pages (true_is _ hp) in
          rw (f, inside_key z q.space q.page s p) (tabulate_at (λ k. frame_of z (table_of b) k) (slot_count z) (page_named z q) 0 (key_in z q.space q.page s p))

      names_fits : place_fits z (get_or rights (inside_of z (page_named z q)) 0) (get_or frames (inside_of z (page_named z q)) 0) q ≡ names_test z (table_of b) q
      unfolding place_fits
      names_fits = same_test _ (names_test z (table_of b) q) there back
        where
          there : T (place_fits z (get_or rights (inside_of z (page_named z q)) 0) (get_or frames (inside_of z (page_named z q)) 0) q) → T (names_test z (table_of b) q)
          there h =
              let a : T (filled q) = search (and_l, and_r) depth 12 in
              let s : T (ltb q.space z.spaces) = search (and_l, and_r) depth 12 in
              let p : T (ltb q.page z.pages) = search (and_l, and_r) depth 12 in
              let x : T (eqb q.frame (get_or frames (inside_of z (page_named z q)) 0)) = search (and_l, and_r) depth 12 in
              let y : T (eqb q.rights (get_or rights (inside_of z (page_named z q)) 0)) = search (and_l, and_r) depth 12 in
              let x' : T (eqb q.frame (frame_of z (table_of b) (page_named z q))) = rw (at_frames (is_true _ s) (is_true _ p)) at x in
              let y' : T (eqb q.rights (table_of b (page_named z q)).rights) = rw (at_rights (is_true _ s) (is_true _ p)) at y in
              let e : q.rights ≡ (table_of b (page_named z q)).rights = eqb→eq _ _ y' in
              let o : 1 ≤ (table_of b (page_named z q)).rights = rw (← e) (positive q.rights a) in
              let g : T (held (table_of b (page_named z q))) = right_held z b.slots b.live shape.slots_long fits (page_named z q) (key_in z q.space q.page (ltb→lt _ _ s) (ltb→lt _ _ p)) o in
              search and_i depth 14

          back : T (names_test z (table_of b) q) → T (place_fits z (get_or rights (inside_of z (page_named z q)) 0) (get_or frames (inside_of z (page_named z q)) 0) q)
          back h =
              let a : T (filled q) = search (and_l, and_r) depth 12 in
              let s : T (ltb q.space z.spaces) = search (and_l, and_r) depth 12 in
              let p : T (ltb q.page z.pages) = search (and_l, and_r) depth 12 in
              let x : T (eqb q.frame (frame_of z (table_of b) (page_named z q))) = search (and_l, and_r) depth 12 in
              let y : T (eqb q.rights (table_of b (page_named z q)).rights) = search (and_l, and_r) depth 12 in
              let x' : T (eqb q.frame (get_or frames (inside_of z (page_named z q)) 0)) = rw (at_frames (is_true _ s) (is_true _ p)) x in
              let y' : T (eqb q.rights (get_or rights (inside_of z (page_named z q)) 0)) = rw (at_rights (is_true _ s) (is_true _ p)) y in
              search and_i depth 14

      place_ok_law : (c : List Place) (i : ℕ) → place_ok z rights frames c i q ≡ place_test z (table_of b) c i q
      unfolding place_ok
      place_ok_law c i = ap (λ (t : Bool). is_empty_place q || (t && eqb (place_for q.space q.page c) i)) names_fits

    -- the places, the next place and the counts are left to ask
    pub rest_sound : (rights frames : List ℕ) → rights ≡ rights_of z b.slots → frames ≡ tabulate (slot_count z) (λ k. frame_of z (table_of b) k)
        → (counts : List Count) → counts ≡ summary_of z (table_of b)
        → (places_fit z rights frames b.places && ltb b.next z.places && same_counts z b.summary counts) ≡ sound_test z b
    unfolding sound_test cache_test summary_test places_fit
    rest_sound rights frames r f counts c =
        ap (λ (s : List Count). places_fit z rights frames b.places && ltb b.next z.places && same_counts z b.summary s) c
        ∙ ap (λ (t : Bool). t && ltb b.next z.places && same_counts z b.summary (summary_of z (table_of b)))
        (every_same z.places _ (λ i. place_test z (table_of b) b.places i (place_at b.places i)) (λ i l. place_ok_law rights frames r f (place_at b.places i) b.places i))
        ∙ rw (shape_true, fit, shape.places_long)
