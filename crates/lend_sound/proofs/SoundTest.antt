-- The test of soundness passes on just the sound boards.
use mathlib.Core.Path.{◌≡◌, refl, sym, ap, ◌∙◌}
use mathlib.Core.Bool.{Bool, true, false, not, ◌&&◌, ◌||◌}
use mathlib.Core.List.{List, map}
use mathlib.Core.Logic.{◌⊎◌, inl, inr, ◌↔◌}
use Prim.Native.Nat.{ℕ, ◌≤◌, ◌<◌}
use native.Mathlib.Decide.{dec_lt}
use native.Mathlib.Omega.{arith}
use lib.Dec.{T, eqb, ltb, eqb→eq, eqb_refl, ltb→lt, lt→ltb, le→leb, T_not, not_T}
use lib.ListN.{length, get_or-eq_default}
use borrow.Author.Tests.{eq-eqb}
use Rattle.lend.specs.declared.Link.{Link}
use Rattle.lend.specs.declared.Link.TheVariants.{Nothing, Frame, Page}
use Rattle.lend.specs.declared.Slot.{Slot}
use Rattle.lend.specs.declared.Place.{Place}
use Rattle.lend.specs.Sizes.{Sizes, slot_count, space_of, in_pool}
use Rattle.lend.specs.Rights.{all_rights}
use Rattle.lend.specs.Lists.{any, distinct, every}
use Rattle.lend.specs.Slots.{Table, empty_slot, held}
use Rattle.lend.specs.Tables.{Tables, Shaped, table_of, alive}
use Rattle.lend.specs.Line.{line_of, frame_of}
use Rattle.lend.specs.Cache.{empty_place, filled, page_named, place_at, names, lowest, place_for}
use Rattle.lend.specs.Summary.{summary_of}
use Rattle.lend.specs.Sound.{Rooted, SoundPages, Names, SoundCache, Sound}
use Rattle.lend.specs.SoundTest.{link_test, line_test, slot_test, pages_test, is_empty_place, names_test, place_test, cache_test, sound_test, Tells}
use Rattle.lend_basics.proofs.Bools.{and_l, and_r, and_i, or_l, or_r, or_cases}
use Rattle.lend_basics.proofs.Lists.{every_of}
use Rattle.lend_basics.proofs.Lists.{each}
use Rattle.lend_sound.proofs.Lines.{alive_in, fuel_rooted, held_live, line_reaches, line_once}
use Rattle.lend_sound.proofs.Places.{lowest_of, filled_in, key_space, key_page}
use Rattle.lend_sound.proofs.Summary.{summary_long, summary_of_test, test_of_summary}
use Rattle.lend_sound.proofs.Slots.{held_in, slot_top, slot_frame, slot_pool, slot_no_link, slot_not_live, slot_lent}

-- ── from the test: the pages ─────────────────────────────────────────────
module _ (z : Sizes) (live : List Bool) (f : Table) (len : length live ≡ z.spaces) (past : (k : ℕ) → slot_count z ≤ k → f k ≡ empty_slot) where
  -- the test of pages shows the bullets on spaces and pages
  pages_of_test : T (pages_test z live f) → SoundPages z live f
  unfolding pages_test
  pages_of_test h = record {
    pool_live = live0;
    first_live = search (and_l, and_r) depth 12;
    pool = slot_pool z live f ok past (rw len at (alive_in live 0 live0));
    no_frame = λ k i l e. let p = ltb→lt k z.pages (slot_frame z live f ok past k i e) in omega arith;
    not_live = slot_not_live z live f ok past live0;
    no_link = slot_no_link z live f ok past;
    lent = slot_lent z live f ok past;
    rooted = rooted;
  }
    where
      live0 : T (alive live 0)
      live0 = search (and_l, and_r) depth 12

      ok : (k : ℕ) → k < slot_count z → T (slot_test z live f k)
      ok = each (slot_count z) (slot_test z live f) (search (and_l, and_r) depth 12)

      lines : (k : ℕ) → k < slot_count z → T (not (held (f k)) || line_test z f k)
      lines = each (slot_count z) (λ k. not (held (f k)) || line_test z f k) (search (and_l, and_r) depth 12)

      rooted : (k : ℕ) → T (held (f k)) → Rooted z f k
      rooted k t = go (or_cases (not (held (f k))) (line_test z f k) (lines k (held_in z live f ok past k t)))
        where
          go : T (not (held (f k))) ⊎ T (line_test z f k) → Rooted z f k
          go (inl n) = absurd (T_not (held (f k)) n t)
          go (inr o) = fuel_rooted z f (slot_top z live f ok past) z.spaces k (search and_l depth 12) (search (and_l, and_r) depth 12)

-- ── from the test: the cache ─────────────────────────────────────────────
empty_place_law : (q : Place) → T (is_empty_place q) → q ≡ empty_place
empty_place_law q h =
    let s : q.space ≡ 0 = eqb→eq q.space 0 (search (and_l, and_r) depth 12) in
    let p : q.page ≡ 0 = eqb→eq q.page 0 (search (and_l, and_r) depth 12) in
    let f : q.frame ≡ 0 = eqb→eq q.frame 0 (search (and_l, and_r) depth 12) in
    let r : q.rights ≡ 0 = eqb→eq q.rights 0 (search (and_l, and_r) depth 12) in
    λ i. record { space = s i; page = p i; frame = f i; rights = r i }

-- place i names its page well, and is the lowest that names it
abbrev named_first : Sizes → Table → List Place → ℕ → Bool
named_first z f c i = names_test z f (place_at c i) && eqb (place_for (place_at c i).space (place_at c i).page c) i

module _ (z : Sizes) (f : Table) (c : List Place) (next : ℕ) where
  -- the test of the cache shows the bullet on the cache
  cache_of_test : T (cache_test z f c next) → SoundCache z f c next
  unfolding cache_test
  cache_of_test h = record {
    filled_names = λ i t. well i (named i t);
    one_each = one_each;
    empty_form = empty_form;
    next_in = ltb→lt next z.places (search (and_l, and_r) depth 12);
  }
    where
      ok : (i : ℕ) → i < length c → T (place_test z f c i (place_at c i))
      ok = each (length c) (λ i. place_test z f c i (place_at c i)) (search and_l depth 12)

      named : (i : ℕ) → T (filled (place_at c i)) → T (named_first z f c i)
      named i t = go (or_cases (is_empty_place (place_at c i)) (named_first z f c i) (ok i (filled_in c i t)))
        where
          go : T (is_empty_place (place_at c i)) ⊎ T (named_first z f c i) → T (named_first z f c i)
          go (inl e) = let x : T (filled empty_place) = rw (empty_place_law (place_at c i) e) at t in absurd x
          go (inr o) = o

      well : (i : ℕ) → T (named_first z f c i) → Names z f (place_at c i)
      well i o = record {
        space_in = ltb→lt (place_at c i).space z.spaces (search (and_l, and_r) depth 12);
        page_in = ltb→lt (place_at c i).page z.pages (search (and_l, and_r) depth 12);
        is_held = search (and_l, and_r) depth 12;
        its_frame = eqb→eq (place_at c i).frame (frame_of z f (page_named z (place_at c i))) (search (and_l, and_r) depth 12);
        its_rights = eqb→eq (place_at c i).rights (f (page_named z (place_at c i))).rights (search (and_l, and_r) depth 12);
      }

      first : (i : ℕ) → T (filled (place_at c i)) → place_for (place_at c i).space (place_at c i).page c ≡ i
      first i t = let o = named i t in eqb→eq (place_for (place_at c i).space (place_at c i).page c) i (search (and_l, and_r) depth 12)

      one_each : (i j : ℕ) → T (filled (place_at c i)) → T (filled (place_at c j)) → page_named z (place_at c i) ≡ page_named z (place_at c j) → i ≡ j
      one_each i j t u e =
          let a = (well i (named i t)).page_in in
          let b = (well j (named j u)).page_in in
          let s = key_space z (place_at c i).space (place_at c i).page (place_at c j).space (place_at c j).page a b e in
          let p = key_page z (place_at c i).space (place_at c i).page (place_at c j).space (place_at c j).page a b e in
          let x = first i t in
          let y = first j u in
          cc

      empty_form : (i : ℕ) → T (not (filled (place_at c i))) → place_at c i ≡ empty_place
      empty_form i n = go (dec_lt i (length c))
        where
          go : Dec (i < length c) → place_at c i ≡ empty_place
          go (no l) = get_or-eq_default c empty_place {n = i} (omega arith)
          go (yes l) = pick (or_cases (is_empty_place (place_at c i)) (named_first z f c i) (ok i l))
            where
              pick : T (is_empty_place (place_at c i)) ⊎ T (named_first z f c i) → place_at c i ≡ empty_place
              pick (inl e) = empty_place_law (place_at c i) e
              pick (inr o) = let t : T (filled (place_at c i)) = search and_l depth 12 in absurd (T_not (filled (place_at c i)) n t)

-- a board that passes the test is sound
pub test_sound : (z : Sizes) (b : Tables) → T (sound_test z b) → Sound z b
unfolding sound_test
test_sound z b h = record {
  shape = shape;
  pages = pages_of_test z b.live (table_of b) shape.live_long past (search (and_l, and_r) depth 12);
  cache = cache_of_test z (table_of b) b.places b.next (search (and_l, and_r) depth 12);
  summary = counted;
}
  where
    counted : b.summary ≡ summary_of z (table_of b)
    counted = summary_of_test z (table_of b) b.summary (search (and_l, and_r) depth 12)

    shape : Shaped z b
    shape = record {
      slots_long = eqb→eq (length b.slots) (slot_count z) (search (and_l, and_r) depth 12);
      live_long = eqb→eq (length b.live) z.spaces (search (and_l, and_r) depth 12);
      places_long = eqb→eq (length b.places) z.places (search (and_l, and_r) depth 12);
      summary_long = ap length counted ∙ summary_long z (table_of b);
    }

    past : (k : ℕ) → slot_count z ≤ k → table_of b k ≡ empty_slot
    past k l = get_or-eq_default b.slots empty_slot {n = k} (omega (arith, shape.slots_long))

-- ── from soundness: the pages ────────────────────────────────────────────
module _ (z : Sizes) (live : List Bool) (f : Table) (len : length live ≡ z.spaces) (sound : SoundPages z live f) where
  out_pool : (k : ℕ) → ((f k).link ≡ Frame k → ⊥) → T (not (in_pool z k))
  out_pool k h = not_T (in_pool z k) (λ t. h (ap (λ (s : Slot). s.link) (sound.pool k (ltb→lt k z.pages t))))

  -- every slot of a sound table passes its test
  slot_test_law : (k : ℕ) → T (slot_test z live f k)
  unfolding slot_test
  slot_test_law k = one (f k).link refl
    where
      one : (x : Link) → (f k).link ≡ x → T (link_test z live f k (f k).rights (f k).link)
      one Nothing e =
          let h0 = out_pool k (λ d. let n : Frame k ≡ Nothing = sym d ∙ e in let x : ◌≡◌ {A = ℕ} 0 1 = cc in omega arith) in
          rw e (and_i (not (in_pool z k)) (eqb (f k).rights 0) h0 (rw (sound.no_link k e) tt))
      one (Frame i) e = rw e (go (dec_lt k z.pages))
        where
          go : Dec (k < z.pages) → T (in_pool z k && eqb i k && eqb (f k).rights all_rights)
          go (yes l) =
              let q : Frame k ≡ Frame i = sym (ap (λ (s : Slot). s.link) (sound.pool k l)) ∙ e in
              let ik : i ≡ k = cc in
              let r7 : (f k).rights ≡ all_rights = ap (λ (s : Slot). s.rights) (sound.pool k l) in
              let h0 = lt→ltb k z.pages l in
              let h1 : T (eqb i k) = rw (eq-eqb i k ik) tt in
              let h2 : T (eqb (f k).rights all_rights) = rw r7 tt in
              search and_i
          go (no l) = absurd (sound.no_frame k i (omega arith) e)
      one (Page s p) e =
          let c = sound.lent k s p e in
          let t : T (held (f k)) = rw e tt in
          let h0 = out_pool k (λ d. let n : Frame k ≡ Page s p = sym d ∙ e in let x : ◌≡◌ {A = ℕ} 0 1 = cc in omega arith) in
          let h1 = held_live z live f len sound k t in
          let h2 = lt→ltb s z.spaces c.space_in in
          let h3 = lt→ltb p z.pages c.page_in in
          let h4 = c.space_live in
          let h5 = c.parent_held in
          let h6 = le→leb 1 (f k).rights c.some_right in
          let h7 = le→leb (f k).rights all_rights c.known_rights in
          let h8 = c.contained in
          rw e (search and_i depth 14)

  -- the line of every held page of a sound table passes its test
  line_test_law : (k : ℕ) → T (not (held (f k)) || line_test z f k)
  line_test_law k = go (held (f k)) refl
    where
      go : (b : Bool) → held (f k) ≡ b → T (not b || line_test z f k)
      go true e =
          let t : T (held (f k)) = rw e tt in
          and_i (any (in_pool z) (line_of z f k)) (distinct (map (space_of z) (line_of z f k))) (line_reaches z live f len sound k t) (line_once z live f len sound k t)
      go false e = tt

  -- sound pages pass the test of pages
  test_of_pages : T (pages_test z live f)
  unfolding pages_test
  test_of_pages =
      let h0 = sound.pool_live in
      let h1 = sound.first_live in
      let h2 = every_of (slot_count z) (slot_test z live f) (λ k l. slot_test_law k) in
      let h3 = every_of (slot_count z) (λ k. not (held (f k)) || line_test z f k) (λ k l. line_test_law k) in
      search and_i depth 14

-- ── from soundness: the cache ────────────────────────────────────────────
module _ (z : Sizes) (f : Table) (c : List Place) (next : ℕ) (sound : SoundCache z f c next) where
  -- a filled place is the one that is found for its page
  pub place_for_law : (i : ℕ) → T (filled (place_at c i)) → place_for (place_at c i).space (place_at c i).page c ≡ i
  unfolding place_for
  place_for_law i t =
      let self : T (names (place_at c i).space (place_at c i).page (place_at c i)) = own (eqb_refl (place_at c i).space) (eqb_refl (place_at c i).page) in
      found (lowest (names (place_at c i).space (place_at c i).page) c) (lowest_of (names (place_at c i).space (place_at c i).page) c i (filled_in c i t) self).1
    where
      own : T (eqb (place_at c i).space (place_at c i).space) → T (eqb (place_at c i).page (place_at c i).page) → T (names (place_at c i).space (place_at c i).page (place_at c i))
      own a b = search and_i depth 14

      found : (j : ℕ) → T (names (place_at c i).space (place_at c i).page (place_at c j)) → j ≡ i
      found j h =
          let s : (place_at c j).space ≡ (place_at c i).space = eqb→eq (place_at c j).space (place_at c i).space (search (and_l, and_r) depth 12) in
          let p : (place_at c j).page ≡ (place_at c i).page = eqb→eq (place_at c j).page (place_at c i).page (search (and_l, and_r) depth 12) in
          sound.one_each j i (search (and_l, and_r) depth 12) t (rw (s, p))

  place_test_law : (i : ℕ) → T (place_test z f c i (place_at c i))
  place_test_law i = go (filled (place_at c i)) refl
    where
      go : (b : Bool) → filled (place_at c i) ≡ b → T (place_test z f c i (place_at c i))
      go false e = or_l (is_empty_place (place_at c i)) _ (rw (sound.empty_form i (rw e tt)) tt)
      go true e =
          let t : T (filled (place_at c i)) = rw e tt in
          let n = sound.filled_names i t in
          let h0 = lt→ltb (place_at c i).space z.spaces n.space_in in
          let h1 = lt→ltb (place_at c i).page z.pages n.page_in in
          let h2 = n.is_held in
          let h3 : T (eqb (place_at c i).frame (frame_of z f (page_named z (place_at c i)))) = rw (eq-eqb (place_at c i).frame (frame_of z f (page_named z (place_at c i))) n.its_frame) tt in
          let h4 : T (eqb (place_at c i).rights (f (page_named z (place_at c i))).rights) = rw (eq-eqb (place_at c i).rights (f (page_named z (place_at c i))).rights n.its_rights) tt in
          let h5 : T (eqb (place_for (place_at c i).space (place_at c i).page c) i) = rw (eq-eqb (place_for (place_at c i).space (place_at c i).page c) i (place_for_law i t)) tt in
          or_r (is_empty_place (place_at c i)) (named_first z f c i) (search and_i depth 14)

  -- a sound cache passes the test of the cache
  test_of_cache : T (cache_test z f c next)
  unfolding cache_test
  test_of_cache =
      and_i (every (length c) (λ i. place_test z f c i (place_at c i))) (ltb next z.places)
      (every_of (length c) (λ i. place_test z f c i (place_at c i)) (λ i l. place_test_law i))
      (lt→ltb next z.places sound.next_in)

-- a sound board passes the test
pub sound_test_law : (z : Sizes) (b : Tables) → Sound z b → T (sound_test z b)
unfolding sound_test
sound_test_law z b sound =
    let h0 : T (eqb (length b.slots) (slot_count z)) = rw (eq-eqb (length b.slots) (slot_count z) sound.shape.slots_long) tt in
    let h1 : T (eqb (length b.live) z.spaces) = rw (eq-eqb (length b.live) z.spaces sound.shape.live_long) tt in
    let h2 : T (eqb (length b.places) z.places) = rw (eq-eqb (length b.places) z.places sound.shape.places_long) tt in
    let h3 = test_of_pages z b.live (table_of b) sound.shape.live_long sound.pages in
    let h4 = test_of_cache z (table_of b) b.places b.next sound.cache in
    let h5 = test_of_summary z (table_of b) b.summary sound.summary in
    search and_i depth 14

-- the test computes soundness: at every size and on every board it passes just where the board is sound
pub sound_exactly : (z : Sizes) (b : Tables) → T (sound_test z b) ↔ Sound z b
sound_exactly z b = (test_sound z b, sound_test_law z b)

-- the code's answer is the test's, so it tells what the record says
pub tells : (z : Sizes) (b : Tables) (r : Bool) → r ≡ sound_test z b → Tells z b r
tells z b r e = record { if_true = λ t. test_sound z b (rw e at t); if_sound = λ s. rw e (sound_test_law z b s); as_test = e }
