-- A call gives the same number at both sizes: each of its cases holds at both or at none.
use mathlib.Core.Path.{◌≡◌, refl, sym, ap, ◌∙◌}
use mathlib.Core.Bool.{Bool, not, ◌&&◌, ◌||◌}
use mathlib.Core.List.{List, ◌++◌}
use Prim.Native.Nat.{ℕ, ◌≤◌, ◌<◌}
use native.Mathlib.Omega.{arith}
use lib.Dec.{T, eqb, ltb, ltb→lt}
use lib.ListN.{length}
use borrow.Author.Tests.{lt-leb}
use Rattle.lend.specs.declared.Link.{Link}
use Rattle.lend.specs.declared.Link.TheVariants.{Nothing, Frame, Page}
use Rattle.lend.specs.declared.Place.{Place}
use Rattle.lend.specs.declared.Slot.{Slot}
use Rattle.lend.specs.Sizes.{Sizes, slot_count, key, space_of, memory_bytes}
use Rattle.lend.specs.Rights.{read_right, write_right}
use Rattle.lend.specs.Slots.{slot_at, held}
use Rattle.lend.specs.Tables.{State, table_of, alive}
use Rattle.lend.specs.Line.{below, meets, frame_of, links_of}
use Rattle.lend.specs.Sound.{SoundPages, Sound}
use Rattle.lend.specs.SoundTest.{sound_test}
use Rattle.lend.specs.Lending.{grant_source}
use Rattle.lend.specs.Translate.{address_page}
use Rattle.lend.specs.Numbers.{no_space, no_page, no_address, source_below_taker, taker_below_source}
use Rattle.lend.specs.Calls.{Call, Create, Delete, Unmap, Flush, Map, Grant, Translate, Load, Store, lending_cases, memory_cases, cases, number}
use Rattle.lend_basics.proofs.Bools.{and_l, and_r, is_true, and_false}
use Rattle.lend_sound.proofs.SoundTest.{sound_test_law}
use Rattle.lend_lending.proofs.Insert.{page_in}
use Rattle.lend_models.specs.Embedding.{Fits, wide_slots, wide_live, wide_summary}
use Rattle.lend_models.specs.Agreement.{in_limits, is_page, is_address, takes_memory, more_bytes}
use Rattle.lend_models.proofs.Wide.{widen, key_widened, space_of_widened, wide_live_at}
use Rattle.lend_models.proofs.WidePages.{wide_table, two_spaces, slot_widened, lender_widened}
use Rattle.lend_models.proofs.WideLines.{eqb_widened, below_widened, meets_widened, frame_widened, links_widened, below_rest}
use Rattle.lend_models.proofs.Counts.{some_wide}
use Rattle.lend_models.proofs.WideMemory.{memory_test}

-- ── limits ───────────────────────────────────────────────────────────────
module _ (z w : Sizes) (fits : Fits z w) where
  -- a space of the smaller sizes is one at both
  pub space_same : (s : ℕ) → s < z.spaces → no_space w s ≡ no_space z s
  space_same s h = lt-leb w.spaces s (omega (arith, fits.spaces_fit)) ∙ sym (lt-leb z.spaces s h)

  -- so is a page
  page_same : (p : ℕ) → p < z.pages → no_page w p ≡ no_page z p
  page_same p h = lt-leb w.pages p (omega (arith, fits.pages_fit)) ∙ sym (lt-leb z.pages p h)

  -- and an address
  address_same : (a : ℕ) → a < memory_bytes z → no_address w a ≡ no_address z a
  address_same a h = lt-leb (memory_bytes w) a (omega (arith, fits.pages_fit)) ∙ sym (lt-leb (memory_bytes z) a h)

-- the space of a page within the limits
pub limit_space : (z : Sizes) (s p : ℕ) → T (is_page z s p) → s < z.spaces
limit_space z s p h = ltb→lt s z.spaces (and_l (ltb s z.spaces) (ltb p z.pages) h)

-- and its number there
pub limit_page : (z : Sizes) (s p : ℕ) → T (is_page z s p) → p < z.pages
limit_page z s p h = ltb→lt p z.pages (and_r (ltb s z.spaces) (ltb p z.pages) h)

-- the space of an address within the limits
limit_address_space : (z : Sizes) (s a : ℕ) → T (is_address z s a) → s < z.spaces
limit_address_space z s a h = ltb→lt s z.spaces (and_l (ltb s z.spaces) (ltb a (memory_bytes z)) h)

-- and the address
pub limit_address : (z : Sizes) (s a : ℕ) → T (is_address z s a) → a < memory_bytes z
limit_address z s a h = ltb→lt a (memory_bytes z) (and_r (ltb s z.spaces) (ltb a (memory_bytes z)) h)

-- ── pages ────────────────────────────────────────────────────────────────
module _ (z w : Sizes) (fits : Fits z w) (some_page : 1 ≤ z.pages) (live : List Bool) (b : List Slot)
    (len : length live ≡ z.spaces) (long : length b ≡ slot_count z) (sound : SoundPages z live (slot_at b)) where
  -- the same spaces are live
  pub live_same : (s : ℕ) → alive (wide_live z w live) s ≡ alive live s
  live_same s = wide_live_at z w fits (two_spaces z w fits some_page live b len long sound) live len s

  -- page p of space s keeps the same slot
  pub slot_same : (s p : ℕ) → p < z.pages → wide_table z w b (key w s p) ≡ slot_at b (key z s p)
  slot_same s p h = ap (wide_table z w b) (sym (key_widened z w fits some_page s p h)) ∙ slot_widened z w fits some_page live b len long sound (key z s p)

  -- its line meets the same spaces
  meets_same : (s p u : ℕ) → p < z.pages → meets w (wide_table z w b) (key w s p) u ≡ meets z (slot_at b) (key z s p) u
  meets_same s p u h =
      ap (λ (k : ℕ). meets w (wide_table z w b) k u) (sym (key_widened z w fits some_page s p h))
      ∙ meets_widened z w fits some_page live b len long sound (key z s p) u

  -- and ends at the same frame
  pub frame_same : (s p : ℕ) → p < z.pages → frame_of w (wide_table z w b) (key w s p) ≡ frame_of z (slot_at b) (key z s p)
  frame_same s p h =
      ap (frame_of w (wide_table z w b)) (sym (key_widened z w fits some_page s p h))
      ∙ frame_widened z w fits some_page live b len long sound (key z s p)

  -- by as many links, where it is held
  pub links_same : (s p : ℕ) → p < z.pages → T (held (slot_at b (key z s p))) → links_of w (wide_table z w b) (key w s p) ≡ links_of z (slot_at b) (key z s p)
  links_same s p h is =
      ap (links_of w (wide_table z w b)) (sym (key_widened z w fits some_page s p h))
      ∙ links_widened z w fits some_page live b len long sound (key z s p) is

  -- 14 holds at both sizes or at none
  source_below_widened : (source taker : ℕ)
      → source_below_taker w (wide_table z w b) (widen z w source) (widen z w taker) ≡ source_below_taker z (slot_at b) source taker
  source_below_widened source taker =
      some_wide z w fits some_page (λ k. eqb (space_of z k) (space_of z source) && below z (slot_at b) k taker)
      (λ k. eqb (space_of w k) (space_of w (widen z w source)) && below w (wide_table z w b) k (widen z w taker))
      (λ k l. rw (space_of_widened z w fits some_page k, space_of_widened z w fits some_page source, below_widened z w fits some_page live b len long sound k taker))
      (λ k l n. rw (below_rest z w fits some_page live b len long sound k (widen z w taker) n) (and_false (eqb (space_of w k) (space_of w (widen z w source)))))

  -- and so does 15
  taker_below_widened : (source taker : ℕ)
      → taker_below_source w (wide_table z w b) (widen z w source) (widen z w taker) ≡ taker_below_source z (slot_at b) source taker
  taker_below_widened source taker =
      some_wide z w fits some_page (λ k. eqb (space_of z k) (space_of z taker) && not (eqb k taker) && below z (slot_at b) k source)
      (λ k. eqb (space_of w k) (space_of w (widen z w taker)) && not (eqb k (widen z w taker)) && below w (wide_table z w b) k (widen z w source))
      (λ k l.
      rw (
        space_of_widened z w fits some_page k,
        space_of_widened z w fits some_page taker,
        eqb_widened z w fits some_page k taker,
        below_widened z w fits some_page live b len long sound k source,
      ))
      (λ k l n. rw (below_rest z w fits some_page live b len long sound k (widen z w source) n)
      (and_false (eqb (space_of w k) (space_of w (widen z w taker)) && not (eqb k (widen z w taker)))))

  -- the source of a grant is the same page
  source_widened : (k : ℕ) → grant_source w (wide_table z w b (widen z w k)).link (widen z w k) ≡ widen z w (grant_source z (slot_at b k).link k)
  source_widened k = rw (slot_widened z w fits some_page live b len long sound k) (go (slot_at b k).link refl)
    where
      go : (x : Link) → (slot_at b k).link ≡ x → grant_source w (slot_at b k).link (widen z w k) ≡ widen z w (grant_source z (slot_at b k).link k)
      go Nothing e = rw e
      go (Frame i) e = rw e
      go (Page s p) e = rw e (sym (lender_widened z w fits some_page live b len long sound k s p e))

  -- 14 of a taker within the limits
  source_below_same : (source u v : ℕ) → v < z.pages
      → source_below_taker w (wide_table z w b) (widen z w source) (key w u v) ≡ source_below_taker z (slot_at b) source (key z u v)
  source_below_same source u v h =
      ap (source_below_taker w (wide_table z w b) (widen z w source)) (sym (key_widened z w fits some_page u v h))
      ∙ source_below_widened source (key z u v)

  -- 15 of one
  taker_below_same : (source u v : ℕ) → v < z.pages
      → taker_below_source w (wide_table z w b) (widen z w source) (key w u v) ≡ taker_below_source z (slot_at b) source (key z u v)
  taker_below_same source u v h =
      ap (taker_below_source w (wide_table z w b) (widen z w source)) (sym (key_widened z w fits some_page u v h))
      ∙ taker_below_widened source (key z u v)

-- ── cases ────────────────────────────────────────────────────────────────
-- a state of the smaller sizes at the larger ones, with any cache
abbrev pub grown : Sizes → Sizes → List ℕ → State → List Place → ℕ → State
grown z w rest st places next = record {
  board = record {
    slots = wide_slots z w st.board.slots;
    live = wide_live z w st.board.live;
    places = places;
    next = next;
    summary = wide_summary w st.board.summary;
  };
  memory = st.memory ++ rest;
}

module _ (z w : Sizes) (fits : Fits z w) (some_page : 1 ≤ z.pages) (rest : List ℕ) (st : State) (sound : Sound z st.board) (places : List Place) (next : ℕ) where
  -- the state at the larger sizes
  large : State
  large = grown z w rest st places next

  -- the same spaces are live in it
  live_in : (s : ℕ) → alive (wide_live z w st.board.live) s ≡ alive st.board.live s
  live_in s = live_same z w fits some_page st.board.live st.board.slots sound.shape.live_long sound.shape.slots_long sound.pages s

  -- a page within the limits keeps the same slot
  slot_in_law : (s p : ℕ) → p < z.pages → wide_table z w st.board.slots (key w s p) ≡ table_of st.board (key z s p)
  slot_in_law s p h = slot_same z w fits some_page st.board.live st.board.slots sound.shape.live_long sound.shape.slots_long sound.pages s p h

  -- map and grant have the same cases
  lending_same : (s p u v r : ℕ) (shut : Bool) (source : ℕ) → T (is_page z s p) → T (is_page z u v)
      → lending_cases w large.board s p u v r shut (widen z w source) ≡ lending_cases z st.board s p u v r shut source
  unfolding large
  lending_same s p u v r shut source hs hu =
      rw (
        space_same z w fits s (limit_space z s p hs),
        space_same z w fits u (limit_space z u v hu),
        live_in s,
        live_in u,
        page_same z w fits p (limit_page z s p hs),
        page_same z w fits v (limit_page z u v hu),
        slot_in_law s p (limit_page z s p hs),
        meets_same z w fits some_page st.board.live st.board.slots sound.shape.live_long sound.shape.slots_long sound.pages s p u (limit_page z s p hs),
        source_below_same z w fits some_page st.board.live st.board.slots sound.shape.live_long sound.shape.slots_long sound.pages source u v (limit_page z u v hu),
        taker_below_same z w fits some_page st.board.live st.board.slots sound.shape.live_long sound.shape.slots_long sound.pages source u v (limit_page z u v hu),
      )

  -- load and store too
  memory_same : (s a r : ℕ) → T (is_address z s a) → length rest ≡ more_bytes z w → memory_cases w large s a r ≡ memory_cases z st s a r
  unfolding large
  memory_same s a r h more =
      rw (
        memory_test z w fits st.memory rest more,
        space_same z w fits s (limit_address_space z s a h),
        live_in s,
        address_same z w fits a (limit_address z s a h),
        slot_in_law s (address_page a) (page_in z a (limit_address z s a h)),
      )

  -- every call within the limits has the same cases
  same_cases : (c : Call) → T (in_limits z c) → (T (takes_memory c) → length rest ≡ more_bytes z w) → cases w large c ≡ cases z st c
  unfolding cases large
  same_cases (Create s) h m = rw (space_same z w fits s (ltb→lt s z.spaces h), live_in s)
  same_cases (Delete s) h m = rw (space_same z w fits s (ltb→lt s z.spaces h), live_in s)
  same_cases (Unmap s p r) h m = rw (space_same z w fits s (limit_space z s p h), live_in s, page_same z w fits p (limit_page z s p h))
  same_cases (Flush s p r) h m = rw (space_same z w fits s (limit_space z s p h), live_in s, page_same z w fits p (limit_page z s p h))
  same_cases (Map s p u v r) h m =
      let hs = and_l (is_page z s p) (is_page z u v) h in
      ap (lending_cases w large.board s p u v r (eqb u 0)) (sym (key_widened z w fits some_page s p (limit_page z s p hs)))
      ∙ lending_same s p u v r (eqb u 0) (key z s p) hs (and_r (is_page z s p) (is_page z u v) h)
  same_cases (Grant s p u v r) h m =
      let hs = and_l (is_page z s p) (is_page z u v) h in
      ap (λ (k : ℕ). lending_cases w large.board s p u v r (eqb u 0 || eqb s 0) (grant_source w (table_of large.board k).link k)) (sym (key_widened z w fits some_page s p (limit_page z s p hs)))
      ∙ (ap (lending_cases w large.board s p u v r (eqb u 0 || eqb s 0))
      (source_widened z w fits some_page st.board.live st.board.slots sound.shape.live_long sound.shape.slots_long sound.pages (key z s p))
      ∙ lending_same s p u v r (eqb u 0 || eqb s 0) (grant_source z (table_of st.board (key z s p)).link (key z s p)) hs (and_r (is_page z s p) (is_page z u v) h))
  same_cases (Translate s a r) h m =
      rw (
        space_same z w fits s (limit_address_space z s a h),
        live_in s,
        address_same z w fits a (limit_address z s a h),
        slot_in_law s (address_page a) (page_in z a (limit_address z s a h)),
      )
  same_cases (Load s a) h m = memory_same s a read_right h (m tt)
  same_cases (Store s a byte) h m = memory_same s a write_right h (m tt)

  -- so on sound boards it gives the same number
  pub number_same : Sound w (grown z w rest st places next).board → (c : Call) → T (in_limits z c) → (T (takes_memory c) → length rest ≡ more_bytes z w)
      → number w (grown z w rest st places next) c ≡ number z st c
  unfolding number large
  number_same sound_large c h m =
      rw (
        is_true (sound_test z st.board) (sound_test_law z st.board sound),
        is_true (sound_test w large.board) (sound_test_law w large.board sound_large),
        same_cases c h m,
      )
