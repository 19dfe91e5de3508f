-- The cache of a board made wide: it hits where the smaller one does, and stays the smaller one's through every call that replaces no entry.
use mathlib.Core.Path.{◌≡◌, refl, ap, ◌∙◌}
use mathlib.Core.Bool.{Bool, true, false, not, ◌&&◌, ◌||◌, cond}
use mathlib.Core.List.{List}
use Prim.Native.Nat.{ℕ, ◌≤◌, ◌<◌}
use native.Mathlib.Omega.{arith}
use lib.Dec.{T, eqb}
use lib.ListN.{length}
use Rattle.lend.specs.declared.Slot.{Slot}
use Rattle.lend.specs.declared.Place.{Place}
use Rattle.lend.specs.Sizes.{Sizes, memory_bytes, key}
use Rattle.lend.specs.Slots.{Table, slot_at}
use Rattle.lend.specs.Tables.{Tables, table_of}
use Rattle.lend.specs.Line.{frame_of}
use Rattle.lend.specs.Cache.{place_at, any_empty, lost_right}
use Rattle.lend.specs.Sound.{Sound}
use Rattle.lend.specs.Withdraw.{unmapped, flushed}
use Rattle.lend.specs.Lending.{mapped, granted}
use Rattle.lend.specs.Spaces.{wiped}
use Rattle.lend.specs.Translate.{address_page, hit, entry_of, with_entry, looked}
use Rattle.lend.specs.Calls.{Call, Create, Delete, Unmap, Flush, Map, Grant, Translate, Load, Store, with_slots, no_taker, board_after}
use Rattle.lend_basics.proofs.Bools.{and_r, not_not}
use Rattle.lend_lending.proofs.Map.{key_in}
use Rattle.lend_lending.proofs.Insert.{page_in}
use Rattle.lend_models.specs.Embedding.{Fits, wide_slots, wide_live, wide_places, wide}
use Rattle.lend_models.specs.Agreement.{is_page, is_address, in_limits, replaces, gives_way}
use Rattle.lend_models.proofs.Wide.{key_widened, wide_at}
use Rattle.lend_models.proofs.WideLines.{eqb_widened}
use Rattle.lend_models.proofs.SameNumber.{slot_same, frame_same, limit_page, limit_address}
use Rattle.lend_models.proofs.WideCache.{cached_wide, next_wide, inserted_wide, dropped_wide}

-- the larger board's cache is the smaller one's made wide
pub record CacheWide (w : Sizes) (small large : Tables) : Type 0 where
  pub places_same : large.places ≡ wide_places w small.places
  pub next_same : large.next ≡ small.next

-- ── which entries go ─────────────────────────────────────────────────────
-- a page that keeps the same at both sizes has lost a right at both or at neither
lost_same : (f g f' g' : Table) (k k' : ℕ) → f' k' ≡ f k → g' k' ≡ g k → lost_right f' g' k' ≡ lost_right f g k
unfolding lost_right
lost_same f g f' g' k k' e d = rw (e, d)

module _ (z w : Sizes) (fits : Fits z w) (some_page : 1 ≤ z.pages) where
  -- a page is the taker at both sizes or at neither
  taker_same : (to at s p : ℕ) → at < z.pages → p < z.pages → eqb (key w s p) (key w to at) ≡ eqb (key z s p) (key z to at)
  taker_same to at s p la lp =
      rw (← (key_widened z w fits some_page s p lp), ← (key_widened z w fits some_page to at la))
      (eqb_widened z w fits some_page (key z s p) (key z to at))

module _ (z w : Sizes) (fits : Fits z w) (some_page : 1 ≤ z.pages) (b : Tables) (sound : Sound z b) where
  -- the smaller cache is no longer than the larger one
  fit : length b.places ≤ w.places
  fit = omega (arith, fits.places_fit, sound.shape.places_long)

  -- the same entries go when the slots become those of the smaller board made wide, and the takers are the same
  drop_same : (new : List Slot) (small large : ℕ → Bool) → ((s p : ℕ) → p < z.pages → large (key w s p) ≡ small (key z s p))
      → (with_slots w (wide z w b) (wide_slots z w new) large).places ≡ wide_places w (with_slots z b new small).places
  drop_same new small large takers =
      dropped_wide z w (λ k. lost_right (table_of b) (slot_at new) k || small k)
      (λ k. lost_right (slot_at (wide_slots z w b.slots)) (slot_at (wide_slots z w new)) k || large k) b.places fit sound.cache.empty_form
      (λ i h. let n = sound.cache.filled_names i h in at (place_at b.places i).space (place_at b.places i).page n.space_in n.page_in)
    where
      at : (s p : ℕ) → s < z.spaces → p < z.pages
          → (lost_right (slot_at (wide_slots z w b.slots)) (slot_at (wide_slots z w new)) (key w s p) || large (key w s p))
          ≡ (lost_right (table_of b) (slot_at new) (key z s p) || small (key z s p))
      at s p ls lp = λ i. lost i || takers s p lp i
        where
          same : (c : List Slot) → slot_at (wide_slots z w c) (key w s p) ≡ slot_at c (key z s p)
          same c = rw (← (key_widened z w fits some_page s p lp)) (wide_at z w fits some_page c (key z s p) (key_in z s p ls lp))

          lost : lost_right (slot_at (wide_slots z w b.slots)) (slot_at (wide_slots z w new)) (key w s p) ≡ lost_right (table_of b) (slot_at new) (key z s p)
          lost =
              lost_same (table_of b) (slot_at new) (slot_at (wide_slots z w b.slots)) (slot_at (wide_slots z w new)) (key z s p) (key w s p) (same b.slots) (same new)

  -- a page has the same entry at both sizes
  entry_same : (space page : ℕ) → page < z.pages → entry_of w (wide z w b) space page ≡ entry_of z b space page
  entry_same space page lp = λ i. record { space = space; page = page; frame = frames i; rights = rights i }
    where
      frames : frame_of w (slot_at (wide_slots z w b.slots)) (key w space page) ≡ frame_of z (table_of b) (key z space page)
      frames = frame_same z w fits some_page b.live b.slots sound.shape.live_long sound.shape.slots_long sound.pages space page lp

      rights : (slot_at (wide_slots z w b.slots) (key w space page)).rights ≡ (table_of b (key z space page)).rights
      rights = ap (λ (x : Slot). x.rights) (slot_same z w fits some_page b.live b.slots sound.shape.live_long sound.shape.slots_long sound.pages space page lp)

  -- a page hits at both sizes or at neither
  pub hit_wide : (space address : ℕ) → hit (wide z w b) space address ≡ hit b space address
  unfolding hit
  hit_wide space address = cached_wide w b.places fit space (address_page address)

  -- a look that replaces no entry does the same at both sizes
  looked_same : (space address : ℕ) → address < memory_bytes z → T (not (gives_way b space address))
      → looked w (wide z w b) space address ≡ wide z w (looked z b space address)
  unfolding looked
  looked_same space address la room = rw (hit_wide space address) (go (hit b space address) room)
    where
      q : Place
      q = entry_of z b space (address_page address)

      go : (t : Bool) → T (not (not t && not (any_empty b.places)))
          → cond t (wide z w b) (with_entry (wide z w b) (entry_of w (wide z w b) space (address_page address)))
          ≡ wide z w (cond t b (with_entry b q))
      go true h = refl
      go false h =
          let e = entry_same space (address_page address) (page_in z address la) in
          let r : T (any_empty b.places) = not_not (any_empty b.places) h in
          ap (with_entry (wide z w b)) e
          ∙ (λ i. record {
            slots = wide_slots z w b.slots;
            live = wide_live z w b.live;
            places = inserted_wide w b.places fit r b.next q i;
            next = next_wide w b.places fit r b.next i;
            summary = (wide z w b).summary;
          })

  -- ── the cache after a call ─────────────────────────────────────────────
  -- after new slots
  slots_cache : (new other : List Slot) (small large : ℕ → Bool) → ((s p : ℕ) → p < z.pages → large (key w s p) ≡ small (key z s p))
      → other ≡ wide_slots z w new → CacheWide w (with_slots z b new small) (with_slots w (wide z w b) other large)
  slots_cache new other small large takers e = record {
    places_same = ap (λ (x : List Slot). (with_slots w (wide z w b) x large).places) e ∙ drop_same new small large takers;
    next_same = refl;
  }

  -- after a look that replaces no entry
  look_cache : (space address : ℕ) → T (is_address z space address) → T (not (gives_way b space address))
      → CacheWide w (looked z b space address) (looked w (wide z w b) space address)
  look_cache space address l room = record {
    places_same = ap (λ (x : Tables). x.places) same;
    next_same = ap (λ (x : Tables). x.next) same;
  }
    where
      same : looked w (wide z w b) space address ≡ wide z w (looked z b space address)
      same = looked_same space address (limit_address z space address l) room

  -- after an accepted call that replaces no entry and leaves the smaller board's slots made wide
  pub call_cache : (c : Call) → T (in_limits z c) → T (not (replaces b c))
      → (board_after w (wide z w b) c).slots ≡ wide_slots z w (board_after z b c).slots → CacheWide w (board_after z b c) (board_after w (wide z w b) c)
  unfolding board_after
  call_cache (Create space) l room e = record { places_same = refl; next_same = refl }
  call_cache (Delete space) l room e =
      let r = slots_cache (wiped z space b.slots) (wiped w space (wide_slots z w b.slots)) no_taker no_taker (λ s p l. refl) e in
      record { places_same = r.places_same; next_same = refl }
  call_cache (Unmap space page rights) l room e =
      slots_cache (unmapped z (key z space page) rights b.slots) (unmapped w (key w space page) rights (wide_slots z w b.slots)) no_taker no_taker
      (λ s p l. refl) e
  call_cache (Flush space page rights) l room e =
      slots_cache (flushed z (key z space page) rights b.slots) (flushed w (key w space page) rights (wide_slots z w b.slots)) no_taker no_taker
      (λ s p l. refl) e
  call_cache (Map from page to at rights) l room e =
      let la : at < z.pages = limit_page z to at (and_r (is_page z from page) (is_page z to at) l) in
      slots_cache (mapped z from page (key z to at) rights b.slots) (mapped w from page (key w to at) rights (wide_slots z w b.slots))
      (λ k. eqb k (key z to at)) (λ k. eqb k (key w to at)) (λ s p lp. taker_same z w fits some_page to at s p la lp) e
  call_cache (Grant from page to at rights) l room e =
      let la : at < z.pages = limit_page z to at (and_r (is_page z from page) (is_page z to at) l) in
      slots_cache (granted z (key z from page) (key z to at) rights b.slots)
      (granted w (key w from page) (key w to at) rights (wide_slots z w b.slots))
      (λ k. eqb k (key z to at)) (λ k. eqb k (key w to at)) (λ s p lp. taker_same z w fits some_page to at s p la lp) e
  call_cache (Translate space address rights) l room e = look_cache space address l room
  call_cache (Load space address) l room e = look_cache space address l room
  call_cache (Store space address byte) l room e = look_cache space address l room
