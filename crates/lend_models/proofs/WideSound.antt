-- A sound board is sound at larger sizes.
use mathlib.Core.Path.{◌≡◌, sym, subst, ap, ◌∙◌}
use Prim.Native.Nat.{ℕ, ◌≤◌}
use native.Mathlib.Omega.{arith}
use lib.Dec.{T}
use Rattle.lend.specs.declared.Place.{Place}
use Rattle.lend.specs.declared.Slot.{Slot}
use Rattle.lend.specs.Sizes.{Sizes}
use Rattle.lend.specs.Slots.{held}
use Rattle.lend.specs.Tables.{Tables, table_of}
use Rattle.lend.specs.Line.{frame_of}
use Rattle.lend.specs.Cache.{filled, page_named, place_at}
use Rattle.lend.specs.Sound.{Names, SoundCache, Sound}
use Rattle.lend_models.specs.Embedding.{Fits, wide, wide_places, wide_summary}
use Rattle.lend_models.proofs.Wide.{widen, key_widened, widen_same, length_wide, length_wide_live}
use Rattle.lend_models.proofs.WidePages.{slot_widened, wide_pages}
use Rattle.lend_models.proofs.WideLines.{frame_widened}
use Rattle.lend_models.proofs.WideCache.{length_wide_places, wide_place}
use Rattle.lend_models.proofs.WideSummary.{length_wide_summary, summary_widened}

module _ (z w : Sizes) (fits : Fits z w) (some_page : 1 ≤ z.pages) (b : Tables) (sound : Sound z b) where
  -- a place of the smaller cache names the same page at both sizes
  named_widened : (q : Place) → Names z (table_of b) q → page_named w q ≡ widen z w (page_named z q)
  named_widened q n = sym (key_widened z w fits some_page q.space q.page n.page_in)

  -- and names it well
  names_wide : (q : Place) → Names z (table_of b) q → Names w (table_of (wide z w b)) q
  names_wide q n = record {
    space_in = omega (arith, n.space_in, fits.spaces_fit);
    page_in = omega (arith, n.page_in, fits.pages_fit);
    is_held = subst (λ (x : Slot). T (held x)) (sym same) n.is_held;
    its_frame = n.its_frame
        ∙ (sym (frame_widened z w fits some_page b.live b.slots sound.shape.live_long sound.shape.slots_long sound.pages (page_named z q))
        ∙ ap (frame_of w (table_of (wide z w b))) (sym (named_widened q n)));
    its_rights = n.its_rights ∙ ap (λ (x : Slot). x.rights) (sym same);
  }
    where
      same : table_of (wide z w b) (page_named w q) ≡ table_of b (page_named z q)
      same =
          ap (table_of (wide z w b)) (named_widened q n)
          ∙ slot_widened z w fits some_page b.live b.slots sound.shape.live_long sound.shape.slots_long sound.pages (page_named z q)

  -- each place of the cache is the same
  place_same : (i : ℕ) → place_at (wide_places w b.places) i ≡ place_at b.places i
  place_same i = wide_place w b.places (omega (arith, sound.shape.places_long, fits.places_fit)) i

  -- the cache is sound at the larger sizes
  cache_wide : SoundCache w (table_of (wide z w b)) (wide_places w b.places) b.next
  cache_wide = record {
    filled_names = λ i h. rw (place_same i) (names_wide (place_at b.places i) (sound.cache.filled_names i (rw (place_same i) at h)));
    one_each = λ i j hi hj e. one_each i j (rw (place_same i) at hi) (rw (place_same j) at hj) (rw (place_same i, place_same j) at e);
    empty_form = λ i h. place_same i ∙ sound.cache.empty_form i (rw (place_same i) at h);
    next_in = omega (arith, sound.cache.next_in, fits.places_fit);
  }
    where
      one_each : (i j : ℕ) → T (filled (place_at b.places i)) → T (filled (place_at b.places j))
          → page_named w (place_at b.places i) ≡ page_named w (place_at b.places j) → i ≡ j
      one_each i j hi hj e =
          sound.cache.one_each i j hi hj
          (widen_same z w fits some_page (page_named z (place_at b.places i)) (page_named z (place_at b.places j))
          (sym (named_widened (place_at b.places i) (sound.cache.filled_names i hi))
          ∙ (e ∙ named_widened (place_at b.places j) (sound.cache.filled_names j hj))))

  -- M-100: a sound board is sound at larger sizes
  pub wide_sound : Sound w (wide z w b)
  wide_sound = record {
    shape = record {
      slots_long = length_wide z w fits some_page b.slots;
      live_long = length_wide_live z w b.live;
      places_long = length_wide_places w b.places;
      summary_long = length_wide_summary w b.summary;
    };
    pages = wide_pages z w fits some_page b.live b.slots sound.shape.live_long sound.shape.slots_long sound.pages;
    cache = cache_wide;
    summary = ap (wide_summary w) sound.summary
        ∙ sym (summary_widened z w fits some_page b.live b.slots sound.shape.live_long sound.shape.slots_long sound.pages);
  }
