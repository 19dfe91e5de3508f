-- Lines on a sound board at larger sizes, as they are computed: which pages are on them, whom they are below, and their frames.
use mathlib.Core.Path.{◌≡◌, refl, sym, ap, ◌∙◌}
use mathlib.Core.Bool.{Bool, false, not}
use mathlib.Core.List.{List, [], ◌∷◌, map}
use Prim.Native.Nat.{ℕ, zero, suc, ◌≤◌, ◌<◌}
use native.Mathlib.Omega.{arith}
use lib.Dec.{T, eqb, eqb→eq, T_not}
use lib.ListN.{length, length-map}
use borrow.Author.Tests.{eq-eqb, ne_eqb}
use Rattle.lend.specs.declared.Link.{Link}
use Rattle.lend.specs.declared.Link.TheVariants.{Nothing, Frame, Page}
use Rattle.lend.specs.declared.Slot.{Slot}
use Rattle.lend.specs.Sizes.{Sizes, slot_count, key, space_of}
use Rattle.lend.specs.Lists.{any, member}
use Rattle.lend.specs.Slots.{slot_at, held}
use Rattle.lend.specs.Line.{end_of, line_of, is_on_line, below, meets, frame, frame_of, links_of}
use Rattle.lend.specs.Sound.{SoundPages}
use Rattle.lend_basics.proofs.Bools.{same_test, or_false}
use Rattle.lend_sound.proofs.Lines.{line_unique, the_line, line_fits, line_top, below_top, frame_fuel}
use Rattle.lend_sound.proofs.Links.{links_are_pages}
use Rattle.lend_models.specs.Embedding.{Fits, shared, wide_live}
use Rattle.lend_models.proofs.Wide.{widen, widen_same, widen_shared, space_of_widened, length_wide_live}
use Rattle.lend_models.proofs.WidePages.{wide_table, slot_widened, lender_widened, is_line_widened, rest_top, wide_pages}

-- ── lists of pages ───────────────────────────────────────────────────────
module _ (z w : Sizes) (fits : Fits z w) (some_page : 1 ≤ z.pages) where
  -- two pages are the same at both sizes or at none
  pub eqb_widened : (j k : ℕ) → eqb (widen z w j) (widen z w k) ≡ eqb j k
  eqb_widened j k =
      same_test (eqb (widen z w j) (widen z w k)) (eqb j k)
      (λ t. rw (eq-eqb j k (widen_same z w fits some_page j k (eqb→eq (widen z w j) (widen z w k) t))) tt)
      (λ t. rw (eq-eqb (widen z w j) (widen z w k) (ap (widen z w) (eqb→eq j k t))) tt)

  -- a page that is not shared is none of the smaller sizes
  eqb_rest : (k y : ℕ) → T (not (shared z w k)) → y < slot_count z → eqb k (widen z w y) ≡ false
  eqb_rest k y n h = ne_eqb k (widen z w y) (λ e. T_not (shared z w k) n (rw e (widen_shared z w fits some_page y h)))

  -- a page is in both lists or in none
  member_widened : (y : ℕ) (l : List ℕ) → member (widen z w y) (map (widen z w) l) ≡ member y l
  member_widened y [] = refl
  member_widened y (q ∷ l) = rw (eqb_widened q y, member_widened y l)

  -- both lists have a page of the space or none does
  space_in_widened : (s : ℕ) (l : List ℕ) → any (λ q. eqb (space_of w q) s) (map (widen z w) l) ≡ any (λ q. eqb (space_of z q) s) l
  space_in_widened s [] = refl
  space_in_widened s (q ∷ l) = rw (space_of_widened z w fits some_page q, space_in_widened s l)

-- ── lines ────────────────────────────────────────────────────────────────
module _ (z w : Sizes) (fits : Fits z w) (some_page : 1 ≤ z.pages) (live : List Bool) (b : List Slot)
    (len : length live ≡ z.spaces) (long : length b ≡ slot_count z) (sound : SoundPages z live (slot_at b)) where
  -- the larger table is sound
  sound_wide : SoundPages w (wide_live z w live) (wide_table z w b)
  sound_wide = wide_pages z w fits some_page live b len long sound

  -- and there is one entry for each of its spaces
  long_wide : length (wide_live z w live) ≡ w.spaces
  long_wide = length_wide_live z w live

  -- a page has the same line
  line_widened : (k : ℕ) → line_of w (wide_table z w b) (widen z w k) ≡ map (widen z w) (line_of z (slot_at b) k)
  line_widened k =
      line_unique (the_line w (wide_live z w live) (wide_table z w b) long_wide sound_wide (widen z w k))
      (is_line_widened z w fits some_page live b len long sound (the_line z live (slot_at b) len sound k))

  -- the same pages are on it
  pub on_line_widened : (k y : ℕ) → is_on_line w (wide_table z w b) (widen z w k) (widen z w y) ≡ is_on_line z (slot_at b) k y
  on_line_widened k y = rw (line_widened k) (member_widened z w fits some_page y (line_of z (slot_at b) k))

  -- it is below the same pages
  pub below_widened : (k y : ℕ) → below w (wide_table z w b) (widen z w k) (widen z w y) ≡ below z (slot_at b) k y
  below_widened k y = rw (on_line_widened k y, eqb_widened z w fits some_page k y)

  -- it meets the same spaces
  pub meets_widened : (k s : ℕ) → meets w (wide_table z w b) (widen z w k) s ≡ meets z (slot_at b) k s
  meets_widened k s = rw (line_widened k) (space_in_widened z w fits some_page s (line_of z (slot_at b) k))

  -- a line followed as far at both sizes comes to the same frame
  frame_followed : (n k : ℕ) → frame w (wide_table z w b) n (widen z w k) ≡ frame z (slot_at b) n k
  unfolding frame
  frame_followed zero k = refl
  frame_followed (suc n) k = rw (slot_widened z w fits some_page live b len long sound k) (go (λ q. frame_followed n q) (slot_at b k).link refl)
    where
      go : ((q : ℕ) → frame w (wide_table z w b) n (widen z w q) ≡ frame z (slot_at b) n q) → (x : Link) → (slot_at b k).link ≡ x
          → end_of (slot_at b k).link (λ s p. frame w (wide_table z w b) n (key w s p)) ≡ end_of (slot_at b k).link (λ s p. frame z (slot_at b) n (key z s p))
      go ih Nothing d = rw d
      go ih (Frame i) d = rw d
      go ih (Page s p) d =
          rw d (ap (frame w (wide_table z w b) n) (sym (lender_widened z w fits some_page live b len long sound k s p d)) ∙ ih (key z s p))

  -- and it ends at the same frame
  pub frame_widened : (k : ℕ) → frame_of w (wide_table z w b) (widen z w k) ≡ frame_of z (slot_at b) k
  frame_widened k =
      frame_followed w.spaces k
      ∙ frame_fuel (the_line z live (slot_at b) len sound k) w.spaces z.spaces (omega (arith, fits.spaces_fit, fit)) fit
    where
      fit : length (line_of z (slot_at b) k) ≤ z.spaces
      fit = line_fits z live (slot_at b) len sound k

  -- and a held page has as many links to it
  pub links_widened : (k : ℕ) → T (held (slot_at b k)) → links_of w (wide_table z w b) (widen z w k) ≡ links_of z (slot_at b) k
  links_widened k h =
      links_are_pages w (wide_live z w live) (wide_table z w b) long_wide sound_wide (widen z w k) (rw (slot_widened z w fits some_page live b len long sound k) h)
      ∙ (ap length (line_widened k) ∙ (length-map (line_of z (slot_at b) k) (widen z w) ∙ sym (links_are_pages z live (slot_at b) len sound k h)))

  -- ── pages that are not shared ──────────────────────────────────────────
  -- such a page is alone on its line
  line_rest : (k : ℕ) → T (not (shared z w k)) → line_of w (wide_table z w b) k ≡ k ∷ []
  line_rest k n = line_top w (wide_live z w live) (wide_table z w b) long_wide sound_wide k (rest_top z w fits some_page live b len long sound k n)

  -- so none of the smaller sizes is on it
  pub on_line_rest : (k y : ℕ) → T (not (shared z w k)) → y < slot_count z → is_on_line w (wide_table z w b) k (widen z w y) ≡ false
  on_line_rest k y n h = rw (line_rest k n, eqb_rest z w fits some_page k y n h)

  -- it is below none
  pub below_rest : (k y : ℕ) → T (not (shared z w k)) → below w (wide_table z w b) k y ≡ false
  below_rest k y n = below_top w (wide_live z w live) (wide_table z w b) long_wide sound_wide k y (rest_top z w fits some_page live b len long sound k n)

  -- and meets its own space alone
  pub meets_rest : (k s : ℕ) → T (not (shared z w k)) → meets w (wide_table z w b) k s ≡ eqb (space_of w k) s
  meets_rest k s n = rw (line_rest k n) (or_false (eqb (space_of w k) s))
