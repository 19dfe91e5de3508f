-- What unmap, flush, map, grant and delete make of the slots is the same at larger sizes.
use mathlib.Core.Path.{◌≡◌, sym, ap, ◌∙◌}
use mathlib.Core.Bool.{Bool, false, not, cond}
use mathlib.Core.List.{List}
use Prim.Native.Nat.{ℕ, ◌≤◌, ◌<◌}
use native.Mathlib.Nat.{div-eq_of_lt}
use native.Mathlib.Decide.{ℕ_discrete}
use native.Mathlib.Omega.{arith}
use lib.Dec.{T, T_not}
use lib.ListN.{length, set, length-set}
use lib.Seq.{ext_get_or, get_or-set_same, get_or-set_other}
use borrow.Author.Tests.{ne_eqb}
use Rattle.lend.specs.declared.Link.TheVariants.{Page}
use Rattle.lend.specs.declared.Slot.{Slot}
use Rattle.lend.specs.Sizes.{Sizes, slot_count}
use Rattle.lend.specs.Rights.{all_rights}
use Rattle.lend.specs.Slots.{empty_slot, lent_slot, cut, slot_at}
use Rattle.lend.specs.Tables.{alive}
use Rattle.lend.specs.Line.{is_on_line, below, meets}
use Rattle.lend.specs.Sound.{SoundPages}
use Rattle.lend.specs.Withdraw.{unmapped, flushed}
use Rattle.lend.specs.Lending.{giver_loses, mapped, granted}
use Rattle.lend.specs.Spaces.{wiped}
use Rattle.lend_laws.proofs.Withdraw.{cut_empty, cut_zero}
use Rattle.lend_laws.proofs.Flush.{length_unmapped, length_flushed, unmapped_at, flushed_at}
use Rattle.lend_laws.proofs.Spaces.{length_wiped, wiped_at}
use Rattle.lend_lending.proofs.Map.{length_mapped}
use Rattle.lend_lending.proofs.Grant.{granted_is}
use Rattle.lend_models.specs.Embedding.{Fits, shared, wide_slots, wide_live}
use Rattle.lend_models.proofs.Wide.{widen, widen_same, widen_in, widen_shared, wide_page, wide_at, wide_rest, wide_live_at, length_wide, length_wide_live}
use Rattle.lend_models.proofs.WidePages.{wide_table, each_page, slot_widened, rest_either, wide_pages}
use Rattle.lend_models.proofs.WideLines.{on_line_widened, below_widened, meets_widened, on_line_rest, below_rest, meets_rest}

module _ (z w : Sizes) (fits : Fits z w) (some_page : 1 ≤ z.pages) where
  -- slots that keep what the smaller board's pages keep, and are as at the start elsewhere, are the larger board's
  slots_are : (b large : List Slot) → length large ≡ slot_count w → ((j : ℕ) → j < slot_count z → slot_at large (widen z w j) ≡ slot_at b j)
      → ((k : ℕ) → T (not (shared z w k)) → slot_at large k ≡ wide_table z w b k) → wide_slots z w b ≡ large
  slots_are b large len same rest =
      ext_get_or empty_slot (wide_slots z w b) large (length_wide z w fits some_page b ∙ sym len)
      (λ k l. each_page z w fits some_page (λ (k : ℕ). wide_table z w b k ≡ slot_at large k)
      (λ j h. wide_at z w fits some_page b j h ∙ sym (same j h)) (λ k n. sym (rest k n)) k)

  -- pages that are not shared keep nothing of the smaller board's slots
  pub rest_same : (b c : List Slot) (k : ℕ) → T (not (shared z w k)) → wide_table z w b k ≡ wide_table z w c k
  rest_same b c k n = wide_rest z w fits some_page b k n ∙ sym (wide_rest z w fits some_page c k n)

  -- a slot is set at the same page
  wide_set : (b : List Slot) (t : ℕ) (x : Slot) → length b ≡ slot_count z → t < slot_count z → wide_slots z w (set b t x) ≡ set (wide_slots z w b) (widen z w t) x
  wide_set b t x long h =
      slots_are (set b t x) (set (wide_slots z w b) (widen z w t) x) (length-set (wide_slots z w b) (widen z w t) x ∙ length_wide z w fits some_page b)
      (λ j l. is j l (ℕ_discrete j t))
      (λ k n. get_or-set_other (wide_slots z w b) (widen z w t) k x empty_slot (λ e. T_not (shared z w k) n (rw e (widen_shared z w fits some_page t h))) ∙ rest_same b (set b t x) k n)
    where
      is : (j : ℕ) → j < slot_count z → Dec (j ≡ t) → slot_at (set (wide_slots z w b) (widen z w t) x) (widen z w j) ≡ slot_at (set b t x) j
      is j l (yes e) =
          rw (e, get_or-set_same b t x empty_slot (omega arith))
          (get_or-set_same (wide_slots z w b) (widen z w t) x empty_slot (omega (arith, length_wide z w fits some_page b, widen_in z w fits some_page t h)))
      is j l (no e) =
          get_or-set_other (wide_slots z w b) (widen z w t) (widen z w j) x empty_slot (λ d. e (widen_same z w fits some_page j t d))
          ∙ (wide_at z w fits some_page b j l ∙ sym (get_or-set_other b t j x empty_slot e))

module _ (z w : Sizes) (fits : Fits z w) (some_page : 1 ≤ z.pages) (live : List Bool) (b : List Slot)
    (len : length live ≡ z.spaces) (long : length b ≡ slot_count z) (sound : SoundPages z live (slot_at b)) where
  -- the larger table is sound
  large_sound : SoundPages w (wide_live z w live) (wide_table z w b)
  large_sound = wide_pages z w fits some_page live b len long sound

  -- and there is one entry for each of its spaces
  large_long : length (wide_live z w live) ≡ w.spaces
  large_long = length_wide_live z w live

  -- amounts that are the same at both sizes, and change nothing at a page that is not shared, leave the same
  cut_same : (a c : ℕ → ℕ) (small large : List Slot) → length large ≡ slot_count w
      → ((j : ℕ) → slot_at small j ≡ cut (a j) (slot_at b j)) → ((k : ℕ) → slot_at large k ≡ cut (c k) (wide_table z w b k))
      → ((j : ℕ) → c (widen z w j) ≡ a j) → ((k : ℕ) → T (not (shared z w k)) → cut (c k) (wide_table z w b k) ≡ wide_table z w b k)
      → wide_slots z w small ≡ large
  cut_same a c small large long-large small_is large_is same rest =
      slots_are z w fits some_page small large long-large
      (λ j l. large_is (widen z w j) ∙ (rw (same j, slot_widened z w fits some_page live b len long sound j) (sym (small_is j))))
      (λ k n. large_is k ∙ (rest k n ∙ rest_same z w fits some_page b small k n))

  -- where the test fails the page keeps its slot
  none_taken : (t : Bool) (d k : ℕ) → t ≡ false → cut (cond t d 0) (wide_table z w b k) ≡ wide_table z w b k
  none_taken t d k e = rw e (cut_zero w (wide_live z w live) (wide_table z w b) large_sound k)

  -- an unmap leaves the same slots
  pub wide_unmapped : (y d : ℕ) → wide_slots z w (unmapped z y d b) ≡ unmapped w (widen z w y) d (wide_slots z w b)
  wide_unmapped y d =
      cut_same (λ j. cond (below z (slot_at b) j y) d 0) (λ k. cond (below w (wide_table z w b) k (widen z w y)) d 0)
      (unmapped z y d b) (unmapped w (widen z w y) d (wide_slots z w b))
      (length_unmapped w (widen z w y) d (wide_slots z w b) ∙ length_wide z w fits some_page b)
      (unmapped_at z live b len sound y d)
      (unmapped_at w (wide_live z w live) (wide_slots z w b) large_long large_sound (widen z w y) d)
      (λ j. rw (below_widened z w fits some_page live b len long sound j y))
      (λ k n. none_taken (below w (wide_table z w b) k (widen z w y)) d k (below_rest z w fits some_page live b len long sound k (widen z w y) n))

  -- so does a flush
  pub wide_flushed : (y d : ℕ) → y < slot_count z → wide_slots z w (flushed z y d b) ≡ flushed w (widen z w y) d (wide_slots z w b)
  wide_flushed y d h =
      cut_same (λ j. cond (is_on_line z (slot_at b) j y) d 0) (λ k. cond (is_on_line w (wide_table z w b) k (widen z w y)) d 0)
      (flushed z y d b) (flushed w (widen z w y) d (wide_slots z w b))
      (length_flushed w (widen z w y) d (wide_slots z w b) ∙ length_wide z w fits some_page b)
      (flushed_at z live b len sound y d)
      (flushed_at w (wide_live z w live) (wide_slots z w b) large_long large_sound (widen z w y) d)
      (λ j. rw (on_line_widened z w fits some_page live b len long sound j y))
      (λ k n. none_taken (is_on_line w (wide_table z w b) k (widen z w y)) d k (on_line_rest z w fits some_page live b len long sound k y n h))

  -- a delete, which at the larger sizes flushes more pages of the space: empty ones
  pub wide_wiped : (s : ℕ) → 1 ≤ s → wide_slots z w (wiped z s b) ≡ wiped w s (wide_slots z w b)
  wide_wiped s out =
      cut_same (λ j. cond (meets z (slot_at b) j s) all_rights 0) (λ k. cond (meets w (wide_table z w b) k s) all_rights 0)
      (wiped z s b) (wiped w s (wide_slots z w b))
      (length_wiped w s (wide_slots z w b) ∙ length_wide z w fits some_page b)
      (wiped_at z live b len sound s out some_page)
      (wiped_at w (wide_live z w live) (wide_slots z w b) large_long large_sound s out (wide_page z w fits some_page))
      (λ j. rw (meets_widened z w fits some_page live b len long sound j s))
      rest
    where
      rest : (k : ℕ) → T (not (shared z w k)) → cut (cond (meets w (wide_table z w b) k s) all_rights 0) (wide_table z w b k) ≡ wide_table z w b k
      rest k n =
          rest_either z w fits some_page live b len long sound k (cut (cond (meets w (wide_table z w b) k s) all_rights 0) (wide_table z w b k) ≡ wide_table z w b k) n
          (λ h e. none_taken (meets w (wide_table z w b) k s) all_rights k
          (meets_rest z w fits some_page live b len long sound k s n ∙ rw (div-eq_of_lt h) (ne_eqb 0 s (λ q. omega arith))))
          (λ h e. rw e (cut_empty (cond (meets w (wide_table z w b) k s) all_rights 0)))

  -- a map
  pub wide_mapped : (s p t r : ℕ) → t < slot_count z → wide_slots z w (mapped z s p t r b) ≡ mapped w s p (widen z w t) r (wide_slots z w b)
  unfolding mapped
  wide_mapped s p t r h =
      wide_set z w fits some_page (flushed z t all_rights b) t (lent_slot s p r) (length_flushed z t all_rights b ∙ long) h
      ∙ ap (λ (x : List Slot). set x (widen z w t) (lent_slot s p r)) (wide_flushed t all_rights h)

-- and a grant of a page that was lent
pub wide_granted : (z w : Sizes) → Fits z w → 1 ≤ z.pages → (live : List Bool) (b : List Slot) → length live ≡ z.spaces → length b ≡ slot_count z
    → SoundPages z live (slot_at b) → (g t r s p : ℕ) → g < slot_count z → t < slot_count z → (slot_at b g).link ≡ Page s p
    → SoundPages z live (slot_at (mapped z s p t r b))
    → wide_slots z w (granted z g t r b) ≡ granted w (widen z w g) (widen z w t) r (wide_slots z w b)
wide_granted z w fits some_page live b len long sound g t r s p hg ht e after =
    ap (wide_slots z w) (granted_is z g t r b s p e)
    ∙ (wide_flushed z w fits some_page live (mapped z s p t r b) len (length_mapped z s p t r b ∙ long) after g (giver_loses r) hg
    ∙ (ap (flushed w (widen z w g) (giver_loses r)) (wide_mapped z w fits some_page live b len long sound s p t r ht)
    ∙ sym (granted_is w (widen z w g) (widen z w t) r (wide_slots z w b) s p
    (ap (λ (x : Slot). x.link) (slot_widened z w fits some_page live b len long sound g) ∙ e))))

-- a space is made live or not at both sizes
pub wide_live_set : (z w : Sizes) → Fits z w → 2 ≤ z.spaces → (live : List Bool) → length live ≡ z.spaces → (s : ℕ) (is : Bool) → s < z.spaces
    → wide_live z w (set live s is) ≡ set (wide_live z w live) s is
wide_live_set z w fits two live len s is h =
    ext_get_or false (wide_live z w (set live s is)) (set (wide_live z w live) s is)
    (length_wide_live z w (set live s is) ∙ sym (length-set (wide_live z w live) s is ∙ length_wide_live z w live))
    (λ x l. wide_live_at z w fits two (set live s is) (length-set live s is ∙ len) x ∙ at x (ℕ_discrete x s))
  where
    at : (x : ℕ) → Dec (x ≡ s) → alive (set live s is) x ≡ alive (set (wide_live z w live) s is) x
    at x (yes e) =
        rw (e, get_or-set_same live s is false (omega arith))
        (sym (get_or-set_same (wide_live z w live) s is false (omega (arith, length_wide_live z w live, fits.spaces_fit))))
    at x (no e) =
        get_or-set_other live s x is false e
        ∙ (sym (wide_live_at z w fits two live len x) ∙ sym (get_or-set_other (wide_live z w live) s x is false e))
