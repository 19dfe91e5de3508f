-- A map and a grant from the checks of what they name and of the lines to their outcome, over plain variables.
use mathlib.Core.Path.{◌≡◌, refl, ap, ◌∙◌}
use mathlib.Core.Bool.{Bool, ◌||◌}
use mathlib.Core.List.{List}
use Prim.Native.Nat.{ℕ, ◌<◌}
use native.Mathlib.Omega.{arith}
use lib.Dec.{eqb}
use lib.ListN.{set}
use Rattle.std.proofs.lemmas.Bool.{eqb-false}
use Rattle.lend.specs.declared.Slot.{Slot}
use Rattle.lend.specs.declared.Count.{Count}
use Rattle.lend.specs.declared.refusal.Refusal.{Refusal}
use Rattle.lend.specs.Sizes.{Sizes, slot_count, key}
use Rattle.lend.specs.Slots.{lent_slot}
use Rattle.lend.specs.Tables.{Tables, alone, table_of}
use Rattle.lend.specs.Line.{frame_of}
use Rattle.lend.specs.Cache.{place_for, dropped, dropped_where}
use Rattle.lend.specs.Sound.{Sound}
use Rattle.lend.specs.Lending.{giver_loses, grant_source}
use Rattle.lend.specs.Refusals.{number_of, refusal_not_done}
use Rattle.lend.specs.Calls.{Outcome, Map, Grant, step, refuse, plain_reply}
use Rattle.lend_summary.specs.Counts.{less_at}
use Rattle.lend_code.specs.Inner.{rights_of, lost_all, lost_in, line_has, only_page, cut_slots, cut_lost, with_summary}
use Rattle.lend_code.specs.Lending.{named_checks, named_number, lines_number, linked_in, taken_of}
use Rattle.lend_code.proofs.LendingNumbers.{NamedFine, map_named_fine, grant_named_fine}
use Rattle.lend_code.proofs.LendingCalls.{named_checked, map_refused, map_refused_lines, map_done, grant_refused, grant_refused_lines, grant_done}
use Rattle.board.specs.Model.{sizes, IsModel}
use Rattle.board.specs.Board.{with_slots, with_places}

-- a model's pages are few enough to be counted in 16 bits
pub few_slots : {spaces pages slots places : ℕ} → IsModel spaces pages slots places → slot_count (sizes spaces pages places) < 65535
few_slots m = omega (arith, m.slots_are, m.few_slots)

-- no refusal has the number of what is done
not_done : (r : Refusal) → number_of r ≡ 0 → ⊥
not_done r = eqb-false (number_of r) 0 (refusal_not_done r)

-- what `settle` makes of a board with new slots and counts
settled : (z : Sizes) (b : Tables) (new : List Slot) (counts : List Count) (u v n : ℕ) (linked last : Tables) (before : List ℕ)
    → linked ≡ with_summary (with_slots b new) counts → before ≡ rights_of z b.slots
    → last ≡ with_places linked (dropped_where z (lost_in before (rights_of z linked.slots)) (dropped linked.places (place_for u v linked.places)))
    → n ≡ lost_all z before (rights_of z linked.slots)
    → ◌≡◌ {A = Outcome} (record { reply = plain_reply 0 n; state = alone last }) (taken_of z b new counts u v)
unfolding taken_of
settled z b new counts u v n linked last before hk hb hl hn = rw (hn, hl, hb, hk)

-- ── map ──────────────────────────────────────────────────────────────────
module _ (z : Sizes) (few : slot_count z < 65535) (b : Tables) (sound : Sound z b) (s p u v r : ℕ) where
  map_number : (n : ℕ) → n ≡ named_checks z b.live s p u v r (eqb u 0) → n ≡ named_number z b s p u v r (eqb u 0)
  map_number n e = e ∙ named_checked z b sound s p u v r (eqb u 0)

  pub map_err : (e : Refusal) → number_of e ≡ named_checks z b.live s p u v r (eqb u 0) → refuse (alone b) (number_of e) ≡ step z (alone b) (Map s p u v r)
  map_err e h = map_refused z few b s p u v r (number_of e) (map_number (number_of e) h) (not_done e)

  pub map_shows : 0 ≡ named_checks z b.live s p u v r (eqb u 0) → NamedFine z b s p u v r (eqb u 0)
  map_shows h = map_named_fine z b s p u v r 0 (map_number 0 h) refl

  module _ (none : 0 ≡ named_checks z b.live s p u v r (eqb u 0)) where
    pub map_err_lines : (g t : ℕ) → g ≡ key z s p → t ≡ key z u v → (itself under : List Bool) → itself ≡ only_page z t → under ≡ line_has z b.slots itself
        → (e : Refusal) → number_of e ≡ lines_number z b.slots under g g t r → refuse (alone b) (number_of e) ≡ step z (alone b) (Map s p u v r)
    map_err_lines g t hg ht =
        rw (hg, ht) (λ itself under ho hu e h. map_refused_lines z few b s p u v r 0 (map_number 0 none) refl itself under (number_of e) ho hu h (not_done e))

    pub map_made : (g t : ℕ) → g ≡ key z s p → t ≡ key z u v → (itself under : List Bool) → itself ≡ only_page z t → under ≡ line_has z b.slots itself
        → 0 ≡ lines_number z b.slots under g g t r → (n : ℕ) (linked last : Tables) (before : List ℕ)
        → linked ≡ with_summary (with_slots b (set (cut_slots z b.slots under 7) t (lent_slot s p r))) (linked_in z b.slots b.summary t g (cut_lost z b.slots under 7) r)
        → before ≡ rights_of z b.slots
        → last ≡ with_places linked (dropped_where z (lost_in before (rights_of z linked.slots)) (dropped linked.places (place_for u v linked.places)))
        → n ≡ lost_all z before (rights_of z linked.slots)
        → ◌≡◌ {A = Outcome} (record { reply = plain_reply 0 n; state = alone last }) (step z (alone b) (Map s p u v r))
    map_made g t hg ht =
        rw (hg, ht)
        (λ itself under ho hu h n linked last before hk hb hl hn.
        settled z b _ _ u v n linked last before hk hb hl hn
        ∙ map_done z few b s p u v r 0 (map_number 0 none) refl itself under 0 ho hu h refl _ refl _ refl _ refl)

-- ── grant ────────────────────────────────────────────────────────────────
module _ (z : Sizes) (few : slot_count z < 65535) (b : Tables) (sound : Sound z b) (s p u v r : ℕ) where
  grant_number : (n : ℕ) → n ≡ named_checks z b.live s p u v r (eqb u 0 || eqb s 0) → n ≡ named_number z b s p u v r (eqb u 0 || eqb s 0)
  grant_number n e = e ∙ named_checked z b sound s p u v r (eqb u 0 || eqb s 0)

  pub grant_err : (e : Refusal) → number_of e ≡ named_checks z b.live s p u v r (eqb u 0 || eqb s 0)
      → refuse (alone b) (number_of e) ≡ step z (alone b) (Grant s p u v r)
  grant_err e h = grant_refused z few b s p u v r (number_of e) (grant_number (number_of e) h) (not_done e)

  pub grant_shows : 0 ≡ named_checks z b.live s p u v r (eqb u 0 || eqb s 0) → NamedFine z b s p u v r (eqb u 0 || eqb s 0)
  grant_shows h = grant_named_fine z b s p u v r 0 (grant_number 0 h) refl

  module _ (none : 0 ≡ named_checks z b.live s p u v r (eqb u 0 || eqb s 0)) where
    pub grant_err_lines : (g t : ℕ) → g ≡ key z s p → t ≡ key z u v → (itself under : List Bool) (source : ℕ) → itself ≡ only_page z t → under ≡ line_has z b.slots itself
        → source ≡ grant_source z (table_of b g).link g → (e : Refusal) → number_of e ≡ lines_number z b.slots under g source t r
        → refuse (alone b) (number_of e) ≡ step z (alone b) (Grant s p u v r)
    grant_err_lines g t hg ht =
        rw (hg, ht)
        (λ itself under source ho hu hs e h.
        grant_refused_lines z few b s p u v r 0 (grant_number 0 none) refl itself under source (number_of e) ho hu hs h (not_done e))

    pub grant_made : (g t : ℕ) → g ≡ key z s p → t ≡ key z u v → (itself under : List Bool) (source : ℕ) → itself ≡ only_page z t → under ≡ line_has z b.slots itself
        → source ≡ grant_source z (table_of b g).link g → 0 ≡ lines_number z b.slots under g source t r
        → (linked freed counted last : Tables) (giver below : List Bool) (d frame j n : ℕ) (given : Count) (before : List ℕ)
        → linked ≡ with_summary (with_slots b (set (cut_slots z b.slots under 7) t (record { link = (table_of b g).link; rights = r }))) (linked_in z b.slots b.summary t g (cut_lost z b.slots under 7) r)
        → giver ≡ only_page z g → below ≡ line_has z linked.slots giver → d ≡ giver_loses r
        → freed ≡ with_slots linked (cut_slots z linked.slots below d) → given ≡ cut_lost z linked.slots below d
        → frame ≡ frame_of z (table_of b) g → j ≡ frame → counted ≡ with_summary freed (less_at freed.summary j given)
        → before ≡ rights_of z b.slots
        → last ≡ with_places counted (dropped_where z (lost_in before (rights_of z counted.slots)) (dropped counted.places (place_for u v counted.places)))
        → n ≡ lost_all z before (rights_of z counted.slots)
        → ◌≡◌ {A = Outcome} (record { reply = plain_reply 0 n; state = alone last }) (step z (alone b) (Grant s p u v r))
    grant_made g t hg ht =
        rw (hg, ht)
        (λ itself under source ho hu hs h linked freed counted last giver below d frame j n given before hk hv hw hd hf hc hr hj ha hb hl hn.
        let new : List Slot = set (cut_slots z b.slots under 7) (key z u v) (record { link = (table_of b (key z s p)).link; rights = r }) in
        let more : List Count = linked_in z b.slots b.summary (key z u v) (key z s p) (cut_lost z b.slots under 7) r in
        let all : counted ≡ with_summary (with_slots b (cut_slots z new below d)) (less_at more j given) = rw (ha, hf, hk) in
        settled z b (cut_slots z new below d) (less_at more j given) u v n counted last before all hb hl hn
        ∙ grant_done z few b s p u v r 0 (grant_number 0 none) refl itself under source 0 ho hu hs h refl _ refl _ refl
        new refl giver hv below (hw ∙ ap (λ (x : Tables). line_has z x.slots giver) hk) d hd _ refl given (hc ∙ ap (λ (x : Tables). cut_lost z x.slots below d) hk)
        more refl j (hj ∙ hr) _ refl)
