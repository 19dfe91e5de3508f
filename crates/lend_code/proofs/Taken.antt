-- What the code of map and grant does to a board, by arrays of rights and sets of pages, is what the rules say on a sound board.
use mathlib.Core.Path.{◌≡◌, refl, sym, ap, ◌∙◌, fun_ext}
use mathlib.Core.Bool.{Bool, true, false, not, ◌&&◌, ◌||◌, cond}
use mathlib.Core.List.{List}
use Prim.Native.Nat.{ℕ, ◌<◌}
use native.Mathlib.Decide.{ℕ_discrete}
use native.Mathlib.Omega.{arith}
use lib.Dec.{T, eqb, eqb→eq}
use lib.ListN.{length, get_or, length-set}
use lib.Seq.{ext_get_or, get_or-set_same, get_or-set_other}
use borrow.Author.Tests.{eq-eqb}
use Rattle.lend.specs.declared.Place.{Place}
use Rattle.lend.specs.declared.Count.{Count}
use Rattle.lend.specs.declared.Slot.{Slot}
use Rattle.lend.specs.Sizes.{Sizes, slot_count, key}
use Rattle.lend.specs.Lists.{count}
use Rattle.lend.specs.Slots.{Table, empty_slot, slot_at, with_rights, cut}
use Rattle.lend.specs.Tables.{Tables, alone, table_of}
use Rattle.lend.specs.Summary.{summary_of}
use Rattle.lend.specs.Cache.{empty_place, filled, page_named, place_at, names, place_for, dropped, dropped_where, lost_right}
use Rattle.lend.specs.Sound.{SoundPages, SoundCache, Sound}
use Rattle.lend.specs.Withdraw.{flushed}
use Rattle.lend.specs.Emptied.{emptied}
use Rattle.lend.specs.Calls.{emptied_reply, with_slots}
use Rattle.lend_basics.proofs.Bools.{and_l, and_r, or_true, or_false}
use Rattle.lend_basics.proofs.Rights.{less_zero}
use Rattle.lend_sound.proofs.Places.{key_space, key_page}
use Rattle.lend_sound.proofs.SoundTest.{place_for_law}
use Rattle.lend_laws.proofs.Withdraw.{rights_small}
use Rattle.lend_laws.proofs.CacheDrops.{at_dropped, length_dropped}
use Rattle.lend_laws.proofs.Flush.{length_flushed, flushed_at}
use Rattle.lend_laws.proofs.Emptied.{rights_count}
use Rattle.lend_lending.proofs.Insert.{lowest_passes}
use Rattle.lend_code.specs.Inner.{has, line_has, rights_of, rights_left, lost_all, lost_in, only_page, cut_slots}
use Rattle.lend_code.specs.Lending.{taken_of}
use Rattle.lend_code.proofs.Columns.{slots_long, rights_at, cut_slots_law}
use Rattle.lend_code.proofs.Withdrawals.{reached_has}

-- ── a flush ──────────────────────────────────────────────────────────────
-- on a sound table, the pages with y on their line that lose d are a flush of y
pub cut_flushed : (z : Sizes) (live : List Bool) (b : List Slot) → length live ≡ z.spaces → length b ≡ slot_count z → SoundPages z live (slot_at b)
    → (y d : ℕ) → y < slot_count z → cut_slots z b (line_has z b (only_page z y)) d ≡ flushed z y d b
unfolding cut_slots
cut_flushed z live b len long sound y d hy =
    ext_get_or empty_slot (cut_slots z b under d) (flushed z y d b) (slots_long z b _ ∙ sym (length_flushed z y d b ∙ long))
    (λ k l. at k (omega (arith, slots_long z b (rights_left z (rights_of z b) under d))))
  where
    under : List Bool
    under = line_has z b (only_page z y)

    by_test : (k : ℕ) (t : Bool) → cond t (cut d (slot_at b k)) (with_rights (slot_at b k).rights (slot_at b k)) ≡ cut (cond t d 0) (slot_at b k)
    by_test k true = refl
    by_test k false = ap (λ (r : ℕ). with_rights r (slot_at b k)) (sym (less_zero (slot_at b k).rights (rights_small z live (slot_at b) sound k)))

    at : (k : ℕ) → k < slot_count z → slot_at (cut_slots z b under d) k ≡ slot_at (flushed z y d b) k
    at k h =
        cut_slots_law z b under d k long h
        ∙ (by_test k (has under k)
        ∙ (ap (λ (t : Bool). cut (cond t d 0) (slot_at b k)) (reached_has z b y k hy h)
        ∙ sym (flushed_at z live b len sound y d k)))

-- ── the cache ────────────────────────────────────────────────────────────
either : (t : Bool) (q : Place) → cond t q q ≡ q
either true q = refl
either false q = refl

-- the place that is found for a page names it
place_names : (u v : ℕ) (c : List Place) → place_for u v c < length c → T (names u v (place_at c (place_for u v c)))
unfolding place_for
place_names u v c l = lowest_passes (names u v) c l

-- on a sound cache, to drop the place found for a page is to drop every place that names it
entry_dropped : (z : Sizes) (f : Table) (c : List Place) (next : ℕ) → SoundCache z f c next → (t : ℕ → Bool) (u v : ℕ) → v < z.pages
    → dropped_where z t (dropped c (place_for u v c)) ≡ dropped_where z (λ k. t k || eqb k (key z u v)) c
entry_dropped z f c next sound t u v hv =
    ext_get_or empty_place (dropped_where z t (dropped c i)) (dropped_where z both c)
    (length_dropped z t (dropped c i) ∙ (length-set c i empty_place ∙ sym (length_dropped z both c)))
    (λ j l. at_dropped z t (dropped c i) j ∙ (at j (omega (arith, length_dropped z t (dropped c i), length-set c i empty_place)) (ℕ_discrete j i) ∙ sym (at_dropped z both c j)))
  where
    i : ℕ
    i = place_for u v c

    both : ℕ → Bool
    both k = t k || eqb k (key z u v)

    kept : (ℕ → Bool) → Place → Place
    kept test q = cond (test (page_named z q)) empty_place q

    -- the place that is found
    found : i < length c → kept both (place_at c i) ≡ empty_place
    found l =
        let o = place_names u v c l in
        let es : (place_at c i).space ≡ u = eqb→eq (place_at c i).space u (search (and_l, and_r) depth 12) in
        let ep : (place_at c i).page ≡ v = eqb→eq (place_at c i).page v (search (and_l, and_r) depth 12) in
        let e : page_named z (place_at c i) ≡ key z u v = rw (es, ep) in
        rw (eq-eqb (page_named z (place_at c i)) (key z u v) e, or_true (t (page_named z (place_at c i))))

    -- any other place
    other : (j : ℕ) → (j ≡ i → ⊥) → (n : Bool) → eqb (page_named z (place_at c j)) (key z u v) ≡ n → (h : Bool) → filled (place_at c j) ≡ h
        → kept t (place_at c j) ≡ cond (t (page_named z (place_at c j)) || n) empty_place (place_at c j)
    other j apart false e h g = rw (or_false (t (page_named z (place_at c j))))
    other j apart true e false g =
        let q : place_at c j ≡ empty_place = sound.empty_form j (rw g tt) in
        rw q (either (t (page_named z empty_place)) empty_place ∙ sym (either (t (page_named z empty_place) || true) empty_place))
    other j apart true e true g =
        let w = sound.filled_names j (rw g tt) in
        let q : page_named z (place_at c j) ≡ key z u v = eqb→eq (page_named z (place_at c j)) (key z u v) (rw e tt) in
        let es : (place_at c j).space ≡ u = key_space z (place_at c j).space (place_at c j).page u v w.page_in hv q in
        let ep : (place_at c j).page ≡ v = key_page z (place_at c j).space (place_at c j).page u v w.page_in hv q in
        absurd (apart (sym (place_for_law z f c next sound j (rw g tt)) ∙ rw (es, ep)))

    at : (j : ℕ) → j < length c → Dec (j ≡ i) → kept t (place_at (dropped c i) j) ≡ kept both (place_at c j)
    at j l (yes e) =
        let m : i < length c = rw e at l in
        rw (e, get_or-set_same c i empty_place empty_place m) (either (t (page_named z empty_place)) empty_place ∙ sym (found m))
    at j l (no e) =
        rw (get_or-set_other c i j empty_place empty_place e)
        (other j e (eqb (page_named z (place_at c j)) (key z u v)) refl (filled (place_at c j)) refl)

-- ── the board ────────────────────────────────────────────────────────────
-- on sound tables, the pages that had a right before and have none after are those that were emptied
pub lost_between : (z : Sizes) (live more : List Bool) (b new : List Slot) → length b ≡ slot_count z → length new ≡ slot_count z
    → SoundPages z live (slot_at b) → SoundPages z more (slot_at new) → lost_all z (rights_of z b) (rights_of z new) ≡ emptied b new
unfolding lost_all
lost_between z live more b new long new-long before after =
    ap (count (slot_count z)) (fun_ext (λ k. rw (rights_at z b k long, rights_at z new k new-long)))
    ∙ (ap (λ (n : ℕ). count n (λ k. not (eqb (slot_at b k).rights 0) && eqb (slot_at new k).rights 0)) (sym long)
    ∙ sym (rights_count z live more b new before after))

module _ (z : Sizes) (b : Tables) (sound : Sound z b) (new : List Slot) (u v : ℕ) (hv : v < z.pages) (long : length new ≡ slot_count z)
    (after-sound : SoundPages z b.live (slot_at new)) where
  before_at : (k : ℕ) → get_or (rights_of z b.slots) k 0 ≡ (table_of b k).rights
  before_at k = rights_at z b.slots k sound.shape.slots_long

  after_at : (k : ℕ) → get_or (rights_of z new) k 0 ≡ (slot_at new k).rights
  after_at k = rights_at z new k long

  lost_are : lost_all z (rights_of z b.slots) (rights_of z new) ≡ emptied b.slots new
  lost_are = lost_between z b.live b.live b.slots new sound.shape.slots_long long sound.pages after-sound

  lost_same : lost_in (rights_of z b.slots) (rights_of z new) ≡ lost_right (table_of b) (slot_at new)
  unfolding lost_right
  lost_same = fun_ext (λ k. rw (before_at k, after_at k))

  places_are : dropped_where z (lost_in (rights_of z b.slots) (rights_of z new)) (dropped b.places (place_for u v b.places))
      ≡ dropped_where z (λ k. lost_right (table_of b) (slot_at new) k || eqb k (key z u v)) b.places
  places_are =
      ap (λ (t : ℕ → Bool). dropped_where z t (dropped b.places (place_for u v b.places))) lost_same
      ∙ entry_dropped z (table_of b) b.places b.next sound.cache (lost_right (table_of b) (slot_at new)) u v hv

  pub taken_is : (counts : List Count) → counts ≡ summary_of z (slot_at new)
      → taken_of z b new counts u v ≡ record { reply = emptied_reply b.slots new; state = alone (with_slots z b new (λ k. eqb k (key z u v))) }
  unfolding taken_of
  taken_is counts e = λ i. record {
    reply = record { number = 0; emptied = lost_are i; address = 0; hit = false; links = 0; byte = 0 };
    state = record {
      board = record { slots = new; live = b.live; places = places_are i; next = b.next; summary = e i };
      memory = (alone b).memory;
    };
  }
