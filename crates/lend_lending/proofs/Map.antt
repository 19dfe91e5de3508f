-- map: what an accepted one has shown, and that it keeps a sound board sound.
use mathlib.Core.Path.{◌≡◌, refl, sym, subst, ap, ◌∙◌, fun_ext}
use mathlib.Core.Bool.{Bool, false, not, ◌||◌, cond}
use mathlib.Core.List.{List}
use Prim.Native.Nat.{ℕ, ◌≤◌, ◌<◌}
use native.Mathlib.Nat.{mul-le-mul_right}
use native.Mathlib.Decide.{ℕ_discrete}
use native.Mathlib.Omega.{arith}
use lib.Dec.{T, eqb, ltb, eqb_refl, lit<, nleb→lt, nltb→le, T_not}
use lib.ListN.{length, set, length-set}
use lib.Seq.{get_or-set_same, get_or-set_other}
use borrow.Author.Tests.{eq-eqb, ne_eqb}
use Rattle.lend.specs.declared.Slot.{Slot}
use Rattle.lend.specs.declared.Place.{Place}
use Rattle.lend.specs.Sizes.{Sizes, slot_count, key, space_of}
use Rattle.lend.specs.Rights.{all_rights, within}
use Rattle.lend.specs.Slots.{Table, empty_slot, lent_slot, held, slot_at}
use Rattle.lend.specs.Tables.{Tables, State, table_of, alive}
use Rattle.lend.specs.Line.{line_of, is_on_line, meets}
use Rattle.lend.specs.Cache.{page_named, lost_right}
use Rattle.lend.specs.Sound.{SoundPages, Names, Sound}
use Rattle.lend.specs.Withdraw.{flushed}
use Rattle.lend.specs.Lending.{mapped}
use Rattle.lend.specs.Numbers.{no_space, not_live, no_page, source_below_taker, taker_below_source}
use Rattle.lend.specs.Calls.{Map, lending_cases, cases, number, with_slots, board_after}
use Rattle.lend_basics.proofs.Bools.{not_not, not_or, is_true, is_false, positive}
use Rattle.lend_basics.proofs.Lists.{any_of}
use Rattle.lend_basics.proofs.Rights.{less_all}
use Rattle.lend_sound.proofs.Lines.{space_of_key, line_self}
use Rattle.lend_sound.proofs.Summary.{summary_long}
use Rattle.lend_laws.proofs.Withdraw.{rights_small, cut_zero, withdraw, Closed, withdraw_sound, meets_kept}
use Rattle.lend_laws.proofs.CacheDrops.{length_dropped, drops_sound, none_lost, names_kept}
use Rattle.lend_laws.proofs.Flush.{length_flushed, flush_closed, flushed_is}
use Rattle.lend_laws.proofs.Spaces.{out_of_pool}
use Rattle.lend_laws.proofs.Accepted.{NoneHolds, no_case}
use Rattle.lend_lending.proofs.Relink.{relink, relink_other, held_names, Linkable, relink_sound}

-- ── what an accepted lending has shown ───────────────────────────────────
-- page v of space u may be linked to page p of space s with the rights r: what 3 to 6, 9 and 11 to 13 leave
pub record Lendable (z : Sizes) (live : List Bool) (f : Table) (s p u v r : ℕ) : Type 0 where
  pub giver_space : s < z.spaces
  pub taker_space : u < z.spaces
  pub giver_live : T (alive live s)
  pub taker_live : T (alive live u)
  pub giver_page : p < z.pages
  pub taker_page : v < z.pages
  pub some_right : 1 ≤ r
  pub known_rights : r ≤ all_rights
  pub taker_out : 1 ≤ u
  pub giver_held : T (held (f (key z s p)))
  pub contained : T (within r (f (key z s p)).rights)
  pub no_ring : T (not (meets z f (key z s p) u))

-- of a map, with 14 and 15 besides
pub record MapFine (z : Sizes) (b : Tables) (s p u v r : ℕ) : Type 0 where
  pub lendable : Lendable z b.live (table_of b) s p u v r
  pub source_apart : T (not (source_below_taker z (table_of b) (key z s p) (key z u v)))
  pub taker_apart : T (not (taker_below_source z (table_of b) (key z s p) (key z u v)))

-- where none of the cases that map and grant share holds, the link may be made
pub lending_fine : (z : Sizes) (b : Tables) (s p u v r : ℕ) (shut : Bool) (source : ℕ) → NoneHolds (lending_cases z b s p u v r shut source)
    → 1 ≤ u → Lendable z b.live (table_of b) s p u v r
lending_fine z b s p u v r shut source n out =
    let o3 = not_or (no_space z s) (no_space z u) n.0 in
    let o4 = not_or (not_live b s) (not_live b u) n.1.0 in
    let o5 = not_or (no_page z p) (no_page z v) n.1.1.0 in
    let o6 = not_or (eqb r 0) (ltb all_rights r) n.1.1.1.0 in
    record {
      giver_space = nleb→lt z.spaces s o3.0;
      taker_space = nleb→lt z.spaces u o3.1;
      giver_live = not_not (alive b.live s) o4.0;
      taker_live = not_not (alive b.live u) o4.1;
      giver_page = nleb→lt z.pages p o5.0;
      taker_page = nleb→lt z.pages v o5.1;
      some_right = positive r o6.0;
      known_rights = nltb→le all_rights r o6.1;
      taker_out = out;
      giver_held = not_not (held (table_of b (key z s p))) n.1.1.1.1.1.0;
      contained = not_not (within r (table_of b (key z s p)).rights) n.1.1.1.1.1.1.0;
      no_ring = n.1.1.1.1.1.1.1.0;
    }

-- what an accepted map has shown
pub map_fine : (z : Sizes) (st : State) (s p u v r : ℕ) → number z st (Map s p u v r) ≡ 0 → MapFine z st.board s p u v r
unfolding cases
map_fine z st s p u v r e =
    let n = no_case z st (Map s p u v r) tt e in
    record {
      lendable = lending_fine z st.board s p u v r (eqb u 0) (key z s p) n (positive u n.1.1.1.1.0);
      source_apart = n.1.1.1.1.1.1.1.1.0;
      taker_apart = n.1.1.1.1.1.1.1.1.1.0;
    }

-- ── tables and boards ────────────────────────────────────────────────────
-- a slot set in a list is a page relinked in the table
pub slot_set : (b : List Slot) (t : ℕ) (x : Slot) → t < length b → slot_at (set b t x) ≡ relink t x (slot_at b)
slot_set b t x h = fun_ext (λ k. go k (ℕ_discrete k t))
  where
    go : (k : ℕ) → Dec (k ≡ t) → slot_at (set b t x) k ≡ relink t x (slot_at b) k
    go k (yes e) = rw (e, get_or-set_same b t x empty_slot h, eq-eqb t t refl)
    go k (no e) = rw (get_or-set_other b t k x empty_slot e, ne_eqb k t e)

-- a page with numbers in range is one of the slots
pub key_in : (z : Sizes) (s p : ℕ) → s < z.spaces → p < z.pages → key z s p < slot_count z
key_in z s p hs hp = omega (arith, mul-le-mul_right z.pages hs)

-- map keeps the number of pages
pub length_mapped : (z : Sizes) (s p t r : ℕ) (b : List Slot) → length (mapped z s p t r b) ≡ length b
unfolding mapped
length_mapped z s p t r b = length-set (flushed z t all_rights b) t (lent_slot s p r) ∙ length_flushed z t all_rights b

-- a page that has all its rights has lost none
pub whole_kept : (f g : Table) (k : ℕ) → T (within (f k).rights (g k).rights) → T (not (lost_right f g k))
unfolding lost_right
whole_kept f g k h = rw (is_true (within (f k).rights (g k).rights) h) tt

-- a board whose slots became other sound ones, where each page but the taker that has all its rights is still named well
pub taken_sound : (z : Sizes) (b : Tables) → Sound z b → (new : List Slot) (t : ℕ) → length new ≡ length b.slots
    → SoundPages z b.live (slot_at new)
    → ((q : Place) → Names z (table_of b) q → (page_named z q ≡ t → ⊥)
    → T (within (table_of b (page_named z q)).rights (slot_at new (page_named z q)).rights) → Names z (slot_at new) q)
    → Sound z (with_slots z b new (λ k. eqb k t))
taken_sound z b sound new t len pages keeps = record {
  shape = record {
    slots_long = len ∙ sound.shape.slots_long;
    live_long = sound.shape.live_long;
    places_long = length_dropped z drop b.places ∙ sound.shape.places_long;
    summary_long = summary_long z (slot_at new);
  };
  pages = pages;
  cache = drops_sound z (table_of b) (slot_at new) drop b.places b.next still sound.cache;
  summary = refl;
}
  where
    drop : ℕ → Bool
    drop k = lost_right (table_of b) (slot_at new) k || eqb k t

    still : (q : Place) → Names z (table_of b) q → T (not (drop (page_named z q))) → Names z (slot_at new) q
    still q n h =
        let o = not_or (lost_right (table_of b) (slot_at new) (page_named z q)) (eqb (page_named z q) t) h in
        keeps q n (λ e. T_not (eqb (page_named z q) t) o.1 (rw (eq-eqb (page_named z q) t e) tt))
        (none_lost (table_of b) (slot_at new) (page_named z q) o.0)

-- ── map ──────────────────────────────────────────────────────────────────
module _ (z : Sizes) (live : List Bool) (b : List Slot) (len : length live ≡ z.spaces) (long : length b ≡ slot_count z) (sound : SoundPages z live (slot_at b))
    (s p u v r : ℕ) (m : Lendable z live (slot_at b) s p u v r) where
  -- what the flush of the taker takes
  unfoldable pub amount : ℕ → ℕ
  amount k = cond (is_on_line z (slot_at b) k (key z u v)) all_rights 0

  -- it is a withdrawal
  pub amount_closed : Closed z (slot_at b) amount
  unfolding amount
  amount_closed = flush_closed z live (slot_at b) len sound (key z u v) all_rights (out_of_pool z u v m.taker_out) (lit< tt)

  mid : Table
  mid = withdraw amount (slot_at b)

  mid_sound : SoundPages z live mid
  unfolding mid
  mid_sound = withdraw_sound z live (slot_at b) sound amount amount_closed

  -- the taker is not on the giver's line
  giver_apart : is_on_line z (slot_at b) (key z s p) (key z u v) ≡ false
  giver_apart =
      is_false (is_on_line z (slot_at b) (key z s p) (key z u v))
      (λ h. T_not (meets z (slot_at b) (key z s p) u) m.no_ring
      (any_of (λ q. eqb (space_of z q) u) (key z u v) (line_of z (slot_at b) (key z s p)) h (rw (space_of_key z u v m.taker_page) (eqb_refl u))))

  giver_same : mid (key z s p) ≡ slot_at b (key z s p)
  unfolding mid amount
  giver_same = rw giver_apart (cut_zero z live (slot_at b) sound (key z s p))

  taker_gone : mid (key z u v) ≡ empty_slot
  unfolding mid amount
  taker_gone =
      rw (
        is_true (is_on_line z (slot_at b) (key z u v) (key z u v)) (line_self z live (slot_at b) len sound (key z u v)),
        less_all (slot_at b (key z u v)).rights (rights_small z live (slot_at b) sound (key z u v)),
      )

  giver_still : T (held (mid (key z s p)))
  giver_still = subst (λ (x : Slot). T (held x)) (sym giver_same) m.giver_held

  -- what the flush leaves may be linked
  pub linkable : Linkable z live (withdraw amount (slot_at b)) (key z u v) s p r
  unfolding mid
  linkable = record {
    taker_empty = taker_gone;
    taker_out = out_of_pool z u v m.taker_out;
    taker_live = rw (space_of_key z u v m.taker_page) m.taker_live;
    space_in = m.giver_space;
    page_in = m.giver_page;
    space_live = m.giver_live;
    giver_held = giver_still;
    some_right = m.some_right;
    known_rights = m.known_rights;
    contained = subst (λ (x : Slot). T (within r x.rights)) (sym giver_same) m.contained;
    no_ring = rw (space_of_key z u v m.taker_page, meets_kept z live (slot_at b) sound amount amount_closed (key z s p) u giver_still) m.no_ring;
  }

  -- a map is the flush of the taker, and then its link to the giver
  pub mapped_is : slot_at (mapped z s p (key z u v) r b) ≡ relink (key z u v) (lent_slot s p r) (withdraw amount (slot_at b))
  unfolding mapped amount
  mapped_is =
      slot_set (flushed z (key z u v) all_rights b) (key z u v) (lent_slot s p r) in_range
      ∙ ap (relink (key z u v) (lent_slot s p r)) (flushed_is z live b len sound (key z u v) all_rights)
    where
      in_range : key z u v < length (flushed z (key z u v) all_rights b)
      in_range = rw (length_flushed z (key z u v) all_rights b, long) (key_in z u v m.taker_space m.taker_page)

  -- a page that is not the taker has what the flush left it
  pub mapped_other : (k : ℕ) → (k ≡ key z u v → ⊥) → slot_at (mapped z s p (key z u v) r b) k ≡ withdraw amount (slot_at b) k
  mapped_other k h = ap (λ (g : Table). g k) mapped_is ∙ relink_other (key z u v) (lent_slot s p r) (withdraw amount (slot_at b)) k h

  -- a map keeps a sound table sound
  pub mapped_sound : SoundPages z live (slot_at (mapped z s p (key z u v) r b))
  unfolding mid
  mapped_sound = rw mapped_is (relink_sound z live mid len mid_sound (key z u v) s p r linkable)

  -- and a place whose page is not the taker and has all its rights still names it
  pub mapped_names : (q : Place) → Names z (slot_at b) q → (page_named z q ≡ key z u v → ⊥)
      → T (within (slot_at b (page_named z q)).rights (slot_at (mapped z s p (key z u v) r b) (page_named z q)).rights)
      → Names z (slot_at (mapped z s p (key z u v) r b)) q
  unfolding mid
  mapped_names q n apart h =
      rw mapped_is
      (held_names z live mid len mid_sound (key z u v) (lent_slot s p r) taker_gone q
      (names_kept z live (slot_at b) sound amount amount_closed q n (whole_kept (slot_at b) mid (page_named z q) whole)))
    where
      whole : T (within (slot_at b (page_named z q)).rights (mid (page_named z q)).rights)
      whole = subst (λ (x : Slot). T (within (slot_at b (page_named z q)).rights x.rights)) (mapped_other (page_named z q) apart) h

-- an accepted map keeps a sound board sound
pub map_sound : (z : Sizes) (b : Tables) → Sound z b → (s p u v r : ℕ) → Lendable z b.live (table_of b) s p u v r
    → Sound z (board_after z b (Map s p u v r))
unfolding board_after
map_sound z b sound s p u v r m =
    taken_sound z b sound (mapped z s p (key z u v) r b.slots) (key z u v) (length_mapped z s p (key z u v) r b.slots)
    (mapped_sound z b.live b.slots sound.shape.live_long sound.shape.slots_long sound.pages s p u v r m)
    (mapped_names z b.live b.slots sound.shape.live_long sound.shape.slots_long sound.pages s p u v r m)
