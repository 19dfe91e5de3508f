-- Demand 3: any list of one-page unmap and flush calls ends at the board that the start board and the accepted calls determine.
use mathlib.Core.Path.{◌≡◌, refl, sym, subst, ap, ◌∙◌, fun_ext}
use mathlib.Core.Bool.{Bool, true, false, ◌||◌, cond}
use mathlib.Core.List.{List, [], ◌∷◌}
use Prim.Native.Nat.{ℕ, ◌≤◌, ◌<◌}
use native.Mathlib.Decide.{ℕ_discrete}
use lib.Dec.{T, eqb, lit<}
use lib.Bits.{bit_or}
use lib.ListN.{length}
use borrow.Author.Tests.{eq-eqb, ne_eqb}
use Rattle.lend.specs.declared.Slot.{Slot}
use Rattle.lend.specs.Sizes.{Sizes, key}
use Rattle.lend.specs.Rights.{less, within}
use Rattle.lend.specs.Slots.{Table, empty_slot, held, cut}
use Rattle.lend.specs.Tables.{Tables, State, alone, table_of}
use Rattle.lend.specs.Line.{is_on_line, below}
use Rattle.lend.specs.Cache.{empty_place, page_named, place_at, dropped_where}
use Rattle.lend.specs.Sound.{Sound}
use Rattle.lend.specs.Withdraw.{unmapped, flushed}
use Rattle.lend.specs.Calls.{Call, Create, Delete, Unmap, Flush, Map, Grant, Translate, Load, Store, number, cases, step, steps, board_after, memory_after}
use Rattle.lend_basics.proofs.Bools.{and_l, and_r}
use Rattle.lend_basics.proofs.Rights.{join, within_zero_l, within_trans, within_antisym, within_join_l, within_join_r, join_lt, join_least}
use Rattle.lend_laws.proofs.Withdraw.{right_link, withdraw, Closed, not_held, cut_empty, below_kept}
use Rattle.lend_laws.proofs.Flush.{length_unmapped, length_flushed, unmapped_at, flushed_at, unmap_closed, flush_closed}
use Rattle.lend_laws.proofs.Spaces.{out_of_pool}
use Rattle.lend_laws.proofs.CacheDrops.{at_dropped}
use Rattle.lend_laws.proofs.Accepted.{accepted, refused, unmap_fine, flush_fine}
use Rattle.lend_laws.proofs.Keeps.{Plain, keeps_sound}
use Rattle.lend_demands.specs.Demand3.{withdraws, all_withdraw, asks, takes, taken, loses_some, less_board, end_board, Ends}
use Rattle.lend_demands.proofs.Ended.{less_is, less_same, less_twice, less_nothing, slots_less, on_or_below, same_number}

-- memory does not matter to these calls, nor they to it
alone_number : (z : Sizes) (st : State) (c : Call) → T (withdraws c) → number z st c ≡ number z (alone st.board) c
unfolding number cases
alone_number z st (Unmap s p d) w = refl
alone_number z st (Flush s p d) w = refl
alone_number z st (Create space) w = absurd w
alone_number z st (Delete space) w = absurd w
alone_number z st (Map from page to at rights) w = absurd w
alone_number z st (Grant from page to at rights) w = absurd w
alone_number z st (Translate space address rights) w = absurd w
alone_number z st (Load space address) w = absurd w
alone_number z st (Store space address byte) w = absurd w

memory_kept : (z : Sizes) (st : State) (c : Call) → T (withdraws c) → memory_after z st c ≡ st.memory
unfolding memory_after
memory_kept z st (Unmap s p d) w = refl
memory_kept z st (Flush s p d) w = refl
memory_kept z st (Create space) w = absurd w
memory_kept z st (Delete space) w = absurd w
memory_kept z st (Map from page to at rights) w = absurd w
memory_kept z st (Grant from page to at rights) w = absurd w
memory_kept z st (Translate space address rights) w = absurd w
memory_kept z st (Load space address) w = absurd w
memory_kept z st (Store space address byte) w = absurd w

-- ── what one call takes ──────────────────────────────────────────────────
cond_lt : (t : Bool) (d : ℕ) → d < 8 → cond t d 0 < 8
cond_lt true d h = h
cond_lt false d h = lit< tt

module _ (z : Sizes) (b : Tables) (sound : Sound z b) where
  live_long : length b.live ≡ z.spaces
  live_long = sound.shape.live_long

  -- nothing is taken by a call that is not accepted
  takes_none : (c : Call) → (number z (alone b) c ≡ 0 → ⊥) → (k : ℕ) → takes z b c k ≡ 0
  unfolding takes
  takes_none c h k = rw (ne_eqb (number z (alone b) c) 0 h)

  takes_all : (c : Call) → number z (alone b) c ≡ 0 → (k : ℕ) → takes z b c k ≡ asks z (table_of b) c k
  unfolding takes
  takes_all c e k = rw (eq-eqb (number z (alone b) c) 0 e)

  asks_small : (c : Call) → T (withdraws c) → number z (alone b) c ≡ 0 → (k : ℕ) → asks z (table_of b) c k < 8
  asks_small (Unmap s p d) w e k = cond_lt (below z (table_of b) k (key z s p)) d (unmap_fine z (alone b) s p d e).known_rights
  asks_small (Flush s p d) w e k = cond_lt (below z (table_of b) k (key z s p) || eqb k (key z s p)) d (flush_fine z (alone b) s p d e).0.known_rights
  asks_small (Create space) w e k = absurd w
  asks_small (Delete space) w e k = absurd w
  asks_small (Map from page to at rights) w e k = absurd w
  asks_small (Grant from page to at rights) w e k = absurd w
  asks_small (Translate space address rights) w e k = absurd w
  asks_small (Load space address) w e k = absurd w
  asks_small (Store space address byte) w e k = absurd w

  pub takes_small : (c : Call) → T (withdraws c) → (k : ℕ) → takes z b c k < 8
  takes_small c w k = go (ℕ_discrete (number z (alone b) c) 0)
    where
      go : Dec (number z (alone b) c ≡ 0) → takes z b c k < 8
      go (yes e) = rw (takes_all c e k) (asks_small c w e k)
      go (no h) = rw (takes_none c h k) (lit< tt)

  pub taken_small : (cs : List Call) → T (all_withdraw cs) → (k : ℕ) → taken z b cs k < 8
  unfolding taken join
  taken_small [] w k = lit< tt
  taken_small (c ∷ cs) w k = join_lt (takes z b c k) (taken z b cs k) (takes_small c (and_l (withdraws c) (all_withdraw cs) w) k) (taken_small cs (and_r (withdraws c) (all_withdraw cs) w) k)

  flush_asks : (s p d k : ℕ) → asks z (table_of b) (Flush s p d) k ≡ cond (is_on_line z (table_of b) k (key z s p)) d 0
  flush_asks s p d k = ap (λ (t : Bool). cond t d 0) (on_or_below z b.live (table_of b) live_long sound.pages k (key z s p))

  -- an accepted call leaves the board less what it asks
  accepted_less : (c : Call) → T (withdraws c) → number z (alone b) c ≡ 0 → board_after z b c ≡ less_board z b (asks z (table_of b) c)
  unfolding board_after
  accepted_less (Unmap s p d) w e =
      slots_less z b sound (asks z (table_of b) (Unmap s p d)) (asks_small (Unmap s p d) w e) (unmapped z (key z s p) d b.slots) (length_unmapped z (key z s p) d b.slots)
      (unmapped_at z b.live b.slots live_long sound.pages (key z s p) d)
  accepted_less (Flush s p d) w e =
      slots_less z b sound (asks z (table_of b) (Flush s p d)) (asks_small (Flush s p d) w e) (flushed z (key z s p) d b.slots) (length_flushed z (key z s p) d b.slots)
      (λ k. flushed_at z b.live b.slots live_long sound.pages (key z s p) d k ∙ ap (λ (x : ℕ). cut x (table_of b k)) (sym (flush_asks s p d k)))
  accepted_less (Create space) w e = absurd w
  accepted_less (Delete space) w e = absurd w
  accepted_less (Map from page to at rights) w e = absurd w
  accepted_less (Grant from page to at rights) w e = absurd w
  accepted_less (Translate space address rights) w e = absurd w
  accepted_less (Load space address) w e = absurd w
  accepted_less (Store space address byte) w e = absurd w

  asks_closed : (c : Call) → T (withdraws c) → number z (alone b) c ≡ 0 → Closed z (table_of b) (asks z (table_of b) c)
  asks_closed (Unmap s p d) w e = unmap_closed z b.live (table_of b) live_long sound.pages (key z s p) d (unmap_fine z (alone b) s p d e).known_rights
  asks_closed (Flush s p d) w e =
      let fine = flush_fine z (alone b) s p d e in
      subst (λ (a : ℕ → ℕ). Closed z (table_of b) a) (fun_ext (λ k. sym (flush_asks s p d k)))
      (flush_closed z b.live (table_of b) live_long sound.pages (key z s p) d (out_of_pool z s p fine.1) fine.0.known_rights)
  asks_closed (Create space) w e = absurd w
  asks_closed (Delete space) w e = absurd w
  asks_closed (Map from page to at rights) w e = absurd w
  asks_closed (Grant from page to at rights) w e = absurd w
  asks_closed (Translate space address rights) w e = absurd w
  asks_closed (Load space address) w e = absurd w
  asks_closed (Store space address byte) w e = absurd w

  -- so what a call takes, accepted or not, is closed: a child loses all that its parent does
  takes_closed : (c : Call) → T (withdraws c) → Closed z (table_of b) (takes z b c)
  takes_closed c w = go (ℕ_discrete (number z (alone b) c) 0)
    where
      go : Dec (number z (alone b) c ≡ 0) → Closed z (table_of b) (takes z b c)
      go (yes e) = subst (λ (a : ℕ → ℕ). Closed z (table_of b) a) (fun_ext (λ k. sym (takes_all c e k))) (asks_closed c w e)
      go (no h) = subst (λ (a : ℕ → ℕ). Closed z (table_of b) a) (fun_ext (λ k. sym (takes_none c h k)))
          (record { small = λ k. lit< tt; not_pool = λ k l. refl; down = λ k s p e. within_zero_l 0 (lit< tt) })

-- one call leaves the board less what it takes, and the memory
step_less : (z : Sizes) (st : State) → Sound z st.board → (c : Call) → T (withdraws c)
    → (step z st c).state ≡ record { board = less_board z st.board (takes z st.board c); memory = st.memory }
step_less z st sound c w = go (ℕ_discrete (number z st c) 0)
  where
    same : number z st c ≡ number z (alone st.board) c
    same = alone_number z st c w

    go : Dec (number z st c ≡ 0) → (step z st c).state ≡ record { board = less_board z st.board (takes z st.board c); memory = st.memory }
    go (yes e) = rw (accepted z st c e) (λ i. record { board = (accepted_less z st.board sound c w (sym same ∙ e) ∙ ap (less_board z st.board) (fun_ext (λ k. sym (takes_all z st.board sound c (sym same ∙ e) k)))) i; memory = memory_kept z st c w i })
    go (no h) = rw (refused z st c h) (λ i. record { board = (less_nothing z st.board sound ∙ ap (less_board z st.board) (fun_ext (λ k. sym (takes_none z st.board sound c (λ e. h (same ∙ e)) k)))) i; memory = st.memory })

-- ── judged before and after ──────────────────────────────────────────────
-- what a later call takes from a page that is still held is what it takes by the board before
module _ (z : Sizes) (b : Tables) (sound : Sound z b) (a : ℕ → ℕ) (closed : Closed z (table_of b) a) (after : Sound z (less_board z b a)) where
  same_live : b.live ≡ (less_board z b a).live
  unfolding less_board
  same_live = refl

  still : (k : ℕ) → T (held (table_of (less_board z b a) k)) → T (held (withdraw a (table_of b) k))
  still k h = subst (λ (g : Table). T (held (g k))) (less_is z b a) h

  below_same : (k y : ℕ) → T (held (table_of (less_board z b a) k)) → below z (table_of (less_board z b a)) k y ≡ below z (table_of b) k y
  below_same k y h = ap (λ (g : Table). below z g k y) (less_is z b a) ∙ below_kept z b.live (table_of b) sound.pages a closed k y (still k h)

  asks_same : (c : Call) → (k : ℕ) → T (held (table_of (less_board z b a) k)) → asks z (table_of (less_board z b a)) c k ≡ asks z (table_of b) c k
  asks_same (Unmap s p d) k h = ap (λ (t : Bool). cond t d 0) (below_same k (key z s p) h)
  asks_same (Flush s p d) k h = ap (λ (t : Bool). cond (t || eqb k (key z s p)) d 0) (below_same k (key z s p) h)
  asks_same (Create space) k h = refl
  asks_same (Delete space) k h = refl
  asks_same (Map from page to at rights) k h = refl
  asks_same (Grant from page to at rights) k h = refl
  asks_same (Translate space address rights) k h = refl
  asks_same (Load space address) k h = refl
  asks_same (Store space address byte) k h = refl

  number_same : (c : Call) → T (withdraws c) → number z (alone (less_board z b a)) c ≡ number z (alone b) c
  number_same (Unmap s p d) w = sym (same_number z b (less_board z b a) sound after same_live s p d).0
  number_same (Flush s p d) w = sym (same_number z b (less_board z b a) sound after same_live s p d).1
  number_same (Create space) w = absurd w
  number_same (Delete space) w = absurd w
  number_same (Map from page to at rights) w = absurd w
  number_same (Grant from page to at rights) w = absurd w
  number_same (Translate space address rights) w = absurd w
  number_same (Load space address) w = absurd w
  number_same (Store space address byte) w = absurd w

  taken_same : (cs : List Call) → T (all_withdraw cs) → (k : ℕ) → T (held (table_of (less_board z b a) k)) → taken z (less_board z b a) cs k ≡ taken z b cs k
  unfolding taken takes
  taken_same [] w k h = refl
  taken_same (c ∷ cs) w k h =
      rw (number_same c (and_l (withdraws c) (all_withdraw cs) w), asks_same c k h, taken_same cs (and_r (withdraws c) (all_withdraw cs) w) k h)

  -- from a page that is empty nothing is left to take
  cut_same : (cs : List Call) → T (all_withdraw cs) → (k : ℕ)
      → cut (taken z (less_board z b a) cs k) (table_of (less_board z b a) k) ≡ cut (taken z b cs k) (table_of (less_board z b a) k)
  cut_same cs w k = go (held (table_of (less_board z b a) k)) refl
    where
      t : ℕ
      t = taken z (less_board z b a) cs k

      u : ℕ
      u = taken z b cs k

      go : (h : Bool) → held (table_of (less_board z b a) k) ≡ h → cut t (table_of (less_board z b a) k) ≡ cut u (table_of (less_board z b a) k)
      go true e = ap (λ (d : ℕ). cut d (table_of (less_board z b a) k)) (taken_same cs w k (rw e tt))
      go false e =
          let n : table_of (less_board z b a) k ≡ empty_slot = not_held z (less_board z b a).live (table_of (less_board z b a)) after.pages k (rw e tt) in
          ap (cut t) n ∙ (cut_empty t ∙ sym (ap (cut u) n ∙ cut_empty u))

  pub ends_same : (cs : List Call) → T (all_withdraw cs) → ((k : ℕ) → a k < 8)
      → end_board z (less_board z b a) cs ≡ less_board z b (λ k. bit_or (a k) (taken z b cs k))
  unfolding join
  ends_same cs w small =
      less_same z (less_board z b a) (taken z (less_board z b a) cs) (taken z b cs) (cut_same cs w)
      ∙ less_twice z b sound a (taken z b cs) small (taken_small z b sound cs w)

-- ── the theorem ──────────────────────────────────────────────────────────
plain_withdraws : (c : Call) → T (withdraws c) → Plain c
plain_withdraws (Unmap s p d) w = tt
plain_withdraws (Flush s p d) w = tt
plain_withdraws (Create space) w = absurd w
plain_withdraws (Delete space) w = absurd w
plain_withdraws (Map from page to at rights) w = absurd w
plain_withdraws (Grant from page to at rights) w = absurd w
plain_withdraws (Translate space address rights) w = absurd w
plain_withdraws (Load space address) w = absurd w
plain_withdraws (Store space address byte) w = absurd w

-- from any sound board any list of one-page unmap and flush calls ends at the board that the start board and the calls determine
pub demand_3 : (z : Sizes) → 1 ≤ z.pages → (cs : List Call) → T (all_withdraw cs) → (st : State) → Sound z st.board
    → steps z st cs ≡ record { board = end_board z st.board cs; memory = st.memory }
unfolding steps taken
demand_3 z one [] w st sound = λ i. record { board = less_nothing z st.board sound i; memory = st.memory }
demand_3 z one (c ∷ cs) w st sound =
    let wc = and_l (withdraws c) (all_withdraw cs) w in
    let ws = and_r (withdraws c) (all_withdraw cs) w in
    let b : Tables = st.board in
    let here = step_less z st sound c wc in
    let after : Sound z (less_board z b (takes z b c)) = subst (λ (x : State). Sound z x.board) here (keeps_sound z one st sound c (plain_withdraws c wc)) in
    ap (λ (x : State). steps z x cs) here
    ∙ (demand_3 z one cs ws (record { board = less_board z b (takes z b c); memory = st.memory }) after
    ∙ (λ i. record { board = ends_same z b sound (takes z b c) (takes_closed z b sound c wc) after cs ws (takes_small z b sound c wc) i; memory = st.memory }))

-- ── sentence by sentence ─────────────────────────────────────────────────
pub end_so : (z : Sizes) (b : Tables) (cs : List Call) → Ends z b (end_board z b cs) cs
unfolding less_board
end_so z b cs = record {
  rights_less = λ k. ap (λ (s : Slot). s.rights) (at k);
  empty_without = λ k e. at k ∙ rw (sym (ap (λ (s : Slot). s.rights) (at k)) ∙ e);
  link_stays = λ k h. ap (λ (s : Slot). s.link) (at k) ∙ right_link (less (table_of b k).rights (taken z b cs k)) (table_of b k).link (rw (ap (λ (s : Slot). s.rights) (at k)) at h);
  entry_stays = λ i e. place i ∙ rw (eq-eqb (less (table_of b (page i)).rights (taken z b cs (page i))) (table_of b (page i)).rights (sym (ap (λ (s : Slot). s.rights) (at (page i))) ∙ e));
  entry_goes = λ i h. place i ∙ rw (ne_eqb (less (table_of b (page i)).rights (taken z b cs (page i))) (table_of b (page i)).rights (λ e. h (ap (λ (s : Slot). s.rights) (at (page i)) ∙ e)));
  counted = refl;
  live_stays = refl;
  next_stays = refl;
}
  where
    page : ℕ → ℕ
    page i = page_named z (place_at b.places i)

    at : (k : ℕ) → table_of (less_board z b (taken z b cs)) k ≡ cut (taken z b cs k) (table_of b k)
    at k = ap (λ (g : Table). g k) (less_is z b (taken z b cs))

    place : (i : ℕ) → place_at (dropped_where z (loses_some (table_of b) (taken z b cs)) b.places) i ≡ cond (loses_some (table_of b) (taken z b cs) (page_named z (place_at b.places i))) empty_place (place_at b.places i)
    place i = at_dropped z (loses_some (table_of b) (taken z b cs)) b.places i

-- demand 3 in the customer's sentences
pub demand_3_so : (z : Sizes) → 1 ≤ z.pages → (cs : List Call) → T (all_withdraw cs) → (st : State) → Sound z st.board
    → Ends z st.board (steps z st cs).board cs × ((steps z st cs).memory ≡ st.memory)
demand_3_so z one cs w st sound =
    let e = demand_3 z one cs w st sound in
    (subst (λ (x : State). Ends z st.board x.board cs) (sym e) (end_so z st.board cs), ap (λ (x : State). x.memory) e)

-- ── order and repetition ─────────────────────────────────────────────────
-- the call is in the list
pub data In (c : Call) : List Call → Type 0 where
  here : {cs : List Call} → In c (c ∷ cs)
  there : {e : Call} {cs : List Call} → In c cs → In c (e ∷ cs)

-- every call of the one list is in the other
abbrev pub Within : List Call → List Call → Type 0
Within cs ds = (c : Call) → In c cs → In c ds

module _ (z : Sizes) (b : Tables) (sound : Sound z b) (k : ℕ) where
  takes_in : (c : Call) (cs : List Call) → T (all_withdraw cs) → In c cs → T (within (takes z b c k) (taken z b cs k))
  unfolding taken join
  takes_in c cs w (here {cs = ds}) =
      within_join_l (takes z b c k) (taken z b ds k) (takes_small z b sound c (and_l (withdraws c) (all_withdraw ds) w) k) (taken_small z b sound ds (and_r (withdraws c) (all_withdraw ds) w) k)
  takes_in c cs w (there {e = e} {cs = ds} i) =
      let we = takes_small z b sound e (and_l (withdraws e) (all_withdraw ds) w) k in
      let ws = and_r (withdraws e) (all_withdraw ds) w in
      let td = taken_small z b sound ds ws k in
      within_trans (takes z b c k) (taken z b ds k) (join (takes z b e k) (taken z b ds k)) (takes_small z b sound c (in_withdraws ds ws i) k) td (join_lt (takes z b e k) (taken z b ds k) we td)
      (takes_in c ds ws i) (within_join_r (takes z b e k) (taken z b ds k) we td)
    where
      in_withdraws : (xs : List Call) → T (all_withdraw xs) → In c xs → T (withdraws c)
      in_withdraws xs w (here {cs = ys}) = and_l (withdraws c) (all_withdraw ys) w
      in_withdraws xs w (there {e = x} {cs = ys} i) = in_withdraws ys (and_r (withdraws x) (all_withdraw ys) w) i

  taken_within : (cs ds : List Call) → T (all_withdraw cs) → T (all_withdraw ds) → Within cs ds → T (within (taken z b cs k) (taken z b ds k))
  unfolding taken join
  taken_within [] ds w v h = within_zero_l (taken z b ds k) (taken_small z b sound ds v k)
  taken_within (c ∷ cs) ds w v h =
      let wc = and_l (withdraws c) (all_withdraw cs) w in
      let ws = and_r (withdraws c) (all_withdraw cs) w in
      join_least (takes z b c k) (taken z b cs k) (taken z b ds k) (takes_small z b sound c wc k) (taken_small z b sound cs ws k) (taken_small z b sound ds v k)
      (takes_in c ds v (h c here)) (taken_within cs ds ws v (λ e i. h e (there i)))

  pub taken_equal : (cs ds : List Call) → T (all_withdraw cs) → T (all_withdraw ds) → Within cs ds → Within ds cs → taken z b cs k ≡ taken z b ds k
  taken_equal cs ds w v h g =
      within_antisym (taken z b cs k) (taken z b ds k) (taken_small z b sound cs w k) (taken_small z b sound ds v k) (taken_within cs ds w v h) (taken_within ds cs v w g)

-- two lists with the same calls, in any order and any number of times each, end at the same board
pub same_calls_same_end : (z : Sizes) → 1 ≤ z.pages → (cs ds : List Call) → T (all_withdraw cs) → T (all_withdraw ds) → Within cs ds → Within ds cs
    → (st : State) → Sound z st.board → steps z st cs ≡ steps z st ds
same_calls_same_end z one cs ds w v h g st sound =
    demand_3 z one cs w st sound
    ∙ ((λ i. record { board = less_board z st.board (λ k. taken_equal z st.board sound k cs ds w v h g i); memory = st.memory })
    ∙ sym (demand_3 z one ds v st sound))
