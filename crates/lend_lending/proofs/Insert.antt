-- translate: a hit gives the page's frame and rights, and a miss puts in an entry that keeps the cache sound.
use mathlib.Core.Path.{◌≡◌, refl, sym, ap, ◌∙◌}
use mathlib.Core.Bool.{Bool, true, false, not, cond}
use mathlib.Core.List.{List, [], ◌∷◌}
use Prim.Native.Nat.{ℕ, suc, ◌+◌, ◌*◌, ◌%◌, ◌≤◌, ◌<◌}
use native.Mathlib.Nat.{not-suc-le-zero, le_of_suc-le-suc, div-lt_iff_lt-mul}
use native.Mathlib.Decide.{ℕ_discrete}
use native.Mathlib.Omega.{arith}
use lib.Dec.{T, eqb, ltb, eqb→eq, ltb→lt, nleb→lt, lit<, T_not}
use lib.ListN.{length, length-set}
use lib.Seq.{get_or-set_same, get_or-set_other}
use borrow.Author.Tests.{eq-eqb, ltb-true, ltb-false}
use Rattle.lend.specs.declared.Link.TheVariants.{Frame}
use Rattle.lend.specs.declared.Place.{Place}
use Rattle.lend.specs.declared.Slot.{Slot}
use Rattle.lend.specs.Sizes.{Sizes, page_bytes, memory_bytes, key, space_of}
use Rattle.lend.specs.Rights.{read_right, write_right, within}
use Rattle.lend.specs.Slots.{Table, held, slot_at}
use Rattle.lend.specs.Tables.{Tables, State, table_of, alive}
use Rattle.lend.specs.Line.{line_of, is_on_line, frame_of, links_of}
use Rattle.lend.specs.Cache.{empty_place, filled, page_named, place_at, names, lowest, place_for, cached, empty_in, any_empty, goes_to, next_after, inserted}
use Rattle.lend.specs.Sound.{Names, SoundCache, Sound}
use Rattle.lend.specs.Translate.{address_page, page_at, physical, links_to, hit, entry_of, with_entry, looked}
use Rattle.lend.specs.Calls.{Translate, Load, Store, Outcome, cases, number, report, board_after, step}
use Rattle.lend_basics.proofs.Bools.{and_l, and_r, and_i, not_not, differ}
use Rattle.lend_sound.proofs.Lines.{space_of_key, alive_in, held_live}
use Rattle.lend_sound.proofs.Links.{links_are_pages}
use Rattle.lend_sound.proofs.Places.{lowest_of, filled_in, key_space, key_page}
use Rattle.lend_sound.proofs.SoundTest.{test_sound}
use Rattle.lend_laws.proofs.Withdraw.{held_pos}
use Rattle.lend_laws.proofs.Emptied.{looked_slots}
use Rattle.lend_laws.proofs.Accepted.{tested, no_case, accepted}
use Rattle.lend_lending.proofs.Frames.{frame_held}

-- ── a hit ────────────────────────────────────────────────────────────────
-- a place that is found passes the test it was looked for with
pub lowest_passes : (t : Place → Bool) (c : List Place) → lowest t c < length c → T (t (place_at c (lowest t c)))
lowest_passes t [] l = absurd (not-suc-le-zero l)
lowest_passes t (q ∷ c) l = go (t q) refl (lowest_passes t c)
  where
    go : (b : Bool) → t q ≡ b → (lowest t c < length c → T (t (place_at c (lowest t c)))) → T (t (place_at (q ∷ c) (lowest t (q ∷ c))))
    go true e ih = rw e (rw e tt)
    go false e ih = rw e (ih (le_of_suc-le-suc (rw e at l)))

-- the place found for a page in the cache names that page, and is filled
pub hit_names : (space page : ℕ) (c : List Place) → T (cached space page c) → T (names space page (place_at c (place_for space page c)))
unfolding cached place_for
hit_names space page c h = lowest_passes (names space page) c (ltb→lt (lowest (names space page) c) (length c) h)

-- on a sound board the place found for a page in the cache has the page's frame and rights
pub hit_place : (z : Sizes) (b : Tables) → Sound z b → (space page : ℕ) → T (cached space page b.places)
    → ((place_at b.places (place_for space page b.places)).frame ≡ frame_of z (table_of b) (key z space page))
    × ((place_at b.places (place_for space page b.places)).rights ≡ (table_of b (key z space page)).rights)
hit_place z b sound space page h =
    let o = hit_names space page b.places h in
    let es : q.space ≡ space = eqb→eq q.space space (search (and_l, and_r) depth 12) in
    let ep : q.page ≡ page = eqb→eq q.page page (search (and_l, and_r) depth 12) in
    let n = sound.cache.filled_names (place_for space page b.places) (search (and_l, and_r) depth 12) in
    let ek : page_named z q ≡ key z space page = rw (es, ep) in
    (n.its_frame ∙ ap (frame_of z (table_of b)) ek, n.its_rights ∙ ap (λ (k : ℕ). (table_of b k).rights) ek)
  where
    q : Place
    q = place_at b.places (place_for space page b.places)

-- ── a miss ───────────────────────────────────────────────────────────────
-- a page that is not in the cache is named by no filled place
miss_none : (space page : ℕ) (c : List Place) → cached space page c ≡ false → (i : ℕ) → T (filled (place_at c i))
    → (place_at c i).space ≡ space → (place_at c i).page ≡ page → ⊥
unfolding cached place_for
miss_none space page c e i t es ep =
    let hs : T (eqb (place_at c i).space space) = rw (eq-eqb (place_at c i).space space es) tt in
    let hp : T (eqb (place_at c i).page page) = rw (eq-eqb (place_at c i).page page ep) tt in
    let o : T (names space page (place_at c i)) = search and_i depth 14 in
    let l = filled_in c i t in
    let r = lowest_of (names space page) c i l o in
    let m : lowest (names space page) c ≤ i = r.0 in
    let n : length c ≤ lowest (names space page) c = ltb-false (lowest (names space page) c) (length c) e in
    omega arith

-- a new entry goes to one of the places
goes_in : (c : List Place) (next : ℕ) → next < length c → goes_to c next < length c
unfolding goes_to
goes_in c next h = go (any_empty c) refl
  where
    go : (b : Bool) → any_empty c ≡ b → cond b (empty_in c) next < length c
    go true e = ltb-true (empty_in c) (length c) e
    go false e = h

-- the number of the next place to replace stays the number of a place
pub next_stays : (c : List Place) (next n : ℕ) → length c ≡ n → next < n → next_after c next < n
unfolding next_after
next_stays c next n len h = go (any_empty c)
  where
    turn : (b : Bool) → ltb (suc next) (length c) ≡ b → cond b (suc next) 0 < n
    turn true e = let l = ltb-true (suc next) (length c) e in omega arith
    turn false e = omega arith

    go : (b : Bool) → cond b next (cond (ltb (suc next) (length c)) (suc next) 0) < n
    go true = h
    go false = turn (ltb (suc next) (length c)) refl

-- an entry put in for a page that was not in the cache keeps the cache sound
insert_sound : (z : Sizes) (f : Table) (c : List Place) (next : ℕ) (q : Place) → length c ≡ z.places → Names z f q → T (filled q)
    → cached q.space q.page c ≡ false → SoundCache z f c next → SoundCache z f (inserted c next q) (next_after c next)
insert_sound z f c next q len n t miss sound = record {
  filled_names = λ i h. filled_names i h (ℕ_discrete i (goes_to c next));
  one_each = λ i j hi hj e. one_each i j hi hj e (ℕ_discrete i (goes_to c next)) (ℕ_discrete j (goes_to c next));
  empty_form = λ i h. empty_form i h (ℕ_discrete i (goes_to c next));
  next_in = next_stays c next z.places len sound.next_in;
}
  where
    d : List Place
    d = inserted c next q

    same : place_at d (goes_to c next) ≡ q
    same = get_or-set_same c (goes_to c next) q empty_place (goes_in c next (omega (arith, sound.next_in)))

    other : (i : ℕ) → (i ≡ goes_to c next → ⊥) → place_at d i ≡ place_at c i
    other i h = get_or-set_other c (goes_to c next) i q empty_place h

    -- no other place names the page
    alone : (i : ℕ) → T (filled (place_at c i)) → page_named z (place_at c i) ≡ page_named z q → ⊥
    alone i h e =
        let v = (sound.filled_names i h).page_in in
        miss_none q.space q.page c miss i h (key_space z (place_at c i).space (place_at c i).page q.space q.page v n.page_in e)
        (key_page z (place_at c i).space (place_at c i).page q.space q.page v n.page_in e)

    empty_form : (i : ℕ) → T (not (filled (place_at d i))) → Dec (i ≡ goes_to c next) → place_at d i ≡ empty_place
    empty_form i h (yes e) = absurd (T_not (filled q) (rw (e, same) at h) t)
    empty_form i h (no e) = other i e ∙ sound.empty_form i (rw (other i e) at h)

    filled_names : (i : ℕ) → T (filled (place_at d i)) → Dec (i ≡ goes_to c next) → Names z f (place_at d i)
    filled_names i h (yes e) = rw (e, same) n
    filled_names i h (no e) = rw (other i e) (sound.filled_names i (rw (other i e) at h))

    one_each : (i j : ℕ) → T (filled (place_at d i)) → T (filled (place_at d j)) → page_named z (place_at d i) ≡ page_named z (place_at d j)
        → Dec (i ≡ goes_to c next) → Dec (j ≡ goes_to c next) → i ≡ j
    one_each i j hi hj e (yes a) (yes b) = a ∙ sym b
    one_each i j hi hj e (yes a) (no b) = absurd (alone j (rw (other j b) at hj) (sym (rw (a, same, other j b) at e)))
    one_each i j hi hj e (no a) (yes b) = absurd (alone i (rw (other i a) at hi) (rw (b, same, other i a) at e))
    one_each i j hi hj e (no a) (no b) = sound.one_each i j (rw (other i a) at hi) (rw (other j b) at hj) (rw (other i a, other j b) at e)

-- ── a look at a page ─────────────────────────────────────────────────────
-- an address in range is on a page in range
pub page_in : (z : Sizes) (address : ℕ) → address < memory_bytes z → address_page address < z.pages
page_in z address h = (div-lt_iff_lt-mul (lit< tt)).1 l
  where
    l : address < z.pages * page_bytes
    l = omega arith

-- the entry of a held page names it
entry_names : (z : Sizes) (b : Tables) → Sound z b → (space page : ℕ) → page < z.pages → T (held (table_of b (key z space page)))
    → Names z (table_of b) (entry_of z b space page)
entry_names z b sound space page l h = record { space_in = in_spaces; page_in = l; is_held = h; its_frame = refl; its_rights = refl }
  where
    in_spaces : space < z.spaces
    in_spaces =
        rw (space_of_key z space page l, sound.shape.live_long) at
        (alive_in b.live (space_of z (key z space page)) (held_live z b.live (table_of b) sound.shape.live_long sound.pages (key z space page) h))

-- a look at a held page keeps a sound board sound
pub looked_sound : (z : Sizes) (b : Tables) → Sound z b → (space address : ℕ) → address < memory_bytes z
    → T (held (table_of b (page_at z space address))) → Sound z (looked z b space address)
unfolding looked hit
looked_sound z b sound space address l h = go (cached space (address_page address) b.places) refl
  where
    q : Place
    q = entry_of z b space (address_page address)

    full : T (filled q)
    full =
        differ (table_of b (page_at z space address)).rights 0
        (λ e. let p = held_pos z b.live (table_of b) sound.pages (page_at z space address) h in omega arith)

    go : (t : Bool) → cached space (address_page address) b.places ≡ t → Sound z (cond t b (with_entry b q))
    go true e = sound
    go false e = record {
      shape = record {
        slots_long = sound.shape.slots_long;
        live_long = sound.shape.live_long;
        places_long = length-set b.places (goes_to b.places b.next) q ∙ sound.shape.places_long;
        summary_long = sound.shape.summary_long;
      };
      pages = sound.pages;
      cache = insert_sound z (table_of b) b.places b.next q sound.shape.places_long
          (entry_names z b sound space (address_page address) (page_in z address l) h) full e sound.cache;
      summary = sound.summary;
    }

-- ── what an accepted translate, load or store has shown ──────────────────
-- the address is in range, and its page, in a live space, is held with the rights asked for
pub record ReadFine (z : Sizes) (b : Tables) (space address rights : ℕ) : Type 0 where
  pub space_in : space < z.spaces
  pub is_alive : T (alive b.live space)
  pub address_in : address < memory_bytes z
  pub is_held : T (held (table_of b (page_at z space address)))
  pub contained : T (within rights (table_of b (page_at z space address)).rights)

module _ (z : Sizes) (st : State) where
  -- an accepted translate
  pub translate_fine : (space address rights : ℕ) → number z st (Translate space address rights) ≡ 0 → ReadFine z st.board space address rights
  unfolding cases
  translate_fine space address rights e =
      let n = no_case z st (Translate space address rights) tt e in
      record {
        space_in = nleb→lt z.spaces space n.0;
        is_alive = not_not (alive st.board.live space) n.1.0;
        address_in = nleb→lt (memory_bytes z) address n.1.1.0;
        is_held = not_not (held (table_of st.board (page_at z space address))) n.1.1.1.1.0;
        contained = not_not (within rights (table_of st.board (page_at z space address)).rights) n.1.1.1.1.1.0;
      }

  -- an accepted load has shown it for the right to read, and that memory is as long as it should be
  pub load_fine : (space address : ℕ) → number z st (Load space address) ≡ 0
      → ReadFine z st.board space address read_right × (length st.memory ≡ memory_bytes z)
  unfolding cases
  load_fine space address e =
      let n = no_case z st (Load space address) tt e in (
        record {
          space_in = nleb→lt z.spaces space n.1.0;
          is_alive = not_not (alive st.board.live space) n.1.1.0;
          address_in = nleb→lt (memory_bytes z) address n.1.1.1.0;
          is_held = not_not (held (table_of st.board (page_at z space address))) n.1.1.1.1.0;
          contained = not_not (within read_right (table_of st.board (page_at z space address)).rights) n.1.1.1.1.1.0;
        },
        eqb→eq (length st.memory) (memory_bytes z) (not_not (eqb (length st.memory) (memory_bytes z)) n.0),
      )

  -- and an accepted store for the right to write
  pub store_fine : (space address byte : ℕ) → number z st (Store space address byte) ≡ 0
      → ReadFine z st.board space address write_right × (length st.memory ≡ memory_bytes z)
  unfolding cases
  store_fine space address byte e =
      let n = no_case z st (Store space address byte) tt e in (
        record {
          space_in = nleb→lt z.spaces space n.1.0;
          is_alive = not_not (alive st.board.live space) n.1.1.0;
          address_in = nleb→lt (memory_bytes z) address n.1.1.1.0;
          is_held = not_not (held (table_of st.board (page_at z space address))) n.1.1.1.1.0;
          contained = not_not (within write_right (table_of st.board (page_at z space address)).rights) n.1.1.1.1.1.0;
        },
        eqb→eq (length st.memory) (memory_bytes z) (not_not (eqb (length st.memory) (memory_bytes z)) n.0),
      )

-- ── the answer of a translate ────────────────────────────────────────────
-- an outcome that answers rightly for an address: its frame is at the end of the page's line as the board now is, its
-- address is as far into that frame as the address asked for is into its page, its links are as many as that line has pages,
-- and on a hit the cache had that frame
pub record RightAnswer (z : Sizes) (before : Tables) (space address : ℕ) (o : Outcome) : Type 0 where
  pub frame : ℕ
  pub last : ℕ
  pub on_line : T (is_on_line z (table_of o.state.board) (page_at z space address) last)
  pub holds_frame : (table_of o.state.board last).link ≡ Frame frame
  pub computed : frame_of z (table_of o.state.board) (page_at z space address) ≡ frame
  pub its_address : o.reply.address ≡ page_bytes * frame + address % page_bytes
  pub its_links : o.reply.links ≡ length (line_of z (table_of o.state.board) (page_at z space address))
  pub on_hit : T o.reply.hit → (place_at before.places (place_for space (address_page address) before.places)).frame ≡ frame

-- an accepted translate answers rightly
pub translate_right : (z : Sizes) (st : State) (space address rights : ℕ) → number z st (Translate space address rights) ≡ 0
    → RightAnswer z st.board space address (step z st (Translate space address rights))
unfolding report board_after physical links_to hit
translate_right z st space address rights e =
    rw (accepted z st (Translate space address rights) e)
    (record {
      frame = frame_of z (table_of b) (page_at z space address);
      last = r.0;
      on_line = rw (looked_slots z b space address) r.1;
      holds_frame = rw (looked_slots z b space address) r.2;
      computed = rw (looked_slots z b space address);
      its_address = refl;
      its_links = rw (looked_slots z b space address)
          (links_are_pages z b.live (table_of b) sound.shape.live_long sound.pages (page_at z space address)
          (translate_fine z st space address rights e).is_held);
      on_hit = λ h. (hit_place z b sound space (address_page address) h).0;
    })
  where
    b : Tables
    b = st.board

    sound : Sound z b
    sound = test_sound z b (tested z st (Translate space address rights) e)

    r : (q : ℕ) × T (is_on_line z (table_of b) (page_at z space address) q) × ((table_of b q).link ≡ Frame (frame_of z (table_of b) (page_at z space address)))
    r =
        frame_held z b.live (table_of b) sound.shape.live_long sound.pages (page_at z space address)
        (translate_fine z st space address rights e).is_held

-- a hit reports the links that a miss would: on two boards with the same pages, whatever is in their caches, they are as many
pub hit_links_as_miss : (z : Sizes) (st other : State) → st.board.slots ≡ other.board.slots → (space address rights : ℕ)
    → number z st (Translate space address rights) ≡ 0 → number z other (Translate space address rights) ≡ 0
    → (step z st (Translate space address rights)).reply.links ≡ (step z other (Translate space address rights)).reply.links
unfolding report links_to
hit_links_as_miss z st other same space address rights e f =
    rw (accepted z st (Translate space address rights) e, accepted z other (Translate space address rights) f)
    (ap (λ (b : List Slot). links_of z (slot_at b) (page_at z space address)) same)
