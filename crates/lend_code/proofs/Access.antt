-- translate, load and store of the code: what the walk to a page's frame comes to, the insertion into the cache, and each call from its
-- number to its outcome.
use mathlib.Core.Path.{◌≡◌, refl, sym, ap, ◌∙◌}
use mathlib.Core.Bool.{Bool, true, false, not, cond}
use mathlib.Core.List.{List}
use Prim.Native.Nat.{ℕ, ◌≤◌, ◌<◌}
use native.Mathlib.Decide.{dec_lt}
use native.Mathlib.Numerals.{add-one}
use native.Mathlib.Omega.{arith}
use lib.Dec.{eqb, ltb, nleb→lt}
use lib.ListN.{length, get_or, set}
use borrow.Author.Tests.{lt-ltb, le-ltb}
use Rattle.lend.specs.declared.Link.TheVariants.{Frame}
use Rattle.lend.specs.declared.Slot.{Slot}
use Rattle.lend.specs.declared.Place.{Place}
use Rattle.lend.specs.Sizes.{Sizes, memory_bytes, key}
use Rattle.lend.specs.Rights.{read_right, write_right, within}
use Rattle.lend.specs.Slots.{slot_at, held}
use Rattle.lend.specs.Tables.{Tables, State, alone, table_of}
use Rattle.lend.specs.Line.{frame_of, links_of}
use Rattle.lend.specs.Cache.{place_at, place_for, cached, empty_in, goes_to, next_after, inserted}
use Rattle.lend.specs.Sound.{Sound}
use Rattle.lend.specs.SoundTest.{sound_test}
use Rattle.lend.specs.Numbers.{no_space, not_live, no_address, bad_rights}
use Rattle.lend.specs.Translate.{address_page, page_at, physical, links_to, hit, entry_of, with_entry, looked}
use Rattle.lend.specs.Calls.{Call, Translate, Load, Store, Outcome, number, cases, step, accept, refuse, board_after, memory_after, report, plain_reply}
use Rattle.lend_basics.proofs.Bools.{true_is}
use Rattle.lend_sound.proofs.SoundTest.{test_sound}
use Rattle.lend_laws.proofs.Accepted.{accepted, refused, tested}
use Rattle.lend_lending.proofs.Frames.{frame_held}
use Rattle.lend_lending.proofs.Insert.{hit_place, page_in, ReadFine, translate_fine, load_fine, store_fine}
use Rattle.lend_code.specs.Inner.{inside_of}
use Rattle.lend_code.specs.Access.{place_after, access_number, Look, look_if, look_at, counted_of, byte_at}
use Rattle.lend_code.proofs.Fits.{inside_key}

module _ (z : Sizes) (b : List Slot) (k : ℕ) where
  -- what the walk comes to: the frame of k and its links
  abbrev pub Reached : ℕ → ℕ → Type 0
  Reached fr over = (fr ≡ frame_of z (slot_at b) k) × (over ≡ links_of z (slot_at b) k)

-- ── the cache's insertion ────────────────────────────────────────────────
module _ (z : Sizes) (c : List Place) (next : ℕ) (q : Place) (long : length c ≡ z.places) (at : ℕ) (is : at ≡ empty_in c) where
  -- an empty place is there: the entry goes to it, and the next place to replace stays
  pub insert_empty : at < z.places → (set c at q ≡ inserted c next q) × (next ≡ next_after c next)
  unfolding goes_to next_after
  insert_empty h = let e : ltb (empty_in c) (length c) ≡ true = rw (← is) (lt-ltb at (length c) (omega arith)) in (rw (e, is), rw e)

  -- none is there: it goes to the next place to replace, and that number moves on
  pub insert_full : z.places ≤ at → (set c next q ≡ inserted c next q) × (place_after z next ≡ next_after c next)
  unfolding goes_to next_after place_after
  insert_full h = let e : ltb (empty_in c) (length c) ≡ false = rw (← is) (le-ltb at (length c) (omega arith)) in (rw e, rw (e, long, add-one next))

-- ── the numbers ──────────────────────────────────────────────────────────
module _ (z : Sizes) (b : Tables) (space address rights : ℕ) where
  -- the last numbers, by the slot of page k
  abbrev from_slot : ℕ → ℕ
  from_slot k = cond (not (held (table_of b k))) 11 (cond (not (within rights (table_of b k).rights)) 12 0)

  abbrev from_space : ℕ → ℕ
  from_space k = cond (no_space z space) 3 (cond (not_live b space) 4 (cond (no_address z address) 5 (cond (bad_rights rights) 6 (from_slot k))))

  -- where no smaller number is given, the page is in the table
  inside_number : from_space (inside_of z (page_at z space address)) ≡ from_space (page_at z space address)
  inside_number = go (no_space z space) refl (no_address z address) refl
    where
      go : (s : Bool) → no_space z space ≡ s → (a : Bool) → no_address z address ≡ a
          → cond s 3 (cond (not_live b space) 4 (cond a 5 (cond (bad_rights rights) 6 (from_slot (inside_of z (page_at z space address))))))
          ≡ cond s 3 (cond (not_live b space) 4 (cond a 5 (cond (bad_rights rights) 6 (from_slot (page_at z space address)))))
      go true es a ea = refl
      go false es true ea = refl
      go false es false ea =
          ap (λ (k : ℕ). cond (not_live b space) 4 (cond (bad_rights rights) 6 (from_slot k)))
          (inside_key z space (address_page address) (nleb→lt z.spaces space (rw es tt)) (page_in z address (nleb→lt (memory_bytes z) address (rw ea tt))))

translate_number : (z : Sizes) (b : Tables) (space address rights : ℕ)
    → access_number z b true space address rights ≡ number z (alone b) (Translate space address rights)
unfolding access_number number cases
translate_number z b space address rights = ap (λ (n : ℕ). cond (not (sound_test z b)) 1 n) (inside_number z b space address rights)

-- whether memory has its length
abbrev pub memory_fits : Sizes → State → Bool
memory_fits z st = eqb (length st.memory) (memory_bytes z)

module _ (z : Sizes) (st : State) (space address : ℕ) where
  pub load_number : access_number z st.board (memory_fits z st) space address read_right ≡ number z st (Load space address)
  unfolding access_number number cases
  load_number = ap (λ (n : ℕ). cond (not (sound_test z st.board)) 1 (cond (not (memory_fits z st)) 2 n)) (inside_number z st.board space address read_right)

  pub store_number : (byte : ℕ) → access_number z st.board (memory_fits z st) space address write_right ≡ number z st (Store space address byte)
  unfolding access_number number cases
  store_number byte = ap (λ (n : ℕ). cond (not (sound_test z st.board)) 1 (cond (not (memory_fits z st)) 2 n)) (inside_number z st.board space address write_right)

-- ── the look at a page ───────────────────────────────────────────────────
-- what an accepted call may rely on: numbers in range, a look that is that of the rules, and a frame that is there
pub record Accessible (z : Sizes) (b : Tables) (space address : ℕ) : Type 0 where
  pub space_in : space < z.spaces
  pub page_in : address_page address < z.pages
  pub look_right : look_at z b space (address_page address)
      ≡ record {
        board = looked z b space address;
        frame = frame_of z (table_of b) (page_at z space address);
        links = cond (hit b space address) 0 (links_of z (table_of b) (page_at z space address));
        hit = hit b space address;
      }
  pub frame_in_law : {l : Look} → l ≡ look_at z b space (address_page address) → l.frame < z.pages

-- what the code makes of a search of the cache, piece by piece: found and q are what it handed back
module _ (z : Sizes) (b : Tables) (space page : ℕ) (found : Bool) (is : found ≡ cached space page b.places) where
  pub look_hit : (q : Place) → q ≡ place_at b.places (place_for space page b.places) → found ≡ true
      → ◌≡◌ {A = Look} (record { board = b; frame = q.frame; links = 0; hit = true }) (look_at z b space page)
  unfolding look_at
  look_hit q eq e = rw (eq, sym is ∙ e)

  pub look_miss : (k fr over at : ℕ) → k ≡ key z space page → Reached z b.slots k fr over → at ≡ inside_of z k → found ≡ false
      → ◌≡◌ {A = Look}
      (record { board = with_entry b (record { space = space; page = page; frame = fr; rights = (table_of b at).rights }); frame = fr; links = over; hit = false })
      (look_at z b space page)
  unfolding look_at
  look_miss k fr over at ek r ea e = rw (r.0, r.1, ea, ek, sym is ∙ e)

-- on a sound board, at a page that is held, the frame is the page's and the board is that of the rules
module _ (z : Sizes) (b : Tables) (sound : Sound z b) (space address rights : ℕ) (fine : ReadFine z b space address rights) where
  look_is : look_at z b space (address_page address)
      ≡ record {
        board = looked z b space address;
        frame = frame_of z (table_of b) (page_at z space address);
        links = cond (hit b space address) 0 (links_of z (table_of b) (page_at z space address));
        hit = hit b space address;
      }
  unfolding look_at looked hit
  look_is = go (cached space (address_page address) b.places) refl
    where
      same : inside_of z (page_at z space address) ≡ page_at z space address
      same = inside_key z space (address_page address) fine.space_in (page_in z address fine.address_in)

      go : (t : Bool) → cached space (address_page address) b.places ≡ t → look_if t z b space (address_page address)
          ≡ record {
            board = cond t b (with_entry b (entry_of z b space (address_page address)));
            frame = frame_of z (table_of b) (page_at z space address);
            links = cond t 0 (links_of z (table_of b) (page_at z space address));
            hit = t;
          }
      go true e = λ i. record {
        board = b;
        frame = (hit_place z b sound space (address_page address) (true_is _ e)).0 i;
        links = 0;
        hit = true;
      }
      go false e = λ i. record {
        board = with_entry b (record {
          space = space;
          page = address_page address;
          frame = frame_of z (table_of b) (page_at z space address);
          rights = (table_of b (same i)).rights;
        });
        frame = frame_of z (table_of b) (page_at z space address);
        links = links_of z (table_of b) (page_at z space address);
        hit = false;
      }

  -- the frame of a held page is one of the frames
  its_frame : frame_of z (table_of b) (page_at z space address) < z.pages
  its_frame =
      let h = frame_held z b.live (table_of b) sound.shape.live_long sound.pages (page_at z space address) fine.is_held in
      go h.0 (frame_of z (table_of b) (page_at z space address)) h.2 (dec_lt h.0 z.pages)
    where
      go : (q i : ℕ) → (table_of b q).link ≡ Frame i → Dec (q < z.pages) → i < z.pages
      go q i e (yes l) =
          let p : (table_of b q).link ≡ Frame q = ap (λ (s : Slot). s.link) (sound.pages.pool q l) in
          let s : i ≡ q = cc in
          omega arith
      go q i e (no l) = absurd (sound.pages.no_frame q i (omega arith) e)

  accessible : Accessible z b space address
  accessible = record {
    space_in = fine.space_in;
    page_in = page_in z address fine.address_in;
    look_right = look_is;
    frame_in_law = λ {l} e. let s : l.frame ≡ frame_of z (table_of b) (page_at z space address) = ap (λ (k : Look). k.frame) (e ∙ look_is) in omega (arith, its_frame);
  }

-- ── the calls ────────────────────────────────────────────────────────────
module _ (z : Sizes) (st : State) (c : Call) (n : ℕ) (is : n ≡ number z st c) where
  -- a number other than 0 refuses a call
  refused_is : (n ≡ 0 → ⊥) → refuse st n ≡ step z st c
  refused_is h = ap (refuse st) is ∙ sym (refused z st c (λ e. h (is ∙ e)))

  module _ (done : n ≡ 0) where
    -- 0 accepts it
    accepted_is : accept z st c ≡ step z st c
    accepted_is = sym (accepted z st c (sym is ∙ done))

    -- and shows that the page may be accessed, where it shows what a look needs
    shown_is : (space address rights : ℕ) → (number z st c ≡ 0 → ReadFine z st.board space address rights) → Accessible z st.board space address
    shown_is space address rights fine =
        accessible z st.board (test_sound z st.board (tested z st c (sym is ∙ done))) space address rights (fine (sym is ∙ done))

-- Each call by its number n: refused, or accepted with what 0 has shown. l is the look at its page, at the byte that it comes to.
module _ (z : Sizes) (b : Tables) (space address rights n : ℕ) (is : n ≡ access_number z b true space address rights) where
  translated : n ≡ number z (alone b) (Translate space address rights)
  translated = is ∙ translate_number z b space address rights

  pub translate_refused : (n ≡ 0 → ⊥) → refuse (alone b) n ≡ step z (alone b) (Translate space address rights)
  translate_refused = refused_is z (alone b) (Translate space address rights) n translated

  module _ (done : n ≡ 0) where
    pub translate_shows : Accessible z b space address
    translate_shows = shown_is z (alone b) (Translate space address rights) n translated done space address rights (translate_fine z (alone b) space address rights)

    module _ (l : Look) (el : l ≡ look_at z b space (address_page address)) where
      -- the links that are counted are the page's, whether it was in the cache or not
      counted_are : counted_of z b.slots space (address_page address) l.hit l.links ≡ links_of z (table_of b) (page_at z space address)
      unfolding counted_of
      counted_are =
          ap (λ (k : Look). counted_of z b.slots space (address_page address) k.hit k.links) (el ∙ translate_shows.look_right)
          ∙ go (hit b space address)
        where
          go : (t : Bool) → counted_of z b.slots space (address_page address) t (cond t 0 (links_of z (table_of b) (page_at z space address)))
              ≡ links_of z (table_of b) (page_at z space address)
          go true = refl
          go false = refl

      pub translate_done : (at far : ℕ) → at ≡ byte_at l.frame address → far ≡ counted_of z b.slots space (address_page address) l.hit l.links
          → ◌≡◌ {A = Outcome} (record { reply = record { number = 0; emptied = 0; address = at; hit = l.hit; links = far; byte = 0 }; state = alone l.board })
          (step z (alone b) (Translate space address rights))
      unfolding report board_after memory_after physical links_to
      translate_done at far ea ef =
          rw (ea, ef ∙ counted_are, el ∙ translate_shows.look_right) (accepted_is z (alone b) (Translate space address rights) n translated done)

module _ (z : Sizes) (st : State) (space address n : ℕ) (is : n ≡ access_number z st.board (memory_fits z st) space address read_right) where
  loaded : n ≡ number z st (Load space address)
  loaded = is ∙ load_number z st space address

  pub load_refused : (n ≡ 0 → ⊥) → refuse st n ≡ step z st (Load space address)
  load_refused = refused_is z st (Load space address) n loaded

  module _ (done : n ≡ 0) where
    pub load_shows : Accessible z st.board space address
    load_shows = shown_is z st (Load space address) n loaded done space address read_right (λ e. (load_fine z st space address e).0)

    pub load_long : length st.memory ≡ memory_bytes z
    load_long = (load_fine z st space address (sym loaded ∙ done)).1

    pub load_done : (l : Look) (at : ℕ) → l ≡ look_at z st.board space (address_page address) → at ≡ byte_at l.frame address
        → ◌≡◌ {A = Outcome}
        (record { reply = record { number = 0; emptied = 0; address = 0; hit = false; links = 0; byte = get_or st.memory at 0 }; state = record { board = l.board; memory = st.memory } })
        (step z st (Load space address))
    unfolding report board_after memory_after physical
    load_done l at el ea = rw (ea, el ∙ load_shows.look_right) (accepted_is z st (Load space address) n loaded done)

module _ (z : Sizes) (st : State) (space address byte n : ℕ) (is : n ≡ access_number z st.board (memory_fits z st) space address write_right) where
  stored : n ≡ number z st (Store space address byte)
  stored = is ∙ store_number z st space address byte

  pub store_refused : (n ≡ 0 → ⊥) → refuse st n ≡ step z st (Store space address byte)
  store_refused = refused_is z st (Store space address byte) n stored

  module _ (done : n ≡ 0) where
    pub store_shows : Accessible z st.board space address
    store_shows = shown_is z st (Store space address byte) n stored done space address write_right (λ e. (store_fine z st space address byte e).0)

    pub store_long : length st.memory ≡ memory_bytes z
    store_long = (store_fine z st space address byte (sym stored ∙ done)).1

    pub store_done : (l : Look) (at : ℕ) → l ≡ look_at z st.board space (address_page address) → at ≡ byte_at l.frame address
        → ◌≡◌ {A = Outcome} (record { reply = plain_reply 0 0; state = record { board = l.board; memory = set st.memory at byte } })
        (step z st (Store space address byte))
    unfolding report board_after memory_after physical
    store_done l at el ea = rw (ea, el ∙ store_shows.look_right) (accepted_is z st (Store space address byte) n stored done)
