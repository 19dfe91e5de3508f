-- The same call over a range on both sizes: the same number, done and emptied, and states that embed again (00; 02, M-100).
use mathlib.Core.Path.{◌≡◌, refl, sym, ap, ◌∙◌}
use mathlib.Core.Bool.{Bool, true, false, not, ◌&&◌, cond}
use mathlib.Core.List.{List, ◌∷◌}
use mathlib.Core.Logic.{◌⊎◌, inl, inr}
use Prim.Native.Nat.{ℕ, zero, suc, ◌+◌, ◌*◌, ◌-◌, ◌/◌, ◌%◌, ◌^◌, ◌≤◌, ◌<◌}
use native.Mathlib.Nat.{mul-le-mul_right, div-add-mod', div-lt_iff_lt-mul}
use native.Mathlib.Decide.{ℕ_discrete, dec_lt}
use native.Mathlib.Omega.{arith}
use lib.Dec.{T, eqb, ltb, leb, ltb→lt, lt→ltb, le→leb}
use lib.Pow.{pow_pos, pow-lt, pow-add}
use borrow.Author.Tests.{eqb-true, leb-true, eq-eqb, ne_eqb, le-leb, lt-ltb, eqb-false}
use Rattle.lend.specs.Sizes.{Sizes, entry}
use Rattle.lend.specs.Tables.{State, alive}
use Rattle.lend.specs.Sound.{Sound}
use Rattle.lend.specs.SoundTest.{sound_test}
use Rattle.lend.specs.Numbers.{◌when◌, first_number}
use Rattle.lend.specs.Calls.{Outcome, step}
use Rattle.lend.specs.Ranges.{Range, Pages, part_pages, is_part, range_of, first_page, page_count, RangeCall, UnmapRange, FlushRange, MapRange, GrantRange, one_cases, pair_cases, range_cases, range_number, range_pages, page_call, Progress, page_done, page_passed, page_made, range_to, range_done, range_refused, range_step}
use Rattle.lend_basics.proofs.Bools.{and_l, and_r, and_i, or_cases, not_not, is_true, and_false}
use Rattle.lend_sound.proofs.SoundTest.{sound_test_law}
use Rattle.lend_laws.proofs.Accepted.{none_holds}
use Rattle.lend_lending.proofs.Always.{step_sound}
use Rattle.lend_models.specs.Embedding.{Fits}
use Rattle.lend_models.specs.Agreement.{in_limits, is_page, takes_memory, Embeds, Agree}
use Rattle.lend_models.specs.RangeAgreement.{is_nil, pages_inside, names_same, is_range, range_in_limits, RangeAgree}
use Rattle.lend_models.proofs.Wide.{wide_page}
use Rattle.lend_models.proofs.SameNumber.{space_same, live_same}
use Rattle.lend_models.proofs.WideSummary.{same_summary}
use Rattle.lend_models.proofs.SameCommand.{emptied_same, same_command}

-- ── one range ────────────────────────────────────────────────────────────
-- nil has no pages
nil_range : (z : Sizes) (base size : ℕ) → T (is_nil base size) → range_of z base size ≡ Pages 0 0
unfolding range_of
nil_range z base size h = rw (is_true (is_nil base size) h)

-- a part is as large as a page at least
part_size : (z : Sizes) (base size : ℕ) → T (is_part z base size) → 10 ≤ size
part_size z base size h =
    leb-true 10 size (is_true (leb 10 size)
    (and_l (leb 10 size) (leb (part_pages size) z.pages) (and_l (leb 10 size && leb (part_pages size) z.pages) (ltb base z.pages) h)))

-- it has no more pages than there are
part_count : (z : Sizes) (base size : ℕ) → T (is_part z base size) → part_pages size ≤ z.pages
part_count z base size h =
    leb-true (part_pages size) z.pages (is_true (leb (part_pages size) z.pages)
    (and_r (leb 10 size) (leb (part_pages size) z.pages) (and_l (leb 10 size && leb (part_pages size) z.pages) (ltb base z.pages) h)))

-- and starts at one of them
part_base : (z : Sizes) (base size : ℕ) → T (is_part z base size) → base < z.pages
part_base z base size h = ltb→lt base z.pages (and_r (leb 10 size && leb (part_pages size) z.pages) (ltb base z.pages) h)

-- it names its pages from its base on, rounded down
part_range : (z : Sizes) (base size : ℕ) → T (is_part z base size) → range_of z base size ≡ Pages (base - base % part_pages size) (part_pages size)
unfolding range_of
part_range z base size h =
    rw (
      ne_eqb size 0 (λ e. omega (arith, part_size z base size h)),
      ne_eqb size 1 (λ e. omega (arith, part_size z base size h)),
      and_false (eqb base 0),
      is_true (is_part z base size) h,
    )

-- a part is one at larger sizes too
part_larger : (z w : Sizes) → Fits z w → (base size : ℕ) → T (is_part z base size) → T (is_part w base size)
part_larger z w fits base size h =
    rw (
      le-leb 10 size (part_size z base size h),
      le-leb (part_pages size) w.pages (omega (arith, part_count z base size h, fits.pages_fit)),
      lt-ltb base w.pages (omega (arith, part_base z base size h, fits.pages_fit)),
    )
    tt

-- a range within the limits names the same pages at both sizes
range_same : (z w : Sizes) → Fits z w → (base size : ℕ) → T (names_same z base size) → range_of w base size ≡ range_of z base size
range_same z w fits base size h = go (or_cases (is_nil base size) (is_part z base size && pages_inside z base size) h)
  where
    go : T (is_nil base size) ⊎ T (is_part z base size && pages_inside z base size) → range_of w base size ≡ range_of z base size
    go (inl n) = nil_range w base size n ∙ sym (nil_range z base size n)
    go (inr p) =
        let q = and_l (is_part z base size) (pages_inside z base size) p in
        part_range w base size (part_larger z w fits base size q) ∙ sym (part_range z base size q)

-- and they are pages of the smaller ones
range_inside : (z : Sizes) (base size : ℕ) → T (names_same z base size) → first_page (range_of z base size) + page_count (range_of z base size) ≤ z.pages
range_inside z base size h = go (or_cases (is_nil base size) (is_part z base size && pages_inside z base size) h)
  where
    go : T (is_nil base size) ⊎ T (is_part z base size && pages_inside z base size) → first_page (range_of z base size) + page_count (range_of z base size) ≤ z.pages
    go (inl n) = rw (nil_range z base size n) (omega arith)
    go (inr p) =
        leb-true (first_page (range_of z base size) + page_count (range_of z base size)) z.pages
        (is_true (pages_inside z base size) (and_r (is_part z base size) (pages_inside z base size) p))

-- the space of a range within the limits
limit_range_space : (z : Sizes) (s base size : ℕ) → T (is_range z s base size) → s < z.spaces
limit_range_space z s base size h = ltb→lt s z.spaces (and_l (ltb s z.spaces) (names_same z base size) h)

-- and the range
limit_range : (z : Sizes) (s base size : ℕ) → T (is_range z s base size) → T (names_same z base size)
limit_range z s base size h = and_r (ltb s z.spaces) (names_same z base size) h

-- a page of it is within the limits
limit_range_page : (z : Sizes) (s base size : ℕ) → T (is_range z s base size) → (i : ℕ) → i < page_count (range_of z base size)
    → T (is_page z s (first_page (range_of z base size) + i))
limit_range_page z s base size h i l =
    and_i (ltb s z.spaces) (ltb (first_page (range_of z base size) + i) z.pages)
    (lt→ltb s z.spaces (limit_range_space z s base size h))
    (lt→ltb (first_page (range_of z base size) + i) z.pages (omega (arith, range_inside z base size (limit_range z s base size h))))

-- ── the pages of a call ──────────────────────────────────────────────────
module _ (z w : Sizes) (fits : Fits z w) where
  -- a call within the limits goes over as many pages at both sizes
  pages_same : (c : RangeCall) → T (range_in_limits z c) → range_pages w c ≡ range_pages z c
  unfolding range_pages
  pages_same (UnmapRange s base size r) h = rw (range_same z w fits base size (limit_range z s base size h))
  pages_same (FlushRange s base size r) h = rw (range_same z w fits base size (limit_range z s base size h))
  pages_same (MapRange s base size u atBase atSize r) h =
      rw (range_same z w fits base size (limit_range z s base size (and_l (is_range z s base size) (is_range z u atBase atSize) h)))
  pages_same (GrantRange s base size u atBase atSize r) h =
      rw (range_same z w fits base size (limit_range z s base size (and_l (is_range z s base size) (is_range z u atBase atSize) h)))

  -- and makes the same one-page calls
  call_same : (c : RangeCall) → T (range_in_limits z c) → (i : ℕ) → page_call w c i ≡ page_call z c i
  unfolding page_call
  call_same (UnmapRange s base size r) h i = rw (range_same z w fits base size (limit_range z s base size h))
  call_same (FlushRange s base size r) h i = rw (range_same z w fits base size (limit_range z s base size h))
  call_same (MapRange s base size u atBase atSize r) h i =
      rw (
        range_same z w fits base size (limit_range z s base size (and_l (is_range z s base size) (is_range z u atBase atSize) h)),
        range_same z w fits atBase atSize (limit_range z u atBase atSize (and_r (is_range z s base size) (is_range z u atBase atSize) h)),
      )
  call_same (GrantRange s base size u atBase atSize r) h i =
      rw (
        range_same z w fits base size (limit_range z s base size (and_l (is_range z s base size) (is_range z u atBase atSize) h)),
        range_same z w fits atBase atSize (limit_range z u atBase atSize (and_r (is_range z s base size) (is_range z u atBase atSize) h)),
      )

-- a one-page call of a range takes no memory
no_memory : (z : Sizes) (c : RangeCall) (i : ℕ) → T (takes_memory (page_call z c i)) → ⊥
unfolding page_call
no_memory z (UnmapRange s base size r) i h = h
no_memory z (FlushRange s base size r) i h = h
no_memory z (MapRange s base size u atBase atSize r) i h = h
no_memory z (GrantRange s base size u atBase atSize r) i h = h

-- the two ranges of a call that passes its first checks have as many pages
pair_counts : (z : Sizes) (st : State) (s : ℕ) (given : Range) (u : ℕ) (taken : Range) (r : ℕ)
    → first_number ((1 when not (sound_test z st.board)) ∷ pair_cases z st s given u taken r) ≡ 0 → page_count given ≡ page_count taken
pair_counts z st s given u taken r e =
    eqb-true (page_count given) (page_count taken) (is_true (eqb (page_count given) (page_count taken)) (not_not (eqb (page_count given) (page_count taken))
    (none_holds ((1 when not (sound_test z st.board)) ∷ pair_cases z st s given u taken r) tt e).1.1.1.1.1.0))

-- so a page of the one and its page of the other are within the limits
pair_in : (z : Sizes) (st : State) (s base size u atBase atSize r : ℕ) → T (is_range z s base size && is_range z u atBase atSize)
    → first_number ((1 when not (sound_test z st.board)) ∷ pair_cases z st s (range_of z base size) u (range_of z atBase atSize) r) ≡ 0
    → (i : ℕ) → i < page_count (range_of z base size)
    → T (is_page z s (first_page (range_of z base size) + i) && is_page z u (first_page (range_of z atBase atSize) + i))
pair_in z st s base size u atBase atSize r h e i l =
    and_i (is_page z s (first_page (range_of z base size) + i)) (is_page z u (first_page (range_of z atBase atSize) + i))
    (limit_range_page z s base size (and_l (is_range z s base size) (is_range z u atBase atSize) h) i l)
    (limit_range_page z u atBase atSize (and_r (is_range z s base size) (is_range z u atBase atSize) h) i
    (omega (arith, pair_counts z st s (range_of z base size) u (range_of z atBase atSize) r e)))

-- each one-page call of a range within the limits is within them
call_in : (z : Sizes) (st : State) (c : RangeCall) → T (range_in_limits z c) → range_number z st c ≡ 0 → (i : ℕ) → i < range_pages z c
    → T (in_limits z (page_call z c i))
unfolding range_number range_cases range_pages page_call
call_in z st (UnmapRange s base size r) h e i l = limit_range_page z s base size h i l
call_in z st (FlushRange s base size r) h e i l = limit_range_page z s base size h i l
call_in z st (MapRange s base size u atBase atSize r) h e i l = pair_in z st s base size u atBase atSize r h e i l
call_in z st (GrantRange s base size u atBase atSize r) h e i l = pair_in z st s base size u atBase atSize r h e i l

-- ── the first checks ─────────────────────────────────────────────────────
module _ (z w : Sizes) (fits : Fits z w) (some_page : 1 ≤ z.pages) (rest : List ℕ) (small large : State)
    (sound : Sound z small.board) (sound_large : Sound w large.board) (embeds : Embeds z w rest small large) where
  -- the same spaces are live
  live_in : (s : ℕ) → alive large.board.live s ≡ alive small.board.live s
  live_in s =
      ap (λ (l : List Bool). alive l s) embeds.live_same
      ∙ live_same z w fits some_page small.board.live small.board.slots sound.shape.live_long sound.shape.slots_long sound.pages s

  -- the checks of one range are the same
  one_same : (s base size r : ℕ) → T (is_range z s base size)
      → one_cases w large s (range_of w base size) r ≡ one_cases z small s (range_of z base size) r
  one_same s base size r h =
      rw (
        space_same z w fits s (limit_range_space z s base size h),
        live_in s,
        range_same z w fits base size (limit_range z s base size h),
      )

  -- so are those of two
  pair_same : (s base size u atBase atSize r : ℕ) → T (is_range z s base size) → T (is_range z u atBase atSize)
      → pair_cases w large s (range_of w base size) u (range_of w atBase atSize) r ≡ pair_cases z small s (range_of z base size) u (range_of z atBase atSize) r
  pair_same s base size u atBase atSize r hs hu =
      rw (
        space_same z w fits s (limit_range_space z s base size hs),
        space_same z w fits u (limit_range_space z u atBase atSize hu),
        live_in s,
        live_in u,
        range_same z w fits base size (limit_range z s base size hs),
        range_same z w fits atBase atSize (limit_range z u atBase atSize hu),
      )

  -- and those of every call within the limits
  range_cases_same : (c : RangeCall) → T (range_in_limits z c) → range_cases w large c ≡ range_cases z small c
  unfolding range_cases
  range_cases_same (UnmapRange s base size r) h = one_same s base size r h
  range_cases_same (FlushRange s base size r) h = one_same s base size r h
  range_cases_same (MapRange s base size u atBase atSize r) h =
      pair_same s base size u atBase atSize r (and_l (is_range z s base size) (is_range z u atBase atSize) h) (and_r (is_range z s base size) (is_range z u atBase atSize) h)
  range_cases_same (GrantRange s base size u atBase atSize r) h =
      pair_same s base size u atBase atSize r (and_l (is_range z s base size) (is_range z u atBase atSize) h) (and_r (is_range z s base size) (is_range z u atBase atSize) h)

  -- so they give the same number
  range_number_same : (c : RangeCall) → T (range_in_limits z c) → range_number w large c ≡ range_number z small c
  unfolding range_number
  range_number_same c h =
      rw (
        is_true (sound_test z small.board) (sound_test_law z small.board sound),
        is_true (sound_test w large.board) (sound_test_law w large.board sound_large),
        range_cases_same c h,
      )

-- ── page by page ─────────────────────────────────────────────────────────
-- the two calls have come equally far, on sound boards that embed; an offset is the model's number of pages until a page is refused
record Together (z w : Sizes) (rest : List ℕ) (p q : Progress) : Type 0 where
  same_number : q.number ≡ p.number
  same_done : q.done ≡ p.done
  same_offset : (p.number ≡ 0 → ⊥) → q.offset ≡ p.offset
  no_offset : p.number ≡ 0 → (p.offset ≡ z.pages) × (q.offset ≡ w.pages)
  embeds : Embeds z w rest p.state q.state
  sound_small : Sound z p.state.board
  sound_large : Sound w q.state.board

module _ (z w : Sizes) (rest : List ℕ) (p q : Progress) (t : Together z w rest p q) where
  -- a page that is done on both
  together_done : (st lst : State) → Embeds z w rest st lst → Sound z st.board → Sound w lst.board
      → Together z w rest (page_done p st) (page_done q lst)
  together_done st lst e s l = record {
    same_number = t.same_number;
    same_done = ap suc t.same_done;
    same_offset = t.same_offset;
    no_offset = t.no_offset;
    embeds = e;
    sound_small = s;
    sound_large = l;
  }

  -- a page that is refused on both: it is the first, or there was one before
  together_passed : (n i : ℕ) → (n ≡ 0 → ⊥) → Together z w rest (page_passed p n i) (page_passed q n i)
  together_passed n i Some-number = go (ℕ_discrete p.number 0)
    where
      go : Dec (p.number ≡ 0) → Together z w rest (page_passed p n i) (page_passed q n i)
      go (yes e) =
          rw (eq-eqb p.number 0 e, eq-eqb q.number 0 (t.same_number ∙ e))
          (record {
            same_number = refl;
            same_done = t.same_done;
            same_offset = λ f. refl;
            no_offset = λ f. absurd (Some-number f);
            embeds = t.embeds;
            sound_small = t.sound_small;
            sound_large = t.sound_large;
          })
      go (no f) =
          rw (ne_eqb p.number 0 f, ne_eqb q.number 0 (λ e. f (sym t.same_number ∙ e)))
          (record {
            same_number = t.same_number;
            same_done = t.same_done;
            same_offset = t.same_offset;
            no_offset = t.no_offset;
            embeds = t.embeds;
            sound_small = t.sound_small;
            sound_large = t.sound_large;
          })

  -- a page on which the two outcomes agree
  together_made : (i : ℕ) (o v : Outcome) → Agree z w rest o v → Sound z o.state.board → Sound w v.state.board
      → Together z w rest (page_made p i o) (page_made q i v)
  together_made i o v a s l = rw a.same_number (go (eqb o.reply.number 0) refl)
    where
      go : (b : Bool) → eqb o.reply.number 0 ≡ b
          → Together z w rest (cond b (page_done p o.state) (page_passed p o.reply.number i)) (cond b (page_done q v.state) (page_passed q o.reply.number i))
      go true e = together_done o.state v.state a.embeds_again s l
      go false e = together_passed o.reply.number i (eqb-false o.reply.number 0 e)

-- ── the whole call ───────────────────────────────────────────────────────
module _ (z w : Sizes) (fits : Fits z w) (some_page : 1 ≤ z.pages) (rest : List ℕ) (small large : State)
    (sound : Sound z small.board) (sound_large : Sound w large.board) (embeds : Embeds z w rest small large)
    (c : RangeCall) (h : T (range_in_limits z c)) where
  -- a page more
  together_more : range_number z small c ≡ 0 → (i : ℕ) → i < range_pages z c → (p q : Progress) → Together z w rest p q
      → Together z w rest (page_made p i (step z p.state (page_call z c i))) (page_made q i (step w q.state (page_call w c i)))
  together_more e i l p q t =
      rw (call_same z w fits c h i)
      (together_made z w rest p q t i (step z p.state (page_call z c i)) (step w q.state (page_call z c i))
      (same_command z w fits some_page rest p.state q.state t.sound_small t.sound_large t.embeds (page_call z c i)
      (call_in z small c h e i l) (λ m. absurd (no_memory z c i m)))
      (step_sound z some_page p.state t.sound_small (page_call z c i))
      (step_sound w (wide_page z w fits some_page) q.state t.sound_large (page_call z c i)))

  -- after each page both have come equally far
  together_to : range_number z small c ≡ 0 → (n : ℕ) → n ≤ range_pages z c → Together z w rest (range_to z small c n) (range_to w large c n)
  unfolding range_to
  together_to e zero l = record {
    same_number = refl;
    same_done = refl;
    same_offset = λ f. absurd (f refl);
    no_offset = λ f. (refl, refl);
    embeds = embeds;
    sound_small = sound;
    sound_large = sound_large;
  }
  together_to e (suc n) l = together_more e n (omega arith) (range_to z small c n) (range_to w large c n) (together_to e n (omega arith))

  -- so a call that passes its first checks agrees
  agree_done : (p q : Progress) → Together z w rest p q → RangeAgree z w rest (range_done small p) (range_done large q)
  agree_done p q t = record {
    same_number = t.same_number;
    same_done = t.same_done;
    same_emptied = rw (embeds.slots_same, t.embeds.slots_same)
        (emptied_same z w fits some_page small.board.slots p.state.board.slots sound.shape.slots_long);
    same_offset = t.same_offset;
    no_offset = t.no_offset;
    embeds_again = t.embeds;
    same_summary = same_summary z w fits some_page p.state.board q.state.board t.sound_small t.sound_large t.embeds.slots_same;
  }

  -- and one that does not
  agree_refused : (n : ℕ) → (n ≡ 0 → ⊥) → RangeAgree z w rest (range_refused small n) (range_refused large n)
  agree_refused n f = record {
    same_number = refl;
    same_done = refl;
    same_emptied = refl;
    same_offset = λ e. refl;
    no_offset = λ e. absurd (f e);
    embeds_again = embeds;
    same_summary = same_summary z w fits some_page small.board large.board sound sound_large embeds.slots_same;
  }

  -- the two calls agree
  agree_range : RangeAgree z w rest (range_step z small c) (range_step w large c)
  unfolding range_step
  agree_range = rw (range_number_same z w fits some_page rest small large sound sound_large embeds c h) (go (ℕ_discrete (range_number z small c) 0))
    where
      go : Dec (range_number z small c ≡ 0)
          → RangeAgree z w rest (cond (eqb (range_number z small c) 0) (range_done small (range_to z small c (range_pages z c))) (range_refused small (range_number z small c)))
          (cond (eqb (range_number z small c) 0) (range_done large (range_to w large c (range_pages w c))) (range_refused large (range_number z small c)))
      go (yes e) =
          rw (eq-eqb (range_number z small c) 0 e, pages_same z w fits c h)
          (agree_done (range_to z small c (range_pages z c)) (range_to w large c (range_pages z c)) (together_to e (range_pages z c) (omega arith)))
      go (no f) = rw (ne_eqb (range_number z small c) 0 f) (agree_refused (range_number z small c) f)

-- M-100: a call over ranges within the limits of the smaller sizes gives the same on both, and leaves states that embed again
pub same_range : (z w : Sizes) → Fits z w → 1 ≤ z.pages → (rest : List ℕ) (small large : State) → Sound z small.board → Sound w large.board
    → Embeds z w rest small large → (c : RangeCall) → T (range_in_limits z c) → RangeAgree z w rest (range_step z small c) (range_step w large c)
same_range z w fits some_page rest small large sound sound_large embeds c h = agree_range z w fits some_page rest small large sound sound_large embeds c h

-- ── parts of a number of pages that is a power of two ────────────────────
-- a base below n times m, rounded down to a multiple of m, has m pages from there on below n times m
rounded_inside : (m n base : ℕ) → 1 ≤ m → base < n * m → base - base % m + m ≤ n * m
rounded_inside m n base h l =
    let d : base / m < n = (div-lt_iff_lt-mul h).1 l in
    omega (arith, div-add-mod' base m, mul-le-mul_right m d)

-- a power of two that is no larger has no larger exponent
exponent_small : (a k : ℕ) → 2 ^ a ≤ 2 ^ k → a ≤ k
exponent_small a k h = go (dec_lt k a)
  where
    go : Dec (k < a) → a ≤ k
    go (yes l) = absurd (omega (arith, pow-lt {i = k} {j = a} l))
    go (no l) = omega arith

-- so it divides the larger one
power_split : (a k : ℕ) → 2 ^ a ≤ 2 ^ k → 2 ^ k ≡ 2 ^ (k - a) * 2 ^ a
power_split a k h =
    let e : k ≡ k - a + a = omega (arith, exponent_small a k h) in
    ap (λ (n : ℕ). 2 ^ n) e ∙ pow-add 2 (k - a) a

-- where a space has a power of two of pages, every part has all its pages inside
parts_inside : (z : Sizes) (k : ℕ) → z.pages ≡ 2 ^ k → (base size : ℕ) → T (is_part z base size) → T (pages_inside z base size)
parts_inside z k is base size h =
    rw (part_range z base size h)
    (le→leb (base - base % part_pages size + part_pages size) z.pages inside)
  where
    split : z.pages ≡ 2 ^ (k - (size - 10)) * part_pages size
    split = is ∙ power_split (size - 10) k (omega (arith, part_count z base size h))

    inside : base - base % part_pages size + part_pages size ≤ z.pages
    inside =
        rw split (rounded_inside (part_pages size) (2 ^ (k - (size - 10))) base (pow_pos (size - 10)) (rw split at (part_base z base size h)))

-- so has every part of Entry
pub entry_parts : (base size : ℕ) → T (is_part entry base size)
    → T (leb (first_page (range_of entry base size) + page_count (range_of entry base size)) entry.pages)
entry_parts = parts_inside entry 5 refl
