-- The loop over the pages of a range: what it has come to after each page is `range_to` of the rules, and one test of soundness is
-- enough, since every one-page call keeps a sound board sound.
use mathlib.Core.Path.{◌≡◌, refl, sym, ap, ◌∙◌, subst}
use mathlib.Core.Bool.{Bool, true, false, cond}
use mathlib.Core.List.{List}
use Prim.Native.Nat.{ℕ, suc, ◌+◌, ◌≤◌, ◌<◌}
use native.Mathlib.Numerals.{add-one}
use native.Mathlib.Decide.{ℕ_discrete}
use native.Mathlib.Omega.{arith}
use lib.Dec.{T, eqb, ltb}
use borrow.Author.Tests.{eqb-true, lt-ltb, eq-eqb, ne_eqb}
use Rattle.lend.specs.Sizes.{Sizes}
use Rattle.lend.specs.Tables.{Tables, State, alone}
use Rattle.lend.specs.Sound.{Sound}
use Rattle.lend.specs.Emptied.{emptied}
use Rattle.lend.specs.SoundTest.{sound_test}
use Rattle.lend.specs.Calls.{Call, Unmap, Flush, Map, Grant, Outcome, step}
use Rattle.lend.specs.Ranges.{Range, range_of, first_page, page_count, RangeCall, UnmapRange, FlushRange, MapRange, GrantRange, Progress, RangeOutcome, range_cases, range_number, range_pages, page_call, page_made, range_to, range_done, range_refused, range_step}
use Rattle.lend_basics.proofs.Bools.{and_true, and_false}
use Rattle.lend_sound.proofs.SoundTest.{test_sound}
use Rattle.lend_lending.proofs.Always.{step_sound}
use Rattle.lend_lending.proofs.RangeCalls.{passed_state}
use Rattle.lend_code.specs.Inner.{rights_of, lost_all}
use Rattle.lend_code.specs.Ranges.{one_number, pair_number, none_made, one_more, made_one, all_made}
use Rattle.lend_code.proofs.Taken.{lost_between}
use Rattle.lend_code.proofs.Ranges.{count_small, first_small}

-- how far a run has come, its count of emptied pages aside
abbrev pub progress_of : RangeOutcome → Progress
progress_of run = record { number = run.number; done = run.done; offset = run.offset; state = run.state }

-- after i pages the run has come as far as the rules, on a board that is still sound
pub record Going (z : Sizes) (st : State) (c : RangeCall) (run : RangeOutcome) (i : ℕ) : Type 0 where
  pub so_far : progress_of run ≡ range_to z st c i
  pub sound : Sound z run.state.board
  pub counted : run.done ≤ i
  pub within : i ≤ range_pages z c

-- ── one page ─────────────────────────────────────────────────────────────
module _ (z : Sizes) (run : RangeOutcome) (page : Outcome) (i : ℕ) where
  -- the first refused page stays the first, also where there is none yet
  first_stays : (n : ℕ) → cond (eqb n 0) 0 n ≡ n
  first_stays n = go (eqb n 0) refl
    where
      go : (t : Bool) → eqb n 0 ≡ t → cond t 0 n ≡ n
      go true e = sym (eqb-true n 0 e)
      go false e = refl

  -- a page that is done is counted
  page_done_law : page.reply.number ≡ 0 → run.done < z.pages → progress_of (made_one z run page i) ≡ page_made (progress_of run) i page
  unfolding made_one one_more
  page_done_law e h =
      rw (e, lt-ltb run.done z.pages h, and_false (eqb run.number 0), add-one run.done)
      (λ j. record { number = first_stays run.number j; done = suc run.done; offset = run.offset; state = page.state })

  -- a page that is refused is passed over: it left the state as it was
  page_passed_law : (page.reply.number ≡ 0 → ⊥) → page.state ≡ run.state → progress_of (made_one z run page i) ≡ page_made (progress_of run) i page
  unfolding made_one
  page_passed_law e h = rw (ne_eqb page.reply.number 0 e, and_true (eqb run.number 0), h)

-- ── the loop ─────────────────────────────────────────────────────────────
-- no call goes over more pages than there are
pub pages_small : (z : Sizes) (c : RangeCall) → range_pages z c ≤ z.pages
unfolding range_pages
pages_small z (UnmapRange s base size r) = count_small z base size
pages_small z (FlushRange s base size r) = count_small z base size
pages_small z (MapRange s base size u at_base at_size r) = count_small z base size
pages_small z (GrantRange s base size u at_base at_size r) = count_small z base size

-- before the first page; run₀ is the run with which the loop starts
pub going_none : (z : Sizes) (st : State) (c : RangeCall) (run₀ : RangeOutcome) → run₀ ≡ none_made z st → Sound z st.board
    → Going z run₀.state c run₀ 0
unfolding range_to
going_none z st c run₀ is sound =
    subst (λ (o : RangeOutcome). Going z o.state c o 0) (sym is)
    (record { so_far = refl; sound = sound; counted = omega arith; within = omega arith })

-- m is the number of pages that the code goes over
module _ (z : Sizes) (some_page : 1 ≤ z.pages) (st : State) (c : RangeCall) (run : RangeOutcome) (i : ℕ) (g : Going z st c run i)
    (m : ℕ) (is_m : m ≡ range_pages z c) (more : i < m) where
  -- the rules' next page, from where the run is
  next_is : range_to z st c (i + 1) ≡ page_made (progress_of run) i (step z run.state (page_call z c i))
  unfolding range_to
  next_is = rw (add-one i) (ap (λ (p : Progress). page_made p i (step z p.state (page_call z c i))) (sym g.so_far))

  made_is : progress_of (made_one z run (step z run.state (page_call z c i)) i) ≡ page_made (progress_of run) i (step z run.state (page_call z c i))
  made_is = go (ℕ_discrete (step z run.state (page_call z c i)).reply.number 0)
    where
      go : Dec ((step z run.state (page_call z c i)).reply.number ≡ 0)
          → progress_of (made_one z run (step z run.state (page_call z c i)) i) ≡ page_made (progress_of run) i (step z run.state (page_call z c i))
      go (yes e) = page_done_law z run (step z run.state (page_call z c i)) i e (omega (arith, g.counted, pages_small z c))
      go (no n) = page_passed_law z run (step z run.state (page_call z c i)) i n (passed_state z run.state (page_call z c i) n)

  made_counted : (page : Outcome) → (made_one z run page i).done ≤ i + 1
  unfolding made_one one_more
  made_counted page = go (eqb page.reply.number 0) (ltb run.done z.pages)
    where
      go : (t u : Bool) → cond t (cond u (run.done + 1) run.done) run.done ≤ i + 1
      go true true = omega (arith, g.counted)
      go true false = omega (arith, g.counted)
      go false u = omega (arith, g.counted)

  -- after one page more, done or refused
  pub going_more : (call : Call) → call ≡ page_call z c i → (page : Outcome) → page ≡ step z run.state call
      → (next : RangeOutcome) → next ≡ made_one z run page i → (j : ℕ) → j ≡ i + 1 → Going z st c next j
  unfolding made_one
  going_more call is_call page is_page_law next is-next j is-j = record {
    so_far = ap progress_of is ∙ (made_is ∙ (sym next_is ∙ ap (range_to z st c) (sym is-j)));
    sound = subst (λ (o : RangeOutcome). Sound z o.state.board) (sym is) (step_sound z some_page run.state g.sound (page_call z c i));
    counted = subst (λ (o : RangeOutcome). o.done ≤ j) (sym is) (omega (arith, made_counted (step z run.state (page_call z c i))));
    within = omega arith;
  }
    where
      is : next ≡ made_one z run (step z run.state (page_call z c i)) i
      is = is-next ∙ ap (λ (o : Outcome). made_one z run o i) (is_page_law ∙ ap (step z run.state) is_call)

-- ── the whole call ───────────────────────────────────────────────────────
-- n is the number of the first checks
module _ (z : Sizes) (st : State) (c : RangeCall) (n : ℕ) (is : n ≡ range_number z st c) where
  -- another number than 0 refuses the call
  pub range_refused_law : (n ≡ 0 → ⊥) → range_refused st n ≡ range_step z st c
  unfolding range_step
  range_refused_law h = rw (ne_eqb (range_number z st c) 0 (λ e. h (is ∙ e)), is)

  -- 0 accepts it, and shows that the board is sound
  pub range_shows : n ≡ 0 → Sound z st.board
  unfolding range_number
  range_shows e = test_sound z st.board (go (sound_test z st.board) refl)
    where
      go : (t : Bool) → sound_test z st.board ≡ t → T t
      go true q = tt
      go false q = let x : ◌≡◌ {A = ℕ} 1 0 = rw q at (sym is ∙ e) in omega arith

  -- after the last page, the rights before the call and after it tell what was emptied
  pub range_done_law : n ≡ 0 → (before : List ℕ) → before ≡ rights_of z st.board.slots → (m : ℕ) → m ≡ range_pages z c
      → (run₀ : RangeOutcome) → run₀ ≡ none_made z st → (run : RangeOutcome) (i : ℕ) → Going z run₀.state c run i → m ≤ i
      → (last : RangeOutcome) → last ≡ all_made z before run → last ≡ range_step z st c
  unfolding range_step all_made
  range_done_law e before is-before m is_m run₀ is-run₀ run i from out last is_last =
      let g : Going z st c run i = subst (λ (o : RangeOutcome). Going z o.state c run i) is-run₀ from in
      let whole = range_shows e in
      let count : i ≡ range_pages z c = omega (arith, g.within) in
      let end : progress_of run ≡ range_to z st c (range_pages z c) = g.so_far ∙ ap (range_to z st c) count in
      let lost : lost_all z before (rights_of z run.state.board.slots) ≡ emptied st.board.slots run.state.board.slots
      = ap (λ (l : List ℕ). lost_all z l (rights_of z run.state.board.slots)) is-before
      ∙ lost_between z st.board.live run.state.board.live st.board.slots run.state.board.slots
      whole.shape.slots_long g.sound.shape.slots_long whole.pages g.sound.pages in
      is_last
      ∙ ((λ j. record { number = run.number; done = run.done; offset = run.offset; emptied = lost j; state = run.state })
      ∙ (ap (range_done st) end ∙ rw (eq-eqb (range_number z st c) 0 (sym is ∙ e))))

-- ── the four calls ───────────────────────────────────────────────────────
-- q is a range that the code has found, f its first page and m its pages
module _ (z : Sizes) (base size : ℕ) (q : Range) (is : q ≡ range_of z base size) where
  pub first_in_law : (f : ℕ) → f ≡ first_page q → f ≤ z.pages
  first_in_law f e = rw (e, is) (first_small z base size)

  pub count_in_law : (m : ℕ) → m ≡ page_count q → m ≤ z.pages
  count_in_law m e = rw (e, is) (count_small z base size)

-- n is a number of the first checks
module _ (z : Sizes) (b : Tables) (s base size r : ℕ) (q : Range) (is : q ≡ range_of z base size) where
  pub unmap_range_number : (n : ℕ) → n ≡ one_number z b s q r → n ≡ range_number z (alone b) (UnmapRange s base size r)
  unfolding one_number range_number range_cases
  unmap_range_number n e = rw is at e

  pub flush_range_number : (n : ℕ) → n ≡ one_number z b s q r → n ≡ range_number z (alone b) (FlushRange s base size r)
  unfolding one_number range_number range_cases
  flush_range_number n e = rw is at e

  pub unmap_range_pages : (m : ℕ) → m ≡ page_count q → m ≡ range_pages z (UnmapRange s base size r)
  unfolding range_pages
  unmap_range_pages m e = rw is at e

  pub flush_range_pages : (m : ℕ) → m ≡ page_count q → m ≡ range_pages z (FlushRange s base size r)
  unfolding range_pages
  flush_range_pages m e = rw is at e

  pub unmap_range_call : (f : ℕ) → f ≡ first_page q → (i : ℕ) → Unmap s (f + i) r ≡ page_call z (UnmapRange s base size r) i
  unfolding page_call
  unmap_range_call f e i = rw (e, is)

  pub flush_range_call : (f : ℕ) → f ≡ first_page q → (i : ℕ) → Flush s (f + i) r ≡ page_call z (FlushRange s base size r) i
  unfolding page_call
  flush_range_call f e i = rw (e, is)

-- likewise with two ranges: q is the giver's, p the taker's
module _ (z : Sizes) (b : Tables) (s base size u at_base at_size r : ℕ) (q p : Range) (is-q : q ≡ range_of z base size) (is-p : p ≡ range_of z at_base at_size) where
  pub map_range_number : (n : ℕ) → n ≡ pair_number z b s q u p r → n ≡ range_number z (alone b) (MapRange s base size u at_base at_size r)
  unfolding pair_number range_number range_cases
  map_range_number n e = rw (is-q, is-p) at e

  pub grant_range_number : (n : ℕ) → n ≡ pair_number z b s q u p r → n ≡ range_number z (alone b) (GrantRange s base size u at_base at_size r)
  unfolding pair_number range_number range_cases
  grant_range_number n e = rw (is-q, is-p) at e

  pub map_range_pages : (m : ℕ) → m ≡ page_count q → m ≡ range_pages z (MapRange s base size u at_base at_size r)
  unfolding range_pages
  map_range_pages m e = rw is-q at e

  pub grant_range_pages : (m : ℕ) → m ≡ page_count q → m ≡ range_pages z (GrantRange s base size u at_base at_size r)
  unfolding range_pages
  grant_range_pages m e = rw is-q at e

  pub map_range_call : (f g : ℕ) → f ≡ first_page q → g ≡ first_page p → (i : ℕ)
      → Map s (f + i) u (g + i) r ≡ page_call z (MapRange s base size u at_base at_size r) i
  unfolding page_call
  map_range_call f g e h i = rw (e, h, is-q, is-p)

  pub grant_range_call : (f g : ℕ) → f ≡ first_page q → g ≡ first_page p → (i : ℕ)
      → Grant s (f + i) u (g + i) r ≡ page_call z (GrantRange s base size u at_base at_size r) i
  unfolding page_call
  grant_range_call f g e h i = rw (e, h, is-q, is-p)
