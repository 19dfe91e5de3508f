-- A withdrawal whose losses all end at one frame: the counts of that frame go down by what was lost, those of the others stay.
use mathlib.Core.Path.{◌≡◌, refl, sym, ap, ◌∙◌}
use mathlib.Core.Bool.{Bool, true, false, not, ◌&&◌, not-not}
use mathlib.Core.List.{List}
use Prim.Native.Nat.{ℕ, zero, suc, ◌+◌, ◌-◌, ◌≤◌, ◌<◌}
use native.Mathlib.Decide.{ℕ_discrete}
use native.Mathlib.Omega.{arith}
use lib.Dec.{T, eqb, eqb→eq, lit<, ltb→lt, T_not}
use lib.ListN.{length, set, length-set}
use lib.Seq.{ext_get_or, get_or-set_same, get_or-set_other}
use borrow.Author.Tests.{eq-eqb}
use Rattle.lend.specs.declared.Slot.{Slot}
use Rattle.lend.specs.declared.Count.{Count}
use Rattle.lend.specs.Sizes.{Sizes, slot_count, in_pool}
use Rattle.lend.specs.Rights.{read_right, write_right, execute_right, less, within}
use Rattle.lend.specs.Lists.{count}
use Rattle.lend.specs.Slots.{Table, held}
use Rattle.lend.specs.Line.{frame_of}
use Rattle.lend.specs.Summary.{ends_at, count_of, no_count, count_at, summary_of}
use Rattle.lend.specs.Sound.{SoundPages}
use Rattle.lend_basics.proofs.Bools.{and_l, and_r, and_i, is_true, is_false, and_true, and_false, differ}
use Rattle.lend_basics.proofs.Rights.{less_lt, less_within, within_zero, within_trans}
use Rattle.lend_basics.proofs.Counting.{count_none, count_same, count_split}
use Rattle.lend_sound.proofs.Summary.{summary_long, summary_counts}
use Rattle.lend_laws.proofs.Withdraw.{rights_small, pos_held, withdraw, Closed, was_held, frame_of_kept, withdraw_sound}
use Rattle.lend_laws.proofs.Emptied.{held_rights}
use Rattle.lend_summary.specs.Counts.{lost_count, count_less, less_at, CountWithin}

-- ── tests of rights ──────────────────────────────────────────────────────
-- a test that no rights fail, and that more rights pass too
record Judges (has : ℕ → Bool) : Type 0 where
  none : has 0 ≡ false
  grows : (r q : ℕ) → r < 8 → q < 8 → T (within r q) → T (has r) → T (has q)

-- to have some right is one
some_judges : Judges (λ r. not (eqb r 0))
some_judges = record { none = refl; grows = grows }
  where
    grows : (r q : ℕ) → r < 8 → q < 8 → T (within r q) → T (not (eqb r 0)) → T (not (eqb q 0))
    grows r zero hr hq w h = rw (within_zero r hr w) at h
    grows r (suc q) hr hq w h = differ (suc q) 0 (λ e. omega arith)

-- to have a certain one is another
right_judges : (d : ℕ) → 1 ≤ d → d < 8 → Judges (within d)
right_judges d some small = record {
  none = is_false (within d 0) (λ h. let e = within_zero d small h in omega arith);
  grows = λ r q hr hq w h. within_trans d r q small hr hq h w;
}

-- rights that pass are some
passes_some : (has : ℕ → Bool) → Judges has → (r : ℕ) → T (has r) → 1 ≤ r
passes_some has judges zero h = absurd (rw judges.none at h)
passes_some has judges (suc r) h = omega arith

again : (p h q : Bool) → (p && h && q) ≡ ((p && h && q) && h)
again true true true = refl
again true true false = refl
again true false q = refl
again false h q = refl

-- the pages that end at a frame are those that have some right
some_counted : (z : Sizes) (live : List Bool) (f : Table) → SoundPages z live f → (i : ℕ)
    → count (slot_count z) (ends_at z f i) ≡ count (slot_count z) (λ k. ends_at z f i k && not (eqb (f k).rights 0))
some_counted z live f sound i =
    count_same (slot_count z) (λ k. ends_at z f i k && not (eqb (f k).rights 0)) (ends_at z f i)
    (λ k l. rw (held_rights z live f sound k) (again (not (in_pool z k)) (not (eqb (f k).rights 0)) (eqb (frame_of z f k) i)))

-- ── one count set ────────────────────────────────────────────────────────
-- counts of which one is set are those that have this one there and the same elsewhere
pub set_counts : (z : Sizes) (s t : List Count) (i : ℕ) (c : Count) → length s ≡ z.pages → length t ≡ z.pages
    → (i < z.pages → c ≡ count_at t i) → ((j : ℕ) → j < z.pages → (j ≡ i → ⊥) → count_at s j ≡ count_at t j) → set s i c ≡ t
set_counts z s t i c ls lt here other =
    ext_get_or no_count (set s i c) t (length-set s i c ∙ (ls ∙ sym lt)) (λ j l. go j (omega (arith, length-set s i c)) (ℕ_discrete j i))
  where
    go : (j : ℕ) → j < z.pages → Dec (j ≡ i) → count_at (set s i c) j ≡ count_at t j
    go j l (yes e) = rw e (get_or-set_same s i c no_count (omega arith) ∙ here (omega arith))
    go j l (no e) = get_or-set_other s i j c no_count e ∙ other j l e

-- n is m and l together
record Parts (n m l : ℕ) : Type 0 where
  sum : n ≡ m + l

part_left : {n m l : ℕ} → Parts n m l → n - l ≡ m
part_left p = omega (arith, p.sum)

part_within : {n m l : ℕ} → Parts n m l → l ≤ n
part_within p = omega (arith, p.sum)

-- ── one test ─────────────────────────────────────────────────────────────
-- every page that loses something ends at frame i
module _ (z : Sizes) (live : List Bool) (f : Table) (sound : SoundPages z live f) (a : ℕ → ℕ) (closed : Closed z f a) (i : ℕ)
    (one : (k : ℕ) → ((withdraw a f k).rights ≡ (f k).rights → ⊥) → frame_of z f k ≡ i) where
  ends_kept : (j k : ℕ) → T (held (withdraw a f k)) → ends_at z (withdraw a f) j k ≡ ends_at z f j k
  ends_kept j k h =
      rw (frame_of_kept z live f sound a closed k h, is_true (held (withdraw a f k)) h, is_true (held (f k)) (was_held z live f sound a closed k h))

  module _ (has : ℕ → Bool) (judges : Judges has) where
    -- a page that still passes did pass, and ends where it did
    stays : (j k : ℕ) → ((ends_at z f j k && has (f k).rights) && has (withdraw a f k).rights) ≡ (ends_at z (withdraw a f) j k && has (withdraw a f k).rights)
    stays j k = go (has (withdraw a f k).rights) refl
      where
        go : (b : Bool) → has (withdraw a f k).rights ≡ b
            → ((ends_at z f j k && has (f k).rights) && has (withdraw a f k).rights) ≡ (ends_at z (withdraw a f) j k && has (withdraw a f k).rights)
        go true e =
            let still = pos_held z live (withdraw a f) (withdraw_sound z live f sound a closed) k (passes_some has judges (withdraw a f k).rights (rw e tt)) in
            let rs = rights_small z live f sound k in
            let did = judges.grows (less (f k).rights (a k)) (f k).rights (less_lt (f k).rights (a k) rs (closed.small k)) rs
            (less_within (f k).rights (a k) rs (closed.small k)) (rw e tt) in
            rw (e, is_true (has (f k).rights) did, ends_kept j k still) (and_true (ends_at z f j k && true))
        go false e = rw (e, and_false (ends_at z f j k && has (f k).rights), and_false (ends_at z (withdraw a f) j k))

    loses : (k : ℕ) → T (has (f k).rights) → T (not (has (withdraw a f k).rights)) → (withdraw a f k).rights ≡ (f k).rights → ⊥
    loses k h n e = T_not (has (withdraw a f k).rights) n (rw e h)

    -- a page that does not pass any more ended at frame i
    ended_here : (k : ℕ) → T (has (f k).rights) → T (not (has (withdraw a f k).rights)) → T (ends_at z f i k)
    ended_here k h n =
        let out : T (not (in_pool z k)) = rw (is_false (in_pool z k) in_pool_law) tt in
        let was = pos_held z live f sound k (passes_some has judges (f k).rights h) in
        let here : T (eqb (frame_of z f k) i) = rw (eq-eqb (frame_of z f k) i (one k (loses k h n))) tt in
        search and_i depth 14
      where
        in_pool_law : T (in_pool z k) → ⊥
        in_pool_law t =
            let l = ltb→lt k z.pages t in
            loses k h n (ap (λ (s : Slot). s.rights) ((withdraw_sound z live f sound a closed).pool k l ∙ sym (sound.pool k l)))

    went_here : (k : ℕ) → ((ends_at z f i k && has (f k).rights) && not (has (withdraw a f k).rights)) ≡ (has (f k).rights && not (has (withdraw a f k).rights))
    went_here k = go (has (f k).rights) (has (withdraw a f k).rights) refl refl
      where
        go : (b c : Bool) → has (f k).rights ≡ b → has (withdraw a f k).rights ≡ c → ((ends_at z f i k && b) && not c) ≡ (b && not c)
        go true true e d = and_false (ends_at z f i k && true)
        go true false e d = rw (is_true (ends_at z f i k) (ended_here k (rw e tt) (rw d tt)))
        go false c e d = rw (and_false (ends_at z f i k))

    went_other : (j : ℕ) → (j ≡ i → ⊥) → (k : ℕ) → ((ends_at z f j k && has (f k).rights) && not (has (withdraw a f k).rights)) ≡ false
    went_other j apart k =
        is_false ((ends_at z f j k && has (f k).rights) && not (has (withdraw a f k).rights))
        (λ h. apart
        (sym (eqb→eq (frame_of z f k) j (search (and_l, and_r) depth 12))
        ∙ one k (loses k (search (and_l, and_r) depth 12) (search (and_l, and_r) depth 12))))

    -- the pages that passed at frame i are those that pass still and those that do not any more
    parts_here : Parts (count (slot_count z) (λ k. ends_at z f i k && has (f k).rights))
        (count (slot_count z) (λ k. ends_at z (withdraw a f) i k && has (withdraw a f k).rights))
        (count (slot_count z) (λ k. has (f k).rights && not (has (withdraw a f k).rights)))
    parts_here =
        let split = count_split (slot_count z) (λ k. ends_at z f i k && has (f k).rights) (λ k. has (withdraw a f k).rights) in
        let stay = count_same (slot_count z) (λ k. ends_at z (withdraw a f) i k && has (withdraw a f k).rights)
        (λ k. (ends_at z f i k && has (f k).rights) && has (withdraw a f k).rights) (λ k l. stays i k) in
        let went = count_same (slot_count z) (λ k. has (f k).rights && not (has (withdraw a f k).rights))
        (λ k. (ends_at z f i k && has (f k).rights) && not (has (withdraw a f k).rights)) (λ k l. went_here k) in
        record { sum = omega arith }

    -- at every other frame as many pages pass as did
    same_other : (j : ℕ) → (j ≡ i → ⊥) → count (slot_count z) (λ k. ends_at z f j k && has (f k).rights)
        ≡ count (slot_count z) (λ k. ends_at z (withdraw a f) j k && has (withdraw a f k).rights)
    same_other j apart =
        let split = count_split (slot_count z) (λ k. ends_at z f j k && has (f k).rights) (λ k. has (withdraw a f k).rights) in
        let stay = count_same (slot_count z) (λ k. ends_at z (withdraw a f) j k && has (withdraw a f k).rights)
        (λ k. (ends_at z f j k && has (f k).rights) && has (withdraw a f k).rights) (λ k l. stays j k) in
        let went = count_none (slot_count z) (λ k. (ends_at z f j k && has (f k).rights) && not (has (withdraw a f k).rights)) (λ k l. went_other j apart k) in
        omega arith

  -- ── the counts ─────────────────────────────────────────────────────────
  right_parts : (d : ℕ) → 1 ≤ d → d < 8
      → Parts (count (slot_count z) (λ k. ends_at z f i k && within d (f k).rights))
      (count (slot_count z) (λ k. ends_at z (withdraw a f) i k && within d (withdraw a f k).rights))
      (count (slot_count z) (λ k. within d (f k).rights && not (within d (withdraw a f k).rights)))
  right_parts d some small = parts_here (within d) (right_judges d some small)

  right_other : (j : ℕ) → (j ≡ i → ⊥) → (d : ℕ) → 1 ≤ d → d < 8
      → count (slot_count z) (λ k. ends_at z f j k && within d (f k).rights)
      ≡ count (slot_count z) (λ k. ends_at z (withdraw a f) j k && within d (withdraw a f k).rights)
  right_other j apart d some small = same_other (within d) (right_judges d some small) j apart

  held_parts : Parts (count (slot_count z) (ends_at z f i)) (count (slot_count z) (ends_at z (withdraw a f) i))
      (count (slot_count z) (λ k. not (eqb (f k).rights 0) && eqb (withdraw a f k).rights 0))
  held_parts =
      let here = (parts_here (λ r. not (eqb r 0)) some_judges).sum in
      let before = some_counted z live f sound i in
      let after = some_counted z live (withdraw a f) (withdraw_sound z live f sound a closed) i in
      let lost = count_same (slot_count z) (λ k. not (eqb (f k).rights 0) && eqb (withdraw a f k).rights 0)
      (λ k. not (eqb (f k).rights 0) && not (not (eqb (withdraw a f k).rights 0))) (λ k l. rw (not-not (eqb (withdraw a f k).rights 0))) in
      record { sum = omega arith }

  held_other : (j : ℕ) → (j ≡ i → ⊥) → count (slot_count z) (ends_at z f j) ≡ count (slot_count z) (ends_at z (withdraw a f) j)
  held_other j apart =
      some_counted z live f sound j
      ∙ (same_other (λ r. not (eqb r 0)) some_judges j apart ∙ sym (some_counted z live (withdraw a f) (withdraw_sound z live f sound a closed) j))

  count_here : count_less (count_of z f i) (lost_count (slot_count z) (λ k. (f k).rights) (λ k. (withdraw a f k).rights)) ≡ count_of z (withdraw a f) i
  unfolding count_of lost_count
  count_here = λ j. record {
    held = part_left held_parts j;
    read = part_left (right_parts read_right (lit< tt) (lit< tt)) j;
    write = part_left (right_parts write_right (lit< tt) (lit< tt)) j;
    execute = part_left (right_parts execute_right (lit< tt) (lit< tt)) j;
  }

  count_other : (j : ℕ) → (j ≡ i → ⊥) → count_of z f j ≡ count_of z (withdraw a f) j
  unfolding count_of
  count_other j apart = λ x. record {
    held = held_other j apart x;
    read = right_other j apart read_right (lit< tt) (lit< tt) x;
    write = right_other j apart write_right (lit< tt) (lit< tt) x;
    execute = right_other j apart execute_right (lit< tt) (lit< tt) x;
  }

  -- the summary after the withdrawal
  pub cut_summary : less_at (summary_of z f) i (lost_count (slot_count z) (λ k. (f k).rights) (λ k. (withdraw a f k).rights)) ≡ summary_of z (withdraw a f)
  cut_summary = set_counts z (summary_of z f) (summary_of z (withdraw a f)) i (count_less (count_at (summary_of z f) i) lost)
      (summary_long z f) (summary_long z (withdraw a f))
      (λ l. ap (λ (c : Count). count_less c lost) (summary_counts z f i l) ∙ (count_here ∙ sym (summary_counts z (withdraw a f) i l)))
      (λ j l apart. summary_counts z f j l ∙ (count_other j apart ∙ sym (summary_counts z (withdraw a f) j l)))
    where
      lost : Count
      lost = lost_count (slot_count z) (λ k. (f k).rights) (λ k. (withdraw a f k).rights)

  -- and what is lost was counted before
  pub cut_within : i < z.pages → CountWithin (lost_count (slot_count z) (λ k. (f k).rights) (λ k. (withdraw a f k).rights)) (count_at (summary_of z f) i)
  unfolding count_of lost_count
  cut_within l = rw (summary_counts z f i l) (record {
    held_within = part_within held_parts;
    read_within = part_within (right_parts read_right (lit< tt) (lit< tt));
    write_within = part_within (right_parts write_right (lit< tt) (lit< tt));
    execute_within = part_within (right_parts execute_right (lit< tt) (lit< tt));
  })
