-- delete of a space as one withdrawal, and what happens when a space is made live or not.
use mathlib.Core.Path.{◌≡◌, refl, sym, ap, ◌∙◌, fun_ext}
use mathlib.Core.Bool.{Bool, true, false, not, ◌||◌, cond}
use mathlib.Core.List.{List, [], ◌∷◌}
use Prim.Native.Nat.{ℕ, zero, suc, ◌%◌, ◌≤◌, ◌<◌}
use native.Mathlib.Nat.{mul-le-mul_right, mod-lt, div-add-mod', div-eq_of_lt}
use native.Mathlib.Decide.{ℕ_discrete}
use native.Mathlib.Omega.{arith}
use lib.Dec.{T, eqb, eqb→eq, eqb_refl, lit<, T_not, not_T}
use lib.ListN.{length, set}
use lib.Seq.{get_or-set_same, get_or-set_other}
use borrow.Author.Tests.{eq-eqb, ne_eqb}
use Rattle.lend.specs.declared.Slot.{Slot}
use Rattle.lend.specs.declared.Link.TheVariants.{Page}
use Rattle.lend.specs.Sizes.{Sizes, key, space_of}
use Rattle.lend.specs.Rights.{all_rights}
use Rattle.lend.specs.Lists.{any, member, some}
use Rattle.lend.specs.Slots.{Table, empty_slot, held, cut, slot_at}
use Rattle.lend.specs.Tables.{alive}
use Rattle.lend.specs.Line.{line_of, is_on_line, meets}
use Rattle.lend.specs.Sound.{Lent, SoundPages}
use Rattle.lend.specs.Spaces.{wiped_to, wiped}
use Rattle.lend_basics.proofs.Bools.{same_test, is_true, is_false}
use Rattle.lend_basics.proofs.Rights.{join, less_all}
use Rattle.lend_basics.proofs.Lists.{any_of, some_of, some_one}
use Rattle.lend_sound.proofs.Lines.{space_of_key, line_self}
use Rattle.lend_laws.proofs.Withdraw.{cut_cut, cut_zero, rights_small, withdraw, Closed, judged_before}
use Rattle.lend_laws.proofs.Flush.{down_closed, line_down, flushed_at, flushed_sound, length_flushed}

-- ── pages of a space ─────────────────────────────────────────────────────
-- a page of another space than 0 is not in space 0
pub out_of_pool : (z : Sizes) (s p : ℕ) → 1 ≤ s → z.pages ≤ key z s p
out_of_pool z s p h = omega (arith, mul-le-mul_right z.pages h)

-- q is one of the first n pages of space s
abbrev pub is_page : Sizes → ℕ → ℕ → ℕ → Bool
is_page z s n q = some n (λ p. eqb q (key z s p))

-- the pages of a space are those that have it as their space
pub is_page_law : (z : Sizes) (s : ℕ) → 1 ≤ z.pages → (q : ℕ) → is_page z s z.pages q ≡ eqb (space_of z q) s
is_page_law z s h q = same_test (is_page z s z.pages q) (eqb (space_of z q) s) to from
  where
    to : T (is_page z s z.pages q) → T (eqb (space_of z q) s)
    to t =
        let r = some_one z.pages (λ p. eqb q (key z s p)) t in
        rw (eqb→eq q (key z s r.0) r.2, space_of_key z s r.0 r.1) (eqb_refl s)

    from : T (eqb (space_of z q) s) → T (is_page z s z.pages q)
    from t =
        let e : q ≡ key z s (q % z.pages) = rw (← (eqb→eq (space_of z q) s t)) (sym (div-add-mod' q z.pages)) in
        some_of z.pages (λ p. eqb q (key z s p)) (q % z.pages) (mod-lt q h) (rw (← e) (eqb_refl q))

-- ── delete of a space ────────────────────────────────────────────────────
-- one of the first n pages of the space is on the line of k
abbrev pub reached : Sizes → Table → ℕ → ℕ → ℕ → Bool
reached z f s n k = any (is_page z s n) (line_of z f k)

any_none : (xs : List ℕ) → any (λ q. false) xs ≡ false
any_none [] = refl
any_none (x ∷ xs) = any_none xs

any_or : (t u : ℕ → Bool) (xs : List ℕ) → any (λ q. t q || u q) xs ≡ (any t xs || any u xs)
any_or t u [] = refl
any_or t u (x ∷ xs) = ap (λ (b : Bool). (t x || u x) || b) (any_or t u xs) ∙ four (t x) (u x) (any t xs) (any u xs)
  where
    four : (a b c d : Bool) → ((a || b) || (c || d)) ≡ ((a || c) || (b || d))
    four true b c d = refl
    four false true true d = refl
    four false true false d = refl
    four false false c d = refl

-- both of two tests that take all rights take them where one of them holds
join_all : (a b : Bool) → join (cond a all_rights 0) (cond b all_rights 0) ≡ cond (b || a) all_rights 0
unfolding join
join_all true true = refl
join_all true false = refl
join_all false true = refl
join_all false false = refl

cond_lt : (b : Bool) → cond b all_rights 0 < 8
cond_lt true = lit< tt
cond_lt false = lit< tt

-- flushing pages keeps their number
length_wiped_to : (z : Sizes) (s n : ℕ) (b : List Slot) → length (wiped_to z s n b) ≡ length b
unfolding wiped_to
length_wiped_to z s zero b = refl
length_wiped_to z s (suc n) b = length_flushed z (key z s n) all_rights (wiped_to z s n b) ∙ length_wiped_to z s n b

-- delete keeps the number of pages
pub length_wiped : (z : Sizes) (s : ℕ) (b : List Slot) → length (wiped z s b) ≡ length b
length_wiped z s b = length_wiped_to z s z.pages b

module _ (z : Sizes) (live : List Bool) (f : Table) (len : length live ≡ z.spaces) (sound : SoundPages z live f) (s : ℕ) (out : 1 ≤ s) where
  -- the amounts of the flushes of a space's first n pages together
  reached_closed : (n : ℕ) → Closed z f (λ k. cond (reached z f s n k) all_rights 0)
  reached_closed n =
      down_closed z f (λ k. reached z f s n k) all_rights (lit< tt)
      (line_down z live f len sound (is_page z s n) (λ k l. is_false (is_page z s n k) (λ t. no k l (some_one n (λ p. eqb k (key z s p)) t))))
    where
      no : (k : ℕ) → k < z.pages → (p : ℕ) × (p < n) × T (eqb k (key z s p)) → ⊥
      no k l r =
          let e : k ≡ key z s r.0 = eqb→eq k (key z s r.0) r.2 in
          let o = out_of_pool z s r.0 out in
          omega arith

  -- the amounts of a delete: all rights, where the line meets the space
  pub wiped_closed : Closed z f (λ k. cond (meets z f k s) all_rights 0)
  wiped_closed =
      down_closed z f (λ k. meets z f k s) all_rights (lit< tt)
      (line_down z live f len sound (λ q. eqb (space_of z q) s) (λ k l. rw (div-eq_of_lt l) (ne_eqb 0 s (λ e. omega arith))))

module _ (z : Sizes) (live : List Bool) (b : List Slot) (len : length live ≡ z.spaces) (sound : SoundPages z live (slot_at b)) (s : ℕ) (out : 1 ≤ s) where
  -- flushing the first pages of a space keeps a sound table sound
  wiped_to_sound : (n : ℕ) → SoundPages z live (slot_at (wiped_to z s n b))
  unfolding wiped_to
  wiped_to_sound zero = sound
  wiped_to_sound (suc n) =
      flushed_sound z live (wiped_to z s n b) len (wiped_to_sound n) (key z s n) all_rights (out_of_pool z s n out) (lit< tt)

  -- and takes all rights from the pages with one of them on their line
  wiped_to_at : (n k : ℕ) → slot_at (wiped_to z s n b) k ≡ cut (cond (reached z (slot_at b) s n k) all_rights 0) (slot_at b k)
  unfolding wiped_to some
  wiped_to_at zero k = sym (rw (any_none (line_of z (slot_at b) k)) (cut_zero z live (slot_at b) sound k))
  wiped_to_at (suc n) k =
      flushed_at z live (wiped_to z s n b) len (wiped_to_sound n) (key z s n) all_rights k
      ∙ (ap (λ (g : Table). cut (cond (is_on_line z g k (key z s n)) all_rights 0) (g k)) (fun_ext (wiped_to_at n))
      ∙ (judged_before z live (slot_at b) sound a closed (λ l. cond (member (key z s n) l) all_rights 0) k
      ∙ (cut_cut (slot_at b k) (a k) (cond o all_rights 0) (rights_small z live (slot_at b) sound k) (closed.small k) (cond_lt o)
      ∙ ap (λ (d : ℕ). cut d (slot_at b k)) both)))
    where
      a : ℕ → ℕ
      a j = cond (reached z (slot_at b) s n j) all_rights 0

      closed : Closed z (slot_at b) a
      closed = reached_closed z live (slot_at b) len sound s out n

      o : Bool
      o = is_on_line z (slot_at b) k (key z s n)

      both : join (a k) (cond o all_rights 0) ≡ cond (reached z (slot_at b) s (suc n) k) all_rights 0
      both =
          join_all (reached z (slot_at b) s n k) o
          ∙ ap (λ (t : Bool). cond t all_rights 0) (sym (any_or (λ q. eqb q (key z s n)) (is_page z s n) (line_of z (slot_at b) k)))

  -- delete takes all rights from the pages whose line meets the space
  pub wiped_at : 1 ≤ z.pages → (k : ℕ) → slot_at (wiped z s b) k ≡ cut (cond (meets z (slot_at b) k s) all_rights 0) (slot_at b k)
  wiped_at p k =
      wiped_to_at z.pages k
      ∙ ap (λ (t : ℕ → Bool). cut (cond (any t (line_of z (slot_at b) k)) all_rights 0) (slot_at b k)) (fun_ext (is_page_law z s p))

  -- a delete, as tables
  pub wiped_is : 1 ≤ z.pages → slot_at (wiped z s b) ≡ withdraw (λ k. cond (meets z (slot_at b) k s) all_rights 0) (slot_at b)
  wiped_is p = fun_ext (wiped_at p)

  -- delete keeps a sound table sound
  pub wiped_sound : SoundPages z live (slot_at (wiped z s b))
  wiped_sound = wiped_to_sound z.pages

  -- after it the pages of the space are empty
  pub wiped_gone : 1 ≤ z.pages → (k : ℕ) → space_of z k ≡ s → slot_at (wiped z s b) k ≡ empty_slot
  wiped_gone p k e = wiped_at p k ∙ rw (met, less_all (slot_at b k).rights (rights_small z live (slot_at b) sound k))
    where
      met : meets z (slot_at b) k s ≡ true
      met =
          is_true (meets z (slot_at b) k s)
          (any_of (λ q. eqb (space_of z q) s) k (line_of z (slot_at b) k) (line_self z live (slot_at b) len sound k) (rw (eq-eqb (space_of z k) s e) tt))

-- ── the live list ────────────────────────────────────────────────────────
-- with more spaces live a sound table is sound
more_live : (z : Sizes) (live more : List Bool) (f : Table) → ((x : ℕ) → T (alive live x) → T (alive more x))
    → SoundPages z live f → SoundPages z more f
more_live z live more f h sound = record {
  pool_live = h 0 sound.pool_live;
  first_live = h 1 sound.first_live;
  pool = sound.pool;
  no_frame = sound.no_frame;
  not_live = λ k n. sound.not_live k (not_T (alive live (space_of z k)) (λ t. T_not (alive more (space_of z k)) n (h (space_of z k) t)));
  no_link = sound.no_link;
  lent = λ k s p e.
      let c = sound.lent k s p e in
      record {
        space_in = c.space_in;
        page_in = c.page_in;
        space_live = h s c.space_live;
        parent_held = c.parent_held;
        some_right = c.some_right;
        known_rights = c.known_rights;
        contained = c.contained;
      };
  rooted = sound.rooted;
}

-- create: a space becomes live
pub create_live : (z : Sizes) (live : List Bool) (f : Table) (s : ℕ) → s < length live
    → SoundPages z live f → SoundPages z (set live s true) f
create_live z live f s l sound = more_live z live (set live s true) f (λ x t. go x t (ℕ_discrete x s)) sound
  where
    go : (x : ℕ) → T (alive live x) → Dec (x ≡ s) → T (alive (set live s true) x)
    go x t (yes e) = rw (e, get_or-set_same live s true false l) tt
    go x t (no e) = rw (get_or-set_other live s x true false e) t

-- delete: a space other than 0 and 1 whose pages are empty stops being live
pub delete_live : (z : Sizes) (live : List Bool) (f : Table) (s : ℕ) → 2 ≤ s → ((k : ℕ) → space_of z k ≡ s → f k ≡ empty_slot)
    → SoundPages z live f → SoundPages z (set live s false) f
delete_live z live f s s2 gone sound = record {
  pool_live = rw (get_or-set_other live s 0 false false (λ e. omega arith)) sound.pool_live;
  first_live = rw (get_or-set_other live s 1 false false (λ e. omega arith)) sound.first_live;
  pool = sound.pool;
  no_frame = sound.no_frame;
  not_live = λ k n. not_live k n (ℕ_discrete (space_of z k) s);
  no_link = sound.no_link;
  lent = lent;
  rooted = sound.rooted;
}
  where
    not_live : (k : ℕ) → T (not (alive (set live s false) (space_of z k))) → Dec (space_of z k ≡ s) → f k ≡ empty_slot
    not_live k n (yes e) = gone k e
    not_live k n (no e) = sound.not_live k (rw (get_or-set_other live s (space_of z k) false false e) at n)

    lent : (k x p : ℕ) → (f k).link ≡ Page x p → Lent z (set live s false) f k x p
    lent k x p e =
        let c = sound.lent k x p e in
        record {
          space_in = c.space_in;
          page_in = c.page_in;
          space_live = rw (get_or-set_other live s x false false (apart c)) c.space_live;
          parent_held = c.parent_held;
          some_right = c.some_right;
          known_rights = c.known_rights;
          contained = c.contained;
        }
      where
        apart : Lent z live f k x p → x ≡ s → ⊥
        apart c q = let h : T (held empty_slot) = rw (gone (key z x p) (space_of_key z x p c.page_in ∙ q)) at c.parent_held in h
