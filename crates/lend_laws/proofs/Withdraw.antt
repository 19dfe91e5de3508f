-- Withdrawal: each page loses an amount of rights of its own, and a child all that its parent loses.
use mathlib.Core.Path.{◌≡◌, refl, sym, ap, ◌∙◌}
use mathlib.Core.Bool.{Bool, true, false, not, cond}
use mathlib.Core.List.{List}
use Prim.Native.Nat.{ℕ, zero, suc, ◌≤◌, ◌<◌}
use native.Mathlib.Nat.{le_of_suc-le-suc}
use native.Mathlib.Decide.{dec_lt}
use native.Mathlib.Omega.{arith}
use lib.Dec.{T, eqb, lit<}
use borrow.Author.Tests.{ne_eqb}
use Rattle.lend.specs.declared.Slot.{Slot}
use Rattle.lend.specs.declared.Link.{Link}
use Rattle.lend.specs.declared.Link.TheVariants.{Nothing, Frame, Page}
use Rattle.lend.specs.Sizes.{Sizes, key, space_of}
use Rattle.lend.specs.Rights.{less, within}
use Rattle.lend.specs.Slots.{Table, empty_slot, frame_slot, linked, held, link_left, cut}
use Rattle.lend.specs.Tables.{alive}
use Rattle.lend.specs.Line.{Line, line, line_of, is_on_line, below, meets, frame, frame_of}
use Rattle.lend.specs.Sound.{Lent, Rooted, SoundPages}
use Rattle.lend_basics.proofs.Rights.{join, less_none, less_lt, less_zero, less_less, less_within_less, within_zero}
use Rattle.lend_sound.proofs.Lines.{is_line_same, line_same, frame_same}

-- ── one slot ─────────────────────────────────────────────────────────────
-- a link that is left is the old one
pub left_link : (r : ℕ) (l : Link) → T (linked (link_left r l)) → link_left r l ≡ l
left_link r l h = go (eqb r 0) h
  where
    go : (b : Bool) → T (linked (cond b Nothing l)) → cond b Nothing l ≡ l
    go true t = absurd t
    go false t = refl

-- with a right left the link stays
pub right_link : (r : ℕ) (l : Link) → 1 ≤ r → link_left r l ≡ l
right_link r l h = rw (ne_eqb r 0 (λ e. omega arith))

-- and a link that stays shows a right
link_right : (r : ℕ) (l : Link) → T (linked (link_left r l)) → 1 ≤ r
link_right zero l h = absurd h
link_right (suc r) l h = omega arith

-- nothing is taken from an empty page
pub cut_empty : (d : ℕ) → cut d empty_slot ≡ empty_slot
cut_empty d = rw (less_none d)

-- two withdrawals from a page are one of both amounts
pub cut_cut : (s : Slot) (d e : ℕ) → s.rights < 8 → d < 8 → e < 8 → cut e (cut d s) ≡ cut (join d e) s
cut_cut s d e hs hd he = rw (less_less s.rights d e hs hd he) (go (less s.rights d) refl)
  where
    after : Link → Slot
    after l = record { link = link_left (less s.rights (join d e)) l; rights = less s.rights (join d e) }

    go : (n : ℕ) → less s.rights d ≡ n → after (link_left (less s.rights d) s.link) ≡ cut (join d e) s
    go zero q = rw (sym (less_less s.rights d e hs hd he) ∙ (ap (λ (x : ℕ). less x e) q ∙ less_none e))
    go (suc n) q = ap after (right_link (less s.rights d) s.link (omega arith))

-- ── a sound table ────────────────────────────────────────────────────────
module _ (z : Sizes) (live : List Bool) (f : Table) (sound : SoundPages z live f) where
  -- every page has rights from 0 to 7
  pub rights_small : (k : ℕ) → (f k).rights < 8
  rights_small k = go (f k).link refl
    where
      at_frame : (i : ℕ) → (f k).link ≡ Frame i → Dec (k < z.pages) → (f k).rights < 8
      at_frame i e (yes h) = rw (sound.pool k h) (lit< tt)
      at_frame i e (no h) = absurd (sound.no_frame k i (omega arith) e)

      go : (l : Link) → (f k).link ≡ l → (f k).rights < 8
      go Nothing e = rw (sound.no_link k e) (lit< tt)
      go (Frame i) e = at_frame i e (dec_lt k z.pages)
      go (Page s p) e = omega (arith, (sound.lent k s p e).known_rights)

  -- a held page has a right
  pub held_pos : (k : ℕ) → T (held (f k)) → 1 ≤ (f k).rights
  held_pos k h = go (f k).link refl h
    where
      at_frame : (i : ℕ) → (f k).link ≡ Frame i → Dec (k < z.pages) → 1 ≤ (f k).rights
      at_frame i e (yes l) = rw (sound.pool k l) (lit< tt)
      at_frame i e (no l) = absurd (sound.no_frame k i (omega arith) e)

      go : (l : Link) → (f k).link ≡ l → T (linked l) → 1 ≤ (f k).rights
      go Nothing e t = absurd t
      go (Frame i) e t = at_frame i e (dec_lt k z.pages)
      go (Page s p) e t = (sound.lent k s p e).some_right

  -- a page with a right is held
  pub pos_held : (k : ℕ) → 1 ≤ (f k).rights → T (held (f k))
  pos_held k h = go (f k).link refl
    where
      go : (l : Link) → (f k).link ≡ l → T (linked l)
      go Nothing e = let n = sound.no_link k e in omega arith
      go (Frame i) e = tt
      go (Page s p) e = tt

  -- a page that is not held has the empty form
  pub not_held : (k : ℕ) → T (not (held (f k))) → f k ≡ empty_slot
  not_held k h = go (f k).link refl h
    where
      go : (l : Link) → (f k).link ≡ l → T (not (linked l)) → f k ≡ empty_slot
      go Nothing e t = λ i. record { link = e i; rights = sound.no_link k e i }
      go (Frame i) e t = absurd t
      go (Page s p) e t = absurd t

  -- a page that loses nothing stays as it is
  pub cut_zero : (k : ℕ) → cut 0 (f k) ≡ f k
  cut_zero k = go (held (f k)) refl
    where
      go : (b : Bool) → held (f k) ≡ b → cut 0 (f k) ≡ f k
      go true e =
          let l = held_pos k (rw e tt) in
          rw (less_zero (f k).rights (rights_small k), right_link (f k).rights (f k).link l)
      go false e = rw (not_held k (rw e tt)) (cut_empty 0)

-- ── withdrawal ───────────────────────────────────────────────────────────
-- each page k loses the rights a k
abbrev pub withdraw : (ℕ → ℕ) → Table → Table
withdraw a f = λ k. cut (a k) (f k)

-- amounts that are rights, take nothing from space 0, and take from a page all that they take from its parent
pub record Closed (z : Sizes) (f : Table) (a : ℕ → ℕ) : Type 0 where
  pub small : (k : ℕ) → a k < 8
  pub not_pool : (k : ℕ) → k < z.pages → a k ≡ 0
  pub down : (k s p : ℕ) → (f k).link ≡ Page s p → T (within (a (key z s p)) (a k))

module _ (z : Sizes) (live : List Bool) (f : Table) (sound : SoundPages z live f) (a : ℕ → ℕ) (closed : Closed z f a) where
  -- what is left of a page is among what is left of its parent
  left_within : (k s p : ℕ) → (f k).link ≡ Page s p
      → T (within (less (f k).rights (a k)) (less (f (key z s p)).rights (a (key z s p))))
  left_within k s p e =
      less_within_less (f k).rights (f (key z s p)).rights (a (key z s p)) (a k)
      (rights_small z live f sound k) (rights_small z live f sound (key z s p)) (closed.small (key z s p)) (closed.small k)
      (sound.lent k s p e).contained (closed.down k s p e)

  -- a page that is still held has its old link
  pub link_kept : (k : ℕ) → T (held (withdraw a f k)) → (withdraw a f k).link ≡ (f k).link
  link_kept k h = left_link (less (f k).rights (a k)) (f k).link h

  -- and was held before
  pub was_held : (k : ℕ) → T (held (withdraw a f k)) → T (held (f k))
  was_held k h = rw (link_kept k h) at h

  -- and has a right left
  pub left_pos : (k : ℕ) → T (held (withdraw a f k)) → 1 ≤ less (f k).rights (a k)
  left_pos k h = link_right (less (f k).rights (a k)) (f k).link h

  -- a held page with a right left is still held
  pub pos_left : (k : ℕ) → T (held (f k)) → 1 ≤ less (f k).rights (a k) → T (held (withdraw a f k))
  pos_left k h l = rw (right_link (less (f k).rights (a k)) (f k).link l) h

  -- the parent of a page that is still held is still held
  parent_kept : (k s p : ℕ) → (f k).link ≡ Page s p → T (held (withdraw a f k)) → T (held (withdraw a f (key z s p)))
  parent_kept k s p e h = pos_left (key z s p) (sound.lent k s p e).parent_held (go (less (f (key z s p)).rights (a (key z s p))) refl)
    where
      go : (n : ℕ) → less (f (key z s p)).rights (a (key z s p)) ≡ n → 1 ≤ less (f (key z s p)).rights (a (key z s p))
      go zero q =
          let w : T (within (less (f k).rights (a k)) 0) = rw q at (left_within k s p e) in
          let o = within_zero (less (f k).rights (a k)) (less_lt _ _ (rights_small z live f sound k) (closed.small k)) w in
          let l = left_pos k h in
          omega arith
      go (suc n) q = omega arith

  -- the line of a page that is still held is what it was
  is_line_kept : {k : ℕ} {l : List ℕ} → Line z f k l → T (held (withdraw a f k)) → Line z (withdraw a f) k l
  is_line_kept = is_line_same z f (withdraw a f) (λ k. T (held (withdraw a f k))) link_kept parent_kept

  -- and so is the line as it is computed
  line_kept : (n k : ℕ) → T (held (withdraw a f k)) → line z (withdraw a f) n k ≡ line z f n k
  line_kept = line_same z f (withdraw a f) (λ k. T (held (withdraw a f k))) link_kept parent_kept

  -- followed as far as there are spaces, too
  line_of_kept : (k : ℕ) → T (held (withdraw a f k)) → line_of z (withdraw a f) k ≡ line_of z f k
  line_of_kept k h = line_kept z.spaces k h

  -- so the same pages are on it
  pub on_line_kept : (k y : ℕ) → T (held (withdraw a f k)) → is_on_line z (withdraw a f) k y ≡ is_on_line z f k y
  on_line_kept k y h = rw (line_of_kept k h)

  -- and it is below the same pages
  pub below_kept : (k y : ℕ) → T (held (withdraw a f k)) → below z (withdraw a f) k y ≡ below z f k y
  below_kept k y h = rw (line_of_kept k h)

  -- and meets the same spaces
  pub meets_kept : (k s : ℕ) → T (held (withdraw a f k)) → meets z (withdraw a f) k s ≡ meets z f k s
  meets_kept k s h = rw (line_of_kept k h)

  -- and ends at the same frame
  frame_kept : (n k : ℕ) → T (held (withdraw a f k)) → frame z (withdraw a f) n k ≡ frame z f n k
  frame_kept = frame_same z f (withdraw a f) (λ k. T (held (withdraw a f k))) link_kept parent_kept

  -- followed as far as there are spaces, too
  pub frame_of_kept : (k : ℕ) → T (held (withdraw a f k)) → frame_of z (withdraw a f) k ≡ frame_of z f k
  frame_of_kept k h = frame_kept z.spaces k h

  -- a withdrawal keeps a sound table sound
  pub withdraw_sound : SoundPages z live (withdraw a f)
  withdraw_sound = record {
    pool_live = sound.pool_live;
    first_live = sound.first_live;
    pool = pool;
    no_frame = no_frame;
    not_live = not_live;
    no_link = no_link;
    lent = lent;
    rooted = rooted;
  }
    where
      pool : (k : ℕ) → k < z.pages → withdraw a f k ≡ frame_slot k
      pool k h = rw (closed.not_pool k h, sound.pool k h, less_zero 7 (lit< tt))

      no_frame : (k i : ℕ) → z.pages ≤ k → (withdraw a f k).link ≡ Frame i → ⊥
      no_frame k i h e = let g : T (held (withdraw a f k)) = rw e tt in sound.no_frame k i h (sym (link_kept k g) ∙ e)

      not_live : (k : ℕ) → T (not (alive live (space_of z k))) → withdraw a f k ≡ empty_slot
      not_live k h = rw (sound.not_live k h, less_none (a k))

      no_link : (k : ℕ) → (withdraw a f k).link ≡ Nothing → less (f k).rights (a k) ≡ 0
      no_link k e = go (less (f k).rights (a k)) refl
        where
          go : (n : ℕ) → less (f k).rights (a k) ≡ n → less (f k).rights (a k) ≡ 0
          go zero q = q
          go (suc n) q =
              let e' : (f k).link ≡ Nothing = sym (right_link (less (f k).rights (a k)) (f k).link (omega arith)) ∙ e in
              rw (sound.no_link k e') (less_none (a k))

      lent : (k s p : ℕ) → (withdraw a f k).link ≡ Page s p → Lent z live (withdraw a f) k s p
      lent k s p e =
          let g : T (held (withdraw a f k)) = rw e tt in
          let e' : (f k).link ≡ Page s p = sym (link_kept k g) ∙ e in
          let c = sound.lent k s p e' in
          record {
            space_in = c.space_in;
            page_in = c.page_in;
            space_live = c.space_live;
            parent_held = parent_kept k s p e' g;
            some_right = left_pos k g;
            known_rights = le_of_suc-le-suc (less_lt _ _ (rights_small z live f sound k) (closed.small k));
            contained = left_within k s p e';
          }

      rooted : (k : ℕ) → T (held (withdraw a f k)) → Rooted z (withdraw a f) k
      rooted k h =
          let r = sound.rooted k (was_held k h) in
          record { pages = r.pages; is_line = is_line_kept r.is_line h; reaches = r.reaches; once = r.once }

  -- of a later withdrawal that asks the line of each page, it is the same whether the line before or after this one is asked
  pub judged_before : (h : List ℕ → ℕ) (k : ℕ)
      → cut (h (line_of z (withdraw a f) k)) (withdraw a f k) ≡ cut (h (line_of z f k)) (withdraw a f k)
  judged_before h k = go (held (withdraw a f k)) refl
    where
      go : (b : Bool) → held (withdraw a f k) ≡ b
          → cut (h (line_of z (withdraw a f) k)) (withdraw a f k) ≡ cut (h (line_of z f k)) (withdraw a f k)
      go true e = ap (λ (l : List ℕ). cut (h l) (withdraw a f k)) (line_of_kept k (rw e tt))
      go false e =
          let n : withdraw a f k ≡ empty_slot = not_held z live (withdraw a f) withdraw_sound k (rw e tt) in
          ap (cut (h (line_of z (withdraw a f) k))) n
          ∙ (cut_empty (h (line_of z (withdraw a f) k)) ∙ (sym (cut_empty (h (line_of z f k))) ∙ ap (cut (h (line_of z f k))) (sym n)))

  -- a second withdrawal from what the first one left is one withdrawal of both amounts
  pub compose : (c : ℕ → ℕ) → Closed z (withdraw a f) c → (k : ℕ) → cut (c k) (cut (a k) (f k)) ≡ cut (join (a k) (c k)) (f k)
  compose c next k = cut_cut (f k) (a k) (c k) (rights_small z live f sound k) (closed.small k) (next.small k)
