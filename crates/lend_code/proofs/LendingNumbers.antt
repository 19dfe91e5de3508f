-- The numbers of map and grant, as the code finds them: first of what is named, and then of the lines of the pages.
use mathlib.Core.Path.{◌≡◌, refl, sym, ap, ◌∙◌}
use mathlib.Core.Bool.{Bool, true, false, not, ◌&&◌, ◌||◌, cond}
use mathlib.Core.List.{List, [], ◌∷◌, ◌++◌}
use Prim.Native.Nat.{ℕ, ◌≤◌, ◌<◌}
use native.Mathlib.Omega.{arith}
use lib.Dec.{T, eqb, ltb, eqb_refl, eqb→eq, nleb→lt, nltb→le}
use Rattle.lend.specs.declared.Link.{Link}
use Rattle.lend.specs.declared.Link.TheVariants.{Nothing, Frame, Page}
use Rattle.lend.specs.declared.Slot.{Slot}
use Rattle.lend.specs.Sizes.{Sizes, slot_count, key, space_of}
use Rattle.lend.specs.Rights.{all_rights, within}
use Rattle.lend.specs.Lists.{any, some}
use Rattle.lend.specs.Slots.{Table, slot_at, held}
use Rattle.lend.specs.Tables.{Tables, alone, table_of}
use Rattle.lend.specs.Line.{line_of, is_on_line, meets}
use Rattle.lend.specs.Sound.{Sound}
use Rattle.lend.specs.SoundTest.{sound_test}
use Rattle.lend.specs.Lending.{grant_source}
use Rattle.lend.specs.Numbers.{Case, ◌when◌, first_number, no_space, no_page, source_below_taker, taker_below_source}
use Rattle.lend.specs.Calls.{Map, Grant, number, cases}
use Rattle.lend_basics.proofs.Bools.{and_r, or_r, not_not, not_or, not_is_false, same_test, differ}
use Rattle.lend_basics.proofs.Lists.{any_of, some_of, some_one}
use Rattle.lend_sound.proofs.Lines.{space_of_key, line_self, line_step}
use Rattle.lend_sound.proofs.SoundTest.{test_sound}
use Rattle.lend_laws.proofs.Accepted.{numbered, none_holds}
use Rattle.lend_code.specs.Inner.{inside_of, line_has, only_page}
use Rattle.lend_code.specs.Lending.{meets_in, other_in, named_cases, named_number, lines_number}
use Rattle.lend_code.proofs.Fits.{key_in, inside_key}
use Rattle.lend_code.proofs.Withdrawals.{space_has, reached_has}

-- ── cases in two parts ───────────────────────────────────────────────────
-- a number of the first part is the number of both
first_some : (cs ds : List Case) → (first_number cs ≡ 0 → ⊥) → first_number (cs ++ ds) ≡ first_number cs
first_some [] ds h = absurd (h refl)
first_some (c ∷ cs) ds h = go (first_some cs ds) c.holds refl
  where
    go : ((first_number cs ≡ 0 → ⊥) → first_number (cs ++ ds) ≡ first_number cs) → (b : Bool) → c.holds ≡ b → first_number ((c ∷ cs) ++ ds) ≡ first_number (c ∷ cs)
    go rest true q = rw q
    go rest false q = rw q (rest (λ e. h (rw q e)))

-- and where no case of the first part holds, the number is that of the second
first_none : (cs ds : List Case) → T (numbered cs) → first_number cs ≡ 0 → first_number (cs ++ ds) ≡ first_number ds
first_none [] ds n e = refl
first_none (c ∷ cs) ds n e =
    let q : c.holds ≡ false = not_is_false c.holds (none_holds (c ∷ cs) n e).0 in
    rw q (first_none cs ds (and_r (not (eqb c.number 0)) (numbered cs) n) (rw q at e))

-- the second part, of the pages
abbrev page_cases : Sizes → Table → ℕ → ℕ → ℕ → ℕ → ℕ → List Case
page_cases z f g source t u r =
    (11 when not (held (f g)))
    ∷ (12 when not (within r (f g).rights))
    ∷ (13 when meets z f g u)
    ∷ (14 when source_below_taker z f source t)
    ∷ (15 when taker_below_source z f source t)
    ∷ []

-- ── what is named ────────────────────────────────────────────────────────
-- what the first part leaves, where it refuses nothing
pub record NamedFine (z : Sizes) (b : Tables) (s p u v r : ℕ) (shut : Bool) : Type 0 where
  pub sound : Sound z b
  pub giver_space : s < z.spaces
  pub taker_space : u < z.spaces
  pub giver_page : p < z.pages
  pub taker_page : v < z.pages
  pub known_rights : r ≤ all_rights
  pub not_shut : T (not shut)

named_fine : (z : Sizes) (b : Tables) (s p u v r : ℕ) (shut : Bool) → named_number z b s p u v r shut ≡ 0 → NamedFine z b s p u v r shut
unfolding named_number
named_fine z b s p u v r shut e =
    let n = none_holds (named_cases z b s p u v r shut) tt e in
    let o3 = not_or (no_space z s) (no_space z u) n.1.0 in
    let o5 = not_or (no_page z p) (no_page z v) n.1.1.1.0 in
    let o6 = not_or (eqb r 0) (ltb all_rights r) n.1.1.1.1.0 in
    record {
      sound = test_sound z b (not_not (sound_test z b) n.0);
      giver_space = nleb→lt z.spaces s o3.0;
      taker_space = nleb→lt z.spaces u o3.1;
      giver_page = nleb→lt z.pages p o5.0;
      taker_page = nleb→lt z.pages v o5.1;
      known_rights = nltb→le all_rights r o6.1;
      not_shut = n.1.1.1.1.1.0;
    }

-- so both pages are in the table
module _ {z : Sizes} {b : Tables} {s p u v r : ℕ} {shut : Bool} (fine : NamedFine z b s p u v r shut) where
  pub giver_in : key z s p < slot_count z
  giver_in = key_in z s p fine.giver_space fine.giver_page

  pub taker_in : key z u v < slot_count z
  taker_in = key_in z u v fine.taker_space fine.taker_page

-- ── the lines ────────────────────────────────────────────────────────────
-- tests that agree below n find the same
some_same : (n : ℕ) (t w : ℕ → Bool) → ((k : ℕ) → k < n → t k ≡ w k) → some n t ≡ some n w
some_same n t w h =
    same_test (some n t) (some n w)
    (λ a. let o = some_one n t a in some_of n w o.0 o.1 (rw (h o.0 o.1) at o.2))
    (λ a. let o = some_one n w a in some_of n t o.0 o.1 (rw (h o.0 o.1) o.2))

-- 14's test of a page, and 15's: on the line, in the space, not itself
turn_two : (on is not-it : Bool) → ((on && is) && not-it) ≡ (is && (on && not-it))
turn_two true true n = refl
turn_two true false n = refl
turn_two false true n = refl
turn_two false false n = refl

turn_three : (on is not-it own : Bool) → (T is → T (not own)) → ((on && is) && not-it) ≡ ((is && not-it) && (on && not own))
turn_three true true true true h = absurd (h tt)
turn_three true true true false h = refl
turn_three true true false o h = refl
turn_three true false n o h = refl
turn_three false true true o h = refl
turn_three false true false o h = refl
turn_three false false n o h = refl

-- what follows 13 matters only where it does not hold
after_13 : (ring : Bool) (x y : ℕ) → (ring ≡ false → x ≡ y) → cond ring 13 x ≡ cond ring 13 y
after_13 true x y h = refl
after_13 false x y h = h refl

module _ (z : Sizes) (b : Tables) (s p u v r : ℕ) (shut : Bool) (fine : NamedFine z b s p u v r shut) (source : ℕ) (source_in : source < slot_count z)
    (source-on : T (is_on_line z (table_of b) (key z s p) source)) where
  under : List Bool
  under = line_has z b.slots (only_page z (key z u v))

  -- 13: the walk meets the space of the taker
  ring_same : meets_in z b.slots (key z s p) (space_of z (key z u v)) ≡ meets z (table_of b) (key z s p) u
  unfolding meets_in
  ring_same =
      ap (meets_in z b.slots (key z s p)) (space_of_key z u v fine.taker_page)
      ∙ ap (λ (t : ℕ → Bool). any t (line_of z (table_of b) (key z s p))) (space_has z u (omega (arith, fine.taker_page)) fine.taker_space)

  -- 14
  source_same : other_in z under (space_of z source) (key z u v) ≡ source_below_taker z (table_of b) source (key z u v)
  unfolding other_in under
  source_same =
      some_same (slot_count z) _ _
      (λ k h. ap (λ (on : Bool). (on && eqb (space_of z k) (space_of z source)) && not (eqb k (key z u v))) (reached_has z b.slots (key z u v) k (taker_in fine) h)
      ∙ turn_two (is_on_line z (table_of b) k (key z u v)) (eqb (space_of z k) (space_of z source)) (not (eqb k (key z u v))))

  -- the source is on the giver's line, so where 13 does not hold it is not in the taker's space
  source_out : meets z (table_of b) (key z s p) u ≡ false → (k : ℕ) → T (eqb (space_of z k) (space_of z (key z u v))) → T (not (eqb k source))
  source_out none k h = differ k source (λ e. rw none at (met e))
    where
      met : k ≡ source → T (meets z (table_of b) (key z s p) u)
      met e = any_of (λ q. eqb (space_of z q) u) source (line_of z (table_of b) (key z s p)) source-on
          (rw (← e, eqb→eq (space_of z k) (space_of z (key z u v)) h, space_of_key z u v fine.taker_page) (eqb_refl u))

  -- 15
  taker_same : meets z (table_of b) (key z s p) u ≡ false
      → other_in z (line_has z b.slots (only_page z source)) (space_of z (key z u v)) (key z u v) ≡ taker_below_source z (table_of b) source (key z u v)
  unfolding other_in
  taker_same none =
      some_same (slot_count z) _ _
      (λ k h. ap (λ (on : Bool). (on && eqb (space_of z k) (space_of z (key z u v))) && not (eqb k (key z u v))) (reached_has z b.slots source k source_in h)
      ∙ turn_three (is_on_line z (table_of b) k source) (eqb (space_of z k) (space_of z (key z u v))) (not (eqb k (key z u v))) (eqb k source) (source_out none k))

  -- all five
  lines_are : lines_number z b.slots under (key z s p) source (key z u v) r ≡ first_number (page_cases z (table_of b) (key z s p) source (key z u v) u r)
  unfolding lines_number
  lines_are =
      ap (λ (k : ℕ). cond (not (held (table_of b k))) 11 (cond (not (within r (table_of b k).rights)) 12 found)) (inside_key z s p fine.giver_space fine.giver_page)
      ∙ ap (λ (n : ℕ). cond (not (held (table_of b (key z s p)))) 11 (cond (not (within r (table_of b (key z s p)).rights)) 12 n)) rest
    where
      found : ℕ
      found =
          cond (meets_in z b.slots (key z s p) (space_of z (key z u v))) 13
          (cond (other_in z under (space_of z source) (key z u v)) 14
          (cond (other_in z (line_has z b.slots (only_page z source)) (space_of z (key z u v)) (key z u v)) 15 0))

      rest : found ≡ cond (meets z (table_of b) (key z s p) u) 13 (cond (source_below_taker z (table_of b) source (key z u v)) 14 (cond (taker_below_source z (table_of b) source (key z u v)) 15 0))
      rest =
          ap (λ (t : Bool). cond t 13 (cond (other_in z under (space_of z source) (key z u v)) 14 (cond (other_in z (line_has z b.slots (only_page z source)) (space_of z (key z u v)) (key z u v)) 15 0))) ring_same
          ∙ after_13 (meets z (table_of b) (key z s p) u) _ _
          (λ none. ap (λ (t : Bool). cond t 14 (cond (other_in z (line_has z b.slots (only_page z source)) (space_of z (key z u v)) (key z u v)) 15 0)) source_same
          ∙ ap (λ (t : Bool). cond (source_below_taker z (table_of b) source (key z u v)) 14 (cond t 15 0)) (taker_same none))

-- what the code finds, test by test, and picks from, number by number
pub lines_made : (z : Sizes) (b : List Slot) (under : List Bool) (g source t r at : ℕ) (held_there enough ring source-below taker-below : Bool)
    (n15 n14 n13 n12 n11 : ℕ) → at ≡ inside_of z g → held_there ≡ held (slot_at b at) → enough ≡ within r (slot_at b at).rights → ring ≡ meets_in z b g (space_of z t)
    → source-below ≡ other_in z under (space_of z source) t → taker-below ≡ other_in z (line_has z b (only_page z source)) (space_of z t) t
    → n15 ≡ cond taker-below 15 0 → n14 ≡ cond source-below 14 n15 → n13 ≡ cond ring 13 n14 → n12 ≡ cond (not enough) 12 n13 → n11 ≡ cond (not held_there) 11 n12
    → n11 ≡ lines_number z b under g source t r
unfolding lines_number
lines_made z b under g source t r at held_there enough ring source-below taker-below n15 n14 n13 n12 n11 is_at is_held_lem is-enough is-ring is-source is-taker e15 e14 e13 e12 e11 =
    rw (e11, e12, e13, e14, e15, is-taker, is-source, is-ring, is-enough, is_held_lem, is_at)

-- ── the source ───────────────────────────────────────────────────────────
-- of a map the giver is the source, and of a grant its parent: a page of the table on the giver's line
module _ (z : Sizes) (b : Tables) (s p u v r : ℕ) (shut : Bool) (fine : NamedFine z b s p u v r shut) where
  giver_on : T (is_on_line z (table_of b) (key z s p) (key z s p))
  giver_on = line_self z b.live (table_of b) fine.sound.shape.live_long fine.sound.pages (key z s p)

  source_fine : (l : Link) → (table_of b (key z s p)).link ≡ l → (grant_source z l (key z s p) < slot_count z) × T (is_on_line z (table_of b) (key z s p) (grant_source z l (key z s p)))
  source_fine Nothing e = (giver_in fine, giver_on)
  source_fine (Frame i) e = (giver_in fine, giver_on)
  source_fine (Page x y) e =
      let c = fine.sound.pages.lent (key z s p) x y e in (
        key_in z x y c.space_in c.page_in,
        rw (line_step z b.live (table_of b) fine.sound.shape.live_long fine.sound.pages (key z s p) x y e)
            (or_r (eqb (key z s p) (key z x y)) (is_on_line z (table_of b) (key z x y) (key z x y))
            (line_self z b.live (table_of b) fine.sound.shape.live_long fine.sound.pages (key z x y))),
      )

-- ── the numbers of the calls ─────────────────────────────────────────────
module _ (z : Sizes) (b : Tables) (s p u v r n : ℕ) (is : n ≡ named_number z b s p u v r (eqb u 0)) where
  map_both : number z (alone b) (Map s p u v r) ≡ first_number (named_cases z b s p u v r (eqb u 0) ++ page_cases z (table_of b) (key z s p) (key z s p) (key z u v) u r)
  unfolding number cases
  map_both = refl

  -- a number of what is named is the number
  pub map_named : (n ≡ 0 → ⊥) → n ≡ number z (alone b) (Map s p u v r)
  unfolding named_number
  map_named h = is ∙ sym (map_both ∙ first_some (named_cases z b s p u v r (eqb u 0)) (page_cases z (table_of b) (key z s p) (key z s p) (key z u v) u r) (λ e. h (is ∙ e)))

  pub map_named_fine : n ≡ 0 → NamedFine z b s p u v r (eqb u 0)
  map_named_fine e = named_fine z b s p u v r (eqb u 0) (sym is ∙ e)

  -- and where there is none, that of the lines
  pub map_lines : n ≡ 0 → (m : ℕ) → m ≡ lines_number z b.slots (line_has z b.slots (only_page z (key z u v))) (key z s p) (key z s p) (key z u v) r
      → m ≡ number z (alone b) (Map s p u v r)
  unfolding named_number under
  map_lines e m h =
      let fine = map_named_fine e in
      h ∙ (lines_are z b s p u v r (eqb u 0) fine (key z s p) (giver_in fine) (giver_on z b s p u v r (eqb u 0) fine)
      ∙ sym (map_both ∙ first_none (named_cases z b s p u v r (eqb u 0)) (page_cases z (table_of b) (key z s p) (key z s p) (key z u v) u r) tt (sym is ∙ e)))

module _ (z : Sizes) (b : Tables) (s p u v r n : ℕ) (is : n ≡ named_number z b s p u v r (eqb u 0 || eqb s 0)) where
  source : ℕ
  source = grant_source z (table_of b (key z s p)).link (key z s p)

  grant_both : number z (alone b) (Grant s p u v r) ≡ first_number (named_cases z b s p u v r (eqb u 0 || eqb s 0) ++ page_cases z (table_of b) (key z s p) source (key z u v) u r)
  unfolding number cases source
  grant_both = refl

  pub grant_named : (n ≡ 0 → ⊥) → n ≡ number z (alone b) (Grant s p u v r)
  unfolding named_number
  grant_named h = is ∙ sym (grant_both ∙ first_some (named_cases z b s p u v r (eqb u 0 || eqb s 0)) (page_cases z (table_of b) (key z s p) source (key z u v) u r) (λ e. h (is ∙ e)))

  pub grant_named_fine : n ≡ 0 → NamedFine z b s p u v r (eqb u 0 || eqb s 0)
  grant_named_fine e = named_fine z b s p u v r (eqb u 0 || eqb s 0) (sym is ∙ e)

  pub grant_lines : n ≡ 0 → (m : ℕ)
      → m ≡ lines_number z b.slots (line_has z b.slots (only_page z (key z u v))) (key z s p) (grant_source z (table_of b (key z s p)).link (key z s p)) (key z u v) r
      → m ≡ number z (alone b) (Grant s p u v r)
  unfolding named_number under source
  grant_lines e m h =
      let fine = grant_named_fine e in
      let w = source_fine z b s p u v r (eqb u 0 || eqb s 0) fine (table_of b (key z s p)).link refl in
      h ∙ (lines_are z b s p u v r (eqb u 0 || eqb s 0) fine source w.0 w.1
      ∙ sym (grant_both ∙ first_none (named_cases z b s p u v r (eqb u 0 || eqb s 0)) (page_cases z (table_of b) (key z s p) source (key z u v) u r) tt (sym is ∙ e)))
