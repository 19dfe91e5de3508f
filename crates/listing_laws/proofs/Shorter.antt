-- Where the last spaces have numbers with more digits than the first, two lines of every listing are shorter than a line can be: a line of
-- pages leaves the last spaces, and the page at which it does so has a parent with fewer digits.
use Prim.Native.Nat.{ℕ, zero, suc, ◌+◌, ◌*◌, ◌-◌, ◌≤◌, ◌<◌}
use mathlib.Core.Path.{◌≡◌, refl, sym, ap, ◌∙◌}
use mathlib.Core.Bool.{Bool, true, false, not, cond}
use mathlib.Core.Logic.{◌⊎◌, inl, inr}
use mathlib.Core.List.{List, [], ◌∷◌, map}
use native.Mathlib.Omega.{arith}
use native.Mathlib.Decide.{dec_lt}
use native.Mathlib.Nat.{le-div_iff_mul-le, div-lt_iff_lt-mul}
use lib.ListN.{length, length-append}
use lib.Dec.{T, eqb, eqb→eq, ltb→lt}
use borrow.Author.Tests.{eq-eqb, eqb-true, eqb-false}
use Rattle.lend_basics.proofs.Bools.{and_l, or_cases, or_l, or_r, true_is}
use Rattle.lend_basics.proofs.Lists.{any_map, any_of}
use Rattle.lend.specs.declared.Link.{Link}
use Rattle.lend.specs.declared.Link.TheVariants.{Nothing, Frame, Page}
use Rattle.lend.specs.Sizes.{Sizes, slot_count, key, space_of, in_pool}
use Rattle.lend.specs.Lists.{any, member, distinct}
use Rattle.lend.specs.Rights.{all_rights}
use Rattle.lend.specs.Slots.{Table, held}
use Rattle.lend.specs.Tables.{Tables, table_of}
use Rattle.lend.specs.Line.{Line, ends, climbs}
use Rattle.lend.specs.Sound.{Lent, Sound}
use Rattle.lend_sound.proofs.Lines.{space_of_key, parent_link, parent_held, held_live, alive_in}
use Rattle.text.specs.Decimal.{decimal}
use Rattle.text.specs.Write.{page_line}
use Rattle.text.specs.Write as write
use Rattle.listing.specs.Listing.{page_in, slot_line, pages_from}
use Rattle.listing.proofs.Said.{Readable}
use Rattle.listing_laws.proofs.Rows.{page_of_key}
use Rattle.listing_laws.proofs.Longest.{longest_line, longest_lines, decimal_rise, page_line_law, page_lines}

-- a line of pages meets the space of its first page there alone
once_there : {z : Sizes} {f : Table} {k : ℕ} {l : List ℕ} → Line z f k l → T (distinct (map (space_of z) l)) → (x : ℕ) → T (member x l)
    → space_of z x ≡ space_of z k → k ≡ x
once_there {z} {f} {k} (ends e) d x m s = go (or_cases (eqb k x) false m)
  where
    go : T (eqb k x) ⊎ T false → k ≡ x
    go (inl h) = eqb→eq k x h
    go (inr h) = absurd h
once_there {z} {f} {k} (climbs {l = l} e more) d x m s = go (or_cases (eqb k x) (member x l) m)
  where
    again : T (member x l) → T (member (space_of z k) (map (space_of z) l))
    again h = rw (any_map (space_of z) (λ y. eqb y (space_of z k)) l) (any_of (λ q. eqb (space_of z q) (space_of z k)) x l h (true_is _ (eq-eqb (space_of z x) (space_of z k) s)))

    never : (t : Bool) → T (not t) → T t → ⊥
    never true h g = h
    never false h g = g

    go : T (eqb k x) ⊎ T (member x l) → k ≡ x
    go (inl h) = eqb→eq k x h
    go (inr h) = absurd (never (member (space_of z k) (map (space_of z) l)) (and_l (not (member (space_of z k) (map (space_of z) l))) (distinct (map (space_of z) l)) d) (again h))

one_shorter : (s p q q' r r' t t' : ℕ) → suc (length (decimal q)) ≤ length (decimal q') → r ≤ r' → t ≤ t'
    → suc (length (page_line s p q r t)) ≤ length (page_line s p q' r' t')
unfolding page_line write.entry
one_shorter s p q q' r r' t t' hq hr ht = simp length-append (omega (arith, hq, decimal_rise r r' hr, decimal_rise t t' ht))

some_line : (s p q r t : ℕ) → 1 ≤ length (page_line s p q r t)
unfolding page_line write.entry
some_line s p q r t = simp length-append (omega arith)

-- spaces below `low` have fewer digits than the last
module _ (z : Sizes) (small : Readable z) (low : ℕ) (some-low : 1 ≤ low) (low-in : low < z.spaces) (two-pages : 2 ≤ z.pages)
    (fewer : (n : ℕ) → n < low → suc (length (decimal n)) ≤ length (decimal (z.spaces - 1))) (b : Tables) (w : Sound z b) where
  -- a page whose line is shorter than a line can be
  record Short (k : ℕ) : Type 0 where
    pub outside : z.pages ≤ k
    pub inside : k < slot_count z
    pub shorter : suc (length (slot_line (space_of z k) (page_in z k) (table_of b k))) ≤ longest_line z k

  not_pool : (k : ℕ) → low ≤ space_of z k → z.pages ≤ k
  not_pool k h = let m : 1 * z.pages ≤ k = (le-div_iff_mul-le small.some_page).0 (omega arith) in omega arith

  empty_short : (k : ℕ) → low ≤ space_of z k → k < slot_count z → (table_of b k).link ≡ Nothing → Short k
  unfolding slot_line longest_line
  empty_short k h l e = record { outside = not_pool k h; inside = l; shorter = rw e (some_line (space_of z k) (page_in z k) (z.spaces - 1) (z.pages - 1) all_rights) }

  low_short : (k s p : ℕ) → low ≤ space_of z k → k < slot_count z → (table_of b k).link ≡ Page s p → s < low → Short k
  unfolding slot_line longest_line
  low_short k s p h l e m =
      let g : Lent z b.live (table_of b) k s p = w.pages.lent k s p e in
      record {
        outside = not_pool k h;
        inside = l;
        shorter = rw e (one_shorter (space_of z k) (page_in z k) s (z.spaces - 1) p (z.pages - 1) (table_of b k).rights all_rights (fewer s m) (omega (arith, g.page_in)) g.known_rights);
      }

  held_inside : (k : ℕ) → T (held (table_of b k)) → k < slot_count z
  held_inside k h =
      let m : space_of z k < length b.live = alive_in b.live (space_of z k) (held_live z b.live (table_of b) w.shape.live_long w.pages k h) in
      (div-lt_iff_lt-mul small.some_page).0 (rw w.shape.live_long at m)

  -- a short page of the last spaces on a line of pages
  record Found (l : List ℕ) : Type 0 where
    pub page : ℕ
    pub on : T (member page l)
    pub high : low ≤ space_of z page
    pub short : Short page

  leaves : {k : ℕ} {l : List ℕ} → Line z (table_of b) k l → T (held (table_of b k)) → low ≤ space_of z k → T (any (in_pool z) l) → Found l
  leaves {k} (ends e) h up r = go (or_cases (in_pool z k) false r)
    where
      go : T (in_pool z k) ⊎ T false → Found (k ∷ [])
      go (inl i) = let d : k < z.pages = ltb→lt k z.pages i in let n = not_pool k up in absurd (omega arith)
      go (inr i) = absurd i
  leaves {k} (climbs {q = q} {l = l} e more) h up r =
      up_or_out (parent_link z (table_of b) k q e) (λ u. leaves more (parent_held z b.live (table_of b) w.shape.live_long w.pages k q e) u higher)
    where
      higher : T (any (in_pool z) l)
      higher = go (or_cases (in_pool z k) (any (in_pool z) l) r)
        where
          go : T (in_pool z k) ⊎ T (any (in_pool z) l) → T (any (in_pool z) l)
          go (inl i) = let d : k < z.pages = ltb→lt k z.pages i in let n = not_pool k up in absurd (omega arith)
          go (inr i) = i

      up_or_out : (s : ℕ) × (p : ℕ) × ((table_of b k).link ≡ Page s p) × (key z s p ≡ q) → (low ≤ space_of z q → Found l) → Found (k ∷ l)
      up_or_out (s, p, d, i) next = go (dec_lt s low)
        where
          go : Dec (s < low) → Found (k ∷ l)
          go (yes m) = record { page = k; on = or_l (eqb k k) (member k l) (true_is _ (eq-eqb k k refl)); high = up; short = low_short k s p up (held_inside k h) d m }
          go (no m) =
              let g : Lent z b.live (table_of b) k s p = w.pages.lent k s p d in
              let j : space_of z q ≡ s = ap (space_of z) (sym i) ∙ space_of_key z s p g.page_in in
              let x = next (omega arith) in
              record { page = x.page; on = or_r (eqb k x.page) (member x.page l) x.on; high = x.high; short = x.short }

  -- a page of the last spaces: it is short, or a page on its line is
  found : (k : ℕ) → low ≤ space_of z k → k < slot_count z → Short k ⊎ ((l : List ℕ) × Line z (table_of b) k l × T (distinct (map (space_of z) l)) × Found l)
  found k up i = go (table_of b k).link refl
    where
      go : (l : Link) → (table_of b k).link ≡ l → Short k ⊎ ((l : List ℕ) × Line z (table_of b) k l × T (distinct (map (space_of z) l)) × Found l)
      go Nothing e = inl (empty_short k up i e)
      go (Frame j) e = absurd (w.pages.no_frame k j (not_pool k up) e)
      go (Page s p) e =
          let h : T (held (table_of b k)) = rw e tt in
          let r = w.pages.rooted k h in
          inr (r.pages, r.is_line, r.once, leaves r.is_line h up r.reaches)

  first : (x : ℕ) × (low ≤ space_of z x) × Short x
  first = go (found (key z low 0) up ((div-lt_iff_lt-mul small.some_page).0 (rw at_low low-in)))
    where
      at_low : space_of z (key z low 0) ≡ low
      at_low = space_of_key z low 0 (omega arith)

      up : low ≤ space_of z (key z low 0)
      up = omega (arith, at_low)

      go : Short (key z low 0) ⊎ ((l : List ℕ) × Line z (table_of b) (key z low 0) l × T (distinct (map (space_of z) l)) × Found l) → (x : ℕ) × (low ≤ space_of z x) × Short x
      go (inl s) = (key z low 0, up, s)
      go (inr (l, i, d, x)) = (x.page, x.high, x.short)

  second : (x : ℕ) → low ≤ space_of z x → Short x → (y : ℕ) × Short y × (y ≡ x → ⊥)
  second x up sx = go (found v (omega (arith, at_space)) v_in)
    where
      p : ℕ
      p = cond (eqb (page_in z x) 0) 1 0

      p_in : p < z.pages
      p_in = pick (eqb (page_in z x) 0)
        where
          pick : (t : Bool) → cond t 1 0 < z.pages
          pick true = omega arith
          pick false = omega arith

      v : ℕ
      v = key z (space_of z x) (cond (eqb (page_in z x) 0) 1 0)

      at_space : space_of z v ≡ space_of z x
      at_space = space_of_key z (space_of z x) p p_in

      v_in : v < slot_count z
      v_in = (div-lt_iff_lt-mul small.some_page).0 (rw at_space ((div-lt_iff_lt-mul small.some_page).1 sx.inside))

      other : v ≡ x → ⊥
      other e = pick (eqb (page_in z x) 0) refl
        where
          same : p ≡ page_in z x
          same = sym (page_of_key z (space_of z x) p p_in) ∙ ap (page_in z) e

          pick : (t : Bool) → eqb (page_in z x) 0 ≡ t → ⊥
          pick true q = let a : 1 ≡ page_in z x = rw q at same in let c = eqb-true (page_in z x) 0 q in omega arith
          pick false q = let a : 0 ≡ page_in z x = rw q at same in eqb-false (page_in z x) 0 q (sym a)

      go : Short v ⊎ ((l : List ℕ) × Line z (table_of b) v l × T (distinct (map (space_of z) l)) × Found l) → (y : ℕ) × Short y × (y ≡ x → ⊥)
      go (inl s) = (v, s, other)
      go (inr (l, i, d, y)) = (y.page, y.short, λ e. other (once_there i d y.page y.on (ap (space_of z) e ∙ sym at_space) ∙ e))

  -- ── the sum ──────────────────────────────────────────────────────────────
  one_fewer : (n k x : ℕ) → z.pages ≤ k → k ≤ x → x < k + n → Short x → suc (length (pages_from z (table_of b) k n)) ≤ longest_lines z k n
  unfolding pages_from longest_lines
  one_fewer zero k x h a c s = absurd (omega arith)
  one_fewer (suc n) k x h a c s = go (eqb x k) refl (λ u. one_fewer n (suc k) x (omega arith) u (omega arith) s)
    where
      go : (t : Bool) → eqb x k ≡ t → (suc k ≤ x → suc (length (pages_from z (table_of b) (suc k) n)) ≤ longest_lines z (suc k) n)
          → suc (length (pages_from z (table_of b) k (suc n))) ≤ longest_lines z k (suc n)
      go true q next =
          let e : x ≡ k = eqb-true x k q in
          let m : suc (length (slot_line (space_of z k) (page_in z k) (table_of b k))) ≤ longest_line z k = rw e at s.shorter in
          rw length-append (omega (arith, m, page_lines z small b w n (suc k) (omega arith)))
      go false q next =
          let d : x ≡ k → ⊥ = eqb-false x k q in
          rw length-append (omega (arith, page_line_law z small b w k h, next (omega arith)))

  two_fewer : (n k x y : ℕ) → z.pages ≤ k → k ≤ x → k ≤ y → x < k + n → y < k + n → (y ≡ x → ⊥) → Short x → Short y
      → suc (suc (length (pages_from z (table_of b) k n))) ≤ longest_lines z k n
  unfolding pages_from longest_lines
  two_fewer zero k x y h a a' c c' o s t = absurd (omega arith)
  two_fewer (suc n) k x y h a a' c c' o s t = go (eqb x k) refl (eqb y k) refl (λ u v. two_fewer n (suc k) x y (omega arith) u v (omega arith) (omega arith) o s t)
    where
      go : (p : Bool) → eqb x k ≡ p → (q : Bool) → eqb y k ≡ q
          → (suc k ≤ x → suc k ≤ y → suc (suc (length (pages_from z (table_of b) (suc k) n))) ≤ longest_lines z (suc k) n)
          → suc (suc (length (pages_from z (table_of b) k (suc n)))) ≤ longest_lines z k (suc n)
      go true i q j next =
          let e : x ≡ k = eqb-true x k i in
          let m : suc (length (slot_line (space_of z k) (page_in z k) (table_of b k))) ≤ longest_line z k = rw e at s.shorter in
          let d : y ≡ k → ⊥ = λ u. o (u ∙ sym e) in
          rw length-append (omega (arith, m, one_fewer n (suc k) y (omega arith) (omega arith) (omega arith) t))
      go false i true j next =
          let e : y ≡ k = eqb-true y k j in
          let m : suc (length (slot_line (space_of z k) (page_in z k) (table_of b k))) ≤ longest_line z k = rw e at t.shorter in
          let d : x ≡ k → ⊥ = eqb-false x k i in
          rw length-append (omega (arith, m, one_fewer n (suc k) x (omega arith) (omega arith) (omega arith) s))
      go false i false j next =
          let d : x ≡ k → ⊥ = eqb-false x k i in
          let d' : y ≡ k → ⊥ = eqb-false y k j in
          rw length-append (omega (arith, page_line_law z small b w k h, next (omega arith) (omega arith)))

  pub two_shorter : suc (suc (length (pages_from z (table_of b) z.pages (slot_count z - z.pages)))) ≤ longest_lines z z.pages (slot_count z - z.pages)
  two_shorter =
      let one = first in
      let two = second one.0 one.1 one.2 in
      let s = one.2 in
      let t = two.1 in
      two_fewer (slot_count z - z.pages) z.pages one.0 two.0 (omega arith) s.outside t.outside (omega (arith, s.inside, s.outside)) (omega (arith, t.inside, t.outside)) two.2 s t
