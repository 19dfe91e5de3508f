-- Where the bytes of an image stand: in each part of it, and that every byte is in one of the parts.
use Prim.Native.Nat.{ℕ, zero, suc, ◌+◌, ◌*◌, ◌/◌, ◌%◌, ◌-◌, ◌≤◌, ◌<◌}
use mathlib.Core.Path.{◌≡◌, refl, sym, ap, subst, ◌∙◌}
use mathlib.Core.Bool.{false}
use mathlib.Core.List.{List, [], ◌∷◌, ◌++◌, map}
use native.Mathlib.Nat.{not-suc-le-zero, le_of_suc-le-suc, mul-zero, mul-suc}
use native.Mathlib.Decide.{dec_lt}
use native.Mathlib.Omega.{arith}
use lib.ListN.{length, get_or, length-append, length-map, get_or-append, get_or-map}
use lib.Seq.{get_or-append-add}
use Rattle.lend.specs.Sizes.{Sizes, slot_count}
use Rattle.lend.specs.Slots.{empty_slot, slot_at}
use Rattle.lend.specs.Tables.{Tables, Shaped, alive}
use Rattle.lend.specs.Cache.{empty_place, place_at}
use Rattle.lend.specs.Summary.{no_count, count_at}
use Rattle.image.specs.Image.{slot_bytes, live_byte, place_bytes, count_bytes, joined, image_of, live_from, cache_from, next_from, summary_from, image_bytes}

-- ── elements of as many bytes each ───────────────────────────────────────
module _ {A : Type 0} (f : A → List ℕ) (w : ℕ) (wide : (x : A) → length (f x) ≡ w) where
  joined_long : (xs : List A) → length (joined f xs) ≡ w * length xs
  unfolding joined
  joined_long [] = sym (mul-zero w)
  joined_long (x ∷ xs) = length-append (f x) (joined f xs) ∙ omega (arith, wide x, joined_long xs, mul-suc w (length xs))

  pub joined_at : (d : A) (xs : List A) (k c : ℕ) → k < length xs → c < w → get_or (joined f xs) (w * k + c) 0 ≡ get_or (f (get_or xs k d)) c 0
  unfolding joined
  joined_at d [] k c h l = absurd (not-suc-le-zero h)
  joined_at d (x ∷ xs) zero c h l =
      let e : w * 0 + c ≡ c = omega (arith, mul-zero w) in
      ap (λ (i : ℕ). get_or (f x ++ joined f xs) i 0) e ∙ get_or-append (f x) (joined f xs) 0 c (omega (arith, wide x))
  joined_at d (x ∷ xs) (suc k) c h l =
      let e : w * suc k + c ≡ length (f x) + (w * k + c) = omega (arith, wide x, mul-suc w k) in
      ap (λ (i : ℕ). get_or (f x ++ joined f xs) i 0) e
      ∙ (get_or-append-add (f x) (joined f xs) (w * k + c) 0 ∙ joined_at d xs k c (le_of_suc-le-suc h) l)

-- what stands past the first n bytes
pub past : (xs ys : List ℕ) (n i j : ℕ) → length xs ≡ n → j ≡ n + i → get_or (xs ++ ys) j 0 ≡ get_or ys i 0
past xs ys n i j e q = ap (λ (m : ℕ). get_or (xs ++ ys) m 0) (q ∙ ap (λ (m : ℕ). m + i) (sym e)) ∙ get_or-append-add xs ys i 0

-- ── the parts of an image ────────────────────────────────────────────────
module _ (z : Sizes) (t : Tables) (s : Shaped z t) where
  pub slots_long : length (joined slot_bytes t.slots) ≡ live_from z
  slots_long = joined_long slot_bytes 4 (λ x. refl) t.slots ∙ ap (λ (n : ℕ). 4 * n) s.slots_long

  pub live_long : length (map live_byte t.live) ≡ z.spaces
  live_long = length-map t.live live_byte ∙ s.live_long

  pub places_long : length (joined place_bytes t.places) ≡ 4 * z.places
  places_long = joined_long place_bytes 4 (λ x. refl) t.places ∙ ap (λ (n : ℕ). 4 * n) s.places_long

  pub summary_long : length (joined count_bytes t.summary) ≡ 8 * z.pages
  summary_long = joined_long count_bytes 8 (λ x. refl) t.summary ∙ ap (λ (n : ℕ). 8 * n) s.summary_long

  -- the bytes from the next place on, from the cache on, from the live spaces on
  abbrev pub next_on : List ℕ
  next_on = t.next ∷ joined count_bytes t.summary

  abbrev pub places_on : List ℕ
  places_on = joined place_bytes t.places ++ next_on

  abbrev pub live_on : List ℕ
  live_on = map live_byte t.live ++ places_on

  pub image_long : length (image_of t) ≡ image_bytes z
  unfolding image_of
  image_long =
      length-append (joined slot_bytes t.slots) live_on
      ∙ omega (arith, slots_long, live_long, places_long, summary_long, length-append (map live_byte t.live) places_on, length-append (joined place_bytes t.places) next_on)

  pub image_slot : (k c j : ℕ) → k < slot_count z → c < 4 → j ≡ 4 * k + c → get_or (image_of t) j 0 ≡ get_or (slot_bytes (slot_at t.slots k)) c 0
  unfolding image_of
  image_slot k c j h l e =
      ap (λ (m : ℕ). get_or (image_of t) m 0) e
      ∙ (get_or-append (joined slot_bytes t.slots) live_on 0 (4 * k + c) (omega (arith, slots_long))
      ∙ joined_at slot_bytes 4 (λ x. refl) empty_slot t.slots k c (omega (arith, s.slots_long)) l)

  pub image_live : (i : ℕ) → i < z.spaces → get_or (image_of t) (live_from z + i) 0 ≡ live_byte (alive t.live i)
  unfolding image_of
  image_live i h =
      past (joined slot_bytes t.slots) live_on (live_from z) i (live_from z + i) slots_long refl
      ∙ (get_or-append (map live_byte t.live) places_on 0 i (omega (arith, live_long)) ∙ get_or-map live_byte t.live i false)

  pub image_place : (i c j : ℕ) → i < z.places → c < 4 → j ≡ cache_from z + 4 * i + c → get_or (image_of t) j 0 ≡ get_or (place_bytes (place_at t.places i)) c 0
  unfolding image_of
  image_place i c j h l e =
      past (joined slot_bytes t.slots) live_on (live_from z) (z.spaces + (4 * i + c)) j slots_long (omega arith)
      ∙ (past (map live_byte t.live) places_on z.spaces (4 * i + c) (z.spaces + (4 * i + c)) live_long refl
      ∙ (get_or-append (joined place_bytes t.places) next_on 0 (4 * i + c) (omega (arith, places_long))
      ∙ joined_at place_bytes 4 (λ x. refl) empty_place t.places i c (omega (arith, s.places_long)) l))

  -- the byte at i past the places
  on_next : (i j : ℕ) → j ≡ next_from z + i → get_or (image_of t) j 0 ≡ get_or next_on i 0
  unfolding image_of
  on_next i j e =
      past (joined slot_bytes t.slots) live_on (live_from z) (z.spaces + (4 * z.places + i)) j slots_long (omega arith)
      ∙ (past (map live_byte t.live) places_on z.spaces (4 * z.places + i) (z.spaces + (4 * z.places + i)) live_long refl
      ∙ past (joined place_bytes t.places) next_on (4 * z.places) i (4 * z.places + i) places_long refl)

  pub image_next : get_or (image_of t) (next_from z) 0 ≡ t.next
  image_next = on_next 0 (next_from z) (omega arith)

  pub image_count : (i c j : ℕ) → i < z.pages → c < 8 → j ≡ summary_from z + 8 * i + c → get_or (image_of t) j 0 ≡ get_or (count_bytes (count_at t.summary i)) c 0
  image_count i c j h l e =
      on_next (suc (8 * i + c)) j (omega arith)
      ∙ joined_at count_bytes 8 (λ x. refl) no_count t.summary i c (omega (arith, s.summary_long)) l

-- ── every byte is in one of the parts ────────────────────────────────────
pub record Parts (z : Sizes) (P : ℕ → Type 0) : Type 0 where
  pub slots : (k c : ℕ) → k < slot_count z → c < 4 → P (4 * k + c)
  pub live : (i : ℕ) → i < z.spaces → P (live_from z + i)
  pub places : (i c : ℕ) → i < z.places → c < 4 → P (cache_from z + 4 * i + c)
  pub next : P (next_from z)
  pub summary : (i c : ℕ) → i < z.pages → c < 8 → P (summary_from z + 8 * i + c)

pub each_byte : (z : Sizes) (P : ℕ → Type 0) → Parts z P → (j : ℕ) → j < image_bytes z → P j
each_byte z P p j h = first (dec_lt j (live_from z))
  where
    at : {i : ℕ} → i ≡ j → P i → P j
    at e x = subst P e x

    fourth : next_from z ≤ j → Dec (j < summary_from z) → P j
    fourth m (yes l) = at {i = next_from z} (omega arith) p.next
    fourth m (no l) =
        let d : ℕ = j - summary_from z in
        at {i = summary_from z + 8 * (d / 8) + d % 8} (omega arith) (p.summary (d / 8) (d % 8) (omega arith) (omega arith))

    third : cache_from z ≤ j → Dec (j < next_from z) → P j
    third m (yes l) =
        let d : ℕ = j - cache_from z in
        at {i = cache_from z + 4 * (d / 4) + d % 4} (omega arith) (p.places (d / 4) (d % 4) (omega arith) (omega arith))
    third m (no l) = fourth (omega arith) (dec_lt j (summary_from z))

    second : live_from z ≤ j → Dec (j < cache_from z) → P j
    second m (yes l) = at {i = live_from z + (j - live_from z)} (omega arith) (p.live (j - live_from z) (omega arith))
    second m (no l) = third (omega arith) (dec_lt j (next_from z))

    first : Dec (j < live_from z) → P j
    first (yes l) = at {i = 4 * (j / 4) + j % 4} (omega arith) (p.slots (j / 4) (j % 4) (omega arith) (omega arith))
    first (no l) = second (omega arith) (dec_lt j (cache_from z))
