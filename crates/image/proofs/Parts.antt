-- The parts of an image as lists of their own, cut into elements of some bytes each: what is read of them is what stands in the image.
use Prim.Native.Nat.{ℕ, zero, suc, ◌+◌, ◌*◌, ◌<◌}
use mathlib.Core.Path.{◌≡◌, refl, sym, ap, ◌∙◌}
use mathlib.Core.Bool.{Bool, true, false, ◌&&◌, cond}
use mathlib.Core.List.{List, [], ◌∷◌, ◌++◌}
use native.Mathlib.Nat.{not-suc-le-zero, le_of_suc-le-suc, mul-zero, mul-suc}
use native.Mathlib.Omega.{arith}
use lib.Dec.{eqb, leb}
use lib.ListN.{length, get_or, drop, get_or-append}
use lib.Seq.{ext_get_or}
use Rattle.std.specs.declared.option.Option.TheVariants.{Some, None}
use Rattle.std.specs.Simd.{first_chunks}
use Rattle.std.proofs.lemmas.List.{get_or-take, get_or-drop}
use Rattle.lend.specs.declared.Slot.{Slot}
use Rattle.lend.specs.declared.Place.{Place}
use Rattle.lend.specs.declared.Count.{Count}
use Rattle.lend.specs.Sizes.{Sizes, slot_count}
use Rattle.lend.specs.Slots.{empty_slot}
use Rattle.lend.specs.Cache.{empty_place}
use Rattle.lend.specs.Summary.{no_count}
use Rattle.lend.specs.Lists.{every, tabulate}
use Rattle.lend_basics.proofs.Lists.{length_tabulate, tabulate_at}
use Rattle.image.specs.Image.{live_from, cache_from, next_from, summary_from, byte_at, link_reads, slot_from, place_from, number_from, slot_reads, slot_in, place_in, count_in, slots_read, live_reads, slots_in, live_in, places_in, summary_in, image_bytes, no_board, board_from}
use Rattle.image.proofs.Bytes.{past}
use Rattle.image.proofs.Image.{board_bad, board_good}
use Rattle.image.proofs.Taken.{read_as, not_read}

-- ── elements ─────────────────────────────────────────────────────────────
tabulate_same : {A : Type 0} (d : A) (n : ℕ) (f g : ℕ → A) → ((k : ℕ) → k < n → f k ≡ g k) → tabulate n f ≡ tabulate n g
tabulate_same d n f g h =
    ext_get_or d (tabulate n f) (tabulate n g) (length_tabulate f n ∙ sym (length_tabulate g n))
    (λ k l. tabulate_at f n k d (omega (arith, length_tabulate f n)) ∙ (h k (omega (arith, length_tabulate f n)) ∙ sym (tabulate_at g n k d (omega (arith, length_tabulate f n)))))

every_same : (n : ℕ) (f g : ℕ → Bool) → ((k : ℕ) → k < n → f k ≡ g k) → every n f ≡ every n g
unfolding every
every_same zero f g h = refl
every_same (suc n) f g h = λ i. h n (omega arith) i && every_same n f g (λ k l. h k (omega arith)) i

-- a byte of an element is one of the part's
byte_in : (w n k c : ℕ) (part : List ℕ) → k < n → c < w → byte_at (get_or (first_chunks w n part) k []) c ≡ byte_at part (w * k + c)
byte_in w zero k c part h l = absurd (not-suc-le-zero h)
byte_in w (suc n) zero c part h l = get_or-take w part c 0 l ∙ ap (byte_at part) {x = c} {y = w * 0 + c} (omega (arith, mul-zero w))
byte_in w (suc n) (suc k) c part h l =
    byte_in w n k c (drop w part) (le_of_suc-le-suc h) l
    ∙ (get_or-drop w part (w * k + c) 0 ∙ ap (byte_at part) {x = w + (w * k + c)} {y = w * suc k + c} (omega (arith, mul-suc w k)))

-- the elements of a part that stands in the bytes from a place on, w bytes each
module _ (bytes part : List ℕ) (w n from : ℕ) (stands : (j : ℕ) → j < w * n → byte_at part j ≡ byte_at bytes (from + j)) (k : ℕ) (h : k < n) where
  byte_of : (c j : ℕ) → c < w → w * k + c < w * n → j ≡ from + w * k + c → byte_at (get_or (first_chunks w n part) k []) c ≡ byte_at bytes j
  byte_of c j l m e = byte_in w n k c part h l ∙ (stands (w * k + c) m ∙ ap (byte_at bytes) {x = from + (w * k + c)} {y = j} (omega (arith, e)))

module _ (bytes part : List ℕ) (n from : ℕ) (stands : (j : ℕ) → j < 4 * n → byte_at part j ≡ byte_at bytes (from + j)) (k : ℕ) (h : k < n) where
  of_four : (c j : ℕ) → c < 4 → j ≡ from + 4 * k + c → byte_at (get_or (first_chunks 4 n part) k []) c ≡ byte_at bytes j
  of_four c j l e = byte_of bytes part 4 n from stands k h c j l (omega (arith, h, l)) e

  slot_same : slot_in (get_or (first_chunks 4 n part) k []) 0 ≡ slot_in bytes (from + 4 * k)
  slot_same = λ i. slot_from (of_four 0 (from + 4 * k) (omega arith) (omega arith) i) (of_four 1 (from + 4 * k + 1) (omega arith) refl i)
      (of_four 2 (from + 4 * k + 2) (omega arith) refl i) (of_four 3 (from + 4 * k + 3) (omega arith) refl i)

  reads_same : slot_reads (get_or (first_chunks 4 n part) k []) 0 ≡ slot_reads bytes (from + 4 * k)
  reads_same = λ i. link_reads (of_four 0 (from + 4 * k) (omega arith) (omega arith) i) (of_four 1 (from + 4 * k + 1) (omega arith) refl i)
      (of_four 2 (from + 4 * k + 2) (omega arith) refl i)

  place_same : place_in (get_or (first_chunks 4 n part) k []) 0 ≡ place_in bytes (from + 4 * k)
  place_same = λ i. place_from (of_four 0 (from + 4 * k) (omega arith) (omega arith) i) (of_four 1 (from + 4 * k + 1) (omega arith) refl i)
      (of_four 2 (from + 4 * k + 2) (omega arith) refl i) (of_four 3 (from + 4 * k + 3) (omega arith) refl i)

module _ (bytes part : List ℕ) (n from : ℕ) (stands : (j : ℕ) → j < 8 * n → byte_at part j ≡ byte_at bytes (from + j)) (k : ℕ) (h : k < n) where
  of_eight : (c j : ℕ) → c < 8 → j ≡ from + 8 * k + c → byte_at (get_or (first_chunks 8 n part) k []) c ≡ byte_at bytes j
  of_eight c j l e = byte_of bytes part 8 n from stands k h c j l (omega (arith, h, l)) e

  count_same : count_in (get_or (first_chunks 8 n part) k []) 0 ≡ count_in bytes (from + 8 * k)
  count_same = λ i. record {
    held = number_from (of_eight 0 (from + 8 * k) (omega arith) (omega arith) i) (of_eight 1 (from + 8 * k + 1) (omega arith) refl i);
    read = number_from (of_eight 2 (from + 8 * k + 2) (omega arith) refl i) (of_eight 3 (from + 8 * k + 3) (omega arith) refl i);
    write = number_from (of_eight 4 (from + 8 * k + 4) (omega arith) refl i) (of_eight 5 (from + 8 * k + 5) (omega arith) refl i);
    execute = number_from (of_eight 6 (from + 8 * k + 6) (omega arith) refl i) (of_eight 7 (from + 8 * k + 7) (omega arith) refl i);
  }

-- ── the parts of an image ────────────────────────────────────────────────
-- slots, live spaces, places, the next place and the summary, one after the other
pub record PartsOf (z : Sizes) (bytes slots live places : List ℕ) (next : ℕ) (summary : List ℕ) : Type 0 where
  pub whole : bytes ≡ slots ++ (live ++ (places ++ (next ∷ summary)))
  pub slots_long : length slots ≡ live_from z
  pub live_long : length live ≡ z.spaces
  pub places_long : length places ≡ 4 * z.places

module _ (z : Sizes) (bytes slots live places : List ℕ) (next : ℕ) (summary : List ℕ) (p : PartsOf z bytes slots live places next summary) where
  at_slots : (j : ℕ) → j < live_from z → byte_at slots j ≡ byte_at bytes (0 + j)
  at_slots j h =
      sym (ap (λ (b : List ℕ). byte_at b j) p.whole ∙ get_or-append slots (live ++ (places ++ (next ∷ summary))) 0 j (omega (arith, p.slots_long)))
      ∙ ap (byte_at bytes) {x = j} {y = 0 + j} (omega arith)

  on_live : (i j : ℕ) → j ≡ live_from z + i → byte_at bytes j ≡ byte_at (live ++ (places ++ (next ∷ summary))) i
  on_live i j e = ap (λ (b : List ℕ). byte_at b j) p.whole ∙ past slots (live ++ (places ++ (next ∷ summary))) (live_from z) i j p.slots_long e

  at_live : (j : ℕ) → j < z.spaces → byte_at live j ≡ byte_at bytes (live_from z + j)
  at_live j h = sym (on_live j (live_from z + j) refl ∙ get_or-append live (places ++ (next ∷ summary)) 0 j (omega (arith, p.live_long)))

  on_places : (i j : ℕ) → j ≡ cache_from z + i → byte_at bytes j ≡ byte_at (places ++ (next ∷ summary)) i
  on_places i j e = on_live (z.spaces + i) j (omega (arith, e)) ∙ past live (places ++ (next ∷ summary)) z.spaces i (z.spaces + i) p.live_long refl

  at_places : (j : ℕ) → j < 4 * z.places → byte_at places j ≡ byte_at bytes (cache_from z + j)
  at_places j h = sym (on_places j (cache_from z + j) refl ∙ get_or-append places (next ∷ summary) 0 j (omega (arith, p.places_long)))

  on_next : (i j : ℕ) → j ≡ next_from z + i → byte_at bytes j ≡ byte_at (next ∷ summary) i
  on_next i j e = on_places (4 * z.places + i) j (omega (arith, e)) ∙ past places (next ∷ summary) (4 * z.places) i (4 * z.places + i) p.places_long refl

  pub next_here : next ≡ byte_at bytes (next_from z)
  next_here = sym (on_next 0 (next_from z) (omega arith))

  at_summary : (j : ℕ) → j < 8 * z.pages → byte_at summary j ≡ byte_at bytes (summary_from z + j)
  at_summary j h = sym (on_next (suc j) (summary_from z + j) (omega arith))

  pub slots_here : tabulate (slot_count z) (λ k. slot_in (get_or (first_chunks 4 (slot_count z) slots) k []) 0) ≡ slots_in z bytes
  unfolding slots_in
  slots_here = tabulate_same empty_slot (slot_count z) (λ k. slot_in (get_or (first_chunks 4 (slot_count z) slots) k []) 0) (λ k. slot_in bytes (4 * k))
      (λ k h. slot_same bytes slots (slot_count z) 0 at_slots k h ∙ ap (slot_in bytes) {x = 0 + 4 * k} {y = 4 * k} (omega arith))

  pub slots_read_here : every (slot_count z) (λ k. slot_reads (get_or (first_chunks 4 (slot_count z) slots) k []) 0) ≡ slots_read z bytes
  unfolding slots_read
  slots_read_here = every_same (slot_count z) (λ k. slot_reads (get_or (first_chunks 4 (slot_count z) slots) k []) 0) (λ k. slot_reads bytes (4 * k))
      (λ k h. reads_same bytes slots (slot_count z) 0 at_slots k h ∙ ap (slot_reads bytes) {x = 0 + 4 * k} {y = 4 * k} (omega arith))

  pub live_here : tabulate z.spaces (λ s. eqb (byte_at live s) 1) ≡ live_in z bytes
  unfolding live_in
  live_here = tabulate_same false z.spaces (λ s. eqb (byte_at live s) 1) (λ s. eqb (byte_at bytes (live_from z + s)) 1) (λ s h. ap (λ (b : ℕ). eqb b 1) (at_live s h))

  pub live_reads_here : every z.spaces (λ s. leb (byte_at live s) 1) ≡ live_reads z bytes
  unfolding live_reads
  live_reads_here = every_same z.spaces (λ s. leb (byte_at live s) 1) (λ s. leb (byte_at bytes (live_from z + s)) 1) (λ s h. ap (λ (b : ℕ). leb b 1) (at_live s h))

  pub places_here : tabulate z.places (λ i. place_in (get_or (first_chunks 4 z.places places) i []) 0) ≡ places_in z bytes
  unfolding places_in
  places_here = tabulate_same empty_place z.places (λ i. place_in (get_or (first_chunks 4 z.places places) i []) 0) (λ i. place_in bytes (cache_from z + 4 * i))
      (λ i h. place_same bytes places z.places (cache_from z) at_places i h)

  pub summary_here : tabulate z.pages (λ i. count_in (get_or (first_chunks 8 z.pages summary) i []) 0) ≡ summary_in z bytes
  unfolding summary_in
  summary_here = tabulate_same no_count z.pages (λ i. count_in (get_or (first_chunks 8 z.pages summary) i []) 0) (λ i. count_in bytes (summary_from z + 8 * i))
      (λ i h. count_same bytes summary z.pages (summary_from z) at_summary i h)

and_false : (b : Bool) → (b && false) ≡ false
and_false true = refl
and_false false = refl

-- ── the board of the parts, as the code finds it ─────────────────────────
-- the elements that a part is cut into
pub cut_as : (w n m : ℕ) (part : List ℕ) (front elements : List (List ℕ)) → elements ≡ front → front ≡ first_chunks w m part → m ≡ n → elements ≡ first_chunks w n part
cut_as w n m part front elements e f h = e ∙ (f ∙ ap (λ (i : ℕ). first_chunks w i part) h)

-- the parts that are cut off one after the other
pub parts_cut : (z : Sizes) {bytes slots live places after_slots after_live after_places summary : List ℕ} {next n : ℕ} → n ≡ slot_count z → bytes ≡ slots ++ after_slots → after_slots ≡ live ++ after_live
    → after_live ≡ places ++ after_places
    → after_places ≡ next ∷ summary
    → length slots ≡ 4 * n
    → length live ≡ z.spaces
    → length places ≡ 4 * z.places
    → PartsOf z bytes slots live places next summary
parts_cut z {slots} {live} {places} are e f g h s l p = record {
  whole = e ∙ ap (λ (b : List ℕ). slots ++ b) (f ∙ ap (λ (b : List ℕ). live ++ b) (g ∙ ap (λ (b : List ℕ). places ++ b) h));
  slots_long = s ∙ ap (λ (m : ℕ). 4 * m) are;
  live_long = l;
  places_long = p;
}

module _ (z : Sizes) {bytes slots live places summary : List ℕ} {next : ℕ} (p : PartsOf z bytes slots live places next summary) where
  module _ {live_part : List ℕ} (l : live_part ≡ live) where
    live_in_part : tabulate z.spaces (λ s. eqb (byte_at live_part s) 1) ≡ live_in z bytes
    live_in_part = ap (λ (b : List ℕ). tabulate z.spaces (λ s. eqb (byte_at b s) 1)) l ∙ live_here z bytes slots live places next summary p

    live_reads_in_part : every z.spaces (λ s. leb (byte_at live_part s) 1) ≡ live_reads z bytes
    live_reads_in_part = ap (λ (b : List ℕ). every z.spaces (λ s. leb (byte_at b s) 1)) l ∙ live_reads_here z bytes slots live places next summary p

    -- a live byte that is none
    pub board_no_live : (v : List Bool) → None ≡ cond (every z.spaces (λ s. leb (byte_at live_part s) 1)) (Some v) None → no_board z ≡ board_from z bytes
    board_no_live v e =
        board_bad z bytes (slots_read z bytes) (live_reads z bytes) refl refl (no_board z)
        (ap (λ (b : Bool). slots_read z bytes && b) (sym live_reads_in_part ∙ not_read (every z.spaces (λ s. leb (byte_at live_part s) 1)) v e) ∙ and_false (slots_read z bytes)) refl

  module _ {n : ℕ} (are : n ≡ slot_count z) {slot_parts : List (List ℕ)} (s : slot_parts ≡ first_chunks 4 n slots) where
    cut_slots : slot_parts ≡ first_chunks 4 (slot_count z) slots
    cut_slots = s ∙ ap (λ (m : ℕ). first_chunks 4 m slots) are

    slots_in_parts : tabulate n (λ k. slot_in (get_or slot_parts k []) 0) ≡ slots_in z bytes
    slots_in_parts = (λ i. tabulate (are i) (λ k. slot_in (get_or (cut_slots i) k []) 0)) ∙ slots_here z bytes slots live places next summary p

    slots_read_in_parts : every n (λ k. slot_reads (get_or slot_parts k []) 0) ≡ slots_read z bytes
    slots_read_in_parts = (λ i. every (are i) (λ k. slot_reads (get_or (cut_slots i) k []) 0)) ∙ slots_read_here z bytes slots live places next summary p

    -- bytes of a slot that is none
    pub board_no_slots : (v : List Slot) → None ≡ cond (every n (λ k. slot_reads (get_or slot_parts k []) 0)) (Some v) None → no_board z ≡ board_from z bytes
    board_no_slots v e =
        board_bad z bytes (slots_read z bytes) (live_reads z bytes) refl refl (no_board z)
        (ap (λ (b : Bool). b && live_reads z bytes) (sym slots_read_in_parts ∙ not_read (every n (λ k. slot_reads (get_or slot_parts k []) 0)) v e)) refl

    -- an image
    pub board_of_parts : {live_part : List ℕ} {place_parts count_parts : List (List ℕ)} {ss : List Slot} {ls : List Bool} {ps : List Place} {us : List Count} → length bytes ≡ image_bytes z
        → live_part ≡ live
        → place_parts ≡ first_chunks 4 z.places places
        → count_parts ≡ first_chunks 8 z.pages summary
        → Some ss ≡ cond (every n (λ k. slot_reads (get_or slot_parts k []) 0)) (Some (tabulate n (λ k. slot_in (get_or slot_parts k []) 0))) None
        → Some ls ≡ cond (every z.spaces (λ s. leb (byte_at live_part s) 1)) (Some (tabulate z.spaces (λ s. eqb (byte_at live_part s) 1))) None
        → ps ≡ tabulate z.places (λ i. place_in (get_or place_parts i []) 0)
        → us ≡ tabulate z.pages (λ i. count_in (get_or count_parts i []) 0)
        → (record { slots = ss; live = ls; places = ps; next = next; summary = us }) ≡ board_from z bytes
    board_of_parts {live_part} {place_parts} {count_parts} {ss} {ls} {ps} {us} long l q c e f g h =
        let a = read_as (every n (λ k. slot_reads (get_or slot_parts k []) 0)) ss (tabulate n (λ k. slot_in (get_or slot_parts k []) 0)) e in
        let b = read_as (every z.spaces (λ s. leb (byte_at live_part s) 1)) ls (tabulate z.spaces (λ s. eqb (byte_at live_part s) 1)) f in
        let both : (slots_read z bytes && live_reads z bytes) ≡ true =
        λ i. (sym slots_read_in_parts ∙ a.0) i && (sym (live_reads_in_part l) ∙ b.0) i in
        (λ i. record { slots = ss; live = ls; places = ps; next = next_here z bytes slots live places next summary p i; summary = us })
        ∙ board_good z bytes (slots_read z bytes) (live_reads z bytes) refl refl ss ls ps us long both (a.1 ∙ slots_in_parts)
        (b.1 ∙ live_in_part l)
        (g ∙ (ap (λ (b : List (List ℕ)). tabulate z.places (λ i. place_in (get_or b i []) 0)) q ∙ places_here z bytes slots live places next summary p))
        (h ∙ (ap (λ (b : List (List ℕ)). tabulate z.pages (λ i. count_in (get_or b i []) 0)) c ∙ summary_here z bytes slots live places next summary p))
