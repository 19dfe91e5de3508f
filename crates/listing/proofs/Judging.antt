-- The last judgement of the reader, end by end.
use Prim.Native.Nat.{ℕ, ◌≤◌}
use mathlib.Core.Path.{◌≡◌, refl, sym, ap, ◌∙◌}
use mathlib.Core.Bool.{Bool, true, false}
use mathlib.Core.List.{List}
use native.Mathlib.Omega.{arith}
use lib.Dec.{T, eqb, ltb, lt→ltb}
use lib.ListN.{length, replicate, length-replicate}
use borrow.Author.Tests.{eq-eqb}
use Rattle.lend.specs.declared.Slot.{Slot}
use Rattle.lend.specs.declared.Place.{Place}
use Rattle.lend.specs.declared.refusal.Refusal.{Refusal}
use Rattle.lend.specs.Refusals.{number_of, refusal_not_done}
use Rattle.lend.specs.declared.Count.{Count}
use Rattle.lend.specs.Sizes.{Sizes, slot_count}
use Rattle.lend.specs.Lists.{every}
use Rattle.lend.specs.Slots.{Table, slot_at}
use Rattle.lend.specs.Tables.{Tables}
use Rattle.lend.specs.Summary.{summary_of}
use Rattle.lend.specs.Cache.{empty_place, place_at}
use Rattle.lend.specs.SoundTest.{pages_test, place_test, cache_test, sound_test}
use Rattle.lend.specs.Start.{start_board}
use Rattle.lend_basics.proofs.Bools.{and_l, and_r, and_i, same_test, true_is}
use Rattle.lend_basics.proofs.Lists.{every_of}
use Rattle.lend_sound.proofs.Start.{start_place}
use Rattle.lend_sound.proofs.Summary.{test_of_summary}
use Rattle.listing.specs.Live.{live_flags}
use Rattle.listing.specs.Content.{board_with}
use Rattle.listing.specs.Read.{refused, accepted, refusal, by_number, judged}
use Rattle.listing.proofs.Live.{flags_length}

-- every place of an empty cache is empty
pub empty_at : (z : Sizes) (i : ℕ) → place_at (replicate z.places empty_place) i ≡ empty_place
unfolding start_board
empty_at z i = start_place z i

-- an empty cache passes its test
empty_cache : (z : Sizes) (f : Table) → 1 ≤ z.places → T (cache_test z f (replicate z.places empty_place) 0)
unfolding cache_test
empty_cache z f one =
    let c : List Place = replicate z.places empty_place in
    and_i (every (length c) (λ i. place_test z f c i (place_at c i))) (ltb 0 z.places)
    (every_of (length c) (λ i. place_test z f c i (place_at c i)) (λ i l. rw (empty_at z i) tt))
    (lt→ltb 0 z.places one)

-- the board of a listing is sound where its pages are: its cache is empty, and its summary that of its pages
pub board_test : (z : Sizes) (slots : List Slot) (n : ℕ) → 1 ≤ z.places → length slots ≡ slot_count z
    → sound_test z (board_with z slots n) ≡ pages_test z (live_flags z.spaces n) (slot_at slots)
unfolding sound_test
board_test z slots n one long =
    same_test (sound_test z (board_with z slots n)) (pages_test z (live_flags z.spaces n) (slot_at slots)) (λ h. search (and_l, and_r) depth 12) back
  where
    back : T (pages_test z (live_flags z.spaces n) (slot_at slots)) → T (sound_test z (board_with z slots n))
    back h =
        let h0 : T (eqb (length slots) (slot_count z)) = true_is _ (eq-eqb (length slots) (slot_count z) long) in
        let h1 : T (eqb (length (live_flags z.spaces n)) z.spaces) = true_is _ (eq-eqb (length (live_flags z.spaces n)) z.spaces (flags_length z.spaces n)) in
        let h2 : T (eqb (length (replicate z.places empty_place)) z.places) = true_is _ (eq-eqb (length (replicate z.places empty_place)) z.places (length-replicate z.places empty_place)) in
        let h3 = empty_cache z (slot_at slots) one in
        let h4 = test_of_summary z (slot_at slots) (summary_of z (slot_at slots)) refl in
        search and_i depth 14

-- the start board with these slots, these live spaces and these counts is the board of a listing
board_made : (z : Sizes) (slots : List Slot) (n : ℕ) (b : Tables) (live : List Bool) (counts : List Count) → b ≡ start_board z → live ≡ live_flags z.spaces n
    → counts ≡ summary_of z (slot_at slots)
    → ◌≡◌ {A = Tables} (record { slots = slots; live = live; places = b.places; next = b.next; summary = counts }) (board_with z slots n)
unfolding start_board
board_made z slots n b live counts hb hl hc = rw (hb, hl, hc) refl

-- where nothing refuses it, its pages fit
pub none_against : (formed ordered fit : Bool) → 0 ≡ refusal formed ordered fit → T fit
unfolding refusal
none_against formed ordered true e = tt
none_against true true false e = absurd (omega arith)
none_against true false false e = absurd (omega arith)
none_against false ordered false e = absurd (omega arith)

-- what refuses it by the tests, and the answer by that: pages that fit are told as such, with their counts
module _ (z : Sizes) (one : 1 ≤ z.places) (slots : List Slot) (long : length slots ≡ slot_count z) (formed ordered : Bool) (n : ℕ) {live : List Bool}
    (l : live ≡ live_flags z.spaces n) {fit : Bool} (t : fit ≡ pages_test z live (slot_at slots)) where
  fit_tells : fit ≡ sound_test z (board_with z slots n)
  fit_tells = t ∙ (ap (λ (x : List Bool). pages_test z x (slot_at slots)) l ∙ sym (board_test z slots n one long))

  judged_is : {number : ℕ} → number ≡ refusal formed ordered fit → by_number z (board_with z slots n) number ≡ judged z formed ordered (board_with z slots n)
  unfolding judged
  judged_is q = ap (by_number z (board_with z slots n)) (q ∙ ap (refusal formed ordered) fit_tells)

  pub judged_refused : (r : Refusal) → number_of r ≡ refusal formed ordered fit → refused z (number_of r) ≡ judged z formed ordered (board_with z slots n)
  judged_refused r q = rw (refusal_not_done r) at (judged_is q)

  pub judged_accepted : 0 ≡ refusal formed ordered fit → (b : Tables) → b ≡ start_board z → (counts : List Count) → (T fit → counts ≡ summary_of z (slot_at slots))
      → accepted (record { slots = slots; live = live; places = b.places; next = b.next; summary = counts }) ≡ judged z formed ordered (board_with z slots n)
  judged_accepted q b hb counts hc =
      ap accepted (board_made z slots n b live counts hb l (hc (none_against formed ordered fit q))) ∙ judged_is q
