-- What the calls show, from what the functions on a board answered.
use Prim.Native.Nat.{ℕ, ◌+◌, ◌*◌, ◌-◌, ◌≤◌}
use mathlib.Core.Path.{◌≡◌, ap, ◌∙◌}
use mathlib.Core.Bool.{Bool, true, false, cond}
use mathlib.Core.List.{List, [], ◌++◌}
use native.Mathlib.Omega.{arith}
use lib.ListN.{length, drop}
use lib.Dec.{ltb}
use borrow.Author.Tests.{eq-eqb, ne_eqb}
use Rattle.lend.specs.Sizes.{Sizes, slot_count}
use Rattle.lend.specs.Tables.{Tables}
use Rattle.lend.specs.SoundTest.{sound_test}
use Rattle.image.specs.Image.{image_bytes, board_from, written}
use Rattle.image.specs.Answered.{left, three_of}
use Rattle.listing.specs.Read.{Answer, reading}
use Rattle.listing.specs.Listing.{listing_of}
use Rattle.listing.specs.Write.{Written, writing}
use Rattle.listing.specs.Write as write
use Rattle.listing.proofs.Length.{listing_length}
use Rattle.listing_image.specs.Listed.{Listed, listed, listed_by, write_answer, read_left, read_answer}

pub listed_image : (z : Sizes) {b : Tables} (image text : List ℕ) {text' : List ℕ} {n r : ℕ} → b ≡ board_from z image → write.written n r text' ≡ writing z b text
    → listed n text' (three_of r 0 0) ≡ write_answer z image text
unfolding write_answer
listed_image z image text e w = ap listed_by (w ∙ ap (λ (t : Tables). writing z t text) e)

-- the length written is no longer than a listing can be
pub written_short : (z : Sizes) (b : Tables) (text : List ℕ) {text' : List ℕ} {n r : ℕ} → write.written n r text' ≡ writing z b text → r ≤ 83 * (slot_count z - z.pages) + 32
unfolding writing
written_short z b text {r = r} w = go (sound_test z b) (ltb (length text) (length (listing_of z b))) (ap (λ (x : Written). x.count) w)
  where
    go : (t u : Bool) → r ≡ (cond t (cond u (write.written 20 0 text) (write.written 0 (length (listing_of z b)) (listing_of z b ++ drop (length (listing_of z b)) text))) (write.written 1 0 text)).count
        → r ≤ 83 * (slot_count z - z.pages) + 32
    go false u e = omega (arith, e)
    go true true e = omega (arith, e)
    go true false e = omega (arith, e, listing_length z b)

module _ (z : Sizes) (text image : List ℕ) where
  pub other_length : (length image ≡ image_bytes z → ⊥) → left 1 image [] (three_of 0 0 0) ≡ read_answer z text image
  unfolding read_answer
  other_length h = rw (ne_eqb _ _ h)

  pub read_over : {n : ℕ} {b : Tables} {image' : List ℕ} → length image ≡ image_bytes z → ◌≡◌ {A = Answer} (record { number = n; board = b }) (reading z text) → image' ≡ written z image b
      → left n image' [] (three_of 0 0 0) ≡ read_answer z text image
  unfolding read_answer written
  read_over {n} h e w = rw (eq-eqb _ _ h) (ap (λ (l : List ℕ). left n l [] (three_of 0 0 0)) (rw (eq-eqb _ _ h) at w) ∙ ap read_left e)

-- the number, the text and the out fields are in what is told
pub one_listed : {n m : ℕ} {text text' out out' : List ℕ} → listed n text out ≡ listed m text' out' → (n ≡ m) × (text ≡ text') × (out ≡ out')
one_listed e = (ap (λ (l : Listed). l.number) e, ap (λ (l : Listed). l.text) e, ap (λ (l : Listed). l.out) e)
