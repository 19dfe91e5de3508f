-- Elements that are written one after the other over bytes, as many bytes each: what a loop of writes has done, and the bytes at its end.
use Prim.Native.Nat.{ℕ, ◌+◌, ◌*◌, ◌≤◌, ◌<◌}
use mathlib.Core.Path.{◌≡◌, refl, sym, ap, ◌∙◌}
use mathlib.Core.Bool.{Bool, true, false}
use mathlib.Core.List.{List, [], ◌∷◌, ◌++◌, map}
use native.Mathlib.Nat.{mul-zero}
use native.Mathlib.Omega.{arith}
use lib.ListN.{length, get_or, set, take}
use mir.Val.{bool_byte}
use borrow.Rule.Slice.PartMut.{put_mid}
use Rattle.std.proofs.lemmas.List.{append_assoc, append-nil, take_all, take_more, take_more_set, map_more}
use Rattle.std.proofs.lemmas.Slice.{take-put_mid}
use borrow.Author.Tests.{eq-eqb, ne_eqb}
use Rattle.lend.specs.Sizes.{Sizes}
use Rattle.lend.specs.Tables.{Tables, alive}
use Rattle.image.specs.Image.{slot_bytes, live_byte, place_bytes, count_bytes, joined, image_of, image_bytes, written}

-- ── elements of w bytes each ─────────────────────────────────────────────
module _ {A : Type 0} (f : A → List ℕ) where
  joined_end : (xs : List A) (x : A) → joined f (xs ++ (x ∷ [])) ≡ joined f xs ++ f x
  unfolding joined
  joined_end [] x = append-nil (f x)
  joined_end (y ∷ xs) x = ap (λ (l : List ℕ). f y ++ l) (joined_end xs x) ∙ sym (append_assoc (f y) (joined f xs) (f x))

  -- the first k elements stand in the bytes
  pub record Run (w : ℕ) (xs : List A) (bytes : List ℕ) (k : ℕ) : Type 0 where
    pub done : take (w * k) bytes ≡ joined f (take k xs)

  module _ (w : ℕ) (xs : List A) where
    pub run_none : (bytes : List ℕ) → Run w xs bytes 0
    unfolding joined
    run_none bytes = record { done = ap (λ (n : ℕ). take n bytes) (mul-zero w) }

    -- the next one
    pub run_more : (bytes : List ℕ) (k at n : ℕ) (d : A) (b : List ℕ) → Run w xs bytes k → k < length xs → at ≡ w * k → at ≤ length bytes → length b ≡ w
        → b ≡ f (get_or xs k d)
        → Run w xs (put_mid at n bytes b) (k + 1)
    run_more bytes k at n d b r l q in-bytes long h = record {
      done = take-put_mid at n bytes b (w * (k + 1)) (omega (arith, long, q)) in-bytes
          ∙ (ap (λ (m : ℕ). take m bytes ++ b) q
          ∙ (ap (λ (a : List ℕ). a ++ b) r.done
          ∙ (ap (λ (c : List ℕ). joined f (take k xs) ++ c) h
          ∙ (sym (joined_end (take k xs) (get_or xs k d)) ∙ ap (joined f) (sym (take_more xs k d l))))));
    }

    pub run_all : (bytes : List ℕ) (k : ℕ) → Run w xs bytes k → length xs ≤ k → length bytes ≤ w * k → bytes ≡ joined f xs
    run_all bytes k r l e = sym (take_all (w * k) bytes e) ∙ (r.done ∙ ap (joined f) (take_all k xs l))

-- ── live bytes ───────────────────────────────────────────────────────────
-- as the code makes one
pub live_cast : (b : Bool) → bool_byte b ≡ live_byte b
live_cast true = refl
live_cast false = refl

-- the first k live bytes stand in the bytes
pub record LiveRun (live : List Bool) (bytes : List ℕ) (k : ℕ) : Type 0 where
  pub done : take k bytes ≡ map live_byte (take k live)

module _ (live : List Bool) where
  pub live_none : (bytes : List ℕ) → LiveRun live bytes 0
  live_none bytes = record { done = refl }

  pub live_more : (bytes : List ℕ) (k v : ℕ) → LiveRun live bytes k → k < length live → k < length bytes → v ≡ live_byte (alive live k) → LiveRun live (set bytes k v) (k + 1)
  live_more bytes k v r l m h = record {
    done = take_more_set bytes k v m
        ∙ (ap (λ (a : List ℕ). a ++ (v ∷ [])) r.done
        ∙ (ap (λ (b : ℕ). map live_byte (take k live) ++ (b ∷ [])) h ∙ sym (map_more live_byte live k false l)));
  }

  pub live_all : (bytes : List ℕ) (k : ℕ) → LiveRun live bytes k → length live ≤ k → length bytes ≤ k → bytes ≡ map live_byte live
  live_all bytes k r l m = sym (take_all k bytes m) ∙ (r.done ∙ ap (map live_byte) (take_all k live l))

-- ── the whole image ──────────────────────────────────────────────────────
set_only : (l : List ℕ) (v : ℕ) → length l ≡ 1 → set l 0 v ≡ v ∷ []
set_only [] v e = absurd (omega (arith, e))
set_only (x ∷ []) v e = refl
set_only (x ∷ y ∷ l) v e = absurd (omega (arith, e))

module _ (z : Sizes) (t : Tables) (old : List ℕ) where
  -- slots, live spaces, places, the next place and the summary, one after the other, are the image
  pub written_parts : (slots live places next summary : List ℕ) → length old ≡ image_bytes z → slots ≡ joined slot_bytes t.slots → live ≡ map live_byte t.live
      → places ≡ joined place_bytes t.places
      → length next ≡ 1
      → summary ≡ joined count_bytes t.summary
      → slots ++ (live ++ (places ++ (set next 0 t.next ++ summary))) ≡ written z old t
  unfolding written image_of
  written_parts slots live places next summary e p q r n u =
      rw (eq-eqb (length old) (image_bytes z) e) (λ i. p i ++ (q i ++ (r i ++ (set_only next t.next n i ++ u i))))

  -- bytes of another length stay
  pub written_not : (length old ≡ image_bytes z → ⊥) → old ≡ written z old t
  unfolding written
  written_not h = rw (ne_eqb (length old) (image_bytes z) h)
