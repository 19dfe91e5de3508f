-- A writer that asks for soundness, then measures, then writes: each of its three ends.
use Prim.Native.Nat.{ℕ, ◌<◌, ◌≤◌}
use mathlib.Core.Path.{◌≡◌, sym, ◌∙◌}
use mathlib.Core.Bool.{Bool, true, false}
use mathlib.Core.List.{List, []}
use lib.ListN.{length}
use borrow.Author.Tests.{lt-ltb, le-ltb}
use Rattle.lend.specs.Sizes.{Sizes}
use Rattle.lend.specs.Tables.{Tables}
use Rattle.lend.specs.SoundTest.{sound_test, Tells}
use Rattle.text.specs.Write.{last_position, Wrote}
use Rattle.text.proofs.Writing.{Exactly, wrote_exactly}
use Rattle.text_laws.proofs.Whole.{measured_length}
use Rattle.listing.specs.Listing.{listing_of}
use Rattle.listing.specs.Write.{written, writing}

module _ (z : Sizes) (b : Tables) where
  pub unsound_written : {out : List ℕ} {is : Bool} → Tells z b is → is ≡ false → written 1 0 out ≡ writing z b out
  unfolding writing
  unsound_written t e = rw (sym t.as_test ∙ e)

  module _ {is : Bool} (t : Tells z b is) (e : is ≡ true) {m : List ℕ} {k : ℕ} (measured : Wrote [] 0 (listing_of z b) m k) (far : length (listing_of z b) ≤ last_position) (out : List ℕ) where
    sound_is : sound_test z b ≡ true
    sound_is = sym t.as_test ∙ e

    pub short_written : length out < k → written 20 0 out ≡ writing z b out
    unfolding writing
    short_written h = rw (sound_is, lt-ltb _ _ (rw (measured_length measured far) at h))

    pub whole_written : {out' : List ℕ} {r : ℕ} → k ≤ length out → Wrote out 0 (listing_of z b) out' r → written 0 r out' ≡ writing z b out
    unfolding writing
    whole_written {out'} {r} h w =
        let h' : length (listing_of z b) ≤ length out = rw (measured_length measured far) at h in
        let x : Exactly out (listing_of z b) out' r = wrote_exactly w h' far in
        rw (sound_is, le-ltb _ _ h', ← x.held, ← x.count)
