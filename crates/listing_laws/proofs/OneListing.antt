-- Boards and listings stand one to one, the cache aside: what follows from the two round trips.
use Prim.Native.Nat.{ℕ}
use mathlib.Core.Path.{◌≡◌, refl, sym, ap, ◌∙◌}
use mathlib.Core.Bool.{Bool, true, false, ◌&&◌}
use mathlib.Core.Logic.{◌⊎◌, inl, inr}
use mathlib.Core.List.{List}
use Rattle.std.specs.Prelude.{Option, Some, None}
use lib.ListN.{length}
use lib.Dec.{eqb}
use Rattle.lend.specs.Sizes.{Sizes}
use Rattle.lend.specs.Tables.{Tables}
use Rattle.lend.specs.Sound.{Sound}
use Rattle.lend.specs.SoundTest.{sound_test}
use Rattle.lend.specs.Start.{start_board}
use Rattle.lend_sound.proofs.Start.{start_sound}
use Rattle.listing.specs.Listing.{listing_of}
use Rattle.listing.specs.Content.{Content, rising_above, board_of, cleared}
use Rattle.listing.specs.Read.{Answer, refused, accepted, said, refusal, by_number, judged, answer_by, reading}
use Rattle.listing.proofs.Said.{Readable}
use Rattle.listing_laws.proofs.RoundTrip.{written_then_read, read_then_written, read_sound}

-- ── every answer ─────────────────────────────────────────────────────────
-- a board is accepted, or the start board comes back with a number
abbrev Either : Sizes → Answer → Type 0
Either z a = (a ≡ accepted a.board) ⊎ (a ≡ refused z a.number)

by_number_law : (z : Sizes) (b : Tables) (n : ℕ) → Either z (by_number z b n)
by_number_law z b n = go (eqb n 0) refl
  where
    go : (t : Bool) → eqb n 0 ≡ t → Either z (by_number z b n)
    go true e = inl (rw e)
    go false e = inr (rw e)

either : (z : Sizes) (s : List ℕ) → Either z (reading z s)
unfolding reading judged
either z s = go (said z s)
  where
    go : (x : Option Content) → Either z (answer_by z x)
    go None = inr refl
    go (Some c) =
        by_number_law z (board_of z c) (refusal true (rising_above z 0 c.rows && eqb (length c.rows) c.held) (sound_test z (board_of z c)))

-- with every refusal it is the start board
pub refused_start : (z : Sizes) (s : List ℕ) → ((reading z s).number ≡ 0 → ⊥) → (reading z s).board ≡ start_board z
refused_start z s h = go (either z s)
  where
    go : Either z (reading z s) → (reading z s).board ≡ start_board z
    go (inl e) = absurd (h (ap (λ (a : Answer). a.number) e))
    go (inr e) = ap (λ (a : Answer). a.board) e

-- whatever the bytes, the board that comes back is sound
pub always_sound : (z : Sizes) → Readable z → (s : List ℕ) → Sound z (reading z s).board
always_sound z small s = go (either z s)
  where
    go : Either z (reading z s) → Sound z (reading z s).board
    go (inl e) = read_sound z s (reading z s).board e
    go (inr e) = rw (ap (λ (a : Answer). a.board) e) (start_sound z small.two_spaces small.some_place)

-- ── one to one ───────────────────────────────────────────────────────────
module _ (z : Sizes) (small : Readable z) where
  -- two sound boards with the same listing have the same pages, the same live spaces and the same summary
  pub same_listing : (b c : Tables) → Sound z b → Sound z c → listing_of z b ≡ listing_of z c → (b.slots ≡ c.slots) × (b.live ≡ c.live) × (b.summary ≡ c.summary)
  same_listing b c v w e =
      let q : accepted (cleared z b) ≡ accepted (cleared z c) =
      sym (written_then_read z small b v) ∙ ap (reading z) e ∙ written_then_read z small c w in
      (ap (λ (a : Answer). a.board.slots) q, ap (λ (a : Answer). a.board.live) q, ap (λ (a : Answer). a.board.summary) q)

  -- a text that is read as a board's pages is the text that the board writes
  pub one_listing : (b : Tables) (s : List ℕ) → reading z s ≡ accepted (cleared z b) → s ≡ listing_of z b
  unfolding listing_of
  one_listing b s e = sym (read_then_written z small s (cleared z b) e)
