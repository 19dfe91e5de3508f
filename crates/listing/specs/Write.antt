-- What the writer of a listing makes of the buffer that is lent to it (02, M-102): for every board and every buffer.
use Rattle.std.specs.Prelude.{ℕ, cond, List, ◌++◌, length, drop, ltb}
use Rattle.lend.specs.Sizes.{Sizes}
use Rattle.lend.specs.Tables.{Tables}
use Rattle.lend.specs.SoundTest.{sound_test}
use Rattle.listing.specs.Listing.{listing_of}

-- the number, the length written, and the buffer
pub record Written : Type 0 where
  pub number : ℕ
  pub count : ℕ
  pub held : List ℕ

-- these three
abbrev pub written : ℕ → ℕ → List ℕ → Written
written number count held = record { number = number; count = count; held = held }

-- 1, then 20, the buffer untouched; else the listing, and what the buffer held past it
unfoldable pub writing : Sizes → Tables → List ℕ → Written
writing z b out =
    cond (sound_test z b)
    (cond (ltb (length out) (length (listing_of z b))) (written 20 0 out)
    (written 0 (length (listing_of z b)) (listing_of z b ++ drop (length (listing_of z b)) out)))
    (written 1 0 out)
