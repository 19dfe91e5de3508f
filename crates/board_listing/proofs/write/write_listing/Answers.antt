-- `write_listing` meets its contract: an unsound board, a short buffer, and one that is long enough.
use Prim.Native.Nat.{◌≤◌}
use native.Mathlib.Omega.{arith}
use lib.ListN.{length}
use Rattle.lend.specs.Sizes.{Sizes}
use Rattle.lend.specs.Tables.{Tables}
use Rattle.text.specs.Write.{last_position}
use Rattle.listing.specs.Listing.{listing_of}
use Rattle.listing.proofs.Length.{listing_length}
use Rattle.listing.proofs.Filled.{unsound_written, short_written, whole_written}
use Rattle.listing.proofs.Said.{Readable}
use Rattle.board_listing.proofs.Readable.{readable}
use Rattle.board_listing.proofs.write.write_listing.Goals as goal

far : {z : Sizes} → Readable z → (b : Tables) → length (listing_of z b) ≤ last_position
far {z} small b = omega (arith, listing_length z b, small.slots_small)

pub returns-then-not-sound : goal.returns-then-not-sound
returns-then-not-sound g c = unsound_written _ _ c.sound.ensures c.if-not-sound.true

pub returns-then-out-length : goal.returns-then-out-length
returns-then-out-length g c =
    let small = readable c.args.b.now.shape.is_model in
    short_written _ _ c.sound.ensures c.if-not-sound.false c.list_into-length.ensures (far small _) _ c.if-out-length.true

pub returns : goal.returns
returns g c =
    let small = readable c.args.b.now.shape.is_model in
    whole_written _ _ c.sound.ensures c.if-not-sound.false c.list_into-length.ensures (far small _) _ c.if-out-length.false
    c.list_into.ensures
