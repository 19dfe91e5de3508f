-- What a call from C leaves behind. One form for all of them, over the step of the rules: the number that comes back, and every byte of
-- the image, of the memory and of the out fields.
use Rattle.std.specs.Prelude.{ℕ, not, cond, List, [], ◌∷◌, length, eqb}
use Rattle.lend.specs.declared.Count.{Count}
use Rattle.lend.specs.Sizes.{Sizes}
use Rattle.lend.specs.Tables.{Tables, State}
use Rattle.lend.specs.Summary.{count_at}
use Rattle.lend.specs.Numbers.{◌when◌, first_number, no_page}
use Rattle.lend.specs.SoundTest.{sound_test}
use Rattle.lend.specs.Start.{start_board}
use Rattle.lend.specs.Calls.{Call, Create, Delete, Unmap, Flush, Map, Grant, Translate, Load, Store, Reply, Outcome, step}
use Rattle.lend.specs.Ranges.{RangeCall, RangeOutcome, range_step}
use Rattle.image.specs.Image.{image_of, image_bytes, board_from, written}

-- the board of the image, and the memory beside it
abbrev pub given : Sizes → List ℕ → List ℕ → State
given z image memory = record { board = board_from z image; memory = memory }

-- the four out fields: no call but `frame` fills more than three
abbrev pub three_of : ℕ → ℕ → ℕ → List ℕ
three_of x y w = x ∷ y ∷ w ∷ 0 ∷ []

-- the out fields; a refusal's reply has every field 0, and so have they
abbrev pub out_of : Call → Reply → List ℕ
out_of (Create space) r = three_of r.emptied 0 0
out_of (Delete space) r = three_of r.emptied 0 0
out_of (Unmap space page rights) r = three_of r.emptied 0 0
out_of (Flush space page rights) r = three_of r.emptied 0 0
out_of (Map from page to at rights) r = three_of r.emptied 0 0
out_of (Grant from page to at rights) r = three_of r.emptied 0 0
out_of (Translate space address rights) r = three_of r.address (cond r.hit 1 0) r.links
out_of (Load space address) r = three_of r.byte 0 0
out_of (Store space address byte) r = three_of 0 0 0

-- all that a call leaves: the number, and what stands in the image, the memory and the out fields after it
pub record Left : Type 0 where
  pub number : ℕ
  pub image : List ℕ
  pub memory : List ℕ
  pub out : List ℕ

abbrev pub left : ℕ → List ℕ → List ℕ → List ℕ → Left
left n image memory out = record { number = n; image = image; memory = memory; out = out }

-- by the outcome of the rules; only a call that is done writes the image
abbrev pub left_by : Call → List ℕ → Outcome → Left
left_by call image o =
    left o.reply.number (cond (eqb o.reply.number 0) (image_of o.state.board) image) o.state.memory (out_of call o.reply)

unfoldable pub answer_to : Sizes → Call → List ℕ → List ℕ → Left
answer_to z call image memory = left_by call image (step z (given z image memory) call)

-- start writes the start board over any bytes of the right length
unfoldable pub start_answer : Sizes → List ℕ → Left
start_answer z image = left (cond (eqb (length image) (image_bytes z)) 0 1) (written z image (start_board z)) [] (three_of 0 0 0)

-- what the last part of a call leaves, for the board, the number and the three out fields that it is given
unfoldable pub finishing : Sizes → Tables → ℕ → ℕ → ℕ → ℕ → List ℕ → Left
finishing z t n first second third image = left n (cond (eqb n 0) (written z image t) image) [] (three_of first second third)

-- 1 where the image is a sound board's, else 0
abbrev pub sound_number : Sizes → List ℕ → ℕ
sound_number z image = cond (sound_test z (board_from z image)) 1 0

-- ── calls over ranges ────────────────────────────────────────────────────
-- the out fields: pages done, the offset of the first refused page, pages emptied; a number other than 1 may be a page's, and what was done to the others stands; on 1 the bytes may be no image
abbrev pub range_left_by : List ℕ → RangeOutcome → Left
range_left_by image o =
    left o.number (cond (eqb o.number 1) image (image_of o.state.board)) [] (three_of o.done o.offset o.emptied)

unfoldable pub range_answer_to : Sizes → RangeCall → List ℕ → Left
range_answer_to z call image = range_left_by image (range_step z (given z image []) call)

-- what the last part of such a call leaves
unfoldable pub range_finishing : Sizes → Tables → ℕ → ℕ → ℕ → ℕ → List ℕ → Left
range_finishing z t n first second third image = left n (cond (eqb n 1) image (written z image t)) [] (three_of first second third)

-- ── the counts of a frame ────────────────────────────────────────────────
-- a frame number past the last frame is 5, as a page number is
abbrev pub frame_number : Sizes → Tables → ℕ → ℕ
frame_number z b frame = first_number ((1 when not (sound_test z b)) ∷ (5 when no_page z frame) ∷ [])

abbrev pub four_of : Count → List ℕ
four_of c = c.held ∷ c.read ∷ c.write ∷ c.execute ∷ []

-- for the board of the image; the image stays
abbrev pub frame_left : Sizes → Tables → ℕ → List ℕ → Left
frame_left z b frame image =
    let n : ℕ = frame_number z b frame in
    left n image [] (cond (eqb n 0) (four_of (count_at b.summary frame)) (three_of 0 0 0))

unfoldable pub frame_answer : Sizes → ℕ → List ℕ → Left
frame_answer z frame image = frame_left z (board_from z image) frame image
